use Rattle.vfs_model.proofs.RowChanges.{touched-change}
use Rattle.vfs_model.proofs.file_laws.touched_rows_change.Goals as goal

pub returns : goal.returns
returns c n k asked row = touched-change n k asked row
