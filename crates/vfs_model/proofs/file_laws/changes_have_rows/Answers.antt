use Rattle.vfs_model.proofs.ChangedRows.{changes-have-rows}
use Rattle.vfs_model.proofs.file_laws.changes_have_rows.Goals as goal

pub returns : goal.returns
returns c n k asked m live = changes-have-rows n k asked m live
