use Rattle.vfs_model.proofs.RowChanges.{acts-by-row}
use Rattle.vfs_model.proofs.file_laws.changes_act_by_row.Goals as goal

pub returns : goal.returns
returns c w changes row k h l = acts-by-row w changes row k h l
