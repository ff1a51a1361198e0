use Rattle.vfs_model.proofs.ChangedRows.{step-acts}
use Rattle.vfs_model.proofs.file_laws.step_acts_by_row.Goals as goal

pub returns : goal.returns
returns c w asker asked m row e live l within = step-acts w asker asked m row e live l within
