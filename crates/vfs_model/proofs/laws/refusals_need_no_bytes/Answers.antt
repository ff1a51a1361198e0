use Rattle.vfs_model.proofs.RowShapes.{file_refusals-shape}
use Rattle.vfs_model.proofs.laws.refusals_need_no_bytes.Goals as goal

pub returns : goal.returns
returns c f asked = file_refusals-shape f asked
