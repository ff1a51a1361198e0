use Rattle.vfs_model.proofs.BadLines.{bad-line-stays}
use Rattle.vfs_model.proofs.laws.bad_line_needs_no_later_byte.Goals as goal

pub returns : goal.returns
returns c read number h = bad-line-stays read number h
