use Rattle.vfs_model.proofs.ShellTables.{lines-end}
use Rattle.vfs_model.proofs.laws.whole_lines_end.Goals as goal

pub returns : goal.returns
returns c text = lines-end text
