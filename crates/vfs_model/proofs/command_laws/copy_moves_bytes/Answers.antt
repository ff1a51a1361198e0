use Rattle.vfs_model.proofs.CopiedFiles.{copy-moves}
use Rattle.vfs_model.proofs.command_laws.copy_moves_bytes.Goals as goal

pub returns : goal.returns
returns c e state apart plain cuts fits small = copy-moves e state apart plain cuts fits small
