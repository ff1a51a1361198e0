use Rattle.vfs_model.proofs.FlatReplies.{file_step-flat}
use Rattle.vfs_model.proofs.file_laws.bytes_change_no_file.Goals as goal

pub returns : goal.returns
returns c f asked m h = file_step-flat f asked m h
