use Rattle.vfs_model.proofs.FlatReplies.{tells-or-changes}
use Rattle.vfs_model.proofs.file_laws.lists_change_nothing.Goals as goal

pub returns : goal.returns
returns c n k asked m = tells-or-changes n k asked m
