use Rattle.vfs_model.proofs.ShownFiles.{cat-shows}
use Rattle.vfs_model.proofs.command_laws.cat_shows_bytes.Goals as goal

pub returns : goal.returns
returns c e state plain small = cat-shows e state plain small
