use Rattle.vfs_model.proofs.ExitLemmas.{gives-up-all}
use Rattle.vfs_model.proofs.command_laws.exit_gives_up_all.Goals as goal

pub returns : goal.returns
returns c run sound = gives-up-all run sound
