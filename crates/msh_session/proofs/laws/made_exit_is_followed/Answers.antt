use Rattle.msh_session.proofs.Runs.{exit-follows}
use Rattle.msh_session.proofs.laws.made_exit_is_followed.Goals as goal

pub returns : goal.returns
returns c = exit-follows
