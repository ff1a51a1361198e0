use Rattle.msh_session.proofs.Runs.{exit-next}
use Rattle.msh_session.proofs.laws.exit_step_is_next.Goals as goal

pub returns : goal.returns
returns c = exit-next
