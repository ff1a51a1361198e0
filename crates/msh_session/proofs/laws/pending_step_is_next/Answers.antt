use Rattle.msh_session.proofs.Runs.{step-next}
use Rattle.msh_session.proofs.laws.pending_step_is_next.Goals as goal

pub returns : goal.returns
returns c = step-next
