use Rattle.msh_session.proofs.Runs.{abandoned-leaves}
use Rattle.msh_session.proofs.laws.abandoned_session_leaves.Goals as goal

pub returns : goal.returns
returns c = abandoned-leaves
