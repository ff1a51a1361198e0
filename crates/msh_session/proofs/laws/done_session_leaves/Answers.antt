use Rattle.msh_session.proofs.Runs.{done-leaves}
use Rattle.msh_session.proofs.laws.done_session_leaves.Goals as goal

pub returns : goal.returns
returns c = done-leaves
