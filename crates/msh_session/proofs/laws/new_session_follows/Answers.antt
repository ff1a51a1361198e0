use Rattle.msh_session.proofs.Runs.{new-follows}
use Rattle.msh_session.proofs.laws.new_session_follows.Goals as goal

pub returns : goal.returns
returns c = new-follows
