use Rattle.msh_session.proofs.Runs.{all-left}
use Rattle.msh_session.proofs.laws.all_exits_are_left.Goals as goal

pub returns : goal.returns
returns c = all-left
