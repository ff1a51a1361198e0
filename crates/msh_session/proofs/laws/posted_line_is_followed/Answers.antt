use Rattle.msh_session.proofs.Runs.{line-follows}
use Rattle.msh_session.proofs.laws.posted_line_is_followed.Goals as goal

pub returns : goal.returns
returns c = line-follows
