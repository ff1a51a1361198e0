use Rattle.msh_session.proofs.Runs.{reply-follows}
use Rattle.msh_session.proofs.laws.taken_reply_is_followed.Goals as goal

pub returns : goal.returns
returns c = reply-follows
