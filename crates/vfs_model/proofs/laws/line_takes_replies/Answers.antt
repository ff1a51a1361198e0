use Rattle.vfs_model.proofs.LineTalks.{line-takes}
use Rattle.vfs_model.proofs.laws.line_takes_replies.Goals as goal

pub returns : goal.returns
returns c text state replies = line-takes text state replies
