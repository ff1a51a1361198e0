use Rattle.std.proofs.Common.{ap}
use Rattle.vfs_model.specs.Session.{lines_run, session_run}
use Rattle.msh_session.proofs.session.Session.new.Goals as goal

pub returns-clause-rest : goal.returns-clause-rest
unfolding session_run
returns-clause-rest c lines replies = ap (λ state. lines_run lines state replies) c.in_ok-new.ensures
