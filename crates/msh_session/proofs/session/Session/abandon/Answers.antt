use Rattle.msh_session.proofs.Calls.{abandoned}
use Rattle.msh_session.proofs.session.Session.abandon.Goals as goal

pub returns-clause-pending : goal.returns-clause-pending
returns-clause-pending c = abandoned c.args.self.now c.give_up.new.self c.give_up.ensures
