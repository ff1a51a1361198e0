use Rattle.msh_desk.specs.State.{state_of}
use Rattle.msh_session.proofs.Calls.{post-lost, post-rest}
use Rattle.msh_session.proofs.session.Session.post.Goals as goal

pub returns-in_ok-command-in-Ok-clause-rest : goal.returns-in_ok-command-in-Ok-clause-rest
returns-in_ok-command-in-Ok-clause-rest c =
    post-rest c.args.self.now c.settle.new.self c.args.line.now c.in_ok-head.head c.in-Ok.words c.in_ok-command-in-Ok.command
    (state_of c.start.new.desk) c.settle.result c.requires c.in_ok-head.ensures c.in-Ok.ensures.ok c.in_ok-command-in-Ok.ensures.ok
    c.settle.ensures.rest

pub returns-in_ok-command-in-Ok-clause-lost : goal.returns-in_ok-command-in-Ok-clause-lost
returns-in_ok-command-in-Ok-clause-lost c =
    post-lost c.args.self.now c.settle.new.self c.args.line.now c.in-Ok.words c.in_ok-command-in-Ok.command c.start.new.desk
    c.settle.result c.in-Ok.ensures.ok c.in_ok-command-in-Ok.ensures.ok c.settle.ensures.desk c.settle.ensures.lost
