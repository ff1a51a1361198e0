use Rattle.std.proofs.Common.{refl, rules}
use Rattle.msh_session.proofs.Runs.{new-follows}
use Rattle.vfs_plain.proofs.Playing.{new-pauses}
use Rattle.vfs_plain.proofs.script_session.ScriptSession.new.Goals as goal

pub returns-clause-pauses : goal.returns-clause-pauses
returns-clause-pauses c = λ acts.
    new-pauses _ acts (new-follows c.in_ok-session.session c.in_ok-session.ensures.rest) c.in_ok-session.ensures.ready
    c.in_ok-session.ensures.exits refl (search rules)
