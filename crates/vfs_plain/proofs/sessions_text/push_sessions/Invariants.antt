use Rattle.std.proofs.Common.{◌≡◌, ◌++◌, drop}
use Rattle.std.specs.List.{flat_map}
use Rattle.vfs_plain.specs.Stages.{titled_text}
use Rattle.vfs_plain.proofs.sessions_text.push_sessions.Given as goal

abbrev pub invariant-loop-session : goal.invariant-loop-session
invariant-loop-session l =
    l.out ++ flat_map (titled_text l.acts) (drop l.session-index l.sessions) ≡ l.initial.out ++ flat_map (titled_text l.acts) l.sessions
