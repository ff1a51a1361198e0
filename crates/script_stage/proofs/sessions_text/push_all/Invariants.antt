use Rattle.std.proofs.Common.{◌≡◌, ◌+◌, ◌++◌, drop}
use Rattle.script_stage.proofs.sessions_text.push_all.Given as goal
use Rattle.script_stage.specs.Texts.{titled_texts}

abbrev pub invariant-loop-place : goal.invariant-loop-place
invariant-loop-place l = l.out ++ titled_texts (l.place + 1) l.acts (drop l.place l.sessions) ≡ l.initial.out ++ titled_texts 1 l.acts l.sessions
