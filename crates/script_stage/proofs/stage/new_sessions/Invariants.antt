use Rattle.std.proofs.Common.{◌≡◌, length}
use Rattle.script_stage.proofs.Starting.{AreNew}
use Rattle.script_stage.proofs.stage.new_sessions.Given as goal

abbrev pub invariant-loop-place : goal.invariant-loop-place
invariant-loop-place l = (length l.sessions.items ≡ l._place) × AreNew l.sessions.items
