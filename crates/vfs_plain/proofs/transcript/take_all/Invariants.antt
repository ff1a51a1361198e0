use Rattle.vfs_model.specs.ScriptRun.{RunState}
use Rattle.vfs_plain.specs.Stages.{Reaches, StandsAt}
use Rattle.vfs_plain.proofs.transcript.take_all.Given as goal

abbrev pub invariant-loop-place : goal.invariant-loop-place
invariant-loop-place l = (s : RunState) → StandsAt l.initial.stage l.deck.acts s → Reaches l.stage l.deck s l.schedule l.place
