use Rattle.std.proofs.Common.{[], ◌++◌, ◌≡◌, drop}
use Rattle.std.specs.List.{flat_map}
use Rattle.vfs_model.specs.Turns.{act_tasks, script_tasks}
use Rattle.script_stage.specs.Scenes.{Script}
use Rattle.script_stage.specs.Standing.{StandsAt, closing_tasks}
use Rattle.dfs_run.proofs.replay.play_all.Given as goal

abbrev pub invariant-loop-act : goal.invariant-loop-act
invariant-loop-act g l = (script : Script) → script.deck ≡ l.deck → StandsAt l.initial.stage script (script_tasks script.deck) [] →
    StandsAt l.stage script (flat_map act_tasks (drop l.act-index l.deck.acts) ++ closing_tasks) []
