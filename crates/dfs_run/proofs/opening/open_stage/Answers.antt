use Rattle.std.proofs.Common.{[]}
use Rattle.std.proofs.lemmas.Result.{IfOk-weaker}
use Rattle.vfs_model.specs.Turns.{script_tasks}
use Rattle.script_stage.specs.Scenes.{Script}
use Rattle.script_stage.specs.Standing.{Opens, StandsAt}
use Rattle.step_world.specs.WorldView.{view_of}
use Rattle.dfs_run.proofs.opening.open_stage.Goals as goal
use Rattle.dfs_run.specs.Opening.{plainly}

pub returns : goal.returns
returns c =
    IfOk-weaker c.new.result (λ stage. (script : Script) → Opens script (view_of c.in_ok-world.world) → StandsAt stage script (script_tasks script.deck) []) _
    (λ stage new. new (plainly c.args.deck.now c.args.describe.now) c.in_ok-world.ensures) c.new.ensures.stands
