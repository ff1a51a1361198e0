use Rattle.std.proofs.Common.{Err, List, Ok, [], refl, subst}
use Rattle.std.specs.Prelude.{IfOk, Result}
use Rattle.vfs_base.specs.declared.deck.Act.{Act}
use Rattle.vfs_base.specs.declared.deck.RomText.{RomText}
use Rattle.vfs_model.specs.Turns.{script_tasks}
use Rattle.script_stage.specs.Scenes.{Script}
use Rattle.script_stage.specs.Standing.{IsFresh, Opens, StandsAt}
use Rattle.step_world.specs.WorldView.{view_of}
use Rattle.dfs_run.proofs.StandingLemmas.{stands_new}
use Rattle.dfs_run.proofs.opening.open_shell.Goals as goal
use Rattle.dfs_run.specs.Opening.{plainly}

both : {T E : Type 0} (r : Result T E) (P Q R : T → Type 0) → ((x : T) → P x → Q x → R x) → IfOk r P → IfOk r Q → IfOk r R
both (Ok x) P Q R f p q = f x p q
both (Err e) P Q R f p q = tt

pub returns : goal.returns
returns c =
    let view = view_of c.in_ok-world.world in
    let describe = c.args.describe.now in
    let base : Script = plainly (record { roms = []; acts = [] }) describe in
    let opens : Opens base view =
    subst (λ (roms : List RomText). Opens (plainly (record { roms = roms; acts = [] }) describe) view) c.new.ensures
    (subst (λ (acts : List Act). Opens (plainly (record { roms = c.new.result; acts = acts }) describe) view) c.new-2.ensures c.in_ok-world.ensures) in
    both c.new-3.result (λ stage. (script : Script) → Opens script view → StandsAt stage script (script_tasks script.deck) []) IsFresh _
    (λ stage new fresh. stands_new stage view base new fresh refl opens) c.new-3.ensures.stands c.new-3.ensures.fresh
