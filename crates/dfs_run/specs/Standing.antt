-- Where a shell's stage stands between two lines.
use Rattle.std.specs.Prelude.{◌≡◌, ℕ, Bool, true, false, None, List, ◌++◌}
use Rattle.vfs_base.specs.declared.entry.Entry.{Entry}
use Rattle.vfs_model.specs.Deck.{shell_deck}
use Rattle.vfs_model.specs.Turns.{script_tasks}
use Rattle.script_stage.specs.Scenes.{Scene, Script}
use Rattle.script_stage.specs.Standing.{IsFresh, StandsAt, StopsAt}

-- these lines in place of the script's own, on the same devices
abbrev pub with_lines : Script → List (List ℕ) → Script
with_lines base lines = record base { deck = shell_deck lines }

-- These lines were posted and run, and their blocks were handed out, whatever lines are posted behind them.
pub record StandsBehind (scene : Scene) (base : Script) (lines : List (List ℕ)) (handed : List ℕ) : Type 0 where
  pub stands : (later : List (List ℕ)) → StandsAt scene (with_lines base (lines ++ later)) (script_tasks (shell_deck later)) handed
  pub fresh : IsFresh scene

-- These lines were posted, and blocks of theirs were handed out before memory was wanting.
pub record StopsBehind (scene : Scene) (base : Script) (lines : List (List ℕ)) (handed : List ℕ) : Type 0 where
  pub stops : StopsAt scene (with_lines base lines) handed
  pub stays : scene.leaves_at ≡ None

-- the lines were run to their end, or want of memory stopped them
abbrev pub ComesBehind : Bool → Scene → Script → List (List ℕ) → List ℕ → Type 0
ComesBehind true scene base lines handed = StandsBehind scene base lines handed
ComesBehind false scene base lines handed = StopsBehind scene base lines handed

-- these steps go on behind those of the scene
abbrev pub Continues : Scene → List Entry → Type 0
Continues scene steps = (more : List Entry) × (steps ≡ scene.schedule ++ more)
