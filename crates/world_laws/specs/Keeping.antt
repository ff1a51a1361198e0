-- What a step keeps.
use Rattle.std.specs.Prelude.{◌≡◌, ℕ, ◌<◌, true, List, [], ◌∷◌}
use Rattle.vfs_base.specs.declared.deck.Deck.{Deck}
use Rattle.vfs_base.specs.declared.describe.Describe.{Describe}
use Rattle.vfs_base.specs.declared.entry.Mark.{Mark}
use Rattle.vfs_base.specs.declared.entry.Who.{Who}
use Rattle.vfs_base.specs.declared.entry.Who.TheVariants as who
use Rattle.vfs_base.specs.declared.step.Step.{Step}
use Rattle.vfs_model.specs.Asking.{Asked, MayAsk, run_steps}
use Rattle.vfs_model.specs.Boxes.{IsConsistent}
use Rattle.vfs_model.specs.FileMoves.{file_step, fits_file}
use Rattle.vfs_model.specs.Homes.{file_at}
use Rattle.vfs_model.specs.ScriptRun.{opening_state}
use Rattle.vfs_model.specs.StepForms.{MayTake}
use Rattle.vfs_model.specs.World.{FitsStep, file_part, world_step}
use Rattle.vfs_model.specs.declared.world.WorldState.{WorldState}

-- a step of the file of a row keeps the world consistent
abbrev pub FileStepsKeepConsistency : Type 0
FileStepsKeepConsistency = (w : WorldState) (row : ℕ) (asked : Step) (m : Mark) → IsConsistent w →
    fits_file (file_at w row) asked m ≡ true → IsConsistent (file_part w row (file_step (file_at w row) asked m)).next

-- the world at the start of every script is consistent, whatever devices there are
abbrev pub OpeningIsConsistent : Type 0
OpeningIsConsistent = (deck : Deck) (describe : Describe) → IsConsistent (opening_state deck describe).world

-- sessions are numbered from 1
abbrev pub HasNumber : Who → Type 0
HasNumber (who.Session k) = 0 < k
HasNumber (who.Flush row) = Unit {0}
HasNumber (who.Reclaim row) = Unit {0}
HasNumber who.End = Unit {0}

-- whoever may ask a step may take it
abbrev pub AskedMayBeTaken : Type 0
AskedMayBeTaken = (w : WorldState) (asker : Who) (asked : Step) → MayAsk w asker asked → MayTake asker asked

-- a step that its asker may take, with a mark that fits, keeps the world consistent, whatever is in use
abbrev pub StepsKeepConsistency : Type 0
StepsKeepConsistency = (w : WorldState) (asker : Who) (asked : Step) (m : Mark) → IsConsistent w → HasNumber asker → MayTake asker asked →
    FitsStep w asker asked m → IsConsistent (world_step w asker asked m).next

-- each step of the list may be taken, with its mark, in the world that the steps before it leave
abbrev pub MayRun : WorldState → List Asked → Type 0
MayRun w [] = Unit {0}
MayRun w (asked ∷ later) =
    HasNumber asked.who × MayTake asked.who asked.step × FitsStep w asked.who asked.step asked.mark
    × MayRun (world_step w asked.who asked.step asked.mark).next later

-- steps that may be taken one after the other keep the world consistent
abbrev pub RunsKeepConsistency : Type 0
RunsKeepConsistency = (run : List Asked) (w : WorldState) → IsConsistent w → MayRun w run → IsConsistent (run_steps w run).next
