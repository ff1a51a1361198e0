-- The entries of a schedule by which sessions leave, and the want of memory among its marks.
use Rattle.std.specs.Prelude.{◌≡◌, Bool, true, false, not, List, ◌∷◌, ◌++◌, Some}
use Rattle.vfs_base.specs.declared.deck.Deck.{Deck}
use Rattle.vfs_base.specs.declared.describe.Describe.{Describe}
use Rattle.vfs_base.specs.declared.entry.Entry.{Entry}
use Rattle.vfs_base.specs.declared.entry.Mark.{Mark}
use Rattle.vfs_base.specs.declared.entry.Mark.TheVariants as mark
use Rattle.vfs_base.specs.declared.entry.Who.{Who}
use Rattle.vfs_base.specs.declared.entry.Who.TheVariants as who
use Rattle.vfs_base.specs.declared.step.Step.{Step}
use Rattle.vfs_model.specs.ScriptRun.{RunState, entry_step, run_of, state_after}
use Rattle.vfs_model.specs.Session.{is_pending}
use Rattle.vfs_model.specs.Tally.{needs_no_memory}
use Rattle.vfs_model.specs.World.{session_of}

-- memory was wanting
abbrev pub is_starved : Mark → Bool
is_starved mark.Clear = false
is_starved (mark.Fault moved) = false
is_starved (mark.NoMem moved) = true

-- a session leaves by its step where its lines are done and nothing of it is pending; the last of all is the end
abbrev pub is_leaving : Deck → RunState → Who → Bool
is_leaving deck s (who.Session k) = not (is_pending (run_of deck s k))
is_leaving deck s (who.Flush row) = false
is_leaving deck s (who.Reclaim row) = false
is_leaving deck s who.End = true

-- a fact of each entry of a schedule, with the step that it stands for and where the script stands before it
abbrev pub AtEachEntry : Deck → Describe → List Entry → (RunState → Step → Entry → Type 0) → Type 0
AtEachEntry deck describe schedule P =
    (front later : List Entry) (entry : Entry) (s : RunState) (asked : Step) → schedule ≡ front ++ entry ∷ later →
    state_after deck describe front ≡ Some s → entry_step deck s entry.who ≡ Some asked → P s asked entry

-- memory is wanting at no step that needs none
abbrev pub StarvesOnlyInNeed : Deck → Describe → List Entry → Type 0
StarvesOnlyInNeed deck describe schedule =
    AtEachEntry deck describe schedule (λ s asked entry.
    needs_no_memory s.world.namespace (session_of entry.who) asked ≡ true → is_starved entry.mark ≡ false)

-- no session leaves yet, and the end is not taken
abbrev pub IsBeforeLeaving : Deck → Describe → List Entry → Type 0
IsBeforeLeaving deck describe schedule = AtEachEntry deck describe schedule (λ s asked entry. is_leaving deck s entry.who ≡ false)

-- memory is wanting at no step by which a session leaves, nor at the end
abbrev pub LeavesUnstarved : Deck → Describe → List Entry → Type 0
LeavesUnstarved deck describe schedule =
    AtEachEntry deck describe schedule (λ s asked entry. is_leaving deck s entry.who ≡ true → is_starved entry.mark ≡ false)
