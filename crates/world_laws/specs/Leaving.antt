-- What sessions leave by needs no memory.
use Rattle.std.specs.Prelude.{◌≡◌, true, Some, List}
use Rattle.vfs_base.specs.Path.{AllAre}
use Rattle.vfs_base.specs.declared.deck.Deck.{Deck}
use Rattle.vfs_base.specs.declared.describe.Describe.{Describe}
use Rattle.vfs_base.specs.declared.entry.Entry.{Entry}
use Rattle.vfs_base.specs.declared.entry.Who.{Who}
use Rattle.vfs_base.specs.declared.step.Step.{Step}
use Rattle.vfs_model.specs.Leaving.{LeavesUnstarved, StarvesOnlyInNeed, is_leaving}
use Rattle.vfs_model.specs.ScriptRun.{RunState, entry_step, state_after}
use Rattle.vfs_model.specs.Tally.{needs_no_memory}
use Rattle.vfs_model.specs.World.{session_of}
use Rattle.world_laws.specs.Scripts.{IsThere}

-- By what a session leaves it gives back what it has, whatever its steps were answered before: no such step needs memory,
-- and neither does the end.
abbrev pub LeavingNeedsNoMemory : Type 0
LeavingNeedsNoMemory = (deck : Deck) (describe : Describe) (schedule : List Entry) (s : RunState) (asker : Who) (asked : Step) →
    AllAre (λ entry. IsThere entry.who) schedule → IsThere asker → state_after deck describe schedule ≡ Some s → is_leaving deck s asker ≡ true →
    entry_step deck s asker ≡ Some asked → needs_no_memory s.world.namespace (session_of asker) asked ≡ true

-- where want of memory stopped no step that needs none, it stopped no step by which a session leaves, nor the end
abbrev pub ScheduleLeavesSurely : Type 0
ScheduleLeavesSurely = (deck : Deck) (describe : Describe) (schedule : List Entry) → AllAre (λ entry. IsThere entry.who) schedule →
    StarvesOnlyInNeed deck describe schedule → LeavesUnstarved deck describe schedule
