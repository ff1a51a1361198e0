-- Memory is wanting at no step by which a session leaves: such a step needs none.
use Rattle.std.proofs.Common.{List}
use Rattle.vfs_base.specs.Path.{AllAre}
use Rattle.vfs_base.specs.declared.deck.Deck.{Deck}
use Rattle.vfs_base.specs.declared.describe.Describe.{Describe}
use Rattle.vfs_base.specs.declared.entry.Entry.{Entry}
use Rattle.vfs_model.specs.FaultCounts.{ByDevice}
use Rattle.vfs_model.specs.Leaving.{IsBeforeLeaving, LeavesUnstarved}
use Rattle.world_laws.proofs.steps.SureLeaving.{schedule_leaves_surely}
use Rattle.world_laws.specs.Scripts.{IsThere}
use Rattle.script_stage.specs.Scenes.{Script}
use Rattle.script_stage.specs.Standing.{IsTakenOn}

-- before the sessions leave there is no such step
pub before-unstarved : (deck : Deck) (describe : Describe) (schedule : List Entry) → IsBeforeLeaving deck describe schedule → LeavesUnstarved deck describe schedule
before-unstarved deck describe schedule before front later entry = λ s asked parts taken wants leaving.
    let stays = before front later entry s asked parts taken wants in absurd (cc)

pub unstarved : (script : Script) (schedule : List Entry) (now : ByDevice) → AllAre (λ entry. IsThere entry.who) schedule → IsTakenOn script schedule now →
    LeavesUnstarved script.deck script.describe schedule
unstarved script schedule now there taken_on = schedule_leaves_surely script.deck script.describe schedule there taken_on.sure
