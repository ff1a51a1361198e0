-- The text of a script under a schedule, or the first reason why there is none: a rom out of its form, a device that does
-- not tell its input, a schedule that is none of the script.
use Rattle.std.specs.Prelude.{◌≡◌, ℕ, false, true, Some, None, List}
use Rattle.vfs_base.specs.declared.deck.Deck.{Deck}
use Rattle.vfs_base.specs.declared.describe.Describe.{Describe}
use Rattle.vfs_base.specs.declared.entry.Entry.{Entry}
use Rattle.vfs_model.specs.ScriptRun.{first_bad_rom, has_untold, no_schedule_at}
use Rattle.vfs_model.specs.Transcript.{transcript}
use Rattle.vfs_model.specs.declared.script_form.ScriptForm.TheVariants as form
use Rattle.plain_steps.specs.declared.plain_fault.PlainFault.{PlainFault}
use Rattle.plain_steps.specs.declared.plain_fault.PlainFault.TheVariants as fault

-- each rom is in its form, each device tells its input, the schedule is a whole one of the script, and this is its transcript
pub record IsPlainText (deck : Deck) (describe : Describe) (schedule : List Entry) (text : List ℕ) : Type 0 where
  pub roms : first_bad_rom deck ≡ None
  pub told : has_untold describe ≡ false
  pub whole : no_schedule_at deck describe schedule ≡ None
  pub shown : transcript form.Replay deck describe schedule ≡ Some text

-- why there is no text: the first reason of three, or want of memory
abbrev pub LacksText : Deck → Describe → List Entry → PlainFault → Type 0
LacksText deck describe schedule (fault.BadRom index) = first_bad_rom deck ≡ Some index
LacksText deck describe schedule fault.Untold = (first_bad_rom deck ≡ None) × (has_untold describe ≡ true)
LacksText deck describe schedule (fault.NoSchedule at) =
    (first_bad_rom deck ≡ None) × (has_untold describe ≡ false) × (no_schedule_at deck describe schedule ≡ Some at)
LacksText deck describe schedule fault.NoMemory = Unit {0}
