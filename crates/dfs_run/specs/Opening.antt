-- The world that a run begins with.
use Rattle.std.specs.Prelude.{◌≡◌, false}
use Rattle.vfs_base.specs.declared.describe.Describe.{Describe}
use Rattle.vfs_model.specs.FaultCounts.{no_devices}
use Rattle.vfs_base.specs.declared.deck.Deck.{Deck}
use Rattle.vfs_model.specs.ScriptRun.{has_untold}
use Rattle.plain_steps.specs.Opening.{HasFewCellsEach}
use Rattle.script_stage.specs.Scenes.{Script}

-- every character device tells its input, and each volume has few cells
pub record IsTold (describe : Describe) : Type 0 where
  pub told : has_untold describe ≡ false
  pub few : HasFewCellsEach describe

-- the script on devices none of which has counted a fault: they are none
abbrev pub plainly : Deck → Describe → Script
plainly deck describe = record { deck = deck; describe = describe; counted = no_devices }
