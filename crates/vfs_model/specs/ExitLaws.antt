-- What a session gives back when it leaves.
use Rattle.std.specs.Prelude.{◌≡◌, ◌≢◌, ◌⊎◌, ℕ, ◌+◌, ◌-◌, ◌*◌, ◌<◌, ◌≤◌, Bool, true, false, Option, Some, None, List, [], ◌∷◌, slice_index_or}
use Rattle.vfs_base.specs.declared.limits.TheConstants.{HOLDS}
use Rattle.vfs_base.specs.declared.step.Step.{Step}
use Rattle.vfs_base.specs.declared.step.Step.TheVariants as step
use Rattle.vfs_model.specs.DescriptorLaws.{IsSound}
use Rattle.vfs_model.specs.Namespace.{folder_of}
use Rattle.vfs_model.specs.OpenFiles.{file_numbered}
use Rattle.vfs_model.specs.Session.{SessionRun, exit_steps}
use Rattle.vfs_model.specs.declared.namespace.Namespace.{Namespace}
use Rattle.vfs_model.specs.declared.namespace.Reference.{Reference}
use Rattle.vfs_model.specs.declared.shell_state.OpenFile.{OpenFile}
use Rattle.vfs_model.specs.declared.shell_state.Window.{Window}

-- the item is one of the list
abbrev pub IsOneOf : {X : Type 0} → X → List X → Type 0
IsOneOf x [] = ⊥
IsOneOf x (y ∷ ys) = (x ≡ y) ⊎ IsOneOf x ys

-- A session that leaves gives up what a command of its has alone, each of its open files and mappings, and goes back to `/`.
pub record GivesUpAll (run : SessionRun) : Type 0 where
  pub own : (given : Step) → IsOneOf given run.own → IsOneOf given (exit_steps run)
  pub files : (number : ℕ) (file : OpenFile) → file_numbered run.state.open_files number ≡ Some file →
      IsOneOf (step.Close file.hold) (exit_steps run)
  pub mappings : (place : ℕ) (window : Window) → slice_index_or run.state.mappings place None ≡ Some window →
      IsOneOf (step.Unmap window.hold) (exit_steps run)
  pub home : run.state.shown ≢ [] → IsOneOf step.Home (exit_steps run)

abbrev pub ExitGivesUpAll : Type 0
ExitGivesUpAll = (run : SessionRun) → IsSound run.state.open_files → GivesUpAll run

-- what stands at a number of a session's references, from 1 to 32
abbrev pub reference_of : Namespace → ℕ → ℕ → Option Reference
reference_of n k number = slice_index_or n.references (HOLDS * (k - 1) + (number - 1)) None

-- the step gives a reference up, or goes back to `/`
abbrev pub gives_up : Step → Bool
gives_up (step.Close hold) = true
gives_up (step.Unmap hold) = true
gives_up step.Home = true
gives_up _ = false

-- the session has no reference, and stands in `/`
pub record HasLeft (n : Namespace) (k : ℕ) : Type 0 where
  pub references : (number : ℕ) → 0 < number → number ≤ HOLDS → reference_of n k number ≡ None
  pub folder : folder_of n k ≡ []
