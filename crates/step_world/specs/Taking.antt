-- A step that a world takes: its reply, its mark and what it leaves, by the definition of the step; and where its mark comes from.
use Rattle.std.specs.Prelude.{◌≡◌, ℕ, Bool, true, false, ◌&&◌, Option, Some, None}
use Rattle.vfs_base.specs.declared.entry.Mark.{Mark}
use Rattle.vfs_base.specs.declared.entry.Who.{Who}
use Rattle.vfs_base.specs.declared.reply.Reply.{Reply}
use Rattle.vfs_base.specs.declared.step.Step.{Step}
use Rattle.vfs_model.specs.FaultCounts.{NoneFalls, SomeHasRisen, step_devices}
use Rattle.vfs_model.specs.Leaving.{is_starved}
use Rattle.vfs_model.specs.NamespaceStep.{is_shutdown, namespace_step}
use Rattle.vfs_model.specs.StepForms.{TellsFolder}
use Rattle.vfs_model.specs.Tally.{is_fault, needs_no_memory}
use Rattle.vfs_model.specs.World.{FitsStep, session_of, step_row, world_step}
use Rattle.vfs_model.specs.WrittenBack.{SameBut}
use Rattle.vfs_model.specs.declared.namespace.Namespace.{Namespace}
use Rattle.vfs_model.specs.declared.world.WorldState.{WorldState}
use Rattle.step_world.specs.WorldView.{WhereTold, WorldView, told_world}

-- the end met a device's fault, so that not all that was to go home on cells is there
abbrev pub is_stopped_end : Step → Mark → Bool
is_stopped_end asked m = is_shutdown asked && is_fault m

abbrev pub IsLeft : Bool → WorldState → WorldState → Type 0
IsLeft true defined new = SameBut defined new
IsLeft false defined new = defined ≡ new

-- The step is taken with this reply under this mark, which fits it, and leaves the new world: that of its definition, but for what
-- lies at home on cells behind an end that a device stopped.
pub record TakesStep (old new : WorldState) (asker : Who) (asked : Step) (taken : Reply × Mark) : Type 0 where
  pub fits : FitsStep old asker asked taken.1
  pub reply : (world_step old asker asked taken.1).reply ≡ taken.0
  pub next : IsLeft (is_stopped_end asked taken.1) (world_step old asker asked taken.1).next new

-- the same of the names alone: a step of a file leaves them, and a step of the namespace needs nothing else
abbrev pub TakesNames : Option ℕ → Namespace → Namespace → ℕ → Step → Reply × Mark → Type 0
TakesNames None old new k asked taken =
    ((namespace_step old k asked taken.1).reply ≡ taken.0) × ((namespace_step old k asked taken.1).next ≡ new)
TakesNames (Some row) old new k asked taken = old ≡ new

-- A world took a step with this reply under this mark.
pub record Takes (old new : WorldView) (asker : Who) (asked : Step) (taken : Reply × Mark) : Type 0 where
  pub names : TakesNames (step_row asked) old.namespace new.namespace (session_of asker) asked taken
  pub world : WhereTold (told_world old) (told_world new) (λ w next. TakesStep w next asker asked taken)
  -- a device of the step failed in this very step
  pub cause : is_fault taken.1 ≡ true → SomeHasRisen (step_devices old.namespace asker asked) old.faults new.faults
  pub rising : NoneFalls old.faults new.faults
  -- memory is never wanting where none is needed
  pub sure : needs_no_memory old.namespace (session_of asker) asked ≡ true → is_starved taken.1 ≡ false
  pub folder : TellsFolder taken.0
