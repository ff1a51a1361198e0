-- What a step of the namespace does to one row, and what takes no memory to tell.
use Rattle.std.specs.Prelude.{◌≡◌, ◌⊎◌, ℕ, ◌==◌, ◌<◌, ◌≤◌, Bool, true, false, is_some, Option, Some, None, List, [], ◌∷◌, length, fold, All, if◌then◌else◌}
use Rattle.std.specs.List.{list_any}
use Rattle.std.specs.Option.{option_or}
use Rattle.vfs_base.specs.Flat.{IsFlat}
use Rattle.vfs_base.specs.declared.entry.Mark.{Mark}
use Rattle.vfs_base.specs.declared.entry.Mark.TheVariants as mark
use Rattle.vfs_base.specs.declared.entry.Who.{Who}
use Rattle.vfs_base.specs.declared.step.Step.{Step}
use Rattle.vfs_base.specs.declared.step.Step.TheVariants as step
use Rattle.vfs_model.specs.Consistency.{ReferencesLive}
use Rattle.vfs_model.specs.FileMoves.{file_step}
use Rattle.vfs_model.specs.Homes.{bound_file, change_row, file_at}
use Rattle.vfs_model.specs.NamespaceOutcome.{NamespaceOutcome}
use Rattle.vfs_model.specs.NamespaceStep.{namespace_step, row_of_change, touched_rows}
use Rattle.vfs_model.specs.World.{session_of, step_row, world_step}
use Rattle.vfs_model.specs.declared.namespace.Namespace.{Namespace}
use Rattle.vfs_model.specs.declared.namespace.RowChange.{RowChange}
use Rattle.vfs_model.specs.declared.namespace.RowChange.TheVariants as change
use Rattle.vfs_model.specs.declared.world.FileState.{FileState}
use Rattle.vfs_model.specs.declared.world.FileState.TheVariants as file
use Rattle.vfs_model.specs.declared.world.WorldState.{WorldState}

-- the change, where it is one of this row
abbrev pub change_of : ℕ → RowChange → Option RowChange
change_of row changed = if row_of_change changed == row then Some changed else None

-- the last change of a row among the changes, or none where the row stays
abbrev pub last_change : ℕ → List RowChange → Option RowChange
last_change row [] = None
last_change row (changed ∷ changes) = option_or (last_change row changes) (change_of row changed)

-- what a step of a session does to a row: it becomes a file, it becomes free, or it stays
abbrev pub change_at : Namespace → ℕ → Step → Mark → ℕ → Option RowChange
change_at n k asked m row = last_change row (namespace_step n k asked m).changes

-- the step does something to the row, where neither a device nor memory fails
abbrev pub touches : Namespace → ℕ → Step → ℕ → Bool
touches n k asked row = is_some (change_at n k asked mark.Clear row)

-- the rows that a step touches are those that it does something to
abbrev pub TouchedRowsChange : Type 0
TouchedRowsChange = (n : Namespace) (k : ℕ) (asked : Step) (row : ℕ) →
    touches n k asked row ≡ list_any (λ touched. touched == row) (touched_rows n k asked)

-- what a row's file becomes by the row's change, in a world in which it takes what it begins with
abbrev pub changed_file : WorldState → Option RowChange → FileState → FileState
changed_file w None f = f
changed_file w (Some (change.Bind bound begins)) f = bound_file w bound.generation begins
changed_file w (Some (change.Free freed ending)) f = file.Unbound freed.generation

-- the world before the last change of a row, where it has one
abbrev pub before_change : ℕ → WorldState → List RowChange → WorldState
before_change row w [] = w
before_change row w (changed ∷ changes) =
    if is_some (last_change row changes) then before_change row (change_row w changed) changes else w

-- rows are counted from 1
abbrev pub HasRow : RowChange → Type 0
HasRow changed = 0 < row_of_change changed

-- the changes in their order make of each row's file what the row's last change makes of it
abbrev pub ChangesActByRow : Type 0
ChangesActByRow = (w : WorldState) (changes : List RowChange) (row : ℕ) → All HasRow changes → 0 < row → row ≤ length w.files →
    file_at (fold change_row w changes) row ≡ changed_file (before_change row w changes) (last_change row changes) (file_at w row)

-- each change that a step makes is one of a row, where each file that is linked or held is live
abbrev pub ChangesHaveRows : Type 0
ChangesHaveRows = (n : Namespace) (k : ℕ) (asked : Step) (m : Mark) → ReferencesLive n → All HasRow (namespace_step n k asked m).changes

-- the world in which a step changes a row
abbrev pub world_at_change : WorldState → NamespaceOutcome → ℕ → WorldState
world_at_change w outcome row = before_change row (record w { namespace = outcome.next }) outcome.changes

-- a step of the namespace makes of each row's file what it does to the row
abbrev pub StepActsByRow : Type 0
StepActsByRow = (w : WorldState) (asker : Who) (asked : Step) (m : Mark) (row : ℕ) → step_row asked ≡ None →
    ReferencesLive w.namespace → 0 < row → row ≤ length w.files →
    file_at (world_step w asker asked m).next row
    ≡ changed_file (world_at_change w (namespace_step w.namespace (session_of asker) asked m) row)
    (change_at w.namespace (session_of asker) asked m row) (file_at w row)

-- the step leaves the namespace as it was, and changes no row
pub record Untouched (n : Namespace) (outcome : NamespaceOutcome) : Type 0 where
  pub next : outcome.next ≡ n
  pub changes : outcome.changes ≡ []

abbrev pub is_chdir : Step → Bool
is_chdir (step.Chdir path) = true
is_chdir _ = false

-- A step of the namespace that answers with a list changes no row, and but for Chdir nothing at all.
pub record TellsOrChanges (n : Namespace) (asked : Step) (outcome : NamespaceOutcome) : Type 0 where
  pub rows : IsFlat outcome.reply ⊎ (outcome.changes ≡ [])
  pub all : is_chdir asked ≡ false → IsFlat outcome.reply ⊎ Untouched n outcome

abbrev pub ListsChangeNothing : Type 0
ListsChangeNothing = (n : Namespace) (k : ℕ) (asked : Step) (m : Mark) → TellsOrChanges n asked (namespace_step n k asked m)

-- a character device's input is taken by a read
abbrev pub takes_input : FileState → Step → Bool
takes_input (file.Device generation input output) (step.Read id off len) = true
takes_input (file.Device generation input output) _ = false
takes_input (file.Unbound generation) asked = false
takes_input (file.Bytes generation kind capacity bytes) asked = false

-- a step of a file that answers with bytes leaves the file as it was, but for the read of a character device
abbrev pub BytesChangeNoFile : Type 0
BytesChangeNoFile = (f : FileState) (asked : Step) (m : Mark) → takes_input f asked ≡ false →
    IsFlat (file_step f asked m).reply ⊎ ((file_step f asked m).next ≡ f)

-- the step reads from a character device
abbrev pub reads_device : WorldState → Step → Option ℕ → Bool
reads_device w asked None = false
reads_device w asked (Some row) = takes_input (file_at w row) asked

-- a step that answers with a list or with bytes leaves the world as it was, but for a Chdir and the read of a character device
abbrev pub ListsChangeNoWorld : Type 0
ListsChangeNoWorld = (w : WorldState) (asker : Who) (asked : Step) (m : Mark) → is_chdir asked ≡ false →
    reads_device w asked (step_row asked) ≡ false →
    IsFlat (world_step w asker asked m).reply ⊎ ((world_step w asker asked m).next ≡ w)
