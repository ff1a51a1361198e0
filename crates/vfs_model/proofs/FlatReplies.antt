-- A step that answers with a list changes nothing, but for a Chdir and the read of a character device.
use Rattle.std.proofs.Common.{◌≡◌, ◌⊎◌, inl, inr, ℕ, ◌==◌, Bool, true, false, List, [], Result, Ok, Err, if◌then◌else◌, refl}
use Rattle.vfs_base.specs.Flat.{IsFlat}
use Rattle.vfs_base.specs.declared.entry.Mark.{Mark}
use Rattle.vfs_base.specs.declared.entry.Mark.TheVariants as mark
use Rattle.vfs_base.specs.declared.errno.Errno.{Errno}
use Rattle.vfs_base.specs.declared.errno.Errno.TheVariants as errno
use Rattle.vfs_base.specs.declared.kinds.Kind.{Kind}
use Rattle.vfs_base.specs.declared.reply.Reply.{Reply}
use Rattle.vfs_base.specs.declared.step.Step.{Step}
use Rattle.vfs_base.specs.declared.step.Step.TheVariants as step
use Rattle.vfs_model.specs.FileMoves.{clear_step, file_step, move, move_bytes, move_device, stopped_step}
use Rattle.vfs_model.specs.FileStep.{FileOutcome, file_refusals, moved_count, refused_file}
use Rattle.vfs_model.specs.Lookup.{asked_path}
use Rattle.vfs_model.specs.NameSteps.{chdir_step, folder_refusals}
use Rattle.vfs_model.specs.NamespaceOutcome.{NamespaceOutcome}
use Rattle.vfs_model.specs.NamespaceStep.{namespace_step}
use Rattle.vfs_model.specs.RowChange.{TellsOrChanges, Untouched, is_chdir, takes_input}
use Rattle.vfs_model.specs.declared.namespace.Namespace.{Namespace}
use Rattle.vfs_model.specs.declared.world.FileState.{FileState}
use Rattle.vfs_model.specs.declared.world.FileState.TheVariants as file
use Rattle.vfs_model.proofs.StepAnswers.{bind-holds, marked-holds, then-holds}
use Rattle.vfs_model.proofs.StepReplies.{step-replies}

-- the reply is flat, or nothing changes
abbrev FlatOr : Namespace → NamespaceOutcome → Type 0
FlatOr n outcome = IsFlat outcome.reply ⊎ Untouched n outcome

told : (n : Namespace) (answer : Reply) → FlatOr n (record { reply = answer; next = n; changes = [] })
told n answer = inr (record { next = refl; changes = refl })

step-flat : (n : Namespace) (k : ℕ) (asked : Step) (m : Mark) → is_chdir asked ≡ false → FlatOr n (namespace_step n k asked m)
step-flat n k asked m c = step-replies n k (FlatOr n) (λ outcome flat. inl flat) asked m (λ answer e. told n answer) c

-- no row changes
abbrev RowsStay : NamespaceOutcome → Type 0
RowsStay outcome = outcome.changes ≡ []

chdir-stays : (n : Namespace) (k : ℕ) (path : List ℕ) (m : Mark) → RowsStay (namespace_step n k (step.Chdir path) m)
unfolding namespace_step
chdir-stays n k path m =
    marked-holds RowsStay n (chdir_step n k path) m (λ errno. refl)
    (bind-holds RowsStay (asked_path n k path) _ (λ p e. then-holds RowsStay (folder_refusals n p) _ (λ h. refl)))

rows-stay : (n : Namespace) (outcome : NamespaceOutcome) → FlatOr n outcome → IsFlat outcome.reply ⊎ RowsStay outcome
rows-stay n outcome (inl flat) = inl flat
rows-stay n outcome (inr same) = inr same.changes

step-rows : (n : Namespace) (k : ℕ) (asked : Step) (m : Mark) (chdir : Bool) → is_chdir asked ≡ chdir →
    IsFlat (namespace_step n k asked m).reply ⊎ RowsStay (namespace_step n k asked m)
step-rows n k asked m false c = rows-stay n (namespace_step n k asked m) (step-flat n k asked m c)
step-rows n k (step.Chdir path) m true c = inr (chdir-stays n k path m)
step-rows n k _ m true c = absurd (cc)

pub tells-or-changes : (n : Namespace) (k : ℕ) (asked : Step) (m : Mark) → TellsOrChanges n asked (namespace_step n k asked m)
tells-or-changes n k asked m = record { rows = step-rows n k asked m (is_chdir asked) refl; all = step-flat n k asked m }

-- the same of a step of one file
abbrev FileFlatOr : FileState → FileOutcome → Type 0
FileFlatOr f outcome = IsFlat outcome.reply ⊎ (outcome.next ≡ f)

bytes-flat : (generation : ℕ) (kind : Kind) (capacity : ℕ) (bytes : List ℕ) (asked : Step) (count : ℕ) →
    FileFlatOr (file.Bytes generation kind capacity bytes) (move_bytes generation kind capacity bytes asked count)
bytes-flat generation kind capacity bytes (step.Size id) count = inl tt
bytes-flat generation kind capacity bytes (step.Read id off len) count = inr refl
bytes-flat generation kind capacity bytes (step.Load id off len) count = inr refl
bytes-flat generation kind capacity bytes (step.Write id off piece) count = inl tt
bytes-flat generation kind capacity bytes (step.Store id off piece) count = inl tt
bytes-flat generation kind capacity bytes (step.Append id piece) count = inl tt
bytes-flat generation kind capacity bytes (step.Trunc id len) count = inl tt
bytes-flat generation kind capacity bytes _ count = inl tt

device-flat : (generation : ℕ) (input output : List ℕ) (asked : Step) (count : ℕ) → takes_input (file.Device generation input output) asked ≡ false →
    FileFlatOr (file.Device generation input output) (move_device generation input output asked count)
device-flat generation input output (step.Read id off len) count h = absurd (cc)
device-flat generation input output (step.Write id off piece) count h = inl tt
device-flat generation input output (step.Append id piece) count h = inl tt
device-flat generation input output _ count h = inl tt

file-flat : (f : FileState) (asked : Step) (count : ℕ) → takes_input f asked ≡ false → FileFlatOr f (move f asked count)
file-flat (file.Unbound generation) asked count h = inl tt
file-flat (file.Bytes generation kind capacity bytes) asked count h = bytes-flat generation kind capacity bytes asked count
file-flat (file.Device generation input output) asked count h = device-flat generation input output asked count h

clear-flat : (f : FileState) (asked : Step) (passed : Result (Unit {0}) Errno) → takes_input f asked ≡ false → FileFlatOr f (clear_step f asked passed)
clear-flat f asked (Ok passed) h = file-flat f asked (moved_count f asked) h
clear-flat f asked (Err errno) h = inl tt

either-flat : (b : Bool) (f : FileState) (x y : FileOutcome) → FileFlatOr f x → FileFlatOr f y → FileFlatOr f (if b then x else y)
either-flat true f x y h k = h
either-flat false f x y h k = k

stopped-flat : (f : FileState) (asked : Step) (errno : Errno) (count : ℕ) → takes_input f asked ≡ false → FileFlatOr f (stopped_step f asked errno count)
stopped-flat f asked errno count h =
    either-flat (count == 0) f (refused_file f errno) (move f asked count) (inl tt) (file-flat f asked count h)

pub file_step-flat : (f : FileState) (asked : Step) (m : Mark) → takes_input f asked ≡ false → FileFlatOr f (file_step f asked m)
unfolding file_step
file_step-flat f asked mark.Clear h = clear-flat f asked (file_refusals f asked) h
file_step-flat f asked (mark.Fault count) h = stopped-flat f asked errno.EIO count h
file_step-flat f asked (mark.NoMem count) h = stopped-flat f asked errno.ENOMEM count h
