-- A refused step, and the worker's steps, leave the world as it was.
use Rattle.std.proofs.Common.{◌≡◌, ℕ, ◌-◌, ◌==◌, Bool, true, false, Option, Some, None, List, set, Result, Ok, Err, if◌then◌else◌, refl, ap, ◌∙◌}
use Rattle.std.proofs.lemmas.List.{set-get_or}
use Rattle.vfs_base.specs.declared.entry.Mark.{Mark}
use Rattle.vfs_base.specs.declared.entry.Mark.TheVariants as mark
use Rattle.vfs_base.specs.declared.entry.Who.{Who}
use Rattle.vfs_base.specs.declared.errno.Errno.{Errno}
use Rattle.vfs_base.specs.declared.errno.Errno.TheVariants as errno
use Rattle.vfs_base.specs.declared.kinds.Kind.{Kind}
use Rattle.vfs_base.specs.declared.reply.Reply.{Reply}
use Rattle.vfs_base.specs.declared.reply.Reply.TheVariants as reply
use Rattle.vfs_base.specs.declared.step.Step.{Step}
use Rattle.vfs_base.specs.declared.step.Step.TheVariants as step
use Rattle.vfs_model.proofs.RefusedSteps.{Unchanged, is_refusal, step-unchanged}
use Rattle.vfs_model.specs.FileMoves.{clear_step, file_step, move, move_bytes, move_device, stopped_step}
use Rattle.vfs_model.specs.FileStep.{FileOutcome, file_refusals, moved_count, refused_file}
use Rattle.vfs_model.specs.NamespaceOutcome.{NamespaceOutcome}
use Rattle.vfs_model.specs.NamespaceStep.{is_shutdown, namespace_step}
use Rattle.vfs_model.specs.Homes.{file_at, with_file}
use Rattle.vfs_model.specs.World.{after_format, namespace_part, session_of, step_on, step_row, world_step}
use Rattle.vfs_model.specs.declared.world.FileState.{FileState}
use Rattle.vfs_model.specs.declared.world.FileState.TheVariants as file
use Rattle.vfs_model.specs.declared.world.WorldState.{WorldState}

move_bytes-answers : (generation : ℕ) (kind : Kind) (capacity : ℕ) (bytes : List ℕ) (asked : Step) (count : ℕ) →
    is_refusal (move_bytes generation kind capacity bytes asked count).reply ≡ false
move_bytes-answers generation kind capacity bytes (step.Size id) count = refl
move_bytes-answers generation kind capacity bytes (step.Read id off len) count = refl
move_bytes-answers generation kind capacity bytes (step.Load id off len) count = refl
move_bytes-answers generation kind capacity bytes (step.Write id off piece) count = refl
move_bytes-answers generation kind capacity bytes (step.Store id off piece) count = refl
move_bytes-answers generation kind capacity bytes (step.Append id piece) count = refl
move_bytes-answers generation kind capacity bytes (step.Trunc id len) count = refl
move_bytes-answers generation kind capacity bytes _ count = refl

move_device-answers : (generation : ℕ) (input output : List ℕ) (asked : Step) (count : ℕ) →
    is_refusal (move_device generation input output asked count).reply ≡ false
move_device-answers generation input output (step.Read id off len) count = refl
move_device-answers generation input output (step.Write id off piece) count = refl
move_device-answers generation input output (step.Append id piece) count = refl
move_device-answers generation input output _ count = refl

move-answers : (f : FileState) (asked : Step) (count : ℕ) → is_refusal (move f asked count).reply ≡ false
move-answers (file.Unbound generation) asked count = refl
move-answers (file.Bytes generation kind capacity bytes) asked count = move_bytes-answers generation kind capacity bytes asked count
move-answers (file.Device generation input output) asked count = move_device-answers generation input output asked count

-- a refused step leaves the file
abbrev pub Leaves : FileState → FileOutcome → Type 0
Leaves f outcome = is_refusal outcome.reply ≡ true → outcome.next ≡ f

clear-leaves : (f : FileState) (asked : Step) (r : Result (Unit {0}) Errno) → Leaves f (clear_step f asked r)
clear-leaves f asked (Ok passed) e = let h : is_refusal (move f asked (moved_count f asked)).reply ≡ false = move-answers f asked (moved_count f asked) in absurd (cc)
clear-leaves f asked (Err errno) e = refl

either-leaves : (b : Bool) (f : FileState) (x y : FileOutcome) → Leaves f x → Leaves f y → Leaves f (if b then x else y)
either-leaves true f x y h k = h
either-leaves false f x y h k = k

stopped-leaves : (f : FileState) (asked : Step) (errno : Errno) (count : ℕ) → Leaves f (stopped_step f asked errno count)
stopped-leaves f asked errno count =
    either-leaves (count == 0) f (refused_file f errno) (move f asked count) (λ e. refl)
    (λ e. let h : is_refusal (move f asked count).reply ≡ false = move-answers f asked count in absurd (cc))

file-leaves : (f : FileState) (asked : Step) (m : Mark) → Leaves f (file_step f asked m)
unfolding file_step
file-leaves f asked mark.Clear = clear-leaves f asked (file_refusals f asked)
file-leaves f asked (mark.Fault count) = stopped-leaves f asked errno.EIO count
file-leaves f asked (mark.NoMem count) = stopped-leaves f asked errno.ENOMEM count

-- a file put back where it was
pub same_file : (w : WorldState) (row : ℕ) (f : FileState) → f ≡ file_at w row → with_file w row f ≡ w
same_file w row f e =
    ap (λ files. record w { files = files }) (ap (λ x. set w.files (row - 1) x) e ∙ set-get_or w.files (row - 1) (file.Unbound 0))

format-leaves : (w : WorldState) (asked : Step) (answer : Reply) → is_refusal answer ≡ true → after_format w asked answer ≡ w
format-leaves w (step.Mkfs name) (reply.Refused errno) h = refl
format-leaves w (step.Mkfs name) _ h = absurd (cc)
format-leaves w _ answer h = refl

part-leaves : (w : WorldState) (outcome : NamespaceOutcome) (asked : Step) → is_refusal outcome.reply ≡ true → Unchanged w.namespace outcome →
    (namespace_part w outcome asked).next ≡ w
part-leaves w outcome asked h u =
    ap (λ v. after_format v asked outcome.reply) (rw (u.1, u.0) refl) ∙ format-leaves w asked outcome.reply h

step_on-leaves : (w : WorldState) (k : ℕ) (asked : Step) (m : Mark) (row : Option ℕ) → is_shutdown asked ≡ false →
    is_refusal (step_on w k asked m row).reply ≡ true → (step_on w k asked m row).next ≡ w
step_on-leaves w k asked m None h e = part-leaves w (namespace_step w.namespace k asked m) asked e (step-unchanged w.namespace k asked m h e)
step_on-leaves w k asked m (Some row) h e = same_file w row _ (file-leaves (file_at w row) asked m e)

pub refused-leaves : (w : WorldState) (asker : Who) (asked : Step) (m : Mark) → is_shutdown asked ≡ false →
    is_refusal (world_step w asker asked m).reply ≡ true → (world_step w asker asked m).next ≡ w
unfolding world_step
refused-leaves w asker asked m h e = step_on-leaves w (session_of asker) asked m (step_row asked) h e
