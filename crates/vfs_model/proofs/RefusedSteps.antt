-- No step that is answered is a refusal, so a refused step comes from its refusals alone.
use Rattle.std.proofs.Common.{◌≡◌, ℕ, Bool, true, false, Option, Some, None, List, [], Result, Ok, Err, if◌then◌else◌, refl}
use Rattle.vfs_base.specs.Path.{Path}
use Rattle.vfs_base.specs.declared.entry.Mark.{Mark}
use Rattle.vfs_base.specs.declared.entry.Mark.TheVariants as mark
use Rattle.vfs_base.specs.declared.errno.Errno.{Errno}
use Rattle.vfs_base.specs.declared.ids.HoldId.{HoldId}
use Rattle.vfs_base.specs.declared.flags.OpenFlags.{OpenFlags}
use Rattle.vfs_base.specs.declared.kinds.FsType.{FsType}
use Rattle.vfs_base.specs.declared.kinds.NodeKind.{NodeKind}
use Rattle.vfs_base.specs.declared.kinds.NodeKind.TheVariants as node
use Rattle.vfs_base.specs.declared.reply.Reply.{Reply}
use Rattle.vfs_base.specs.declared.reply.Reply.TheVariants as reply
use Rattle.vfs_base.specs.declared.step.Step.{Step}
use Rattle.vfs_base.specs.declared.step.Step.TheVariants as step
use Rattle.vfs_model.specs.Chain.{◌>>=◌, ◌>>◌}
use Rattle.vfs_model.specs.FileLife.{Rows}
use Rattle.vfs_model.specs.MountStep.{mount_at}
use Rattle.vfs_model.specs.NamespaceOutcome.{NamespaceOutcome, settled}
use Rattle.vfs_model.specs.NamespaceStep.{is_shutdown, namespace_answer, namespace_step, under_mark}
use Rattle.vfs_model.specs.OpenStep.{open_at, open_file}
use Rattle.vfs_model.specs.ReferenceSteps.{give_up_step, map_step}
use Rattle.vfs_model.specs.RenameStep.{move_at, rename_at}
use Rattle.vfs_model.specs.UmountSteps.{mkfs_step, umount_at}
use Rattle.vfs_model.specs.declared.namespace.Namespace.{Namespace}
use Rattle.vfs_model.specs.declared.namespace.Role.{Role}
use Rattle.vfs_model.specs.declared.namespace.Role.TheVariants as role

abbrev pub is_refusal : Reply → Bool
is_refusal (reply.Refused errno) = true
is_refusal _ = false

-- where a chain comes through, its answer is no refusal
abbrev pub Answers : Result NamespaceOutcome Errno → Type 0
Answers (Ok outcome) = is_refusal outcome.reply ≡ false
Answers (Err errno) = Unit {0}

pub then_answers : (r : Result (Unit {0}) Errno) (rest : Result NamespaceOutcome Errno) → Answers rest → Answers (r >> rest)
then_answers (Ok passed) rest h = h
then_answers (Err errno) rest h = tt

pub bind_answers : {X : Type 0} (r : Result X Errno) (f : X → Result NamespaceOutcome Errno) → ((x : X) → Answers (f x)) → Answers (r >>= f)
bind_answers (Ok x) f h = h x
bind_answers (Err errno) f h = tt

open_file-answers : (k : ℕ) (path : Path) (rows : Rows) (found : Option NodeKind) → Answers (open_file k path rows found)
open_file-answers k path rows None = tt
open_file-answers k path rows (Some node.Dir) = tt
open_file-answers k path rows (Some (node.File file kind)) = refl

open_at-answers : (n : Namespace) (k : ℕ) (path : Path) (flags : OpenFlags) → Answers (open_at n k path flags)
unfolding open_at
open_at-answers n k path flags = search (then_answers, open_file-answers)

give_up-answers : (role : Role) (n : Namespace) (k : ℕ) (hold : HoldId) → Answers (give_up_step role n k hold)
unfolding give_up_step
give_up-answers role n k hold = search (bind_answers)

map-answers : (n : Namespace) (k : ℕ) (hold : HoldId) → Answers (map_step n k hold)
unfolding map_step
map-answers n k hold = search (then_answers, bind_answers)

move-answers : (n : Namespace) (old new : Path) → Answers (move_at n old new)
unfolding move_at
move-answers n old new = search (then_answers)

either_answers : (b : Bool) (r s : Result NamespaceOutcome Errno) → Answers r → Answers s → Answers (if b then r else s)
either_answers true r s h k = h
either_answers false r s h k = k

rename-answers : (n : Namespace) (old new : Path) → Answers (rename_at n old new)
unfolding rename_at
rename-answers n old new = search (then_answers, either_answers, move-answers)

mount-answers : (n : Namespace) (path : Path) (asked : FsType) (source : List ℕ) → Answers (mount_at n path asked source)
unfolding mount_at
mount-answers n path asked source = search (then_answers)

umount-answers : (n : Namespace) (path : Path) → Answers (umount_at n path)
unfolding umount_at
umount-answers n path = search (then_answers, bind_answers)

mkfs-answers : (n : Namespace) (name : List ℕ) → Answers (mkfs_step n name)
unfolding mkfs_step
mkfs-answers n name = search (then_answers)

pub answer-answers : (n : Namespace) (k : ℕ) (asked : Step) → Answers (namespace_answer n k asked)
answer-answers n k (step.Stat path) = search (then_answers, bind_answers)
answer-answers n k (step.Open path flags) = search (bind_answers, open_at-answers)
answer-answers n k (step.Close hold) = give_up-answers role.Open n k hold
answer-answers n k (step.Mkdir path) = search (then_answers, bind_answers)
answer-answers n k (step.Rmdir path) = search (then_answers, bind_answers)
answer-answers n k (step.Unlink path) = search (then_answers, bind_answers)
answer-answers n k (step.Rename old new) = search (bind_answers, rename-answers)
answer-answers n k (step.List path) = search (then_answers, bind_answers)
answer-answers n k (step.Chdir path) = search (then_answers, bind_answers)
answer-answers n k step.Home = refl
answer-answers n k step.Cwd = refl
answer-answers n k (step.Mount source point fs) = search (bind_answers, mount-answers)
answer-answers n k (step.Umount point) = search (bind_answers, umount-answers)
answer-answers n k (step.Map hold) = map-answers n k hold
answer-answers n k (step.Unmap hold) = give_up-answers role.Map n k hold
answer-answers n k step.Mounts = refl
answer-answers n k step.Dentries = refl
answer-answers n k step.Cells = refl
answer-answers n k (step.Mkfs name) = mkfs-answers n name
answer-answers n k step.Devices = refl
answer-answers n k _ = tt

-- an outcome that changes nothing
abbrev pub Unchanged : Namespace → NamespaceOutcome → Type 0
Unchanged n outcome = (outcome.next ≡ n) × (outcome.changes ≡ [])

settled-unchanged : (n : Namespace) (r : Result NamespaceOutcome Errno) → Answers r → is_refusal (settled n r).reply ≡ true → Unchanged n (settled n r)
settled-unchanged n (Ok outcome) h e = absurd (cc)
settled-unchanged n (Err errno) h e = (refl, refl)

under_mark-unchanged : (n : Namespace) (r : Result NamespaceOutcome Errno) (m : Mark) → Answers r → is_refusal (under_mark n r m).reply ≡ true → Unchanged n (under_mark n r m)
under_mark-unchanged n r mark.Clear h e = settled-unchanged n r h e
under_mark-unchanged n r (mark.Fault moved) h e = (refl, refl)
under_mark-unchanged n r (mark.NoMem moved) h e = (refl, refl)

pub step-unchanged : (n : Namespace) (k : ℕ) (asked : Step) (m : Mark) → is_shutdown asked ≡ false →
    is_refusal (namespace_step n k asked m).reply ≡ true → Unchanged n (namespace_step n k asked m)
unfolding namespace_step
step-unchanged n k step.Shutdown m h e = absurd (cc)
step-unchanged n k asked m h e = under_mark-unchanged n (namespace_answer n k asked) m (answer-answers n k asked) e
