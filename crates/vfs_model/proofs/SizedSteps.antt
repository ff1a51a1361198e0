-- Every step keeps the sizes of a namespace's lists, and tells a short folder if any.
use Rattle.std.proofs.Common.{◌≡◌, ℕ, ◌≤◌, Bool, true, false, not, ◌&&◌, ◌||◌, nat_lt, Option, Some, None, List, [], length, Result, Ok, Err, if◌then◌else◌, refl, ap, ◌∙◌, arith}
use Rattle.vfs_base.specs.Flat.{IsFlat}
use Rattle.vfs_base.specs.Path.{Path, printed}
use Rattle.vfs_base.specs.declared.entry.Mark.{Mark}
use Rattle.vfs_base.specs.declared.errno.Errno.TheVariants as errno
use Rattle.vfs_base.specs.declared.flags.OpenFlags.{OpenFlags}
use Rattle.vfs_base.specs.declared.ids.HoldId.{HoldId}
use Rattle.vfs_base.specs.declared.kinds.NodeKind.{NodeKind}
use Rattle.vfs_base.specs.declared.kinds.NodeKind.TheVariants as node
use Rattle.vfs_base.specs.declared.limits.TheConstants.{HOLDS}
use Rattle.vfs_base.specs.declared.reply.Reply.{Reply}
use Rattle.vfs_base.specs.declared.reply.Reply.TheVariants as reply
use Rattle.vfs_base.specs.declared.step.Step.{Step}
use Rattle.vfs_base.specs.declared.step.Step.TheVariants as step
use Rattle.vfs_model.specs.Chain.{refuse◌when◌, refuse_by, wanted}
use Rattle.vfs_model.specs.Content.{fs_type_of}
use Rattle.vfs_model.specs.FileLife.{Rows, backing_of, end_of_dropped, free_if_unused, free_row, is_held, is_linked, least_free_row, next_file}
use Rattle.vfs_model.specs.Lookup.{asked_path, is_file, is_folder, is_full, is_read_only, is_there, node_at, or_errno, walk_refusal, with_node}
use Rattle.vfs_model.specs.NameSteps.{after_loss, chdir_step, folder_refusals, mkdir_refusals, mkdir_step, rmdir_refusals, unlink_refusals, without_node}
use Rattle.vfs_model.specs.Namespace.{folder_of, life_at, same_path, with_reference}
use Rattle.vfs_model.specs.NamespaceOutcome.{NamespaceOutcome}
use Rattle.vfs_model.specs.NamespaceStep.{namespace_answer, namespace_step}
use Rattle.vfs_model.specs.NormalPath.{TextFault, normal_path}
use Rattle.vfs_model.specs.OpenStep.{creates, for_reading, for_writing, has_no_room, is_exclusive, is_rom_node, least_free_number, make_file, new_life, open_at, open_file, open_refusals, truncates, with_file_at}
use Rattle.vfs_model.specs.ReferenceSteps.{give_up_step, is_device_kind, map_step, reference_at}
use Rattle.vfs_model.specs.RenameStep.{move_at, move_refusals, rename_at, rename_refusals, with_moved}
use Rattle.vfs_model.specs.RowChange.{is_chdir}
use Rattle.vfs_model.specs.Sizes.{IsSized, TellsShortFolder, is_at, tells_folder}
use Rattle.vfs_model.specs.StepForms.{TellsFolder}
use Rattle.vfs_model.specs.declared.namespace.Namespace.{Namespace}
use Rattle.vfs_model.specs.declared.namespace.Role.{Role}
use Rattle.vfs_model.specs.declared.namespace.Role.TheVariants as role
use Rattle.vfs_model.proofs.ShortPaths.{normal_short}
use Rattle.vfs_model.proofs.SizedMounts.{mount-sized}
use Rattle.vfs_model.proofs.SizedNames.{sized_folder, sized_moved, sized_reference}
use Rattle.vfs_model.proofs.SizedNodes.{sized_bind, sized_freed, sized_put, sized_without}
use Rattle.vfs_model.proofs.SizedUmounts.{Sized, mkfs-sized, shutdown-sized, umount-sized}
use Rattle.vfs_model.proofs.StepAnswers.{Holds, bind-holds, either-holds, held-by, marked-holds, refuse-passed, then-holds, then-rest}
use Rattle.vfs_model.proofs.StepReplies.{step-replies}

-- a file that has lost a name or a reference
dropped-sized : (n : Namespace) (row : ℕ) (named : Bool) → IsSized n →
    IsSized (if named then record { next = n; changes = [] } else free_row end_of_dropped (record { next = n; changes = [] }) row).next
unfolding free_row
dropped-sized n row true s = s
dropped-sized n row false s = sized_freed n row (end_of_dropped (backing_of (life_at n row))) s

unused-sized : (n : Namespace) (row : ℕ) → IsSized n → IsSized (free_if_unused n row).next
unfolding free_if_unused
unused-sized n row s = dropped-sized n row (is_linked n row || is_held n row) s

loss-sized : (n : Namespace) (found : Option NodeKind) → IsSized n → IsSized (after_loss n found).next
loss-sized n (Some (node.File file kind)) s = unused-sized n file.row s
loss-sized n (Some node.Dir) s = s
loss-sized n None s = s

mkdir-sized : (n : Namespace) (k : ℕ) (text : List ℕ) → IsSized n → Holds Sized (mkdir_step n k text)
unfolding mkdir_refusals
mkdir-sized n k text s =
    bind-holds Sized (asked_path n k text) _ (λ path e.
    then-holds Sized (mkdir_refusals n path) _ (λ h.
    let r = then-rest (refuse_by (walk_refusal n path)) _ tt h in
    let r2 = then-rest (refuse errno.EEXIST when (is_there n path)) _ tt r in
    let room = refuse-passed errno.ENOSPC (is_full n path) (then-rest (refuse errno.EROFS when (is_read_only n path)) _ tt r2) in
    sized_put n path node.Dir s room))

-- opening

not-full : (there full row cell : Bool) → there ≡ false → (not there && (full || row || cell)) ≡ false → full ≡ false
not-full true full row cell e h = absurd (cc)
not-full false true row cell e h = absurd (cc)
not-full false false row cell e h = refl

passed-room : (n : Namespace) (k : ℕ) (p : Path) (flags : OpenFlags) → open_refusals n k p flags ≡ Ok tt → is_there n p ≡ false → is_full n p ≡ false
unfolding open_refusals
passed-room n k p flags h absent =
    let invalid = not (for_reading flags || for_writing flags) || (truncates flags && not (for_writing flags)) in
    let r1 = then-rest (refuse errno.EINVAL when invalid) _ tt h in
    let r2 = then-rest (refuse_by (walk_refusal n p)) _ tt r1 in
    let r3 = then-rest (refuse errno.EISDIR when (is_folder n p)) _ tt r2 in
    let r4 = then-rest (refuse errno.EEXIST when (is_file n p && creates flags && is_exclusive flags)) _ tt r3 in
    let r5 = then-rest (refuse errno.ENOENT when (not (is_there n p) && not (creates flags))) _ tt r4 in
    let rom = is_rom_node (node_at n p) && for_writing flags in
    let r6 = then-rest (refuse errno.EROFS when ((not (is_there n p) && is_read_only n p) || rom)) _ tt r5 in
    let room = refuse-passed errno.ENOSPC (not (is_there n p) && has_no_room n p) (then-rest (refuse errno.EMFILE when (nat_lt HOLDS (least_free_number n k))) _ tt r6) in
    not-full (is_there n p) (is_full n p) _ _ absent room

made-sized : (n : Namespace) (p : Path) → IsSized n → is_full n p ≡ false → IsSized (make_file n p).next
unfolding make_file
made-sized n p s f =
    let row = least_free_row n in
    let life = new_life n p in
    sized_bind (with_node n p (node.File (next_file n row) life.kind)) row life (sized_put n p (node.File (next_file n row) life.kind) s f)

at-sized : (n : Namespace) (p : Path) (there : Bool) → IsSized n → (there ≡ false → is_full n p ≡ false) →
    IsSized (if there then record { next = n; changes = [] } else make_file n p).next
at-sized n p true s f = s
at-sized n p false s f = made-sized n p s (f refl)

open_file-sized : (k : ℕ) (p : Path) (rows : Rows) (found : Option NodeKind) → IsSized rows.next → Holds Sized (open_file k p rows found)
open_file-sized k p rows None s = tt
open_file-sized k p rows (Some node.Dir) s = tt
open_file-sized k p rows (Some (node.File file kind)) s = sized_reference rows.next k (least_free_number rows.next k) (Some _) s

open-sized : (n : Namespace) (k : ℕ) (p : Path) (flags : OpenFlags) → IsSized n → Holds Sized (open_at n k p flags)
unfolding open_at
open-sized n k p flags s =
    then-holds Sized (open_refusals n k p flags) _ (λ h.
    open_file-sized k p (with_file_at n p) (node_at (with_file_at n p).next p) (at-sized n p (is_there n p) s (passed-room n k p flags h)))

-- references

give_up-sized : (as_role : Role) (n : Namespace) (k : ℕ) (hold : HoldId) → IsSized n → Holds Sized (give_up_step as_role n k hold)
unfolding give_up_step
give_up-sized as_role n k hold s =
    bind-holds Sized (wanted errno.EBADF (reference_at n k hold as_role)) _ (λ reference e.
    unused-sized (with_reference n k hold.number None) reference.file.row (sized_reference n k hold.number None s))

map-sized : (n : Namespace) (k : ℕ) (hold : HoldId) → IsSized n → Holds Sized (map_step n k hold)
unfolding map_step
map-sized n k hold s =
    bind-holds Sized (wanted errno.EBADF (reference_at n k hold role.Open)) _ (λ opened e.
    then-holds Sized (refuse errno.ENODEV when (is_device_kind opened.kind)) _ (λ h.
    then-holds Sized (refuse errno.EMFILE when (nat_lt HOLDS (least_free_number n k))) _ (λ l.
    sized_reference n k (least_free_number n k) (Some (record opened { role = role.Map })) s)))

-- moves

move-sized : (n : Namespace) (old new : Path) → IsSized n → Holds Sized (move_at n old new)
unfolding move_at
move-sized n old new s =
    then-holds Sized (move_refusals n old new) _ (λ h. loss-sized (with_moved n old new) (node_at n new) (sized_moved n old new s))

rename-sized : (n : Namespace) (old new : Path) → IsSized n → Holds Sized (rename_at n old new)
unfolding rename_at
rename-sized n old new s =
    then-holds Sized (rename_refusals n old new) _ (λ h. either-holds Sized (same_path old new) _ _ s (move-sized n old new s))

-- folders

read-path : (read : Result Path TextFault) (path : Path) → or_errno read ≡ Ok path → read ≡ Ok path
read-path (Ok found) path e = let same : found ≡ path = cc in ap Ok same
read-path (Err fault) path e = absurd (cc)

asked-short : (n : Namespace) (k : ℕ) (text : List ℕ) (path : Path) → asked_path n k text ≡ Ok path → length (printed path) ≤ 1024
asked-short n k text path e = normal_short (folder_of n k) text path (read-path (normal_path (folder_of n k) text) path e)

chdir-sized : (n : Namespace) (k : ℕ) (text : List ℕ) → IsSized n → Holds Sized (chdir_step n k text)
chdir-sized n k text s =
    bind-holds Sized (asked_path n k text) _ (λ path e.
    then-holds Sized (folder_refusals n path) _ (λ h. sized_folder n k path (asked-short n k text path e) s))

answer-sized : (n : Namespace) (k : ℕ) (asked : Step) → IsSized n → Holds Sized (namespace_answer n k asked)
answer-sized n k (step.Stat path) s =
    bind-holds Sized (asked_path n k path) _ (λ p e.
    then-holds Sized (refuse_by (walk_refusal n p)) _ (λ h. bind-holds Sized (wanted errno.ENOENT (node_at n p)) _ (λ there f. s)))
answer-sized n k (step.Open path flags) s = bind-holds Sized (asked_path n k path) _ (λ p e. open-sized n k p flags s)
answer-sized n k (step.Close hold) s = give_up-sized role.Open n k hold s
answer-sized n k (step.Mkdir path) s = mkdir-sized n k path s
answer-sized n k (step.Rmdir path) s =
    bind-holds Sized (asked_path n k path) _ (λ p e. then-holds Sized (rmdir_refusals n p) _ (λ h. sized_without n p s))
answer-sized n k (step.Unlink path) s =
    bind-holds Sized (asked_path n k path) _ (λ p e.
    then-holds Sized (unlink_refusals n p) _ (λ h. loss-sized (without_node n p) (node_at n p) (sized_without n p s)))
answer-sized n k (step.Rename old new) s =
    bind-holds Sized (asked_path n k old) _ (λ p e. bind-holds Sized (asked_path n k new) _ (λ q f. rename-sized n p q s))
answer-sized n k (step.List path) s =
    bind-holds Sized (asked_path n k path) _ (λ p e. then-holds Sized (folder_refusals n p) _ (λ h. s))
answer-sized n k (step.Chdir path) s = chdir-sized n k path s
answer-sized n k step.Home s = sized_folder n k [] (omega arith) s
answer-sized n k step.Cwd s = s
answer-sized n k (step.Mount source point fs) s =
    bind-holds Sized (asked_path n k point) _ (λ p e.
    bind-holds Sized (wanted errno.ENODEV (fs_type_of fs)) _ (λ asked f. mount-sized n p asked source s))
answer-sized n k (step.Umount point) s = bind-holds Sized (asked_path n k point) _ (λ p e. umount-sized n p s)
answer-sized n k (step.Map hold) s = map-sized n k hold s
answer-sized n k (step.Unmap hold) s = give_up-sized role.Map n k hold s
answer-sized n k step.Mounts s = s
answer-sized n k step.Dentries s = s
answer-sized n k step.Cells s = s
answer-sized n k (step.Mkfs name) s = mkfs-sized n name s
answer-sized n k step.Devices s = s
answer-sized n k _ s = tt

pub answered-sized : (n : Namespace) (k : ℕ) (asked : Step) (outcome : NamespaceOutcome) → IsSized n →
    namespace_answer n k asked ≡ Ok outcome → IsSized outcome.next
answered-sized n k asked outcome s e = held-by Sized (namespace_answer n k asked) outcome (answer-sized n k asked s) e

pub step-sized : (n : Namespace) (k : ℕ) (asked : Step) (m : Mark) → IsSized n → IsSized (namespace_step n k asked m).next
unfolding namespace_step
step-sized n k step.Shutdown m s = shutdown-sized n m s
step-sized n k asked m s = marked-holds Sized n (namespace_answer n k asked) m (λ errno. s) (answer-sized n k asked s)

-- what is told of folders

flat-not-at : (answer : Reply) → IsFlat answer → is_at answer ≡ false
flat-not-at (reply.At path) h = absurd h
flat-not-at _ h = refl

none-told : (n : Namespace) (k : ℕ) (asked : Step) (m : Mark) → is_chdir asked ≡ false → tells_folder asked ≡ false →
    is_at (namespace_step n k asked m).reply ≡ false
none-told n k asked m c t =
    step-replies n k (λ outcome. is_at outcome.reply ≡ false) (λ outcome h. flat-not-at outcome.reply h) asked m (λ answer e. e ∙ t) c

not-told : (asked : Step) (answer : Reply) → is_at answer ≡ false → TellsShortFolder asked answer
not-told asked (reply.At path) h = absurd (cc)
not-told asked _ h = record { short = tt; only = λ t. refl }

no-chdir : (asked : Step) → tells_folder asked ≡ false → is_chdir asked ≡ false
no-chdir (step.Chdir path) t = absurd (cc)
no-chdir _ t = refl

-- the folder that a Chdir or a Cwd tells
abbrev ShortIn : NamespaceOutcome → Type 0
ShortIn outcome = TellsFolder outcome.reply

chdir-short : (n : Namespace) (k : ℕ) (path : List ℕ) (m : Mark) → ShortIn (namespace_step n k (step.Chdir path) m)
unfolding namespace_step
chdir-short n k path m =
    marked-holds ShortIn n (chdir_step n k path) m (λ errno. tt)
    (bind-holds ShortIn (asked_path n k path) _ (λ p e. then-holds ShortIn (folder_refusals n p) _ (λ h. asked-short n k path p e)))

cwd-short : (n : Namespace) (k : ℕ) (m : Mark) → IsSized n → ShortIn (namespace_step n k step.Cwd m)
unfolding namespace_step
cwd-short n k m s = marked-holds ShortIn n (namespace_answer n k step.Cwd) m (λ errno. tt) (s.short k)

pub tells-short : (n : Namespace) (k : ℕ) (asked : Step) (m : Mark) (told : Bool) → tells_folder asked ≡ told → IsSized n →
    TellsShortFolder asked (namespace_step n k asked m).reply
tells-short n k asked m false t s = not-told asked (namespace_step n k asked m).reply (none-told n k asked m (no-chdir asked t) t)
tells-short n k (step.Chdir path) m true t s = record { short = chdir-short n k path m; only = λ h. absurd (cc) }
tells-short n k step.Cwd m true t s = record { short = cwd-short n k m s; only = λ h. absurd (cc) }
tells-short n k _ m true t s = absurd (cc)
