-- Each change that a step makes is one of a row, and its file is what the step does to the row.
use Rattle.std.proofs.Common.{◌≡◌, ℕ, ◌+◌, ◌-◌, ◌*◌, ◌<◌, ◌≤◌, ◌==◌, Bool, true, false, cond, ◌&&◌, ◌||◌, not, nat_lt, Option, Some, None, List, [], ◌∷◌, ◌++◌, length, map, fold, is_some, reverse, drop, slice_index_or, Ok, if◌then◌else◌, inl, inr, refl, sym, ap, ◌∙◌, arith}
use Rattle.std.proofs.lemmas.Bool.Decides.{leb_tells}
use Rattle.std.proofs.lemmas.List.{get_or_past, get_or-drop, get_or-take, length-take}
use Rattle.std.proofs.lemmas.List.Elements.{All-cons, All-head, All-nil, All-push, All-tail}
use Rattle.std.specs.List.{All, enumerate_from, list_any}
use Rattle.std.specs.Prelude.{filter, slice_range}
use Rattle.vfs_base.specs.Path.{Path}
use Rattle.vfs_base.specs.declared.entry.Mark.{Mark}
use Rattle.vfs_base.specs.declared.entry.Mark.TheVariants as mark
use Rattle.vfs_base.specs.declared.entry.Who.{Who}
use Rattle.vfs_base.specs.declared.errno.Errno.TheVariants as errno
use Rattle.vfs_base.specs.declared.flags.OpenFlags.{OpenFlags}
use Rattle.vfs_base.specs.declared.ids.FileId.{FileId}
use Rattle.vfs_base.specs.declared.ids.HoldId.{HoldId}
use Rattle.vfs_base.specs.declared.kinds.FsType.{FsType}
use Rattle.vfs_base.specs.declared.kinds.FsType.TheVariants as fs
use Rattle.vfs_base.specs.declared.kinds.Kind.{Kind}
use Rattle.vfs_base.specs.declared.kinds.NodeKind.{NodeKind}
use Rattle.vfs_base.specs.declared.kinds.NodeKind.TheVariants as node
use Rattle.vfs_base.specs.declared.limits.TheConstants.{HOLDS}
use Rattle.vfs_base.specs.declared.reply.Reply.{Reply}
use Rattle.vfs_base.specs.declared.reply.Reply.TheVariants as reply
use Rattle.vfs_base.specs.declared.step.Step.{Step}
use Rattle.vfs_base.specs.declared.step.Step.TheVariants as step
use Rattle.vfs_model.specs.Chain.{refuse◌when◌, refuse_by, wanted}
use Rattle.vfs_model.specs.Consistency.{ReferencesLive}
use Rattle.vfs_model.specs.Content.{Content, content_of, fs_type_of, is_mounted}
use Rattle.vfs_model.specs.FileLife.{Rows, backing_of, end_of_dropped, end_of_unmounted, free_if_unused, free_row, is_held, is_linked, least_free_row, next_file}
use Rattle.vfs_model.specs.Homes.{change_row, file_at}
use Rattle.vfs_model.specs.Lookup.{asked_path, covering_mount, node_at, node_in, rest_of, walk_refusal}
use Rattle.vfs_model.specs.MountStep.{add_content, add_mount, least_free_mount, mount_at, mount_refusals, without_kept}
use Rattle.vfs_model.specs.NameSteps.{after_loss, folder_refusals, mkdir_refusals, rmdir_refusals, unlink_refusals, without_node}
use Rattle.vfs_model.specs.Namespace.{file_of, life_at, references_of, same_bytes, same_path, tree_of, with_reference}
use Rattle.vfs_model.specs.NamespaceOutcome.{NamespaceOutcome}
use Rattle.vfs_model.specs.NamespaceStep.{namespace_answer, namespace_step, shutdown_step}
use Rattle.vfs_model.specs.OpenStep.{make_file, new_life, new_origin, open_at, open_file, open_refusals, with_file_at}
use Rattle.vfs_model.specs.ReferenceSteps.{give_up_step, in_role, is_device_kind, map_step, reference_at, same_role}
use Rattle.vfs_model.specs.OpenStep.{least_free_number}
use Rattle.vfs_model.specs.RenameStep.{move_at, move_refusals, rename_at, rename_refusals, with_moved}
use Rattle.vfs_model.specs.RowChange.{HasRow, change_at, changed_file, world_at_change}
use Rattle.vfs_model.specs.UmountSteps.{come_to_rest, empty_mount, is_busy, is_of_mount, mkfs_step, mount_at_point, remove_all, remove_mount, rows_of_mount, umount_at, unlinked_rows, unreferred}
use Rattle.vfs_model.specs.World.{after_format, session_of, step_on, step_row, world_step}
use Rattle.vfs_model.specs.declared.namespace.Backing.{Backing}
use Rattle.vfs_model.specs.declared.namespace.End.{End}
use Rattle.vfs_model.specs.declared.namespace.LiveFile.{LiveFile}
use Rattle.vfs_model.specs.declared.namespace.Mount.{Mount}
use Rattle.vfs_model.specs.declared.namespace.Namespace.{Namespace}
use Rattle.vfs_model.specs.declared.namespace.Origin.{Origin}
use Rattle.vfs_model.specs.declared.namespace.Reference.{Reference}
use Rattle.vfs_model.specs.declared.namespace.Role.{Role}
use Rattle.vfs_model.specs.declared.namespace.Role.TheVariants as role
use Rattle.vfs_model.specs.declared.namespace.RowChange.{RowChange}
use Rattle.vfs_model.specs.declared.namespace.RowChange.TheVariants as change
use Rattle.vfs_model.specs.declared.world.WorldState.{WorldState}
use Rattle.vfs_model.proofs.RowChanges.{acts-by-row}
use Rattle.vfs_model.proofs.StepAnswers.{Holds, bind-holds, either-holds, marked-holds, then-holds}

-- each change of the outcome is one of a row
abbrev RowsAre : NamespaceOutcome → Type 0
RowsAre outcome = All HasRow outcome.changes

none : All HasRow []
none = All-nil HasRow

one : (changed : RowChange) → HasRow changed → All HasRow (changed ∷ [])
one changed h = All-cons HasRow changed [] h none

-- files that lose a name or a reference

dropped-rows : (n : Namespace) (row : ℕ) (named : Bool) → 0 < row →
    All HasRow (if named then record { next = n; changes = [] } else free_row end_of_dropped (record { next = n; changes = [] }) row).changes
unfolding free_row
dropped-rows n row true l = none
dropped-rows n row false l = one (change.Free (file_of n row) (end_of_dropped (backing_of (life_at n row)))) l

unused-rows : (n : Namespace) (row : ℕ) → 0 < row → All HasRow (free_if_unused n row).changes
unfolding free_if_unused
unused-rows n row l = dropped-rows n row (is_linked n row || is_held n row) l

loss-rows : (n : Namespace) (found : Option NodeKind) → ((file : FileId) (kind : Kind) → found ≡ Some (node.File file kind) → 0 < file.row) →
    All HasRow (after_loss n found).changes
loss-rows n (Some (node.File file kind)) h = unused-rows n file.row (h file kind refl)
loss-rows n (Some node.Dir) h = none
loss-rows n None h = none

linked-row : (n : Namespace) → ReferencesLive n → (number : ℕ) (rest : Path) (file : FileId) (kind : Kind) →
    node_in (tree_of n number) rest ≡ Some (node.File file kind) → 0 < file.row
linked-row n live number [] file kind e = absurd (cc)
linked-row n live number (name ∷ names) file kind e = (live.linked number (name ∷ names) file kind e).row

node-row : (n : Namespace) (path : Path) → ReferencesLive n → (file : FileId) (kind : Kind) → node_at n path ≡ Some (node.File file kind) → 0 < file.row
unfolding node_at
node-row n path live file kind e = linked-row n live (covering_mount n path).number (rest_of n path) file kind e

-- references

some-within : (xs : List (Option Reference)) (place : ℕ) (x : Reference) → slice_index_or xs place None ≡ Some x → place < length xs
some-within xs place x h = elim (leb_tells (length xs) place) [
  | inl l ↦ let none : slice_index_or xs place None ≡ None = get_or_past xs place None l.1 in absurd (cc)
  | inr l ↦ l.1
]

range-place : (xs : List (Option Reference)) (a b i : ℕ) (x : Reference) → slice_index_or (slice_range xs a b) i None ≡ Some x →
    slice_index_or xs (a + i) None ≡ Some x
range-place xs a b i x h =
    let within = some-within (slice_range xs a b) i x h in
    let most = length-take (b - a) (drop a xs) in
    let below : i < b - a = omega (arith, within, most) in
    sym (get_or-take (b - a) (drop a xs) i None below ∙ get_or-drop a xs i None) ∙ h

in-role : (as_role : Role) (found : Option Reference) (reference : Reference) → in_role as_role found ≡ Some reference → found ≡ Some reference
in-role as_role None reference h = absurd (cc)
in-role as_role (Some other) reference h = same (same_role as_role other.role) h
  where
    same : (b : Bool) → (if b then Some other else None) ≡ Some reference → Some other ≡ Some reference
    same true e = e
    same false e = absurd (cc)

reference-row : (n : Namespace) (k : ℕ) (hold : HoldId) (as_role : Role) (reference : Reference) → ReferencesLive n →
    reference_at n k hold as_role ≡ Some reference → 0 < reference.file.row
reference-row n k hold as_role reference live h = named (hold.session == k && nat_lt 0 hold.number) h
  where
    named : (b : Bool) → (if b then in_role as_role (slice_index_or (references_of n k) (hold.number - 1) None) else None) ≡ Some reference →
        0 < reference.file.row
    named false e = absurd (cc)
    named true e =
        let found : slice_index_or (references_of n k) (hold.number - 1) None ≡ Some reference =
        in-role as_role (slice_index_or (references_of n k) (hold.number - 1) None) reference e in
        (live.held _ reference (range-place n.references (HOLDS * (k - 1)) (HOLDS * k) (hold.number - 1) reference found)).0.row

read-wanted : (found : Option Reference) (reference : Reference) → wanted errno.EBADF found ≡ Ok reference → found ≡ Some reference
read-wanted None reference e = absurd (cc)
read-wanted (Some other) reference e = let same : other ≡ reference = cc in ap Some same

give_up-rows : (as_role : Role) (n : Namespace) (k : ℕ) (hold : HoldId) → ReferencesLive n → Holds RowsAre (give_up_step as_role n k hold)
unfolding give_up_step
give_up-rows as_role n k hold live =
    bind-holds RowsAre (wanted errno.EBADF (reference_at n k hold as_role)) _ (λ reference e.
    unused-rows (with_reference n k hold.number None) reference.file.row
    (reference-row n k hold as_role reference live (read-wanted (reference_at n k hold as_role) reference e)))

-- files that are made

made-rows : (n : Namespace) (p : Path) → All HasRow (make_file n p).changes
unfolding make_file
made-rows n p = one (change.Bind (next_file n (least_free_row n)) (new_origin (new_life n p).backing)) (omega arith)

at-rows : (n : Namespace) (p : Path) (there : Bool) → All HasRow (if there then record { next = n; changes = [] } else make_file n p).changes
at-rows n p true = none
at-rows n p false = made-rows n p

open_file-rows : (k : ℕ) (p : Path) (rows : Rows) (found : Option NodeKind) → All HasRow rows.changes → Holds RowsAre (open_file k p rows found)
open_file-rows k p rows None h = tt
open_file-rows k p rows (Some node.Dir) h = tt
open_file-rows k p rows (Some (node.File file kind)) h = h

open-rows : (n : Namespace) (k : ℕ) (p : Path) (flags : OpenFlags) → Holds RowsAre (open_at n k p flags)
unfolding open_at
open-rows n k p flags =
    then-holds RowsAre (open_refusals n k p flags) _ (λ h.
    open_file-rows k p (with_file_at n p) (node_at (with_file_at n p).next p) (at-rows n p _))

content-rows : (mount : Mount) (rows : Rows) (path : Path) (begins : Option Origin) → All HasRow rows.changes →
    All HasRow (add_content mount rows path begins).changes
content-rows mount rows path None h = h
content-rows mount rows path (Some begins) h =
    All-push HasRow rows.changes (change.Bind (next_file rows.next (least_free_row rows.next)) begins) h (omega arith)

contents-rows : (mount : Mount) (rows : Rows) (content : Content) → All HasRow rows.changes →
    All HasRow (fold (λ rows entry. add_content mount rows entry.0 entry.1) rows content).changes
contents-rows mount rows [] h = h
contents-rows mount rows (entry ∷ content) h =
    contents-rows mount (add_content mount rows entry.0 entry.1) content (content-rows mount rows entry.0 entry.1 h)

added-rows : (n : Namespace) (mount : Mount) → All HasRow (add_mount n mount).changes
unfolding add_mount
added-rows n mount =
    contents-rows mount (record { next = without_kept (record n { mounts = n.mounts ++ mount ∷ [] }) mount.fs mount.source; changes = [] })
    (content_of n mount.fs mount.source) none

mount-rows : (n : Namespace) (path : Path) (asked : FsType) (source : List ℕ) → Holds RowsAre (mount_at n path asked source)
unfolding mount_at
mount-rows n path asked source =
    let mount : Mount = record { number = least_free_mount n; point = path; fs = asked; source = source } in
    then-holds RowsAre (mount_refusals n path asked source) _ (λ h. added-rows n mount)

-- files whose mount goes

listed-rows : (test : ℕ × Option LiveFile → Bool) (first : ℕ) (lives : List (Option LiveFile)) → 0 < first →
    All (λ row. 0 < row) (map (λ row. row.0) (filter test (enumerate_from first lives)))
listed-rows test first [] l = All-nil (λ row. 0 < row)
listed-rows test first (life ∷ lives) l = by_test (test (first, life)) (listed-rows test (first + 1) lives (omega (arith, l)))
  where
    by_test : (b : Bool) → All (λ row. 0 < row) (map (λ row. row.0) (filter test (enumerate_from (first + 1) lives))) →
        All (λ row. 0 < row) (map (λ row. row.0) (cond b ((first, life) ∷ filter test (enumerate_from (first + 1) lives)) (filter test (enumerate_from (first + 1) lives))))
    by_test true h = All-cons (λ row. 0 < row) first _ l h
    by_test false h = h

freed-rows : (ending : Backing → End) (rows : Rows) (list : List ℕ) → All HasRow rows.changes → All (λ row. 0 < row) list →
    All HasRow (fold (free_row ending) rows list).changes
unfolding free_row
freed-rows ending rows [] h l = h
freed-rows ending rows (row ∷ list) h l =
    freed-rows ending (free_row ending rows row) list
    (All-push HasRow rows.changes (change.Free (file_of rows.next row) (ending (backing_of (life_at rows.next row)))) h (All-head (λ row. 0 < row) row list l))
    (All-tail (λ row. 0 < row) row list l)

emptied-rows : (rows : Rows) (mount : Mount) → All HasRow rows.changes → All HasRow (empty_mount rows mount).changes
unfolding empty_mount
emptied-rows rows mount h =
    freed-rows end_of_unmounted _ (rows_of_mount rows.next mount.number) h
    (listed-rows (λ row. is_of_mount mount.number row.1) 1 rows.next.live_files (omega arith))

removed-rows : (rows : Rows) (mount : Mount) → All HasRow rows.changes → All HasRow (remove_mount rows mount).changes
unfolding remove_mount
removed-rows rows mount h = emptied-rows rows mount h

mounts-rows : (rows : Rows) (mounts : List Mount) → All HasRow rows.changes → All HasRow (fold remove_mount rows mounts).changes
mounts-rows rows [] h = h
mounts-rows rows (mount ∷ mounts) h = mounts-rows (remove_mount rows mount) mounts (removed-rows rows mount h)

rested-rows : (n : Namespace) → All HasRow (come_to_rest n).changes
unfolding come_to_rest
rested-rows n =
    freed-rows end_of_dropped (record { next = unreferred n; changes = [] }) (unlinked_rows n) none
    (listed-rows (λ row. is_some row.1 && not (is_linked n row.0)) 1 n.live_files (omega arith))

all-rows : (n : Namespace) → All HasRow (remove_all n).changes
unfolding remove_all
all-rows n = emptied-rows _ n.root (mounts-rows (come_to_rest n) (reverse n.mounts) (rested-rows n))

shutdown-rows : (n : Namespace) (m : Mark) → RowsAre (shutdown_step n m)
unfolding shutdown_step
shutdown-rows n mark.Clear = all-rows n
shutdown-rows n (mark.Fault moved) = all-rows n
shutdown-rows n (mark.NoMem moved) = none

umount-rows : (n : Namespace) (path : Path) → Holds RowsAre (umount_at n path)
unfolding umount_at
umount-rows n path =
    bind-holds RowsAre (wanted errno.EINVAL (mount_at_point n path)) _ (λ mount e.
    then-holds RowsAre (refuse errno.EBUSY when (is_busy n mount)) _ (λ h. removed-rows (record { next = n; changes = [] }) mount none))

-- the other steps

mkfs-rows : (n : Namespace) (name : List ℕ) → Holds RowsAre (mkfs_step n name)
unfolding mkfs_step
mkfs-rows n name =
    then-holds RowsAre (refuse errno.ENXIO when (not (list_any (λ volume. same_bytes volume.name name) n.volumes))) _ (λ h.
    then-holds RowsAre (refuse errno.EBUSY when (is_mounted n fs.Cell name)) _ (λ l. none))

map-rows : (n : Namespace) (k : ℕ) (hold : HoldId) → Holds RowsAre (map_step n k hold)
unfolding map_step
map-rows n k hold =
    bind-holds RowsAre (wanted errno.EBADF (reference_at n k hold role.Open)) _ (λ opened e.
    then-holds RowsAre (refuse errno.ENODEV when (is_device_kind opened.kind)) _ (λ h.
    then-holds RowsAre (refuse errno.EMFILE when (nat_lt HOLDS (least_free_number n k))) _ (λ l. none)))

move-rows : (n : Namespace) (old new : Path) → ReferencesLive n → Holds RowsAre (move_at n old new)
unfolding move_at
move-rows n old new live =
    then-holds RowsAre (move_refusals n old new) _ (λ h. loss-rows (with_moved n old new) (node_at n new) (node-row n new live))

rename-rows : (n : Namespace) (old new : Path) → ReferencesLive n → Holds RowsAre (rename_at n old new)
unfolding rename_at
rename-rows n old new live =
    then-holds RowsAre (rename_refusals n old new) _ (λ h. either-holds RowsAre (same_path old new) _ _ none (move-rows n old new live))

answer-rows : (n : Namespace) (k : ℕ) (asked : Step) → ReferencesLive n → Holds RowsAre (namespace_answer n k asked)
answer-rows n k (step.Stat path) live =
    bind-holds RowsAre (asked_path n k path) _ (λ p e.
    then-holds RowsAre (refuse_by (walk_refusal n p)) _ (λ h. bind-holds RowsAre (wanted errno.ENOENT (node_at n p)) _ (λ there f. none)))
answer-rows n k (step.Open path flags) live = bind-holds RowsAre (asked_path n k path) _ (λ p e. open-rows n k p flags)
answer-rows n k (step.Close hold) live = give_up-rows role.Open n k hold live
answer-rows n k (step.Mkdir path) live =
    bind-holds RowsAre (asked_path n k path) _ (λ p e. then-holds RowsAre (mkdir_refusals n p) _ (λ h. none))
answer-rows n k (step.Rmdir path) live =
    bind-holds RowsAre (asked_path n k path) _ (λ p e. then-holds RowsAre (rmdir_refusals n p) _ (λ h. none))
answer-rows n k (step.Unlink path) live =
    bind-holds RowsAre (asked_path n k path) _ (λ p e.
    then-holds RowsAre (unlink_refusals n p) _ (λ h. loss-rows (without_node n p) (node_at n p) (node-row n p live)))
answer-rows n k (step.Rename old new) live =
    bind-holds RowsAre (asked_path n k old) _ (λ p e. bind-holds RowsAre (asked_path n k new) _ (λ q f. rename-rows n p q live))
answer-rows n k (step.List path) live =
    bind-holds RowsAre (asked_path n k path) _ (λ p e. then-holds RowsAre (folder_refusals n p) _ (λ h. none))
answer-rows n k (step.Chdir path) live =
    bind-holds RowsAre (asked_path n k path) _ (λ p e. then-holds RowsAre (folder_refusals n p) _ (λ h. none))
answer-rows n k step.Home live = none
answer-rows n k step.Cwd live = none
answer-rows n k (step.Mount source point word) live =
    bind-holds RowsAre (asked_path n k point) _ (λ p e.
    bind-holds RowsAre (wanted errno.ENODEV (fs_type_of word)) _ (λ asked f. mount-rows n p asked source))
answer-rows n k (step.Umount point) live = bind-holds RowsAre (asked_path n k point) _ (λ p e. umount-rows n p)
answer-rows n k (step.Map hold) live = map-rows n k hold
answer-rows n k (step.Unmap hold) live = give_up-rows role.Map n k hold live
answer-rows n k step.Mounts live = none
answer-rows n k step.Dentries live = none
answer-rows n k step.Cells live = none
answer-rows n k (step.Mkfs name) live = mkfs-rows n name
answer-rows n k step.Devices live = none
answer-rows n k _ live = tt

pub changes-have-rows : (n : Namespace) (k : ℕ) (asked : Step) (m : Mark) → ReferencesLive n → All HasRow (namespace_step n k asked m).changes
unfolding namespace_step
changes-have-rows n k step.Shutdown m live = shutdown-rows n m
changes-have-rows n k asked m live = marked-holds RowsAre n (namespace_answer n k asked) m (λ errno. none) (answer-rows n k asked live)

-- formatting changes no row
format-files : (w : WorldState) (asked : Step) (answer : Reply) (row : ℕ) → file_at (after_format w asked answer) row ≡ file_at w row
format-files w (step.Mkfs name) reply.Done row = refl
format-files w (step.Mkfs name) _ row = refl
format-files w _ answer row = refl

pub step-acts : (w : WorldState) (asker : Who) (asked : Step) (m : Mark) (row : ℕ) → step_row asked ≡ None →
    ReferencesLive w.namespace → 0 < row → row ≤ length w.files →
    file_at (world_step w asker asked m).next row
    ≡ changed_file (world_at_change w (namespace_step w.namespace (session_of asker) asked m) row)
    (change_at w.namespace (session_of asker) asked m row) (file_at w row)
unfolding world_step
step-acts w asker asked m row e live l within =
    let outcome = namespace_step w.namespace (session_of asker) asked m in
    let begun : WorldState = record w { namespace = outcome.next } in
    ap (λ found. file_at (step_on w (session_of asker) asked m found).next row) e
    ∙ format-files (fold change_row begun outcome.changes) asked outcome.reply row
    ∙ acts-by-row begun outcome.changes row (changes-have-rows w.namespace (session_of asker) asked m live) l within
