-- The end leaves nothing in use, and brings nothing to rest that is at rest.
use Rattle.std.proofs.Common.{◌≡◌, ◌≢◌, ℕ, suc, ◌+◌, ◌-◌, Bool, true, false, not, ◌&&◌, ◌||◌, Option, Some, None, is_none, is_some, List, [], ◌∷◌, map, filter, fold, reverse, slice_index_or, slice_set, if◌then◌else◌, refl, ap, ◌∙◌, arith}
use Rattle.std.specs.List.{list_all, list_any, enumerate_from}
use Rattle.vfs_base.specs.Path.{Path}
use Rattle.vfs_base.specs.declared.entry.Mark.{Mark}
use Rattle.vfs_base.specs.declared.entry.Mark.TheVariants as mark
use Rattle.vfs_base.specs.declared.entry.Who.{Who}
use Rattle.vfs_base.specs.declared.errno.Errno.TheVariants as errno
use Rattle.vfs_base.specs.declared.kinds.FsType.{FsType}
use Rattle.vfs_base.specs.declared.kinds.FsType.TheVariants as fs
use Rattle.vfs_base.specs.declared.reply.Reply.TheVariants as reply
use Rattle.vfs_base.specs.declared.step.Step.TheVariants as step
use Rattle.vfs_model.specs.Asking.{is_at_rest}
use Rattle.vfs_model.specs.Consistency.{RowsUsed}
use Rattle.vfs_model.specs.FileLife.{Rows, after_end, backing_of, end_of_dropped, end_of_unmounted, free_row, is_held, is_linked, refers_to}
use Rattle.vfs_model.specs.Homes.{change_row}
use Rattle.vfs_model.specs.Lookup.{with_tree}
use Rattle.vfs_model.specs.Namespace.{life_at, same_path}
use Rattle.vfs_model.specs.NamespaceStep.{namespace_step, shutdown_step}
use Rattle.vfs_model.specs.UmountSteps.{come_to_rest, empty_mount, keep_names, remove_all, remove_mount, rows_of_mount, unlinked_rows, unreferred}
use Rattle.vfs_model.specs.World.{world_step}
use Rattle.vfs_model.specs.declared.namespace.Backing.{Backing}
use Rattle.vfs_model.specs.declared.namespace.End.{End}
use Rattle.vfs_model.specs.declared.namespace.End.TheVariants as end
use Rattle.vfs_model.specs.declared.namespace.LiveFile.{LiveFile}
use Rattle.vfs_model.specs.declared.namespace.Mount.{Mount}
use Rattle.vfs_model.specs.declared.namespace.Namespace.{Namespace}
use Rattle.vfs_model.specs.declared.namespace.Reference.{Reference}
use Rattle.vfs_model.specs.declared.namespace.RowChange.{RowChange}
use Rattle.vfs_model.specs.declared.namespace.RowChange.TheVariants as change
use Rattle.vfs_model.specs.declared.world.WorldState.{WorldState}

-- changes of rows leave the namespace as it was
pub changed-namespace : (changes : List RowChange) (w : WorldState) → (fold change_row w changes).namespace ≡ w.namespace
changed-namespace [] w = refl
changed-namespace (change.Bind id begins ∷ changes) w = changed-namespace changes (change_row w (change.Bind id begins))
changed-namespace (change.Free id ending ∷ changes) w = changed-namespace changes (change_row w (change.Free id ending))

-- the references and the working directories
abbrev users : Namespace → List (Option Reference) × List Path
users n = (n.references, n.working_directories)

abbrev no-users : List (Option Reference) × List Path → Bool
no-users used = list_all is_none used.0 && list_all (same_path []) used.1

ended-users : (n : Namespace) (e : End) → users (after_end n e) ≡ users n
ended-users n end.Nothing = refl
ended-users n (end.Spare volume cell) = refl
ended-users n (end.Kept volume cell) = refl
ended-users n (end.Device device) = refl

freed-users : (ending : Backing → End) (left : List ℕ) (rows : Rows) → users (fold (free_row ending) rows left).next ≡ users rows.next
unfolding free_row
freed-users ending [] rows = refl
freed-users ending (row ∷ left) rows =
    freed-users ending left (free_row ending rows row)
    ∙ ended-users (record rows.next { live_files = slice_set rows.next.live_files (row - 1) None }) (ending (backing_of (life_at rows.next row)))

kept-users : (n : Namespace) (mount : Mount) (f : FsType) → users (with_tree (keep_names n mount f) mount.number []) ≡ users n
kept-users n mount fs.Tmp = refl
kept-users n mount fs.Rom = refl
kept-users n mount fs.Cell = refl
kept-users n mount fs.Dev = refl

emptied-users : (rows : Rows) (mount : Mount) → users (empty_mount rows mount).next ≡ users rows.next
unfolding empty_mount
emptied-users rows mount = freed-users end_of_unmounted (rows_of_mount rows.next mount.number) _ ∙ kept-users rows.next mount mount.fs

removed-users : (left : List Mount) (rows : Rows) → users (fold remove_mount rows left).next ≡ users rows.next
unfolding remove_mount
removed-users [] rows = refl
removed-users (mount ∷ left) rows = removed-users left (remove_mount rows mount) ∙ emptied-users rows mount

all-removed-users : (n : Namespace) → users (remove_all n).next ≡ users (unreferred n)
unfolding remove_all come_to_rest
all-removed-users n =
    emptied-users (fold remove_mount (come_to_rest n) (reverse n.mounts)) n.root ∙ removed-users (reverse n.mounts) (come_to_rest n)
    ∙ freed-users end_of_dropped (unlinked_rows n) (record { next = unreferred n; changes = [] })

none-left : (references : List (Option Reference)) (folders : List Path) → no-users (map (λ reference. None) references, map (λ folder. []) folders) ≡ true
none-left [] [] = refl
none-left [] (folder ∷ folders) = none-left [] folders
none-left (reference ∷ references) folders = none-left references folders

all-removed-rests : (n : Namespace) → is_at_rest (remove_all n).next ≡ true
all-removed-rests n = ap no-users (all-removed-users n) ∙ none-left n.references n.working_directories

shutdown-rests : (n : Namespace) (m : Mark) → (shutdown_step n m).reply ≢ reply.Refused errno.ENOMEM → is_at_rest (shutdown_step n m).next ≡ true
unfolding shutdown_step
shutdown-rests n mark.Clear h = all-removed-rests n
shutdown-rests n (mark.Fault moved) h = all-removed-rests n
shutdown-rests n (mark.NoMem moved) h = absurd (h refl)

pub shutdown-leaves-rest : (w : WorldState) (asker : Who) (m : Mark) → (world_step w asker step.Shutdown m).reply ≢ reply.Refused errno.ENOMEM →
    is_at_rest (world_step w asker step.Shutdown m).next.namespace ≡ true
unfolding world_step namespace_step
shutdown-leaves-rest w asker m h =
    let out = shutdown_step w.namespace m in
    ap is_at_rest (changed-namespace out.changes (record w { namespace = out.next })) ∙ shutdown-rests w.namespace m h

-- what is at rest stays as it is
same-references : (references : List (Option Reference)) → list_all is_none references ≡ true → map (λ reference. None) references ≡ references
same-references [] h = refl
same-references (None ∷ references) h = ap (λ later. None ∷ later) (same-references references h)
same-references (Some reference ∷ references) h = absurd (cc)

same-folders : (folders : List Path) → list_all (same_path []) folders ≡ true → map (λ folder. []) folders ≡ folders
same-folders [] h = refl
same-folders ([] ∷ folders) h = ap (λ later. [] ∷ later) (same-folders folders h)
same-folders ((name ∷ names) ∷ folders) h = absurd (cc)

unheld : (row : ℕ) (references : List (Option Reference)) → list_all is_none references ≡ true → list_any (refers_to row) references ≡ false
unheld row [] h = refl
unheld row (None ∷ references) h = unheld row references h
unheld row (Some reference ∷ references) h = absurd (cc)

and-first : (a b : Bool) → (a && b) ≡ true → a ≡ true
and-first true b h = refl
and-first false b h = absurd (cc)

and-second : (a b : Bool) → (a && b) ≡ true → b ≡ true
and-second true b h = h
and-second false b h = absurd (cc)

or-left : (a b : Bool) → (a || b) ≡ true → b ≡ false → a ≡ true
or-left true b h k = refl
or-left false b h k = absurd (cc)

-- where each live file has a name, none is without
all-linked : (n : Namespace) (from : ℕ) (live_files : List (Option LiveFile)) →
    ((place : ℕ) → is_some (slice_index_or live_files place None) ≡ true → is_linked n (from + place) ≡ true) →
    filter (λ row. is_some row.1 && not (is_linked n row.0)) (enumerate_from from live_files) ≡ []
all-linked n from [] h = refl
all-linked n from (None ∷ live_files) h = all-linked n (from + 1) live_files (λ place e. ap (is_linked n) (omega arith) ∙ h (suc place) e)
all-linked n from (Some life ∷ live_files) h =
    let linked : is_linked n from ≡ true = ap (is_linked n) (omega arith) ∙ h 0 refl in
    let later : List (ℕ × Option LiveFile) = filter (λ row. is_some row.1 && not (is_linked n row.0)) (enumerate_from (from + 1) live_files) in
    ap (λ b. if not b then (from, Some life) ∷ later else later) linked
    ∙ all-linked n (from + 1) live_files (λ place e. ap (is_linked n) (omega arith) ∙ h (suc place) e)

no-unlinked : (n : Namespace) → RowsUsed n → list_all is_none n.references ≡ true → unlinked_rows n ≡ []
no-unlinked n used h =
    ap (map (λ row. row.0)) (all-linked n 1 n.live_files (λ place e.
    or-left (is_linked n (1 + place)) (is_held n (1 + place))
    (used.used (1 + place) (omega arith) (ap (λ k. is_some (slice_index_or n.live_files k None)) (omega arith) ∙ e)) (unheld (1 + place) n.references h)))

pub rest-stays-same : (n : Namespace) → RowsUsed n → is_at_rest n ≡ true → come_to_rest n ≡ record { next = n; changes = [] }
unfolding come_to_rest
rest-stays-same n used h =
    let none = and-first (list_all is_none n.references) _ h in
    let references = same-references n.references none in
    let folders = same-folders n.working_directories (and-second (list_all is_none n.references) _ h) in
    ap (fold (free_row end_of_dropped) (record { next = unreferred n; changes = [] })) (no-unlinked n used none)
    ∙ ap (λ found. record { next = record n { references = found; working_directories = map (λ folder. []) n.working_directories }; changes = [] }) references
    ∙ ap (λ found. record { next = record n { working_directories = found }; changes = [] }) folders
