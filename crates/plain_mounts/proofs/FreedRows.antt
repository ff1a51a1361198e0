-- Unmounting frees rows only, and so brings no bytes.
use Rattle.std.proofs.Common.{◌≡◌, ℕ, ◌-◌, List, [], ◌∷◌, ◌++◌, map, reverse, refl, ap, sym, subst, arith}
use Rattle.std.specs.Prelude.{Bool, true, false, not, Option, Some, None, Result, Ok, Err, IfOk, fold}
use Rattle.std.specs.List.{list_all}
use Rattle.vfs_base.specs.Path.{Path}
use Rattle.vfs_base.specs.declared.errno.Errno.{Errno}
use Rattle.vfs_base.specs.declared.errno.Errno.TheVariants as errno
use Rattle.vfs_base.specs.declared.reply.Reply.TheVariants as reply
use Rattle.vfs_base.specs.declared.kinds.FsType.TheVariants as fs
use Rattle.vfs_model.specs.Chain.{◌>>=◌, ◌>>◌, refuse◌when◌, wanted}
use Rattle.vfs_model.specs.FileLife.{Rows, end_of_dropped, end_of_unmounted, free_row}
use Rattle.vfs_model.specs.Lookup.{asked_path}
use Rattle.vfs_model.specs.NameSteps.{done}
use Rattle.vfs_model.specs.NamespaceOutcome.{NamespaceOutcome}
use Rattle.vfs_model.specs.UmountSteps.{come_to_rest, empty_mount, is_busy, mount_at_point, remove_all, remove_mount, rows_of_mount, umount_at, umount_step, unlinked_rows, unreferred}
use Rattle.vfs_model.specs.declared.namespace.Backing.{Backing}
use Rattle.vfs_model.specs.declared.namespace.End.{End}
use Rattle.vfs_model.specs.declared.namespace.End.TheVariants as end
use Rattle.vfs_model.specs.declared.namespace.Mount.{Mount}
use Rattle.vfs_model.specs.declared.namespace.Namespace.{Namespace}
use Rattle.vfs_model.specs.declared.namespace.RowChange.{RowChange}
use Rattle.plain_nodes.specs.Changes.{brings_no_bytes, frees, row_change}
use Rattle.plain_nodes.specs.declared.changes.Change.{Change}
use Rattle.plain_nodes.specs.declared.changes.Change.TheVariants as told
use Rattle.vfs_base.specs.declared.no_memory.NoMemory.{NoMemory}
use Rattle.vfs_model.specs.Gives.{Gives}
use Rattle.vfs_model.specs.declared.refusal.Stop.{Stop}

changes_of : Result NamespaceOutcome Errno → List RowChange
changes_of (Ok outcome) = outcome.changes
changes_of (Err errno) = []

-- what an unmount gives that is not refused
module _ (n : Namespace) (P : NamespaceOutcome → Type 0)
    (gone : (mount : Mount) (outcome : NamespaceOutcome) → done (remove_mount (record { next = n; changes = [] }) mount) ≡ Ok outcome → P outcome)
    (outcome : NamespaceOutcome) where
  at_busy : (mount : Mount) (busy : Bool) →
      (refuse errno.EBUSY when busy >> done (remove_mount (record { next = n; changes = [] }) mount)) ≡ Ok outcome → P outcome
  at_busy mount true e = absurd (cc (e))
  at_busy mount false e = gone mount outcome e

  at_mount : (found : Option Mount) →
      (wanted errno.EINVAL found >>= λ mount. refuse errno.EBUSY when (is_busy n mount) >> done (remove_mount (record { next = n; changes = [] }) mount)) ≡ Ok outcome →
      P outcome
  at_mount None e = absurd (cc (e))
  at_mount (Some mount) e = at_busy mount (is_busy n mount) e

  at_path : (asked : Result Path Errno) → (asked >>= umount_at n) ≡ Ok outcome → P outcome
  unfolding umount_at
  at_path (Err errno) e = absurd (cc (e))
  at_path (Ok path) e = at_mount (mount_at_point n path) e

-- rows are only freed
one_more : (changes : List RowChange) (change : RowChange) → list_all frees changes ≡ true → frees change ≡ true →
    list_all frees (changes ++ change ∷ []) ≡ true
one_more [] change h f = cc (f)
one_more (first ∷ changes) change h f = grind (arith, one_more changes change, h, f)

rows_free : (ending : Backing → End) (rows : Rows) (list : List ℕ) → list_all frees rows.changes ≡ true →
    list_all frees (fold (free_row ending) rows list).changes ≡ true
unfolding free_row
rows_free ending rows [] h = h
rows_free ending rows (row ∷ list) h = rows_free ending (free_row ending rows row) list (one_more rows.changes _ h refl)

removed_frees : (rows : Rows) (mount : Mount) → list_all frees rows.changes ≡ true → list_all frees (remove_mount rows mount).changes ≡ true
unfolding remove_mount empty_mount
removed_frees rows mount h = rows_free end_of_unmounted _ (rows_of_mount rows.next mount.number) h

mounts_free : (rows : Rows) (mounts : List Mount) → list_all frees rows.changes ≡ true → list_all frees (fold remove_mount rows mounts).changes ≡ true
mounts_free rows [] h = h
mounts_free rows (mount ∷ mounts) h = mounts_free (remove_mount rows mount) mounts (removed_frees rows mount h)

emptied_frees : (rows : Rows) (mount : Mount) → list_all frees rows.changes ≡ true → list_all frees (empty_mount rows mount).changes ≡ true
unfolding empty_mount
emptied_frees rows mount h = rows_free end_of_unmounted _ (rows_of_mount rows.next mount.number) h

rest_frees : (n : Namespace) → list_all frees (come_to_rest n).changes ≡ true
unfolding come_to_rest
rest_frees n = rows_free end_of_dropped (record { next = unreferred n; changes = [] }) (unlinked_rows n) refl

end_of_all_frees : (n : Namespace) (rows : Rows) → remove_all n ≡ rows → list_all frees rows.changes ≡ true
unfolding remove_all
end_of_all_frees n rows e =
    rw (sym e) (emptied_frees _ n.root (mounts_free (come_to_rest n) (reverse n.mounts) (rest_frees n)))

umount_frees : (n : Namespace) (k : ℕ) (text : List ℕ) (outcome : NamespaceOutcome) →
    umount_step n k text ≡ Ok outcome → list_all frees outcome.changes ≡ true
unfolding changes_of remove_mount
umount_frees n k text outcome e =
    at_path n (λ outcome. list_all frees outcome.changes ≡ true)
    (λ mount outcome e. subst (λ changes. list_all frees changes ≡ true) (ap changes_of e) (removed_frees (record { next = n; changes = [] }) mount refl))
    outcome (asked_path n k text) e

no_bytes : (told : Change) → frees (row_change told) ≡ true → brings_no_bytes told ≡ true
no_bytes (told.Bind row generation begins) e = absurd (cc (e))
no_bytes (told.Free row generation end) e = refl

-- changes that only free rows bring no bytes
frees_no_bytes : (changes : List Change) → list_all frees (map row_change changes) ≡ true → list_all brings_no_bytes changes ≡ true
frees_no_bytes [] e = refl
frees_no_bytes (told ∷ changes) e = grind (arith, no_bytes told, frees_no_bytes changes, e)

pub plain_after : (n next : Namespace) (k : ℕ) (text : List ℕ) (taken : Result (List Change) Stop) →
    Gives (λ changes. record { reply = reply.Done; next = next; changes = map row_change changes }) taken (umount_step n k text) →
    IfOk taken (λ changes. list_all brings_no_bytes changes ≡ true)
plain_after n next k text (Ok changes) told = frees_no_bytes changes (umount_frees n k text _ told)
plain_after n next k text (Err stop) told = tt

pub plain_after_all : (n next : Namespace) (taken : Result (List Change) NoMemory) →
    IfOk taken (λ changes. remove_all n ≡ record { next = next; changes = map row_change changes }) →
    IfOk taken (λ changes. list_all brings_no_bytes changes ≡ true)
plain_after_all n next (Ok changes) told = frees_no_bytes changes (end_of_all_frees n _ told)
plain_after_all n next (Err stop) told = tt
