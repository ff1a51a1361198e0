-- A mount changes no rom.
use Rattle.std.proofs.Common.{◌≡◌, ℕ, ◌+◌, List, [], ◌∷◌, ◌++◌, refl, ap, sym, ◌∙◌}
use Rattle.std.specs.Prelude.{Option, Some, None, Result, Ok, Err, OnErr, map}
use Rattle.vfs_base.specs.Path.{Path}
use Rattle.vfs_base.specs.declared.errno.Errno.{Errno}
use Rattle.vfs_base.specs.declared.errno.Errno.TheVariants as errno
use Rattle.vfs_base.specs.declared.kinds.FsType.{FsType}
use Rattle.vfs_base.specs.declared.kinds.FsType.TheVariants as fs
use Rattle.vfs_base.specs.declared.kinds.NodeKind.TheVariants as node
use Rattle.vfs_base.specs.declared.reply.Reply.TheVariants as reply
use Rattle.vfs_model.specs.Chain.{◌>>=◌, ◌>>◌, wanted}
use Rattle.vfs_model.specs.Content.{Content, content_of, fs_type_of}
use Rattle.vfs_model.specs.FileLife.{Rows, after_taking, bind_row}
use Rattle.vfs_model.specs.Lookup.{asked_path}
use Rattle.vfs_model.specs.MountStep.{add_content, add_mount, least_free_mount, mount_at, mount_refusals, mount_step, origin_backing, without_kept}
use Rattle.vfs_model.specs.NameSteps.{done}
use Rattle.vfs_model.specs.NamespaceOutcome.{NamespaceOutcome}
use Rattle.vfs_model.specs.declared.namespace.Backing.{Backing}
use Rattle.vfs_model.specs.declared.namespace.Backing.TheVariants as backing
use Rattle.vfs_model.specs.declared.namespace.Mount.{Mount}
use Rattle.vfs_model.specs.declared.namespace.Namespace.{Namespace}
use Rattle.vfs_model.specs.declared.namespace.Origin.{Origin}
use Rattle.plain_nodes.specs.Changes.{row_change}
use Rattle.vfs_model.specs.Gives.{Gives}
use Rattle.plain_mounts.specs.Mounting.{add_entries, with_mount}
use Rattle.plain_mounts.specs.declared.mounting.Mounted.{Mounted}
use Rattle.vfs_model.specs.declared.refusal.Stop.{Stop}

roms_taking : (n : Namespace) (b : Backing) → (after_taking n b).roms ≡ n.roms
roms_taking n backing.Memory = refl
roms_taking n (backing.Cell volume cell) = refl
roms_taking n (backing.Device device) = refl

entry_stays : (mount : Mount) (rows : Rows) (path : Path) (begins : Option Origin) → (add_content mount rows path begins).next.roms ≡ rows.next.roms
unfolding bind_row
entry_stays mount rows path None = refl
entry_stays mount rows path (Some begins) = roms_taking _ (origin_backing begins)

entries_stay : (mount : Mount) (rows : Rows) (content : Content) → (add_entries mount rows content).next.roms ≡ rows.next.roms
entries_stay mount rows [] = refl
entries_stay mount rows (entry ∷ content) =
    entries_stay mount (add_content mount rows entry.0 entry.1) content ∙ entry_stays mount rows entry.0 entry.1

kept_stays : (n : Namespace) (asked : FsType) (source : List ℕ) → (without_kept n asked source).roms ≡ n.roms
kept_stays n fs.Tmp source = refl
kept_stays n fs.Rom source = refl
kept_stays n fs.Cell source = refl
kept_stays n fs.Dev source = refl

mount_stays : (n : Namespace) (mount : Mount) → (add_mount n mount).next.roms ≡ n.roms
unfolding add_mount
mount_stays n mount =
    entries_stay mount (record { next = with_mount n mount; changes = [] }) (content_of n mount.fs mount.source)
    ∙ kept_stays (record n { mounts = n.mounts ++ mount ∷ [] }) mount.fs mount.source

abbrev next_of : Namespace → Result NamespaceOutcome Errno → Namespace
next_of n (Ok outcome) = outcome.next
next_of n (Err errno) = n

-- what a mount gives that is not refused
module _ (n : Namespace) (source : List ℕ) (outcome : NamespaceOutcome) where
  at_refusals : (path : Path) (asked : FsType) (passed : Result (Unit {0}) Errno) →
      (passed >> done (add_mount n (record { number = least_free_mount n; point = path; fs = asked; source = source }))) ≡ Ok outcome → outcome.next.roms ≡ n.roms
  at_refusals path asked (Err refused) e = absurd (cc (e))
  at_refusals path asked (Ok passed) e =
      let mount : Mount = record { number = least_free_mount n; point = path; fs = asked; source = source } in
      let next : (add_mount n mount).next ≡ outcome.next = ap (next_of n) e in
      ap (λ (m : Namespace). m.roms) (sym next) ∙ mount_stays n mount

  at_type : (path : Path) (asked : Option FsType) → (wanted errno.ENODEV asked >>= λ asked. mount_at n path asked source) ≡ Ok outcome → outcome.next.roms ≡ n.roms
  unfolding mount_at
  at_type path None e = absurd (cc (e))
  at_type path (Some asked) e = at_refusals path asked (mount_refusals n path asked source) e

  at_path : (text : List ℕ) (path : Result Path Errno) →
      (path >>= λ path. wanted errno.ENODEV (fs_type_of text) >>= λ asked. mount_at n path asked source) ≡ Ok outcome → outcome.next.roms ≡ n.roms
  at_path text (Err errno) e = absurd (cc (e))
  at_path text (Ok path) e = at_type path (fs_type_of text) e

-- a mount that code made or refused
pub roms_after_mount : (n next : Namespace) (k : ℕ) (source point text : List ℕ) (taken : Result Mounted Stop) →
    Gives (λ (mounted : Mounted). record { reply = reply.Done; next = next; changes = map row_change mounted.changes }) taken (mount_step n k source point text) →
    OnErr taken (next ≡ n) → next.roms ≡ n.roms
roms_after_mount n next k source point text (Ok mounted) told err = at_path n source _ text (asked_path n k point) told
roms_after_mount n next k source point text (Err stop) told err = ap (λ (m : Namespace). m.roms) err
