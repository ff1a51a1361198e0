-- A volume keeps the names of a tree that was taken out.
use Rattle.std.proofs.Common.{◌≡◌, ℕ, List, [], map, slice_index_or, slice_set, refl}
use Rattle.vfs_base.specs.Path.{Path}
use Rattle.vfs_base.specs.declared.kinds.FsType.TheVariants as fs
use Rattle.vfs_model.specs.FileLife.{no_volume, volume_named}
use Rattle.vfs_model.specs.Lookup.{with_tree}
use Rattle.vfs_model.specs.Namespace.{Tree, tree_of}
use Rattle.vfs_model.specs.UmountSteps.{keep_names, kept_node}
use Rattle.vfs_model.specs.declared.namespace.KeptNode.{KeptNode}
use Rattle.vfs_model.specs.declared.namespace.Mount.{Mount}
use Rattle.vfs_model.specs.declared.namespace.Namespace.{Namespace}
use Rattle.vfs_model.specs.declared.namespace.VolumeState.{VolumeState}

pub names_kept : (n m : Namespace) (mount : Mount) (tree : Tree) (kept : List (Path × KeptNode)) (volume : ℕ) (volumes : List VolumeState) →
    m ≡ with_tree n mount.number [] → tree ≡ tree_of n mount.number →
    kept ≡ map (λ entry. (entry.0, kept_node m entry.1)) tree →
    volume ≡ volume_named m mount.source →
    volumes ≡ slice_set m.volumes volume (record (slice_index_or m.volumes volume no_volume) { kept = kept }) →
    mount.fs ≡ fs.Cell →
    record m { volumes = volumes } ≡ with_tree (keep_names n mount mount.fs) mount.number []
names_kept n m mount tree kept volume volumes taken tree_is kept_is volume_is volumes_is is_cell =
    rw (is_cell, volumes_is, volume_is, kept_is, tree_is, taken) refl
