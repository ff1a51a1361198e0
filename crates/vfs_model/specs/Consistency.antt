-- What holds of the plain world between steps.
use Rattle.std.specs.Prelude.{◌≡◌, ℕ, ◌==◌, ◌≤◌, ◌<◌, Bool, true, false, not, ◌&&◌, ◌||◌, T, Option, Some, None, is_some, IsSomeAnd, List, [], ◌∷◌, ◌++◌, length, drop, filter, find, nat_le, slice_index_or}
use Rattle.std.specs.FinMap.Entries.{find as value_at, is_sorted}
use Rattle.std.specs.List.{list_any}
use Rattle.vfs_base.specs.Path.{Path, path_cmp, printed}
use Rattle.vfs_base.specs.declared.ids.FileId.{FileId}
use Rattle.vfs_base.specs.declared.kinds.FsType.TheVariants as fs
use Rattle.vfs_base.specs.declared.kinds.Kind.{Kind}
use Rattle.vfs_base.specs.declared.kinds.Kind.TheVariants as kind
use Rattle.vfs_base.specs.declared.kinds.NodeKind.TheVariants as node
use Rattle.vfs_base.specs.declared.limits.TheConstants.{MOUNTS, NODES, PATH_MAX}
use Rattle.vfs_model.specs.FileLife.{is_held, is_linked, volume_named}
use Rattle.vfs_model.specs.Lookup.{is_below, is_folder, nearest, node_in}
use Rattle.vfs_model.specs.Namespace.{all_mounts, folder_of, generation_at, life_at, same_path, tree_of}
use Rattle.vfs_model.specs.OpenStep.{kind_of}
use Rattle.vfs_model.specs.declared.namespace.Backing.{Backing}
use Rattle.vfs_model.specs.declared.namespace.Backing.TheVariants as backing
use Rattle.vfs_model.specs.declared.namespace.LiveFile.{LiveFile}
use Rattle.vfs_model.specs.declared.namespace.Mount.{Mount}
use Rattle.vfs_model.specs.declared.namespace.Namespace.{Namespace}
use Rattle.vfs_model.specs.declared.namespace.Reference.{Reference}
use Rattle.vfs_model.specs.declared.world.FileState.{FileState}
use Rattle.vfs_model.specs.declared.world.FileState.TheVariants as file

-- no two places of the list have one value of the function
abbrev pub AllDiffer : {X Y : Type 0} → (X → Y) → List X → Type 0
AllDiffer {X} value items = (place other : ℕ) (d : X) → place < length items → other < length items →
    value (slice_index_or items place d) ≡ value (slice_index_or items other d) → place ≡ other

abbrev pub same_kind : Kind → Kind → Bool
same_kind kind.Tmp kind.Tmp = true
same_kind kind.Rom kind.Rom = true
same_kind kind.Cell kind.Cell = true
same_kind kind.Chr kind.Chr = true
same_kind _ _ = false

-- a row's file is what its live file says, of the row's generation
abbrev pub agrees : Option LiveFile → ℕ → FileState → Bool
agrees None generation (file.Unbound other) = other == generation
agrees None generation (file.Bytes other kind capacity bytes) = false
agrees None generation (file.Device other input output) = false
agrees (Some life) generation (file.Unbound other) = false
agrees (Some life) generation (file.Bytes other shape capacity bytes) =
    other == generation && same_kind life.kind shape && not (same_kind shape kind.Chr) && nat_le (length bytes) capacity
agrees (Some life) generation (file.Device other input output) = other == generation && same_kind life.kind kind.Chr

-- the file is live with its generation, as a file of this kind in this mount; rows are counted from 1
pub record IsLive (n : Namespace) (id : FileId) (kind : Kind) (number : ℕ) : Type 0 where
  pub row : 0 < id.row
  pub generation : generation_at n id.row ≡ id.generation
  pub life : IsSomeAnd (life_at n id.row) (λ life. (life.kind ≡ kind) × (life.mount ≡ number))

-- a mount has this number
abbrev pub is_number : Namespace → ℕ → Bool
is_number n number = list_any (λ mount. mount.number == number) (all_mounts n)

-- each linked file and each file of a reference is live; a reference and its file name one mount, and it stands
pub record ReferencesLive (n : Namespace) : Type 0 where
  pub linked : (number : ℕ) (path : Path) (id : FileId) (kind : Kind) →
      value_at path_cmp path (tree_of n number) ≡ Some (node.File id kind) → IsLive n id kind number
  pub held : (place : ℕ) (reference : Reference) → slice_index_or n.references place None ≡ Some reference →
      IsLive n reference.file reference.kind reference.mount × (is_number n reference.mount ≡ true)

-- each live file is linked or held, and no file is linked at two places
pub record RowsUsed (n : Namespace) : Type 0 where
  pub used : (row : ℕ) → 0 < row → is_some (life_at n row) ≡ true → (is_linked n row || is_held n row) ≡ true
  pub alone : (number other : ℕ) (p q : Path) (id same : FileId) (kind like : Kind) →
      value_at path_cmp p (tree_of n number) ≡ Some (node.File id kind) →
      value_at path_cmp q (tree_of n other) ≡ Some (node.File same like) →
      id.row ≡ same.row → (number ≡ other) × (p ≡ q)

-- the mount that covers a point, but for the mounts of the point itself
abbrev pub covered_mount : Namespace → Path → Mount
covered_mount n point = nearest point n.root (filter (λ mount. not (same_path mount.point point)) n.mounts)

-- in the tree that a point covers, it is a folder without nodes
abbrev pub stands_on_folder : Namespace → Path → Type 0
stands_on_folder n point =
    let mount = covered_mount n point in
    let rest : Path = drop (length mount.point) point in
    (node_in (tree_of n mount.number) rest ≡ Some node.Dir)
    × (list_any (λ entry. is_below rest entry.0) (tree_of n mount.number) ≡ false)

-- each working directory and each point is a folder, mounts have different points and numbers, and `/` lies in memory
pub record FoldersStand (n : Namespace) : Type 0 where
  pub working_directories : (k : ℕ) → is_folder n (folder_of n k) ≡ true
  pub short : (k : ℕ) → length (printed (folder_of n k)) ≤ PATH_MAX
  pub root : (n.root.point ≡ []) × (n.root.number ≡ 0) × (n.root.fs ≡ fs.Tmp)
  pub points : (place : ℕ) (d : Mount) → place < length n.mounts → stands_on_folder n (slice_index_or n.mounts place d).point
  pub points_differ : AllDiffer (λ mount. mount.point) (all_mounts n)
  pub numbers_differ : AllDiffer (λ mount. mount.number) (all_mounts n)
  pub numbers : (place : ℕ) (d : Mount) → place < length (all_mounts n) → (slice_index_or (all_mounts n) place d).number < MOUNTS
  -- no point lies below one that was mounted later
  pub nested : (place other : ℕ) (d : Mount) → place < other → other < length (all_mounts n) →
      is_below (slice_index_or (all_mounts n) other d).point (slice_index_or (all_mounts n) place d).point ≡ false
  -- a number that no mount has is that of an empty tree
  pub unused : (number : ℕ) → is_number n number ≡ false → tree_of n number ≡ []

-- what a live file lies on is of its mount: the type's kind, and on a cell the mount's volume
abbrev pub fits_mount : Namespace → LiveFile → Mount → Bool
fits_mount n life mount = same_kind life.kind (kind_of mount.fs) && is_of_volume life.backing
  where
    is_of_volume : Backing → Bool
    is_of_volume backing.Memory = true
    is_of_volume (backing.Cell volume cell) = volume == volume_named n mount.source
    is_of_volume (backing.Device device) = true

-- the mount with this number
abbrev pub mount_numbered : Namespace → ℕ → Option Mount
mount_numbered n number = find (λ mount. mount.number == number) (all_mounts n)

-- each live file's mount stands, and the file is one of its files
abbrev pub LivesFit : Namespace → Type 0
LivesFit n = (row : ℕ) (life : LiveFile) → life_at n row ≡ Some life →
    IsSomeAnd (mount_numbered n life.mount) (λ mount. fits_mount n life mount ≡ true)

-- a tree that is not too large, in the order of paths, in which each parent is a folder
pub record IsClosedTree {X : Type 0} (is_dir : Option X → Bool) (tree : List (Path × X)) : Type 0 where
  pub sorted : T (is_sorted path_cmp tree)
  pub rootless : value_at path_cmp [] tree ≡ None
  pub parents : (front : Path) (name : List ℕ) → is_some (value_at path_cmp (front ++ name ∷ []) tree) ≡ true →
      (is_dir (value_at path_cmp front tree) || same_path front []) ≡ true
  pub bounded : length tree ≤ NODES
