-- What a contract sees of a mount tree: the mounts, in the order of mounting.
use Rattle.std.specs.Prelude.{◌≡◌, ℕ, ◌<◌, ◌≤◌, ◌==◌, Bool, not, Option, List, [], ◌∷◌, ◌++◌, length, filter, find, slice_index_or}
use Rattle.std.specs.List.{list_any, position_or_len, range_with_len}
use Rattle.vfs_base.specs.Path.{Path}
use Rattle.vfs_base.specs.declared.limits.TheConstants.{MOUNTS}
use Rattle.vfs_model.specs.Consistency.{AllDiffer}
use Rattle.vfs_model.specs.Lookup.{is_below, nearest}
use Rattle.vfs_model.specs.Namespace.{root_mount, same_path}
use Rattle.vfs_model.specs.declared.namespace.Mount.{Mount}

pub record MountList : Type 0 where
  -- the mount of `/`
  pub root : Mount
  -- the others, in the order of mounting
  pub others : List Mount

-- all mounts, in the order of mounting: `/` comes first
abbrev pub mounts_of : MountList → List Mount
mounts_of mounts = mounts.root ∷ mounts.others

-- the mount with the longest point that is a prefix of the path
abbrev pub covering : MountList → Path → Mount
covering mounts path = nearest path mounts.root mounts.others

-- the mount at this point
abbrev pub mount_at : MountList → Path → Option Mount
mount_at mounts path = find (λ mount. same_path mount.point path) (mounts_of mounts)

-- a mount has this point
abbrev pub has_point : MountList → Path → Bool
has_point mounts path = list_any (λ mount. same_path mount.point path) (mounts_of mounts)

-- a mount's point lies below the path
abbrev pub has_point_below : MountList → Path → Bool
has_point_below mounts path = list_any (λ mount. is_below path mount.point) (mounts_of mounts)

-- the mount of this number
abbrev pub mount_numbered : MountList → ℕ → Option Mount
mount_numbered mounts number = find (λ mount. mount.number == number) (mounts_of mounts)

-- a mount has this number
abbrev pub has_number : MountList → ℕ → Bool
has_number mounts number = list_any (λ mount. mount.number == number) (mounts_of mounts)

-- the least number from 0 to 15 that no mount has, or 16 where all are used
abbrev pub least_free_number : MountList → ℕ
least_free_number mounts = position_or_len (λ number. not (has_number mounts number)) (range_with_len 0 MOUNTS)

-- one more mount, the last one in the order of mounting
abbrev pub with_mount : MountList → Mount → MountList
with_mount mounts mount = record mounts { others = mounts.others ++ mount ∷ [] }

-- the others without the mount of this number
abbrev pub without_mount : MountList → ℕ → MountList
without_mount mounts number = record mounts { others = filter (λ other. not (other.number == number)) mounts.others }

-- what holds of the mounts at any time
pub record AreMounts (mounts : MountList) : Type 0 where
  pub root : mounts.root ≡ root_mount
  pub few : length (mounts_of mounts) ≤ MOUNTS
  pub numbers : (place : ℕ) (d : Mount) → place < length (mounts_of mounts) → (slice_index_or (mounts_of mounts) place d).number < MOUNTS
  pub numbers_differ : AllDiffer (λ mount. mount.number) (mounts_of mounts)
  pub points_differ : AllDiffer (λ mount. mount.point) (mounts_of mounts)
