-- Which mount an unmount takes, and room for the names of its tree.
use Rattle.std.specs.Prelude.{◌≡◌, ℕ, ◌≤◌, List, [], length, vec_capacity, Result, Ok}
use Rattle.vfs_base.specs.declared.errno.Errno.{Errno}
use Rattle.vfs_base.specs.declared.errno.Errno.TheVariants as errno
use Rattle.vfs_model.specs.Chain.{◌>>=◌, ◌>>◌, refuse◌when◌, wanted}
use Rattle.vfs_model.specs.Lookup.{asked_path}
use Rattle.vfs_model.specs.Namespace.{tree_of}
use Rattle.vfs_model.specs.UmountSteps.{is_busy, mount_at_point}
use Rattle.vfs_model.specs.declared.namespace.Mount.{Mount}
use Rattle.vfs_model.specs.declared.namespace.Namespace.{Namespace}
use Rattle.plain_mounts.specs.declared.leaving.Leaving.{Leaving}

-- the mount that an unmount takes, or what refuses it
abbrev pub umount_refusals : Namespace → ℕ → List ℕ → Result Mount Errno
umount_refusals n k text = do
  path ← asked_path n k text
  mount ← wanted errno.EINVAL (mount_at_point n path)
  refuse errno.EBUSY when (is_busy n mount)
  Ok mount

-- the mount that leaves has room for the names of its tree, and none is in it
pub record HasRoom (n : Namespace) (leaving : Leaving) : Type 0 where
  pub empty : leaving.room.items ≡ []
  pub room : length (tree_of n leaving.mount.number) ≤ vec_capacity leaving.room
