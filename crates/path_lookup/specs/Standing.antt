-- Mounts and their trees, as a namespace that has nothing else.
use Rattle.std.specs.Prelude.{◌≡◌, ℕ, false, List, [], length}
use Rattle.vfs_base.specs.declared.limits.TheConstants.{MOUNTS}
use Rattle.vfs_model.specs.Consistency.{FoldersStand, IsClosedTree}
use Rattle.vfs_model.specs.Lookup.{is_dir_node}
use Rattle.vfs_model.specs.Namespace.{Tree, tree_of}
use Rattle.vfs_model.specs.declared.namespace.Namespace.{Namespace}
use Rattle.mount_tree.specs.MountList.{MountList}

-- the namespace of the mounts and of the tree of each, by number
abbrev pub space_of : MountList → List Tree → Namespace
space_of mounts trees = record {
  root = mounts.root;
  mounts = mounts.others;
  trees = trees;
  live_files = [];
  generations = [];
  references = [];
  working_directories = [];
  volumes = [];
  roms = [];
  devices = [];
  is_stopped = false;
}

-- each point stands on a folder, each tree is closed, and there is one for each number
pub record IsStanding (n : Namespace) : Type 0 where
  pub folders : FoldersStand n
  pub closed : (number : ℕ) → IsClosedTree is_dir_node (tree_of n number)
  pub places : length n.trees ≡ MOUNTS
