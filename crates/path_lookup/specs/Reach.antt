-- How far a path leads in the tree of its mount, and what that says of the path.
use Rattle.std.specs.Prelude.{◌≡◌, ℕ, ◌+◌, ◌≤◌, ◌<◌, ◌==◌, Option, Some, None, length, take, if◌then◌else◌}
use Rattle.vfs_base.specs.Path.{Path}
use Rattle.vfs_base.specs.declared.errno.Errno.{Errno}
use Rattle.vfs_base.specs.declared.errno.Errno.TheVariants as errno
use Rattle.vfs_base.specs.declared.kinds.NodeKind.{NodeKind}
use Rattle.vfs_base.specs.declared.kinds.NodeKind.TheVariants as node
use Rattle.vfs_model.specs.Lookup.{node_in}
use Rattle.vfs_model.specs.Namespace.{Tree}

-- so many of the first names lead to a node, as many as do
pub record Reaches (tree : Tree) (rest : Path) (count : ℕ) (found : NodeKind) : Type 0 where
  pub within : count ≤ length rest
  pub node : node_in tree (take count rest) ≡ Some found
  pub ends : count < length rest → node_in tree (take (count + 1) rest) ≡ None

-- what a walk is refused with that has come to a node with so many names left
abbrev pub refusal_reached : ℕ → NodeKind → Option Errno
refusal_reached left (node.File file kind) = if left == 0 then None else Some errno.ENOTDIR
refusal_reached left node.Dir = if left == 0 then None else if left == 1 then None else Some errno.ENOENT

-- what stands at the path of such a walk
abbrev pub node_reached : ℕ → NodeKind → Option NodeKind
node_reached left found = if left == 0 then Some found else None
