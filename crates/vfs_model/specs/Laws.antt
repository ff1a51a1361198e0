-- The laws of the definitions, each proved once for all who stand on them.
use Rattle.std.specs.Prelude.{◌≡◌, ℕ, ◌≤◌, ◌<◌, ◌≢◌, Bool, true, false, not, ◌&&◌, ◌==◌, ◌++◌, drop, filter, Ok, Some, None, Option, List, [], ◌∷◌, length, slice_index_or}
use Rattle.std.specs.FinMap.Entries.{find as value_at, is_sorted}
use Rattle.std.specs.List.{list_all, list_any}
use Rattle.vfs_base.specs.Name.{is_name}
use Rattle.vfs_base.specs.Path.{Path, path_cmp, printed}
use Rattle.vfs_base.specs.declared.entry.Mark.{Mark}
use Rattle.vfs_base.specs.declared.entry.Who.{Who}
use Rattle.vfs_base.specs.declared.errno.Errno.{Errno}
use Rattle.vfs_base.specs.declared.kinds.NodeKind.{NodeKind}
use Rattle.vfs_base.specs.declared.kinds.NodeKind.TheVariants as node
use Rattle.vfs_base.specs.declared.reply.Reply.TheVariants as reply
use Rattle.vfs_base.specs.declared.step.Step.{Step}
use Rattle.vfs_base.specs.declared.step.Step.TheVariants as step
use Rattle.vfs_model.specs.Lookup.{covering_mount, has_nodes, is_below, is_prefix, node_at, node_in, rest_of, with_node, with_tree}
use Rattle.vfs_model.specs.NameSteps.{without_node}
use Rattle.vfs_model.specs.Namespace.{Tree, all_mounts, tree_of}
use Rattle.vfs_model.specs.NormalPath.{is_dot, is_dot_dot, normal_path}
use Rattle.vfs_model.specs.NamespaceStep.{is_shutdown, namespace_step}
use Rattle.vfs_model.specs.RenameStep.{moved, with_moved}
use Rattle.vfs_model.specs.World.{world_step}
use Rattle.vfs_model.specs.declared.namespace.Mount.{Mount}
use Rattle.vfs_model.specs.declared.namespace.Namespace.{Namespace}
use Rattle.vfs_model.specs.declared.world.WorldState.{WorldState}

-- a step of the namespace that is refused leaves it as it was, and changes no row
abbrev pub RefusedStepChangesNothing : Type 0
RefusedStepChangesNothing = (n : Namespace) (k : ℕ) (asked : Step) (m : Mark) (errno : Errno) → is_shutdown asked ≡ false →
    (namespace_step n k asked m).reply ≡ reply.Refused errno →
    ((namespace_step n k asked m).next ≡ n) × ((namespace_step n k asked m).changes ≡ [])

-- a step that is refused leaves the world as it was
abbrev pub RefusedWorldStaysSame : Type 0
RefusedWorldStaysSame = (w : WorldState) (asker : Who) (asked : Step) (m : Mark) (errno : Errno) → is_shutdown asked ≡ false →
    (world_step w asker asked m).reply ≡ reply.Refused errno → (world_step w asker asked m).next ≡ w

-- the worker changes nothing that a caller sees
abbrev pub WorkerChangesNothing : Type 0
WorkerChangesNothing = (w : WorldState) (asker : Who) (row : ℕ) (m : Mark) →
    ((world_step w asker (step.Flush row) m).next ≡ w) × ((world_step w asker (step.Reclaim row) m).next ≡ w)

-- The covering mount is the one with the longest point that is a prefix of the path. `/` is one, so there is one.
pub record IsLongestPoint (n : Namespace) (path : Path) (found : Mount) : Type 0 where
  pub prefix : is_prefix found.point path ≡ true
  pub among : (place : ℕ) × (place < length (all_mounts n)) × (slice_index_or (all_mounts n) place found ≡ found)
  pub longest : (place : ℕ) (d : Mount) → place < length (all_mounts n) →
      is_prefix (slice_index_or (all_mounts n) place d).point path ≡ true →
      length (slice_index_or (all_mounts n) place d).point ≤ length found.point

abbrev pub CoveringMountIsLongest : Type 0
CoveringMountIsLongest = (n : Namespace) (path : Path) → n.root.point ≡ [] → IsLongestPoint n path (covering_mount n path)

-- The mount of `/` is there, and no two points have mounts of one number.
pub record MountsApart (n : Namespace) : Type 0 where
  pub root : n.root.point ≡ []
  pub own : (p q : Path) → (covering_mount n p).number ≡ (covering_mount n q).number →
      (covering_mount n p).point ≡ (covering_mount n q).point

-- this stands at the path now, and what stands at any other path is as before
abbrev pub ChangesNode : Namespace → Namespace → Path → Option NodeKind → Type 0
ChangesNode before now path found =
    (node_at now path ≡ found) × ((other : Path) → other ≢ path → node_at now other ≡ node_at before other)

-- a node put at a path that is no point stands there, and no other path changes
abbrev pub PutNodeStands : Type 0
PutNodeStands = (n : Namespace) (path : Path) (new : NodeKind) → MountsApart n →
    (covering_mount n path).number < length n.trees → rest_of n path ≢ [] → ChangesNode n (with_node n path new) path (Some new)

-- a node taken away at a path that is no point is gone, and no other path changes
abbrev pub TakenNodeIsGone : Type 0
TakenNodeIsGone = (n : Namespace) (path : Path) → MountsApart n →
    (covering_mount n path).number < length n.trees → rest_of n path ≢ [] → ChangesNode n (without_node n path) path None

-- a name that a text can lead to: neither `.` nor `..`
abbrev pub is_normal_name : List ℕ → Bool
is_normal_name name = is_name name && not (is_dot name) && not (is_dot_dot name)

-- a normal path has no part that is empty, `.` or `..`, where the folder that it starts from has none
abbrev pub NormalPathHasNormalNames : Type 0
NormalPathHasNormalNames = (folder : Path) (text : List ℕ) (path : Path) → list_all is_normal_name folder ≡ true →
    normal_path folder text ≡ Ok path → (list_all is_normal_name path ≡ true) × (length (printed path) ≤ 1024)

-- the printed form of a normal path names it again, from any folder on
abbrev pub PrintedPathNamesItself : Type 0
PrintedPathNamesItself = (folder path : Path) → list_all is_normal_name path ≡ true → length (printed path) ≤ 1024 →
    normal_path folder (printed path) ≡ Ok path

-- a mount more, with its tree
abbrev pub with_mount : Namespace → Mount → Tree → Namespace
with_mount n mount tree = with_tree (record n { mounts = n.mounts ++ mount ∷ [] }) mount.number tree

-- the mount with this number is gone, and its tree
abbrev pub without_mount : Namespace → ℕ → Namespace
without_mount n number = with_tree (record n { mounts = filter (λ other. not (other.number == number)) n.mounts }) number []

-- no mount's point is the path or lies below it
abbrev pub HasNoPoint : Namespace → Path → Type 0
HasNoPoint n path = list_any (λ mount. is_prefix path mount.point) (all_mounts n) ≡ false

-- At and below its point a new mount shows its own tree, and what stands at any other path stays: where no mount's
-- point is its point or lies below it, and none has its number.
abbrev pub MountShowsItsTree : Type 0
MountShowsItsTree = (n : Namespace) (mount : Mount) (tree : Tree) (path : Path) → n.root.point ≡ [] →
    HasNoPoint n mount.point → list_any (λ other. other.number == mount.number) (all_mounts n) ≡ false → mount.number < length n.trees →
    (is_prefix mount.point path ≡ true → node_at (with_mount n mount tree) path ≡ node_in tree (drop (length mount.point) path))
    × (is_prefix mount.point path ≡ false → node_at (with_mount n mount tree) path ≡ node_at n path)

-- a mount that goes changes no path that another mount covers
abbrev pub UnmountLeavesOtherMounts : Type 0
UnmountLeavesOtherMounts = (n : Namespace) (number : ℕ) (path : Path) → n.root.number ≢ number →
    (covering_mount n path).number ≢ number → node_at (without_mount n number) path ≡ node_at n path

-- At and below new stands what stood at and below old, at old nothing stands any more but what is new, and what
-- stands at any other path stays: `before` and `now` tell what stood and what stands at a path.
abbrev pub MovesNodes : (Path → Option NodeKind) → (Path → Option NodeKind) → Path → Path → Type 0
MovesNodes before now old new =
    ((rest : Path) → now (new ++ rest) ≡ before (old ++ rest))
    × ((path : Path) → is_prefix new path ≡ false → is_prefix old path ≡ true → now path ≡ None)
    × ((path : Path) → is_prefix new path ≡ false → is_prefix old path ≡ false → now path ≡ before path)

-- a subtree moves within a tree, where no node lies below new
abbrev pub MovedSubtreeStands : Type 0
MovedSubtreeStands = (old new : Path) (tree : Tree) → is_sorted path_cmp tree ≡ true →
    list_any (λ entry. is_below new entry.0) tree ≡ false →
    MovesNodes (λ path. value_at path_cmp path tree) (λ path. value_at path_cmp path (moved old new tree)) old new

-- a rename within a mount, where no point is old or new or lies below one of them, and no node lies below new
abbrev pub RenamedSubtreeStands : Type 0
RenamedSubtreeStands = (n : Namespace) (old new : Path) → MountsApart n →
    (covering_mount n old).number ≡ (covering_mount n new).number → (covering_mount n old).number < length n.trees →
    is_sorted path_cmp (tree_of n (covering_mount n old).number) ≡ true → HasNoPoint n old → HasNoPoint n new →
    has_nodes n new ≡ false → MovesNodes (node_at n) (node_at (with_moved n old new)) old new

-- a mount without nodes, on a folder without nodes, changes no path
abbrev pub EmptyMountChangesNoNode : Type 0
EmptyMountChangesNoNode = (n : Namespace) (mount : Mount) (path : Path) → MountsApart n → HasNoPoint n mount.point →
    list_any (λ other. other.number == mount.number) (all_mounts n) ≡ false → mount.number < length n.trees →
    node_at n mount.point ≡ Some node.Dir → has_nodes n mount.point ≡ false →
    node_at (with_mount n mount []) path ≡ node_at n path
