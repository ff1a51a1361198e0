-- What a contract sees of `Holders`: what is held, and who holds it.
use Rattle.std.specs.Prelude.{◌≡◌, ℕ, ◌≤◌, ◌+◌, ◌-◌, ◌*◌, ◌==◌, ◌⊎◌, ◌||◌, Bool, true, false, Option, Some, None, option_map, List, [], ◌++◌, drop, length, map, replicate, slice_index_or, slice_set, if◌then◌else◌}
use Rattle.std.specs.List.{list_any, sum_by}
use Rattle.vfs_base.specs.Path.{Path}
use Rattle.vfs_base.specs.declared.limits.TheConstants.{HOLDS, ROWS, SESSIONS}
use Rattle.vfs_model.specs.FileLife.{refers_to}
use Rattle.vfs_model.specs.Lookup.{is_prefix}
use Rattle.vfs_model.specs.Namespace.{root_mount, same_path}
use Rattle.vfs_model.specs.UmountSteps.{refers_to_mount}
use Rattle.vfs_model.specs.declared.namespace.Mount.{Mount}
use Rattle.vfs_model.specs.declared.namespace.Reference.{Reference}
use Rattle.dentry_table.specs.DentryTable.{one_at}
use Rattle.mount_tree.specs.MountList.{MountList, covering, mounts_of, with_mount}
use Rattle.session_holds.specs.SessionTable.{SessionTable, with_reference}
use Rattle.vnode_table.specs.Layout.{one_if}
use Rattle.vnode_table.specs.SlotTable.{SlotTable, bound_slot, held_slot, linked_slot, opening_slot, released_slot, slot_at, with_slot}

pub record Holding : Type 0 where
  -- the mounts, each of which holds its point
  pub mounts : MountList
  -- by row, the vnode slot of a file
  pub rows : SlotTable
  -- by row, where its file stands, while it has a name and references
  pub paths : List (Option Path)
  -- the references and the working directories of sessions
  pub sessions : SessionTable
  -- the path to which a planned move goes, for which there is room, or `/`
  pub room : Path

-- `/` is mounted, no row was bound, and each session stands in `/`
abbrev pub opening_holding : Holding
opening_holding = record {
  mounts = record { root = root_mount; others = [] };
  rows = replicate ROWS opening_slot;
  paths = replicate ROWS None;
  sessions = record { references = replicate (SESSIONS * HOLDS) None; folders = replicate SESSIONS [] };
  room = [];
}

-- where the file of a row stands, while it has a name and references; rows are counted from 1
abbrev pub path_at : List (Option Path) → ℕ → Option Path
path_at paths row = slice_index_or paths (row - 1) None

-- the row's file stands at the path from now on, or nowhere
abbrev pub with_path : List (Option Path) → ℕ → Option Path → List (Option Path)
with_path paths row path = slice_set paths (row - 1) path

-- one where the path is this one
abbrev pub one_where : Path → Option Path → ℕ
one_where q None = 0
one_where q (Some path) = one_at q path

-- one where the reference's file stands at the path
abbrev pub one_referred : List (Option Path) → Path → Option Reference → ℕ
one_referred paths q None = 0
one_referred paths q (Some reference) = one_where q (path_at paths reference.file.row)

-- how many references, working directories and mounts hold the path
unfoldable pub holders_at : Holding → Path → ℕ
holders_at h q =
    sum_by (one_referred h.paths q) h.sessions.references
    + sum_by (one_at q) h.sessions.folders
    + sum_by (λ mount. one_at q mount.point) (mounts_of h.mounts)

-- how many references name the file of a row
abbrev pub references_to : Holding → ℕ → ℕ
references_to h row = sum_by (λ reference. one_if (refers_to row reference)) h.sessions.references

-- one where the mount of this number covers the folder
abbrev pub one_covered : MountList → ℕ → Path → ℕ
one_covered mounts number folder = one_if ((covering mounts folder).number == number)

-- how many references name a file of the mount, and how many working directories lie in it
unfoldable pub uses_of : Holding → ℕ → ℕ
uses_of h number =
    sum_by (λ reference. one_if (refers_to_mount number reference)) h.sessions.references
    + sum_by (one_covered h.mounts number) h.sessions.folders

-- the row's file may be said to stand at the path: it stands nowhere else, and no other file stands there
pub record MayStand (paths : List (Option Path)) (row : ℕ) (path : Path) : Type 0 where
  pub own : (path_at paths row ≡ None) ⊎ (path_at paths row ≡ Some path)
  pub alone : (place : ℕ) → slice_index_or paths place None ≡ Some path → place ≡ row - 1

-- a session has one more reference, to the file that stands at the path
abbrev pub with_open : Holding → ℕ → ℕ → Reference → Path → Holding
with_open h k number reference path = record h {
  rows = with_slot h.rows reference.file.row held_slot;
  paths = with_path h.paths reference.file.row (Some path);
  sessions = with_reference h.sessions k number (Some reference);
}

-- a session has one more reference, to a file that has some
abbrev pub with_mapping : Holding → ℕ → ℕ → Reference → Holding
with_mapping h k number reference = record h {
  rows = with_slot h.rows reference.file.row held_slot;
  sessions = with_reference h.sessions k number (Some reference);
}

-- a session's reference is gone; a file without references stands nowhere
abbrev pub without_reference : Holding → ℕ → ℕ → Reference → Holding
without_reference h k number reference = record h {
  rows = with_slot h.rows reference.file.row released_slot;
  paths = if (slot_at h.rows reference.file.row).references == 1 then with_path h.paths reference.file.row None else h.paths;
  sessions = with_reference h.sessions k number None;
}

-- a reference names the mount, or a working directory lies in it
abbrev pub is_used : Holding → ℕ → Bool
is_used h number =
    list_any (refers_to_mount number) h.sessions.references || list_any (λ folder. (covering h.mounts folder).number == number) h.sessions.folders

-- a row is bound to a file that is linked
abbrev pub with_bound : Holding → ℕ → Holding
with_bound h row = record h { rows = with_slot (with_slot h.rows row bound_slot) row (linked_slot true) }

-- at the path stands no working directory and no point, as at each file
pub record HoldsFiles (h : Holding) (path : Path) : Type 0 where
  pub folders : list_any (same_path path) h.sessions.folders ≡ false
  pub points : list_any (λ mount. same_path path mount.point) (mounts_of h.mounts) ≡ false

-- the file of a row has no name any more
abbrev pub without_name : Holding → ℕ → Holding
without_name h row = record h { rows = with_slot h.rows row (linked_slot false); paths = with_path h.paths row None }

-- the number of holders of a path, when all those at another one are taken off
abbrev pub dropped_at : Option Path → Path → ℕ → ℕ
dropped_at None q count = count
dropped_at (Some path) q count = if same_path q path then 0 else count

-- one more mount, which holds its point
abbrev pub with_mounted : Holding → Mount → Holding
with_mounted h mount = record h { mounts = with_mount h.mounts mount }

-- a file stands elsewhere once old stands at new
abbrev pub moved_path : Path → Path → Path → Path
moved_path old new path = if is_prefix old path then new ++ drop (length old) path else path

-- the files at and below old stand at and below new
abbrev pub with_moved : Holding → Path → Path → Holding
with_moved h old new = record h { paths = map (option_map (moved_path old new)) h.paths; room = [] }

-- a move that is planned: by row, where a file that moves will stand
pub record Renaming : Type 0 where
  pub from : Path
  pub to : Path
  pub paths : List (Option Path)

-- the new path of a file that moves with old to new; none where the file stays
abbrev pub new_path : Path → Path → Option Path → Option Path
new_path old new None = None
new_path old new (Some path) = if is_prefix old path then Some (new ++ drop (length old) path) else None

-- the plan has the new path of each file that moves, and of no other
pub record Renames (plan : Renaming) (paths : List (Option Path)) : Type 0 where
  pub within : length plan.paths ≤ length paths
  pub places : (place : ℕ) → slice_index_or plan.paths place None ≡ new_path plan.from plan.to (slice_index_or paths place None)

-- neither a working directory nor a point is the path or lies below it
pub record HoldsFilesWithin (h : Holding) (path : Path) : Type 0 where
  pub folders : list_any (is_prefix path) h.sessions.folders ≡ false
  pub points : list_any (λ mount. is_prefix path mount.point) (mounts_of h.mounts) ≡ false

-- the plan may be carried out: there is room for it, only files are held at and below its paths, and at and below the new one none is
pub record MayMove (h : Holding) (plan : Renaming) : Type 0 where
  pub room : h.room ≡ plan.to
  pub renames : Renames plan h.paths
  pub source : HoldsFilesWithin h plan.from
  pub target : HoldsFilesWithin h plan.to
  pub empty : (place : ℕ) (path : Path) → slice_index_or h.paths place None ≡ Some path → is_prefix plan.to path ≡ false
