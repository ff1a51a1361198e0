-- How `Holders` counts: facts that tie the numbers to what is held. No public clause cites this module.
use Rattle.std.specs.Prelude.{◌≡◌, ℕ, ◌*◌, ◌<◌, ◌≤◌, ◌&&◌, nat_lt, Option, None, Some, List, [], is_some, length, slice_index_or}
use Rattle.vfs_base.specs.Path.{Path}
use Rattle.vfs_base.specs.declared.limits.TheConstants.{HOLDS, MOUNTS, ROWS, SESSIONS}
use Rattle.vfs_base.specs.declared.ids.FileId.{FileId}
use Rattle.vfs_model.specs.declared.namespace.Reference.{Reference}
use Rattle.node_maps.specs.NodeMap.{NodeMap}
use Rattle.dentry_table.specs.DentryTable.{count_at}
use Rattle.mount_tree.specs.MountList.{mounts_of}
use Rattle.holders.specs.Holding.{Holding, holders_at, path_at, references_to, uses_of}
use Rattle.session_holds.specs.SessionTable.{SessionTable}
use Rattle.vnode_table.specs.SlotTable.{file_at, slot_at}

-- how many places there are
pub record HasPlaces (h : Holding) : Type 0 where
  pub rows : length h.rows ≡ ROWS
  pub paths : length h.paths ≡ ROWS
  pub references : length h.sessions.references ≡ SESSIONS * HOLDS
  pub folders : length h.sessions.folders ≡ SESSIONS
  pub mounts : length (mounts_of h.mounts) ≤ MOUNTS
  pub root : h.mounts.root.point ≡ []

-- the reference at a place among all
abbrev pub reference_in : Holding → ℕ → Option Reference
reference_in h place = slice_index_or h.sessions.references place None

-- the reference at a place among all names this file and this mount
pub record Names (table : SessionTable) (place : ℕ) (file : FileId) (mount : ℕ) : Type 0 where
  pub within : place < SESSIONS * HOLDS
  pub reference : Reference
  pub there : slice_index_or table.references place None ≡ Some reference
  pub file_is : reference.file ≡ file
  pub mount_is : reference.mount ≡ mount
  pub last : file.row ≤ ROWS

pub record IsCounted (h : Holding) (counts : NodeMap ℕ) (used : List ℕ) : Type 0 where
  pub places : HasPlaces h
  pub numbers : length used ≡ MOUNTS
  -- rows are counted from 1
  pub numbered : (place : ℕ) (reference : Reference) → reference_in h place ≡ Some reference → 0 < reference.file.row
  -- a reference names the file that its row has
  pub live : (place : ℕ) (reference : Reference) → reference_in h place ≡ Some reference → file_at h.rows reference.file.row ≡ Some reference.file
  -- a slot's number of references is that of the sessions' references to its file
  pub references : (row : ℕ) → 0 < row → (slot_at h.rows row).references ≡ references_to h row
  -- a file that has a name and references has its path
  pub told : (row : ℕ) → is_some (path_at h.paths row) ≡ ((slot_at h.rows row).linked && nat_lt 0 (slot_at h.rows row).references)
  -- no two files stand at one path
  pub differ : (place other : ℕ) (path : Path) → slice_index_or h.paths place None ≡ Some path → slice_index_or h.paths other None ≡ Some path → place ≡ other
  -- a dentry's number is that of the path's holders
  pub dentries : (q : Path) → count_at counts q ≡ holders_at h q
  -- a mount's number is that of its users
  pub uses : (number : ℕ) → number < MOUNTS → slice_index_or used number 0 ≡ uses_of h number
