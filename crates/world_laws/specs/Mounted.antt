-- What a mounted rom and a mounted volume show, and what a volume keeps that is unmounted.
use Rattle.std.specs.Prelude.{◌≡◌, ◌≢◌, ℕ, Bool, true, false, not, ◌&&◌, zip, Option, Some, None, List, [], ◌++◌, Ok, slice_index_or}
use Rattle.std.specs.FinMap.Entries.{find as value_at}
use Rattle.std.specs.List.{list_any}
use Rattle.vfs_base.specs.Path.{Path, path_cmp}
use Rattle.vfs_base.specs.declared.entry.Mark.{Mark}
use Rattle.vfs_base.specs.declared.entry.Mark.TheVariants as mark
use Rattle.vfs_base.specs.declared.entry.Who.{Who}
use Rattle.vfs_base.specs.declared.entry.Who.TheVariants as who
use Rattle.vfs_base.specs.declared.ids.FileId.{FileId}
use Rattle.vfs_base.specs.declared.kinds.FsType.{FsType}
use Rattle.vfs_base.specs.declared.kinds.FsType.TheVariants as fs
use Rattle.vfs_base.specs.declared.kinds.Kind.TheVariants as kind
use Rattle.vfs_base.specs.declared.kinds.NodeKind.{NodeKind}
use Rattle.vfs_base.specs.declared.kinds.NodeKind.TheVariants as node
use Rattle.vfs_base.specs.declared.reply.Reply.{Reply}
use Rattle.vfs_base.specs.declared.reply.Reply.TheVariants as reply
use Rattle.vfs_base.specs.declared.step.Step.{Step}
use Rattle.vfs_base.specs.declared.step.Step.TheVariants as step
use Rattle.vfs_model.specs.Asking.{Asked, run_steps}
use Rattle.vfs_model.specs.Boxes.{IsConsistent}
use Rattle.vfs_model.specs.Content.{fs_type_of, is_mounted, no_rom, rom_at, same_type}
use Rattle.vfs_model.specs.FileLife.{volume_at, volume_named}
use Rattle.vfs_model.specs.Homes.{bytes_of, cell_bytes, file_at}
use Rattle.vfs_model.specs.Lookup.{asked_path, node_at}
use Rattle.vfs_model.specs.Namespace.{same_bytes}
use Rattle.vfs_model.specs.UmountSteps.{mount_at_point}
use Rattle.vfs_model.specs.World.{world_step}
use Rattle.vfs_model.specs.declared.namespace.KeptNode.{KeptNode}
use Rattle.vfs_model.specs.declared.namespace.KeptNode.TheVariants as kept
use Rattle.vfs_model.specs.declared.namespace.Mount.{Mount}
use Rattle.vfs_model.specs.declared.namespace.Namespace.{Namespace}
use Rattle.vfs_model.specs.declared.namespace.RomNode.{RomNode}
use Rattle.vfs_model.specs.declared.namespace.RomNode.TheVariants as rom
use Rattle.vfs_model.specs.declared.world.Homes.{Homes}
use Rattle.vfs_model.specs.declared.world.WorldState.{WorldState}
use Rattle.world_laws.specs.Keeping.{MayRun}

-- what a rom has at a path stands there: nothing, a folder, or a file of the rom's bytes
abbrev pub ShowsNode : WorldState → Option RomNode → Option NodeKind → Type 0
ShowsNode v None found = found ≡ None
ShowsNode v (Some rom.Dir) found = found ≡ Some node.Dir
ShowsNode v (Some (rom.File bytes)) found = (id : FileId) × (found ≡ Some (node.File id kind.Rom)) × (bytes_of (file_at v id.row) ≡ bytes)

-- what the rom of this name has at each path
abbrev pub rom_nodes : Namespace → List ℕ → List (Path × RomNode)
rom_nodes n source = (slice_index_or n.roms (rom_at n source) no_rom).nodes

-- below the point of a rom that was mounted stands what the rom has, and nothing else
abbrev pub MountedRomShowsItsFiles : Type 0
MountedRomShowsItsFiles = (w : WorldState) (k : ℕ) (source point_text type_text : List ℕ) (path p : Path) → IsConsistent w →
    asked_path w.namespace k point_text ≡ Ok path → fs_type_of type_text ≡ Some fs.Rom →
    (world_step w (who.Session k) (step.Mount source point_text type_text) mark.Clear).reply ≡ reply.Done → p ≢ [] →
    ShowsNode (world_step w (who.Session k) (step.Mount source point_text type_text) mark.Clear).next (value_at path_cmp p (rom_nodes w.namespace source))
    (node_at (world_step w (who.Session k) (step.Mount source point_text type_text) mark.Clear).next.namespace (path ++ p))

-- what a volume keeps at a path stands there: nothing, a folder, or a file of the bytes that lay on its cell
abbrev pub ShowsKept : Homes → ℕ → WorldState → Option KeptNode → Option NodeKind → Type 0
ShowsKept homes volume v None found = found ≡ None
ShowsKept homes volume v (Some kept.Dir) found = found ≡ Some node.Dir
ShowsKept homes volume v (Some (kept.File cell)) found =
    (id : FileId) × (found ≡ Some (node.File id kind.Cell)) × (bytes_of (file_at v id.row) ≡ cell_bytes homes volume cell)

-- what the volume of this name keeps at each path
abbrev pub kept_names : Namespace → List ℕ → List (Path × KeptNode)
kept_names n source = (volume_at n (volume_named n source)).kept

-- below the point of a volume that was mounted stands what the volume kept, and nothing else
abbrev pub MountedVolumeShowsItsFiles : Type 0
MountedVolumeShowsItsFiles = (w : WorldState) (k : ℕ) (source point_text type_text : List ℕ) (path p : Path) → IsConsistent w →
    asked_path w.namespace k point_text ≡ Ok path → fs_type_of type_text ≡ Some fs.Cell →
    (world_step w (who.Session k) (step.Mount source point_text type_text) mark.Clear).reply ≡ reply.Done → p ≢ [] →
    ShowsKept w.homes (volume_named w.namespace source) (world_step w (who.Session k) (step.Mount source point_text type_text) mark.Clear).next
    (value_at path_cmp p (kept_names w.namespace source))
    (node_at (world_step w (who.Session k) (step.Mount source point_text type_text) mark.Clear).next.namespace (path ++ p))

-- a volume keeps what stood somewhere: nothing, a folder, or a file on a cell, on which its bytes lie
abbrev pub KeepsNode : WorldState → Option NodeKind → Homes → ℕ → Option KeptNode → Type 0
KeepsNode w None homes volume name = name ≡ None
KeepsNode w (Some node.Dir) homes volume name = name ≡ Some kept.Dir
KeepsNode w (Some (node.File id shape)) homes volume name =
    (shape ≡ kind.Cell) × (cell : ℕ) × (name ≡ Some (kept.File cell)) × (cell_bytes homes volume cell ≡ bytes_of (file_at w id.row))

-- where a mount of a volume goes, the volume keeps what stood below the point, and nothing else
abbrev pub UnmountedVolumeKeepsItsFiles : Type 0
UnmountedVolumeKeepsItsFiles = (w : WorldState) (k : ℕ) (point_text : List ℕ) (mount : Mount) (path p : Path) → IsConsistent w →
    asked_path w.namespace k point_text ≡ Ok path → mount_at_point w.namespace path ≡ Some mount → mount.fs ≡ fs.Cell →
    let left = world_step w (who.Session k) (step.Umount point_text) mark.Clear in left.reply ≡ reply.Done → p ≢ [] →
    KeepsNode w (node_at w.namespace (path ++ p)) left.next.homes (volume_named left.next.namespace mount.source) (value_at path_cmp p (kept_names left.next.namespace mount.source))

-- what stood somewhere stands there now: nothing, a folder, or a file of the same kind and bytes, in this row or in another
abbrev pub ShowsSame : WorldState → Option NodeKind → WorldState → Option NodeKind → Type 0
ShowsSame w None v found = found ≡ None
ShowsSame w (Some node.Dir) v found = found ≡ Some node.Dir
ShowsSame w (Some (node.File id shape)) v found =
    (other : FileId) × (found ≡ Some (node.File other shape)) × (bytes_of (file_at v other.row) ≡ bytes_of (file_at w id.row))

-- a volume that is unmounted and mounted again, by whatever session and at whatever path, shows the same files, and nothing else
abbrev pub RemountedVolumeShowsItsFiles : Type 0
RemountedVolumeShowsItsFiles = (w : WorldState) (k j : ℕ) (point_text again_text type_text : List ℕ) (mount : Mount) (path again p : Path) → IsConsistent w →
    asked_path w.namespace k point_text ≡ Ok path → mount_at_point w.namespace path ≡ Some mount → mount.fs ≡ fs.Cell →
    let left = world_step w (who.Session k) (step.Umount point_text) mark.Clear in left.reply ≡ reply.Done →
    asked_path left.next.namespace j again_text ≡ Ok again → fs_type_of type_text ≡ Some fs.Cell →
    let back = world_step left.next (who.Session j) (step.Mount mount.source again_text type_text) mark.Clear in back.reply ≡ reply.Done →
    ShowsSame w (node_at w.namespace (path ++ p)) back.next (node_at back.next.namespace (again ++ p))

-- the type is that of volumes
abbrev pub is_cell_type : Option FsType → Bool
is_cell_type None = false
is_cell_type (Some asked) = same_type asked fs.Cell

-- a step that asks to format the volume of this name, or to mount it
abbrev pub asks_volume : List ℕ → Step → Bool
asks_volume name (step.Mkfs other) = same_bytes other name
asks_volume name (step.Mount source point_text type_text) = is_cell_type (fs_type_of type_text) && same_bytes source name
asks_volume name _ = false

abbrev pub is_refused : Reply → Bool
is_refused (reply.Refused errno) = true
is_refused _ = false

-- and does so: it is not refused
abbrev pub takes_volume : List ℕ → Step → Reply → Bool
takes_volume name asked answer = asks_volume name asked && not (is_refused answer)

-- one of the steps does
abbrev pub some_takes_volume : List ℕ → WorldState → List Asked → Bool
some_takes_volume name w run = list_any (λ taken. takes_volume name taken.0.step taken.1) (zip run (run_steps w run).replies)

-- a volume is not mounted in a later world, and keeps what it kept: the same folders and files, and the same bytes on each of its cells
pub record KeepsSame (w v : WorldState) (name : List ℕ) : Type 0 where
  pub off : is_mounted v.namespace fs.Cell name ≡ false
  pub names : kept_names v.namespace name ≡ kept_names w.namespace name
  pub bytes : (cell : ℕ) → cell_bytes v.homes (volume_named v.namespace name) cell ≡ cell_bytes w.homes (volume_named w.namespace name) cell

-- whoever takes a step, with whatever mark: what a volume keeps that is not mounted stays, where the step neither formats it nor mounts it
abbrev pub KeptFilesStay : Type 0
KeptFilesStay = (w : WorldState) (asker : Who) (asked : Step) (m : Mark) (name : List ℕ) → IsConsistent w → is_mounted w.namespace fs.Cell name ≡ false →
    let out = world_step w asker asked m in takes_volume name asked out.reply ≡ false → KeepsSame w out.next name

-- and so through any steps that may be taken one after the other
abbrev pub KeptFilesStayLater : Type 0
KeptFilesStayLater = (run : List Asked) (w : WorldState) (name : List ℕ) → IsConsistent w → MayRun w run → is_mounted w.namespace fs.Cell name ≡ false →
    some_takes_volume name w run ≡ false → KeepsSame w (run_steps w run).next name

-- A volume that is unmounted and mounted again later shows the same files, and nothing else. In between anybody takes any
-- steps, but none that formats the volume or mounts it.
abbrev pub VolumeMountedLaterShowsItsFiles : Type 0
VolumeMountedLaterShowsItsFiles = (w : WorldState) (k j : ℕ) (point_text again_text type_text : List ℕ) (mount : Mount) (path again p : Path) (run : List Asked) →
    IsConsistent w → asked_path w.namespace k point_text ≡ Ok path → mount_at_point w.namespace path ≡ Some mount → mount.fs ≡ fs.Cell →
    let left = world_step w (who.Session k) (step.Umount point_text) mark.Clear in left.reply ≡ reply.Done →
    MayRun left.next run → some_takes_volume mount.source left.next run ≡ false →
    let later = (run_steps left.next run).next in
    asked_path later.namespace j again_text ≡ Ok again → fs_type_of type_text ≡ Some fs.Cell →
    let back = world_step later (who.Session j) (step.Mount mount.source again_text type_text) mark.Clear in back.reply ≡ reply.Done →
    ShowsSame w (node_at w.namespace (path ++ p)) back.next (node_at back.next.namespace (again ++ p))
