-- A mount on its way: what it begins with, and room for it.
use Rattle.std.specs.Prelude.{◌≡◌, ℕ, ◌+◌, ◌≤◌, Option, Some, None, List, [], ◌∷◌, ◌++◌, length, map, fold, cond, zip, count_by, Vec, vec_len, vec_capacity}
use Rattle.std.specs.FinMap.Entries.{put}
use Rattle.std.specs.List.{enumerate_from, flat_map}
use Rattle.vfs_base.specs.Path.{path_cmp}
use Rattle.vfs_base.specs.Path.{Path}
use Rattle.vfs_base.specs.declared.kinds.NodeKind.{NodeKind}
use Rattle.vfs_model.specs.Content.{Content, file_count}
use Rattle.vfs_model.specs.FileLife.{Rows, free_rows, is_free_row}
use Rattle.vfs_model.specs.MountStep.{add_content, without_kept}
use Rattle.vfs_model.specs.declared.namespace.DeviceState.{DeviceState}
use Rattle.vfs_model.specs.declared.namespace.LiveFile.{LiveFile}
use Rattle.vfs_model.specs.declared.namespace.Mount.{Mount}
use Rattle.vfs_model.specs.declared.namespace.Namespace.{Namespace}
use Rattle.vfs_model.specs.declared.namespace.Origin.{Origin}
use Rattle.vfs_model.specs.declared.namespace.Origin.TheVariants as origin
use Rattle.vfs_model.specs.declared.namespace.RomImage.{RomImage}
use Rattle.plain_files.specs.Contents.{origin_content}
use Rattle.plain_nodes.specs.Changes.{row_change}
use Rattle.plain_nodes.specs.Contents.{contents_of}
use Rattle.plain_nodes.specs.declared.changes.Change.{Change}

-- the content with one file more for each device, of which the first has this place
abbrev pub devices_from : Content → ℕ → List DeviceState → Content
devices_from content place devices =
    fold (λ content device. put path_cmp (device.1.name ∷ []) (Some (origin.Device device.0)) content) content (enumerate_from place devices)

-- how many rows are free
abbrev pub free_count : Namespace → ℕ
free_count n = count_by (λ free. free) (free_rows n)

-- the mount is one of the mounts, and has no nodes of its own yet
abbrev pub with_mount : Namespace → Mount → Namespace
with_mount n mount = without_kept (record n { mounts = n.mounts ++ mount ∷ [] }) mount.fs mount.source

-- one entry of the content after the other
abbrev pub add_entries : Mount → Rows → Content → Rows
add_entries mount rows content = fold (λ rows entry. add_content mount rows entry.0 entry.1) rows content

-- the bytes that an entry's file brings from a rom, if it is a file
abbrev pub entry_contents : List RomImage → Option Origin → List (List ℕ)
entry_contents roms None = []
entry_contents roms (Some begins) = origin_content roms begins ∷ []

-- there is room for the content, and so many rows are free
pub record IsReady {Z Y : Type 0} (n : Namespace) (content : Content) (tree : Vec (Path × NodeKind) Z) (changes : Vec Change Y) : Type 0 where
  pub live_files : length n.live_files ≡ 1024
  pub generations : length n.generations ≡ 1024
  pub places : length n.trees ≡ 16
  pub free : file_count content ≤ free_count n
  pub tree_room : vec_len tree + length content ≤ vec_capacity tree
  pub change_room : vec_len changes + length content ≤ vec_capacity changes

-- how many of these rows are free, and so many more
abbrev pub free_in : ℕ → List (Option LiveFile) → List ℕ → ℕ
free_in count live_files generations =
    fold (λ count free. count + cond free 1 0) count (map (λ row. is_free_row row.0 row.1) (zip live_files generations))

-- the bytes that the files of a content bring from roms, file by file
abbrev pub brought_by : List RomImage → Content → List (List ℕ)
brought_by roms content = flat_map (λ entry. entry_contents roms entry.1) content

-- what the changes bring has more at its end
abbrev pub BringsMore : List Change → List Change → (List RomImage → List (List ℕ)) → Type 0
BringsMore old new more = (roms : List RomImage) → contents_of roms (map row_change new) ≡ contents_of roms (map row_change old) ++ more roms
