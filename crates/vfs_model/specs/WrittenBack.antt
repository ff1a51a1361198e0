-- What lies on devices after everything went home: each file of each volume, and each character device's bytes.
use Rattle.std.specs.Prelude.{◌≡◌, ℕ, ◌-◌, ◌*◌, ◌/◌, ◌%◌, ◌^◌, ◌==◌, ◌<◌, Bool, true, false, bit_and, Option, Some, None, IfSome, List, [], ◌++◌, length, take, drop, replicate, slice_index_or}
use Rattle.std.specs.FinMap.Entries.{find as value_at}
use Rattle.vfs_base.specs.Path.{Path, path_cmp}
use Rattle.vfs_base.specs.declared.describe.CellNode.{CellNode}
use Rattle.vfs_base.specs.declared.describe.CellNode.TheVariants as recorded
use Rattle.vfs_base.specs.declared.limits.TheConstants.{PAGE_SIZE}
use Rattle.vfs_model.specs.FileLife.{volume_at}
use Rattle.vfs_model.specs.Homes.{cell_bytes, device_home}
use Rattle.vfs_model.specs.declared.namespace.KeptNode.{KeptNode}
use Rattle.vfs_model.specs.declared.namespace.KeptNode.TheVariants as kept
use Rattle.vfs_model.specs.declared.world.DeviceHome.{DeviceHome}
use Rattle.vfs_model.specs.declared.world.WorldState.{WorldState}

-- A volume's device side: what its record has at each path, and the pages of each cell whose device tells them.
pub record VolumeContents : Type 0 where
  pub nodes : List (Path × CellNode)
  pub cells : List (Option (List (List ℕ)))

-- The outside: the volumes, and the character devices that tell what they hold, in the order handed in.
pub record Contents : Type 0 where
  pub volumes : List VolumeContents
  pub devices : List (Option DeviceHome)

abbrev pub no_contents : VolumeContents
no_contents = record { nodes = []; cells = [] }

-- the page is in a set of stored pages: 64 of them in each word
abbrev pub has_page : List ℕ → ℕ → Bool
has_page words page = bit_and (slice_index_or words (page / 64) 0 / 2 ^ (page % 64)) 1 == 1

-- the bytes of a file in a page, with zeros behind its end
abbrev pub file_page : List ℕ → ℕ → List ℕ
file_page bytes page = take PAGE_SIZE (drop (PAGE_SIZE * page) bytes ++ replicate PAGE_SIZE 0)

-- each page of the file is on its cell where it is stored, and else is zeros
pub record PagesWritten (bytes : List ℕ) (words : List ℕ) (pages : List (List ℕ)) : Type 0 where
  pub stored : (page : ℕ) → PAGE_SIZE * page < length bytes → has_page words page ≡ true →
      take (length bytes - PAGE_SIZE * page) (slice_index_or pages page []) ≡ take (length bytes - PAGE_SIZE * page) (file_page bytes page)
  pub zeros : (page : ℕ) → PAGE_SIZE * page < length bytes → has_page words page ≡ false → file_page bytes page ≡ replicate PAGE_SIZE 0

-- a file of a volume lies on its cell: the record has the cell, the file's size and its stored pages, and these are on the device,
-- where it tells
pub record FileWritten (bytes : List ℕ) (cell : ℕ) (found : Option CellNode) (told : Option (List (List ℕ))) : Type 0 where
  pub words : List ℕ
  pub recorded : found ≡ Some (recorded.File cell (length bytes) words)
  pub pages : IfSome told (PagesWritten bytes words)

-- the record has the node that the volume keeps at a path, and a file's bytes lie on its cell
abbrev pub NodeWritten : (ℕ → List ℕ) → List (Option (List (List ℕ))) → Option KeptNode → Option CellNode → Type 0
NodeWritten bytes_at cells None found = found ≡ None
NodeWritten bytes_at cells (Some kept.Dir) found = found ≡ Some recorded.Dir
NodeWritten bytes_at cells (Some (kept.File cell)) found = FileWritten (bytes_at cell) cell found (slice_index_or cells cell None)

-- what an unmounted volume keeps at a path is in its record and on its cells; while a mount has the volume, nothing is
abbrev pub IsPathWritten : WorldState → Contents → ℕ → Path → Type 0
IsPathWritten w now volume path =
    NodeWritten (cell_bytes w.homes volume) (slice_index_or now.volumes volume no_contents).cells
    (value_at path_cmp path (volume_at w.namespace volume).kept)
    (value_at path_cmp path (slice_index_or now.volumes volume no_contents).nodes)

-- a character device has the input that is left, and its output at entry followed by the output of the world
pub record DeviceWritten (home before now : DeviceHome) : Type 0 where
  pub input : now.input ≡ home.input
  pub output : now.output ≡ before.output ++ home.output

-- Each volume's record has the volume's folders and files, with the files' sizes and bytes, and each character device has what
-- the world left of it, as far as devices tell.
pub record IsWrittenBack (w : WorldState) (before now : Contents) : Type 0 where
  pub files : (volume : ℕ) (path : Path) → volume < length w.namespace.volumes → IsPathWritten w now volume path
  pub devices : (device : ℕ) → device < length w.homes.devices →
      IfSome (slice_index_or before.devices device None) (λ first.
      IfSome (slice_index_or now.devices device None) (λ last. DeviceWritten (device_home w.homes device) first last))

-- Equal but for the bytes that lie at home on cells: what is left after an end that met a device's fault, beside the world of its
-- definition.
pub record SameBut (a b : WorldState) : Type 0 where
  pub namespace : a.namespace ≡ b.namespace
  pub files : a.files ≡ b.files
  pub devices : a.homes.devices ≡ b.homes.devices
