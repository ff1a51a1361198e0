-- A mount begins with no more nodes than it may have.
use Rattle.std.proofs.Common.{◌≡◌, ℕ, ◌+◌, ◌≤◌, List, [], ◌∷◌, length, arith, slice_index_or}
use Rattle.std.specs.Prelude.{Bool, true, false, cond, Option, Some, is_some, count_by, fold, map, zip}
use Rattle.std.specs.List.{enumerate_from}
use Rattle.std.specs.FinMap.Entries.{by_order, put}
use Rattle.std.specs.declared.cmp.Ordering.TheVariants.{Less, Equal, Greater}
use Rattle.std.proofs.lemmas.List.{length-map}
use Rattle.std.proofs.lemmas.List.Sums.{count_by-le-length, sum_by-cons}
use Rattle.vfs_base.specs.Path.{Path, path_cmp}
use Rattle.vfs_base.specs.declared.kinds.FsType.{FsType}
use Rattle.vfs_base.specs.declared.kinds.FsType.TheVariants as fs
use Rattle.vfs_model.specs.Content.{Content, content_of, file_count, kept_origin, no_rom, rom_at, rom_origin}
use Rattle.vfs_model.specs.FileLife.{free_rows, is_free_row, volume_at, volume_named}
use Rattle.vfs_model.specs.declared.namespace.DeviceState.{DeviceState}
use Rattle.vfs_model.specs.declared.namespace.KeptNode.{KeptNode}
use Rattle.vfs_model.specs.declared.namespace.LiveFile.{LiveFile}
use Rattle.vfs_model.specs.declared.namespace.Namespace.{Namespace}
use Rattle.vfs_model.specs.declared.namespace.Origin.{Origin}
use Rattle.vfs_model.specs.declared.namespace.Origin.TheVariants as origin
use Rattle.vfs_model.specs.declared.namespace.RomNode.{RomNode}
use Rattle.vfs_model.specs.Sizes.{IsSized}

-- how many rows are free
abbrev pub free_count : Namespace → ℕ
free_count n = count_by (λ free. free) (free_rows n)

-- the content with one file more for each device, of which the first has this place
abbrev devices_from : Content → ℕ → List DeviceState → Content
devices_from content place devices =
    fold (λ content device. put path_cmp (device.1.name ∷ []) (Some (origin.Device device.0)) content) content (enumerate_from place devices)

free_length : (live_files : List (Option LiveFile)) (generations : List ℕ) →
    length (map (λ (row : Option LiveFile × ℕ). is_free_row row.0 row.1) (zip live_files generations)) ≤ length live_files
free_length [] generations = omega arith
free_length (life ∷ live_files) [] = omega arith
free_length (life ∷ live_files) (generation ∷ generations) = omega (arith, free_length live_files generations)

file_on : (entry : Path × Option Origin) (content : Content) → file_count (entry ∷ content) ≡ cond (is_some entry.1) 1 0 + file_count content
file_on entry content = sum_by-cons (λ (e : Path × Option Origin). cond (is_some e.1) 1 0) entry content

one_at_most : (test : Bool) → cond test 1 0 ≤ 1
one_at_most true = omega arith
one_at_most false = omega arith

-- where there are files only, there are files only after a file came
put_files : (path : Path) (begins : Origin) (content : Content) → length content ≤ file_count content →
    length (put path_cmp path (Some begins) content) ≤ file_count (put path_cmp path (Some begins) content)
put_files path begins [] h = omega (arith, file_on (path, Some begins) [])
put_files path begins (entry ∷ content) h =
    let on = file_on entry content in
    let most = one_at_most (is_some entry.1) in
    let few : file_count content ≤ length content = count_by-le-length (λ (e : Path × Option Origin). is_some e.1) content in
    let rest : length content ≤ file_count content = omega (arith, on, most, h) in
    let later = put_files path begins content rest in
    elim (path_cmp path entry.0) as (λ o.
    length (by_order o ((path, Some begins) ∷ entry ∷ content) ((entry.0, Some begins) ∷ content) (entry ∷ put path_cmp path (Some begins) content))
    ≤ file_count (by_order o ((path, Some begins) ∷ entry ∷ content) ((entry.0, Some begins) ∷ content) (entry ∷ put path_cmp path (Some begins) content))) [
      | Less ↦ omega (arith, h, file_on (path, Some begins) (entry ∷ content))
      | Equal ↦ omega (arith, rest, file_on (entry.0, Some begins) content)
      | Greater ↦ omega (arith, later, on, h, few, file_on entry (put path_cmp path (Some begins) content))
    ]

devices_files : (content : Content) (place : ℕ) (devices : List DeviceState) → length content ≤ file_count content →
    length (devices_from content place devices) ≤ file_count (devices_from content place devices)
devices_files content place [] h = h
devices_files content place (device ∷ devices) h =
    devices_files (put path_cmp (device.name ∷ []) (Some (origin.Device place)) content) (place + 1) devices
    (put_files (device.name ∷ []) (origin.Device place) content h)

-- a content of which the files have rows has no more nodes than a mount may have
pub content_fits : (n : Namespace) (asked : FsType) (source : List ℕ) → IsSized n → file_count (content_of n asked source) ≤ 1024 →
    length (content_of n asked source) ≤ 4096
content_fits n fs.Tmp source s few = omega arith
content_fits n fs.Rom source s few =
    let entry_of : Path × RomNode → Path × Option Origin = λ entry. (entry.0, rom_origin (rom_at n source) entry.0 entry.1) in
    let same = length-map (slice_index_or n.roms (rom_at n source) no_rom).nodes entry_of in
    omega (arith, same, s.roms (rom_at n source))
content_fits n fs.Cell source s few =
    let entry_of : Path × KeptNode → Path × Option Origin = λ entry. (entry.0, kept_origin (volume_named n source) entry.1) in
    let same = length-map (volume_at n (volume_named n source)).kept entry_of in
    omega (arith, same, s.kept (volume_named n source))
content_fits n fs.Dev source s few =
    let files = devices_files [] 0 n.devices (omega arith) in
    omega (arith, files, few)

pub free_few : (n : Namespace) → IsSized n → free_count n ≤ 1024
free_few n s =
    let most = count_by-le-length (λ (free : Bool). free) (free_rows n) in
    omega (arith, most, free_length n.live_files n.generations, s.live_files)
