-- What a contract sees of the devices that are handed in, each in its place: volumes and character devices, home or out.
use Rattle.std.specs.Prelude.{◌≡◌, ℕ, ◌&&◌, ◌||◌, Bool, false, Option, Some, None, List, [], ◌∷◌, ◌++◌, All, IfSome, filter_map, find, option_map, option_and_then, slice_index_or, nat_eq, is_some, if◌then◌else◌}
use Rattle.std.specs.Cmp.Lexicographic.{pointwise}
use Rattle.std.specs.List.{list_all, list_any}
use Rattle.vfs_base.specs.declared.describe.Counts.{Counts}
use Rattle.vfs_base.specs.declared.describe.Describe.{Describe}
use Rattle.vfs_outside.specs.Volume.{CharsState, IsVolume, VolumeState, are_cells, chars_shape, volume_counts, volume_shape}
use Rattle.vfs_outside.specs.declared.refused.DeviceWhy.{DeviceWhy}
use Rattle.vfs_outside.specs.declared.refused.DeviceWhy.TheVariants.{NameTaken, BadPages}

-- The volumes and the character devices, in the order of handing in; at the place of a part that is out there is none.
pub record DevicesState : Type 0 where
  pub volumes : List (Option VolumeState)
  pub chars : List (Option CharsState)

-- one more volume, behind the others
abbrev pub with_volume : DevicesState → VolumeState → DevicesState
with_volume devices volume = record { volumes = devices.volumes ++ Some volume ∷ []; chars = devices.chars }

-- one more character device, behind the others
abbrev pub with_chars : DevicesState → CharsState → DevicesState
with_chars devices device = record { volumes = devices.volumes; chars = devices.chars ++ Some device ∷ [] }

-- no part is out
abbrev pub are_home : DevicesState → Bool
are_home devices = list_all is_some devices.volumes && list_all is_some devices.chars

-- the name of the part at the place, where one is home there
abbrev pub name_at : {P : Type 0} → (P → List ℕ) → List (Option P) → ℕ → Option (List ℕ)
name_at name_of parts place = option_map name_of (slice_index_or parts place None)

abbrev pub volume_name : DevicesState → ℕ → Option (List ℕ)
volume_name devices place = name_at (λ volume. volume.name) devices.volumes place

abbrev pub chars_name : DevicesState → ℕ → Option (List ℕ)
chars_name devices place = name_at (λ device. device.name) devices.chars place

-- no two that are home have one name
pub record NamesDiffer (devices : DevicesState) : Type 0 where
  pub volumes : (place other : ℕ) (name : List ℕ) → volume_name devices place ≡ Some name → volume_name devices other ≡ Some name → place ≡ other
  pub chars : (place other : ℕ) (name : List ℕ) → chars_name devices place ≡ Some name → chars_name devices other ≡ Some name → place ≡ other
  pub apart : (place other : ℕ) (name : List ℕ) → volume_name devices place ≡ Some name → chars_name devices other ≡ Some name → ⊥

-- what holds of the devices at any time
pub record AreSound (devices : DevicesState) : Type 0 where
  pub names : NamesDiffer devices
  pub volumes : All (λ part. IfSome part IsVolume) devices.volumes

-- the part is home and has the name
abbrev pub is_named : {P : Type 0} → (P → List ℕ) → List ℕ → Option P → Bool
is_named name_of name None = false
is_named name_of name (Some part) = pointwise nat_eq (name_of part) name

abbrev pub is_volume_named : List ℕ → Option VolumeState → Bool
is_volume_named name part = is_named (λ volume. volume.name) name part

abbrev pub is_chars_named : List ℕ → Option CharsState → Bool
is_chars_named name part = is_named (λ device. device.name) name part

-- a volume or a character device has the name
abbrev pub is_taken : DevicesState → List ℕ → Bool
is_taken devices name = list_any (is_volume_named name) devices.volumes || list_any (is_chars_named name) devices.chars

-- the first reason not to take a volume of this name, with cells of so many pages
abbrev pub volume_refusal : DevicesState → List ℕ → List ℕ → Option DeviceWhy
volume_refusal devices name pages =
    if is_taken devices name then Some NameTaken else if are_cells pages then None else Some BadPages

-- the reason not to take a character device of this name
abbrev pub chars_refusal : DevicesState → List ℕ → Option DeviceWhy
chars_refusal devices name = if is_taken devices name then Some NameTaken else None

-- the volume that is home and has the name
abbrev pub volume_named : List (Option VolumeState) → List ℕ → Option VolumeState
volume_named volumes name = option_and_then (λ part. part) (find (is_volume_named name) volumes)

-- how often the volume that is home and has the name was called
abbrev pub counts_of : DevicesState → List ℕ → Option Counts
counts_of devices name = option_map volume_counts (volume_named devices.volumes name)

-- what those that are home show of themselves
abbrev pub describe_of : DevicesState → Describe
describe_of devices = record {
  volumes = filter_map (option_map volume_shape) devices.volumes;
  chars = filter_map (option_map chars_shape) devices.chars;
}
