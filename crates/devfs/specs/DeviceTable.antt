-- What a contract sees of the character devices of a mount: the name of each, in the order of handing in, and the device where it is home.
use Rattle.std.specs.Prelude.{◌≢◌, ℕ, ◌-◌, ◌≤◌, Option, Some, None, List, [], ◌∷◌, ◌++◌, length, map, nat_eq, option_and_then, slice_get, slice_index_or, slice_set, AllPairs}
use Rattle.std.specs.Cmp.Lexicographic.{pointwise}
use Rattle.std.specs.List.{position}
use Rattle.vfs_outside.specs.Chars.{CharsContents}
use Rattle.vfs_outside.specs.Volume.{CharsState}

-- What a device shows: what it tells of its input and output, and its faults.
pub record DeviceShown : Type 0 where
  pub contents : Option CharsContents
  pub faults : ℕ

-- A name, and what its device shows where it is home.
pub record DeviceEntry : Type 0 where
  pub name : List ℕ
  pub device : Option DeviceShown

-- How many devices there is room for, and the devices in the order of handing in.
pub record DeviceTable : Type 0 where
  pub room : ℕ
  pub devices : List DeviceEntry

-- what a device shows, of which these functions tell
abbrev pub shown : {C : Type 0} → (C → Option CharsContents) → (C → ℕ) → C → DeviceShown
shown contents faults device = record { contents = contents device; faults = faults device }

-- a device that is home
abbrev pub home_entry : CharsState → DeviceEntry
home_entry part = record { name = part.name; device = Some (record { contents = part.contents; faults = part.faults }) }

-- the table with one more device, which is home, behind the others
abbrev pub with_device : DeviceTable → CharsState → DeviceTable
with_device table part = record { room = table.room; devices = table.devices ++ home_entry part ∷ [] }

-- what the device at the place shows, where one is home there
abbrev pub device_at : DeviceTable → ℕ → Option DeviceShown
device_at table place = option_and_then (λ entry. entry.device) (slice_get table.devices place)

-- what the last device shows, where it is home
abbrev pub last_device : DeviceTable → Option DeviceShown
last_device table = device_at table (length table.devices - 1)

-- the table with this device, or none, home at the place, if there is such a place
abbrev pub with_device_at : DeviceTable → ℕ → Option DeviceShown → DeviceTable
with_device_at table place device =
    let name = (slice_index_or table.devices place (record { name = []; device = None })).name in
    record { room = table.room; devices = slice_set table.devices place (record { name = name; device = device }) }

-- the place of the device that has the name
abbrev pub place_named : DeviceTable → List ℕ → Option ℕ
place_named table name = position (λ entry. pointwise nat_eq entry.name name) table.devices

-- no two devices have one name
abbrev pub NamesDiffer : List DeviceEntry → Type 0
NamesDiffer devices = AllPairs ◌≢◌ (map (λ entry. entry.name) devices)

-- what holds of a table at any time, in memory for so many devices
pub record IsKept (table : DeviceTable) (memory : ℕ) : Type 0 where
  pub within : length table.devices ≤ table.room
  pub reserved : table.room ≤ memory
  pub differ : NamesDiffer table.devices
