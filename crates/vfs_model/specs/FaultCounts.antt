-- Which devices a step can meet a fault of, and how the devices' counts of faults rise along a schedule.
use Rattle.std.specs.Prelude.{◌≡◌, ℕ, ◌+◌, ◌-◌, ◌^◌, ◌<◌, ◌≤◌, ◌⊎◌, min, true, Option, Some, None, List, [], ◌∷◌, length, take, slice_index_or, if◌then◌else◌}
use Rattle.std.specs.List.{Any, count_by, range_with_len, sum_by}
use Rattle.vfs_base.specs.declared.deck.Deck.{Deck}
use Rattle.vfs_base.specs.declared.describe.Describe.{Describe}
use Rattle.vfs_base.specs.declared.entry.Entry.{Entry}
use Rattle.vfs_base.specs.declared.entry.Who.{Who}
use Rattle.vfs_base.specs.declared.kinds.FsType.TheVariants as fs
use Rattle.vfs_base.specs.declared.step.Step.{Step}
use Rattle.vfs_base.specs.declared.step.Step.TheVariants as step
use Rattle.vfs_model.specs.Content.{same_type}
use Rattle.vfs_model.specs.FileLife.{backing_of, volume_named}
use Rattle.vfs_model.specs.Lookup.{asked_path}
use Rattle.vfs_model.specs.MadeCalls.{asked_mount}
use Rattle.vfs_model.specs.Namespace.{life_at}
use Rattle.vfs_model.specs.ScriptRun.{RunState, entry_step, state_after}
use Rattle.vfs_model.specs.Tally.{is_fault}
use Rattle.vfs_model.specs.World.{session_of, step_row}
use Rattle.vfs_model.specs.declared.namespace.Backing.{Backing}
use Rattle.vfs_model.specs.declared.namespace.Backing.TheVariants as backing
use Rattle.vfs_model.specs.declared.namespace.Mount.{Mount}
use Rattle.vfs_model.specs.declared.namespace.Namespace.{Namespace}

-- Something for each volume and something for each character device.
pub record ByDevice : Type 0 where
  pub volumes : List ℕ
  pub chars : List ℕ

abbrev pub no_devices : ByDevice
no_devices = record { volumes = []; chars = [] }

-- the device that a live file lies on
abbrev pub backing_devices : Backing → ByDevice
backing_devices backing.Memory = no_devices
backing_devices (backing.Cell volume cell) = record { volumes = volume ∷ []; chars = [] }
backing_devices (backing.Device device) = record { volumes = []; chars = device ∷ [] }

-- the volume that a mount shows
abbrev pub mount_devices : Namespace → Option Mount → ByDevice
mount_devices n None = no_devices
mount_devices n (Some mount) =
    if same_type mount.fs fs.Cell then record { volumes = volume_named n mount.source ∷ []; chars = [] } else no_devices

abbrev pub namespace_devices : Namespace → ℕ → Step → ByDevice
namespace_devices n k (step.Umount point) = mount_devices n (asked_mount n (asked_path n k point))
namespace_devices n k step.Shutdown = record { volumes = range_with_len 0 (length n.volumes); chars = [] }
namespace_devices n k _ = no_devices

abbrev pub devices_on : Namespace → ℕ → Step → Option ℕ → ByDevice
devices_on n k asked None = namespace_devices n k asked
devices_on n k asked (Some row) = backing_devices (backing_of (life_at n row))

-- the numbers of the devices that a step can meet a fault of: its row's, the volume of an unmount, every volume at the end
unfoldable pub step_devices : Namespace → Who → Step → ByDevice
step_devices n asker asked = devices_on n (session_of asker) asked (step_row asked)

-- a count of faults went up, or stands at the last value of its type
abbrev pub HasRisen : ℕ → ℕ → Type 0
HasRisen before now = min (before + 1) (2 ^ 64 - 1) ≤ now

-- one of these devices met a fault between the two counts
abbrev pub SomeHasRisen : ByDevice → ByDevice → ByDevice → Type 0
SomeHasRisen devices before now =
    Any (λ volume. HasRisen (slice_index_or before.volumes volume 0) (slice_index_or now.volumes volume 0)) devices.volumes
    ⊎ Any (λ device. HasRisen (slice_index_or before.chars device 0) (slice_index_or now.chars device 0)) devices.chars

-- no count falls
pub record NoneFalls (before now : ByDevice) : Type 0 where
  pub volumes : (volume : ℕ) → slice_index_or before.volumes volume 0 ≤ slice_index_or now.volumes volume 0
  pub chars : (device : ℕ) → slice_index_or before.chars device 0 ≤ slice_index_or now.chars device 0

-- Counts of faults along a schedule, one before each entry and one behind the last: none falls, and at each entry with a device's
-- fault a device of its step rose.
pub record CountsRise (deck : Deck) (describe : Describe) (schedule : List Entry) (trace : List ByDevice) : Type 0 where
  pub places : length trace ≡ length schedule + 1
  pub rising : (at : ℕ) → at < length schedule → NoneFalls (slice_index_or trace at no_devices) (slice_index_or trace (at + 1) no_devices)
  pub caused : (at : ℕ) (entry : Entry) (s : RunState) (asked : Step) → at < length schedule → slice_index_or schedule at entry ≡ entry →
      state_after deck describe (take at schedule) ≡ Some s → entry_step deck s entry.who ≡ Some asked → is_fault entry.mark ≡ true →
      SomeHasRisen (step_devices s.world.namespace entry.who asked) (slice_index_or trace at no_devices) (slice_index_or trace (at + 1) no_devices)

-- how many entries have a device's fault
abbrev pub fault_marks : List Entry → ℕ
fault_marks schedule = count_by (λ entry. is_fault entry.mark) schedule

-- how many faults all devices counted
abbrev pub all_faults : ByDevice → ℕ
all_faults counts = sum_by (λ count. count) counts.volumes + sum_by (λ count. count) counts.chars

-- no count stands at the last value of its type
pub record AreExact (counts : ByDevice) : Type 0 where
  pub volumes : (volume : ℕ) → slice_index_or counts.volumes volume 0 < 2 ^ 64 - 1
  pub chars : (device : ℕ) → slice_index_or counts.chars device 0 < 2 ^ 64 - 1

-- Where all entries can be taken and no count stands at its last value, there are no more marks of a device's fault than faults
-- that the devices counted along the schedule.
abbrev pub FaultMarksHaveFaults : Type 0
FaultMarksHaveFaults = (deck : Deck) (describe : Describe) (schedule : List Entry) (trace : List ByDevice) (s : RunState) →
    CountsRise deck describe schedule trace → state_after deck describe schedule ≡ Some s → AreExact (slice_index_or trace (length schedule) no_devices) →
    all_faults (slice_index_or trace 0 no_devices) + fault_marks schedule ≤ all_faults (slice_index_or trace (length schedule) no_devices)
