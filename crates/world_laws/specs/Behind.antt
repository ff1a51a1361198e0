-- A world in which character devices had output at entry: it goes on as the world that began without.
use Rattle.std.specs.Prelude.{◌≡◌, ℕ, ◌<◌, Bool, true, false, List, [], ◌++◌, length, map, slice_index_or}
use Rattle.std.specs.List.{enumerate_from}
use Rattle.vfs_base.specs.declared.deck.Deck.{Deck}
use Rattle.vfs_base.specs.declared.describe.Describe.{Describe}
use Rattle.vfs_base.specs.declared.entry.Mark.{Mark}
use Rattle.vfs_base.specs.declared.entry.Who.{Who}
use Rattle.vfs_base.specs.declared.step.Step.{Step}
use Rattle.vfs_model.specs.Asking.{Asked, run_steps}
use Rattle.vfs_model.specs.Boxes.{IsConsistent}
use Rattle.vfs_model.specs.FileLife.{backing_of, no_device}
use Rattle.vfs_model.specs.Homes.{device_home, file_at, no_home}
use Rattle.vfs_model.specs.Namespace.{life_at}
use Rattle.vfs_model.specs.ScriptRun.{opening_state}
use Rattle.vfs_model.specs.World.{fits_step, world_step}
use Rattle.vfs_model.specs.declared.namespace.Backing.{Backing}
use Rattle.vfs_model.specs.declared.namespace.Backing.TheVariants as backing
use Rattle.vfs_model.specs.declared.world.DeviceHome.{DeviceHome}
use Rattle.vfs_model.specs.declared.world.FileState.{FileState}
use Rattle.vfs_model.specs.declared.world.FileState.TheVariants as file
use Rattle.vfs_model.specs.declared.world.WorldState.{WorldState}
use Rattle.world_laws.specs.Keeping.{MayRun}

-- a character device at home whose output has these bytes in front
abbrev pub home_behind : List ℕ → DeviceHome → DeviceHome
home_behind front home = record { input = home.input; output = front ++ home.output }

-- a file whose output has these bytes in front, where it has output
abbrev pub file_behind : List ℕ → FileState → FileState
file_behind front (file.Unbound generation) = file.Unbound generation
file_behind front (file.Bytes generation kind capacity bytes) = file.Bytes generation kind capacity bytes
file_behind front (file.Device generation input output) = file.Device generation input (front ++ output)

-- the output that a device had at entry
abbrev pub output_before : List (List ℕ) → ℕ → List ℕ
output_before before device = slice_index_or before device []

-- the bytes in front of the output of a file that lies there
abbrev pub output_in_front : List (List ℕ) → Backing → List ℕ
output_in_front before backing.Memory = []
output_in_front before (backing.Cell volume cell) = []
output_in_front before (backing.Device device) = output_before before device

-- The world v is w behind these outputs of the devices: each device has its bytes in front of its output, at home where it is
-- there, and in the file of its row where it is out. All else is the same.
pub record IsBehind (before : List (List ℕ)) (w v : WorldState) : Type 0 where
  pub namespace : v.namespace ≡ w.namespace
  pub rows : length v.files ≡ length w.files
  pub files : (row : ℕ) → file_at v row ≡ file_behind (output_in_front before (backing_of (life_at w.namespace row))) (file_at w row)
  pub cells : v.homes.cells ≡ w.homes.cells
  pub devices : length v.homes.devices ≡ length w.homes.devices
  pub at_home : (device : ℕ) → device < length w.homes.devices → (slice_index_or w.namespace.devices device no_device).is_out ≡ false →
      device_home v.homes device ≡ home_behind (output_before before device) (device_home w.homes device)
  -- a device that is out has nothing at home, as in w
  pub out : (device : ℕ) → (slice_index_or w.namespace.devices device no_device).is_out ≡ true → device_home v.homes device ≡ no_home

-- a device's home, with the bytes in front where the device isn't out
abbrev pub home_unless_out : Bool → List ℕ → DeviceHome → DeviceHome
home_unless_out true front home = home
home_unless_out false front home = home_behind front home

-- the world behind these outputs of the devices
abbrev pub behind : List (List ℕ) → WorldState → WorldState
behind before w = record w {
  files = map (λ row. file_behind (output_in_front before (backing_of (life_at w.namespace row.0))) row.1) (enumerate_from 1 w.files);
  homes = record w.homes {
    devices = map (λ device. home_unless_out (slice_index_or w.namespace.devices device.0 no_device).is_out (output_before before device.0) device.1)
        (enumerate_from 0 w.homes.devices);
  };
}

-- a world has one world behind these outputs, and that one is consistent too
pub record HasOneBehind (before : List (List ℕ)) (w : WorldState) : Type 0 where
  pub is : IsBehind before w (behind before w)
  pub one : (v : WorldState) → IsBehind before w v → v ≡ behind before w
  pub consistent : IsConsistent (behind before w)

abbrev pub WorldsHaveOneBehind : Type 0
WorldsHaveOneBehind = (before : List (List ℕ)) (w : WorldState) → IsConsistent w → HasOneBehind before w

-- the world at the start of a script, where the devices have these outputs
abbrev pub opening_with : List (List ℕ) → Deck → Describe → WorldState
opening_with before deck describe =
    let w = (opening_state deck describe).world in
    record w { homes = record w.homes { devices = map (λ device. record device.1 { output = output_before before device.0 }) (enumerate_from 0 w.homes.devices) } }

-- it is the world of the start behind them
abbrev pub OpeningIsBehind : Type 0
OpeningIsBehind = (before : List (List ℕ)) (deck : Deck) (describe : Describe) →
    IsBehind before (opening_state deck describe).world (opening_with before deck describe)

-- a step fits the same marks in both worlds, answers the same, and leaves them so
pub record GoesOnBehind (before : List (List ℕ)) (w v : WorldState) (asker : Who) (asked : Step) (m : Mark) : Type 0 where
  pub fits : fits_step v asker asked m ≡ fits_step w asker asked m
  pub reply : (world_step v asker asked m).reply ≡ (world_step w asker asked m).reply
  pub next : IsBehind before (world_step w asker asked m).next (world_step v asker asked m).next

-- every step goes on behind what the devices had at entry
abbrev pub StepsGoOnBehind : Type 0
StepsGoOnBehind = (before : List (List ℕ)) (w v : WorldState) (asker : Who) (asked : Step) (m : Mark) → IsConsistent w →
    IsBehind before w v → GoesOnBehind before w v asker asked m

-- steps that may be taken one after the other may be taken behind as well, answer the same, and leave the world behind
pub record RunsBehind (before : List (List ℕ)) (w v : WorldState) (run : List Asked) : Type 0 where
  pub may : MayRun v run
  pub replies : (run_steps v run).replies ≡ (run_steps w run).replies
  pub next : IsBehind before (run_steps w run).next (run_steps v run).next

abbrev pub RunsGoOnBehind : Type 0
RunsGoOnBehind = (before : List (List ℕ)) (run : List Asked) (w v : WorldState) → IsConsistent w → MayRun w run →
    IsBehind before w v → RunsBehind before w v run
