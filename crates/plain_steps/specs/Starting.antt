-- The namespace at the start, as it is filled.
use Rattle.std.specs.Prelude.{◌*◌, List, [], None, false, map, replicate}
use Rattle.vfs_base.specs.declared.describe.Describe.{Describe}
use Rattle.vfs_base.specs.declared.limits.TheConstants.{HOLDS, MOUNTS, ROWS, SESSIONS}
use Rattle.vfs_model.specs.Namespace.{opening_device, opening_volume, root_mount}
use Rattle.vfs_model.specs.declared.namespace.Namespace.{Namespace}
use Rattle.vfs_model.specs.declared.namespace.RomImage.{RomImage}

-- without any slot, and without devices
abbrev pub empty_namespace : List RomImage → Namespace
empty_namespace roms = record {
  root = root_mount;
  mounts = [];
  trees = [];
  live_files = [];
  generations = [];
  references = [];
  working_directories = [];
  volumes = [];
  roms = roms;
  devices = [];
  is_stopped = false;
}

-- with all slots, and nothing in them
abbrev pub with_slots : Namespace → Namespace
with_slots n = record n {
  trees = replicate MOUNTS [];
  live_files = replicate ROWS None;
  generations = replicate ROWS 0;
  references = replicate (SESSIONS * HOLDS) None;
  working_directories = replicate SESSIONS [];
}

-- with the devices that were handed in
abbrev pub with_devices : Namespace → Describe → Namespace
with_devices n describe = record n {
  volumes = map opening_volume describe.volumes;
  devices = map opening_device describe.chars;
}
