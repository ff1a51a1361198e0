-- What is seen of a world: its names, what its files hold where that is told, and the faults that its devices counted.
use Rattle.std.specs.Prelude.{Option, Some, None, List, option_map, ⊤}
use Rattle.vfs_model.specs.FaultCounts.{ByDevice, no_devices}
use Rattle.vfs_model.specs.declared.namespace.Namespace.{Namespace}
use Rattle.vfs_model.specs.declared.world.FileState.{FileState}
use Rattle.vfs_model.specs.declared.world.Homes.{Homes}
use Rattle.vfs_model.specs.declared.world.WorldState.{WorldState}

-- What files hold and what lies at home.
pub record WorldContents : Type 0 where
  pub files : List FileState
  pub homes : Homes

pub record WorldView : Type 0 where
  pub namespace : Namespace
  -- none where a device does not tell what it holds
  pub contents : Option WorldContents
  -- how many calls of each device failed so far
  pub faults : ByDevice

abbrev pub world_with : Namespace → WorldContents → WorldState
world_with n contents = record { namespace = n; files = contents.files; homes = contents.homes }

-- the world that is seen, where all of it is told
abbrev pub told_world : WorldView → Option WorldState
told_world view = option_map (world_with view.namespace) view.contents

-- a world that tells all and has no device to fail
abbrev pub view_of : WorldState → WorldView
view_of w = record { namespace = w.namespace; contents = Some (record { files = w.files; homes = w.homes }); faults = no_devices }

-- a fact of a world before and of the world after it, where they are told; what is told stays told
abbrev pub WhereTold : Option WorldState → Option WorldState → (WorldState → WorldState → Type 0) → Type 0
WhereTold None None P = ⊤
WhereTold None (Some new) P = ⊥
WhereTold (Some old) None P = ⊥
WhereTold (Some old) (Some new) P = P old new
