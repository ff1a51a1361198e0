-- The world at the start, by its parts.
use Rattle.std.proofs.Common.{◌≡◌, ℕ, List, [], Option, None, map, replicate, refl}
use Rattle.vfs_base.specs.Path.{Path}
use Rattle.vfs_base.specs.declared.describe.Describe.{Describe}
use Rattle.vfs_model.specs.Homes.{empty_cells, opening_home, opening_world}
use Rattle.vfs_model.specs.Namespace.{Tree, opening_namespace}
use Rattle.vfs_model.specs.declared.namespace.LiveFile.{LiveFile}
use Rattle.vfs_model.specs.declared.namespace.Namespace.{Namespace}
use Rattle.vfs_model.specs.declared.namespace.Reference.{Reference}
use Rattle.vfs_model.specs.declared.namespace.RomImage.{RomImage}
use Rattle.vfs_model.specs.declared.world.FileState.{FileState}
use Rattle.vfs_model.specs.declared.world.FileState.TheVariants as file
use Rattle.vfs_model.specs.declared.world.Homes.{Homes}
use Rattle.plain_steps.specs.Starting.{empty_namespace, with_devices, with_slots}

pub namespace_starts : (roms : List RomImage) (describe : Describe) →
    with_devices (with_slots (empty_namespace roms)) describe ≡ opening_namespace roms describe
unfolding opening_namespace
namespace_starts roms describe = refl

pub slots_stand : (n : Namespace) (trees : List Tree) (live_files : List (Option LiveFile)) (generations : List ℕ)
    (references : List (Option Reference)) (working_directories : List Path) →
    trees ≡ replicate 16 [] → live_files ≡ replicate 1024 None → generations ≡ replicate 1024 0 → references ≡ replicate 256 None →
    working_directories ≡ replicate 8 [] →
    record n { trees = trees; live_files = live_files; generations = generations; references = references; working_directories = working_directories } ≡ with_slots n
slots_stand n trees live_files generations references working_directories a b c d e = rw (a, b, c, d, e) refl

pub world_starts : (roms : List RomImage) (describe : Describe) (namespace : Namespace) (files : List FileState) (homes : Homes) →
    namespace ≡ opening_namespace roms describe → files ≡ replicate 1024 (file.Unbound 0) →
    homes ≡ record { cells = map empty_cells describe.volumes; devices = map opening_home describe.chars } →
    record { namespace = namespace; files = files; homes = homes } ≡ opening_world roms describe
unfolding opening_world
world_starts roms describe namespace files homes a b c = rw (a, b, c) refl
