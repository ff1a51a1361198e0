-- The bytes that files begin with.
use Rattle.std.specs.Prelude.{ℕ, List, [], slice_index_or}
use Rattle.std.specs.FinMap.Entries.{find as value_at}
use Rattle.vfs_base.specs.Path.{path_cmp}
use Rattle.vfs_model.specs.Content.{no_rom}
use Rattle.vfs_model.specs.Homes.{rom_node_bytes}
use Rattle.vfs_model.specs.declared.namespace.Origin.{Origin}
use Rattle.vfs_model.specs.declared.namespace.Origin.TheVariants as origin
use Rattle.vfs_model.specs.declared.namespace.RomImage.{RomImage}

-- the bytes that a file begins with, if they lie in a rom
abbrev pub origin_content : List RomImage → Origin → List ℕ
origin_content roms (origin.Rom place path) =
    rom_node_bytes (value_at path_cmp path (slice_index_or roms place no_rom).nodes)
origin_content roms origin.Empty = []
origin_content roms (origin.Cell volume cell) = []
origin_content roms (origin.NewCell volume cell) = []
origin_content roms (origin.Device device) = []
