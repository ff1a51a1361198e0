-- What is no rom's brings no bytes.
use Rattle.std.proofs.Common.{◌≡◌, List, [], refl}
use Rattle.std.specs.Prelude.{true}
use Rattle.plain_files.specs.Contents.{origin_content}
use Rattle.vfs_model.specs.declared.namespace.Origin.{Origin}
use Rattle.vfs_model.specs.declared.namespace.Origin.TheVariants as origin
use Rattle.vfs_model.specs.declared.namespace.RomImage.{RomImage}
use Rattle.plain_nodes.specs.Changes.{brings_no_bytes, is_no_rom, row_change}
use Rattle.plain_nodes.specs.Contents.{change_content}
use Rattle.plain_nodes.specs.declared.changes.Change.{Change}
use Rattle.plain_nodes.specs.declared.changes.Change.TheVariants as told

no_rom_no_bytes : (roms : List RomImage) (begins : Origin) → is_no_rom begins ≡ true → origin_content roms begins ≡ []
no_rom_no_bytes roms origin.Empty e = refl
no_rom_no_bytes roms (origin.Rom place path) e = absurd (cc (e))
no_rom_no_bytes roms (origin.Cell volume cell) e = refl
no_rom_no_bytes roms (origin.NewCell volume cell) e = refl
no_rom_no_bytes roms (origin.Device device) e = refl

pub no_bytes_brought : (roms : List RomImage) (told : Change) → brings_no_bytes told ≡ true → change_content roms (row_change told) ≡ []
no_bytes_brought roms (told.Bind row generation begins) e = no_rom_no_bytes roms begins e
no_bytes_brought roms (told.Free row generation end) e = refl
