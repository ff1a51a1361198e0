use Rattle.world_laws.proofs.steps.RomMount.{mounted-rom}
use Rattle.world_laws.proofs.mounted_rom_shows_its_files.Goals as goal

pub returns : goal.returns
returns c w k source point_text type_text path p = mounted-rom w k source point_text type_text path p
