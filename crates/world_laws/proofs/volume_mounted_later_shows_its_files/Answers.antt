use Rattle.world_laws.proofs.volume_mounted_later_shows_its_files.Goals as goal
use Rattle.world_laws.proofs.steps.Remounting.{mounted-later}

pub returns : goal.returns
returns c w k j point_text again_text type_text mount path = mounted-later w k j point_text again_text type_text mount path
