use Rattle.world_laws.proofs.remounted_volume_shows_its_files.Goals as goal
use Rattle.world_laws.proofs.steps.Remounting.{remounted-volume}

pub returns : goal.returns
returns c w k j point_text again_text type_text mount path = remounted-volume w k j point_text again_text type_text mount path
