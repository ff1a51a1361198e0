use Rattle.world_laws.proofs.unmounted_volume_keeps_its_files.Goals as goal
use Rattle.world_laws.proofs.steps.Remounting.{unmounted-volume}

pub returns : goal.returns
returns c w k point_text mount path p = unmounted-volume w k point_text mount path p
