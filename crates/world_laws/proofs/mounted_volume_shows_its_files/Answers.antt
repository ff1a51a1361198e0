use Rattle.world_laws.proofs.mounted_volume_shows_its_files.Goals as goal
use Rattle.world_laws.proofs.steps.VolumeMount.{mounted-volume}

pub returns : goal.returns
returns c w k source point_text type_text path p = mounted-volume w k source point_text type_text path p
