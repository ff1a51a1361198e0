use Rattle.world_laws.proofs.steps.WorldKeeping.{file-consistent}
use Rattle.world_laws.proofs.file_steps_keep_consistency.Goals as goal

pub returns : goal.returns
returns c w row asked m consistent fits = file-consistent w row asked m consistent fits
