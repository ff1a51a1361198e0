use Rattle.vfs_model.proofs.SoundDescriptors.{stays-sound}
use Rattle.vfs_model.proofs.laws.open_files_stay_sound.Goals as goal

pub returns : goal.returns
returns c = stays-sound
