use Rattle.std.proofs.Common.{refl}
use Rattle.vfs_model.specs.Sizes.{tells_folder}
use Rattle.vfs_model.proofs.SizedSteps.{tells-short}
use Rattle.vfs_model.proofs.laws.tells_short_folders.Goals as goal

pub returns : goal.returns
returns c n k asked m s = tells-short n k asked m (tells_folder asked) refl s
