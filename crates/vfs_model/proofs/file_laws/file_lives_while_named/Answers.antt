use Rattle.vfs_model.proofs.LivingFiles.{lives-while-named}
use Rattle.vfs_model.proofs.file_laws.file_lives_while_named.Goals as goal

pub returns : goal.returns
returns c w row s l = lives-while-named w row s l
