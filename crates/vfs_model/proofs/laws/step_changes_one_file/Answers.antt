use Rattle.vfs_model.proofs.WrittenBytes.{changes-one}
use Rattle.vfs_model.proofs.laws.step_changes_one_file.Goals as goal

pub returns : goal.returns
returns c w asker asked m row e h = changes-one w asker asked m row e h
