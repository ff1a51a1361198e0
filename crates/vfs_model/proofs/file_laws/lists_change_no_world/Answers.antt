use Rattle.vfs_model.proofs.FlatWorlds.{world-flat}
use Rattle.vfs_model.proofs.file_laws.lists_change_no_world.Goals as goal

pub returns : goal.returns
returns c w asker asked m no_chdir no_device = world-flat w asker asked m no_chdir no_device
