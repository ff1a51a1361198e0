use Rattle.vfs_model.proofs.NormalPaths.{normal_path-names}
use Rattle.vfs_model.proofs.laws.normal_path_has_normal_names.Goals as goal

pub returns : goal.returns
returns c folder text path h e = normal_path-names folder text path h e
