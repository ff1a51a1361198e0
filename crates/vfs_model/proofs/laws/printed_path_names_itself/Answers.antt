use Rattle.vfs_model.proofs.NormalPaths.{printed-names}
use Rattle.vfs_model.proofs.laws.printed_path_names_itself.Goals as goal

pub returns : goal.returns
returns c folder path h l = printed-names folder path h l
