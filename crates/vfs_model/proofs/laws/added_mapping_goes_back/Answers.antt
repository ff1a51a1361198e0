use Rattle.vfs_model.proofs.ShellTables.{adds-mapping}
use Rattle.vfs_model.proofs.laws.added_mapping_goes_back.Goals as goal

pub returns : goal.returns
returns c mappings window new r = adds-mapping mappings window new r
