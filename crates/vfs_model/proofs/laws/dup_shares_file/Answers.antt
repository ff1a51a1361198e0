use Rattle.vfs_model.proofs.ShellTables.{dup-shares}
use Rattle.vfs_model.proofs.laws.dup_shares_file.Goals as goal

pub returns : goal.returns
returns c open_files fd new r = dup-shares open_files fd new r
