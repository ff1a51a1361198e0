use Rattle.std.proofs.Common.{Some, rules}
use Rattle.mount_tree.proofs.KeptMounts.{point-is}
use Rattle.mount_tree.proofs.mount_tree.MountTree.is_point.Goals as goal

pub returns-in_err-find_at-clause-point : goal.returns-in_err-find_at-clause-point
returns-in_err-find_at-clause-point c = point-is c.args.self.now c.args.path.now _ (search rules)

pub returns-clause-point : goal.returns-clause-point
returns-clause-point c = point-is c.args.self.now c.args.path.now (Some c.in_ok-find_at.field-0.now.number) (search rules)
