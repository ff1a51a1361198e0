use Rattle.mount_tree.proofs.KeptMounts.{numbered-there}
use Rattle.mount_tree.proofs.mount_tree.MountTree.mount.Goals as goal

pub unreachable-requires : goal.unreachable-requires
unreachable-requires c = numbered-there c.args.self.now c.args.id c.find.result c.find.ensures.mount c.requires c.in_default.is
