use Rattle.mount_tree.proofs.KeptMounts.{removed-kept}
use Rattle.mount_tree.proofs.mount_tree.MountTree.remove.Goals as goal

pub invariant_of-self : goal.invariant_of-self
invariant_of-self c =
    rw c.drop_numbered.ensures (removed-kept (record { root = c.self.inside.root; others = c.self.inside.others }) _ c.self.invariant)
