use Rattle.std.proofs.Common.{◌≡◌, rules}
use Rattle.mount_tree.specs.MountList.{AreMounts, covering}
use Rattle.mount_tree.proofs.KeptMounts.{covering-prefix, covering-there}
use Rattle.mount_tree.proofs.mount_tree.MountTree.under.Goals as goal

pub returns-clause-prefix : goal.returns-clause-prefix
returns-clause-prefix c =
    let is : c.nearest.result.now ≡ covering c.args.self.now c.args.path.now = search rules in
    let sound : AreMounts c.args.self.now = search rules in
    rw is (covering-prefix c.args.self.now c.args.path.now sound)

pub returns-clause-there : goal.returns-clause-there
returns-clause-there c = covering-there c.args.self.now c.args.path.now c.nearest.result.now (search rules)
