use Rattle.std.proofs.Common.{drop, ap, ◌∙◌}
use Rattle.vfs_model.specs.RenameStep.{moved}
use Rattle.tmpfs.proofs.Rooted.{rooted-moved, tree-moved}
use Rattle.tmpfs.proofs.node_tree.NodeTree.rename_in.Goals as goal

pub invariant_of-self-2 : goal.invariant_of-self-2
invariant_of-self-2 c = rw c.in_ok-replaced.ensures.ok (rooted-moved c.self.invariant c.args.old.now c.args.new.now c.requires.outside c.requires.above)

pub returns-clause-ok : goal.returns-clause-ok
returns-clause-ok c =
    ap (drop 1) c.in_ok-replaced.ensures.ok ∙ tree-moved c.self.invariant c.args.old.now c.args.new.now c.requires.outside c.requires.above
    ∙ ap (moved c.args.old.now c.args.new.now) c.self.view_is
