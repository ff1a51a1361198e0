use Rattle.std.proofs.Common.{drop, sym, ap, ◌∙◌}
use Rattle.tmpfs.proofs.Rooted.{no-root, root-refused, rooted-without, without-absent}
use Rattle.tmpfs.proofs.node_tree.NodeTree.unlink.Goals as goal

pub returns-then-is_empty-clause-fault : goal.returns-then-is_empty-clause-fault
returns-then-is_empty-clause-fault c =
    root-refused c.self.invariant c.self.view_is c.args.path.now c.if-is_empty.ensures

pub invariant_of-self-in_default : goal.invariant_of-self-in_default
invariant_of-self-in_default c = rw c.remove.ensures.tree (rooted-without c.self.invariant c.args.path.now (no-root c.args.path.now c.if-is_empty.ensures))

pub returns-in_default-clause-refused : goal.returns-in_default-clause-refused
returns-in_default-clause-refused c =
    ap (drop 1) (c.remove.ensures.tree ∙ without-absent c.args.path.now c.self.inside.names (sym c.in_default.ensures.value)) ∙ c.self.view_is

pub invariant_of-self-2 : goal.invariant_of-self-2
invariant_of-self-2 c = rw c.remove.ensures.tree (rooted-without c.self.invariant c.args.path.now (no-root c.args.path.now c.if-is_empty.ensures))
