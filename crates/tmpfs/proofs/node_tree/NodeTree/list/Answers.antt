use Rattle.std.proofs.Common.{map, ap, ◌∙◌}
use Rattle.tmpfs.proofs.Rooted.{entries-listed, entry_of}
use Rattle.tmpfs.specs.NodeTree.{entries_in}
use Rattle.tmpfs.proofs.node_tree.NodeTree.list.Goals as goal

pub returns-clause-ok : goal.returns-clause-ok
returns-clause-ok c =
    c.in_ok-entries.ensures ∙ ap (map entry_of) c.in_ok-list.ensures ∙ entries-listed c.self.invariant c.args.path.now ∙ ap (entries_in c.args.path.now) c.self.view_is
