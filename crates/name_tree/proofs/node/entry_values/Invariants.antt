use Rattle.std.proofs.Common.{◌≡◌, ◌++◌}
use Rattle.name_tree.specs.Changes.{named_values}
use Rattle.name_tree.proofs.node.entry_values.Given as goal

abbrev pub invariant-loop-name : goal.invariant-loop-name
invariant-loop-name g l = l.list ++ named_values l.nodes.slots l.name-iterator ≡ named_values l.nodes.slots l.fn.entries.entries
