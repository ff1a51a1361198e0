use Rattle.slab.specs.Slab.{slab_len}
use Rattle.name_tree.proofs.Entering.{IsEntered}
use Rattle.name_tree.proofs.links.enter_along.Given as goal

abbrev pub invariant-loop-name : goal.invariant-loop-name
invariant-loop-name g l = IsEntered l.initial.nodes.slots l.nodes.slots (slab_len l.nodes) l.path l.value l.name-index l.slot
