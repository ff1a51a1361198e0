use Rattle.name_tree.proofs.Calls.{list-ok, walk-some}
use Rattle.name_tree.proofs.name_tree.NameTree.list.Goals as goal

pub known_slot-slot-requires : goal.known_slot-slot-requires
known_slot-slot-requires g c = walk-some c.self.invariant c.self.view_is c.args.path.now c.requires

pub returns : goal.returns
returns g c =
    list-ok c.self.invariant c.self.view_is c.args.path.now c.known_slot-slot.result c.named_values.result c.known_slot-slot.ensures c.named_values.ensures.list c.named_values.ensures.ordered
