use Rattle.vfs_model.specs.NormalPath.{parent_of}
use Rattle.name_tree.proofs.Calls.{insert-ok, insert-sound, same-err, walk-contains, walk-some}
use Rattle.name_tree.proofs.name_tree.NameTree.insert.Goals as goal

pub known_slot-parent-requires : goal.known_slot-parent-requires
known_slot-parent-requires g c = rw c.split_name.ensures.parent (walk-some c.self.invariant c.self.view_is (parent_of c.args.path.now) c.requires.parent)

pub insert_below-requires : goal.insert_below-requires
insert_below-requires g c = walk-contains c.self.invariant c.self.view_is c.split_name.result.0.now c.known_slot-parent.result c.known_slot-parent.ensures

pub invariant_of-self : goal.invariant_of-self
invariant_of-self g c =
    insert-sound c.self.invariant c.self.view_is c.split_name.result.0.now c.split_name.result.1.now c.split_name.ensures.path c.known_slot-parent.ensures c.insert_below.new.nodes.slots c.args.value c.insert_below.result c.requires.absent
    c.insert_below.ensures.ok c.insert_below.ensures.err c.insert_below.ensures.more c.insert_below.ensures.same

pub returns-clause-ok : goal.returns-clause-ok
returns-clause-ok g c =
    insert-ok c.self.invariant c.self.view_is c.split_name.result.0.now c.split_name.result.1.now c.split_name.ensures.path c.known_slot-parent.ensures c.insert_below.new.nodes.slots c.args.value c.insert_below.result c.requires.absent c.insert_below.ensures.ok

pub returns-clause-err : goal.returns-clause-err
returns-clause-err g c = same-err c.self.invariant c.self.view_is c.insert_below.new.nodes.slots c.insert_below.result c.insert_below.ensures.err
