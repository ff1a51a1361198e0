use Rattle.vfs_model.specs.NormalPath.{parent_of}
use Rattle.name_tree.proofs.Calls.{bare-slot, relink-ok, relink-sound, relink-value, same-err, walk-contains, walk-front-some, walk-some}
use Rattle.name_tree.proofs.NodeSlots.{entry-contains}
use Rattle.name_tree.proofs.name_tree.NameTree.relink.Goals as goal

pub known_slot-at-requires : goal.known_slot-at-requires
known_slot-at-requires g c = walk-front-some c.self.invariant c.self.view_is c.split_name.result.0.now c.split_name.result.1.now c.split_name.ensures.path c.requires.there

pub known_slot-to-requires : goal.known_slot-to-requires
known_slot-to-requires g c = rw c.split_name-2.ensures.parent (walk-some c.self.invariant c.self.view_is (parent_of c.args.new.now) c.requires.parent)

pub known_slot-slot-requires : goal.known_slot-slot-requires
known_slot-slot-requires g c = walk-some c.self.invariant c.self.view_is c.args.old.now c.requires.there

pub relink_below-requires-clause-source : goal.relink_below-requires-clause-source
relink_below-requires-clause-source g c = walk-contains c.self.invariant c.self.view_is c.split_name.result.0.now c.known_slot-at.result c.known_slot-at.ensures

pub relink_below-requires-clause-target : goal.relink_below-requires-clause-target
relink_below-requires-clause-target g c = walk-contains c.self.invariant c.self.view_is c.split_name-2.result.0.now c.known_slot-to.result c.known_slot-to.ensures

pub relink_below-requires-clause-there : goal.relink_below-requires-clause-there
relink_below-requires-clause-there g c = λ gone e. entry-contains c.self.invariant c.known_slot-to.result c.split_name-2.result.1.now gone e

pub relink_below-requires-clause-bare : goal.relink_below-requires-clause-bare
relink_below-requires-clause-bare g c = λ gone key e.
    bare-slot c.self.invariant c.self.view_is c.split_name-2.result.0.now c.split_name-2.result.1.now c.split_name-2.ensures.path c.known_slot-to.result gone c.known_slot-to.ensures e c.requires.bare key

pub invariant_of-self : goal.invariant_of-self
invariant_of-self g c =
    relink-sound c.self.invariant c.self.view_is c.split_name.result.0.now c.split_name-2.result.0.now c.split_name.result.1.now c.split_name-2.result.1.now c.split_name.ensures.path c.split_name-2.ensures.path
    c.known_slot-at.ensures c.known_slot-to.ensures c.known_slot-slot.ensures c.requires.outside c.requires.bare
    c.relink_below.result c.relink_below.ensures.ok c.relink_below.ensures.err c.relink_below.ensures.value c.relink_below.ensures.fewer c.relink_below.ensures.same

pub returns-clause-value : goal.returns-clause-value
returns-clause-value g c =
    relink-value c.self.invariant c.self.view_is c.split_name.result.0.now c.split_name-2.result.0.now c.split_name.result.1.now c.split_name-2.result.1.now c.split_name.ensures.path c.split_name-2.ensures.path
    c.known_slot-at.ensures c.known_slot-to.ensures c.known_slot-slot.ensures c.requires.outside c.requires.bare
    c.relink_below.result c.relink_below.ensures.value

pub returns-clause-ok : goal.returns-clause-ok
returns-clause-ok g c =
    relink-ok c.self.invariant c.self.view_is c.split_name.result.0.now c.split_name-2.result.0.now c.split_name.result.1.now c.split_name-2.result.1.now c.split_name.ensures.path c.split_name-2.ensures.path
    c.known_slot-at.ensures c.known_slot-to.ensures c.known_slot-slot.ensures c.requires.outside c.requires.bare
    c.relink_below.new.nodes.slots c.relink_below.result c.relink_below.ensures.ok

pub returns-clause-err : goal.returns-clause-err
returns-clause-err g c = same-err c.self.invariant c.self.view_is c.relink_below.new.nodes.slots c.relink_below.result c.relink_below.ensures.err
