use Rattle.std.proofs.Common.{Some, ◌∙◌}
use Rattle.name_tree.proofs.Calls.{at-walk, bare-slot, entry-to, ordered, replace-ok, replace-sound, walk-contains, walk-front-some, walk-some}
use Rattle.name_tree.proofs.name_tree.NameTree.replace.Goals as goal

pub known_slot-at-requires : goal.known_slot-at-requires
known_slot-at-requires g c = walk-front-some c.self.invariant c.self.view_is c.split_name.result.0.now c.split_name.result.1.now c.split_name.ensures.path c.requires.there

pub known_slot-to-requires : goal.known_slot-to-requires
known_slot-to-requires g c = walk-front-some c.self.invariant c.self.view_is c.split_name-2.result.0.now c.split_name-2.result.1.now c.split_name-2.ensures.path c.requires.target

pub known_slot-slot-requires : goal.known_slot-slot-requires
known_slot-slot-requires g c = walk-some c.self.invariant c.self.view_is c.args.old.now c.requires.there

pub known_slot-gone-requires : goal.known_slot-gone-requires
known_slot-gone-requires g c = walk-some c.self.invariant c.self.view_is c.args.new.now c.requires.target

pub replace_below-requires-clause-source : goal.replace_below-requires-clause-source
replace_below-requires-clause-source g c = walk-contains c.self.invariant c.self.view_is c.split_name.result.0.now c.known_slot-at.result c.known_slot-at.ensures

pub replace_below-requires-clause-target : goal.replace_below-requires-clause-target
replace_below-requires-clause-target g c =
    entry-to c.self.invariant c.self.view_is c.split_name-2.result.0.now c.split_name-2.result.1.now c.split_name-2.ensures.path c.known_slot-to.result c.known_slot-gone.result c.known_slot-to.ensures c.known_slot-gone.ensures

pub replace_below-requires-clause-there : goal.replace_below-requires-clause-there
replace_below-requires-clause-there g c = walk-contains c.self.invariant c.self.view_is c.args.new.now c.known_slot-gone.result c.known_slot-gone.ensures

pub replace_below-requires-clause-bare : goal.replace_below-requires-clause-bare
replace_below-requires-clause-bare g c = λ key.
    bare-slot c.self.invariant c.self.view_is c.split_name-2.result.0.now c.split_name-2.result.1.now c.split_name-2.ensures.path c.known_slot-to.result c.known_slot-gone.result c.known_slot-to.ensures
    (entry-to c.self.invariant c.self.view_is c.split_name-2.result.0.now c.split_name-2.result.1.now c.split_name-2.ensures.path c.known_slot-to.result c.known_slot-gone.result c.known_slot-to.ensures c.known_slot-gone.ensures)
    c.requires.bare key

pub invariant_of-self : goal.invariant_of-self
invariant_of-self g c =
    replace-sound c.self.invariant c.self.view_is c.split_name.result.0.now c.split_name-2.result.0.now c.split_name.result.1.now c.split_name-2.result.1.now c.split_name.ensures.path c.split_name-2.ensures.path
    c.known_slot-at.ensures c.known_slot-to.ensures c.known_slot-slot.ensures c.requires.outside c.requires.bare c.replace_below.ensures.nodes c.requires.target c.replace_below.ensures.fewer

pub returns-clause-value : goal.returns-clause-value
returns-clause-value g c = at-walk c.self.invariant c.self.view_is c.args.new.now (Some c.known_slot-gone.result) c.known_slot-gone.ensures ∙ c.replace_below.ensures.value

pub returns-clause-tree : goal.returns-clause-tree
returns-clause-tree g c =
    replace-ok c.self.invariant c.self.view_is c.split_name.result.0.now c.split_name-2.result.0.now c.split_name.result.1.now c.split_name-2.result.1.now c.split_name.ensures.path c.split_name-2.ensures.path
    c.known_slot-at.ensures c.known_slot-to.ensures c.known_slot-slot.ensures c.requires.outside c.requires.bare c.replace_below.ensures.nodes

pub returns-clause-ordered : goal.returns-clause-ordered
returns-clause-ordered g c = ordered c.self.invariant c.self.view_is
