use Rattle.std.proofs.Common.{◌∙◌, ap}
use Rattle.std.specs.FinMap.Entries.{put}
use Rattle.vfs_base.specs.Path.{path_cmp}
use Rattle.name_tree.proofs.Calls.{walk-contains, walk-some}
use Rattle.name_tree.proofs.NodeChanges.{sound-valued, tree_of-valued}
use Rattle.name_tree.proofs.name_tree.NameTree.set.Goals as goal

pub known_slot-slot-requires : goal.known_slot-slot-requires
known_slot-slot-requires g c = walk-some c.self.invariant c.self.view_is c.args.path.now c.requires

pub set_value-requires : goal.set_value-requires
set_value-requires g c = walk-contains c.self.invariant c.self.view_is c.args.path.now c.known_slot-slot.result c.known_slot-slot.ensures

pub invariant_of-self : goal.invariant_of-self
invariant_of-self g c =
    rw c.set_value.ensures.len (sound-valued c.self.invariant c.set_value.new.nodes.slots c.args.path.now c.known_slot-slot.ensures c.set_value.ensures.value c.set_value.ensures.entries)

pub returns : goal.returns
returns g c =
    tree_of-valued c.self.invariant c.set_value.new.nodes.slots c.args.path.now c.known_slot-slot.ensures c.set_value.ensures.value c.set_value.ensures.entries
    ∙ ap (put path_cmp c.args.path.now c.args.value) c.self.view_is
