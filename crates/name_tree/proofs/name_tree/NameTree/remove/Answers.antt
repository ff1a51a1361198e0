use Rattle.std.proofs.Common.{sym, ◌∙◌}
use Rattle.name_tree.proofs.Calls.{absent-front, absent-last, absent-without, bare-slot, remove-at, remove-ok, remove-sound}
use Rattle.name_tree.proofs.NodeSlots.{entry-contains}
use Rattle.name_tree.proofs.name_tree.NameTree.remove.Goals as goal

pub returns-in_err-parent-clause-value : goal.returns-in_err-parent-clause-value
returns-in_err-parent-clause-value g c =
    c.from_residual.ensures ∙ sym (absent-front c.self.invariant c.self.view_is c.split_name.result.0.now c.split_name.result.1.now c.split_name.ensures.path (sym c.in_err-parent.ensures))

pub returns-in_err-parent-clause-tree : goal.returns-in_err-parent-clause-tree
returns-in_err-parent-clause-tree g c =
    absent-without c.self.invariant c.self.view_is c.args.path.now
    (absent-front c.self.invariant c.self.view_is c.split_name.result.0.now c.split_name.result.1.now c.split_name.ensures.path (sym c.in_err-parent.ensures))

pub returns-in_err-slot-clause-value : goal.returns-in_err-slot-clause-value
returns-in_err-slot-clause-value g c =
    c.from_residual-in_err-slot.ensures
    ∙ sym (absent-last c.self.invariant c.self.view_is c.split_name.result.0.now c.split_name.result.1.now c.split_name.ensures.path (sym c.in_ok-parent.ensures) (sym c.in_err-slot.ensures))

pub returns-in_err-slot-clause-tree : goal.returns-in_err-slot-clause-tree
returns-in_err-slot-clause-tree g c =
    absent-without c.self.invariant c.self.view_is c.args.path.now
    (absent-last c.self.invariant c.self.view_is c.split_name.result.0.now c.split_name.result.1.now c.split_name.ensures.path (sym c.in_ok-parent.ensures) (sym c.in_err-slot.ensures))

pub remove_below-requires-clause-there : goal.remove_below-requires-clause-there
remove_below-requires-clause-there g c = entry-contains c.self.invariant c.in_ok-parent.parent c.split_name.result.1.now c.in_ok-slot.slot (sym c.in_ok-slot.ensures)

pub remove_below-requires-clause-bare : goal.remove_below-requires-clause-bare
remove_below-requires-clause-bare g c =
    bare-slot c.self.invariant c.self.view_is c.split_name.result.0.now c.split_name.result.1.now c.split_name.ensures.path c.in_ok-parent.parent c.in_ok-slot.slot
    (sym c.in_ok-parent.ensures) (sym c.in_ok-slot.ensures) c.requires.bare

pub invariant_of-self : goal.invariant_of-self
invariant_of-self g c =
    remove-sound c.self.invariant c.self.view_is c.split_name.result.0.now c.split_name.result.1.now c.split_name.ensures.path (sym c.in_ok-parent.ensures) (sym c.in_ok-slot.ensures)
    c.requires.bare c.remove_below.ensures.nodes c.remove_below.ensures.len

pub returns-clause-value : goal.returns-clause-value
returns-clause-value g c =
    sym (remove-at c.self.invariant c.self.view_is c.split_name.result.0.now c.split_name.result.1.now c.split_name.ensures.path (sym c.in_ok-parent.ensures) (sym c.in_ok-slot.ensures)
    ∙ c.remove_below.ensures.value)

pub returns-clause-tree : goal.returns-clause-tree
returns-clause-tree g c =
    remove-ok c.self.invariant c.self.view_is c.split_name.result.0.now c.split_name.result.1.now c.split_name.ensures.path (sym c.in_ok-parent.ensures) (sym c.in_ok-slot.ensures)
    c.requires.bare c.remove_below.ensures.nodes
