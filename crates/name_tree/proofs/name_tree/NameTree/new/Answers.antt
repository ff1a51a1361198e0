use Rattle.std.proofs.Common.{◌≡◌, ◌+◌, count_by, is_some, ap, ◌∙◌}
use Rattle.slab.specs.Slab.{slab_len}
use Rattle.name_tree.proofs.NodeChanges.{sound-root, tree_of-root}
use Rattle.name_tree.proofs.NodeSlots.{bare-alone, get-empty, value-alone}
use Rattle.name_tree.proofs.name_tree.NameTree.new.Goals as goal

pub invariant_of-result : goal.invariant_of-result
invariant_of-result g c =
    let one : slab_len c.insert.new.self ≡ 1 = c.in_ok-insert.ensures.len ∙ ap (λ slots. count_by is_some slots + 1) c.new-nodes.ensures.empty in
    rw one (sound-root c.insert.new.self.slots c.args.root
    (value-alone c.new-nodes.result.slots c.insert.new.self.slots c.in_ok-insert.field-0 _ (c.in_ok-insert.ensures.key ∙ c.new-nodes.ensures.first_key) c.in_ok-insert.ensures.updates.changed)
    (bare-alone c.new-nodes.result.slots c.insert.new.self.slots c.in_ok-insert.field-0 _ c.new-nodes.ensures.empty c.in_ok-insert.ensures.updates.changed c.in_ok-insert.ensures.updates.others
    (get-empty c.new.result c.new.ensures.empty)))

pub returns : goal.returns
returns g c =
    tree_of-root c.insert.new.self.slots c.args.root
    (value-alone c.new-nodes.result.slots c.insert.new.self.slots c.in_ok-insert.field-0 _ (c.in_ok-insert.ensures.key ∙ c.new-nodes.ensures.first_key) c.in_ok-insert.ensures.updates.changed)
    (bare-alone c.new-nodes.result.slots c.insert.new.self.slots c.in_ok-insert.field-0 _ c.new-nodes.ensures.empty c.in_ok-insert.ensures.updates.changed c.in_ok-insert.ensures.updates.others
    (get-empty c.new.result c.new.ensures.empty))
