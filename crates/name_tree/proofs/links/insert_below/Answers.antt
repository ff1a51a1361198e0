use Rattle.std.proofs.Common.{◌≡◌, None, IsSome, get_or, sym, ap, ◌∙◌}
use Rattle.name_tree.proofs.NodeSlots.{Inserts-vacant, get-empty}
use Rattle.name_tree.specs.Changes.{Inserts}
use Rattle.name_tree.proofs.links.insert_below.Goals as goal

pub returns-clause-ok : goal.returns-clause-ok
returns-clause-ok g c =
    let same : c.reserve.new.self.slots ≡ c.args.nodes.now.slots = ap (λ s. s.slots) c.in_ok-reserve.ensures.rest_kept in
    let there : IsSome (get_or c.reserve.new.self.slots c.args.slot None) = rw same c.requires in
    let key : c.insert_reserved.result ≡ c.vacant_key-free.result = c.insert_reserved.ensures.key ∙ c.in_ok-enter.ensures.vacant ∙ sym c.vacant_key-free.ensures.value in
    let all : Inserts c.reserve.new.self.slots c.insert_reserved.new.self.slots c.args.slot c.in_ok-name.name c.args.value =
    Inserts-vacant c.reserve.new.self.slots c.enter.new.nodes.slots c.insert_reserved.new.self.slots c.args.slot c.vacant_key-free.result c.insert_reserved.result c.in_ok-name.name
    (record { value = c.args.value; entries = c.new-entries.result }) there c.vacant_key-free.ensures.vacant key c.in_ok-enter.ensures.entry c.in_ok-enter.ensures.values
    (get-empty c.new-entries.result c.new-entries.ensures.empty) c.insert_reserved.ensures.updates.changed c.insert_reserved.ensures.updates.others in
    rw (same, c.in_ok-name.ensures) at all
