use Rattle.std.proofs.Common.{◌≡◌, ℕ, true, is_none, List, Option, ap, ◌∙◌, rules, arith}
use Rattle.std.specs.List.{list_any, position_or_len}
use Rattle.vfs_model.specs.declared.shell_state.OpenFile.{OpenFile}
use Rattle.fd_table.proofs.KeptTable.{add-kept, free-within, has-room}
use Rattle.fd_table.proofs.fd_table.FdTable.add.Goals as goal

pub index_mut-requires : goal.index_mut-requires
index_mut-requires c =
    let free : list_any is_none c.self.inside.descriptors.items ≡ true = grind rules in
    let number : c.first_free-number.result ≡ position_or_len is_none c.self.inside.files.items =
    c.first_free-number.ensures ∙ ap (λ (xs : List (Option OpenFile)). position_or_len is_none xs) c.deref-3.ensures.value in
    let room = has-room (record { descriptors = c.self.inside.descriptors.items; files = c.self.inside.files.items }) c.self.invariant free in
    rw number (omega arith)

pub index_mut-requires-2 : goal.index_mut-requires-2
index_mut-requires-2 c =
    let free : list_any is_none c.self.inside.descriptors.items ≡ true = grind rules in
    let place : c.first_free-place.result ≡ position_or_len is_none c.self.inside.descriptors.items =
    c.first_free-place.ensures ∙ ap (λ (xs : List (Option ℕ)). position_or_len is_none xs) c.deref-2.ensures.value in
    let within = free-within (record { descriptors = c.self.inside.descriptors.items; files = c.self.inside.files.items }) c.self.invariant free in
    let length = c.self.invariant.descriptors in
    rw place (omega arith)

pub overflow_add-result : goal.overflow_add-result
overflow_add-result c =
    let free : list_any is_none c.self.inside.descriptors.items ≡ true = grind rules in
    let place : c.first_free-place.result ≡ position_or_len is_none c.self.inside.descriptors.items =
    c.first_free-place.ensures ∙ ap (λ (xs : List (Option ℕ)). position_or_len is_none xs) c.deref-2.ensures.value in
    let within = free-within (record { descriptors = c.self.inside.descriptors.items; files = c.self.inside.files.items }) c.self.invariant free in
    rw place (omega arith)

pub invariant_of-self : goal.invariant_of-self
invariant_of-self c =
    let free : list_any is_none c.self.inside.descriptors.items ≡ true = grind rules in
    let place : c.first_free-place.result ≡ position_or_len is_none c.self.inside.descriptors.items =
    c.first_free-place.ensures ∙ ap (λ (xs : List (Option ℕ)). position_or_len is_none xs) c.deref-2.ensures.value in
    let number : c.first_free-number.result ≡ position_or_len is_none c.self.inside.files.items =
    c.first_free-number.ensures ∙ ap (λ (xs : List (Option OpenFile)). position_or_len is_none xs) c.deref-3.ensures.value in
    rw (place, number) (add-kept (record { descriptors = c.self.inside.descriptors.items; files = c.self.inside.files.items }) c.args.file c.self.invariant free)
