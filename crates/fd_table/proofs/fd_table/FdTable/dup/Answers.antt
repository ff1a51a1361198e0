use Rattle.std.proofs.Common.{◌≡◌, ◌-◌, ℕ, true, is_none, List, Option, Some, None, if◌then◌else◌, nat_lt, slice_index_or, ap, sym, ◌∙◌, rules, arith}
use Rattle.std.specs.List.{list_any, position_or_len}
use Rattle.vfs_model.specs.OpenFiles.{file_number}
use Rattle.fd_table.proofs.KeptTable.{dup-kept, free-within}
use Rattle.fd_table.proofs.fd_table.FdTable.dup.Goals as goal

pub index_mut-requires : goal.index_mut-requires
index_mut-requires c =
    let free : list_any is_none c.self.inside.descriptors.items ≡ true = grind rules in
    let place : c.first_free-free.result ≡ position_or_len is_none c.self.inside.descriptors.items =
    c.first_free-free.ensures ∙ ap (λ (xs : List (Option ℕ)). position_or_len is_none xs) c.deref-3.ensures.value in
    let within = free-within (record { descriptors = c.self.inside.descriptors.items; files = c.self.inside.files.items }) c.self.invariant free in
    let length = c.self.invariant.descriptors in
    rw place (omega arith)

pub overflow_add-result : goal.overflow_add-result
overflow_add-result c =
    let free : list_any is_none c.self.inside.descriptors.items ≡ true = grind rules in
    let place : c.first_free-free.result ≡ position_or_len is_none c.self.inside.descriptors.items =
    c.first_free-free.ensures ∙ ap (λ (xs : List (Option ℕ)). position_or_len is_none xs) c.deref-3.ensures.value in
    let within = free-within (record { descriptors = c.self.inside.descriptors.items; files = c.self.inside.files.items }) c.self.invariant free in
    rw place (omega arith)

pub invariant_of-self : goal.invariant_of-self
invariant_of-self c =
    let free : list_any is_none c.self.inside.descriptors.items ≡ true = grind rules in
    let place : c.first_free-free.result ≡ position_or_len is_none c.self.inside.descriptors.items =
    c.first_free-free.ensures ∙ ap (λ (xs : List (Option ℕ)). position_or_len is_none xs) c.deref-3.ensures.value in
    let led : file_number (record { descriptors = c.self.inside.descriptors.items; files = c.self.inside.files.items }) c.args.fd ≡ Some c.in-Some.number =
    ap (λ (xs : List (Option ℕ)). if nat_lt c.args.fd 3 then None else slice_index_or xs (c.args.fd - 3) None) (sym c.deref.ensures.value) ∙ sym c.number_at.ensures ∙ c.in-Some.is in
    rw place (dup-kept (record { descriptors = c.self.inside.descriptors.items; files = c.self.inside.files.items }) c.args.fd c.in-Some.number c.self.invariant led free)
