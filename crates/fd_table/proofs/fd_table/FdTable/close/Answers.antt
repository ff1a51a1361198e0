use Rattle.std.proofs.Common.{◌≡◌, ◌-◌, ℕ, true, List, Option, Some, None, if◌then◌else◌, nat_lt, slice_index_or, ap, sym, ◌∙◌, rules, arith}
use Rattle.vfs_model.specs.OpenFiles.{file_number, is_last}
use Rattle.fd_table.proofs.KeptTable.{close-kept, led-within}
use Rattle.fd_table.proofs.fd_table.FdTable.close.Goals as goal

pub index-file-requires : goal.index-file-requires
index-file-requires c =
    let led : file_number (record { descriptors = c.self.inside.descriptors.items; files = c.self.inside.files.items }) c.args.fd ≡ Some c.in-Some.number =
    ap (λ (xs : List (Option ℕ)). if nat_lt c.args.fd 3 then None else slice_index_or xs (c.args.fd - 3) None) (sym c.deref.ensures.value) ∙ sym c.number_at.ensures ∙ c.in-Some.is in
    let within = led-within (record { descriptors = c.self.inside.descriptors.items; files = c.self.inside.files.items }) c.args.fd c.in-Some.number c.self.invariant led in
    omega arith

pub index_mut-requires-2 : goal.index_mut-requires-2
index_mut-requires-2 c =
    let led : file_number (record { descriptors = c.self.inside.descriptors.items; files = c.self.inside.files.items }) c.args.fd ≡ Some c.in-Some.number =
    ap (λ (xs : List (Option ℕ)). if nat_lt c.args.fd 3 then None else slice_index_or xs (c.args.fd - 3) None) (sym c.deref.ensures.value) ∙ sym c.number_at.ensures ∙ c.in-Some.is in
    let within = led-within (record { descriptors = c.self.inside.descriptors.items; files = c.self.inside.files.items }) c.args.fd c.in-Some.number c.self.invariant led in
    omega arith

pub invariant_of-self-2 : goal.invariant_of-self-2
invariant_of-self-2 c =
    let led : file_number (record { descriptors = c.self.inside.descriptors.items; files = c.self.inside.files.items }) c.args.fd ≡ Some c.in-Some.number =
    ap (λ (xs : List (Option ℕ)). if nat_lt c.args.fd 3 then None else slice_index_or xs (c.args.fd - 3) None) (sym c.deref.ensures.value) ∙ sym c.number_at.ensures ∙ c.in-Some.is in
    let last : is_last (record { descriptors = c.self.inside.descriptors.items; files = c.self.inside.files.items }) c.args.fd ≡ true = grind rules in
    close-kept (record { descriptors = c.self.inside.descriptors.items; files = c.self.inside.files.items }) c.args.fd c.in-Some.number c.self.invariant led last
