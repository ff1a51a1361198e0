-- A session's least free number.
use Rattle.std.proofs.Common.{◌≡◌, ℕ, ◌+◌, ◌-◌, true, is_none, nat_lt, None, slice_index_or, if◌then◌else◌, ap, ◌∙◌, arith}
use Rattle.std.specs.List.{position_or_len}
use Rattle.std.proofs.lemmas.Bool.Decides.{nat_tests}
use Rattle.vfs_model.proofs.FreePlaces.{free-none}
use Rattle.session_holds.specs.SessionTable.{SessionTable, reference_at, references_of}

-- no reference stands there
pub empty-at : (table : SessionTable) (k place : ℕ) → place ≡ position_or_len is_none (references_of table k) → reference_at table k (place + 1) ≡ None
empty-at table k place is =
    let some : nat_lt 0 (place + 1) ≡ true = grind (arith, nat_tests) in
    let back : place + 1 - 1 ≡ place = omega arith in
    ap (λ b. if b then slice_index_or (references_of table k) (place + 1 - 1) None else None) some
    ∙ ap (λ n. slice_index_or (references_of table k) n None) (back ∙ is)
    ∙ free-none (references_of table k)
