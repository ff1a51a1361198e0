-- The first free place, which a search gives where it finds one.
use Rattle.std.proofs.Common.{◌≡◌, ℕ, Bool, true, false, cond, nat_lt, is_none, Option, Some, None, List, length, refl, sym, ltb-false, arith}
use Rattle.std.specs.List.{position, position_or_len}
use Rattle.std.proofs.lemmas.Option.{cond_some}
use Rattle.vfs_model.proofs.FreePlaces.{free-le}

pub found-place : {X : Type 0} (xs : List (Option X)) (place : ℕ) → position is_none xs ≡ Some place → place ≡ position_or_len is_none xs
found-place xs place is =
    sym (cond_some (nat_lt (position_or_len is_none xs) (length xs)) (position_or_len is_none xs) place is).1

cond-none : {X : Type 0} (t : Bool) (x : X) → cond t (Some x) None ≡ None → t ≡ false
cond-none true x is = absurd (cc)
cond-none false x is = refl

pub no-place : {X : Type 0} (xs : List (Option X)) → position is_none xs ≡ None → length xs ≡ position_or_len is_none xs
no-place xs is =
    let place = position_or_len is_none xs in
    let past = ltb-false place (length xs) (cond-none (nat_lt place (length xs)) place is) in
    let most = free-le xs in
    omega arith
