-- Copies of one item, one at a time.
use Rattle.std.proofs.Common.{◌≡◌, ℕ, zero, suc, ◌+◌, [], ◌∷◌, ◌++◌, replicate, refl, ap, arith}

copy_behind : {X : Type 0} (n : ℕ) (x : X) → replicate (suc n) x ≡ replicate n x ++ x ∷ []
copy_behind zero x = refl
copy_behind (suc n) x = ap (λ rest. x ∷ rest) (copy_behind n x)

pub one_copy_more : {X : Type 0} (n : ℕ) (x : X) → replicate (n + 1) x ≡ replicate n x ++ x ∷ []
one_copy_more n x =
    let e : n + 1 ≡ suc n = omega arith in
    rw e (copy_behind n x)
