-- Bytes that were written are gone from the front.
use Rattle.std.proofs.Common.{◌≡◌, ◌∙◌, ◌+◌, ◌-◌, ℕ, List, drop, length, length-drop, min, sym, arith}
use Rattle.std.proofs.lemmas.List.{drop-drop, drop_min}

pub advanced : (n written : ℕ) (bytes : List ℕ) → drop (written + min (length bytes - written) n) bytes ≡ drop n (drop written bytes)
advanced n written bytes =
    let same : min (length bytes - written) n ≡ min n (length (drop written bytes)) = omega (arith, length-drop written bytes) in
    rw same (sym (drop-drop (min n (length (drop written bytes))) written bytes) ∙ drop_min n (drop written bytes))
