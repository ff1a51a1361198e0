-- Bytes written at their offset.
use Rattle.std.proofs.Common.{rules, arith, ◌≡◌, ℕ, ◌+◌, ◌-◌, ◌<◌, ◌≤◌, max, List, [], ◌∷◌, ◌++◌, length, take, drop, replicate, ap₂}
use Rattle.std.proofs.lemmas.List.{same_lists, places}
use Rattle.vfs_model.specs.FileStep.{cut_or_padded, written_at}

-- the front is the same, however far the zeros go on behind it
pub front-padded : (off end : ℕ) (xs : List ℕ) → off ≤ end →
    take off (xs ++ replicate (end - length xs) 0) ≡ cut_or_padded off xs
front-padded off end xs le = same_lists _ _ (search (rules, places)) (λ k d h. grind (arith, places))

-- the bytes behind the end are the same, where zeros fill up to it at most
pub behind-padded : (end len : ℕ) (xs : List ℕ) → len ≡ max (length xs) end →
    drop end (xs ++ replicate (len - length xs) 0) ≡ drop end xs
behind-padded end len xs e = same_lists _ _ (search (rules, places)) (λ k d h. grind (arith, places))

-- a piece that is put into bytes that zeros have made long enough
pub written_padded : (off len : ℕ) (piece xs : List ℕ) → 0 < length piece → len ≡ max (length xs) (off + length piece) →
    take off (xs ++ replicate (len - length xs) 0) ++ piece ++ drop (off + length piece) (xs ++ replicate (len - length xs) 0)
    ≡ written_at off piece xs
written_padded off len [] xs some e = absurd (omega (arith, some))
written_padded off len (byte ∷ piece) xs some e =
    ap₂ (λ front back. front ++ byte ∷ piece ++ back)
    (front-padded off len xs (omega arith))
    (behind-padded (off + length (byte ∷ piece)) len xs e)
