-- Lemmas on the canonical form.
use Rattle.std.proofs.Common.{◌≡◌, ℕ, suc, ◌+◌, ◌<◌, ◌/◌, min, List, [], ◌++◌, length, take, drop, refl, ap, ◌∙◌, arith, append-nil, length-append, take_at, drop_at, take_all, inl, inr}
use Rattle.std.proofs.lemmas.Bool.{cases_lt}
use Rattle.std.proofs.lemmas.List.{nil_from_length, drop_all}
use Rattle.vfs_model.specs.Manifest.{bytes_line, bytes_text}

-- the bytes of a first line are those in front
line_of_front : (line rest : List ℕ) → length line ≡ min 500 (length (line ++ rest)) → (take 500 (line ++ rest) ≡ line) × (drop 500 (line ++ rest) ≡ rest)
line_of_front line rest size = elim (cases_lt (length line) 500) [
  | inl short ↦
      let none : rest ≡ [] = nil_from_length rest (omega (arith, length-append line rest)) in
      rw (none, append-nil line) (take_all 500 line (omega arith), drop_all 500 line (omega arith))
  | inr full ↦
      let whole : length line ≡ 500 = omega (arith, length-append line rest) in
      (take_at line rest 500 whole, drop_at line rest 500 whole)
]

-- a first line, and those of the bytes behind it
pub bytes_text-step : (bytes line rest : List ℕ) → bytes ≡ line ++ rest → length line ≡ min 500 (length bytes) → 0 < length bytes
    → bytes_text bytes ≡ bytes_line line ++ bytes_text rest
bytes_text-step bytes line rest is size some =
    let sum : length bytes ≡ length line + length rest = ap length is ∙ length-append line rest in
    let one_more : (length bytes + 499) / 500 ≡ suc ((length rest + 499) / 500) = omega (arith, sum, size) in
    let (front, back) = line_of_front line rest (size ∙ ap (λ b. min 500 (length b)) is) in
    rw (one_more, is, front, back) refl
