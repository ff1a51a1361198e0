-- Different bytes are shown differently.
use Rattle.std.proofs.Common.{◌≡◌, ℕ, ◌/◌, ◌%◌, ◌<◌, ◌==◌, Bool, true, false, ◌&&◌, nat_le, Some, List, [], ◌∷◌, ◌++◌, if◌then◌else◌, slice_index, refl, sym, ap, ap₂, ◌∙◌, arith}
use Rattle.std.proofs.lemmas.Bool.Decides.{nat_tests}
use Rattle.std.proofs.lemmas.List.Elements.{All-head, All-tail}
use Rattle.std.specs.List.{All}
use Rattle.hex.proofs.HexLemmas.{IsDigits, IsDigits-lower_digits}
use Rattle.hex.specs.Hex.{encode_lower, encode_with, hex_digit_value, lower_digits}
use Rattle.vfs_model.specs.CommandText.{shown_bytes}
use Rattle.vfs_model.specs.TextLaws.{IsByte}

digits-exact : (t : List ℕ) (d e : ℕ) → IsDigits t → d < 16 → e < 16 → slice_index t d ≡ slice_index t e → d ≡ e
digits-exact t d e ds l m h =
    let same : Some d ≡ Some e = sym (ds d l) ∙ ap hex_digit_value h ∙ ds e m in
    cc

-- two digits of a byte, and then more
coded-exact : (t : List ℕ) (x y : ℕ) (s r : List ℕ) → IsDigits t → x < 256 → y < 256 →
    encode_with t (x ∷ []) ++ s ≡ encode_with t (y ∷ []) ++ r → (x ≡ y) × (s ≡ r)
unfolding encode_with
coded-exact t x y s r ds l m h =
    let both : slice_index t (x / 16) ∷ slice_index t (x % 16) ∷ s ≡ slice_index t (y / 16) ∷ slice_index t (y % 16) ∷ r = h in
    let first : slice_index t (x / 16) ≡ slice_index t (y / 16) = cc both in
    let second : slice_index t (x % 16) ≡ slice_index t (y % 16) = cc both in
    let rest : s ≡ r = cc both in
    let high : x / 16 ≡ y / 16 = digits-exact t (x / 16) (y / 16) ds (omega (arith, l)) (omega (arith, m)) first in
    let low : x % 16 ≡ y % 16 = digits-exact t (x % 16) (y % 16) ds (omega arith) (omega arith) second in
    (omega (arith, high, low), rest)

-- a backslash is no `x`
apart : ◌≡◌ {A = ℕ} 92 120 → ⊥
apart h = omega (arith, h)

-- a byte as it is shown, by two tests
abbrev shown_by : Bool → Bool → ℕ → List ℕ
shown_by slashed plain x = if slashed then 92 ∷ 92 ∷ [] else if plain then x ∷ [] else 92 ∷ 120 ∷ encode_lower (x ∷ [])

is-slash : (x : ℕ) → (x == 92) ≡ true → x ≡ 92
is-slash x e = grind (arith, nat_tests, e)

no-slash : (x : ℕ) → (x == 92) ≡ false → x ≡ 92 → ⊥
no-slash x e h = let test : (x == 92) ≡ true = grind (arith, nat_tests, h) in cc (test, e)

-- where one byte is shown as another, and then more, they are the same, and so is the rest
module _ (x y : ℕ) (s r : List ℕ) (l : x < 256) (m : y < 256) where
  shown-exact : (a b c d : Bool) → (x == 92) ≡ a → (y == 92) ≡ c →
      shown_by a b x ++ s ≡ shown_by c d y ++ r → (x ≡ y) × (s ≡ r)
  shown-exact true b true d e f h = (is-slash x e ∙ sym (is-slash y f), cc h)
  shown-exact true b false true e f h = let same : y ≡ 92 = cc h in absurd (no-slash y f same)
  shown-exact true b false false e f h = absurd (apart (cc h))
  shown-exact false true true d e f h = let same : x ≡ 92 = cc h in absurd (no-slash x e same)
  shown-exact false true false true e f h = (cc h, cc h)
  shown-exact false true false false e f h = let same : x ≡ 92 = cc h in absurd (no-slash x e same)
  shown-exact false false true d e f h = absurd (apart (sym (cc h)))
  shown-exact false false false true e f h = let same : y ≡ 92 = cc h in absurd (no-slash y f same)
  shown-exact false false false false e f h =
      let digits : encode_with lower_digits (x ∷ []) ++ s ≡ encode_with lower_digits (y ∷ []) ++ r = cc h in
      coded-exact lower_digits x y s r IsDigits-lower_digits l m digits

shown-some : (x : ℕ) (s : List ℕ) (a b : Bool) → [] ≡ shown_by a b x ++ s → ⊥
shown-some x s true b h = cc h
shown-some x s false true h = cc h
shown-some x s false false h = cc h

pub shown-tell : (bytes others : List ℕ) → All IsByte bytes → All IsByte others → shown_bytes bytes ≡ shown_bytes others → bytes ≡ others
shown-tell [] [] k l h = refl
shown-tell [] (y ∷ ys) k l h = absurd (shown-some y (shown_bytes ys) (y == 92) (nat_le 32 y && nat_le y 126) h)
shown-tell (x ∷ xs) [] k l h = absurd (shown-some x (shown_bytes xs) (x == 92) (nat_le 32 x && nat_le x 126) (sym h))
shown-tell (x ∷ xs) (y ∷ ys) k l h =
    let parts =
    shown-exact x y (shown_bytes xs) (shown_bytes ys) (All-head IsByte x xs k) (All-head IsByte y ys l)
    (x == 92) (nat_le 32 x && nat_le x 126) (y == 92) (nat_le 32 y && nat_le y 126) refl refl h in
    let rest = shown-tell xs ys (All-tail IsByte x xs k) (All-tail IsByte y ys l) parts.1 in
    ap₂ (λ (z : ℕ) (zs : List ℕ). z ∷ zs) parts.0 rest
