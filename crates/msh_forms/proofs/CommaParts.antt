-- The parts of a text at its commas, from the place of its first comma.
use Rattle.std.proofs.Common.{◌≡◌, ◌==◌, ℕ, ◌+◌, ◌-◌, ◌<◌, ◌≤◌, Bool, List, [], ◌∷◌, length, take, drop, Some, None, refl, arith}
use Rattle.std.proofs.lemmas.Bool.Decides.{nat_tests}
use Rattle.std.proofs.lemmas.Grind.{common_steps}
use Rattle.std.proofs.lemmas.List.Splits.{slice_split_first}
use Rattle.std.proofs.lemmas.List.{take_all, length-drop}
use Rattle.std.specs.List.{position, position_or_len, slice_split}
use Rattle.msh_forms.specs.Parts.{comma_parts}

whole : (p : ℕ → Bool) (text : List ℕ) → length text ≤ position_or_len p text → slice_split p text ≡ text ∷ []
whole p [] far = refl
whole p (byte ∷ text) far = grind (arith, nat_tests, common_steps, whole p text)

pub one_part : (text : List ℕ) → None ≡ position (λ byte. byte == 44) text → comma_parts text ≡ text ∷ []
one_part text none = grind (arith, nat_tests, whole (λ byte. byte == 44) text)

pub comma_inside : (text : List ℕ) (at : ℕ) → Some at ≡ position (λ byte. byte == 44) text → at < length text
comma_inside text at found = grind (arith, nat_tests)

first_comma : (text : List ℕ) (at : ℕ) → Some at ≡ position (λ byte. byte == 44) text → comma_parts text ≡ take at text ∷ comma_parts (drop (at + 1) text)
first_comma text at found = grind (arith, nat_tests, slice_split_first (λ byte. byte == 44) text 0)

pub comma_then : (text : List ℕ) (at : ℕ) → Some at ≡ position (λ byte. byte == 44) text →
    comma_parts text ≡ take at text ∷ comma_parts (take (length text - (at + 1)) (drop (at + 1) text))
comma_then text at found =
    rw (take_all (length text - (at + 1)) (drop (at + 1) text) (grind (arith, length-drop))) (first_comma text at found)
