-- Where there are fewer mounts than numbers, the least free number is one, and no mount has it.
use Rattle.std.proofs.Common.{◌≡◌, ℕ, suc, ◌+◌, ◌-◌, ◌<◌, ◌≤◌, ◌==◌, ◌⊎◌, inl, inr, Bool, true, false, nat_eq, nat_le, nat_lt, Option, Some, None, if◌then◌else◌, List, [], ◌∷◌, length, map, slice_index_or, refl, sym, ap, subst, ◌∙◌, arith}
use Rattle.std.specs.Prelude.{not, ◌||◌, cond}
use Rattle.std.specs.List.{list_any, position_or_len, range_with_len}
use Rattle.std.proofs.lemmas.Bool.{cases_lt}
use Rattle.std.proofs.lemmas.Bool.Decides.{nat_tests}
use Rattle.std.proofs.lemmas.List.{length-map}
use Rattle.std.proofs.lemmas.List.FromFn.{get_or-range_with_len}
use Rattle.std.proofs.lemmas.List.Sums.{fails_before_first, passes_at_first}
use Rattle.std.proofs.lemmas.Map.Steps.{le-length_from_below}
use Rattle.mount_tree.specs.MountList.{MountList, has_number, least_free_number, mounts_of}
use Rattle.vfs_model.specs.declared.namespace.Mount.{Mount}

not-false : (b : Bool) → not b ≡ false → b ≡ true
not-false true h = refl
not-false false h = absurd (cc)

not-true : (b : Bool) → not b ≡ true → b ≡ false
not-true true h = absurd (cc)
not-true false h = refl

same-test : (a b : ℕ) → (a == b) ≡ (b == a)
same-test a b = grind (arith, nat_tests)

-- a number that a mount has is among the numbers
among-numbers : (number : ℕ) (mounts : List Mount) →
    list_any (nat_eq number) (map (λ (mount : Mount). mount.number) mounts) ≡ list_any (λ mount. mount.number == number) mounts
among-numbers number [] = refl
among-numbers number (mount ∷ mounts) =
    ap (λ b. b || list_any (nat_eq number) (map (λ (mount : Mount). mount.number) mounts)) (same-test number mount.number)
    ∙ ap (λ b. (mount.number == number) || b) (among-numbers number mounts)

-- so many numbers, of which the first is free where not all are taken
number-at : (number : ℕ) → number < 16 → slice_index_or (range_with_len 0 16) number 0 ≡ number
number-at number l = get_or-range_with_len 0 16 number 0 l ∙ omega arith

-- Whether the number is free, and that a mount may have it.
pub record IsFreeNumber (mounts : MountList) (number : ℕ) : Type 0 where
  pub below : number < 16
  pub free : has_number mounts number ≡ false

pub least-free : (mounts : MountList) → length (mounts_of mounts) < 16 → IsFreeNumber mounts (least_free_number mounts)
least-free mounts few = by (cases_lt (least_free_number mounts) 16)
  where
    by : (least_free_number mounts < 16) ⊎ (16 ≤ least_free_number mounts) → IsFreeNumber mounts (least_free_number mounts)
    by (inl below) =
        let passes = passes_at_first (λ number. not (has_number mounts number)) (range_with_len 0 16) 0 below in
        record {
          below = below;
          free = not-true _ (sym (ap (λ number. not (has_number mounts number)) (number-at (least_free_number mounts) below)) ∙ passes);
        }
    by (inr past) =
        let taken : (number : ℕ) → number < 16 → list_any (nat_eq number) (map (λ (mount : Mount). mount.number) (mounts_of mounts)) ≡ true =
        λ number l. among-numbers number (mounts_of mounts)
        ∙ not-false _ (sym (ap (λ k. not (has_number mounts k)) (number-at number l))
        ∙ fails_before_first (λ k. not (has_number mounts k)) (range_with_len 0 16) number 0 (omega (arith, l, past))) in
        let many = le-length_from_below (map (λ (mount : Mount). mount.number) (mounts_of mounts)) 16 taken in
        let same = length-map (mounts_of mounts) (λ (mount : Mount). mount.number) in
        absurd (omega (arith, many, same, few))

range-on : (number : ℕ) → number < 16 → range_with_len number (16 - number) ≡ number ∷ range_with_len (number + 1) (16 - (number + 1))
range-on number h =
    let one : 16 - number ≡ suc (15 - number) = omega arith in
    let less : 16 - (number + 1) ≡ 15 - number = omega arith in
    rw (one, less) refl

passes-on : (p : ℕ → Bool) (number : ℕ) → number < 16 → p number ≡ false →
    position_or_len p (range_with_len number (16 - number)) ≡ 1 + position_or_len p (range_with_len (number + 1) (16 - (number + 1)))
passes-on p number h e =
    ap (position_or_len p) (range-on number h)
    ∙ ap (λ t. cond (not t) (1 + position_or_len p (range_with_len (number + 1) (16 - (number + 1)))) 0) e

-- a number that a mount has is passed
pub number-passed : (mounts : MountList) (number : ℕ) → number < 16 → has_number mounts number ≡ true →
    number + position_or_len (λ k. not (has_number mounts k)) (range_with_len number (16 - number)) ≡ least_free_number mounts →
    number + 1 + position_or_len (λ k. not (has_number mounts k)) (range_with_len (number + 1) (16 - (number + 1))) ≡ least_free_number mounts
number-passed mounts number h taken so_far =
    let p : ℕ → Bool = λ k. not (has_number mounts k) in
    let step : position_or_len p (range_with_len number (16 - number)) ≡ 1 + position_or_len p (range_with_len (number + 1) (16 - (number + 1))) =
    passes-on p number h (ap not taken) in
    omega (arith, step, so_far)

-- the least free number is one that a mount may have
pub is-a-number : (mounts : MountList) (found : Option ℕ) (number : ℕ) → length mounts.others ≤ 14 → number ≡ least_free_number mounts →
    found ≡ (if nat_lt number 16 then Some number else None) → found ≡ None → ⊥
is-a-number mounts found number few is found_is none =
    let below : number < 16 = rw is (least-free mounts (omega arith)).below in
    let test : nat_lt number 16 ≡ true = grind (arith, nat_tests, below) in
    let some : None ≡ Some number = sym none ∙ found_is ∙ ap (λ (b : Bool). if b then Some number else None) test in
    cc some

pub is-free : (mounts : MountList) (number : ℕ) → length mounts.others ≤ 14 → number ≡ least_free_number mounts → IsFreeNumber mounts number
is-free mounts number few is = subst (IsFreeNumber mounts) (sym is) (least-free mounts (omega arith))

-- where not all numbers are used, there is room for one more mount
pub room-left : (mounts : MountList) (full : Bool) → full ≡ nat_le 16 (length (mounts_of mounts)) → full ≡ false → length mounts.others ≤ 14
room-left mounts full is free =
    let less : nat_le 16 (length (mounts_of mounts)) ≡ false = sym is ∙ free in
    grind (arith, nat_tests, less)
