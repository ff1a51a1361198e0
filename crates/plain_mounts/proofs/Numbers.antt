-- Where there are fewer mounts than numbers, a number is free.
use Rattle.std.proofs.Common.{◌≡◌, ℕ, zero, suc, ◌+◌, ◌-◌, ◌<◌, ◌≤◌, Bool, true, false, cond, List, [], ◌∷◌, length, refl, ap, sym, ◌∙◌, arith, ◌==◌, nat_lt, if◌then◌else◌}
use Rattle.std.specs.Prelude.{not, ◌||◌, count_by, Option, Some, None}
use Rattle.std.specs.List.{list_any, position_or_len, range_with_len}
use Rattle.std.proofs.lemmas.Bool.Decides.{nat_tests}
use Rattle.std.proofs.lemmas.List.Sums.{sum_by-cons}
use Rattle.vfs_model.specs.MountStep.{least_free_mount}
use Rattle.vfs_model.specs.Namespace.{all_mounts}
use Rattle.vfs_model.specs.declared.namespace.Mount.{Mount}
use Rattle.vfs_model.specs.declared.namespace.Namespace.{Namespace}

count_on : (p : ℕ → Bool) (x : ℕ) (xs : List ℕ) → count_by p (x ∷ xs) ≡ cond (p x) 1 0 + count_by p xs
count_on p x xs = sum_by-cons (λ y. cond (p y) 1 0) x xs

taken_on : (test : Bool) (len place count : ℕ) → (len ≤ place → len ≤ count) →
    suc len ≤ cond (not (not test)) (1 + place) 0 → suc len ≤ cond test 1 0 + count
taken_on true len place count later h = let fewer : len ≤ count = later (omega (arith, h)) in omega (arith, fewer)
taken_on false len place count later h = absurd (omega (arith, h))

-- where none is free, all are taken
all_taken : (taken : ℕ → Bool) (xs : List ℕ) → length xs ≤ position_or_len (λ x. not (taken x)) xs → length xs ≤ count_by taken xs
all_taken taken [] h = omega arith
all_taken taken (x ∷ xs) h =
    rw (count_on taken x xs)
    (taken_on (taken x) (length xs) (position_or_len (λ y. not (taken y)) xs) (count_by taken xs) (all_taken taken xs) h)

either_on : (s t : Bool) → cond (s || t) 1 0 ≤ cond s 1 0 + cond t 1 0
either_on true true = omega arith
either_on true false = omega arith
either_on false true = omega arith
either_on false false = omega arith

either : (a b : ℕ → Bool) (xs : List ℕ) → count_by (λ x. a x || b x) xs ≤ count_by a xs + count_by b xs
either a b [] = omega arith
either a b (x ∷ xs) =
    omega (arith, count_on (λ y. a y || b y) x xs, count_on a x xs, count_on b x xs, either_on (a x) (b x), either a b xs)

count_none : (xs : List ℕ) → count_by (λ x. false) xs ≡ 0
count_none [] = refl
count_none (x ∷ xs) = omega (arith, count_on (λ y. false) x xs, count_none xs)

none_below : (number first count : ℕ) → number < first → count_by (λ other. number == other) (range_with_len first count) ≡ 0
none_below number first zero h = refl
none_below number first (suc count) h =
    let apart : (number == first) ≡ false = grind (arith, nat_tests, h) in
    let later : count_by (λ other. number == other) (range_with_len (first + 1) count) ≡ 0 = none_below number (first + 1) count (omega (arith, h)) in
    let on : count_by (λ other. number == other) (first ∷ range_with_len (first + 1) count)
    ≡ cond false 1 0 + count_by (λ other. number == other) (range_with_len (first + 1) count) =
    count_on (λ other. number == other) first (range_with_len (first + 1) count)
    ∙ ap (λ t. cond t 1 0 + count_by (λ other. number == other) (range_with_len (first + 1) count)) apart in
    omega (arith, on, later)

once_on : (test : Bool) (later : ℕ) → (test ≡ true → later ≡ 0) → later ≤ 1 → cond test 1 0 + later ≤ 1
once_on true later none once = omega (arith, none refl)
once_on false later none once = omega (arith, once)

-- a number stands at most once among numbers that rise
once : (number first count : ℕ) → count_by (λ other. number == other) (range_with_len first count) ≤ 1
once number first zero = omega arith
once number first (suc count) =
    rw (count_on (λ other. number == other) first (range_with_len (first + 1) count))
    (once_on (number == first) (count_by (λ other. number == other) (range_with_len (first + 1) count))
    (λ same. none_below number (first + 1) count (grind (arith, nat_tests, same)))
    (once number (first + 1) count))

-- no more numbers are taken than there are mounts
taken_by : (mounts : List Mount) (first count : ℕ) →
    count_by (λ number. list_any (λ mount. mount.number == number) mounts) (range_with_len first count) ≤ length mounts
taken_by [] first count = omega (arith, count_none (range_with_len first count))
taken_by (mount ∷ mounts) first count =
    omega (
      arith,
      either (λ number. mount.number == number) (λ number. list_any (λ other. other.number == number) mounts) (range_with_len first count),
      once mount.number first count,
      taken_by mounts first count,
    )

least_or : (place : ℕ) (test : Bool) → nat_lt place 16 ≡ test → (16 ≤ place → 16 ≤ 15) → place < 16
least_or place true e h = grind (arith, nat_tests, e)
least_or place false e h = let past : 16 ≤ place = grind (arith, nat_tests, e) in absurd (omega (arith, h past))

pub least_is_number : (n : Namespace) → length n.mounts ≤ 14 → least_free_mount n < 16
least_is_number n h =
    let taken : ℕ → Bool = λ number. list_any (λ mount. mount.number == number) (all_mounts n) in
    least_or (least_free_mount n) _ refl
    (λ past.
    let most : count_by taken (range_with_len 0 16) ≤ length (all_mounts n) = taken_by (all_mounts n) 0 16 in
    let all : 16 ≤ count_by taken (range_with_len 0 16) = all_taken taken (range_with_len 0 16) past in
    omega (arith, most, all, h))

range_on : (number : ℕ) → number < 16 → range_with_len number (16 - number) ≡ number ∷ range_with_len (number + 1) (16 - (number + 1))
range_on number h =
    let one : 16 - number ≡ suc (15 - number) = omega arith in
    let less : 16 - (number + 1) ≡ 15 - number = omega arith in
    rw (one, less) refl

pub number_taken : (p : ℕ → Bool) (number : ℕ) → number < 16 → p number ≡ false →
    position_or_len p (range_with_len number (16 - number)) ≡ 1 + position_or_len p (range_with_len (number + 1) (16 - (number + 1)))
number_taken p number h e =
    ap (position_or_len p) (range_on number h)
    ∙ ap (λ t. cond (not t) (1 + position_or_len p (range_with_len (number + 1) (16 - (number + 1)))) 0) e

-- a number that a mount has is passed
pub number_passed : (n : Namespace) (number : ℕ) → number < 16 → list_any (λ mount. mount.number == number) (all_mounts n) ≡ true →
    number + position_or_len (λ other. not (list_any (λ mount. mount.number == other) (all_mounts n))) (range_with_len number (16 - number))
    ≡ least_free_mount n →
    number + 1 + position_or_len (λ other. not (list_any (λ mount. mount.number == other) (all_mounts n))) (range_with_len (number + 1) (16 - (number + 1)))
    ≡ least_free_mount n
number_passed n number h taken so_far =
    let p : ℕ → Bool = λ other. not (list_any (λ mount. mount.number == other) (all_mounts n)) in
    let step : position_or_len p (range_with_len number (16 - number)) ≡ 1 + position_or_len p (range_with_len (number + 1) (16 - (number + 1))) =
    number_taken p number h (ap not taken) in
    omega (arith, step, so_far)

-- the least free number is one that a mount may have
pub is_a_number : (n : Namespace) (found : Option ℕ) (number : ℕ) → length n.mounts ≤ 14 → number ≡ least_free_mount n →
    found ≡ (if nat_lt number 16 then Some number else None) → found ≡ None → ⊥
is_a_number n found number h e found_is none =
    let below : number < 16 = rw e (least_is_number n h) in
    let test : nat_lt number 16 ≡ true = grind (arith, nat_tests, below) in
    let some : None ≡ Some number =
    sym none ∙ found_is ∙ ap (λ (b : Bool). if b then Some number else None) test in
    cc some
