-- The places of what a filter keeps.
use Rattle.std.proofs.Common.{◌≡◌, ℕ, zero, suc, ◌<◌, Bool, true, false, List, [], ◌∷◌, length, filter, slice_index_or, inl, inr, if◌then◌else◌, refl, sym, ap, ◌∙◌, arith}
use Rattle.std.specs.List.{list_any}
use Rattle.vfs_model.specs.Consistency.{AllDiffer}
use Rattle.world_laws.proofs.lists.Lists.{below-or-past, neither, nor-first, nor-second}

-- where an item that a filter keeps stood
abbrev pub place_step : Bool → ℕ → (ℕ → ℕ) → ℕ
place_step true zero later = 0
place_step true (suc place) later = suc (later place)
place_step false place later = suc (later place)

abbrev pub kept_place : {X : Type 0} → (X → Bool) → List X → ℕ → ℕ
kept_place test [] place = place
kept_place test (x ∷ xs) place = place_step (test x) place (kept_place test xs)

step-within : {X : Type 0} (x : X) (xs left : List X) (b : Bool) (later : ℕ → ℕ) (place : ℕ) (d : X) →
    ((at : ℕ) → at < length left → (later at < length xs) × (slice_index_or left at d ≡ slice_index_or xs (later at) d)) → place < length (if b then x ∷ left else left) →
    (place_step b place later < length (x ∷ xs)) × (slice_index_or (if b then x ∷ left else left) place d ≡ slice_index_or (x ∷ xs) (place_step b place later) d)
step-within x xs left true later zero d h l = (omega arith, refl)
step-within x xs left true later (suc place) d h l = let next = h place (omega (arith, l)) in (omega (arith, next), next.1)
step-within x xs left false later place d h l = let next = h place l in (omega (arith, next), next.1)

pub kept-within : {X : Type 0} (test : X → Bool) (xs : List X) (place : ℕ) (d : X) → place < length (filter test xs) →
    (kept_place test xs place < length xs) × (slice_index_or (filter test xs) place d ≡ slice_index_or xs (kept_place test xs place) d)
kept-within test [] place d l = absurd (omega (arith, l))
kept-within test (x ∷ xs) place d l = step-within x xs (filter test xs) (test x) (kept_place test xs) place d (λ at m. kept-within test xs at d m) l

step-rising : {X : Type 0} (x : X) (left : List X) (b : Bool) (later : ℕ → ℕ) (place other : ℕ) → ((at to : ℕ) → at < to → to < length left → later at < later to) →
    place < other → other < length (if b then x ∷ left else left) → place_step b place later < place_step b other later
step-rising x left true later zero zero h l m = absurd (omega (arith, l))
step-rising x left true later zero (suc other) h l m = omega arith
step-rising x left true later (suc place) zero h l m = absurd (omega (arith, l))
step-rising x left true later (suc place) (suc other) h l m = let next = h place other (omega (arith, l)) (omega (arith, m)) in omega (arith, next)
step-rising x left false later place other h l m = let next = h place other l m in omega (arith, next)

pub kept-rising : {X : Type 0} (test : X → Bool) (xs : List X) (place other : ℕ) → place < other → other < length (filter test xs) → kept_place test xs place < kept_place test xs other
kept-rising test [] place other l m = absurd (omega (arith, m))
kept-rising test (x ∷ xs) place other l m = step-rising x (filter test xs) (test x) (kept_place test xs) place other (kept-rising test xs) l m

-- items that stood at one place are at one place
pub kept-apart : {X : Type 0} (test : X → Bool) (xs : List X) (place other : ℕ) → place < length (filter test xs) → other < length (filter test xs) →
    kept_place test xs place ≡ kept_place test xs other → place ≡ other
kept-apart test xs place other l m e = elim (below-or-past place other) [
  | inl less ↦ let rising = kept-rising test xs place other less m in absurd (omega (arith, rising, e))
  | inr past ↦ elim (below-or-past other place) [
    | inl less ↦ let rising = kept-rising test xs other place less l in absurd (omega (arith, rising, e))
    | inr also ↦ omega (arith, past, also)
  ]
]

-- what a filter keeps passes
filter-step : {X : Type 0} (test : X → Bool) (x : X) (left : List X) (b : Bool) → test x ≡ b → (place : ℕ) (d : X) →
    ((at : ℕ) → at < length left → test (slice_index_or left at d) ≡ true) → place < length (if b then x ∷ left else left) → test (slice_index_or (if b then x ∷ left else left) place d) ≡ true
filter-step test x left true e zero d h l = e
filter-step test x left true e (suc place) d h l = h place (omega (arith, l))
filter-step test x left false e place d h l = h place l

pub filter-holds : {X : Type 0} (test : X → Bool) (xs : List X) (place : ℕ) (d : X) → place < length (filter test xs) → test (slice_index_or (filter test xs) place d) ≡ true
filter-holds test [] place d l = absurd (omega (arith, l))
filter-holds test (x ∷ xs) place d l = filter-step test x (filter test xs) (test x) refl place d (λ at m. filter-holds test xs at d m) l

-- an item that passes is kept
record KeptAt {X : Type 0} (test : X → Bool) (xs : List X) (place : ℕ) : Type 0 where
  at : ℕ
  within : at < length (filter test xs)
  is : kept_place test xs at ≡ place

kept-first : {X : Type 0} (test : X → Bool) (x : X) (xs : List X) (b : Bool) → test x ≡ b → b ≡ true →
    (at : ℕ) × (at < length (if b then x ∷ filter test xs else filter test xs)) × (place_step b at (kept_place test xs) ≡ 0)
kept-first test x xs true e h = (0, omega arith, refl)
kept-first test x xs false e h = absurd (cc)

kept-later : {X : Type 0} (test : X → Bool) (x : X) (xs : List X) (b : Bool) (place : ℕ) → KeptAt test xs place →
    (at : ℕ) × (at < length (if b then x ∷ filter test xs else filter test xs)) × (place_step b at (kept_place test xs) ≡ suc place)
kept-later test x xs true place k = (suc k.at, let l = k.within in omega (arith, l), ap suc k.is)
kept-later test x xs false place k = (k.at, k.within, ap suc k.is)

kept-at : {X : Type 0} (test : X → Bool) (xs : List X) (place : ℕ) (d : X) → place < length xs → test (slice_index_or xs place d) ≡ true → KeptAt test xs place
kept-at test [] place d l h = absurd (omega (arith, l))
kept-at test (x ∷ xs) zero d l h = let k = kept-first test x xs (test x) refl h in record { at = k.0; within = k.1; is = k.2 }
kept-at test (x ∷ xs) (suc place) d l h =
    let k = kept-later test x xs (test x) place (kept-at test xs place d (omega (arith, l)) h) in record { at = k.0; within = k.1; is = k.2 }

-- that no two that pass have one value is said of what the filter keeps, or of all places
abbrev pub PassingDiffer : {X Y : Type 0} → (X → Bool) → (X → Y) → List X → Type 0
PassingDiffer {X} test value xs = (place other : ℕ) (d : X) → place < length xs → other < length xs →
    test (slice_index_or xs place d) ≡ true → test (slice_index_or xs other d) ≡ true →
    value (slice_index_or xs place d) ≡ value (slice_index_or xs other d) → place ≡ other

pub passing-differ : {X Y : Type 0} (test : X → Bool) (value : X → Y) (xs : List X) → AllDiffer value (filter test xs) → PassingDiffer test value xs
passing-differ test value xs differ = λ place other d l m h k e.
    let a = kept-at test xs place d l h in
    let b = kept-at test xs other d m k in
    let one = (kept-within test xs a.at d a.within).1 ∙ ap (λ x. slice_index_or xs x d) a.is in
    let two = (kept-within test xs b.at d b.within).1 ∙ ap (λ x. slice_index_or xs x d) b.is in
    let same : a.at ≡ b.at = differ a.at b.at d a.within b.within (ap value one ∙ e ∙ sym (ap value two)) in
    sym a.is ∙ ap (kept_place test xs) same ∙ b.is

pub kept-differ : {X Y : Type 0} (test : X → Bool) (value : X → Y) (xs : List X) → PassingDiffer test value xs → AllDiffer value (filter test xs)
kept-differ test value xs differ = λ place other d l m e.
    let a = kept-within test xs place d l in
    let b = kept-within test xs other d m in
    kept-apart test xs place other l m
    (differ (kept_place test xs place) (kept_place test xs other) d a.0 b.0
    (sym (ap test a.1) ∙ filter-holds test xs place d l) (sym (ap test b.1) ∙ filter-holds test xs other d m) (sym (ap value a.1) ∙ e ∙ ap value b.1))

-- what none of a list passes, none that a filter keeps passes
pub none-filtered : {X : Type 0} (p q : X → Bool) (xs : List X) → list_any p xs ≡ false → list_any p (filter q xs) ≡ false
none-filtered p q [] h = h
none-filtered p q (x ∷ xs) h = by (q x) (none-filtered p q xs (nor-second (p x) (list_any p xs) h))
  where
    by : (b : Bool) → list_any p (filter q xs) ≡ false → list_any p (if b then x ∷ filter q xs else filter q xs) ≡ false
    by true later = neither (p x) _ (nor-first (p x) (list_any p xs) h) later
    by false later = later
