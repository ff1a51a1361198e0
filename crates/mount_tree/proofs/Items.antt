-- Facts of each item of a list, and of any two, when an item comes last or a filter takes some away.
use Rattle.std.proofs.Common.{◌≡◌, ℕ, zero, suc, ◌<◌, Bool, true, false, ◌||◌, Some, is_some, List, [], ◌∷◌, ◌++◌, length, filter, slice_index_or, if◌then◌else◌, refl, sym, ap, ◌∙◌, arith}
use Rattle.std.specs.Prelude.{find}
use Rattle.std.specs.List.{list_any}
use Rattle.vfs_model.specs.Consistency.{AllDiffer}

-- the fact holds of the item at each place
abbrev pub EachItem : {X : Type 0} → (X → Type 0) → List X → Type 0
EachItem {X} P xs = (place : ℕ) (d : X) → place < length xs → P (slice_index_or xs place d)

pub each-tail : {X : Type 0} (P : X → Type 0) (x : X) (xs : List X) → EachItem P (x ∷ xs) → EachItem P xs
each-tail P x xs h = λ place d l. h (suc place) d (omega arith)

pub each-cons : {X : Type 0} (P : X → Type 0) (x : X) (xs : List X) → P x → EachItem P xs → (place : ℕ) (d : X) → place < length (x ∷ xs) →
    P (slice_index_or (x ∷ xs) place d)
each-cons P x xs first later zero d l = first
each-cons P x xs first later (suc place) d l = later place d (omega arith)

pub each-filter : {X : Type 0} (P : X → Type 0) (test : X → Bool) (xs : List X) → EachItem P xs → EachItem P (filter test xs)
each-filter P test [] h = h
each-filter {X} P test (x ∷ xs) h = by (test x) (each-filter P test xs (each-tail P x xs h))
  where
    by : (b : Bool) → EachItem P (filter test xs) → EachItem P (if b then x ∷ filter test xs else filter test xs)
    by true later = each-cons P x (filter test xs) (h 0 x (omega arith)) later
    by false later = later

pub each-push : {X : Type 0} (P : X → Type 0) (xs : List X) (y : X) → EachItem P xs → P y → EachItem P (xs ++ y ∷ [])
each-push P [] y h p = each-cons P y [] p h
each-push P (x ∷ xs) y h p = each-cons P x (xs ++ y ∷ []) (h 0 x (omega arith)) (each-push P xs y (each-tail P x xs h) p)

pub differ-tail : {X Y : Type 0} (value : X → Y) (x : X) (xs : List X) → AllDiffer value (x ∷ xs) → AllDiffer value xs
differ-tail value x xs h = λ place other d l m e.
    let same = h (suc place) (suc other) d (omega arith) (omega arith) e in omega (arith, same)

pub differ-first : {X Y : Type 0} (value : X → Y) (x : X) (xs : List X) → AllDiffer value (x ∷ xs) → EachItem (λ y. value y ≡ value x → ⊥) xs
differ-first value x xs h = λ place d l e.
    let same = h (suc place) 0 d (omega arith) (omega arith) e in absurd (omega (arith, same))

pub differ-cons : {X Y : Type 0} (value : X → Y) (x : X) (xs : List X) → EachItem (λ y. value y ≡ value x → ⊥) xs → AllDiffer value xs → AllDiffer value (x ∷ xs)
differ-cons {X} {Y} value x xs apart later = by
  where
    by : (place other : ℕ) (d : X) → place < length (x ∷ xs) → other < length (x ∷ xs) →
        value (slice_index_or (x ∷ xs) place d) ≡ value (slice_index_or (x ∷ xs) other d) → place ≡ other
    by zero zero d l m e = refl
    by zero (suc other) d l m e = absurd (apart other d (omega arith) (sym e))
    by (suc place) zero d l m e = absurd (apart place d (omega arith) e)
    by (suc place) (suc other) d l m e = ap suc (later place other d (omega arith) (omega arith) e)

pub filter-differ : {X Y : Type 0} (value : X → Y) (test : X → Bool) (xs : List X) → AllDiffer value xs → AllDiffer value (filter test xs)
filter-differ value test [] h = h
filter-differ {X} {Y} value test (x ∷ xs) h = by (test x) (filter-differ value test xs (differ-tail value x xs h))
  where
    by : (b : Bool) → AllDiffer value (filter test xs) → AllDiffer value (if b then x ∷ filter test xs else filter test xs)
    by true later =
        differ-cons value x (filter test xs) (each-filter (λ (y : X). value y ≡ value x → ⊥) test xs (differ-first value x xs h)) later
    by false later = later

pub push-differ : {X Y : Type 0} (value : X → Y) (xs : List X) (y : X) → AllDiffer value xs → EachItem (λ x. value x ≡ value y → ⊥) xs →
    AllDiffer value (xs ++ y ∷ [])
push-differ {X} {Y} value [] y h apart = differ-cons value y [] (λ place d l. absurd (omega arith)) h
push-differ {X} {Y} value (x ∷ xs) y h apart =
    let first : EachItem (λ (z : X). value z ≡ value x → ⊥) (xs ++ y ∷ []) =
    each-push (λ (z : X). value z ≡ value x → ⊥) xs y (differ-first value x xs h) (λ e. apart 0 x (omega arith) (sym e)) in
    differ-cons value x (xs ++ y ∷ []) first
    (push-differ value xs y (differ-tail value x xs h) (each-tail (λ (z : X). value z ≡ value y → ⊥) x xs apart))

-- none passes the test, so each fails it
pub each-fails : {X : Type 0} (test : X → Bool) (xs : List X) → list_any test xs ≡ false → EachItem (λ x. test x ≡ false) xs
each-fails test [] h = λ place d l. absurd (omega arith)
each-fails test (x ∷ xs) h = by (test x) refl h (λ later. each-fails test xs later)
  where
    by : (b : Bool) → test x ≡ b → (b || list_any test xs) ≡ false → (list_any test xs ≡ false → EachItem (λ y. test y ≡ false) xs) →
        EachItem (λ y. test y ≡ false) (x ∷ xs)
    by true e h later = absurd (cc)
    by false e h later = each-cons (λ y. test y ≡ false) x xs e (later h)

-- one that passes the test is found
pub is_some-find : {X : Type 0} (test : X → Bool) (xs : List X) → is_some (find test xs) ≡ list_any test xs
is_some-find test [] = refl
is_some-find test (x ∷ xs) = by (test x) (is_some-find test xs)
  where
    by : (b : Bool) → is_some (find test xs) ≡ list_any test xs → is_some (if b then Some x else find test xs) ≡ (b || list_any test xs)
    by true later = refl
    by false later = later

-- an item of the list passes
pub any-at : {X : Type 0} (test : X → Bool) (xs : List X) (place : ℕ) (x : X) → place < length xs → slice_index_or xs place x ≡ x → test x ≡ true →
    list_any test xs ≡ true
any-at test [] place x l is h = absurd (omega arith)
any-at test (y ∷ xs) zero x l is h = ap (λ z. test z || list_any test xs) is ∙ ap (λ b. b || list_any test xs) h
any-at test (y ∷ xs) (suc place) x l is h = by (test y) (any-at test xs place x (omega arith) is h)
  where
    by : (b : Bool) → list_any test xs ≡ true → (b || list_any test xs) ≡ true
    by true later = refl
    by false later = later
