-- The pages from one on, as they are gathered in a set.
use Rattle.std.specs.Prelude.{◌≡◌, ℕ, ◌≤◌, ◌==◌, Bool, true, false, ◌||◌, nat_le, List, [], ◌∷◌, filter, fold, if◌then◌else◌, refl}
use Rattle.std.proofs.Common.{◌∙◌, ap, arith}
use Rattle.std.proofs.lemmas.Bool.Decides.{nat_tests}
use Rattle.std.specs.BTreeSet.{insert_key}
use Rattle.std.specs.List.{AllByRecursion, list_any}
use Rattle.std.specs.Ordering.{match_ordering, nat_cmp}
use Rattle.std.specs.declared.cmp.Ordering.TheVariants.{Less, Equal, Greater}
use Rattle.page_cache.specs.Layout.{numbers_of}
use Rattle.page_cache.specs.declared.resident_pages.Page.{Page}
use Rattle.page_cache.proofs.Found.{alike}
use Rattle.page_cache.proofs.Held.{AreToGo}
use Rattle.page_cache.proofs.Pages.{inserted}

abbrev pub gathered : List ℕ → List (ℕ × Page) → List ℕ
gathered pages entries = fold (λ kept e. insert_key nat_cmp kept e.0) pages entries

or-true : (s t : Bool) → t ≡ true → (s || t) ≡ true
or-true true t e = refl
or-true false t e = e

stays-among : (q : ℕ) (pages : List ℕ) (entries : List (ℕ × Page)) → list_any (λ other. other == q) pages ≡ true → list_any (λ other. other == q) (gathered pages entries) ≡ true
stays-among q pages [] h = h
stays-among q pages (e ∷ entries) h =
    stays-among q (insert_key nat_cmp pages e.0) entries (inserted q e.0 pages ∙ or-true (e.0 == q) (list_any (λ other. other == q) pages) h)

to-go-from : (keep : ℕ) (pages : List ℕ) (entries : List (ℕ × Page)) → AreToGo keep (gathered pages (filter (λ e. nat_le keep e.0) entries)) entries
to-go-from keep pages [] = tt
to-go-from keep pages (e ∷ entries) =
    let P : Bool → Type 0 = λ t. AreToGo keep (gathered pages (if t then e ∷ filter (λ x. nat_le keep x.0) entries else filter (λ x. nat_le keep x.0) entries)) (e ∷ entries) in
    (elim (nat_le keep e.0) as (λ t. nat_le keep e.0 ≡ t → P t) [
      | true ↦ λ f. (
        λ above. stays-among e.0 (insert_key nat_cmp pages e.0) (filter (λ x. nat_le keep x.0) entries)
            (inserted e.0 e.0 pages ∙ ap (λ t. t || list_any (λ other. other == e.0) pages) (alike e.0)),
        to-go-from keep (insert_key nat_cmp pages e.0) entries,
      )
      | false ↦ λ f. (λ above. absurd (let g = is-above keep e.0 above in cc), to-go-from keep pages entries)
    ]) refl
  where
    is-above : (a b : ℕ) → a ≤ b → nat_le a b ≡ true
    is-above a b h = grind (arith, nat_tests)

-- each page from one on is gathered
pub all-to-go : (keep : ℕ) (entries : List (ℕ × Page)) → AreToGo keep (numbers_of (filter (λ e. nat_le keep e.0) entries)) entries
all-to-go keep entries = to-go-from keep [] entries

above-more : (keep page : ℕ) (pages : List ℕ) → keep ≤ page → AllByRecursion (λ p. keep ≤ p) pages → AllByRecursion (λ p. keep ≤ p) (insert_key nat_cmp pages page)
above-more keep page [] low h = (low, tt)
above-more keep page (first ∷ pages) low h =
    elim (nat_cmp page first) as (λ r. AllByRecursion (λ p. keep ≤ p) (match_ordering r (page ∷ first ∷ pages) (first ∷ pages) (first ∷ insert_key nat_cmp pages page))) [
      | Less ↦ (low, h)
      | Equal ↦ h
      | Greater ↦ (h.0, above-more keep page pages low h.1)
    ]

above-from : (keep : ℕ) (pages : List ℕ) (entries : List (ℕ × Page)) → AllByRecursion (λ p. keep ≤ p) pages →
    AllByRecursion (λ p. keep ≤ p) (gathered pages (filter (λ e. nat_le keep e.0) entries))
above-from keep pages [] h = h
above-from keep pages (e ∷ entries) h = (elim (nat_le keep e.0) as (λ t. nat_le keep e.0 ≡ t →
    AllByRecursion (λ p. keep ≤ p) (gathered pages (if nat_le keep e.0 then e ∷ filter (λ x. nat_le keep x.0) entries else filter (λ x. nat_le keep x.0) entries))) [
      | true ↦ λ f. rw f (above-from keep (insert_key nat_cmp pages e.0) entries (above-more keep e.0 pages (from-test keep e.0 f) h))
      | false ↦ λ f. rw f (above-from keep pages entries h)
    ]) refl
  where
    from-test : (a b : ℕ) → nat_le a b ≡ true → a ≤ b
    from-test a b h = grind (arith, nat_tests)

-- and no other
pub all-above : (keep : ℕ) (entries : List (ℕ × Page)) → AllByRecursion (λ p. keep ≤ p) (numbers_of (filter (λ e. nat_le keep e.0) entries))
all-above keep entries = above-from keep [] entries tt
