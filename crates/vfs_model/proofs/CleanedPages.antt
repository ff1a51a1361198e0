-- Dirty pages that are written one after the other are clean and stored then, as those that are written at once.
use Rattle.std.specs.Prelude.{◌≡◌, ℕ, ◌==◌, Bool, true, false, not, ◌&&◌, ◌||◌, List, [], ◌∷◌, ◌++◌, map, filter, fold, refl, if◌then◌else◌}
use Rattle.std.proofs.Common.{sym, ◌∙◌, ap, ap₂, inl, inr}
use Rattle.std.proofs.lemmas.Bool.Decides.{eqb_tells}
use Rattle.std.proofs.lemmas.List.{append-nil, append_assoc}
use Rattle.std.specs.BTreeSet.{insert_key}
use Rattle.std.specs.List.{list_all, list_any}
use Rattle.std.specs.FinMap.{nat_cmp-IsAntisymmetric}
use Rattle.std.specs.Ordering.{match_ordering, nat_cmp}
use Rattle.std.specs.declared.cmp.Ordering.{Ordering}
use Rattle.std.specs.declared.cmp.Ordering.TheVariants.{Less, Equal, Greater}
use Rattle.vfs_model.specs.Cache.{CacheRun, dirty_pages, is_page, make_clean, write_back}
use Rattle.vfs_model.specs.FailedCalls.{clean_page}
use Rattle.vfs_model.specs.declared.cache.DeviceCall.TheVariants as call
use Rattle.vfs_model.specs.declared.cache.Resident.{Resident}

-- one page is written, and is clean and stored then
abbrev pub clear_clean : CacheRun → ℕ → CacheRun
clear_clean run page = record {
  next = record { resident = map (clean_page page) run.next.resident; stored = insert_key nat_cmp run.next.stored page };
  calls = run.calls ++ call.Write page ∷ [];
}

-- the slot is clean, or its page is among these
abbrev pub is_covered : List ℕ → Resident → Bool
is_covered pages slot = not slot.is_dirty || list_any (λ page. is_page page slot) pages

or-right : (a b : Bool) → b ≡ true → (a || b) ≡ true
or-right true b e = refl
or-right false b e = e

or-left : (a b : Bool) → a ≡ true → (a || b) ≡ true
or-left true b e = refl
or-left false b e = absurd (cc)

and-both : (a b : Bool) → (a && b) ≡ true → (a ≡ true) × (b ≡ true)
and-both true b e = (refl, e)
and-both false b e = absurd (cc)

both-and : (a b : Bool) → a ≡ true → b ≡ true → (a && b) ≡ true
both-and true b e f = f
both-and false b e f = absurd (cc)

-- what is covered by a page and others is covered by the others once the page is cleaned
clean-covers : (page : ℕ) (pages : List ℕ) (slot : Resident) → is_covered (page ∷ pages) slot ≡ true → is_covered pages (clean_page page slot) ≡ true
clean-covers page pages slot e = by (is_page page slot) refl
  where
    by : (t : Bool) → is_page page slot ≡ t → is_covered pages (clean_page page slot) ≡ true
    by true f = ap (λ t. is_covered pages (if t then make_clean slot else slot)) f
    by false f = ap (λ t. is_covered pages (if t then make_clean slot else slot)) f ∙ sym (ap (λ t. not slot.is_dirty || (t || list_any (λ page. is_page page slot) pages)) f) ∙ e

all-clean-covers : (page : ℕ) (pages : List ℕ) (slots : List Resident) → list_all (is_covered (page ∷ pages)) slots ≡ true →
    list_all (is_covered pages) (map (clean_page page) slots) ≡ true
all-clean-covers page pages [] e = refl
all-clean-covers page pages (slot ∷ slots) e =
    let both = and-both (is_covered (page ∷ pages) slot) (list_all (is_covered (page ∷ pages)) slots) e in
    both-and (is_covered pages (clean_page page slot)) (list_all (is_covered pages) (map (clean_page page) slots))
    (clean-covers page pages slot both.0) (all-clean-covers page pages slots both.1)

clean-again : (page : ℕ) (slot : Resident) → make_clean (clean_page page slot) ≡ make_clean slot
clean-again page slot = by (is_page page slot)
  where
    by : (t : Bool) → make_clean (if t then make_clean slot else slot) ≡ make_clean slot
    by true = refl
    by false = refl

all-clean-again : (page : ℕ) (slots : List Resident) → map make_clean (map (clean_page page) slots) ≡ map make_clean slots
all-clean-again page [] = refl
all-clean-again page (slot ∷ slots) = ap₂ (λ s rest. s ∷ rest) (clean-again page slot) (all-clean-again page slots)

clean-is : (slot : Resident) → is_covered [] slot ≡ true → slot ≡ make_clean slot
clean-is slot e = by slot.is_dirty refl
  where
    by : (t : Bool) → slot.is_dirty ≡ t → slot ≡ make_clean slot
    by true f = let no : false ≡ true = sym (ap (λ t. not t || false) f) ∙ e in absurd (cc)
    by false f = ap (λ t. let s : Resident = record slot { is_dirty = t } in s) f

all-clean-are : (slots : List Resident) → list_all (is_covered []) slots ≡ true → slots ≡ map make_clean slots
all-clean-are [] e = refl
all-clean-are (slot ∷ slots) e =
    let both = and-both (is_covered [] slot) (list_all (is_covered []) slots) e in
    ap₂ (λ s rest. s ∷ rest) (clean-is slot both.0) (all-clean-are slots both.1)

-- pages that cover all slots are cleaned one after the other
cleaned : (pages : List ℕ) (slots : List Resident) → list_all (is_covered pages) slots ≡ true →
    fold (λ left page. map (clean_page page) left) slots pages ≡ map make_clean slots
cleaned [] slots e = all-clean-are slots e
cleaned (page ∷ pages) slots e = cleaned pages (map (clean_page page) slots) (all-clean-covers page pages slots e) ∙ all-clean-again page slots

same : (n : ℕ) → (n == n) ≡ true
same n = elim (eqb_tells n n) [ inl p ↦ p.0 | inr p ↦ absurd (p.1 refl) ]

inserted-is : (slot : Resident) (pages : List ℕ) → list_any (λ page. is_page page slot) (insert_key nat_cmp pages slot.page) ≡ true
inserted-is slot [] = or-left (slot.page == slot.page) false (same slot.page)
inserted-is slot (page ∷ pages) = by (inserted-is slot pages) (nat_cmp slot.page page) refl
  where
    by : list_any (λ page. is_page page slot) (insert_key nat_cmp pages slot.page) ≡ true → (r : Ordering) → nat_cmp slot.page page ≡ r →
        list_any (λ page. is_page page slot) (match_ordering (nat_cmp slot.page page) (slot.page ∷ page ∷ pages) (page ∷ pages) (page ∷ insert_key nat_cmp pages slot.page)) ≡ true
    by more Less f = rw f (or-left (slot.page == slot.page) _ (same slot.page))
    by more Equal f = rw f (or-left (slot.page == page) _ (ap (λ n. slot.page == n) (sym (nat_cmp-IsAntisymmetric slot.page page f)) ∙ same slot.page))
    by more Greater f = rw f (or-right (slot.page == page) _ more)

inserted-keeps : (slot : Resident) (new : ℕ) (pages : List ℕ) → list_any (λ page. is_page page slot) pages ≡ true →
    list_any (λ page. is_page page slot) (insert_key nat_cmp pages new) ≡ true
inserted-keeps slot new [] e = absurd (cc)
inserted-keeps slot new (page ∷ pages) e = by (inserted-keeps slot new pages) (nat_cmp new page) refl
  where
    deeper : (list_any (λ page. is_page page slot) pages ≡ true → list_any (λ page. is_page page slot) (insert_key nat_cmp pages new) ≡ true) →
        (t : Bool) → (slot.page == page) ≡ t → (slot.page == page || list_any (λ page. is_page page slot) (insert_key nat_cmp pages new)) ≡ true
    deeper more true f = or-left (slot.page == page) _ f
    deeper more false f = or-right (slot.page == page) _ (more (sym (ap (λ t. t || list_any (λ page. is_page page slot) pages) f) ∙ e))

    by : (list_any (λ page. is_page page slot) pages ≡ true → list_any (λ page. is_page page slot) (insert_key nat_cmp pages new) ≡ true) →
        (r : Ordering) → nat_cmp new page ≡ r →
        list_any (λ page. is_page page slot) (match_ordering (nat_cmp new page) (new ∷ page ∷ pages) (page ∷ pages) (page ∷ insert_key nat_cmp pages new)) ≡ true
    by more Less f = rw f (or-right (slot.page == new) _ e)
    by more Equal f = rw f e
    by more Greater f = rw f (deeper more (slot.page == page) refl)

abbrev pub into_pages : List ℕ → Resident → List ℕ
into_pages pages slot = insert_key nat_cmp pages slot.page

through : (slot : Resident) (slots : List Resident) (pages : List ℕ) → list_any (λ page. is_page page slot) pages ≡ true →
    list_any (λ page. is_page page slot) (fold into_pages pages slots) ≡ true
through slot [] pages e = e
through slot (other ∷ slots) pages e = through slot slots (into_pages pages other) (inserted-keeps slot other.page pages e)

-- the pages of the dirty slots cover all slots
dirty-cover : (slots : List Resident) (pages : List ℕ) →
    list_all (is_covered (fold into_pages pages (filter (λ slot. slot.is_dirty) slots))) slots ≡ true
dirty-cover [] pages = refl
dirty-cover (slot ∷ slots) pages = by (dirty-cover slots) slot.is_dirty refl
  where
    by : ((pages : List ℕ) → list_all (is_covered (fold into_pages pages (filter (λ slot. slot.is_dirty) slots))) slots ≡ true) →
        (t : Bool) → slot.is_dirty ≡ t →
        list_all (is_covered (fold into_pages pages (if t then slot ∷ filter (λ slot. slot.is_dirty) slots else filter (λ slot. slot.is_dirty) slots))) (slot ∷ slots) ≡ true
    by more true f = both-and _ _ (or-right (not slot.is_dirty) _ (through slot (filter (λ slot. slot.is_dirty) slots) (into_pages pages slot) (inserted-is slot pages))) (more (into_pages pages slot))
    by more false f = both-and _ _ (or-left (not slot.is_dirty) _ (ap not f)) (more pages)

cleaned-runs : (run : CacheRun) (pages : List ℕ) → fold clear_clean run pages ≡ record {
  next = record { resident = fold (λ left page. map (clean_page page) left) run.next.resident pages; stored = fold (insert_key nat_cmp) run.next.stored pages };
  calls = run.calls ++ map (λ page. call.Write page) pages;
}
cleaned-runs run [] = ap (λ calls. let r : CacheRun = record run { calls = calls } in r) (sym (append-nil run.calls))
cleaned-runs run (page ∷ pages) = cleaned-runs (clear_clean run page) pages
    ∙ ap (λ calls. let r : CacheRun = record {
      next = record {
        resident = fold (λ left page. map (clean_page page) left) (map (clean_page page) run.next.resident) pages;
        stored = fold (insert_key nat_cmp) (insert_key nat_cmp run.next.stored page) pages;
      };
      calls = calls;
    } in r) (append_assoc run.calls (call.Write page ∷ []) (map (λ page. call.Write page) pages))

-- the dirty pages one after the other
pub fold-clean : (run : CacheRun) → fold clear_clean run (dirty_pages run.next) ≡ write_back run
unfolding write_back
fold-clean run = cleaned-runs run (dirty_pages run.next)
    ∙ ap (λ slots. let r : CacheRun = record {
      next = record { resident = slots; stored = fold (insert_key nat_cmp) run.next.stored (dirty_pages run.next) };
      calls = run.calls ++ map (λ page. call.Write page) (dirty_pages run.next);
    } in r) (cleaned (dirty_pages run.next) run.next.resident (dirty-cover run.next.resident []))
