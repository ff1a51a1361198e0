-- The entries of the map behind the pages in memory, of which no two have one number.
use Rattle.std.specs.Prelude.{◌≡◌, ◌≢◌, ℕ, zero, suc, ◌+◌, ◌-◌, ◌<◌, ◌≤◌, ◌==◌, Bool, true, false, not, cond, ◌||◌, nat_eq, nat_lt, is_some, Option, Some, None, option_map, List, [], ◌∷◌, ◌++◌, length, map, filter, fold, take, drop, slice_get, if◌then◌else◌, refl}
use Rattle.std.proofs.Common.{sym, ◌∙◌, ap, ap₂, subst, inl, inr, arith}
use Rattle.std.proofs.lemmas.Bool.{cases_lt}
use Rattle.std.proofs.lemmas.Bool.Decides.{eqb_tells, nat_tests}
use Rattle.std.proofs.lemmas.List.{length-append, length-drop, length-map, length-take}
use Rattle.std.proofs.lemmas.Map.{keys-set_value, length-set_value}
use Rattle.std.proofs.lemmas.Map.Keys.{IsDistinct-head, IsDistinct-tail, IsDistinct-cons}
use Rattle.std.specs.List.{AllByRecursion, IsDistinct, last_or, list_any}
use Rattle.std.specs.Map.{keys_of, lookup, lookup_entry, remove_entry, set_value}
use Rattle.lru.specs.LruCache.{LruCache, displaced, last_entry, lru_cache, promoted, put_entries}
use Rattle.vfs_base.specs.declared.limits.TheConstants.{PAGE_SIZE, RESIDENT_PAGES}
use Rattle.std.specs.BTreeSet.{insert_key}
use Rattle.std.specs.Ordering.{nat_cmp}
use Rattle.vfs_model.specs.PageList.{CachedPage, slot_of}
use Rattle.page_cache.specs.Layout.{AreHeld, IsWhole, cached_page, cached_pages}
use Rattle.page_cache.specs.Resident.{AreResident, bytes_in, cleaned, dirty_end, dirty_one, edited, holds_page, is_cached, spliced, with_front}
use Rattle.page_cache.specs.declared.resident_pages.Page.{Page}
use Rattle.page_cache.proofs.Found.{alike, differs, same-number}

turned : (a b : ℕ) → (a == b) ≡ (b == a)
turned a b = elim (eqb_tells a b) as (λ _. (a == b) ≡ (b == a)) [
  | inl p ↦ p.0 ∙ sym (ap (λ n. n == a) (sym p.1) ∙ alike a)
  | inr p ↦ p.0 ∙ sym (differs b a (λ e. p.1 (sym e)))
]

-- none of the keys is this one
abbrev pub Lacks : ℕ → List (ℕ × Page) → Type 0
Lacks page entries = AllByRecursion (λ key. (page == key) ≡ false) (keys_of entries)

lacks-other : (page : ℕ) (entries : List (ℕ × Page)) → Lacks page entries → filter (λ c. not (is_cached page c)) (cached_pages entries) ≡ cached_pages entries
lacks-other page [] h = refl
lacks-other page (e ∷ entries) h =
    rw (turned e.0 page ∙ h.0) (ap (λ rest. cached_page e ∷ rest) (lacks-other page entries h.1))

lacks-none : (page : ℕ) (entries : List (ℕ × Page)) → Lacks page entries → filter (is_cached page) (cached_pages entries) ≡ []
lacks-none page [] h = refl
lacks-none page (e ∷ entries) h = rw (turned e.0 page ∙ h.0) (lacks-none page entries h.1)

lacks-removed : (page : ℕ) (entries : List (ℕ × Page)) → Lacks page entries → remove_entry (nat_eq page) entries ≡ entries
lacks-removed page [] h = refl
lacks-removed page (e ∷ entries) h = rw h.0 (ap (λ rest. e ∷ rest) (lacks-removed page entries h.1))

-- all pages but one
pub removed : (page : ℕ) (entries : List (ℕ × Page)) → IsDistinct nat_eq (keys_of entries) →
    cached_pages (remove_entry (nat_eq page) entries) ≡ filter (λ c. not (is_cached page c)) (cached_pages entries)
removed page [] once = refl
removed page (e ∷ entries) once = by (page == e.0) refl (removed page entries (IsDistinct-tail nat_eq e.0 (keys_of entries) once))
  where
    by : (t : Bool) → (page == e.0) ≡ t →
        cached_pages (remove_entry (nat_eq page) entries) ≡ filter (λ c. not (is_cached page c)) (cached_pages entries) →
        cached_pages (cond (page == e.0) entries (e ∷ remove_entry (nat_eq page) entries))
        ≡ (if not (e.0 == page) then cached_page e ∷ filter (λ c. not (is_cached page c)) (cached_pages entries) else filter (λ c. not (is_cached page c)) (cached_pages entries))
    by true f rest =
        let lacks : Lacks page entries = subst (λ k. Lacks k entries) (sym (same-number page e.0 f)) (IsDistinct-head nat_eq e.0 (keys_of entries) once) in
        rw (turned e.0 page) (rw f (sym (lacks-other page entries lacks)))
    by false f rest = rw (turned e.0 page) (rw f (ap (λ ys. cached_page e ∷ ys) rest))

-- the page alone
pub found-alone : (page : ℕ) (entries : List (ℕ × Page)) (e : ℕ × Page) → IsDistinct nat_eq (keys_of entries) → lookup_entry (nat_eq page) entries ≡ Some e →
    filter (is_cached page) (cached_pages entries) ≡ cached_page e ∷ []
found-alone page [] e once found = absurd (cc)
found-alone page (first ∷ entries) e once found = (elim (page == first.0) as (λ t. (page == first.0) ≡ t →
    (if first.0 == page then cached_page first ∷ filter (is_cached page) (cached_pages entries) else filter (is_cached page) (cached_pages entries)) ≡ cached_page e ∷ []) [
      | true ↦ λ f.
          let lacks : Lacks page entries = subst (λ k. Lacks k entries) (sym (same-number page first.0 f)) (IsDistinct-head nat_eq first.0 (keys_of entries) once) in
          let same : first ≡ e = (let g = rw f at found in cc) in
          rw (turned first.0 page) (rw f (ap₂ (λ y ys. cached_page y ∷ ys) same (lacks-none page entries lacks)))
      | false ↦ λ f. rw (turned first.0 page) (rw f (found-alone page entries e (IsDistinct-tail nat_eq first.0 (keys_of entries) once) (rw f at found)))
    ]) refl

-- the page is in memory where the map has its key
pub held : (page : ℕ) (entries : List (ℕ × Page)) → holds_page (cached_pages entries) page ≡ is_some (lookup (nat_eq page) entries)
held page [] = refl
held page (e ∷ entries) = by (page == e.0) refl (held page entries)
  where
    by : (t : Bool) → (page == e.0) ≡ t → holds_page (cached_pages entries) page ≡ is_some (lookup (nat_eq page) entries) →
        (e.0 == page || holds_page (cached_pages entries) page) ≡ is_some (cond (page == e.0) (Some e.1) (lookup (nat_eq page) entries))
    by true f rest = rw (turned e.0 page) (rw f refl)
    by false f rest = rw (turned e.0 page) (rw f rest)

found-entry : (page : ℕ) (entries : List (ℕ × Page)) → is_some (lookup_entry (nat_eq page) entries) ≡ is_some (lookup (nat_eq page) entries)
found-entry page [] = refl
found-entry page (e ∷ entries) = by (page == e.0) (found-entry page entries)
  where
    by : (t : Bool) → is_some (lookup_entry (nat_eq page) entries) ≡ is_some (lookup (nat_eq page) entries) →
        is_some (cond t (Some e) (lookup_entry (nat_eq page) entries)) ≡ is_some (cond t (Some e.1) (lookup (nat_eq page) entries))
    by true rest = refl
    by false rest = rest

-- the page goes to the front
pub fronted : (page : ℕ) (entries : List (ℕ × Page)) → IsDistinct nat_eq (keys_of entries) → is_some (lookup (nat_eq page) entries) ≡ true →
    cached_pages (promoted (nat_eq page) entries) ≡ with_front page (cached_pages entries)
fronted page entries once there = by (lookup_entry (nat_eq page) entries) refl
  where
    by : (o : Option (ℕ × Page)) → lookup_entry (nat_eq page) entries ≡ o → cached_pages (promoted (nat_eq page) entries) ≡ with_front page (cached_pages entries)
    by None f = absurd (let g = found-entry page entries in let s : is_some (lookup_entry (nat_eq page) entries) ≡ false = ap is_some f in cc)
    by (Some e) f = rw f (ap₂ (λ xs ys. xs ++ ys) (sym (found-alone page entries e once f)) (removed page entries once))

-- it stays where it is not there
pub stayed : (page : ℕ) (entries : List (ℕ × Page)) → is_some (lookup (nat_eq page) entries) ≡ false → promoted (nat_eq page) entries ≡ entries
stayed page entries absent = by (lookup_entry (nat_eq page) entries) refl
  where
    by : (o : Option (ℕ × Page)) → lookup_entry (nat_eq page) entries ≡ o → promoted (nat_eq page) entries ≡ entries
    by None f = rw f refl
    by (Some e) f = absurd (let g = found-entry page entries in let s : is_some (lookup_entry (nat_eq page) entries) ≡ true = ap is_some f in cc)

lacks-fewer : (key page : ℕ) (entries : List (ℕ × Page)) → Lacks key entries → Lacks key (remove_entry (nat_eq page) entries)
lacks-fewer key page [] h = tt
lacks-fewer key page (e ∷ entries) h = elim (page == e.0) as (λ t. Lacks key (cond t entries (e ∷ remove_entry (nat_eq page) entries))) [
  | true ↦ h.1
  | false ↦ (h.0, lacks-fewer key page entries h.1)
]

lacks-front : (key n : ℕ) (entries : List (ℕ × Page)) → Lacks key entries → Lacks key (take n entries)
lacks-front key zero entries h = tt
lacks-front key (suc n) [] h = tt
lacks-front key (suc n) (e ∷ entries) h = (h.0, lacks-front key n entries h.1)

-- no number is there twice
pub once-front : (n : ℕ) (entries : List (ℕ × Page)) → IsDistinct nat_eq (keys_of entries) → IsDistinct nat_eq (keys_of (take n entries))
unfolding IsDistinct
once-front zero entries once = tt
once-front (suc n) [] once = tt
once-front (suc n) (e ∷ entries) once = (lacks-front e.0 n entries once.0, once-front n entries once.1)

pub once-removed : (page : ℕ) (entries : List (ℕ × Page)) → IsDistinct nat_eq (keys_of entries) → IsDistinct nat_eq (keys_of (remove_entry (nat_eq page) entries))
unfolding IsDistinct
once-removed page [] once = tt
once-removed page (e ∷ entries) once = elim (page == e.0) as (λ t. IsDistinct nat_eq (keys_of (cond t entries (e ∷ remove_entry (nat_eq page) entries)))) [
  | true ↦ once.1
  | false ↦ (lacks-fewer e.0 page entries once.0, once-removed page entries once.1)
]

key-of : (page : ℕ) (entries : List (ℕ × Page)) (e : ℕ × Page) → lookup_entry (nat_eq page) entries ≡ Some e → page ≡ e.0
key-of page [] e found = absurd (cc)
key-of page (first ∷ entries) e found = (elim (page == first.0) as (λ t. (page == first.0) ≡ t → page ≡ e.0) [
  | true ↦ λ f. let same : first ≡ e = (let g = rw f at found in cc) in same-number page first.0 f ∙ ap (λ (x : ℕ × Page). x.0) same
  | false ↦ λ f. key-of page entries e (rw f at found)
]) refl

removed-lacks : (page : ℕ) (entries : List (ℕ × Page)) (e : ℕ × Page) → IsDistinct nat_eq (keys_of entries) → lookup_entry (nat_eq page) entries ≡ Some e →
    Lacks e.0 (remove_entry (nat_eq page) entries)
removed-lacks page [] e once found = absurd (cc)
removed-lacks page (first ∷ entries) e once found = (elim (page == first.0) as (λ t. (page == first.0) ≡ t → Lacks e.0 (cond (page == first.0) entries (first ∷ remove_entry (nat_eq page) entries))) [
  | true ↦ λ f.
      let same : first ≡ e = (let g = rw f at found in cc) in
      rw f (subst (λ (x : ℕ × Page). Lacks x.0 entries) same (IsDistinct-head nat_eq first.0 (keys_of entries) once))
  | false ↦ λ f.
      let deeper = rw f at found in
      let key : page ≡ e.0 = key-of page entries e deeper in
      rw f (ap (λ k. k == first.0) (sym key) ∙ f, removed-lacks page entries e (IsDistinct-tail nat_eq first.0 (keys_of entries) once) deeper)
]) refl

pub once-fronted : (page : ℕ) (entries : List (ℕ × Page)) → IsDistinct nat_eq (keys_of entries) → IsDistinct nat_eq (keys_of (promoted (nat_eq page) entries))
once-fronted page entries once = by (lookup_entry (nat_eq page) entries) refl
  where
    by : (o : Option (ℕ × Page)) → lookup_entry (nat_eq page) entries ≡ o → IsDistinct nat_eq (keys_of (promoted (nat_eq page) entries))
    by None f = rw f once
    by (Some e) f = rw f (IsDistinct-cons nat_eq e.0 (keys_of (remove_entry (nat_eq page) entries)) (removed-lacks page entries e once f) (once-removed page entries once))

others-stay : (page : ℕ) (f : CachedPage → CachedPage) (entries : List (ℕ × Page)) → ((c : CachedPage) → is_cached page c ≡ false → f c ≡ c) → Lacks page entries →
    cached_pages entries ≡ map f (cached_pages entries)
others-stay page f [] others h = refl
others-stay page f (x ∷ entries) others h = ap₂ (λ y ys. y ∷ ys) (sym (others (cached_page x) (turned x.0 page ∙ h.0))) (others-stay page f entries others h.1)

-- pages are changed in place
pub mapped : (page : ℕ) (f : CachedPage → CachedPage) (v w : Page) (entries : List (ℕ × Page)) → IsDistinct nat_eq (keys_of entries) → lookup (nat_eq page) entries ≡ Some v →
    ((key : ℕ) → (page == key) ≡ true → cached_page (key, w) ≡ f (cached_page (key, v))) → ((c : CachedPage) → is_cached page c ≡ false → f c ≡ c) →
    cached_pages (set_value (nat_eq page) entries w) ≡ map f (cached_pages entries)
mapped page f v w [] once found here others = absurd (cc)
mapped page f v w (e ∷ entries) once found here others = (elim (page == e.0) as (λ t. (page == e.0) ≡ t →
    cached_pages (cond (page == e.0) ((e.0, w) ∷ entries) (e ∷ set_value (nat_eq page) entries w)) ≡ f (cached_page e) ∷ map f (cached_pages entries)) [
      | true ↦ λ g.
          let lacks : Lacks page entries = subst (λ k. Lacks k entries) (sym (same-number page e.0 g)) (IsDistinct-head nat_eq e.0 (keys_of entries) once) in
          let same : e.1 ≡ v = (let k = rw g at found in cc) in
          rw g (ap₂ (λ y ys. y ∷ ys) (here e.0 g ∙ ap (λ (x : Page). f (cached_page (e.0, x))) (sym same)) (others-stay page f entries others lacks))
      | false ↦ λ g. rw g (ap₂ (λ y ys. y ∷ ys) (sym (others (cached_page e) (turned e.0 page ∙ g)))
          (mapped page f v w entries (IsDistinct-tail nat_eq e.0 (keys_of entries) once) (rw g at found) here others))
    ]) refl

numbers : (entries : List (ℕ × Page)) → map (λ c. c.page) (cached_pages entries) ≡ keys_of entries
numbers [] = refl
numbers (e ∷ entries) = ap (λ rest. e.0 ∷ rest) (numbers entries)

pub count : (entries : List (ℕ × Page)) → length (cached_pages entries) ≡ length entries
count entries = length-map entries cached_page

-- what holds of the map holds of the pages that it has
pub as-resident : (pages : LruCache ℕ Page) → AreHeld pages → AreResident (cached_pages pages.entries)
as-resident pages h = record {
  few = subst (λ n. n ≤ RESIDENT_PAGES) (sym (count pages.entries)) h.few;
  once = subst (IsDistinct nat_eq) (sym (numbers pages.entries)) h.once;
}

whole-removed : (page : ℕ) (entries : List (ℕ × Page)) → AllByRecursion IsWhole entries → AllByRecursion IsWhole (remove_entry (nat_eq page) entries)
whole-removed page [] h = tt
whole-removed page (e ∷ entries) h = elim (page == e.0) as (λ t. AllByRecursion IsWhole (cond t entries (e ∷ remove_entry (nat_eq page) entries))) [
  | true ↦ h.1
  | false ↦ (h.0, whole-removed page entries h.1)
]

whole-found : (page : ℕ) (entries : List (ℕ × Page)) (e : ℕ × Page) → AllByRecursion IsWhole entries → lookup_entry (nat_eq page) entries ≡ Some e → IsWhole e
whole-found page [] e h found = absurd (cc)
whole-found page (first ∷ entries) e h found = (elim (page == first.0) as (λ t. (page == first.0) ≡ t → IsWhole e) [
  | true ↦ λ f. let same : first ≡ e = (let g = rw f at found in cc) in subst IsWhole same h.0
  | false ↦ λ f. whole-found page entries e h.1 (rw f at found)
]) refl

whole-front : (n : ℕ) (entries : List (ℕ × Page)) → AllByRecursion IsWhole entries → AllByRecursion IsWhole (take n entries)
whole-front zero entries h = tt
whole-front (suc n) [] h = tt
whole-front (suc n) (e ∷ entries) h = (h.0, whole-front n entries h.1)

whole-set : (page : ℕ) (w : Page) (entries : List (ℕ × Page)) → length w.bytes.items ≡ PAGE_SIZE → AllByRecursion IsWhole entries → AllByRecursion IsWhole (set_value (nat_eq page) entries w)
whole-set page w [] whole h = tt
whole-set page w (e ∷ entries) whole h = elim (page == e.0) as (λ t. AllByRecursion IsWhole (cond t ((e.0, w) ∷ entries) (e ∷ set_value (nat_eq page) entries w))) [
  | true ↦ (whole, h.1)
  | false ↦ (h.0, whole-set page w entries whole h.1)
]

-- the bytes of a page that the map has
pub whole-value : (page : ℕ) (entries : List (ℕ × Page)) (v : Page) → AllByRecursion IsWhole entries → lookup (nat_eq page) entries ≡ Some v → length v.bytes.items ≡ PAGE_SIZE
whole-value page [] v h found = absurd (cc)
whole-value page (e ∷ entries) v h found = (elim (page == e.0) as (λ t. (page == e.0) ≡ t → length v.bytes.items ≡ PAGE_SIZE) [
  | true ↦ λ f. let same : e.1 ≡ v = (let g = rw f at found in cc) in subst (λ (x : Page). length x.bytes.items ≡ PAGE_SIZE) same h.0
  | false ↦ λ f. whole-value page entries v h.1 (rw f at found)
]) refl

pub found-bytes : (page : ℕ) (entries : List (ℕ × Page)) (v : Page) → lookup (nat_eq page) entries ≡ Some v → bytes_in (cached_pages entries) page ≡ v.bytes.items
found-bytes page [] v found = absurd (cc)
found-bytes page (e ∷ entries) v found = (elim (page == e.0) as (λ t. (page == e.0) ≡ t → bytes_in (cached_pages (e ∷ entries)) page ≡ v.bytes.items) [
  | true ↦ λ f. let same : e.1 ≡ v = (let g = rw f at found in cc) in rw (turned e.0 page) (rw f (ap (λ (x : Page). x.bytes.items) same))
  | false ↦ λ f. rw (turned e.0 page) (rw f (found-bytes page entries v (rw f at found)))
]) refl

shorter : (page : ℕ) (entries : List (ℕ × Page)) → length (remove_entry (nat_eq page) entries) ≤ length entries
shorter page [] = omega arith
shorter page (e ∷ entries) = by (page == e.0) (shorter page entries)
  where
    by : (t : Bool) → length (remove_entry (nat_eq page) entries) ≤ length entries → length (cond t entries (e ∷ remove_entry (nat_eq page) entries)) ≤ suc (length entries)
    by true h = omega arith
    by false h = omega (arith, h)

one-less : (page : ℕ) (entries : List (ℕ × Page)) (e : ℕ × Page) → lookup_entry (nat_eq page) entries ≡ Some e → suc (length (remove_entry (nat_eq page) entries)) ≡ length entries
one-less page [] e found = absurd (cc)
one-less page (first ∷ entries) e found = (elim (page == first.0) as (λ t. (page == first.0) ≡ t → suc (length (cond (page == first.0) entries (first ∷ remove_entry (nat_eq page) entries))) ≡ suc (length entries)) [
  | true ↦ λ f. rw f refl
  | false ↦ λ f. rw f (ap suc (one-less page entries e (rw f at found)))
]) refl

-- what holds of the map holds of it after each change
pub held-fronted : (pages : LruCache ℕ Page) (page : ℕ) → AreHeld pages → AreHeld (lru_cache (promoted (nat_eq page) pages.entries) pages.cap)
held-fronted pages page h = by (lookup_entry (nat_eq page) pages.entries) refl
  where
    by : (o : Option (ℕ × Page)) → lookup_entry (nat_eq page) pages.entries ≡ o → AreHeld (lru_cache (promoted (nat_eq page) pages.entries) pages.cap)
    by None f = rw f h
    by (Some e) f = rw f (record {
      room = h.room;
      few = let less = one-less page pages.entries e f in let few = h.few in omega (arith, less, few);
      once = IsDistinct-cons nat_eq e.0 (keys_of (remove_entry (nat_eq page) pages.entries)) (removed-lacks page pages.entries e h.once f) (once-removed page pages.entries h.once);
      whole = (whole-found page pages.entries e h.whole f, whole-removed page pages.entries h.whole);
    })

pub held-front : (pages : LruCache ℕ Page) (n : ℕ) → AreHeld pages → AreHeld (lru_cache (take n pages.entries) pages.cap)
held-front pages n h = record {
  room = h.room;
  few = let few = h.few in let short = length-take n pages.entries in omega (arith, few, short);
  once = once-front n pages.entries h.once;
  whole = whole-front n pages.entries h.whole;
}

pub held-removed : (pages : LruCache ℕ Page) (page : ℕ) → AreHeld pages → AreHeld (lru_cache (remove_entry (nat_eq page) pages.entries) pages.cap)
held-removed pages page h = record {
  room = h.room;
  few = let few = h.few in let short = shorter page pages.entries in omega (arith, few, short);
  once = once-removed page pages.entries h.once;
  whole = whole-removed page pages.entries h.whole;
}

pub held-set : (pages : LruCache ℕ Page) (page : ℕ) (w : Page) → length w.bytes.items ≡ PAGE_SIZE → AreHeld pages → AreHeld (lru_cache (set_value (nat_eq page) pages.entries w) pages.cap)
held-set pages page w whole h = record {
  room = h.room;
  few = subst (λ n. n ≤ RESIDENT_PAGES) (sym (length-set_value (nat_eq page) pages.entries w)) h.few;
  once = subst (IsDistinct nat_eq) (sym (keys-set_value (nat_eq page) pages.entries w)) h.once;
  whole = whole-set page w pages.entries whole h.whole;
}

absent-lacks : (page : ℕ) (entries : List (ℕ × Page)) → holds_page (cached_pages entries) page ≡ false → Lacks page entries
absent-lacks page [] h = tt
absent-lacks page (e ∷ entries) h = (elim (e.0 == page) as (λ t. (e.0 == page) ≡ t → Lacks page (e ∷ entries)) [
  | true ↦ λ f. absurd (let g = rw f at h in cc)
  | false ↦ λ f. (turned page e.0 ∙ f, absent-lacks page entries (rw f at h))
]) refl

absent-entry : (page : ℕ) (entries : List (ℕ × Page)) → holds_page (cached_pages entries) page ≡ false → lookup_entry (nat_eq page) entries ≡ None
absent-entry page [] h = refl
absent-entry page (e ∷ entries) h = (elim (e.0 == page) as (λ t. (e.0 == page) ≡ t → lookup_entry (nat_eq page) (e ∷ entries) ≡ None) [
  | true ↦ λ f. absurd (let g = rw f at h in cc)
  | false ↦ λ f. rw (turned page e.0) (rw f (absent-entry page entries (rw f at h)))
]) refl

-- a page that is put in where it was not
pub put-new : (pages : LruCache ℕ Page) (page : ℕ) (v : Page) → holds_page (cached_pages pages.entries) page ≡ false →
    put_entries nat_eq pages page v ≡ (page, v) ∷ take (pages.cap - 1) pages.entries
put-new pages page v absent = rw (absent-entry page pages.entries absent) refl

pub held-put : (pages : LruCache ℕ Page) (page : ℕ) (v : Page) → holds_page (cached_pages pages.entries) page ≡ false → length v.bytes.items ≡ PAGE_SIZE → AreHeld pages →
    AreHeld (lru_cache (put_entries nat_eq pages page v) pages.cap)
held-put pages page v absent whole h = subst (λ es. AreHeld (lru_cache es pages.cap)) (sym (put-new pages page v absent)) (record {
  room = h.room;
  few = let room = h.room in let short = length-take (pages.cap - 1) pages.entries in omega (arith, room, short);
  once = IsDistinct-cons nat_eq page (keys_of (take (pages.cap - 1) pages.entries)) (lacks-front page (pages.cap - 1) pages.entries (absent-lacks page pages.entries absent))
      (once-front (pages.cap - 1) pages.entries h.once);
  whole = (whole, whole-front (pages.cap - 1) pages.entries h.whole);
})

pub front-pages : (n : ℕ) (entries : List (ℕ × Page)) → cached_pages (take n entries) ≡ take n (cached_pages entries)
front-pages zero entries = refl
front-pages (suc n) [] = refl
front-pages (suc n) (e ∷ entries) = ap (λ rest. cached_page e ∷ rest) (front-pages n entries)

absent-key : (page : ℕ) (entries : List (ℕ × Page)) → lookup (nat_eq page) entries ≡ None → Lacks page entries
absent-key page entries none = absent-lacks page entries (held page entries ∙ ap is_some none)

-- where the page is not there, no page changes
pub stays-mapped : (page : ℕ) (f : CachedPage → CachedPage) (entries : List (ℕ × Page)) → lookup (nat_eq page) entries ≡ None → ((c : CachedPage) → is_cached page c ≡ false → f c ≡ c) →
    cached_pages entries ≡ map f (cached_pages entries)
stays-mapped page f entries none others = others-stay page f entries others (absent-key page entries none)

pub cleaned-other : (page : ℕ) (c : CachedPage) → is_cached page c ≡ false → cleaned page c ≡ c
cleaned-other page c e = ap (λ t. if t then record c { is_dirty = false } else c) e

pub edited-other : (page at : ℕ) (piece : List ℕ) (c : CachedPage) → is_cached page c ≡ false → edited page at piece c ≡ c
edited-other page at piece c e = ap (λ t. if t then record c { is_dirty = true; bytes = spliced at piece c.bytes } else c) e

-- the page is marked clean
pub marked : (page : ℕ) (v : Page) (entries : List (ℕ × Page)) → IsDistinct nat_eq (keys_of entries) → lookup (nat_eq page) entries ≡ Some v →
    cached_pages (set_value (nat_eq page) entries (record v { is_dirty = false })) ≡ map (cleaned page) (cached_pages entries)
marked page v entries once found = mapped page (cleaned page) v (record v { is_dirty = false }) entries once found
    (λ key e. sym (ap (λ t. if t then record (cached_page (key, v)) { is_dirty = false } else cached_page (key, v)) (turned key page ∙ e))) (cleaned-other page)

-- the page is edited
pub edited-one : (page at : ℕ) (piece : List ℕ) (v w : Page) (entries : List (ℕ × Page)) → IsDistinct nat_eq (keys_of entries) → lookup (nat_eq page) entries ≡ Some v →
    (w.is_dirty ≡ true) × (w.bytes.items ≡ spliced at piece v.bytes.items) →
    cached_pages (set_value (nat_eq page) entries w) ≡ map (edited page at piece) (cached_pages entries)
edited-one page at piece v w entries once found new = mapped page (edited page at piece) v w entries once found
    (λ key e. ap₂ (λ d items. let r : CachedPage = record { page = key; is_dirty = d; bytes = items } in r) new.0 new.1
    ∙ sym (ap (λ t. if t then record (cached_page (key, v)) { is_dirty = true; bytes = spliced at piece v.bytes.items } else cached_page (key, v)) (turned key page ∙ e)))
    (edited-other page at piece)

last-from : (x : ℕ × Page) (entries : List (ℕ × Page)) → last_or (Some (cached_page x)) (cached_pages entries) ≡ option_map cached_page (slice_get (x ∷ entries) (length entries))
last-from x [] = refl
last-from x (y ∷ entries) = last-from y entries

last-of : (entries : List (ℕ × Page)) → last_or None (cached_pages entries) ≡ option_map cached_page (last_entry entries)
last-of [] = refl
last-of (x ∷ entries) = last-from x entries ∙ ap (λ n. option_map cached_page (slice_get (x ∷ entries) n)) (let e : length entries ≡ length (x ∷ entries) - 1 = omega arith in e)

-- whether the last page is dirty
pub dirty-at : (entries : List (ℕ × Page)) (o : Option (ℕ × Page)) → last_entry entries ≡ o → dirty_end (cached_pages entries) ≡ dirty_one (option_map cached_page o)
dirty-at entries o e = ap dirty_one (last-of entries ∙ ap (option_map cached_page) e)

whole-at : (n : ℕ) (entries : List (ℕ × Page)) (e : ℕ × Page) → slice_get entries n ≡ Some e → AllByRecursion IsWhole entries → IsWhole e
whole-at n [] e found h = absurd (cc)
whole-at zero (x ∷ entries) e found h = let same : x ≡ e = cc in subst IsWhole same h.0
whole-at (suc n) (x ∷ entries) e found h = whole-at n entries e found h.1

pub whole-last : (entries : List (ℕ × Page)) (e : ℕ × Page) → last_entry entries ≡ Some e → AllByRecursion IsWhole entries → length e.1.bytes.items ≡ PAGE_SIZE
whole-last entries e found h = whole-at (length entries - 1) entries e found h

-- a piece in place of as many bytes leaves their number
pub spliced-length : (at : ℕ) (piece bytes : List ℕ) → at + length piece ≤ length bytes → length (spliced at piece bytes) ≡ length bytes
spliced-length at piece bytes fits =
    let front = length-take at bytes in
    let back = length-drop (at + length piece) bytes in
    let first = length-append (take at bytes) piece in
    let all : length (spliced at piece bytes) ≡ length (take at bytes ++ piece) + length (drop (at + length piece) bytes) =
    length-append (take at bytes ++ piece) (drop (at + length piece) bytes) in
    omega (arith, front, back, first, all, fits)

got : (n : ℕ) (entries : List (ℕ × Page)) → n < length entries → slice_get entries n ≢ None
got n [] low = absurd (omega (arith, low))
got zero (e ∷ entries) low = λ none. absurd (cc)
got (suc n) (e ∷ entries) low = got n entries (omega (arith, low))

pub absent-in : (entries : List (ℕ × Page)) (seen : List CachedPage) (page : ℕ) → cached_pages entries ≡ seen → holds_page seen page ≡ false → holds_page (cached_pages entries) page ≡ false
absent-in entries seen page is absent = ap (λ xs. holds_page xs page) is ∙ absent

absent-value : (page : ℕ) (entries : List (ℕ × Page)) → holds_page (cached_pages entries) page ≡ false → lookup (nat_eq page) entries ≡ None
absent-value page [] h = refl
absent-value page (e ∷ entries) h = (elim (e.0 == page) as (λ t. (e.0 == page) ≡ t → lookup (nat_eq page) (e ∷ entries) ≡ None) [
  | true ↦ λ f. absurd (let g = rw f at h in cc)
  | false ↦ λ f. rw (turned page e.0) (rw f (absent-value page entries (rw f at h)))
]) refl

left-is : (pages : LruCache ℕ Page) (page : ℕ) (v : Page) → holds_page (cached_pages pages.entries) page ≡ false → displaced nat_eq pages page v ≡ slice_get pages.entries (pages.cap - 1)
left-is pages page v absent = rw (absent-value page pages.entries absent) refl

-- of a full map a page leaves, which is whole
pub left-last : (pages : LruCache ℕ Page) (page : ℕ) (v : Page) → holds_page (cached_pages pages.entries) page ≡ false → length pages.entries ≡ RESIDENT_PAGES → AreHeld pages →
    displaced nat_eq pages page v ≢ None
left-last pages page v absent full h none =
    let room = h.room in got (pages.cap - 1) pages.entries (omega (arith, room, full)) (sym (left-is pages page v absent) ∙ none)

pub left-whole : (pages : LruCache ℕ Page) (page : ℕ) (v : Page) (e : ℕ × Page) → holds_page (cached_pages pages.entries) page ≡ false → AreHeld pages →
    displaced nat_eq pages page v ≡ Some e → length e.1.bytes.items ≡ PAGE_SIZE
left-whole pages page v e absent h left = whole-at (pages.cap - 1) pages.entries e (sym (left-is pages page v absent) ∙ left) h.whole

-- what holds of each number of the pages holds of each key
pub keys-within : (P : ℕ → Type 0) (entries : List (ℕ × Page)) → AllByRecursion (λ c. P c.page) (cached_pages entries) → AllByRecursion (λ e. P e.0) entries
keys-within P [] h = tt
keys-within P (e ∷ entries) h = (h.0, keys-within P entries h.1)

-- the numbers of the dirty pages
pub dirty-numbers : (pages : List ℕ) (entries : List (ℕ × Page)) →
    fold (λ kept e. insert_key nat_cmp kept e.0) pages (filter (λ e. e.1.is_dirty) entries)
    ≡ fold (λ kept slot. insert_key nat_cmp kept slot.page) pages (filter (λ slot. slot.is_dirty) (map slot_of (cached_pages entries)))
dirty-numbers pages [] = refl
dirty-numbers pages (e ∷ entries) = elim e.1.is_dirty as (λ t.
    fold (λ kept x. insert_key nat_cmp kept x.0) pages (if t then e ∷ filter (λ x. x.1.is_dirty) entries else filter (λ x. x.1.is_dirty) entries)
    ≡ fold (λ kept slot. insert_key nat_cmp kept slot.page) pages
    (if t then slot_of (cached_page e) ∷ filter (λ slot. slot.is_dirty) (map slot_of (cached_pages entries)) else filter (λ slot. slot.is_dirty) (map slot_of (cached_pages entries)))) [
      | true ↦ dirty-numbers (insert_key nat_cmp pages e.0) entries
      | false ↦ dirty-numbers pages entries
    ]

-- the pages below one stay when one from it on goes
pub below-stays : (keep page : ℕ) (entries : List (ℕ × Page)) → keep ≤ page →
    filter (λ c. nat_lt c.page keep) (cached_pages (remove_entry (nat_eq page) entries)) ≡ filter (λ c. nat_lt c.page keep) (cached_pages entries)
below-stays keep page [] above = refl
below-stays keep page (e ∷ entries) above = (elim (page == e.0) as (λ t. (page == e.0) ≡ t →
    filter (λ c. nat_lt c.page keep) (cached_pages (cond (page == e.0) entries (e ∷ remove_entry (nat_eq page) entries)))
    ≡ (if nat_lt e.0 keep then cached_page e ∷ filter (λ c. nat_lt c.page keep) (cached_pages entries) else filter (λ c. nat_lt c.page keep) (cached_pages entries))) [
      | true ↦ λ f. rw f (ap (λ t. if t then cached_page e ∷ filter (λ c. nat_lt c.page keep) (cached_pages entries) else filter (λ c. nat_lt c.page keep) (cached_pages entries))
          (sym (not-below e.0 keep (let same = same-number page e.0 f in omega (arith, same, above)))))
      | false ↦ λ f. rw f (ap (λ rest. if nat_lt e.0 keep then cached_page e ∷ rest else rest) (below-stays keep page entries above))
    ]) refl
  where
    not-below : (a b : ℕ) → b ≤ a → nat_lt a b ≡ false
    not-below a b h = grind (arith, nat_tests)

-- each page from one on is among these
abbrev pub AreToGo : ℕ → List ℕ → List (ℕ × Page) → Type 0
AreToGo keep pages entries = AllByRecursion (λ e. keep ≤ e.0 → list_any (λ other. other == e.0) pages ≡ true) entries

-- where none is to go, all pages are below
pub all-below : (keep : ℕ) (entries : List (ℕ × Page)) → AreToGo keep [] entries → filter (λ c. nat_lt c.page keep) (cached_pages entries) ≡ cached_pages entries
all-below keep [] h = refl
all-below keep (e ∷ entries) h = elim (cases_lt e.0 keep) [
  | inl below ↦ rw (is-below e.0 keep below) (ap (λ rest. cached_page e ∷ rest) (all-below keep entries h.1))
  | inr above ↦ absurd (let no = h.0 above in cc)
]
  where
    is-below : (a b : ℕ) → a < b → nat_lt a b ≡ true
    is-below a b h = grind (arith, nat_tests)

fewer-to-go : (keep page : ℕ) (pages : List ℕ) (entries : List (ℕ × Page)) → AreToGo keep (page ∷ pages) entries → Lacks page entries → AreToGo keep pages entries
fewer-to-go keep page pages [] h lacks = tt
fewer-to-go keep page pages (e ∷ entries) h lacks =
    ((λ above. sym (ap (λ t. t || list_any (λ other. other == e.0) pages) lacks.0) ∙ h.0 above), fewer-to-go keep page pages entries h.1 lacks.1)

to-go-removed : (keep page : ℕ) (pages : List ℕ) (entries : List (ℕ × Page)) → AreToGo keep pages entries → AreToGo keep pages (remove_entry (nat_eq page) entries)
to-go-removed keep page pages [] h = tt
to-go-removed keep page pages (e ∷ entries) h = elim (page == e.0) as (λ t. AreToGo keep pages (cond t entries (e ∷ remove_entry (nat_eq page) entries))) [
  | true ↦ h.1
  | false ↦ (h.0, to-go-removed keep page pages entries h.1)
]

gone-lacks : (page : ℕ) (entries : List (ℕ × Page)) → IsDistinct nat_eq (keys_of entries) → Lacks page (remove_entry (nat_eq page) entries)
gone-lacks page [] once = tt
gone-lacks page (e ∷ entries) once = (elim (page == e.0) as (λ t. (page == e.0) ≡ t → Lacks page (cond (page == e.0) entries (e ∷ remove_entry (nat_eq page) entries))) [
  | true ↦ λ f. rw f (subst (λ k. Lacks k entries) (sym (same-number page e.0 f)) (IsDistinct-head nat_eq e.0 (keys_of entries) once))
  | false ↦ λ f. rw f (f, gone-lacks page entries (IsDistinct-tail nat_eq e.0 (keys_of entries) once))
]) refl

-- one page goes
pub gone : (keep page : ℕ) (pages : List ℕ) (entries : List (ℕ × Page)) → IsDistinct nat_eq (keys_of entries) → AreToGo keep (page ∷ pages) entries →
    AreToGo keep pages (remove_entry (nat_eq page) entries)
gone keep page pages entries once h =
    fewer-to-go keep page pages (remove_entry (nat_eq page) entries) (to-go-removed keep page (page ∷ pages) entries h) (gone-lacks page entries once)
