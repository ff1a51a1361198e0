-- A page that goes to the front, is edited or is cut, and the loops over pages.
use Rattle.std.specs.Prelude.{◌≡◌, ◌≢◌, ℕ, zero, suc, ◌+◌, ◌<◌, ◌≤◌, ◌==◌, Bool, true, false, not, ◌||◌, nat_lt, Option, Some, None, option_map, List, [], ◌∷◌, ◌++◌, map, filter, find, fold, slice_set, replicate, if◌then◌else◌, refl}
use Rattle.std.proofs.Common.{sym, ◌∙◌, ap, ap₂, subst, inl, inr, arith}
use Rattle.std.proofs.lemmas.Bool.{cases_lt}
use Rattle.std.proofs.lemmas.Bool.Decides.{nat_tests}
use Rattle.std.specs.BTreeSet.{insert_key}
use Rattle.std.specs.List.{AllByRecursion, list_any, range_with_len}
use Rattle.std.specs.Ordering.{match_ordering, nat_cmp}
use Rattle.std.specs.declared.cmp.Ordering.TheVariants.{Less, Equal, Greater}
use Rattle.vfs_base.specs.declared.limits.TheConstants.{PAGE_SIZE}
use Rattle.vfs_model.specs.BlockDevice.{BlockDevice}
use Rattle.vfs_model.specs.Cache.{dirty_pages, is_page, is_resident, is_stored, move_to_front}
use Rattle.vfs_model.specs.PageList.{CachedPage, cached_bytes, slot_of}
use Rattle.vfs_model.specs.declared.cache.CacheState.{CacheState}
use Rattle.vfs_model.specs.declared.cache.Resident.{Resident}
use Rattle.page_cache.specs.AddressSpace.{AddressSpace, Completes, IsCurrent, SamePages, cache_in, file_pages, page_of, space_of, touching}
use Rattle.page_cache.specs.Framed.{AreCounted, changing}
use Rattle.page_cache.specs.Resident.{bytes_in, bytes_of, cleaned, edited, holds_page, is_cached, spliced, with_front}
use Rattle.page_cache.proofs.Found.{alike, differs, find-edited, same-number, cleaned-page, find-kept, find-lost}
use Rattle.page_cache.proofs.Pages.{Clean, below, bytes_at, front-same}
use Rattle.page_cache.proofs.Parts.{at, found-held}
use Rattle.page_cache.proofs.Runs.{completes-as, completes-change}
use Rattle.page_cache.proofs.Ways.{resident-held, touched-front}

within-filter : (n : ℕ) (p : CachedPage → Bool) (xs : List CachedPage) → AllByRecursion (λ c. c.page < n) xs → AllByRecursion (λ c. c.page < n) (filter p xs)
within-filter n p [] all = tt
within-filter n p (x ∷ xs) all = elim (p x) as (λ t. AllByRecursion (λ c. c.page < n) (if t then x ∷ filter p xs else filter p xs)) [
  | true ↦ (all.0, within-filter n p xs all.1)
  | false ↦ within-filter n p xs all.1
]

within-both : (n : ℕ) (xs ys : List CachedPage) → AllByRecursion (λ c. c.page < n) xs → AllByRecursion (λ c. c.page < n) ys → AllByRecursion (λ c. c.page < n) (xs ++ ys)
within-both n [] ys h k = k
within-both n (x ∷ xs) ys h k = (h.0, within-both n xs ys h.1 k)

pub within-front : (n page : ℕ) (xs : List CachedPage) → AllByRecursion (λ c. c.page < n) xs → AllByRecursion (λ c. c.page < n) (with_front page xs)
within-front n page xs all =
    within-both n (filter (is_cached page) xs) (filter (λ c. not (is_cached page c)) xs) (within-filter n (is_cached page) xs all) (within-filter n (λ c. not (is_cached page c)) xs all)

pub within-cut : (n keep : ℕ) (xs : List CachedPage) → AllByRecursion (λ c. c.page < n) xs → AllByRecursion (λ c. c.page < n) (filter (λ c. nat_lt c.page keep) xs)
within-cut n keep xs all = within-filter n (λ c. nat_lt c.page keep) xs all

slots-kept : (p : CachedPage → Bool) (q : Resident → Bool) (xs : List CachedPage) → ((c : CachedPage) → q (slot_of c) ≡ p c) → map slot_of (filter p xs) ≡ filter q (map slot_of xs)
slots-kept p q [] same = refl
slots-kept p q (x ∷ xs) same =
    (elim (p x) as (λ t. p x ≡ t → map slot_of (if p x then x ∷ filter p xs else filter p xs) ≡ (if q (slot_of x) then slot_of x ∷ filter q (map slot_of xs) else filter q (map slot_of xs))) [
      | true ↦ λ f. rw (same x) (rw f (ap (λ rest. slot_of x ∷ rest) (slots-kept p q xs same)))
      | false ↦ λ f. rw (same x) (rw f (slots-kept p q xs same))
    ]) refl

slots-both : (xs ys : List CachedPage) → map slot_of (xs ++ ys) ≡ map slot_of xs ++ map slot_of ys
slots-both [] ys = refl
slots-both (x ∷ xs) ys = ap (λ rest. slot_of x ∷ rest) (slots-both xs ys)

slots-fronted : (page : ℕ) (xs : List CachedPage) →
    map slot_of (with_front page xs) ≡ filter (is_page page) (map slot_of xs) ++ filter (λ slot. not (is_page page slot)) (map slot_of xs)
slots-fronted page xs =
    slots-both (filter (is_cached page) xs) (filter (λ c. not (is_cached page c)) xs)
    ∙ ap₂ (λ a b. a ++ b) (slots-kept (is_cached page) (is_page page) xs (λ c. refl))
    (slots-kept (λ c. not (is_cached page c)) (λ slot. not (is_page page slot)) xs (λ c. refl))

-- a page in memory goes to the front
pub front-touched : (a before after : AddressSpace) (page : ℕ) (x : BlockDevice) → a ≡ before → after ≡ record a { resident = with_front page a.resident } → AreCounted x.counts →
    holds_page a.resident page ≡ true → Completes (touching page) (at before x) (at after x)
front-touched a before after page x old new small there =
    let b : AddressSpace = record a { resident = with_front page a.resident } in
    let cache : cache_in b ≡ move_to_front page (cache_in a) =
    ap (λ slots. let s : CacheState = record { resident = slots; stored = a.stored } in s) (slots-fronted page a.resident) in
    let whole : Completes (touching page) (at a x) (at b x) =
    completes-as (touching page) (changing (move_to_front page)) (at a x) (at b x) (touched-front (at a x) page there) (completes-change (at a x) (at b x) (move_to_front page) small refl cache) in
    subst (λ s. Completes (touching page) (at s x) (at after x)) old (subst (λ t. Completes (touching page) (at a x) (at t x)) (sym new) whole)

-- a page that goes to the front stays in memory
pub front-there : (page : ℕ) (xs rest : List CachedPage) → holds_page xs page ≡ true → holds_page (filter (is_cached page) xs ++ rest) page ≡ true
front-there page [] rest there = absurd (cc)
front-there page (x ∷ xs) rest there = (elim (x.page == page) as (λ t. (x.page == page) ≡ t → holds_page (filter (is_cached page) (x ∷ xs) ++ rest) page ≡ true) [
  | true ↦ λ f. rw f (ap (λ t. t || holds_page (filter (is_cached page) xs ++ rest) page) f)
  | false ↦ λ f. rw f (front-there page xs rest (rw f at there))
]) refl

pub front-keeps : (a before after : AddressSpace) (page : ℕ) (told : List (List ℕ)) → a ≡ before → after ≡ record a { resident = with_front page a.resident } → IsCurrent before told →
    SamePages before after told told
front-keeps a before after page told old new current =
    subst (λ s. SamePages s after told told) old (subst (λ t. SamePages a t told told) (sym new) (front-same a page told (subst (λ s. IsCurrent s told) (sym old) current)))

clean-edited : (page at q : ℕ) (piece bytes : List ℕ) (o : Option CachedPage) → Clean bytes o → Clean bytes (option_map (edited page at piece) o)
clean-edited page at q piece bytes None h = tt
clean-edited page at q piece bytes (Some c) h = elim (is_cached page c) as (λ t.
    (let r : CachedPage = if t then record c { is_dirty = true; bytes = spliced at piece c.bytes } else c in r.is_dirty ≡ false → r.bytes ≡ bytes)) [
      | true ↦ λ e. absurd (cc)
      | false ↦ h
    ]

-- an edit leaves the clean pages as they lie on the device
pub edited-current : (a before after : AddressSpace) (page at : ℕ) (piece : List ℕ) → a ≡ before →
    after ≡ record a { resident = map (edited page at piece) a.resident } → (told : List (List ℕ)) → IsCurrent before told → IsCurrent after told
edited-current a before after page at piece old new = λ told current.
    let here : IsCurrent a told = subst (λ s. IsCurrent s told) (sym old) current in
    subst (λ s. IsCurrent s told) (sym new) (record {
      whole = here.whole;
      clean = λ q. subst (Clean (below a told q)) (sym (find-edited q page at piece a.resident)) (clean-edited page at q piece (below a told q) (find (is_cached q) a.resident) (here.clean q));
    })

found-number : (q : ℕ) (xs : List CachedPage) (c : CachedPage) → find (is_cached q) xs ≡ Some c → c.page ≡ q
found-number q [] c e = absurd (cc)
found-number q (x ∷ xs) c e = (elim (is_cached q x) as (λ t. is_cached q x ≡ t → c.page ≡ q) [
  | true ↦ λ f. let here : x ≡ c = (let g = rw f at e in cc) in ap (λ (y : CachedPage). y.page) (sym here) ∙ same-number x.page q f
  | false ↦ λ f. found-number q xs c (rw f at e)
]) refl

abbrev bytes_or : List ℕ → Option CachedPage → List ℕ
bytes_or under None = under
bytes_or under (Some c) = c.bytes

bytes-edited : (page at q : ℕ) (piece under : List ℕ) (xs : List CachedPage) (o : Option CachedPage) → find (is_cached q) xs ≡ o → q ≢ page →
    bytes_or under (option_map (edited page at piece) o) ≡ bytes_or under o
bytes-edited page at q piece under xs None e apart = refl
bytes-edited page at q piece under xs (Some c) e apart =
    ap (λ t. let r : CachedPage = if t then record c { is_dirty = true; bytes = spliced at piece c.bytes } else c in r.bytes)
    (differs c.page page (λ f. apart (sym (found-number q xs c e) ∙ f)))

mapped-above : (f g : ℕ → List ℕ) (low from count : ℕ) → low ≤ from → ((q : ℕ) → low ≤ q → g q ≡ f q) → map g (range_with_len from count) ≡ map f (range_with_len from count)
mapped-above f g low from zero above same = refl
mapped-above f g low from (suc count) above same = ap₂ (λ x xs. x ∷ xs) (same from above) (mapped-above f g low (from + 1) count (omega (arith, above)) same)

set-mapped : (f g : ℕ → List ℕ) (start n k : ℕ) (v : List ℕ) → k < n → g (start + k) ≡ v → ((q : ℕ) → q ≢ start + k → g q ≡ f q) →
    map g (range_with_len start n) ≡ slice_set (map f (range_with_len start n)) k v
set-mapped f g start zero k v low here others = absurd (omega (arith, low))
set-mapped f g start (suc n) zero v low here others =
    ap₂ (λ x xs. x ∷ xs) (ap g (let e : start ≡ start + 0 = omega arith in e) ∙ here)
    (mapped-above f g (start + 1) (start + 1) n (omega arith) (λ q above. others q (λ e. absurd (omega (arith, above, e)))))
set-mapped f g start (suc n) (suc k) v low here others =
    ap₂ (λ x xs. x ∷ xs) (others start (λ e. absurd (omega (arith, e))))
    (set-mapped f g (start + 1) n k v (omega (arith, low)) (ap g (let e : start + 1 + k ≡ start + suc k = omega arith in e) ∙ here) (λ q apart. others q (λ e. apart (omega (arith, e)))))

as-or : (a : AddressSpace) (told : List (List ℕ)) (q : ℕ) (o : Option CachedPage) → cached_bytes (space_of a) (page_of told) q o ≡ bytes_or (below a told q) o
as-or a told q None = refl
as-or a told q (Some c) = refl

edited-there : (a : AddressSpace) (page at q : ℕ) (piece : List ℕ) (told : List (List ℕ)) → q ≢ page →
    (let b : AddressSpace = record a { resident = map (edited page at piece) a.resident } in bytes_at b told q ≡ bytes_at a told q)
edited-there a page at q piece told apart =
    ap (cached_bytes (space_of a) (page_of told) q) (find-edited q page at piece a.resident)
    ∙ as-or a told q (option_map (edited page at piece) (find (is_cached q) a.resident))
    ∙ bytes-edited page at q piece (below a told q) a.resident (find (is_cached q) a.resident) refl apart
    ∙ sym (as-or a told q (find (is_cached q) a.resident))

edited-here : (a : AddressSpace) (page at : ℕ) (piece : List ℕ) (told : List (List ℕ)) → (x : CachedPage) × (find (is_cached page) a.resident ≡ Some x) →
    (let b : AddressSpace = record a { resident = map (edited page at piece) a.resident } in bytes_at b told page ≡ spliced at piece (bytes_in a.resident page))
edited-here a page at piece told found =
    let x : CachedPage = found.0 in
    ap (cached_bytes (space_of a) (page_of told) page) (find-edited page page at piece a.resident ∙ ap (option_map (edited page at piece)) found.1)
    ∙ ap (λ t. let r : CachedPage = if t then record x { is_dirty = true; bytes = spliced at piece x.bytes } else x in r.bytes)
    (ap (λ n. n == page) (found-number page a.resident x found.1) ∙ alike page)
    ∙ ap (spliced at piece) (sym (ap bytes_of found.1))

-- an edit changes one page of the file
pub edited-pages : (a before after : AddressSpace) (page at : ℕ) (piece : List ℕ) → a ≡ before →
    after ≡ record a { resident = map (edited page at piece) a.resident } → holds_page before.resident page ≡ true → (told : List (List ℕ)) → page < before.pages →
    file_pages after told ≡ slice_set (file_pages before told) page (spliced at piece (bytes_in before.resident page))
edited-pages a before after page at piece old new there = λ told within.
    let b : AddressSpace = record a { resident = map (edited page at piece) a.resident } in
    let held : holds_page a.resident page ≡ true = ap (λ (s : AddressSpace). holds_page s.resident page) old ∙ there in
    let low : page < a.pages = subst (λ (s : AddressSpace). page < s.pages) (sym old) within in
    let whole : file_pages b told ≡ slice_set (file_pages a told) page (spliced at piece (bytes_in a.resident page)) =
    set-mapped (bytes_at a told) (bytes_at b told) 0 a.pages page (spliced at piece (bytes_in a.resident page)) low
    (ap (bytes_at b told) (let e : 0 + page ≡ page = omega arith in e) ∙ edited-here a page at piece told (found-held page a.resident held))
    (λ q apart. edited-there a page at q piece told (λ e. apart (omega (arith, e)))) in
    ap (λ s. file_pages s told) new ∙ whole ∙ ap (λ (s : AddressSpace). slice_set (file_pages s told) page (spliced at piece (bytes_in s.resident page))) old

cut-found : (q keep : ℕ) (xs : List CachedPage) (bytes bytes' : List ℕ) → (q < keep → bytes' ≡ bytes) → Clean bytes (find (is_cached q) xs) → Clean bytes' (find (is_cached q) (filter (λ c. nat_lt c.page keep) xs))
cut-found q keep xs bytes bytes' same h = elim (cases_lt q keep) [
  | inl low ↦ subst (Clean bytes') (sym (find-kept q (λ c. nat_lt c.page keep) xs (λ c e. is-low c.page keep (let p = same-number c.page q e in omega (arith, p, low))))) (subst (λ b. Clean b (find (is_cached q) xs)) (sym (same low)) h)
  | inr high ↦ subst (Clean bytes') (sym (find-lost q (λ c. nat_lt c.page keep) xs (λ c e. is-high c.page keep (let p = same-number c.page q e in omega (arith, p, high))))) tt
]
  where
    is-low : (a b : ℕ) → a < b → nat_lt a b ≡ true
    is-low a b h = grind (arith, nat_tests)

    is-high : (a b : ℕ) → b ≤ a → nat_lt a b ≡ false
    is-high a b h = grind (arith, nat_tests)

pub stored-cut : (q keep : ℕ) (pages : List ℕ) → q < keep → list_any (λ other. other == q) (filter (λ page. nat_lt page keep) pages) ≡ list_any (λ other. other == q) pages
stored-cut q keep [] low = refl
stored-cut q keep (page ∷ pages) low =
    (elim (page == q) as (λ t. (page == q) ≡ t →
    list_any (λ other. other == q) (if nat_lt page keep then page ∷ filter (λ p. nat_lt p keep) pages else filter (λ p. nat_lt p keep) pages) ≡ (page == q || list_any (λ other. other == q) pages)) [
      | true ↦ λ f. rw (is-low page keep (let p = same-number page q f in omega (arith, p, low))) (ap (λ t. t || list_any (λ other. other == q) (filter (λ p. nat_lt p keep) pages)) f
          ∙ sym (ap (λ t. t || list_any (λ other. other == q) pages) f))
      | false ↦ λ f. elim (nat_lt page keep) as (λ s.
          list_any (λ other. other == q) (if s then page ∷ filter (λ p. nat_lt p keep) pages else filter (λ p. nat_lt p keep) pages) ≡ (page == q || list_any (λ other. other == q) pages)) [
            | true ↦ ap (λ t. page == q || t) (stored-cut q keep pages low)
            | false ↦ stored-cut q keep pages low ∙ sym (ap (λ t. t || list_any (λ other. other == q) pages) f)
          ]
    ]) refl
  where
    is-low : (a b : ℕ) → a < b → nat_lt a b ≡ true
    is-low a b h = grind (arith, nat_tests)

-- a cut leaves the clean pages as they would come in again
pub cut-current : (a before after : AddressSpace) (keep : ℕ) (told : List (List ℕ)) → a ≡ before →
    after ≡ record a { resident = filter (λ c. nat_lt c.page keep) a.resident; stored = filter (λ page. nat_lt page keep) a.stored } → IsCurrent before told → IsCurrent after told
cut-current a before after keep told old new current =
    let here : IsCurrent a told = subst (λ s. IsCurrent s told) (sym old) current in
    let b : AddressSpace = record a { resident = filter (λ c. nat_lt c.page keep) a.resident; stored = filter (λ page. nat_lt page keep) a.stored } in
    subst (λ s. IsCurrent s told) (sym new) (record {
      whole = here.whole;
      clean = λ q. cut-found q keep a.resident (below a told q) (below b told q)
          (λ low. ap (λ t. if t then page_of told q else replicate PAGE_SIZE 0) (stored-cut q keep a.stored low)) (here.clean q);
    })

all-inserted : (P : ℕ → Type 0) (page : ℕ) (pages : List ℕ) → P page → AllByRecursion P pages → AllByRecursion P (insert_key nat_cmp pages page)
all-inserted P page [] p h = (p, tt)
all-inserted P page (first ∷ pages) p h =
    elim (nat_cmp page first) as (λ r. AllByRecursion P (match_ordering r (page ∷ first ∷ pages) (first ∷ pages) (first ∷ insert_key nat_cmp pages page))) [
      | Less ↦ (p, h)
      | Equal ↦ h
      | Greater ↦ (h.0, all-inserted P page pages p h.1)
    ]

all-gathered : (P : ℕ → Type 0) (pages : List ℕ) (slots : List Resident) → AllByRecursion P pages → AllByRecursion (λ slot. P slot.page) slots →
    AllByRecursion P (fold (λ kept slot. insert_key nat_cmp kept slot.page) pages (filter (λ slot. slot.is_dirty) slots))
all-gathered P pages [] h k = h
all-gathered P pages (slot ∷ slots) h k =
    elim slot.is_dirty as (λ t. AllByRecursion P (fold (λ kept s. insert_key nat_cmp kept s.page) pages (if t then slot ∷ filter (λ s. s.is_dirty) slots else filter (λ s. s.is_dirty) slots))) [
      | true ↦ all-gathered P (insert_key nat_cmp pages slot.page) slots (all-inserted P slot.page pages k.0 h) k.1
      | false ↦ all-gathered P pages slots h k.1
    ]

all-held : (whole xs : List CachedPage) → ((q : ℕ) → holds_page xs q ≡ true → holds_page whole q ≡ true) → AllByRecursion (λ slot. holds_page whole slot.page ≡ true) (map slot_of xs)
all-held whole [] more = tt
all-held whole (x ∷ xs) more = (
  more x.page (ap (λ t. t || holds_page xs x.page) (alike x.page)),
  all-held whole xs (λ q h. more q (or-true (x.page == q) (holds_page xs q) h)),
)
  where
    or-true : (s t : Bool) → t ≡ true → (s || t) ≡ true
    or-true true t e = refl
    or-true false t e = e

-- each dirty page is in memory
pub dirty-held : (a : AddressSpace) → AllByRecursion (λ page. holds_page a.resident page ≡ true) (dirty_pages (cache_in a))
dirty-held a = all-gathered (λ page. holds_page a.resident page ≡ true) [] (map slot_of a.resident) tt (all-held a.resident a.resident (λ q h. h))

held-cleaned : (page q : ℕ) (xs : List CachedPage) → holds_page (map (cleaned page) xs) q ≡ holds_page xs q
held-cleaned page q [] = refl
held-cleaned page q (x ∷ xs) = ap₂ (λ n t. n == q || t) (cleaned-page page x) (held-cleaned page q xs)

pub still-held : (page : ℕ) (resident after : List CachedPage) (pages : List ℕ) → after ≡ map (cleaned page) resident → AllByRecursion (λ p. holds_page resident p ≡ true) pages →
    AllByRecursion (λ p. holds_page after p ≡ true) pages
still-held page resident after [] e h = tt
still-held page resident after (p ∷ pages) e h =
    (ap (λ xs. holds_page xs p) e ∙ held-cleaned page p resident ∙ h.0, still-held page resident after pages e h.1)

-- a page that is in memory is there
pub present-held : (a b : AddressSpace) (page : ℕ) (held : Bool) → a ≡ b → held ≡ holds_page a.resident page → held ≡ true → held ≡ (is_resident (cache_in b) page || is_stored (cache_in b) page)
present-held a b page held same is there =
    subst (λ s. held ≡ (is_resident (cache_in s) page || is_stored (cache_in s) page)) same
    (there ∙ sym (ap (λ t. t || is_stored (cache_in a) page) (resident-held page a.resident ∙ sym is ∙ there)))

-- and another one where it is stored
pub present-stored : (a b : AddressSpace) (page : ℕ) (held stored : Bool) → a ≡ b → held ≡ holds_page a.resident page → held ≡ false → stored ≡ is_stored (cache_in a) page →
    stored ≡ (is_resident (cache_in b) page || is_stored (cache_in b) page)
present-stored a b page held stored same is away on =
    subst (λ s. stored ≡ (is_resident (cache_in s) page || is_stored (cache_in s) page)) same
    (on ∙ sym (ap (λ t. t || is_stored (cache_in a) page) (resident-held page a.resident ∙ sym is ∙ away)))
