-- The pages of a file stay the same while they come in, leave and are written.
use Rattle.std.specs.Prelude.{◌≡◌, ◌≢◌, ℕ, ◌-◌, ◌<◌, ◌==◌, Bool, true, false, cond, ◌||◌, Option, Some, None, IfSome, option_map, List, [], ◌∷◌, length, map, find, take, replicate, slice_set, if◌then◌else◌, refl}
use Rattle.std.proofs.Common.{sym, ◌∙◌, ap, ap₂, subst, inl, inr, arith}
use Rattle.std.proofs.lemmas.Bool.Decides.{eqb_tells}
use Rattle.std.proofs.lemmas.List.{get_or-set_other, get_or-set_same, length-set}
use Rattle.std.proofs.lemmas.List.Folds.{find-append}
use Rattle.std.specs.BTreeSet.{insert_key}
use Rattle.std.specs.List.{last_or, list_any, range_with_len}
use Rattle.std.specs.FinMap.{nat_cmp-IsAntisymmetric}
use Rattle.std.specs.Option.{option_or}
use Rattle.std.specs.Ordering.{match_ordering, nat_cmp}
use Rattle.std.specs.declared.cmp.Ordering.{Ordering}
use Rattle.std.specs.declared.cmp.Ordering.TheVariants.{Less, Equal, Greater}
use Rattle.vfs_base.specs.declared.limits.TheConstants.{PAGE_SIZE}
use Rattle.vfs_model.specs.PageList.{CachedPage, cached_bytes, device_bytes, page_bytes}
use Rattle.page_cache.specs.AddressSpace.{AddressSpace, IsCurrent, KeepsPages, Moment, SamePages, file_pages, page_of, space_of}
use Rattle.page_cache.specs.Resident.{clean_page, cleaned, holds_page, is_cached, with_front}
use Rattle.page_cache.proofs.Found.{alike, differs, find-cleaned, find-front, front-last, same-number}

abbrev pub bytes_at : AddressSpace → List (List ℕ) → ℕ → List ℕ
bytes_at a told page = page_bytes (space_of a) (page_of told) page

abbrev pub below : AddressSpace → List (List ℕ) → ℕ → List ℕ
below a told page = device_bytes (space_of a) (page_of told) page

map-same : {X : Type 0} (f g : ℕ → X) (xs : List ℕ) → ((x : ℕ) → f x ≡ g x) → map f xs ≡ map g xs
map-same f g [] same = refl
map-same f g (x ∷ xs) same = ap₂ (λ y ys. y ∷ ys) (same x) (map-same f g xs same)

-- pages that are the same one by one
pub pages-same : (a b : AddressSpace) (told now : List (List ℕ)) → b.pages ≡ a.pages → ((q : ℕ) → bytes_at b now q ≡ bytes_at a told q) →
    file_pages b now ≡ file_pages a told
pages-same a b told now count same =
    ap (λ n. map (bytes_at b now) (range_with_len 0 n)) count ∙ map-same (bytes_at b now) (bytes_at a told) (range_with_len 0 a.pages) same

-- what a clean page that is found has to be
abbrev pub Clean : List ℕ → Option CachedPage → Type 0
Clean bytes found = IfSome found (λ c. c.is_dirty ≡ false → c.bytes ≡ bytes)

-- a page is found as before, over a device that has the same below
found-same : (a b : AddressSpace) (told now : List (List ℕ)) (q : ℕ) → find (is_cached q) b.resident ≡ find (is_cached q) a.resident →
    below b now q ≡ below a told q → bytes_at b now q ≡ bytes_at a told q
found-same a b told now q found under = ap (cached_bytes (space_of b) (page_of now) q) found ∙ by (find (is_cached q) a.resident)
  where
    by : (o : Option CachedPage) → cached_bytes (space_of b) (page_of now) q o ≡ cached_bytes (space_of a) (page_of told) q o
    by None = under
    by (Some c) = refl

-- a page goes to the front
pub front-same : (a : AddressSpace) (page : ℕ) (told : List (List ℕ)) → IsCurrent a told →
    (let b : AddressSpace = record a { resident = with_front page a.resident } in SamePages a b told told)
front-same a page told h = record {
  current = record {
    whole = h.whole;
    clean = λ q. subst (Clean (below a told q)) (sym (find-front q page a.resident)) (h.clean q);
  };
  same = pages-same a (record a { resident = with_front page a.resident }) told told refl
      (λ q. found-same a (record a { resident = with_front page a.resident }) told told q (find-front q page a.resident) refl);
}

pub inserted : (q page : ℕ) (pages : List ℕ) → list_any (λ other. other == q) (insert_key nat_cmp pages page) ≡ (page == q || list_any (λ other. other == q) pages)
inserted q page [] = refl
inserted q page (first ∷ pages) = by (nat_cmp page first) refl (inserted q page pages)
  where
    swap : (s t u : Bool) → (s || (t || u)) ≡ (t || (s || u))
    swap true true u = refl
    swap true false u = refl
    swap false t u = refl

    twice : (s u : Bool) → (s || u) ≡ (s || (s || u))
    twice true u = refl
    twice false u = refl

    by : (r : Ordering) → nat_cmp page first ≡ r →
        list_any (λ other. other == q) (insert_key nat_cmp pages page) ≡ (page == q || list_any (λ other. other == q) pages) →
        list_any (λ other. other == q) (match_ordering (nat_cmp page first) (page ∷ first ∷ pages) (first ∷ pages) (first ∷ insert_key nat_cmp pages page))
        ≡ (page == q || (first == q || list_any (λ other. other == q) pages))
    by Less e rest = rw e refl
    by Equal e rest = rw e (ap (λ n. n == q || list_any (λ other. other == q) pages) (sym (nat_cmp-IsAntisymmetric page first e))
        ∙ twice (page == q) (list_any (λ other. other == q) pages) ∙ ap (λ n. page == q || (n == q || list_any (λ other. other == q) pages)) (nat_cmp-IsAntisymmetric page first e))
    by Greater e rest = rw e (ap (λ t. first == q || t) rest ∙ swap (first == q) (page == q) (list_any (λ other. other == q) pages))

-- one page more lies on the device, and holds these bytes
written : AddressSpace → ℕ → AddressSpace
written a page = record a { stored = insert_key nat_cmp a.stored page }

pub below-other : (a : AddressSpace) (page : ℕ) (bytes : List ℕ) (told : List (List ℕ)) (q : ℕ) → q ≢ page →
    (let b : AddressSpace = record a { stored = insert_key nat_cmp a.stored page } in below b (slice_set told page bytes) q ≡ below a told q)
below-other a page bytes told q apart =
    ap₂ (λ t on. if t then on else replicate PAGE_SIZE 0)
    (inserted q page a.stored ∙ ap (λ t. t || list_any (λ other. other == q) a.stored) (differs page q (λ e. apart (sym e))))
    (get_or-set_other told page q bytes [] apart)

pub below-here : (a : AddressSpace) (page : ℕ) (bytes : List ℕ) (told : List (List ℕ)) → page < length told →
    (let b : AddressSpace = record a { stored = insert_key nat_cmp a.stored page } in below b (slice_set told page bytes) page ≡ bytes)
below-here a page bytes told within =
    ap (λ t. if t then page_of (slice_set told page bytes) page else replicate PAGE_SIZE 0)
    (inserted page page a.stored ∙ ap (λ t. t || list_any (λ other. other == page) a.stored) (alike page))
    ∙ get_or-set_same told page bytes [] within

-- a page in memory is written
pub written-same : (a : AddressSpace) (page : ℕ) (c : CachedPage) (told : List (List ℕ)) → page < a.pages → find (is_cached page) a.resident ≡ Some c →
    IsCurrent a told → (let b : AddressSpace = record a { stored = insert_key nat_cmp a.stored page } in SamePages a b told (slice_set told page c.bytes))
written-same a page c told within found h = record {
  current = record { whole = length-set told page c.bytes ∙ h.whole; clean = λ q. clean q };
  same = pages-same a b told now refl (λ q. same q);
}
  where
    b : AddressSpace
    b = record a { stored = insert_key nat_cmp a.stored page }

    now : List (List ℕ)
    now = slice_set told page c.bytes

    deep : page < length told
    deep = let e = h.whole in omega (arith, within, e)

    clean : (q : ℕ) → IfSome (find (is_cached q) a.resident) (λ x. x.is_dirty ≡ false → x.bytes ≡ below b now q)
    clean q = elim (eqb_tells q page) as (λ _. IfSome (find (is_cached q) a.resident) (λ x. x.is_dirty ≡ false → x.bytes ≡ below b now q)) [
      | inl p ↦ subst (λ k. IfSome (find (is_cached k) a.resident) (λ x. x.is_dirty ≡ false → x.bytes ≡ below b now k)) (sym p.1)
          (subst (Clean (below b now page)) (sym found) (λ _. sym (below-here a page c.bytes told deep)))
      | inr p ↦ subst (λ bytes. IfSome (find (is_cached q) a.resident) (λ x. x.is_dirty ≡ false → x.bytes ≡ bytes)) (sym (below-other a page c.bytes told q p.1)) (h.clean q)
    ]

    same : (q : ℕ) → bytes_at b now q ≡ bytes_at a told q
    same q = elim (eqb_tells q page) as (λ _. bytes_at b now q ≡ bytes_at a told q) [
      | inl p ↦ subst (λ k. bytes_at b now k ≡ bytes_at a told k) (sym p.1) (rw found refl)
      | inr p ↦ found-same a b told now q refl (below-other a page c.bytes told q p.1)
    ]

found-page : (q : ℕ) (xs : List CachedPage) (c : CachedPage) → find (is_cached q) xs ≡ Some c → c.page ≡ q
found-page q [] c e = absurd (cc)
found-page q (x ∷ xs) c e = (elim (is_cached q x) as (λ t. is_cached q x ≡ t → c.page ≡ q) [
  | true ↦ λ f. let here : x ≡ c = (let g = rw f at e in cc) in ap (λ (y : CachedPage). y.page) (sym here) ∙ same-number x.page q f
  | false ↦ λ f. found-page q xs c (rw f at e)
]) refl

-- a page in memory that is as it would come in again is marked clean
pub marked-same : (a : AddressSpace) (page : ℕ) (told : List (List ℕ)) → ((c : CachedPage) → find (is_cached page) a.resident ≡ Some c → c.bytes ≡ below a told page) →
    IsCurrent a told → (let b : AddressSpace = record a { resident = map (cleaned page) a.resident } in SamePages a b told told)
marked-same a page told settled h = record {
  current = record { whole = h.whole; clean = λ q. subst (Clean (below a told q)) (sym (find-cleaned q page a.resident)) (clean q (find (is_cached q) a.resident) refl) };
  same = pages-same a (record a { resident = map (cleaned page) a.resident }) told told refl
      (λ q. ap (cached_bytes (space_of a) (page_of told) q) (find-cleaned q page a.resident) ∙ same q (find (is_cached q) a.resident));
}
  where
    clean : (q : ℕ) (o : Option CachedPage) → find (is_cached q) a.resident ≡ o → Clean (below a told q) (option_map (cleaned page) o)
    clean q None e = tt
    clean q (Some c) e = by (is_cached page c) refl
      where
        by : (t : Bool) → is_cached page c ≡ t → (let r : CachedPage = if t then record c { is_dirty = false } else c in r.is_dirty ≡ false → r.bytes ≡ below a told q)
        by true f = λ _. let one : q ≡ page = sym (found-page q a.resident c e) ∙ same-number c.page page f in
            settled c (ap (λ k. find (is_cached k) a.resident) (sym one) ∙ e) ∙ ap (below a told) (sym one)
        by false f = subst (Clean (below a told q)) e (h.clean q)

    same : (q : ℕ) (o : Option CachedPage) → cached_bytes (space_of a) (page_of told) q (option_map (cleaned page) o) ≡ cached_bytes (space_of a) (page_of told) q o
    same q None = refl
    same q (Some c) = by (is_cached page c)
      where
        by : (t : Bool) → (let r : CachedPage = if t then record c { is_dirty = false } else c in r.bytes) ≡ c.bytes
        by true = refl
        by false = refl

-- the last page leaves, which is as it would come in again
pub left-same : (a : AddressSpace) (c : CachedPage) (told : List (List ℕ)) → last_or None a.resident ≡ Some c → c.bytes ≡ below a told c.page → IsCurrent a told →
    (let b : AddressSpace = record a { resident = take (length a.resident - 1) a.resident } in SamePages a b told told)
left-same a c told last settled h = record {
  current = record { whole = h.whole; clean = λ q. clean q (find (is_cached q) front) (subst (Clean (below a told q)) (split q) (h.clean q)) };
  same = pages-same a (record a { resident = front }) told told refl
      (λ q. same q (find (is_cached q) front) ∙ sym (ap (cached_bytes (space_of a) (page_of told) q) (split q)));
}
  where
    front : List CachedPage
    front = take (length a.resident - 1) a.resident

    split : (q : ℕ) → find (is_cached q) a.resident ≡ option_or (find (is_cached q) front) (cond (is_cached q c) (Some c) None)
    split q = ap (find (is_cached q)) (front-last c a.resident last) ∙ find-append (is_cached q) front (c ∷ [])

    clean : (q : ℕ) (o : Option CachedPage) → Clean (below a told q) (option_or o (cond (is_cached q c) (Some c) None)) → Clean (below a told q) o
    clean q None g = tt
    clean q (Some x) g = g

    same : (q : ℕ) (o : Option CachedPage) → cached_bytes (space_of a) (page_of told) q o ≡ cached_bytes (space_of a) (page_of told) q (option_or o (cond (is_cached q c) (Some c) None))
    same q (Some x) = refl
    same q None = by (is_cached q c) refl
      where
        by : (t : Bool) → is_cached q c ≡ t → below a told q ≡ cached_bytes (space_of a) (page_of told) q (cond t (Some c) None)
        by true f = ap (below a told) (sym (same-number c.page q f)) ∙ sym settled
        by false f = refl

pub absent-found : (q : ℕ) (xs : List CachedPage) → holds_page xs q ≡ false → find (is_cached q) xs ≡ None
absent-found q [] e = refl
absent-found q (x ∷ xs) e = (elim (is_cached q x) as (λ t. is_cached q x ≡ t → cond (is_cached q x) (Some x) (find (is_cached q) xs) ≡ None) [
  | true ↦ λ f. absurd (let g = rw f at e in cc)
  | false ↦ λ f. rw f (absent-found q xs (rw f at e))
]) refl

-- a page comes in that was not in memory
pub added-same : (a : AddressSpace) (page : ℕ) (bytes : List ℕ) (told : List (List ℕ)) → holds_page a.resident page ≡ false → bytes ≡ below a told page → IsCurrent a told →
    (let b : AddressSpace = record a { resident = clean_page page bytes ∷ a.resident } in SamePages a b told told)
added-same a page bytes told absent settled h = record {
  current = record { whole = h.whole; clean = λ q. clean q (page == q) refl };
  same = pages-same a (record a { resident = clean_page page bytes ∷ a.resident }) told told refl (λ q. same q (page == q) refl);
}
  where
    clean : (q : ℕ) (t : Bool) → (page == q) ≡ t → Clean (below a told q) (cond (page == q) (Some (clean_page page bytes)) (find (is_cached q) a.resident))
    clean q true f = subst (λ s. Clean (below a told q) (cond s (Some (clean_page page bytes)) (find (is_cached q) a.resident))) (sym f)
        (λ _. settled ∙ ap (below a told) (same-number page q f))
    clean q false f = subst (λ s. Clean (below a told q) (cond s (Some (clean_page page bytes)) (find (is_cached q) a.resident))) (sym f) (h.clean q)

    same : (q : ℕ) (t : Bool) → (page == q) ≡ t →
        cached_bytes (space_of a) (page_of told) q (cond (page == q) (Some (clean_page page bytes)) (find (is_cached q) a.resident)) ≡ bytes_at a told q
    same q true f = ap (λ s. cached_bytes (space_of a) (page_of told) q (cond s (Some (clean_page page bytes)) (find (is_cached q) a.resident))) f
        ∙ settled ∙ ap (below a told) (same-number page q f)
        ∙ sym (ap (cached_bytes (space_of a) (page_of told) q) (absent-found q a.resident (ap (holds_page a.resident) (sym (same-number page q f)) ∙ absent)))
    same q false f = ap (λ s. cached_bytes (space_of a) (page_of told) q (cond s (Some (clean_page page bytes)) (find (is_cached q) a.resident))) f

-- changes one after the other
pub same-then : (a b c : AddressSpace) (x y z : List (List ℕ)) → SamePages a b x y → SamePages b c y z → SamePages a c x z
same-then a b c x y z first second = record { current = second.current; same = second.same ∙ first.same }

pub same-all : (a : AddressSpace) (x : List (List ℕ)) → IsCurrent a x → SamePages a a x x
same-all a x h = record { current = h; same = refl }

pub keeps-then : (a b c : Moment) → KeepsPages a b → KeepsPages b c → KeepsPages a c
keeps-then a b c first second told e h =
    let one = first told e h in
    let two = second one.0 one.1 one.2.current in
    (two.0, two.1, same-then a.space b.space c.space told one.0 two.0 one.2 two.2)

pub keeps-all : (a b : Moment) → b.space ≡ a.space → b.device.contents ≡ a.device.contents → KeepsPages a b
keeps-all a b space device told e h =
    (told, device ∙ e, subst (λ s. SamePages a.space s told told) (sym space) (same-all a.space told h))
