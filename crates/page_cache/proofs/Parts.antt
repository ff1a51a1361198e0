-- What the parts of the calls leave, of the values before and after them.
use Rattle.std.specs.Prelude.{◌≡◌, ℕ, zero, suc, ◌-◌, ◌<◌, ◌≤◌, ◌==◌, Bool, true, false, cond, nat_eq, Option, Some, None, IfSome, List, [], ◌∷◌, ◌++◌, length, map, find, take, drop, slice_index_or, slice_set, Result, Ok, Err, OnErr, OnOk, IfErr, is_err, if◌then◌else◌, refl}
use Rattle.std.proofs.Common.{sym, ◌∙◌, ap, subst, arith}
use Rattle.std.proofs.lemmas.Map.Keys.{IsDistinct-head, IsDistinct-tail}
use Rattle.std.proofs.lemmas.List.{append-nil, drop_all, length-map, take_all}
use Rattle.std.proofs.lemmas.List.Folds.{find-append}
use Rattle.std.specs.BTreeSet.{insert_key}
use Rattle.std.specs.List.{AllByRecursion, IsDistinct, last_or}
use Rattle.std.specs.Option.{option_or}
use Rattle.std.specs.Result.{IsErrAnd}
use Rattle.std.specs.Ordering.{nat_cmp}
use Rattle.vfs_base.specs.declared.limits.TheConstants.{RECLAIM_TARGET}
use Rattle.vfs_model.specs.BlockDevice.{BlockDevice, Makes}
use Rattle.vfs_model.specs.Cache.{without_last}
use Rattle.vfs_model.specs.PageList.{CachedPage, device_bytes, slot_of}
use Rattle.vfs_model.specs.declared.cache.CacheState.{CacheState}
use Rattle.vfs_model.specs.declared.cache.DeviceCall.TheVariants as call
use Rattle.page_cache.specs.AddressSpace.{AddressSpace, Completes, IsCurrent, KeepsPages, Moment, SamePages, StopsAt, cache_in, page_of, space_of}
use Rattle.page_cache.specs.Framed.{AreCounted, IsSettled, SettlesEnd, changing, cleaning, evicting, evicting_many, then_way, writing_end}
use Rattle.page_cache.specs.Resident.{AreResident, bytes_in, bytes_of, cleaned, dirty_end, dirty_one, edited, holds_page, is_cached}
use Rattle.page_cache.proofs.Found.{alike, cleaned-page, edited-page, front-last, same-number}
use Rattle.page_cache.proofs.Pages.{below, below-here, left-same, marked-same, same-all, same-then, written-same}
use Rattle.page_cache.proofs.Runs.{completes-as, completes-change, completes-then, stops-as, stops-first}
use Rattle.page_cache.proofs.Ways.{clean-end, cleaned-one, evicted, evicted-none, failed-clean, failed-end, none-empty, wrote-end}

-- the pages, beside their device
abbrev pub at : AddressSpace → BlockDevice → Moment
at space device = record { space = space; device = device }

-- the last page in memory is gone
abbrev pub without_end : AddressSpace → AddressSpace
without_end a = record a { resident = take (length a.resident - 1) a.resident }

-- the last page, where it is dirty
pub record LastDirty (resident : List CachedPage) (page : ℕ) (bytes : List ℕ) : Type 0 where
  pub cached : CachedPage
  pub last : last_or None resident ≡ Some cached
  pub dirty : cached.is_dirty ≡ true
  pub page_is : cached.page ≡ page
  pub bytes_is : cached.bytes ≡ bytes

abbrev pair : ℕ → List ℕ → Option (ℕ × List ℕ)
pair page bytes = Some (page, bytes)

abbrev no-pair : Option (ℕ × List ℕ)
no-pair = None

same-pair : (a c : ℕ) (b d : List ℕ) → pair a b ≡ pair c d → (a ≡ c) × (b ≡ d)
same-pair a c b d e = (ap (λ o. number-of o) e, ap (λ o. items-of o) e)
  where
    number-of : Option (ℕ × List ℕ) → ℕ
    number-of None = 0
    number-of (Some pair) = pair.0

    items-of : Option (ℕ × List ℕ) → List ℕ
    items-of None = []
    items-of (Some pair) = pair.1

dirty-by : (resident : List CachedPage) (cached : CachedPage) (page : ℕ) (bytes : List ℕ) (t : Bool) → last_or None resident ≡ Some cached → cached.is_dirty ≡ t →
    pair page bytes ≡ (if t then pair cached.page cached.bytes else no-pair) → LastDirty resident page bytes
dirty-by resident cached page bytes true last f g =
    let both = same-pair page cached.page bytes cached.bytes g in
    record { cached = cached; last = last; dirty = f; page_is = sym both.0; bytes_is = sym both.1 }
dirty-by resident cached page bytes false last f g = absurd (cc)

dirty-of : (resident : List CachedPage) (o : Option CachedPage) (page : ℕ) (bytes : List ℕ) → last_or None resident ≡ o → Some (page, bytes) ≡ dirty_one o → LastDirty resident page bytes
dirty-of resident None page bytes last e = absurd (cc)
dirty-of resident (Some cached) page bytes last e = dirty-by resident cached page bytes cached.is_dirty last refl e

pub last-dirty : (resident : List CachedPage) (page : ℕ) (bytes : List ℕ) → Some (page, bytes) ≡ dirty_end resident → LastDirty resident page bytes
last-dirty resident page bytes e = dirty-of resident (last_or None resident) page bytes refl e

same-some : (x y : CachedPage) → Some x ≡ Some y → x ≡ y
same-some x y e = cc

clean-by : (x : CachedPage) (t : Bool) → x.is_dirty ≡ t → no-pair ≡ (if t then pair x.page x.bytes else no-pair) → x.is_dirty ≡ false
clean-by x true f e = absurd (cc)
clean-by x false f e = f

clean-of : (o : Option CachedPage) (cached : CachedPage) → None ≡ dirty_one o → o ≡ Some cached → cached.is_dirty ≡ false
clean-of None cached e f = absurd (cc)
clean-of (Some x) cached e f = ap (λ (y : CachedPage). y.is_dirty) (sym (same-some x cached f)) ∙ clean-by x x.is_dirty refl e

pub last-clean : (resident : List CachedPage) → None ≡ dirty_end resident → (cached : CachedPage) → last_or None resident ≡ Some cached → cached.is_dirty ≡ false
last-clean resident e cached f = clean-of (last_or None resident) cached e f

within-last : (n : ℕ) (o : Option CachedPage) (x : CachedPage) (resident : List CachedPage) → IfSome o (λ c. c.page < n) → AllByRecursion (λ c. c.page < n) resident → last_or o resident ≡ Some x → x.page < n
within-last n None x [] low all e = absurd (cc)
within-last n (Some y) x [] low all e = let same : y ≡ x = cc in subst (λ (c : CachedPage). c.page < n) same low
within-last n o x (y ∷ resident) low all e = within-last n (Some y) x resident all.0 all.1 e

-- the last page is one of the cell's
pub dirty-within : (n : ℕ) (resident : List CachedPage) (page : ℕ) (bytes : List ℕ) → AllByRecursion (λ c. c.page < n) resident → Some (page, bytes) ≡ dirty_end resident → page < n
dirty-within n resident page bytes all e =
    let h = last-dirty resident page bytes e in
    subst (λ p. p < n) h.page_is (within-last n None h.cached resident tt all h.last)

last-differs : (key : ℕ) (x : CachedPage) (ys : List CachedPage) → AllByRecursion (λ k. nat_eq key k ≡ false) (map (λ c. c.page) (ys ++ x ∷ [])) → (key == x.page) ≡ false
last-differs key x [] h = h.0
last-differs key x (y ∷ ys) h = last-differs key x ys h.1

none-before : (x : CachedPage) (ys : List CachedPage) → IsDistinct nat_eq (map (λ c. c.page) (ys ++ x ∷ [])) → find (is_cached x.page) ys ≡ None
none-before x [] once = refl
none-before x (y ∷ ys) once =
    rw (last-differs y.page x ys (IsDistinct-head nat_eq y.page (map (λ c. c.page) (ys ++ x ∷ [])) once))
    (none-before x ys (IsDistinct-tail nat_eq y.page (map (λ c. c.page) (ys ++ x ∷ [])) once))

-- the last page is found by its number
pub found-last : (resident : List CachedPage) (x : CachedPage) → AreResident resident → last_or None resident ≡ Some x → find (is_cached x.page) resident ≡ Some x
found-last resident x sound last =
    let front = take (length resident - 1) resident in
    let split = front-last x resident last in
    ap (find (is_cached x.page)) split ∙ find-append (is_cached x.page) front (x ∷ [])
    ∙ ap (λ o. option_or o (cond (is_cached x.page x) (Some x) None)) (none-before x front (subst (λ (ys : List CachedPage). IsDistinct nat_eq (map (λ c. c.page) ys)) split sound.once))
    ∙ ap (λ t. cond t (Some x) None) (alike x.page)

-- the last page is dirty, and was written
pub end-written : (a : AddressSpace) (old new : Moment) (page : ℕ) (bytes : List ℕ) → a ≡ old.space → new.space ≡ record a { stored = insert_key nat_cmp a.stored page } →
    LastDirty a.resident page bytes → Makes (call.Write page ∷ []) [] old.device new.device → Completes writing_end old new
end-written a old new page bytes is more h calls =
    let P : AddressSpace → AddressSpace → Type 0 = λ s t. Completes writing_end (record { space = s; device = old.device }) (record { space = t; device = new.device }) in
    let Q : ℕ → Type 0 = λ p. P a (record a { stored = insert_key nat_cmp a.stored p }) in
    subst (λ s. P s new.space) is (subst (P a) (sym more)
    (subst Q h.page_is (wrote-end a h.cached old.device new.device h.last h.dirty (subst (λ p. Makes (call.Write p ∷ []) [] old.device new.device) (sym h.page_is) calls))))

pub end-failed : (a before : AddressSpace) (x y : BlockDevice) (page : ℕ) (bytes : List ℕ) → a ≡ before → LastDirty a.resident page bytes → Makes [] (call.Write page ∷ []) x y →
    StopsAt writing_end (record { space = before; device = x }) (record { space = before; device = y })
end-failed a before x y page bytes old h calls =
    subst (λ s. StopsAt writing_end (record { space = s; device = x }) (record { space = s; device = y })) old
    (failed-end a h.cached x y h.last h.dirty (subst (λ p. Makes [] (call.Write p ∷ []) x y) (sym h.page_is) calls))

pub end-clean : (a before : AddressSpace) (x : BlockDevice) → a ≡ before → AreCounted x.counts → None ≡ dirty_end a.resident →
    Completes writing_end (record { space = before; device = x }) (record { space = before; device = x })
end-clean a before x old small none =
    subst (λ s. Completes writing_end (record { space = s; device = x }) (record { space = s; device = x })) old (clean-end a x small (last-clean a.resident none))

-- The last page is dirty, and one of the cell's.
pub record DirtyEnd (a : AddressSpace) (page : ℕ) (bytes : List ℕ) : Type 0 where
  pub sound : AreResident a.resident
  pub within : page < a.pages
  pub last : LastDirty a.resident page bytes

-- the pages stay the same when the last one is written, which may leave then
pub written-settles : (a before after : AddressSpace) (page : ℕ) (bytes : List ℕ) → a ≡ before → after ≡ record a { stored = insert_key nat_cmp a.stored page } →
    DirtyEnd a page bytes → (told : List (List ℕ)) → IsCurrent before told →
    SamePages before after told (slice_set told page bytes) × IsSettled after (slice_set told page bytes) (last_or None after.resident)
written-settles a before after page bytes old new end = λ told current.
    let h = end.last in
    let b : AddressSpace = record a { stored = insert_key nat_cmp a.stored page } in
    let here : IsCurrent a told = subst (λ s. IsCurrent s told) (sym old) current in
    let now : List (List ℕ) = slice_set told page bytes in
    let found : find (is_cached page) a.resident ≡ Some h.cached = subst (λ p. find (is_cached p) a.resident ≡ Some h.cached) h.page_is (found-last a.resident h.cached end.sound h.last) in
    let same : SamePages a b told now = subst (λ bs. SamePages a b told (slice_set told page bs)) h.bytes_is (written-same a page h.cached told end.within found here) in
    let deep : page < length told = (let w = here.whole in let within = end.within in omega (arith, w, within)) in
    let settled : IsSettled b now (Some h.cached) =
    h.bytes_is ∙ sym (below-here a page bytes told deep) ∙ ap (device_bytes (space_of b) (page_of now)) (sym h.page_is) in
    let whole : IsSettled b now (last_or None b.resident) = subst (IsSettled b now) (sym h.last) settled in (
      subst (λ s. SamePages s after told now) old (subst (λ t. SamePages a t told now) (sym new) same),
      subst (λ (t : AddressSpace). IsSettled t now (last_or None t.resident)) (sym new) whole,
    )

settled-clean : (a : AddressSpace) (told : List (List ℕ)) (o : Option CachedPage) → AreResident a.resident → last_or None a.resident ≡ o →
    ((cached : CachedPage) → o ≡ Some cached → cached.is_dirty ≡ false) → IsCurrent a told → IsSettled a told o
settled-clean a told None sound last clean current = tt
settled-clean a told (Some x) sound last clean current =
    subst (λ f. IfSome f (λ c. c.is_dirty ≡ false → c.bytes ≡ device_bytes (space_of a) (page_of told) x.page)) (found-last a.resident x sound last) (current.clean x.page) (clean x refl)

pub clean-settles : (a before : AddressSpace) (told : List (List ℕ)) → a ≡ before → AreResident a.resident → None ≡ dirty_end a.resident → IsCurrent before told →
    SamePages before before told told × IsSettled before told (last_or None before.resident)
clean-settles a before told old sound none current =
    let here : IsCurrent a told = subst (λ s. IsCurrent s told) (sym old) current in (
      same-all before told current,
      subst (λ (s : AddressSpace). IsSettled s told (last_or None s.resident)) old (settled-clean a told (last_or None a.resident) sound refl (last-clean a.resident none) here),
    )

pub on-err : {X E : Type 0} (r : Result X E) (P : Type 0) → P → OnErr r P
on-err (Ok x) P p = tt
on-err (Err e) P p = p

-- a page in memory is one of the cell's
pub held-within : (n page : ℕ) (resident : List CachedPage) → AllByRecursion (λ c. c.page < n) resident → holds_page resident page ≡ true → page < n
held-within n page [] all there = absurd (cc)
held-within n page (x ∷ resident) all there = (elim (x.page == page) as (λ t. (x.page == page) ≡ t → page < n) [
  | true ↦ λ f. subst (λ p. p < n) (same-number x.page page f) all.0
  | false ↦ λ f. held-within n page resident all.1 (rw f at there)
]) refl

pub within-cleaned : (n page : ℕ) (resident : List CachedPage) → AllByRecursion (λ c. c.page < n) resident → AllByRecursion (λ c. c.page < n) (map (cleaned page) resident)
within-cleaned n page [] all = tt
within-cleaned n page (x ∷ resident) all = (subst (λ p. p < n) (sym (cleaned-page page x)) all.0, within-cleaned n page resident all.1)

pub within-edited : (n page at : ℕ) (piece : List ℕ) (resident : List CachedPage) → AllByRecursion (λ c. c.page < n) resident →
    AllByRecursion (λ c. c.page < n) (map (edited page at piece) resident)
within-edited n page at piece [] all = tt
within-edited n page at piece (x ∷ resident) all = (subst (λ p. p < n) (sym (edited-page page at piece x)) all.0, within-edited n page at piece resident all.1)

pub one-failed : (a : AddressSpace) (page : ℕ) (x y : BlockDevice) → Makes [] (call.Write page ∷ []) x y →
    StopsAt (cleaning page) (record { space = a; device = x }) (record { space = a; device = y })
one-failed a page x y calls = failed-clean a page x y calls

pub one-cleaned : (a before after : AddressSpace) (page : ℕ) (x y : BlockDevice) → a ≡ before →
    after ≡ record a { resident = map (cleaned page) a.resident; stored = insert_key nat_cmp a.stored page } → Makes (call.Write page ∷ []) [] x y →
    Completes (cleaning page) (record { space = before; device = x }) (record { space = after; device = y })
one-cleaned a before after page x y old new calls =
    let P : AddressSpace → AddressSpace → Type 0 = λ s t. Completes (cleaning page) (record { space = s; device = x }) (record { space = t; device = y }) in
    subst (λ s. P s after) old (subst (P a) (sym new) (cleaned-one a page x y calls))

pub found-held : (page : ℕ) (resident : List CachedPage) → holds_page resident page ≡ true → (x : CachedPage) × (find (is_cached page) resident ≡ Some x)
found-held page [] there = absurd (cc)
found-held page (x ∷ resident) there = (elim (x.page == page) as (λ t. (x.page == page) ≡ t → (y : CachedPage) × (find (is_cached page) (x ∷ resident) ≡ Some y)) [
  | true ↦ λ f. (x, rw f refl)
  | false ↦ λ f. let rest = found-held page resident (rw f at there) in (rest.0, rw f rest.1)
]) refl

-- The page is in memory, with these bytes, and one of the cell's.
pub record HoldsBytes (a : AddressSpace) (page : ℕ) (bytes : List ℕ) : Type 0 where
  pub within : page < a.pages
  pub there : holds_page a.resident page ≡ true
  pub bytes_are : bytes ≡ bytes_in a.resident page

-- a page in memory is one of the cell's, by the parts of the address space
pub page-within : (a before : AddressSpace) (page : ℕ) → a ≡ before → AllByRecursion (λ c. c.page < a.pages) a.resident → holds_page before.resident page ≡ true → page < a.pages
page-within a before page is all there = held-within a.pages page a.resident all (ap (λ (s : AddressSpace). holds_page s.resident page) is ∙ there)

pub holds-bytes : (a before : AddressSpace) (page : ℕ) (bytes : List ℕ) → a ≡ before → AllByRecursion (λ c. c.page < a.pages) a.resident → holds_page before.resident page ≡ true →
    bytes ≡ bytes_in a.resident page → HoldsBytes a page bytes
holds-bytes a before page bytes is all there bytes_are = record {
  within = page-within a before page is all there;
  there = ap (λ (s : AddressSpace). holds_page s.resident page) is ∙ there;
  bytes_are = bytes_are;
}

-- the pages stay the same when one is written and marked clean
pub cleaned-keeps : (a before after : AddressSpace) (page : ℕ) (bytes : List ℕ) → a ≡ before →
    after ≡ record a { resident = map (cleaned page) a.resident; stored = insert_key nat_cmp a.stored page } → HoldsBytes a page bytes →
    (told : List (List ℕ)) → IsCurrent before told → SamePages before after told (slice_set told page bytes)
cleaned-keeps a before after page bytes old new h = λ told current.
    let here : IsCurrent a told = subst (λ s. IsCurrent s told) (sym old) current in
    let found = found-held page a.resident h.there in
    let is : bytes ≡ found.0.bytes = h.bytes_are ∙ ap bytes_of found.1 in
    let b : AddressSpace = record a { stored = insert_key nat_cmp a.stored page } in
    let now : List (List ℕ) = slice_set told page bytes in
    let first : SamePages a b told now = subst (λ bs. SamePages a b told (slice_set told page bs)) (sym is) (written-same a page found.0 told h.within found.1 here) in
    let deep : page < length told = (let w = here.whole in let within = h.within in omega (arith, w, within)) in
    let settled : (c : CachedPage) → find (is_cached page) b.resident ≡ Some c → c.bytes ≡ below b now page =
    λ c e. let same : found.0 ≡ c = (let x = found.1 in cc) in ap (λ (y : CachedPage). y.bytes) (sym same) ∙ sym is ∙ sym (below-here a page bytes told deep) in
    let second = marked-same b page now settled first.current in
    let d : AddressSpace = record a { resident = map (cleaned page) a.resident; stored = insert_key nat_cmp a.stored page } in
    let whole : SamePages a d told now = same-then a b d told now now first second in
    subst (λ s. SamePages s after told now) old (subst (λ t. SamePages a t told now) (sym new) whole)

pub on-ok : {X E : Type 0} (r : Result X E) (P : Type 0) → ((x : X) → r ≡ Ok x → P) → OnOk r P
on-ok (Ok x) P p = p x refl
on-ok (Err e) P p = tt

pub on-err-of : {X E : Type 0} (r : Result X E) (P : Type 0) → ((e : E) → r ≡ Err e → P) → OnErr r P
on-err-of (Ok x) P p = tt
on-err-of (Err e) P p = p e refl

pub if-some : {X : Type 0} (o : Option X) (P : X → Type 0) → ((x : X) → o ≡ Some x → P x) → IfSome o P
if-some None P p = tt
if-some (Some x) P p = p x refl

slots-taken : (n : ℕ) (xs : List CachedPage) → map slot_of (take n xs) ≡ take n (map slot_of xs)
slots-taken zero xs = refl
slots-taken (suc n) [] = refl
slots-taken (suc n) (x ∷ xs) = ap (λ rest. slot_of x ∷ rest) (slots-taken n xs)

-- the last page was written where it was dirty, and leaves
pub end-left : (old middle : Moment) (after : AddressSpace) → AreCounted middle.device.counts → Completes writing_end old middle → after ≡ without_end middle.space →
    Completes evicting old (at after middle.device)
end-left old middle after small written left =
    let new : Moment = at after middle.device in
    let pages : List CachedPage = middle.space.resident in
    let slots : map slot_of (take (length pages - 1) pages) ≡ take (length (map slot_of pages) - 1) (map slot_of pages) =
    slots-taken (length pages - 1) pages ∙ ap (λ n. take (n - 1) (map slot_of pages)) (sym (length-map pages slot_of)) in
    let cache : cache_in after ≡ without_last (cache_in middle.space) =
    ap cache_in left ∙ ap (λ resident. let s : CacheState = record { resident = resident; stored = middle.space.stored } in s) slots in
    completes-as evicting (then_way writing_end (changing without_last)) old new (evicted old)
    (completes-then writing_end (changing without_last) old middle new written (completes-change middle new without_last small refl cache))

-- where its write fails, the eviction stops
pub end-stopped : (before after : AddressSpace) (x y : BlockDevice) → StopsAt writing_end (record { space = before; device = x }) (record { space = after; device = y }) →
    StopsAt evicting (record { space = before; device = x }) (record { space = after; device = y })
end-stopped before after x y h =
    let old : Moment = record { space = before; device = x } in
    let new : Moment = record { space = after; device = y } in
    stops-as evicting (then_way writing_end (changing without_last)) old new (evicted old) (stops-first writing_end (changing without_last) old new h)

left-by : (a : AddressSpace) (told : List (List ℕ)) (o : Option CachedPage) → last_or None a.resident ≡ o → IsSettled a told o → IsCurrent a told →
    (let b : AddressSpace = record a { resident = take (length a.resident - 1) a.resident } in SamePages a b told told)
left-by a told None last settled current =
    let empty : take (length a.resident - 1) a.resident ≡ a.resident = subst (λ (xs : List CachedPage). take (length xs - 1) xs ≡ xs) (sym (none-empty a.resident last)) refl in
    subst (λ (xs : List CachedPage). let b : AddressSpace = record a { resident = xs } in SamePages a b told told) (sym empty) (same-all a told current)
left-by a told (Some x) last settled current = left-same a x told last settled current

-- the pages stay the same when the last one leaves
pub left-keeps : (old middle : Moment) (after : AddressSpace) → SettlesEnd old middle → after ≡ without_end middle.space → KeepsPages old (at after middle.device)
left-keeps old middle after settles left = λ told tells current.
    let first = settles told tells current in
    let a = middle.space in
    let second : SamePages a (without_end a) first.0 first.0 = left-by a first.0 (last_or None a.resident) refl first.3 first.2.current in
    (first.0, first.1, subst (λ t. SamePages old.space t told first.0) (sym left) (same-then old.space a (without_end a) told first.0 first.0 first.2 second))

-- where at most so many pages are in memory as may stay, none is left to go
pub none-left : (a : AddressSpace) (now : Moment) (count : ℕ) → a ≡ now.space → count ≡ length a.resident → count ≤ RECLAIM_TARGET → AreCounted now.device.counts →
    Completes (evicting_many (length now.space.resident - RECLAIM_TARGET)) now now
none-left a now count is counted few small =
    let seen = ap (λ (s : AddressSpace). length s.resident) is in
    let none : 0 ≡ length now.space.resident - RECLAIM_TARGET = omega (arith, seen, counted, few) in
    subst (λ n. Completes (evicting_many n) now now) none (evicted-none now small)

pub told-read : (o : Option (List (List ℕ))) (told : List (List ℕ)) (page : ℕ) (bytes : List ℕ) → IfSome o (λ pages. bytes ≡ slice_index_or pages page []) → o ≡ Some told → bytes ≡ page_of told page
told-read None told page bytes read e = absurd (cc)
told-read (Some pages) told page bytes read e = let same : pages ≡ told = cc in read ∙ ap (λ ps. slice_index_or ps page []) same

pub if-err : {X E : Type 0} (r : Result X E) (Q P : E → Type 0) → IsErrAnd r Q → ((e : E) → Q e → P e) → IfErr r P
if-err (Ok x) Q P h f = tt
if-err (Err e) Q P h f = f e h

-- a slice of all bytes was written
pub refilled : (n : ℕ) (out items : List ℕ) → n ≡ length out → length out ≡ length items → take n (out ++ drop (length out) items) ≡ out
refilled n out items count same =
    ap (λ rest. take n (out ++ rest)) (drop_all (length out) items (omega (arith, same))) ∙ ap (take n) (append-nil out) ∙ take_all n out (omega (arith, count))

pub ok-of : {X E : Type 0} (r : Result X E) (P : Type 0) → is_err r ≡ false → OnOk r P → P
ok-of (Ok x) P e p = p
ok-of (Err x) P e p = absurd (cc)

pub err-of : {X E : Type 0} (r : Result X E) (P : Type 0) → is_err r ≡ true → OnErr r P → P
err-of (Ok x) P e p = absurd (cc)
err-of (Err x) P e p = p
