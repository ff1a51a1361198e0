-- The parts of a touch, of a write-back and of a reclaim.
use Rattle.std.specs.Prelude.{◌≡◌, ◌≢◌, ℕ, suc, ◌+◌, ◌-◌, ◌<◌, ◌≤◌, ◌==◌, Bool, true, false, ◌||◌, nat_le, Option, Some, None, option_map, List, [], ◌∷◌, ◌++◌, length, map, take, Result, Ok, Err, if◌then◌else◌, refl}
use Rattle.std.proofs.Common.{sym, ◌∙◌, ap, ap₂, subst, arith}
use Rattle.std.proofs.lemmas.Bool.Decides.{nat_tests}
use Rattle.std.proofs.lemmas.List.{append-nil, length-append, length-map}
use Rattle.std.specs.BTreeSet.{insert_key}
use Rattle.std.specs.List.{last_or, list_any}
use Rattle.std.specs.Ordering.{nat_cmp}
use Rattle.vfs_base.specs.declared.limits.TheConstants.{RECLAIM_TARGET, RESIDENT_PAGES}
use Rattle.vfs_model.specs.BlockDevice.{BlockDevice, Makes}
use Rattle.vfs_model.specs.Cache.{CacheRun, bring_in, dirty_pages, evict, evict_last, evict_many, is_page, is_stored, make_clean, move_to_front, reclaim, touch, without_last}
use Rattle.vfs_model.specs.FailedCalls.{◌>>=◌, clean_page, try_call, try_evict, try_evict_many}
use Rattle.vfs_model.specs.PageList.{CachedPage, slot_of}
use Rattle.vfs_model.specs.declared.cache.CacheState.{CacheState}
use Rattle.vfs_model.specs.declared.cache.DeviceCall.{DeviceCall}
use Rattle.vfs_model.specs.declared.cache.DeviceCall.TheVariants as call
use Rattle.vfs_model.specs.declared.cache.Resident.{Resident}
use Rattle.vfs_model.proofs.CleanedPages.{fold-clean}
use Rattle.page_cache.specs.AddressSpace.{AddressSpace, Completes, Moment, StopsAt, cache_in, reclaiming, run_behind, touching, writing_back}
use Rattle.page_cache.specs.Framed.{AreCounted, changing, cleaning, cleaning_each, evicting, evicting_many, reading, then_way, try_write_slot, write_slot, writing_end}
use Rattle.page_cache.specs.Resident.{cleaned, holds_page, is_cached}
use Rattle.page_cache.proofs.Found.{alike, differs}
use Rattle.page_cache.proofs.Calls.{none-made}
use Rattle.page_cache.proofs.Runs.{Alike}

last-mapped : (o : Option CachedPage) (xs : List CachedPage) → last_or (option_map slot_of o) (map slot_of xs) ≡ option_map slot_of (last_or o xs)
last-mapped o [] = refl
last-mapped o (x ∷ xs) = last-mapped (Some x) xs

-- a call that is not the one that fails, and one that is
passes : (n : ℕ) (run : CacheRun) (asked : DeviceCall) → length (run.calls ++ asked ∷ []) < n → try_call n run asked ≡ Ok (record run { calls = run.calls ++ asked ∷ [] })
passes n run asked low =
    ap (λ t. if t then Err (record run { calls = run.calls ++ asked ∷ [] }) else Ok (record run { calls = run.calls ++ asked ∷ [] }))
    (differs (length (run.calls ++ asked ∷ [])) n (λ e. absurd (omega (arith, low, e))))

fails : (run : CacheRun) (asked : DeviceCall) → try_call (length (run.calls ++ []) + 1) run asked ≡ Err (record run { calls = (run.calls ++ []) ++ asked ∷ [] })
fails run asked =
    let e = append-nil run.calls in
    let n : length (run.calls ++ asked ∷ []) ≡ length (run.calls ++ []) + 1 = length-append run.calls (asked ∷ []) ∙ ap (λ calls. length calls + 1) (sym e) in
    ap (λ t. if t then Err (record run { calls = run.calls ++ asked ∷ [] }) else Ok (record run { calls = run.calls ++ asked ∷ [] }))
    (ap (λ k. k == length (run.calls ++ []) + 1) n ∙ alike (length (run.calls ++ []) + 1))
    ∙ ap (λ calls. let r : Result CacheRun CacheRun = Err (record run { calls = calls ++ asked ∷ [] }) in r) (sym e)

-- the last page is dirty, and is written
pub wrote-end : (a : AddressSpace) (c : CachedPage) (x y : BlockDevice) → last_or None a.resident ≡ Some c → c.is_dirty ≡ true →
    Makes (call.Write c.page ∷ []) [] x y →
    Completes writing_end (record { space = a; device = x }) (record { space = record a { stored = insert_key nat_cmp a.stored c.page }; device = y })
wrote-end a c x y last dirty calls = record {
  made = call.Write c.page ∷ [];
  calls = calls;
  clear = λ e. rw (last-mapped None a.resident) (rw last (rw dirty refl));
  tried = λ n e low. rw (last-mapped None a.resident) (rw last (rw dirty
      (ap (λ (t : Result CacheRun CacheRun). t >>= λ made. Ok (record made { next = record made.next { stored = insert_key nat_cmp made.next.stored c.page } }))
      (passes n (record { next = cache_in a; calls = e }) (call.Write c.page) low))));
}

-- and where that fails, nothing changed
pub failed-end : (a : AddressSpace) (c : CachedPage) (x y : BlockDevice) → last_or None a.resident ≡ Some c → c.is_dirty ≡ true →
    Makes [] (call.Write c.page ∷ []) x y → StopsAt writing_end (record { space = a; device = x }) (record { space = a; device = y })
failed-end a c x y last dirty calls = record {
  made = [];
  failed = call.Write c.page;
  calls = calls;
  stopped = λ e. rw (last-mapped None a.resident) (rw last (rw dirty
      (ap (λ (t : Result CacheRun CacheRun). t >>= λ made. Ok (record made { next = record made.next { stored = insert_key nat_cmp made.next.stored c.page } }))
      (fails (record { next = cache_in a; calls = e }) (call.Write c.page)))));
}

-- there is no last page that is dirty
pub clean-end : (a : AddressSpace) (x : BlockDevice) → AreCounted x.counts → ((c : CachedPage) → last_or None a.resident ≡ Some c → c.is_dirty ≡ false) →
    Completes writing_end (record { space = a; device = x }) (record { space = a; device = x })
clean-end a x small clean = record {
  made = [];
  calls = none-made x x small refl;
  clear = λ e. rw (last-mapped None a.resident) (by (last_or None a.resident) refl e);
  tried = λ n e low. rw (last-mapped None a.resident) (tried-by (last_or None a.resident) refl n e);
}
  where
    by : (o : Option CachedPage) → last_or None a.resident ≡ o → (e : List DeviceCall) →
        write_slot (record { next = cache_in a; calls = e }) (option_map slot_of o) ≡ record { next = cache_in a; calls = e ++ [] }
    by None f e = ap (λ calls. let r : CacheRun = record { next = cache_in a; calls = calls } in r) (sym (append-nil e))
    by (Some c) f e = rw (clean c f) (ap (λ calls. let r : CacheRun = record { next = cache_in a; calls = calls } in r) (sym (append-nil e)))

    tried-by : (o : Option CachedPage) → last_or None a.resident ≡ o → (n : ℕ) (e : List DeviceCall) →
        try_write_slot n (record { next = cache_in a; calls = e }) (option_map slot_of o) ≡ Ok (record { next = cache_in a; calls = e ++ [] })
    tried-by None f n e = ap (λ calls. let r : Result CacheRun CacheRun = Ok (record { next = cache_in a; calls = calls }) in r) (sym (append-nil e))
    tried-by (Some c) f n e = rw (clean c f) (ap (λ calls. let r : Result CacheRun CacheRun = Ok (record { next = cache_in a; calls = calls }) in r) (sym (append-nil e)))

-- a page is read that is stored, or the read fails, or it is not stored
pub read-stored : (a : AddressSpace) (page : ℕ) (x y : BlockDevice) → is_stored (cache_in a) page ≡ true → Makes (call.Read page ∷ []) [] x y →
    Completes (reading page) (record { space = a; device = x }) (record { space = a; device = y })
read-stored a page x y stored calls = record {
  made = call.Read page ∷ [];
  calls = calls;
  clear = λ e. rw stored refl;
  tried = λ n e low. rw stored (passes n (record { next = cache_in a; calls = e }) (call.Read page) low);
}

pub failed-read : (a : AddressSpace) (page : ℕ) (x y : BlockDevice) → is_stored (cache_in a) page ≡ true → Makes [] (call.Read page ∷ []) x y →
    StopsAt (reading page) (record { space = a; device = x }) (record { space = a; device = y })
failed-read a page x y stored calls = record {
  made = [];
  failed = call.Read page;
  calls = calls;
  stopped = λ e. rw stored (fails (record { next = cache_in a; calls = e }) (call.Read page));
}

pub not-stored : (a : AddressSpace) (page : ℕ) (x : BlockDevice) → AreCounted x.counts → is_stored (cache_in a) page ≡ false →
    Completes (reading page) (record { space = a; device = x }) (record { space = a; device = x })
not-stored a page x small stored = record {
  made = [];
  calls = none-made x x small refl;
  clear = λ e. rw stored (ap (λ calls. let r : CacheRun = record { next = cache_in a; calls = calls } in r) (sym (append-nil e)));
  tried = λ n e low. rw stored (ap (λ calls. let r : Result CacheRun CacheRun = Ok (record { next = cache_in a; calls = calls }) in r) (sym (append-nil e)));
}

slots-cleaned : (page : ℕ) (xs : List CachedPage) → map slot_of (map (cleaned page) xs) ≡ map (clean_page page) (map slot_of xs)
slots-cleaned page [] = refl
slots-cleaned page (x ∷ xs) = ap₂ (λ y ys. y ∷ ys) (by (is_cached page x)) (slots-cleaned page xs)
  where
    by : (t : Bool) → slot_of (if t then record x { is_dirty = false } else x) ≡ (if t then make_clean (slot_of x) else slot_of x)
    by true = refl
    by false = refl

-- a page in memory is written and clean then, or the write fails
pub cleaned-one : (a : AddressSpace) (page : ℕ) (x y : BlockDevice) → Makes (call.Write page ∷ []) [] x y →
    Completes (cleaning page) (record { space = a; device = x })
    (record { space = record a { resident = map (cleaned page) a.resident; stored = insert_key nat_cmp a.stored page }; device = y })
cleaned-one a page x y calls = record {
  made = call.Write page ∷ [];
  calls = calls;
  clear = λ e. ap (λ slots. let r : CacheRun = record { next = record { resident = slots; stored = insert_key nat_cmp a.stored page }; calls = e ++ call.Write page ∷ [] } in r)
      (sym (slots-cleaned page a.resident));
  tried = λ n e low.
      ap (λ (t : Result CacheRun CacheRun). (t >>= λ made. Ok (record made { next = record made.next { stored = insert_key nat_cmp made.next.stored page } }))
      >>= λ written. Ok (record written { next = record written.next { resident = map (clean_page page) written.next.resident } }))
      (passes n (record { next = cache_in a; calls = e }) (call.Write page) low)
      ∙ ap (λ slots. let r : Result CacheRun CacheRun = Ok (record { next = record { resident = slots; stored = insert_key nat_cmp a.stored page }; calls = e ++ call.Write page ∷ [] }) in r)
      (sym (slots-cleaned page a.resident));
}

pub failed-clean : (a : AddressSpace) (page : ℕ) (x y : BlockDevice) → Makes [] (call.Write page ∷ []) x y →
    StopsAt (cleaning page) (record { space = a; device = x }) (record { space = a; device = y })
failed-clean a page x y calls = record {
  made = [];
  failed = call.Write page;
  calls = calls;
  stopped = λ e.
      ap (λ (t : Result CacheRun CacheRun). (t >>= λ made. Ok (record made { next = record made.next { stored = insert_key nat_cmp made.next.stored page } }))
      >>= λ written. Ok (record written { next = record written.next { resident = map (clean_page page) written.next.resident } }))
      (fails (record { next = cache_in a; calls = e }) (call.Write page));
}

none-left : {X : Type 0} (x : X) (xs : List X) → last_or (Some x) xs ≢ None
none-left x [] e = absurd (cc)
none-left x (y ∷ xs) e = none-left y xs e

pub none-empty : {X : Type 0} (xs : List X) → last_or None xs ≡ None → xs ≡ []
none-empty [] e = refl
none-empty (x ∷ xs) e = absurd (none-left x xs e)

evict-of : (run : CacheRun) (o : Option Resident) → (o ≡ None → run.next.resident ≡ []) →
    evict run o ≡ (let w = write_slot run o in record w { next = without_last w.next })
evict-of run (Some slot) empty = refl
evict-of run None empty =
    let P : List Resident → Type 0 = λ xs. take (length xs - 1) xs ≡ xs in
    let same = subst P (sym (empty refl)) refl in
    ap (λ slots. let r : CacheRun = record run { next = record run.next { resident = slots } } in r) (sym same)

try-evict-of : (n : ℕ) (run : CacheRun) (o : Option Resident) → (o ≡ None → run.next.resident ≡ []) →
    try_evict n run o ≡ (try_write_slot n run o >>= λ w. Ok (record w { next = without_last w.next }))
try-evict-of n run (Some slot) empty = refl
try-evict-of n run None empty =
    let P : List Resident → Type 0 = λ xs. take (length xs - 1) xs ≡ xs in
    let same = subst P (sym (empty refl)) refl in
    ap (λ slots. let r : Result CacheRun CacheRun = Ok (record run { next = record run.next { resident = slots } }) in r) (sym same)

-- an eviction writes the last page, which then leaves
pub evicted : (m : Moment) → Alike evicting (then_way writing_end (changing without_last)) m
unfolding evict_last
evicted m = record {
  clear = λ e. evict-of (run_behind e m) (last_or None (map slot_of m.space.resident)) (none-empty (map slot_of m.space.resident));
  tried = λ n e. try-evict-of n (run_behind e m) (last_or None (map slot_of m.space.resident)) (none-empty (map slot_of m.space.resident));
}

abbrev pub in_front : ℕ → CacheState → CacheState
in_front page cache = record cache { resident = record { page = page; is_dirty = false } ∷ cache.resident }

pub resident-held : (page : ℕ) (xs : List CachedPage) → list_any (is_page page) (map slot_of xs) ≡ holds_page xs page
resident-held page [] = refl
resident-held page (x ∷ xs) = ap (λ t. x.page == page || t) (resident-held page xs)

-- a page that is in memory goes to the front
pub touched-front : (m : Moment) (page : ℕ) → holds_page m.space.resident page ≡ true → Alike (touching page) (changing (move_to_front page)) m
unfolding touch
touched-front m page there = record {
  clear = λ e. rw (resident-held page m.space.resident ∙ there) refl;
  tried = λ n e. rw (resident-held page m.space.resident ∙ there) refl;
}

brought : (page : ℕ) (run : CacheRun) → bring_in page run ≡ (let r = (reading page).clear run in record r { next = in_front page r.next })
brought page run = by (is_stored run.next page)
  where
    by : (t : Bool) → (let r : CacheRun = record {
      next = record run.next { resident = record { page = page; is_dirty = false } ∷ run.next.resident };
      calls = if t then run.calls ++ call.Read page ∷ [] else run.calls;
    } in r) ≡ (let r : CacheRun = if t then record run { calls = run.calls ++ call.Read page ∷ [] } else run in record r { next = in_front page r.next })
    by true = refl
    by false = refl

-- where there is room, another page is read and stands in front
pub touched-room : (m : Moment) (page : ℕ) → holds_page m.space.resident page ≡ false → length m.space.resident < RESIDENT_PAGES →
    Alike (touching page) (then_way (reading page) (changing (in_front page))) m
unfolding touch
touched-room m page absent room = record {
  clear = λ e. rw (resident-held page m.space.resident ∙ absent) (rw full (brought page (run_behind e m)));
  tried = λ n e. rw (resident-held page m.space.resident ∙ absent) (rw full refl);
}
  where
    above : (a b : ℕ) → b < a → nat_le a b ≡ false
    above a b h = grind (arith, nat_tests)

    full : nat_le RESIDENT_PAGES (length (map slot_of m.space.resident)) ≡ false
    full = let e = length-map m.space.resident slot_of in above RESIDENT_PAGES (length (map slot_of m.space.resident)) (omega (arith, e, room))

-- where there is none, the last page leaves before
pub touched-full : (m : Moment) (page : ℕ) → holds_page m.space.resident page ≡ false → length m.space.resident ≡ RESIDENT_PAGES →
    Alike (touching page) (then_way evicting (then_way (reading page) (changing (in_front page)))) m
unfolding touch
touched-full m page absent room = record {
  clear = λ e. rw (resident-held page m.space.resident ∙ absent) (rw full (brought page (evict_last (run_behind e m))));
  tried = λ n e. rw (resident-held page m.space.resident ∙ absent) (rw full refl);
}
  where
    within : (a b : ℕ) → a ≤ b → nat_le a b ≡ true
    within a b h = grind (arith, nat_tests)

    full : nat_le RESIDENT_PAGES (length (map slot_of m.space.resident)) ≡ true
    full = let e = length-map m.space.resident slot_of in within RESIDENT_PAGES (length (map slot_of m.space.resident)) (omega (arith, e, room))

-- the dirty pages are cleaned, one after the other
pub written-back : (m : Moment) → Alike writing_back (cleaning_each (dirty_pages (cache_in m.space))) m
written-back m = record { clear = λ e. sym (fold-clean (run_behind e m)); tried = λ n e. refl }

pub cleaned-more : (m : Moment) (page : ℕ) (pages : List ℕ) → Alike (cleaning_each (page ∷ pages)) (then_way (cleaning page) (cleaning_each pages)) m
cleaned-more m page pages = record { clear = λ e. refl; tried = λ n e. refl }

pub cleaned-none : (m : Moment) → AreCounted m.device.counts → Completes (cleaning_each []) m m
cleaned-none m small = record {
  made = [];
  calls = none-made m.device m.device small refl;
  clear = λ e. ap (λ calls. run_behind calls m) (sym (append-nil e));
  tried = λ n e low. ap (λ calls. let r : Result CacheRun CacheRun = Ok (run_behind calls m) in r) (sym (append-nil e));
}

pub reclaimed : (m : Moment) (count : ℕ) → count ≡ length m.space.resident - RECLAIM_TARGET → Alike reclaiming (evicting_many count) m
unfolding reclaim
reclaimed m count same =
    let e : length (map slot_of m.space.resident) - RECLAIM_TARGET ≡ count = (let l = length-map m.space.resident slot_of in omega (arith, l, same)) in
    record {
      clear = λ earlier. ap (λ n. evict_many n (run_behind earlier m)) e;
      tried = λ n earlier. ap (λ k. try_evict_many n k (run_behind earlier m)) e;
    }

pub evicted-more : (m : Moment) (count : ℕ) → Alike (evicting_many (suc count)) (then_way evicting (evicting_many count)) m
evicted-more m count = record { clear = λ e. refl; tried = λ n e. refl }

pub evicted-none : (m : Moment) → AreCounted m.device.counts → Completes (evicting_many 0) m m
evicted-none m small = record {
  made = [];
  calls = none-made m.device m.device small refl;
  clear = λ e. ap (λ calls. run_behind calls m) (sym (append-nil e));
  tried = λ n e low. ap (λ calls. let r : Result CacheRun CacheRun = Ok (run_behind calls m) in r) (sym (append-nil e));
}
