-- A step that a failed call stops has made the first calls of the step that nothing stops.
use Rattle.std.specs.Prelude.{◌≡◌, ◌≢◌, ℕ, zero, suc, ◌+◌, ◌-◌, ◌/◌, ◌%◌, ◌<◌, ◌≤◌, ◌==◌, Bool, true, false, not, ◌&&◌, ◌||◌, nat_lt, nat_le, is_ok, Option, Some, None, List, [], ◌∷◌, ◌++◌, length, map, take, fold, Result, Ok, Err, ◌⊎◌, refl, if◌then◌else◌}
use Rattle.std.proofs.Common.{sym, ◌∙◌, ap, subst, inl, inr, arith}
use Rattle.std.proofs.lemmas.Bool.{cases_lt}
use Rattle.std.proofs.lemmas.Bool.Decides.{eqb_tells}
use Rattle.std.proofs.lemmas.List.{append-nil, append_assoc, length-append, take-append-le}
use Rattle.std.proofs.Math.Seq.{take-length}
use Rattle.std.specs.BTreeSet.{insert_key}
use Rattle.std.specs.List.{last_or}
use Rattle.std.specs.Ordering.{nat_cmp}
use Rattle.std.specs.Prelude.{MatchResult, is_err}
use Rattle.vfs_base.specs.declared.errno.Errno.{Errno}
use Rattle.vfs_base.specs.declared.limits.TheConstants.{PAGE_SIZE, RECLAIM_TARGET, RESIDENT_PAGES}
use Rattle.vfs_base.specs.declared.step.Step.{Step}
use Rattle.vfs_base.specs.declared.step.Step.TheVariants as step
use Rattle.vfs_model.specs.Cache.{CacheRun, begin_run, bring_in, cache_move, cut_pages, dirty_pages, edit_end, evict, evict_last, evict_many, file_size, is_resident, is_stored, make_dirty, move_to_front, pages_of, reclaim, row_run, touch, touch_and_edit, truncate, without_last, write_back, write_dirty}
use Rattle.vfs_model.specs.CacheLaws.{PassesCall, StopsAtCall}
use Rattle.vfs_model.specs.FailedCalls.{◌>>=◌, StoppedRun, bytes_before, clean_page, having_moved, stopped_run, try_bring_in, try_call, try_clean, try_each, try_edit, try_edit_end, try_evict, try_evict_last, try_evict_many, try_move, try_pages, try_reclaim, try_touch, try_truncate, try_write, try_write_back}
use Rattle.vfs_model.specs.FileMoves.{is_on_cell}
use Rattle.vfs_model.specs.FileStep.{file_refusals, moved_count}
use Rattle.vfs_model.specs.declared.cache.CacheState.{CacheState}
use Rattle.vfs_model.specs.declared.cache.DeviceCall.{DeviceCall}
use Rattle.vfs_model.specs.declared.cache.DeviceCall.TheVariants as call
use Rattle.vfs_model.specs.declared.cache.Resident.{Resident}
use Rattle.vfs_model.specs.declared.world.FileState.{FileState}
use Rattle.vfs_model.proofs.CleanedPages.{clear_clean, fold-clean}

-- the calls of the second run begin with those of the first
pub record Grows (before clear : CacheRun) : Type 0 where
  pub later : List DeviceCall
  pub parts : clear.calls ≡ before.calls ++ later

-- no call between the two runs has the number
pub record Passed (number : ℕ) (before clear next : CacheRun) : Type 0 where
  pub same : next ≡ clear
  pub outside : (number ≤ length before.calls) ⊎ (length clear.calls < number)

-- the call with the number was the last one
pub record StoppedAt (number : ℕ) (before clear left : CacheRun) : Type 0 where
  pub calls : left.calls ≡ take number clear.calls
  pub above : length before.calls < number
  pub within : number ≤ length clear.calls

abbrev pub Outcome : {E : Type 0} → (E → CacheRun) → ℕ → CacheRun → CacheRun → Result CacheRun E → Type 0
Outcome left number before clear (Ok next) = Passed number before clear next
Outcome left number before clear (Err stopped) = StoppedAt number before clear (left stopped)

-- What was tried follows the run that nothing stops: it is the same, or is stopped at the call with the number.
pub record Follows {E : Type 0} (left : E → CacheRun) (number : ℕ) (before clear : CacheRun) (tried : Result CacheRun E) : Type 0 where
  pub grows : Grows before clear
  pub outcome : Outcome left number before clear tried

grown : (a b : CacheRun) → Grows a b → length a.calls ≤ length b.calls
grown a b h = let e : length b.calls ≡ length a.calls + length h.later = ap length h.parts ∙ length-append a.calls h.later in omega (arith, e)

grows-then : (a b c : CacheRun) → Grows a b → Grows b c → Grows a c
grows-then a b c first second = record {
  later = first.later ++ second.later;
  parts = second.parts ∙ ap (λ calls. calls ++ second.later) first.parts ∙ append_assoc a.calls first.later second.later;
}

take-grown : (number : ℕ) (b c : CacheRun) → Grows b c → number ≤ length b.calls → take number c.calls ≡ take number b.calls
take-grown number b c h within = ap (take number) h.parts ∙ take-append-le number b.calls h.later within

both-outside : (number a b c : ℕ) → a ≤ b → b ≤ c → (number ≤ a) ⊎ (b < number) → (number ≤ b) ⊎ (c < number) → (number ≤ a) ⊎ (c < number)
both-outside number a b c low high (inl under) second = inl under
both-outside number a b c low high (inr over) (inl under) = absurd (omega (arith, over, under))
both-outside number a b c low high (inr over) (inr beyond) = inr beyond

after : {E : Type 0} (left : E → CacheRun) (number : ℕ) (a b c : CacheRun) (tried : Result CacheRun E) → Grows a b →
    (number ≤ length a.calls) ⊎ (length b.calls < number) → Follows left number b c tried → Follows left number a c tried
after left number a b c (Ok next) grows out h = record {
  grows = grows-then a b c grows h.grows;
  outcome = record {
    same = h.outcome.same;
    outside = both-outside number (length a.calls) (length b.calls) (length c.calls) (grown a b grows) (grown b c h.grows) out h.outcome.outside;
  };
}
after left number a b c (Err stopped) grows out h = record {
  grows = grows-then a b c grows h.grows;
  outcome = record {
    calls = h.outcome.calls;
    above = let low = grown a b grows in let high = h.outcome.above in omega (arith, low, high);
    within = h.outcome.within;
  };
}

pub bind : {E : Type 0} (left : E → CacheRun) (number : ℕ) (a b c : CacheRun) (tried : Result CacheRun E) (rest : CacheRun → Result CacheRun E) →
    Follows left number a b tried → Follows left number b c (rest b) → Follows left number a c (tried >>= rest)
bind left number a b c (Ok next) rest first second =
    let P : CacheRun → Type 0 = λ x. Follows left number a c (rest x) in
    subst P (sym first.outcome.same) (after left number a b c (rest b) first.grows first.outcome.outside second)
bind left number a b c (Err stopped) rest first second = record {
  grows = grows-then a b c first.grows second.grows;
  outcome = record {
    calls = first.outcome.calls ∙ sym (take-grown number b c second.grows first.outcome.within);
    above = first.outcome.above;
    within = let low = grown b c second.grows in let high = first.outcome.within in omega (arith, low, high);
  };
}

-- no call is made
pub uncalled : {E : Type 0} (left : E → CacheRun) (number : ℕ) (a b : CacheRun) → b.calls ≡ a.calls → Follows left number a b (Ok b)
uncalled left number a b e = record {
  grows = record { later = []; parts = e ∙ sym (append-nil a.calls) };
  outcome = record { same = refl; outside = elim (cases_lt (length b.calls) number) [ inl over ↦ inr over | inr under ↦ inl (let same : length b.calls ≡ length a.calls = ap length e in omega (arith, same, under)) ] };
}

-- the cache is changed behind what was tried
pub and-then : {E : Type 0} (left : E → CacheRun) (number : ℕ) (a b : CacheRun) (change : CacheRun → CacheRun) (tried : Result CacheRun E) →
    (change b).calls ≡ b.calls → Follows left number a b tried → Follows left number a (change b) (tried >>= λ x. Ok (change x))
and-then left number a b change tried e h = bind left number a b (change b) tried (λ x. Ok (change x)) h (uncalled left number b (change b) e)

choice : {E : Type 0} (left : E → CacheRun) (number : ℕ) (a b c : CacheRun) (test : Bool) {tried other : Result CacheRun E} →
    Follows left number a b tried → Follows left number a c other → Follows left number a (if test then b else c) (if test then tried else other)
choice left number a b c true first second = first
choice left number a b c false first second = second

abbrev pub itself : CacheRun → CacheRun
itself run = run

longer : (run : CacheRun) (asked : DeviceCall) → length (run.calls ++ asked ∷ []) ≡ length run.calls + 1
longer run asked = length-append run.calls (asked ∷ [])

call-follows : (number : ℕ) (run : CacheRun) (asked : DeviceCall) →
    Follows itself number run (record run { calls = run.calls ++ asked ∷ [] }) (try_call number run asked)
call-follows number run asked = elim (eqb_tells (length (run.calls ++ asked ∷ [])) number) as (λ _. Follows itself number run (record run { calls = run.calls ++ asked ∷ [] }) (try_call number run asked)) [
  | inl p ↦ rw p.0 (record {
    grows = record { later = asked ∷ []; parts = refl };
    outcome = record {
      calls = sym (take-length (run.calls ++ asked ∷ [])) ∙ ap (λ n. take n (run.calls ++ asked ∷ [])) p.1;
      above = let e = longer run asked in let same = p.1 in omega (arith, e, same);
      within = let same = p.1 in omega (arith, same);
    };
  })
  | inr p ↦ rw p.0 (record {
    grows = record { later = asked ∷ []; parts = refl };
    outcome = record { same = refl; outside = beside (length run.calls) (length (run.calls ++ asked ∷ [])) number (longer run asked) p.1 };
  })
]
  where
    beside : (a b n : ℕ) → b ≡ a + 1 → b ≢ n → (n ≤ a) ⊎ (b < n)
    beside a b n e differs = elim (cases_lt b n) [ inl over ↦ inr over | inr under ↦ elim (cases_lt a n) [ inl above ↦ absurd (differs (omega (arith, e, under, above))) | inr low ↦ inl low ] ]

write-follows : (number : ℕ) (run : CacheRun) (page : ℕ) →
    Follows itself number run (record { next = record run.next { stored = insert_key nat_cmp run.next.stored page }; calls = run.calls ++ call.Write page ∷ [] }) (try_write number run page)
write-follows number run page =
    and-then itself number run (record run { calls = run.calls ++ call.Write page ∷ [] })
    (λ made. record made { next = record made.next { stored = insert_key nat_cmp made.next.stored page } })
    (try_call number run (call.Write page)) refl (call-follows number run (call.Write page))

evict-follows : (number : ℕ) (run : CacheRun) (slot : Option Resident) → Follows itself number run (evict run slot) (try_evict number run slot)
evict-follows number run None = uncalled itself number run run refl
evict-follows number run (Some slot) =
    and-then itself number run (write_dirty run slot) (λ written. record written { next = without_last written.next })
    (if slot.is_dirty then try_write number run slot.page else Ok run) refl
    (choice itself number run _ run slot.is_dirty (write-follows number run slot.page) (uncalled itself number run run refl))

last-follows : (number : ℕ) (run : CacheRun) → Follows itself number run (evict_last run) (try_evict_last number run)
unfolding evict_last
last-follows number run = evict-follows number run (last_or None run.next.resident)

many-follows : (number count : ℕ) (run : CacheRun) → Follows itself number run (evict_many count run) (try_evict_many number count run)
many-follows number zero run = uncalled itself number run run refl
many-follows number (suc count) run =
    bind itself number run (evict_last run) (evict_many count (evict_last run)) (try_evict_last number run) (λ next. try_evict_many number count next)
    (last-follows number run) (many-follows number count (evict_last run))

read-or-not : (page : ℕ) (run : CacheRun) (stored : Bool) →
    (let read : CacheRun = if stored then record run { calls = run.calls ++ call.Read page ∷ [] } else run in
    let r : CacheRun = record read { next = record read.next { resident = record { page = page; is_dirty = false } ∷ read.next.resident } } in r)
    ≡ record {
      next = record run.next { resident = record { page = page; is_dirty = false } ∷ run.next.resident };
      calls = if stored then run.calls ++ call.Read page ∷ [] else run.calls;
    }
read-or-not page run true = refl
read-or-not page run false = refl

bring-follows : (number page : ℕ) (run : CacheRun) → Follows itself number run (bring_in page run) (try_bring_in number page run)
bring-follows number page run =
    let P : CacheRun → Type 0 = λ clear. Follows itself number run clear (try_bring_in number page run) in
    subst P (read-or-not page run (is_stored run.next page))
    (and-then itself number run (if is_stored run.next page then record run { calls = run.calls ++ call.Read page ∷ [] } else run)
    (λ read. record read { next = record read.next { resident = record { page = page; is_dirty = false } ∷ read.next.resident } })
    (if is_stored run.next page then try_call number run (call.Read page) else Ok run) refl
    (choice itself number run _ run (is_stored run.next page) (call-follows number run (call.Read page)) (uncalled itself number run run refl)))

touch-follows : (number : ℕ) (run : CacheRun) (page : ℕ) → Follows itself number run (touch run page) (try_touch number run page)
unfolding touch
touch-follows number run page = choice itself number run _ _ (is_resident run.next page)
    (uncalled itself number run (record run { next = move_to_front page run.next }) refl)
    (bind itself number run (if nat_le RESIDENT_PAGES (length run.next.resident) then evict_last run else run) _
    (if nat_le RESIDENT_PAGES (length run.next.resident) then try_evict_last number run else Ok run) (λ room. try_bring_in number page room)
    (choice itself number run (evict_last run) run (nat_le RESIDENT_PAGES (length run.next.resident)) (last-follows number run) (uncalled itself number run run refl))
    (bring-follows number page (if nat_le RESIDENT_PAGES (length run.next.resident) then evict_last run else run)))

edit-follows : (number : ℕ) (run : CacheRun) (page : ℕ) → Follows itself number run (touch_and_edit run page) (try_edit number run page)
edit-follows number run page =
    and-then itself number run (touch run page)
    (λ touched. record touched { next = record touched.next { resident = map (make_dirty page) touched.next.resident } })
    (try_touch number run page) refl (touch-follows number run page)

clean-follows : (number : ℕ) (run : CacheRun) (page : ℕ) → Follows itself number run (clear_clean run page) (try_clean number run page)
clean-follows number run page =
    and-then itself number run (record { next = record run.next { stored = insert_key nat_cmp run.next.stored page }; calls = run.calls ++ call.Write page ∷ [] })
    (λ written. record written { next = record written.next { resident = map (clean_page page) written.next.resident } })
    (try_write number run page) refl (write-follows number run page)

each-follows : (number : ℕ) (run : CacheRun) (pages : List ℕ) → Follows itself number run (fold clear_clean run pages) (try_each (try_clean number) run pages)
each-follows number run [] = uncalled itself number run run refl
each-follows number run (page ∷ pages) =
    bind itself number run (clear_clean run page) (fold clear_clean (clear_clean run page) pages) (try_clean number run page)
    (λ next. try_each (try_clean number) next pages) (clean-follows number run page) (each-follows number (clear_clean run page) pages)

back-follows : (number : ℕ) (run : CacheRun) → Follows itself number run (write_back run) (try_write_back number run)
back-follows number run =
    let P : CacheRun → Type 0 = λ clear. Follows itself number run clear (try_write_back number run) in
    subst P (fold-clean run) (each-follows number run (dirty_pages run.next))

reclaim-follows : (number : ℕ) (run : CacheRun) → Follows itself number run (reclaim run) (try_reclaim number run)
unfolding reclaim
reclaim-follows number run = many-follows number (length run.next.resident - RECLAIM_TARGET) run

end-follows : (number : ℕ) (run : CacheRun) (len : ℕ) → Follows itself number run (edit_end run len) (try_edit_end number run len)
end-follows number run len =
    choice itself number run (touch_and_edit run (len / PAGE_SIZE)) run
    (not (len % PAGE_SIZE == 0) && (is_resident run.next (len / PAGE_SIZE) || is_stored run.next (len / PAGE_SIZE)))
    (edit-follows number run (len / PAGE_SIZE)) (uncalled itself number run run refl)

truncate-follows : (number : ℕ) (run : CacheRun) (size len : ℕ) → Follows itself number run (truncate run size len) (try_truncate number run size len)
unfolding truncate
truncate-follows number run size len = choice itself number run _ run (nat_lt len size)
    (and-then itself number run (edit_end run len) (cut_pages ((len + PAGE_SIZE - 1) / PAGE_SIZE)) (try_edit_end number run len) refl (end-follows number run len))
    (uncalled itself number run run refl)

abbrev pub stopped_at : StoppedRun → CacheRun
stopped_at stopped = stopped.run

moved-follows : (number count : ℕ) (a b : CacheRun) (tried : Result CacheRun CacheRun) → Follows itself number a b tried →
    Follows stopped_at number a b (having_moved count tried)
moved-follows number count a b (Ok next) h = record { grows = h.grows; outcome = h.outcome }
moved-follows number count a b (Err left) h = record { grows = h.grows; outcome = h.outcome }

pages-follow : (number off : ℕ) (clear : CacheRun → ℕ → CacheRun) (try : CacheRun → ℕ → Result CacheRun CacheRun) →
    ((run : CacheRun) (page : ℕ) → Follows itself number run (clear run page) (try run page)) →
    (run : CacheRun) (pages : List ℕ) → Follows stopped_at number run (fold clear run pages) (try_pages try off run pages)
pages-follow number off clear try each run [] = uncalled stopped_at number run run refl
pages-follow number off clear try each run (page ∷ pages) =
    bind stopped_at number run (clear run page) (fold clear (clear run page) pages) (having_moved (bytes_before off page) (try run page))
    (λ next. try_pages try off next pages) (moved-follows number (bytes_before off page) run (clear run page) (try run page) (each run page))
    (pages-follow number off clear try each (clear run page) pages)

move-follows : (number : ℕ) (run : CacheRun) (size : ℕ) (asked : Step) (count : ℕ) →
    Follows stopped_at number run (cache_move run size asked count) (try_move number run size asked count)
move-follows number run size (step.Read id off len) count = pages-follow number off touch (try_touch number) (touch-follows number) run (pages_of off count)
move-follows number run size (step.Load id off len) count = pages-follow number off touch (try_touch number) (touch-follows number) run (pages_of off count)
move-follows number run size (step.Write id off piece) count = pages-follow number off touch_and_edit (try_edit number) (edit-follows number) run (pages_of off count)
move-follows number run size (step.Store id off piece) count = pages-follow number off touch_and_edit (try_edit number) (edit-follows number) run (pages_of off count)
move-follows number run size (step.Append id piece) count = pages-follow number size touch_and_edit (try_edit number) (edit-follows number) run (pages_of size count)
move-follows number run size (step.Trunc id len) count = moved-follows number 0 run _ (try_truncate number run size len) (truncate-follows number run size len)
move-follows number run size (step.Sync id) count = moved-follows number 0 run _ (try_write_back number run) (back-follows number run)
move-follows number run size (step.Flush row) count = moved-follows number 0 run _ (try_write_back number run) (back-follows number run)
move-follows number run size (step.Reclaim row) count = moved-follows number 0 run _ (try_reclaim number run) (reclaim-follows number run)
move-follows number run size _ count = uncalled stopped_at number run run refl

stopped-follows : (number : ℕ) (f : FileState) (cache : CacheState) (asked : Step) →
    Follows stopped_at number (begin_run cache) (row_run f cache asked) (stopped_run number f cache asked)
unfolding row_run stopped_run
stopped-follows number f cache asked = choice stopped_at number (begin_run cache) _ (begin_run cache) (is_on_cell f && is_ok (file_refusals f asked))
    (move-follows number (begin_run cache) (file_size f) asked (moved_count f asked)) (uncalled stopped_at number (begin_run cache) (begin_run cache) refl)

-- a call that fails stops its step exactly where the step makes it
pub failed-call-stops : (number : ℕ) (f : FileState) (cache : CacheState) (asked : Step) →
    MatchResult (stopped_run number f cache asked) (PassesCall number f cache asked) (StopsAtCall number f cache asked)
failed-call-stops number f cache asked = told (stopped_run number f cache asked) (stopped-follows number f cache asked)
  where
    told : (tried : Result CacheRun StoppedRun) → Follows stopped_at number (begin_run cache) (row_run f cache asked) tried →
        MatchResult tried (PassesCall number f cache asked) (StopsAtCall number f cache asked)
    told (Ok run) h = record { same = h.outcome.same; outside = h.outcome.outside }
    told (Err stopped) h = record { calls = h.outcome.calls; above = h.outcome.above; within = h.outcome.within }

-- a step of a row that is refused calls no device
pub refused-calls : (f : FileState) (cache : CacheState) (asked : Step) → is_err (file_refusals f asked) ≡ true → (row_run f cache asked).calls ≡ []
unfolding row_run
refused-calls f cache asked e = by (is_on_cell f) (file_refusals f asked) e
  where
    by : (on : Bool) (passed : Result (Unit {0}) Errno) → is_err passed ≡ true →
        (if on && is_ok passed then cache_move (begin_run cache) (file_size f) asked (moved_count f asked) else begin_run cache).calls ≡ []
    by true (Ok passed) g = absurd (cc)
    by true (Err errno) g = refl
    by false passed g = refl
