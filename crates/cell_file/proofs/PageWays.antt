-- The pages of a transfer, one after the other: the first is done or stops it, and then come the others.
use Rattle.std.specs.Prelude.{◌≡◌, ℕ, ◌+◌, ◌<◌, Bool, true, false, nat_le, Option, Some, None, List, [], ◌∷◌, ◌++◌, length, fold, Result, Ok, Err, refl, if◌then◌else◌}
use Rattle.std.proofs.Common.{sym, ◌∙◌, ap, subst, arith}
use Rattle.std.proofs.lemmas.List.{append-nil, append_assoc, length-append}
use Rattle.std.specs.BTreeSet.{insert_key}
use Rattle.std.specs.List.{last_or}
use Rattle.std.specs.Ordering.{nat_cmp}
use Rattle.vfs_base.specs.declared.limits.TheConstants.{RESIDENT_PAGES}
use Rattle.vfs_base.specs.declared.entry.Mark.{Mark}
use Rattle.vfs_base.specs.declared.entry.Mark.TheVariants as mark
use Rattle.vfs_model.specs.Cache.{CacheRun, bring_in, evict, evict_last, is_resident, is_stored, move_to_front, touch, touch_and_edit, write_dirty}
use Rattle.vfs_model.specs.FailedCalls.{◌>>=◌, StoppedRun, bytes_before, having_moved, try_pages}
use Rattle.vfs_model.specs.declared.cache.DeviceCall.{DeviceCall}
use Rattle.vfs_model.specs.declared.cache.DeviceCall.TheVariants as call
use Rattle.vfs_model.specs.declared.cache.Resident.{Resident}
use Rattle.page_cache.specs.AddressSpace.{Completes, Moment, RunsOut, Stops, StopsAt, run_behind}
use Rattle.page_cache.specs.Framed.{AreCounted}
use Rattle.page_cache.specs.declared.cache_fault.CacheFault.{CacheFault}
use Rattle.page_cache.specs.declared.cache_fault.CacheFault.TheVariants as fault
use Rattle.page_cache.proofs.Calls.{none-made}
use Rattle.page_cache.proofs.Runs.{made-then}
use Rattle.cell_file.specs.Moves.{Passes, Runs, RunsShort, StepWay, StopsAfter, each_way, mark_of, page_way}
use Rattle.cell_file.specs.Parts.{RestsOf}

-- calls behind others
abbrev pub IsBehind : List DeviceCall → List DeviceCall → Type 0
IsBehind calls longer = (later : List DeviceCall) × (longer ≡ calls ++ later)

-- what is done with a page makes calls behind those that were made
abbrev pub Grows : (CacheRun → ℕ → CacheRun) → Type 0
Grows clear = (run : CacheRun) (page : ℕ) → IsBehind run.calls (clear run page).calls

behind-itself : (calls : List DeviceCall) → IsBehind calls calls
behind-itself calls = ([], sym (append-nil calls))

behind-then : (a b c : List DeviceCall) → IsBehind a b → IsBehind b c → IsBehind a c
behind-then a b c h k = (h.0 ++ k.0, k.1 ∙ ap (λ calls. calls ++ k.0) h.1 ∙ append_assoc a h.0 k.0)

pub grown-pages : (clear : CacheRun → ℕ → CacheRun) → Grows clear → (pages : List ℕ) (run : CacheRun) → IsBehind run.calls (fold clear run pages).calls
grown-pages clear grows [] run = behind-itself run.calls
grown-pages clear grows (page ∷ pages) run =
    behind-then run.calls (clear run page).calls (fold clear (clear run page) pages).calls (grows run page) (grown-pages clear grows pages (clear run page))

-- the first page is stopped, and the others with it
pub page-stops : (clear : CacheRun → ℕ → CacheRun) (tried : ℕ → CacheRun → ℕ → Result CacheRun CacheRun) (off page : ℕ) (pages : List ℕ) (a b : Moment) →
    StopsAt (page_way clear tried page) a b → StopsAfter (bytes_before off page) (each_way clear tried off (page ∷ pages)) a b
page-stops clear tried off page pages a b h = record {
  made = h.made;
  failed = h.failed;
  calls = h.calls;
  stopped = λ e. ap (λ (t : Result CacheRun CacheRun). having_moved (bytes_before off page) t >>= λ next. try_pages (tried (length (e ++ h.made) + 1)) off next pages) (h.stopped e);
}

-- memory is wanting for the first page
pub page-short : (clear : CacheRun → ℕ → CacheRun) (tried : ℕ → CacheRun → ℕ → Result CacheRun CacheRun) → Grows clear → (off page : ℕ) (pages : List ℕ) (a b : Moment) →
    RunsOut (page_way clear tried page) a b → RunsShort (each_way clear tried off (page ∷ pages)) a b
page-short clear tried grows off page pages a b h = record {
  made = h.made;
  calls = h.calls;
  front = λ e.
      let first = clear (run_behind e a) page in
      behind-then (e ++ h.made) first.calls (fold clear first pages).calls (h.later, h.front e) (grown-pages clear grows pages first);
}

-- the first page is done, and the others are left
pub page-rests : (clear : CacheRun → ℕ → CacheRun) (tried : ℕ → CacheRun → ℕ → Result CacheRun CacheRun) (off page : ℕ) (pages : List ℕ) (a b : Moment) →
    Completes (page_way clear tried page) a b → RestsOf (each_way clear tried off (page ∷ pages)) a (each_way clear tried off pages) b
page-rests clear tried off page pages a b done = record {
  passes = λ c h. record {
    made = done.made ++ h.made;
    calls = made-then done.made h.made [] a.device b.device c.device done.calls h.calls;
    clear = λ e. ap (λ run. fold clear run pages) (done.clear e) ∙ h.clear (e ++ done.made) ∙ ap (λ calls. run_behind calls c) (append_assoc e done.made h.made);
    tried = λ n e low.
        let whole = lengths e done.made h.made in
        let both = length-append (e ++ done.made) h.made in
        after-first n e (omega (arith, whole, low)) ∙ h.tried n (e ++ done.made) (omega (arith, whole, both, low))
        ∙ ap (λ calls. let r : Result CacheRun StoppedRun = Ok (run_behind calls c) in r) (append_assoc e done.made h.made);
  };
  stops = λ moved c h. record {
    made = done.made ++ h.made;
    failed = h.failed;
    calls = made-then done.made h.made (h.failed ∷ []) a.device b.device c.device done.calls h.calls;
    stopped = λ e.
        let n : ℕ = length (e ++ (done.made ++ h.made)) + 1 in
        let whole = lengths e done.made h.made in
        let P : List DeviceCall → Type 0 = λ calls. try_pages (tried (length calls + 1)) off (run_behind (e ++ done.made) b) pages
        ≡ Err (record { moved = moved; run = run_behind (calls ++ h.failed ∷ []) c }) in
        after-first n e (omega (arith, whole)) ∙ subst P (append_assoc e done.made h.made) (h.stopped (e ++ done.made));
  };
  short = λ c h. record {
    made = done.made ++ h.made;
    calls = made-then done.made h.made [] a.device b.device c.device done.calls h.calls;
    front = λ e.
        let left = h.front (e ++ done.made) in
        (left.0, ap (λ run. (fold clear run pages).calls) (done.clear e) ∙ left.1 ∙ ap (λ calls. calls ++ left.0) (append_assoc e done.made h.made));
  };
}
  where
    lengths : (e x y : List DeviceCall) → length (e ++ (x ++ y)) ≡ length (e ++ x) + length y
    lengths e x y = ap length (sym (append_assoc e x y)) ∙ length-append (e ++ x) y

    after-first : (n : ℕ) (e : List DeviceCall) → length (e ++ done.made) < n →
        try_pages (tried n) off (run_behind e a) (page ∷ pages) ≡ try_pages (tried n) off (run_behind (e ++ done.made) b) pages
    after-first n e low =
        ap (λ (t : Result CacheRun CacheRun). having_moved (bytes_before off page) t >>= λ next. try_pages (tried n) off next pages) (done.tried n e low)

-- what rests of the rest is the rest of the whole
pub rests-further : (whole first second : StepWay) (a b c : Moment) → RestsOf whole a first b → RestsOf first b second c → RestsOf whole a second c
rests-further whole first second a b c h k = record {
  passes = λ new p. h.passes new (k.passes new p);
  stops = λ moved new p. h.stops moved new (k.stops moved new p);
  short = λ new p. h.short new (k.short new p);
}

pub rests-all : (whole : StepWay) (a : Moment) → RestsOf whole a whole a
rests-all whole a = record { passes = λ new p. p; stops = λ moved new p. p; short = λ new p. p }

-- no page is left
pub pages-done : (clear : CacheRun → ℕ → CacheRun) (tried : ℕ → CacheRun → ℕ → Result CacheRun CacheRun) (off : ℕ) (m : Moment) → AreCounted m.device.counts →
    Passes (each_way clear tried off []) m m
pages-done clear tried off m small = record {
  made = [];
  calls = none-made m.device m.device small refl;
  clear = λ e. ap (λ calls. run_behind calls m) (sym (append-nil e));
  tried = λ n e low. ap (λ calls. let r : Result CacheRun StoppedRun = Ok (run_behind calls m) in r) (sym (append-nil e));
}

grown-either : (t : Bool) (run a b : CacheRun) → IsBehind run.calls a.calls → IsBehind run.calls b.calls → IsBehind run.calls (if t then a else b).calls
grown-either true run a b h k = h
grown-either false run a b h k = k

grown-write : (run : CacheRun) (slot : Resident) → IsBehind run.calls (write_dirty run slot).calls
grown-write run slot = grown-either slot.is_dirty run
    (record { next = record run.next { stored = insert_key nat_cmp run.next.stored slot.page }; calls = run.calls ++ call.Write slot.page ∷ [] })
    run (call.Write slot.page ∷ [], refl) (behind-itself run.calls)

grown-evict : (run : CacheRun) (o : Option Resident) → IsBehind run.calls (evict run o).calls
grown-evict run None = behind-itself run.calls
grown-evict run (Some slot) = grown-write run slot

grown-bring : (page : ℕ) (run : CacheRun) → IsBehind run.calls (bring_in page run).calls
grown-bring page run = elim (is_stored run.next page) as (λ t. IsBehind run.calls (if t then run.calls ++ call.Read page ∷ [] else run.calls)) [
  | true ↦ (call.Read page ∷ [], refl)
  | false ↦ behind-itself run.calls
]

grown-room : (t : Bool) (run : CacheRun) → IsBehind run.calls (if t then evict_last run else run).calls
unfolding evict_last
grown-room true run = grown-evict run (last_or None run.next.resident)
grown-room false run = behind-itself run.calls

pub grown-touch : Grows touch
unfolding touch
grown-touch run page =
    let room : CacheRun = if nat_le RESIDENT_PAGES (length run.next.resident) then evict_last run else run in
    grown-either (is_resident run.next page) run (record run { next = move_to_front page run.next }) (bring_in page room) (behind-itself run.calls)
    (behind-then run.calls room.calls (bring_in page room).calls (grown-room (nat_le RESIDENT_PAGES (length run.next.resident)) run) (grown-bring page room))

pub grown-edit : Grows touch_and_edit
grown-edit run page = grown-touch run page

-- what ends the rest ends the whole
pub runs-of : (whole rest : StepWay) (a b c : Moment) (m : Mark) → RestsOf whole a rest b → Runs rest b c m → Runs whole a c m
runs-of whole rest a b c mark.Clear h r = h.passes c r
runs-of whole rest a b c (mark.Fault moved) h r = h.stops moved c r
runs-of whole rest a b c (mark.NoMem moved) h r = h.short c r

-- what stops the first page stops the pages
pub page-stopped : (clear : CacheRun → ℕ → CacheRun) (tried : ℕ → CacheRun → ℕ → Result CacheRun CacheRun) → Grows clear → (off page : ℕ) (pages : List ℕ) (a b : Moment) (why : CacheFault) →
    Stops (page_way clear tried page) a b why → Runs (each_way clear tried off (page ∷ pages)) a b (mark_of why (bytes_before off page))
page-stopped clear tried grows off page pages a b fault.DeviceFault h = page-stops clear tried off page pages a b h
page-stopped clear tried grows off page pages a b fault.NoMemory h = page-short clear tried grows off page pages a b h
