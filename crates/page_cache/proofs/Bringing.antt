-- A page comes in that was not in memory.
use Rattle.std.specs.Prelude.{◌≡◌, ℕ, ◌<◌, ◌||◌, Bool, true, false, List, [], ◌∷◌, ◌++◌, length, refl, if◌then◌else◌}
use Rattle.std.proofs.Common.{sym, ◌∙◌, ap, subst}
use Rattle.std.proofs.lemmas.List.{append-nil}
use Rattle.vfs_base.specs.declared.limits.TheConstants.{RESIDENT_PAGES}
use Rattle.vfs_model.specs.BlockDevice.{BlockDevice}
use Rattle.vfs_model.specs.Cache.{CacheRun, is_stored}
use Rattle.vfs_model.specs.PageList.{CachedPage, device_bytes}
use Rattle.vfs_model.specs.declared.cache.DeviceCall.{DeviceCall}
use Rattle.vfs_model.specs.declared.cache.DeviceCall.TheVariants as call
use Rattle.page_cache.specs.AddressSpace.{AddressSpace, Completes, IsCurrent, Moment, RunsOut, SamePages, StopsAt, cache_in, page_of, space_of, touching}
use Rattle.page_cache.specs.Framed.{AreCounted, changing, reading, then_way}
use Rattle.page_cache.specs.Resident.{clean_page, holds_page}
use Rattle.page_cache.proofs.Calls.{none-made}
use Rattle.page_cache.proofs.Found.{alike}
use Rattle.page_cache.proofs.Pages.{added-same}
use Rattle.page_cache.proofs.Runs.{completes-as, completes-change, completes-then, runs-out, stops-as, stops-first}
use Rattle.page_cache.proofs.Ways.{in_front, touched-room}

-- the page was read, where it is stored, and stands in front
pub brought-in : (middle after : AddressSpace) (page : ℕ) (bytes : List ℕ) (x y : BlockDevice) → AreCounted y.counts →
    Completes (reading page) (record { space = middle; device = x }) (record { space = middle; device = y }) →
    after ≡ record middle { resident = clean_page page bytes ∷ middle.resident } →
    Completes (then_way (reading page) (changing (in_front page))) (record { space = middle; device = x }) (record { space = after; device = y })
brought-in middle after page bytes x y small read new =
    let mid : Moment = record { space = middle; device = y } in
    let end : Moment = record { space = after; device = y } in
    completes-then (reading page) (changing (in_front page)) (record { space = middle; device = x }) mid end read
    (completes-change mid end (in_front page) small refl (ap cache_in new))

-- there was room
pub room-touched : (old new : Moment) (page : ℕ) (bytes : List ℕ) → AreCounted new.device.counts → holds_page old.space.resident page ≡ false → length old.space.resident < RESIDENT_PAGES →
    Completes (reading page) old (record { space = old.space; device = new.device }) → new.space ≡ record old.space { resident = clean_page page bytes ∷ old.space.resident } →
    Completes (touching page) old new
room-touched old new page bytes small absent room read more =
    completes-as (touching page) (then_way (reading page) (changing (in_front page))) old new (touched-room old page absent room)
    (brought-in old.space new.space page bytes old.device new.device small read more)

pub room-stopped : (before after : AddressSpace) (page : ℕ) (x y : BlockDevice) → holds_page before.resident page ≡ false → length before.resident < RESIDENT_PAGES →
    StopsAt (reading page) (record { space = before; device = x }) (record { space = after; device = y }) → StopsAt (touching page) (record { space = before; device = x }) (record { space = after; device = y })
room-stopped before after page x y absent room stopped =
    let old : Moment = record { space = before; device = x } in
    let new : Moment = record { space = after; device = y } in
    stops-as (touching page) (then_way (reading page) (changing (in_front page))) old new (touched-room old page absent room) (stops-first (reading page) (changing (in_front page)) old new stopped)

-- memory was wanting behind the read
pub room-out : (before after : AddressSpace) (page : ℕ) (x y : BlockDevice) → AreCounted y.counts → holds_page before.resident page ≡ false → length before.resident < RESIDENT_PAGES →
    Completes (reading page) (record { space = before; device = x }) (record { space = before; device = y }) → RunsOut (touching page) (record { space = before; device = x }) (record { space = after; device = y })
room-out before after page x y small absent room read =
    let whole = room-touched (record { space = before; device = x }) (record { space = record before { resident = clean_page page [] ∷ before.resident }; device = y }) page [] small absent room read refl in
    let out = runs-out (touching page) (record { space = before; device = x }) (record { space = record before { resident = clean_page page [] ∷ before.resident }; device = y }) whole in
    record { made = out.made; later = out.later; calls = out.calls; front = out.front }

-- memory was wanting before any call
pub room-unbegun : (before : AddressSpace) (page : ℕ) (x : BlockDevice) → AreCounted x.counts → holds_page before.resident page ≡ false → length before.resident < RESIDENT_PAGES →
    RunsOut (touching page) (record { space = before; device = x }) (record { space = before; device = x })
room-unbegun before page x small absent room =
    let old : Moment = record { space = before; device = x } in
    let same = touched-room old page absent room in
    record {
      made = [];
      later = if is_stored (cache_in before) page then call.Read page ∷ [] else [];
      calls = none-made x x small refl;
      front = λ e. ap (λ (run : CacheRun). run.calls) (same.clear e) ∙ by (is_stored (cache_in before) page) e;
    }
  where
    by : (t : Bool) (e : List DeviceCall) →
        (let r : CacheRun = if t then record { next = cache_in before; calls = e ++ call.Read page ∷ [] } else record { next = cache_in before; calls = e } in r).calls
        ≡ (e ++ []) ++ (if t then call.Read page ∷ [] else [])
    by true e = ap (λ calls. calls ++ call.Read page ∷ []) (sym (append-nil e))
    by false e = sym (append-nil e) ∙ sym (append-nil (e ++ []))

-- a page that came in is in memory
pub brought-there : (page : ℕ) (bytes : List ℕ) (resident rest : List CachedPage) → resident ≡ clean_page page bytes ∷ rest → holds_page resident page ≡ true
brought-there page bytes resident rest new = ap (λ xs. holds_page xs page) new ∙ ap (λ t. t || holds_page rest page) (alike page)

-- the pages stay the same when one comes in as the device has it
pub brought-keeps : (before after : AddressSpace) (page : ℕ) (bytes : List ℕ) (told : List (List ℕ)) → holds_page before.resident page ≡ false →
    after ≡ record before { resident = clean_page page bytes ∷ before.resident } → bytes ≡ device_bytes (space_of before) (page_of told) page → IsCurrent before told →
    SamePages before after told told
brought-keeps before after page bytes told absent new are current =
    subst (λ t. SamePages before t told told) (sym new) (added-same before page bytes told absent are current)
