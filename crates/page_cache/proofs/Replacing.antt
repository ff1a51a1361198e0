-- A page comes in for which the last of 32 pages leaves.
use Rattle.std.specs.Prelude.{◌≡◌, ℕ, zero, suc, ◌-◌, ◌==◌, ◌||◌, Bool, true, false, IfSome, List, [], ◌∷◌, length, take, refl}
use Rattle.std.proofs.Common.{sym, ◌∙◌, ap, subst}
use Rattle.vfs_base.specs.declared.limits.TheConstants.{RESIDENT_PAGES}
use Rattle.vfs_model.specs.BlockDevice.{BlockDevice}
use Rattle.vfs_model.specs.PageList.{CachedPage, device_bytes}
use Rattle.page_cache.specs.AddressSpace.{AddressSpace, Completes, KeepsPages, Moment, RunsOut, SamePages, StopsAt, page_of, space_of, touching}
use Rattle.page_cache.specs.Framed.{AreCounted, SettlesEnd, changing, evicting, reading, then_way, writing_end}
use Rattle.page_cache.specs.Resident.{clean_page, holds_page}
use Rattle.page_cache.proofs.Bringing.{brought-in, brought-keeps}
use Rattle.page_cache.proofs.Pages.{same-then}
use Rattle.page_cache.proofs.Parts.{at, end-left, end-stopped, left-keeps, without_end}
use Rattle.page_cache.proofs.Runs.{Alike, completes-as, completes-then, runs-out, stops-as, stops-first, stops-then}
use Rattle.page_cache.proofs.Ways.{in_front, touched-full}

pub absent-taken : (page n : ℕ) (resident : List CachedPage) → holds_page resident page ≡ false → holds_page (take n resident) page ≡ false
absent-taken page zero resident h = refl
absent-taken page (suc n) [] h = refl
absent-taken page (suc n) (x ∷ resident) h = both (x.page == page) (holds_page resident page) h (absent-taken page n resident)
  where
    both : (s t : Bool) → (s || t) ≡ false → (t ≡ false → holds_page (take n resident) page ≡ false) → (s || holds_page (take n resident) page) ≡ false
    both true t e more = absurd (cc)
    both false t e more = more e

-- A page is not in memory, and 32 others are.
pub record IsFull (space : AddressSpace) (page : ℕ) : Type 0 where
  pub absent : holds_page space.resident page ≡ false
  pub full : length space.resident ≡ RESIDENT_PAGES

-- The last of the pages was written where it was dirty, for a page that is not in memory.
pub record MakesRoom (page : ℕ) (old middle : Moment) : Type 0 where
  pub full : IsFull old.space page
  pub counted : AreCounted middle.device.counts
  pub written : Completes writing_end old middle
  pub settles : SettlesEnd old middle
  pub resident : middle.space.resident ≡ old.space.resident

pub makes-room : {page : ℕ} {old middle : Moment} → holds_page old.space.resident page ≡ false → length old.space.resident ≡ RESIDENT_PAGES → AreCounted middle.device.counts →
    Completes writing_end old middle → SettlesEnd old middle → middle.space.resident ≡ old.space.resident → MakesRoom page old middle
makes-room absent full counted written settles resident =
    record { full = record { absent = absent; full = full }; counted = counted; written = written; settles = settles; resident = resident }

-- the pages of an address space, of which others are in memory
abbrev pub having : AddressSpace → List CachedPage → AddressSpace
having a resident = record a { resident = resident }

-- a way to an end and then to another, for each list of pages in memory
abbrev pub ReadBy : (Moment → Moment → Type 0) → AddressSpace → BlockDevice → BlockDevice → Type 0
ReadBy P a x y = (resident : List CachedPage) → P (at (having a resident) x) (at (having a resident) y)

touched-as : (page : ℕ) (old : Moment) → IsFull old.space page → Alike (touching page) (then_way evicting (then_way (reading page) (changing (in_front page)))) old
touched-as page old h = touched-full old page h.absent h.full

gone : (page : ℕ) (old middle : Moment) (a : AddressSpace) → a ≡ middle.space → MakesRoom page old middle → Completes evicting old (at (without_end a) middle.device)
gone page old middle a is h = end-left old middle (without_end a) h.counted h.written (ap without_end is)

-- the write of the last page failed
pub full-kept : (page : ℕ) (old new : Moment) → IsFull old.space page → StopsAt writing_end old new → StopsAt (touching page) old new
full-kept page old new h stopped =
    stops-as (touching page) (then_way evicting (then_way (reading page) (changing (in_front page)))) old new (touched-as page old h)
    (stops-first evicting (then_way (reading page) (changing (in_front page))) old new (end-stopped old.space new.space old.device new.device stopped))

-- the last page has left, and the read failed
pub full-unread : (page : ℕ) (old middle new : Moment) (a : AddressSpace) → a ≡ middle.space → MakesRoom page old middle → ReadBy (StopsAt (reading page)) a middle.device new.device →
    new.space ≡ without_end a → StopsAt (touching page) old new
full-unread page old middle new a is h stopped left =
    subst (λ s. StopsAt (touching page) old (at s new.device)) (sym left)
    (stops-as (touching page) (then_way evicting (then_way (reading page) (changing (in_front page)))) old (at (without_end a) new.device) (touched-as page old h.full)
    (stops-then evicting (then_way (reading page) (changing (in_front page))) old (at (without_end a) middle.device) (at (without_end a) new.device) (gone page old middle a is h)
    (stops-first (reading page) (changing (in_front page)) (at (without_end a) middle.device) (at (without_end a) new.device) (stopped (without_end a).resident))))

-- the last page has left, and the other stands in front
pub full-touched : (page : ℕ) (bytes : List ℕ) (old middle new : Moment) (a : AddressSpace) → a ≡ middle.space → MakesRoom page old middle →
    AreCounted new.device.counts × ReadBy (Completes (reading page)) a middle.device new.device × (new.space ≡ having a (clean_page page bytes ∷ (without_end a).resident)) →
    Completes (touching page) old new
full-touched page bytes old middle new a is h read =
    completes-as (touching page) (then_way evicting (then_way (reading page) (changing (in_front page)))) old new (touched-as page old h.full)
    (completes-then evicting (then_way (reading page) (changing (in_front page))) old (at (without_end a) middle.device) new (gone page old middle a is h)
    (brought-in (without_end a) new.space page bytes middle.device new.device read.0 (read.1 (without_end a).resident) read.2))

-- memory was wanting for its place
pub full-out : (page : ℕ) (old middle new : Moment) (a : AddressSpace) → a ≡ middle.space → MakesRoom page old middle →
    AreCounted new.device.counts × ReadBy (Completes (reading page)) a middle.device new.device → RunsOut (touching page) old new
full-out page old middle new a is h read =
    let hoped : Moment = at (having a (clean_page page [] ∷ (without_end a).resident)) new.device in
    let out = runs-out (touching page) old hoped (full-touched page [] old middle hoped a is h (read.0, read.1, refl)) in
    record { made = out.made; later = out.later; calls = out.calls; front = out.front }

-- the pages stay the same when the last one left, and the device was called once more
pub gone-keeps : (old middle new : Moment) (a : AddressSpace) → a ≡ middle.space → SettlesEnd old middle → new.space ≡ without_end a → new.device.contents ≡ middle.device.contents →
    KeepsPages old new
gone-keeps old middle new a is settles left contents = λ told tells current.
    let same = left-keeps old middle new.space settles (left ∙ ap without_end is) told tells current in
    (same.0, contents ∙ same.1, same.2)

-- the pages stay the same when the last one left, and another came in as the device has it
pub replaced-keeps : (page : ℕ) (bytes : List ℕ) (old middle new : Moment) (a : AddressSpace) → a ≡ middle.space → MakesRoom page old middle →
    ((resident : List CachedPage) → IfSome middle.device.contents (λ told. bytes ≡ device_bytes (space_of (having a resident)) (page_of told) page))
    × (new.device.contents ≡ middle.device.contents) × (new.space ≡ having a (clean_page page bytes ∷ (without_end a).resident)) →
    KeepsPages old new
replaced-keeps page bytes old middle new a is h read = λ told tells current.
    let same = left-keeps old middle (without_end a) h.settles (ap without_end is) told tells current in
    let there : holds_page a.resident page ≡ false = ap (λ (s : AddressSpace). holds_page s.resident page) is ∙ ap (λ (xs : List CachedPage). holds_page xs page) h.resident ∙ h.full.absent in
    let absent = absent-taken page (length a.resident - 1) a.resident there in
    let loaded = subst (λ o. IfSome o (λ pages. bytes ≡ device_bytes (space_of (without_end a)) (page_of pages) page)) same.1 (read.0 (without_end a).resident) in
    let whole : SamePages (without_end a) new.space same.0 same.0 = brought-keeps (without_end a) new.space page bytes same.0 absent read.2 loaded same.2.current in
    (same.0, read.1 ∙ same.1, same-then old.space (without_end a) new.space told same.0 same.0 same.2 whole)
