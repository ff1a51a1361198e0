-- The parts of a transfer, page by page. No public clause cites this module.
use Rattle.std.specs.Prelude.{◌≡◌, ℕ, ◌+◌, ◌-◌, ◌*◌, ◌/◌, ◌%◌, ◌<◌, ◌==◌, ◌&&◌, ◌||◌, Bool, not, Some, List, ◌++◌, length, take, drop, replicate, max}
use Rattle.vfs_base.specs.declared.entry.Mark.{Mark}
use Rattle.vfs_base.specs.declared.entry.Mark.TheVariants as mark
use Rattle.vfs_base.specs.declared.limits.TheConstants.{PAGE_SIZE}
use Rattle.vfs_model.specs.Cache.{is_resident, is_stored}
use Rattle.vfs_model.specs.FailedCalls.{bytes_before}
use Rattle.page_cache.specs.AddressSpace.{AddressSpace, KeepsPages, Moment, cache_in}
use Rattle.page_cache.specs.Resident.{spliced}
use Rattle.cell_file.specs.CellFile.{IsWhole, all_bytes, moved_under}
use Rattle.cell_file.specs.Moves.{Passes, RunsShort, StepWay, StopsAfter}

-- a transfer of so many bytes from an offset on has bytes in the page
pub record MeetsPage (off count page : ℕ) : Type 0 where
  pub begins : PAGE_SIZE * page < off + count
  pub ends : off < PAGE_SIZE * page + PAGE_SIZE

-- the bytes of a piece from an offset on that lie in the page
abbrev pub part_in : ℕ → ℕ → List ℕ → List ℕ
part_in page off piece = drop (bytes_before off page) (take (bytes_before off (page + 1)) piece)

-- the first bytes of the cell's, from an offset on, stand in a list of so many
abbrev pub HasRead : ℕ → ℕ → List ℕ → List ℕ → Type 0
HasRead off done out bytes = take done out ≡ take done (take (length out) (drop off bytes))

-- the bytes up to a page were read; then those up to the next one are
abbrev pub ReadsPage : ℕ → ℕ → List ℕ → List ℕ → Moment → Type 0
ReadsPage off page before after old =
    (told : List (List ℕ)) → old.device.contents ≡ Some told → IsWhole old.space told →
    HasRead off (bytes_before off page) before (all_bytes old.space told) → HasRead off (bytes_before off (page + 1)) after (all_bytes old.space told)

-- the bytes of the piece that lie in the page stand there
abbrev pub EditsPage : ℕ → ℕ → List ℕ → Moment → Moment → Type 0
EditsPage off page piece old new =
    (told : List (List ℕ)) → old.device.contents ≡ Some told → IsWhole old.space told →
    (now : List (List ℕ)) × (new.device.contents ≡ Some now) × IsWhole new.space now
    × (all_bytes new.space now ≡ spliced (max off (PAGE_SIZE * page)) (part_in page off piece) (all_bytes old.space told))

-- the first bytes of a piece stand in the cell's, from an offset on
abbrev pub EditsBytes : ℕ → List ℕ → Moment → Moment → Type 0
EditsBytes off piece old new =
    (told : List (List ℕ)) → old.device.contents ≡ Some told → IsWhole old.space told →
    (now : List (List ℕ)) × (new.device.contents ≡ Some now) × IsWhole new.space now
    × (all_bytes new.space now ≡ spliced off piece (all_bytes old.space told))

-- the first bytes of the piece that a transfer with this mark has moved stand in the cell's
abbrev pub EditsUnder : ℕ → List ℕ → Mark → Moment → Moment → Type 0
EditsUnder off piece mark old new = EditsBytes off (take (moved_under mark (length piece)) piece) old new

-- what a transfer to `out` has read that ended with this mark
abbrev pub Reads : ℕ → Mark → List ℕ → Moment → Type 0
Reads off mark out old =
    (told : List (List ℕ)) → old.device.contents ≡ Some told → IsWhole old.space told →
    HasRead off (moved_under mark (length out)) out (all_bytes old.space told)

-- a file of this length ends within a page that is in memory or on the device
abbrev pub has_end : ℕ → AddressSpace → Bool
has_end len a = not (len % PAGE_SIZE == 0) && (is_resident (cache_in a) (len / PAGE_SIZE) || is_stored (cache_in a) (len / PAGE_SIZE))

-- how many bytes lie in the pages that a file of this length needs
abbrev pub page_end : ℕ → ℕ
page_end len = PAGE_SIZE * ((len + PAGE_SIZE - 1) / PAGE_SIZE)

-- from a length on there are zeros in the page where it lies, and else all is as before
abbrev pub ClearsEnd : ℕ → Moment → Moment → Type 0
ClearsEnd len old new =
    (told : List (List ℕ)) → old.device.contents ≡ Some told → IsWhole old.space told →
    (now : List (List ℕ)) × (new.device.contents ≡ Some now) × IsWhole new.space now
    × (take (page_end len) (all_bytes new.space now) ≡ take len (all_bytes old.space told) ++ replicate (page_end len - len) 0)

-- from a length on there are zeros
abbrev pub CutsBytes : ℕ → Moment → Moment → Type 0
CutsBytes len old new =
    (told : List (List ℕ)) → old.device.contents ≡ Some told → IsWhole old.space told →
    (now : List (List ℕ)) × (new.device.contents ≡ Some now) × IsWhole new.space now
    × (all_bytes new.space now ≡ take len (all_bytes old.space told) ++ replicate (length (all_bytes old.space told) - len) 0)

-- the bytes are cut to a length, or as before where that was stopped
abbrev pub CutsUnder : Mark → ℕ → Moment → Moment → Type 0
CutsUnder mark.Clear len old new = CutsBytes len old new
CutsUnder (mark.Fault moved) len old new = KeepsPages old new
CutsUnder (mark.NoMem moved) len old new = KeepsPages old new

-- A way for the rest ends the whole as it ends itself.
pub record RestsOf (whole : StepWay) (old : Moment) (rest : StepWay) (now : Moment) : Type 0 where
  pub passes : (new : Moment) → Passes rest now new → Passes whole old new
  pub stops : (moved : ℕ) (new : Moment) → StopsAfter moved rest now new → StopsAfter moved whole old new
  pub short : (new : Moment) → RunsShort rest now new → RunsShort whole old new
