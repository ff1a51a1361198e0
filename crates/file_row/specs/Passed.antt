-- What a step does that its row does not refuse. No public clause cites this module.
use Rattle.std.specs.Prelude.{◌≡◌, ℕ, ◌+◌, ◌==◌, Bool, true, ◌&&◌, ◌||◌, nat_lt, List, Result, IfSome, length, min, take, drop, if◌then◌else◌}
use Rattle.vfs_base.specs.declared.entry.Mark.{Mark}
use Rattle.vfs_base.specs.declared.entry.Mark.TheVariants as mark
use Rattle.vfs_base.specs.declared.errno.Errno.{Errno}
use Rattle.vfs_base.specs.declared.errno.Errno.TheVariants as errno
use Rattle.vfs_base.specs.declared.kinds.Kind.{Kind}
use Rattle.vfs_base.specs.declared.kinds.Kind.TheVariants as kind
use Rattle.vfs_base.specs.declared.limits.TheConstants.{TMP_FILE_MAX}
use Rattle.vfs_base.specs.declared.reply.Reply.{Reply}
use Rattle.vfs_base.specs.declared.reply.Reply.TheVariants as reply
use Rattle.vfs_base.specs.declared.step.Step.{Step}
use Rattle.vfs_model.specs.Cache.{cache_move}
use Rattle.vfs_model.specs.FailedCalls.{try_move}
use Rattle.vfs_model.specs.FileMoves.{is_on_cell, is_on_device, move, stopped_step}
use Rattle.vfs_model.specs.FileStep.{FileOutcome, absent_refusals, bytes_count, bytes_refusals, count_of, device_refusals, written_at}
use Rattle.vfs_model.specs.declared.world.FileState.{FileState}
use Rattle.vfs_outside.specs.Chars.{CharsContents, behind_read, behind_write}
use Rattle.file_steps.specs.Moving.{MovesBytes}
use Rattle.page_cache.specs.Framed.{AreCounted}
use Rattle.cell_file.specs.CellFile.{CellFile, IsCellFile, capacity, is_within, moved_under, told_bytes}
use Rattle.cell_file.specs.Moves.{Runs, StepWay, editing_pages, reading_pages}
use Rattle.file_row.specs.Row.{CharsState, RowFile, Unbound, Tmp, Rom, Cell, Char}
use Rattle.file_row.specs.Steps.{MayHave}

-- what a file refuses that the step names
abbrev pub file_refuses : RowFile → Step → Result (Unit {0}) Errno
file_refuses Unbound asked = absent_refusals asked
file_refuses (Tmp bytes) asked = bytes_refusals kind.Tmp TMP_FILE_MAX (length bytes) asked
file_refuses (Rom bytes) asked = bytes_refusals kind.Rom (length bytes) (length bytes) asked
file_refuses (Cell f) asked = bytes_refusals kind.Cell (capacity f) f.size asked
file_refuses (Char device) asked = device_refusals asked

-- the answer to a step that was stopped before it moved a byte, or this one
abbrev pub unless_none : ℕ → Errno → Reply → Reply
unless_none moved errno answer = if moved == 0 then reply.Refused errno else answer

-- the answer to a step under its mark, where it moved something
abbrev pub answer_under : Mark → Reply → Reply
answer_under mark.Clear answer = answer
answer_under (mark.Fault moved) answer = unless_none moved errno.EIO answer
answer_under (mark.NoMem moved) answer = unless_none moved errno.ENOMEM answer

-- what a step that is not refused does under its mark
abbrev pub passed_step : FileState → Step → Mark → FileOutcome
passed_step f asked mark.Clear = move f asked (count_of f asked)
passed_step f asked (mark.Fault moved) = stopped_step f asked errno.EIO moved
passed_step f asked (mark.NoMem moved) = stopped_step f asked errno.ENOMEM moved

-- a mark that a step may have that is not refused
abbrev pub may_stop : FileState → Step → Mark → Bool
may_stop f asked mark.Clear = true
may_stop f asked (mark.Fault moved) = (moved == 0 || nat_lt moved (count_of f asked)) && is_on_device f
may_stop f asked (mark.NoMem moved) = (moved == 0 || nat_lt moved (count_of f asked)) && (moved == 0 || is_on_cell f)

-- a step that is not refused, in a row of this generation
pub record Takes (generation : ℕ) (old new : RowFile) (asked : Step) (answer : Reply) (m : Mark) : Type 0 where
  pub before : FileState
  pub has : MayHave (record { generation = generation; file = old }) before
  pub stops : may_stop before asked m ≡ true
  pub answers : answer ≡ (passed_step before asked m).reply
  pub leaves : MayHave (record { generation = generation; file = new }) (passed_step before asked m).next

-- the way of a step through a cell's pages
abbrev pub way_of : ℕ → Step → ℕ → StepWay
way_of size asked count = record {
  clear = λ run. cache_move run size asked count;
  tried = λ number run. try_move number run size asked count;
}

-- the bytes that a file on a cell may have
pub record MayHold (f : CellFile) (bytes : List ℕ) : Type 0 where
  pub size : length bytes ≡ f.size
  pub told : IfSome (told_bytes f) (λ told. bytes ≡ told)

-- what is left where a step was stopped at none, or else
abbrev pub left_under : {X : Type 0} → Mark → X → X → X
left_under mark.Clear before after = after
left_under (mark.Fault moved) before after = if moved == 0 then before else after
left_under (mark.NoMem moved) before after = if moved == 0 then before else after

-- A transfer of so many bytes on a cell: what it answers where it moved so many, and what the file's bytes become then.
pub record PassesCell (count : ℕ) (answered : List ℕ → ℕ → Reply) (becomes : List ℕ → ℕ → List ℕ) (way : StepWay) (old new : CellFile) (answer : Reply) (m : Mark) : Type 0 where
  pub bytes : List ℕ
  pub before : MayHold old bytes
  pub within : is_within m count ≡ true
  pub answers : answer ≡ answer_under m (answered bytes (moved_under m count))
  pub after : MayHold new (left_under m bytes (becomes bytes (moved_under m count)))
  pub cell : capacity new ≡ capacity old
  pub counted : AreCounted old.state.device.counts
  pub runs : Runs way old.state new.state m

-- so many bytes were read from an offset on
abbrev pub ReadsAt : ℕ → ℕ → CellFile → CellFile → Reply → Mark → Type 0
ReadsAt off count old new answer m =
    PassesCell count (λ bytes moved. reply.Got (take moved (drop off bytes))) (λ bytes moved. bytes) (reading_pages off count) old new answer m

-- a piece was written at an offset
abbrev pub WritesAt : ℕ → List ℕ → CellFile → CellFile → Reply → Mark → Type 0
WritesAt off piece old new answer m =
    PassesCell (length piece) (λ bytes moved. reply.Count moved (off + moved)) (λ bytes moved. written_at off (take moved piece) bytes)
    (editing_pages off (length piece)) old new answer m

-- a step was taken that moves no byte to or from the file
abbrev pub ChangesFile : (List ℕ → List ℕ) → StepWay → CellFile → CellFile → Reply → Mark → Type 0
ChangesFile becomes way old new answer m = PassesCell 0 (λ bytes moved. reply.Done) (λ bytes moved. becomes bytes) way old new answer m

-- how many bytes a step moves in a file on a cell
abbrev pub cell_count : CellFile → Step → ℕ
cell_count f asked = bytes_count (capacity f) f.size asked

-- the calls of a step of a file on a cell
abbrev pub RunsCell : CellFile → CellFile → Step → Mark → Type 0
RunsCell old new asked m = Runs (way_of old.size asked (cell_count old asked)) old.state new.state m

-- the calls of a row's block device, if it has one
abbrev pub PassedCalls : RowFile → RowFile → Step → Mark → Type 0
PassedCalls (Cell old) (Cell new) asked m = RunsCell old new asked m
PassedCalls (Cell old) _ asked m = ⊥
PassedCalls _ _ asked m = Unit {0}

-- a step of bytes in memory: it is taken whole, or memory was wanting, and nothing is changed
abbrev pub TakesMemory : Kind → ℕ → List ℕ → List ℕ → Step → Reply → Mark → Type 0
TakesMemory kind capacity old new asked answer mark.Clear = MovesBytes kind capacity old new asked (bytes_count capacity (length old) asked) answer
TakesMemory kind capacity old new asked answer (mark.Fault moved) = ⊥
TakesMemory kind capacity old new asked answer (mark.NoMem moved) = (moved ≡ 0) × (answer ≡ reply.Refused errno.ENOMEM) × (new ≡ old)

-- what a character device may hold
abbrev pub MayTell : CharsState → CharsContents → Type 0
MayTell device held = IfSome device.contents (λ told. held ≡ told)

-- a transfer of so many bytes to or from a character device ends so
abbrev pub is_short : Mark → ℕ → Bool
is_short mark.Clear count = true
is_short (mark.Fault moved) count = moved == 0 || nat_lt moved count
is_short (mark.NoMem moved) count = moved == 0

-- A transfer to or from a character device: how many bytes it moves, what it answers where it moved so many, and what the device
-- holds then.
pub record PassesChars (count : CharsContents → ℕ) (answered : CharsContents → ℕ → Reply) (becomes : CharsContents → ℕ → CharsContents) (old new : CharsState) (answer : Reply) (m : Mark) : Type 0 where
  pub held : CharsContents
  pub before : MayTell old held
  pub within : is_short m (count held) ≡ true
  pub answers : answer ≡ answer_under m (answered held (moved_under m (count held)))
  pub after : MayTell new (becomes held (moved_under m (count held)))

-- so many bytes were read of a character device, or as many as there are
abbrev pub ReadsChars : ℕ → CharsState → CharsState → Reply → Mark → Type 0
ReadsChars len old new answer m =
    PassesChars (λ held. min len (length held.input)) (λ held moved. reply.Got (take moved held.input)) (λ held moved. behind_read moved held) old new answer m

-- a piece was written to a character device
abbrev pub WritesChars : List ℕ → CharsState → CharsState → Reply → Mark → Type 0
WritesChars piece old new answer m =
    PassesChars (λ held. length piece) (λ held moved. reply.Count moved 0) (λ held moved. behind_write (take moved piece) held) old new answer m

-- what holds of the file of each row
abbrev pub IsSound : RowFile → Type 0
IsSound (Cell f) = IsCellFile f × AreCounted f.state.device.counts
IsSound _ = Unit {0}
