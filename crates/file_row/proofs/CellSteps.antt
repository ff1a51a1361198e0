-- Steps of a file on a cell, by what they move.
use Rattle.std.specs.Prelude.{◌≡◌, ◌≢◌, ◌⊎◌, ℕ, ◌+◌, ◌≤◌, ◌==◌, ◌&&◌, ◌||◌, Bool, true, false, nat_lt, Option, Some, None, option_map, IfSome, List, [], Ok, length, take, drop, refl, if◌then◌else◌}
use Rattle.std.proofs.Common.{sym, ◌∙◌, ap, subst, arith, inl, inr}
use Rattle.std.specs.List.{refill}
use Rattle.std.proofs.lemmas.List.{length-take-le, take-take}
use Rattle.vfs_base.specs.declared.entry.Mark.{Mark}
use Rattle.vfs_base.specs.declared.entry.Mark.TheVariants as mark
use Rattle.vfs_base.specs.declared.errno.Errno.TheVariants as errno
use Rattle.vfs_base.specs.declared.kinds.Kind.TheVariants as kind
use Rattle.vfs_base.specs.declared.reply.Reply.{Reply}
use Rattle.vfs_base.specs.declared.reply.Reply.TheVariants as reply
use Rattle.vfs_base.specs.declared.ids.FileId.{FileId}
use Rattle.vfs_base.specs.declared.step.Step.{Step}
use Rattle.vfs_base.specs.declared.step.Step.TheVariants as step
use Rattle.vfs_model.specs.FileMoves.{move_bytes, write_bytes}
use Rattle.vfs_model.specs.FileStep.{FileOutcome, bytes_count, count_of, cut_or_padded, written_at}
use Rattle.vfs_model.specs.RowShape as shape
use Rattle.vfs_model.specs.declared.world.FileState.{FileState}
use Rattle.vfs_model.specs.declared.world.FileState.TheVariants as file
use Rattle.page_cache.specs.AddressSpace.{Moment, run_behind}
use Rattle.page_cache.specs.Framed.{AreCounted}
use Rattle.page_cache.proofs.Parts.{refilled}
use Rattle.cell_file.specs.CellFile.{CellFile, IsCellFile, ReadsFile, capacity, cut_under, is_within, moved_under, size_behind, size_under, told_bytes}
use Rattle.cell_file.specs.Moves.{Passes, Runs, StepWay, editing_pages, reading_pages}
use Rattle.cell_file.proofs.Files.{moved-low, option-same}
use Rattle.cell_file.proofs.PageWays.{pages-done}
use Rattle.vfs_model.specs.Cache.{CacheRun, cache_move, touch, touch_and_edit}
use Rattle.vfs_model.specs.FailedCalls.{try_edit, try_move, try_touch}
use Rattle.file_row.specs.Passed.{ChangesFile, MayHold, PassesCell, ReadsAt, Takes, WritesAt, answer_under, cell_count, left_under, may_stop, way_of}
use Rattle.file_row.specs.Row.{Cell}
use Rattle.file_row.specs.Steps.{MayHave}
use Rattle.file_row.proofs.Passing.{taken}
use Rattle.file_row.proofs.Running.{no-call, no-room}
use Rattle.file_row.proofs.Witnesses.{Holds, cut-size, holds, holds-changed, holds-some, left-cut, left-same, written-length}

-- the file that the row of a cell may have
abbrev pub held_file : ℕ → CellFile → List ℕ → FileState
held_file generation f bytes = file.Bytes generation kind.Cell (capacity f) bytes

pub row-holds : (generation : ℕ) (f : CellFile) (bytes : List ℕ) → MayHold f bytes → MayHave (record { generation = generation; file = Cell f }) (held_file generation f bytes)
row-holds generation f bytes may = record {
  shape = ap (λ n. shape.Bytes generation kind.Cell (capacity f) n) may.size;
  told = by (told_bytes f) may.told;
}
  where
    by : (o : Option (List ℕ)) → IfSome o (λ t. bytes ≡ t) → IfSome (option_map (file.Bytes generation kind.Cell (capacity f)) o) (λ t. held_file generation f bytes ≡ t)
    by None e = tt
    by (Some t) e = ap (held_file generation f) e

both-true : (s t : Bool) → s ≡ true → t ≡ true → s && t ≡ true
both-true s t e f = rw e (rw f refl)

or-true : (t : Bool) → t || true ≡ true
or-true true = refl
or-true false = refl

stops-within : (generation count : ℕ) (f : CellFile) (bytes : List ℕ) (asked : Step) (m : Mark) → count ≡ count_of (held_file generation f bytes) asked → is_within m count ≡ true →
    may_stop (held_file generation f bytes) asked m ≡ true
stops-within generation count f bytes asked mark.Clear same within = refl
stops-within generation count f bytes asked (mark.Fault moved) same within =
    both-true (moved == 0 || nat_lt moved (count_of (held_file generation f bytes) asked)) true (subst (λ n. (moved == 0 || nat_lt moved n) ≡ true) same within) refl
stops-within generation count f bytes asked (mark.NoMem moved) same within =
    both-true (moved == 0 || nat_lt moved (count_of (held_file generation f bytes) asked)) (moved == 0 || true) (subst (λ n. (moved == 0 || nat_lt moved n) ≡ true) same within) (or-true (moved == 0))

left-file : (generation : ℕ) (f : CellFile) (m : Mark) (a b : List ℕ) → left_under m (held_file generation f a) (held_file generation f b) ≡ held_file generation f (left_under m a b)
left-file generation f mark.Clear a b = refl
left-file generation f (mark.Fault moved) a b = elim (moved == 0) as (λ t. (if t then held_file generation f a else held_file generation f b) ≡ held_file generation f (if t then a else b)) [
  | true ↦ refl
  | false ↦ refl
]
left-file generation f (mark.NoMem moved) a b = elim (moved == 0) as (λ t. (if t then held_file generation f a else held_file generation f b) ≡ held_file generation f (if t then a else b)) [
  | true ↦ refl
  | false ↦ refl
]

-- a step of the row, by what it moves on the cell
pub cell-takes : {count : ℕ} {answered : List ℕ → ℕ → Reply} {becomes : List ℕ → ℕ → List ℕ} {way : StepWay} {old new : CellFile} {answer : Reply} {m : Mark} (generation : ℕ) (asked : Step) →
    ((bytes : List ℕ) (n : ℕ) → length bytes ≡ old.size → n ≤ count →
    move_bytes generation kind.Cell (capacity old) bytes asked n ≡ record { reply = answered bytes n; next = held_file generation old (becomes bytes n) }) →
    count ≡ cell_count old asked → PassesCell count answered becomes way old new answer m → Takes generation (Cell old) (Cell new) asked answer m
cell-takes generation asked moves same h = by h moves same
  where
    by : {count : ℕ} {answered : List ℕ → ℕ → Reply} {becomes : List ℕ → ℕ → List ℕ} {way : StepWay} {old new : CellFile} {answer : Reply} {m : Mark} →
        PassesCell count answered becomes way old new answer m →
        ((bytes : List ℕ) (n : ℕ) → length bytes ≡ old.size → n ≤ count →
        move_bytes generation kind.Cell (capacity old) bytes asked n ≡ record { reply = answered bytes n; next = held_file generation old (becomes bytes n) }) →
        count ≡ cell_count old asked → Takes generation (Cell old) (Cell new) asked answer m
    by {count} {answered} {becomes} {way} {old} {new} {answer} {m} h moves same =
        let f : FileState = held_file generation old h.bytes in
        let counts : count ≡ count_of f asked = same ∙ ap (λ n. bytes_count (capacity old) n asked) (sym h.before.size) in
        let move : move_bytes generation kind.Cell (capacity old) h.bytes asked (moved_under m (count_of f asked))
        ≡ record { reply = answered h.bytes (moved_under m count); next = held_file generation old (becomes h.bytes (moved_under m count)) } =
        ap (λ n. move_bytes generation kind.Cell (capacity old) h.bytes asked (moved_under m n)) (sym counts)
        ∙ moves h.bytes (moved_under m count) h.before.size (moved-low m count h.within) in
        taken f asked m
        (row-holds generation old h.bytes h.before)
        (stops-within generation count old h.bytes asked m counts h.within)
        (h.answers ∙ ap (λ (o : FileOutcome). answer_under m o.reply) (sym move))
        (subst (MayHave (record { generation = generation; file = Cell new }))
        (ap (λ room. file.Bytes generation kind.Cell room (left_under m h.bytes (becomes h.bytes (moved_under m count)))) h.cell
        ∙ sym (left-file generation old m h.bytes (becomes h.bytes (moved_under m count)))
        ∙ ap (λ (o : FileOutcome). left_under m f o.next) (sym move))
        (row-holds generation new _ h.after))

-- What a call on a file did that leaves its cell as it was.
pub record Call (f g : CellFile) : Type 0 where
  pub sound : IsCellFile f
  pub counted : AreCounted f.state.device.counts
  pub cell : capacity g ≡ capacity f

-- a call that leaves the file's bytes as they were
pub record Keeps (f g : CellFile) : Type 0 where
  pub call : Call f g
  pub told : told_bytes g ≡ told_bytes f
  pub size : g.size ≡ f.size

-- no call at all
pub keeps-itself : (f : CellFile) → Call f f → Keeps f f
keeps-itself f call = record { call = call; told = refl; size = refl }

-- what the file may have held it may hold still
still-holds : {f g : CellFile} (m : Mark) (n : ℕ) (bytes : List ℕ) → Keeps f g → MayHold f bytes → MayHold g (left_under m bytes bytes)
still-holds {f} {g} m n bytes kept may =
    subst (MayHold g) (sym (left-same m n bytes bytes (λ e. refl))) (holds-changed f g (λ bytes. bytes) bytes may (kept.told ∙ sym (option-same (told_bytes f))) (may.size ∙ sym kept.size))

-- What a read did that ended with this mark.
pub record DidRead (f : CellFile) (off count : ℕ) (out : List ℕ) (m : Mark) : Type 0 where
  pub full : length out ≡ count
  pub inside : off + count ≤ f.size
  pub within : is_within m count ≡ true
  pub read : ReadsFile off m out f

-- bytes were read
pub reads-at : {f g : CellFile} (off count : ℕ) (out : List ℕ) (m : Mark) → Keeps f g → DidRead f off count out m → Runs (reading_pages off count) f.state g.state m →
    ReadsAt off count f g (answer_under m (reply.Got (take (moved_under m count) out))) m
reads-at {f} off count out m kept did runs =
    let inside = did.inside in
    let full = did.full in
    let within = did.within in
    let n : ℕ = moved_under m count in
    let low : n ≤ count = moved-low m count within in
    let piece : List ℕ = take n out in
    let long : length piece ≡ n = length-take-le n out (omega (arith, full, low)) in
    let seen : IfSome (told_bytes f) (λ t. piece ≡ take (length piece) (drop off t)) = by (told_bytes f) full long did.read in
    let h : Holds f off piece = holds f off piece kept.call.sound (omega (arith, long, low, inside)) seen in record {
      bytes = h.bytes;
      before = h.may;
      within = within;
      answers = ap (λ xs. answer_under m (reply.Got xs)) (sym (ap (λ k. take k (drop off h.bytes)) (sym long) ∙ h.there));
      after = still-holds m count h.bytes kept h.may;
      cell = kept.call.cell;
      counted = kept.call.counted;
      runs = runs;
    }
  where
    by : (o : Option (List ℕ)) → length out ≡ count → length (take (moved_under m count) out) ≡ moved_under m count →
        IfSome o (λ bytes. take (moved_under m (length out)) out ≡ take (moved_under m (length out)) (drop off bytes)) →
        IfSome o (λ t. take (moved_under m count) out ≡ take (length (take (moved_under m count) out)) (drop off t))
    by None full long e = tt
    by (Some t) full long e = subst (λ k. take (moved_under m k) out ≡ take (moved_under m k) (drop off t)) full e ∙ ap (λ k. take k (drop off t)) (sym long)

-- a read of no byte
pub reads-none : (off count : ℕ) (f : CellFile) → Call f f → count ≡ 0 → ReadsAt off count f f (reply.Got []) mark.Clear
reads-none off count f call none =
    let h : Holds f 0 [] = holds-some f call.sound in rw none (record {
      bytes = h.bytes;
      before = h.may;
      within = refl;
      answers = refl;
      after = h.may;
      cell = refl;
      counted = call.counted;
      runs = pages-done touch try_touch off f.state call.counted;
    })

-- memory was wanting for the bytes of the reply
pub reads-starved : (off count : ℕ) (f : CellFile) → Call f f → ReadsAt off count f f (reply.Refused errno.ENOMEM) (mark.NoMem 0)
reads-starved off count f call =
    let h : Holds f 0 [] = holds-some f call.sound in record {
      bytes = h.bytes;
      before = h.may;
      within = refl;
      answers = refl;
      after = h.may;
      cell = refl;
      counted = call.counted;
      runs = no-room off count f.state call.counted;
    }

-- What a write did that ended with this mark.
pub record DidWrite (f g : CellFile) (off : ℕ) (piece : List ℕ) (m : Mark) : Type 0 where
  pub within : is_within m (length piece) ≡ true
  pub told : told_bytes g ≡ option_map (written_at off (take (moved_under m (length piece)) piece)) (told_bytes f)
  pub size : g.size ≡ size_behind off (moved_under m (length piece)) f.size

-- a piece was written
pub writes-at : {f g : CellFile} (off : ℕ) (piece : List ℕ) (m : Mark) → Call f g → DidWrite f g off piece m → Runs (editing_pages off (length piece)) f.state g.state m →
    WritesAt off piece f g (answer_under m (reply.Count (moved_under m (length piece)) (off + moved_under m (length piece)))) m
writes-at {f} {g} off piece m call did runs =
    let within = did.within in
    let told = did.told in
    let size = did.size in
    let n : ℕ = moved_under m (length piece) in
    let h : Holds f 0 [] = holds-some f call.sound in
    let long : length (take n piece) ≡ n = length-take-le n piece (moved-low m (length piece) within) in record {
      bytes = h.bytes;
      before = h.may;
      within = within;
      answers = refl;
      after = subst (MayHold g) (sym (left-same m (length piece) h.bytes (written_at off (take n piece) h.bytes) (λ e. ap (λ k. written_at off (take k piece) h.bytes) e)))
          (holds-changed f g (written_at off (take n piece)) h.bytes h.may told
          (written-length off (take n piece) h.bytes ∙ ap (λ k. size_behind off k (length h.bytes)) long ∙ ap (λ k. size_behind off n k) h.may.size ∙ sym size));
      cell = call.cell;
      counted = call.counted;
      runs = runs;
    }

-- no byte was written
pub writes-none : (off : ℕ) (piece : List ℕ) (f : CellFile) → Call f f → piece ≡ [] → WritesAt off piece f f (reply.Count 0 off) mark.Clear
writes-none off piece f call none =
    let h : Holds f 0 [] = holds-some f call.sound in rw none (record {
      bytes = h.bytes;
      before = h.may;
      within = refl;
      answers = let e : off ≡ off + 0 = omega arith in ap (reply.Count 0) e;
      after = h.may;
      cell = refl;
      counted = call.counted;
      runs = pages-done touch_and_edit try_edit off f.state call.counted;
    })

-- a file was cut or padded
pub truncates : {way : StepWay} {f g : CellFile} (len : ℕ) (m : Mark) → Call f g → is_within m 0 ≡ true → told_bytes g ≡ option_map (cut_under m len) (told_bytes f) →
    g.size ≡ size_under m len f.size → Runs way f.state g.state m → ChangesFile (cut_or_padded len) way f g (answer_under m reply.Done) m
truncates {f = f} {g = g} len m call within told size runs =
    let h : Holds f 0 [] = holds-some f call.sound in record {
      bytes = h.bytes;
      before = h.may;
      within = within;
      answers = refl;
      after = subst (MayHold g) (sym (left-cut m len h.bytes within)) (holds-changed f g (cut_under m len) h.bytes h.may told (cut-size m len f.size h.bytes h.may.size ∙ sym size));
      cell = call.cell;
      counted = call.counted;
      runs = runs;
    }

-- pages were written or let go
pub keeps : {way : StepWay} {f g : CellFile} (m : Mark) → Keeps f g → is_within m 0 ≡ true → Runs way f.state g.state m → ChangesFile (λ bytes. bytes) way f g (answer_under m reply.Done) m
keeps {way} {f} {g} m kept within runs =
    let h : Holds f 0 [] = holds-some f kept.call.sound in record {
      bytes = h.bytes;
      before = h.may;
      within = within;
      answers = refl;
      after = still-holds m 0 h.bytes kept h.may;
      cell = kept.call.cell;
      counted = kept.call.counted;
      runs = runs;
    }

-- nothing was done, and nothing asked of the cell
pub idles : {answered : List ℕ → ℕ → Reply} {answer : Reply} (way : StepWay) (f : CellFile) → Call f f → Passes way f.state f.state →
    ((bytes : List ℕ) → length bytes ≡ f.size → answer ≡ answered bytes 0) → PassesCell 0 answered (λ bytes moved. bytes) way f f answer mark.Clear
idles way f call runs answers =
    let h : Holds f 0 [] = holds-some f call.sound in record {
      bytes = h.bytes;
      before = h.may;
      within = refl;
      answers = answers h.bytes h.may.size;
      after = h.may;
      cell = refl;
      counted = call.counted;
      runs = runs;
    }

-- a front of what was read into a slice of all bytes
pub front-filled : (k n : ℕ) (items out : List ℕ) → n ≡ length items → length out ≡ length items → take k (refill n items out) ≡ take k out
front-filled k n items out all same = ap (take k) (refilled n out items (all ∙ sym same) same)

-- bytes are asked for, so they are inside
pub inside-of : (off count size : ℕ) → count ≢ 0 → (count ≡ 0) ⊎ (off + count ≤ size) → off + count ≤ size
inside-of off count size some h = elim h [
  | inl none ↦ absurd (some none)
  | inr inside ↦ inside
]

-- What a step moves that is none of a file on a cell.
pub record IsOther (asked : Step) : Type 0 where
  pub moves : (generation room : ℕ) (bytes : List ℕ) (n : ℕ) →
      move_bytes generation kind.Cell room bytes asked n ≡ record { reply = reply.Done; next = file.Bytes generation kind.Cell room bytes }
  pub none : (room size : ℕ) → bytes_count room size asked ≡ 0
  pub clear : (run : CacheRun) (size count : ℕ) → cache_move run size asked count ≡ run
  pub tried : (number : ℕ) (run : CacheRun) (size count : ℕ) → try_move number run size asked count ≡ Ok run

-- A step that is none of these.
pub record IsNone (asked : Step) : Type 0 where
  pub size : (id : FileId) → asked ≡ step.Size id → ⊥
  pub read : (id : FileId) (off len : ℕ) → asked ≡ step.Read id off len → ⊥
  pub write : (id : FileId) (off : ℕ) (bytes : List ℕ) → asked ≡ step.Write id off bytes → ⊥
  pub append : (id : FileId) (bytes : List ℕ) → asked ≡ step.Append id bytes → ⊥
  pub trunc : (id : FileId) (len : ℕ) → asked ≡ step.Trunc id len → ⊥
  pub sync : (id : FileId) → asked ≡ step.Sync id → ⊥
  pub load : (id : FileId) (off len : ℕ) → asked ≡ step.Load id off len → ⊥
  pub store : (id : FileId) (off : ℕ) (bytes : List ℕ) → asked ≡ step.Store id off bytes → ⊥
  pub flush : (row : ℕ) → asked ≡ step.Flush row → ⊥
  pub reclaim : (row : ℕ) → asked ≡ step.Reclaim row → ⊥

pub is-other : (asked : Step) → IsNone asked → IsOther asked
is-other (step.Size id) h = absurd (h.size id refl)
is-other (step.Read id off len) h = absurd (h.read id off len refl)
is-other (step.Write id off bytes) h = absurd (h.write id off bytes refl)
is-other (step.Append id bytes) h = absurd (h.append id bytes refl)
is-other (step.Trunc id len) h = absurd (h.trunc id len refl)
is-other (step.Sync id) h = absurd (h.sync id refl)
is-other (step.Load id off len) h = absurd (h.load id off len refl)
is-other (step.Store id off bytes) h = absurd (h.store id off bytes refl)
is-other (step.Flush row) h = absurd (h.flush row refl)
is-other (step.Reclaim row) h = absurd (h.reclaim row refl)
is-other _ h = record { moves = λ generation room bytes n. refl; none = λ room size. refl; clear = λ run size count. refl; tried = λ number run size count. refl }

pub other-passes : (asked : Step) (f : CellFile) → IsOther asked → AreCounted f.state.device.counts → Passes (way_of f.size asked (cell_count f asked)) f.state f.state
other-passes asked f other small =
    no-call (way_of f.size asked (cell_count f asked)) f.state small (λ e. other.clear (run_behind e f.state) f.size (cell_count f asked)) (λ n e. other.tried n (run_behind e f.state) f.size (cell_count f asked))

pub other-takes : (generation : ℕ) (asked : Step) (f : CellFile) → IsOther asked → Call f f → Takes generation (Cell f) (Cell f) asked reply.Done mark.Clear
other-takes generation asked f other call =
    let idle : PassesCell 0 (λ bytes n. reply.Done) (λ bytes n. bytes) (way_of f.size asked (cell_count f asked)) f f reply.Done mark.Clear =
    idles (way_of f.size asked (cell_count f asked)) f call (other-passes asked f other call.counted) (λ bytes e. refl) in
    cell-takes generation asked (λ bytes n e low. other.moves generation (capacity f) bytes n) (sym (other.none (capacity f) f.size)) idle

-- the part of a piece that there is room for
pub part-length : (count : ℕ) (piece : List ℕ) → count ≤ length piece → length (take count piece) ≡ count
part-length count piece low = length-take-le count piece low

part-moves : {generation room : ℕ} (off at count n : ℕ) (piece bytes : List ℕ) → at ≡ off → n ≤ length (take count piece) → count ≤ length piece →
    write_bytes generation kind.Cell room bytes at piece n
    ≡ record { reply = reply.Count n (off + n); next = file.Bytes generation kind.Cell room (written_at off (take n (take count piece)) bytes) }
part-moves off at count n piece bytes e low inside =
    let long = part-length count piece inside in
    rw e (rw (take-take n count piece (omega (arith, low, long))) refl)

pub write-takes : {f g : CellFile} {answer : Reply} {m : Mark} (generation off count : ℕ) (id : FileId) (piece : List ℕ) → count ≤ length piece → count ≡ cell_count f (step.Write id off piece) →
    WritesAt off (take count piece) f g answer m → Takes generation (Cell f) (Cell g) (step.Write id off piece) answer m
write-takes generation off count id piece inside same h =
    cell-takes generation (step.Write id off piece) (λ bytes n e low. part-moves off off count n piece bytes refl low inside) (part-length count piece inside ∙ same) h

pub store-takes : {f g : CellFile} {answer : Reply} {m : Mark} (generation off count : ℕ) (id : FileId) (piece : List ℕ) → count ≤ length piece → count ≡ cell_count f (step.Store id off piece) →
    WritesAt off (take count piece) f g answer m → Takes generation (Cell f) (Cell g) (step.Store id off piece) answer m
store-takes generation off count id piece inside same h =
    cell-takes generation (step.Store id off piece) (λ bytes n e low. part-moves off off count n piece bytes refl low inside) (part-length count piece inside ∙ same) h

pub append-takes : {f g : CellFile} {answer : Reply} {m : Mark} (generation count : ℕ) (id : FileId) (piece : List ℕ) → count ≤ length piece → count ≡ cell_count f (step.Append id piece) →
    WritesAt f.size (take count piece) f g answer m → Takes generation (Cell f) (Cell g) (step.Append id piece) answer m
append-takes {f} generation count id piece inside same h =
    cell-takes generation (step.Append id piece) (λ bytes n e low. part-moves f.size (length bytes) count n piece bytes e low inside) (part-length count piece inside ∙ same) h

-- the calls of a part that was written
pub part-runs : (off most count : ℕ) (piece : List ℕ) (a b : Moment) (m : Mark) → length (take count piece) ≡ most → Runs (editing_pages off (length (take count piece))) a b m →
    Runs (editing_pages off most) a b m
part-runs off most count piece a b m same runs = subst (λ n. Runs (editing_pages off n) a b m) same runs
