-- A step of one file keeps its generation and its kind, and its bytes within its capacity.
use Rattle.std.proofs.Common.{◌≡◌, ℕ, ◌+◌, ◌-◌, ◌≤◌, ◌==◌, min, Bool, true, false, ◌&&◌, ◌||◌, Option, Some, None, List, [], ◌∷◌, ◌++◌, length, take, drop, replicate, Result, Ok, Err, is_ok, if◌then◌else◌, refl, ap, ◌∙◌, arith, length-append, length-drop}
use Rattle.std.specs.Prelude.{nat_lt, nat_le}
use Rattle.std.proofs.lemmas.Bool.{leb-true, le-leb, ltb-true, ltb-false}
use Rattle.std.proofs.lemmas.List.{length-take, length-replicate}
use Rattle.vfs_base.specs.declared.entry.Mark.{Mark}
use Rattle.vfs_base.specs.declared.entry.Mark.TheVariants as mark
use Rattle.vfs_base.specs.declared.errno.Errno.{Errno}
use Rattle.vfs_base.specs.declared.errno.Errno.TheVariants as errno
use Rattle.vfs_base.specs.declared.kinds.Kind.{Kind}
use Rattle.vfs_base.specs.declared.step.Step.{Step}
use Rattle.vfs_base.specs.declared.step.Step.TheVariants as step
use Rattle.vfs_model.specs.Boxes.{file_capacity}
use Rattle.vfs_model.specs.Chain.{refuse◌when◌}
use Rattle.vfs_model.specs.Consistency.{agrees}
use Rattle.vfs_model.specs.FileMoves.{clear_step, file_step, fits_file, is_before_end, is_on_device, move, move_bytes, move_device}
use Rattle.vfs_model.specs.FileStep.{bytes_count, absent_refusals, bytes_refusals, count_of, cut_or_padded, file_refusals, full_errno, is_of_generation, is_rom, moved_count, refused_file, step_file, written_at}
use Rattle.vfs_model.specs.declared.namespace.LiveFile.{LiveFile}
use Rattle.vfs_model.specs.declared.world.FileState.{FileState}
use Rattle.vfs_model.specs.declared.world.FileState.TheVariants as file
use Rattle.world_laws.proofs.lists.Passing.{and-both, and-first, and-second, either-passed, refuse-passed, then-rest}

length-cut : (len : ℕ) (bytes : List ℕ) → length (cut_or_padded len bytes) ≡ len
length-cut len bytes =
    let whole : length (bytes ++ replicate (len - length bytes) 0) ≡ length bytes + (len - length bytes) =
    length-append bytes (replicate (len - length bytes) 0) ∙ ap (λ n. length bytes + n) (length-replicate (len - length bytes) 0) in
    let taken : length (cut_or_padded len bytes) ≡ min len (length (bytes ++ replicate (len - length bytes) 0)) =
    length-take len (bytes ++ replicate (len - length bytes) 0) in
    grind (arith, taken, whole)

length-written : (capacity off : ℕ) (piece bytes : List ℕ) → length bytes ≤ capacity → length piece ≤ capacity - off → length (written_at off piece bytes) ≤ capacity
length-written capacity off [] bytes h l = h
length-written capacity off (byte ∷ piece) bytes h l =
    let rest : length (drop (off + length (byte ∷ piece)) bytes) ≡ length bytes - (off + length (byte ∷ piece)) = length-drop (off + length (byte ∷ piece)) bytes in
    let front : length (cut_or_padded off bytes ++ byte ∷ piece) ≡ length (cut_or_padded off bytes) + length (byte ∷ piece) = length-append (cut_or_padded off bytes) (byte ∷ piece) in
    let all : length (cut_or_padded off bytes ++ byte ∷ piece ++ drop (off + length (byte ∷ piece)) bytes) ≡
    length (cut_or_padded off bytes ++ byte ∷ piece) + length (drop (off + length (byte ∷ piece)) bytes) =
    length-append (cut_or_padded off bytes ++ byte ∷ piece) (drop (off + length (byte ∷ piece)) bytes) in
    let cut : length (cut_or_padded off bytes) ≡ off = length-cut off bytes in
    omega (arith, rest, front, all, cut)

-- the first bytes of a piece fit where so many do
length-front : (capacity off count : ℕ) (piece bytes : List ℕ) → length bytes ≤ capacity → count ≤ capacity - off → length (written_at off (take count piece) bytes) ≤ capacity
length-front capacity off count piece bytes h l =
    let taken : length (take count piece) ≡ min count (length piece) = length-take count piece in
    length-written capacity off (take count piece) bytes h (grind (arith, taken))

-- what agrees with the one file agrees with the other
abbrev pub KeepsAgreeing : FileState → FileState → Type 0
KeepsAgreeing f g = (life : Option LiveFile) (generation : ℕ) → agrees life generation f ≡ true → agrees life generation g ≡ true

same-agrees : (f : FileState) → KeepsAgreeing f f
same-agrees f life generation h = h

device-agrees : (generation : ℕ) (input output left more : List ℕ) → KeepsAgreeing (file.Device generation input output) (file.Device generation left more)
device-agrees generation input output left more None g h = absurd (cc)
device-agrees generation input output left more (Some life) g h = h

bytes-agree : (generation : ℕ) (kind : Kind) (capacity : ℕ) (bytes new : List ℕ) → (length bytes ≤ capacity → length new ≤ capacity) →
    KeepsAgreeing (file.Bytes generation kind capacity bytes) (file.Bytes generation kind capacity new)
bytes-agree generation kind capacity bytes new l None g h = absurd (cc)
bytes-agree generation kind capacity bytes new l (Some life) g h =
    and-both _ (nat_le (length new) capacity) (and-first _ (nat_le (length bytes) capacity) h)
    (le-leb (length new) capacity (l (leb-true (length bytes) capacity (and-second _ (nat_le (length bytes) capacity) h))))

-- a step that is passed and moves no more than it may
move_bytes-agrees : (generation : ℕ) (kind : Kind) (capacity : ℕ) (bytes : List ℕ) (asked : Step) (count : ℕ) →
    bytes_refusals kind capacity (length bytes) asked ≡ Ok tt → count ≤ bytes_count capacity (length bytes) asked →
    KeepsAgreeing (file.Bytes generation kind capacity bytes) (move_bytes generation kind capacity bytes asked count).next
move_bytes-agrees generation kind capacity bytes (step.Size id) count h l = same-agrees _
move_bytes-agrees generation kind capacity bytes (step.Read id off len) count h l = same-agrees _
move_bytes-agrees generation kind capacity bytes (step.Load id off len) count h l = same-agrees _
move_bytes-agrees generation kind capacity bytes (step.Write id off piece) count h l =
    bytes-agree generation kind capacity bytes _ (λ m. length-front capacity off count piece bytes m (omega arith))
move_bytes-agrees generation kind capacity bytes (step.Store id off piece) count h l =
    let within = refuse-passed errno.EFAULT (nat_lt (length bytes) (off + length piece)) (then-rest (refuse errno.EROFS when (is_rom kind)) _ tt h) in
    let fits : off + length piece ≤ length bytes = ltb-false (length bytes) (off + length piece) within in
    bytes-agree generation kind capacity bytes _ (λ m. length-front capacity off count piece bytes m (omega arith))
move_bytes-agrees generation kind capacity bytes (step.Append id piece) count h l =
    bytes-agree generation kind capacity bytes _ (λ m. length-front capacity (length bytes) count piece bytes m (omega arith))
move_bytes-agrees generation kind capacity bytes (step.Trunc id len) count h l =
    let within = refuse-passed (full_errno kind) (nat_lt capacity len) (then-rest (refuse errno.EROFS when (is_rom kind)) _ tt h) in
    let fits : len ≤ capacity = ltb-false capacity len within in
    let cut : length (cut_or_padded len bytes) ≡ len = length-cut len bytes in
    bytes-agree generation kind capacity bytes _ (λ m. omega (arith, cut, fits))
move_bytes-agrees generation kind capacity bytes _ count h l = same-agrees _

move_device-agrees : (generation : ℕ) (input output : List ℕ) (asked : Step) (count : ℕ) →
    KeepsAgreeing (file.Device generation input output) (move_device generation input output asked count).next
move_device-agrees generation input output (step.Read id off len) count = device-agrees generation input output _ _
move_device-agrees generation input output (step.Write id off piece) count = device-agrees generation input output _ _
move_device-agrees generation input output (step.Append id piece) count = device-agrees generation input output _ _
move_device-agrees generation input output _ count = device-agrees generation input output _ _

absent-passed : (asked : Step) (generation : ℕ) (r : Result (Unit {0}) Errno) → (if is_of_generation generation (step_file asked) then r else absent_refusals asked) ≡ Ok tt → r ≡ Ok tt
absent-passed (step.Size id) generation r h = either-passed _ r errno.ENOENT h
absent-passed (step.Read id off len) generation r h = either-passed _ r errno.ENOENT h
absent-passed (step.Write id off piece) generation r h = either-passed _ r errno.ENOENT h
absent-passed (step.Append id piece) generation r h = either-passed _ r errno.ENOENT h
absent-passed (step.Trunc id len) generation r h = either-passed _ r errno.ENOENT h
absent-passed (step.Sync id) generation r h = either-passed _ r errno.ENOENT h
absent-passed (step.Load id off len) generation r h = either-passed _ r errno.ENOENT h
absent-passed (step.Store id off piece) generation r h = either-passed _ r errno.ENOENT h
absent-passed _ generation r h = h

move-agrees : (f : FileState) (asked : Step) (count : ℕ) → file_refusals f asked ≡ Ok tt → count ≤ count_of f asked → KeepsAgreeing f (move f asked count).next
unfolding file_refusals
move-agrees (file.Unbound generation) asked count h l = same-agrees _
move-agrees (file.Bytes generation kind capacity bytes) asked count h l =
    move_bytes-agrees generation kind capacity bytes asked count (absent-passed asked generation _ h) l
move-agrees (file.Device generation input output) asked count h l = move_device-agrees generation input output asked count

-- how many bytes a step moves, by what it is refused with
moved : (f : FileState) (asked : Step) (r : Result (Unit {0}) Errno) → file_refusals f asked ≡ r → moved_count f asked ≡ (if is_ok r then count_of f asked else 0)
unfolding moved_count
moved f asked r e = ap (λ r. if is_ok r then count_of f asked else 0) e

clear-agrees : (f : FileState) (asked : Step) (r : Result (Unit {0}) Errno) → file_refusals f asked ≡ r → KeepsAgreeing f (clear_step f asked r).next
clear-agrees f asked (Err errno) e = same-agrees f
clear-agrees f asked (Ok tt) e = move-agrees f asked (moved_count f asked) e (let m = moved f asked (Ok tt) e in omega (arith, m))

-- a stop after so many bytes: fewer than the step moves, or none
stopped-agrees : (f : FileState) (asked : Step) (errno : Errno) (count : ℕ) (none : Bool) (r : Result (Unit {0}) Errno) → (count == 0) ≡ none → file_refusals f asked ≡ r →
    (none || nat_lt count (moved_count f asked)) ≡ true → KeepsAgreeing f (if none then refused_file f errno else move f asked count).next
stopped-agrees f asked errno count true r e k h = same-agrees f
stopped-agrees f asked errno count false (Err other) e k h =
    let m = moved f asked (Err other) k in
    let less = ltb-true count (moved_count f asked) h in
    absurd (omega (arith, m, less))
stopped-agrees f asked errno count false (Ok tt) e k h =
    let m = moved f asked (Ok tt) k in
    let less = ltb-true count (moved_count f asked) h in
    move-agrees f asked count k (omega (arith, m, less))

pub file_step-agrees : (f : FileState) (asked : Step) (m : Mark) → fits_file f asked m ≡ true → KeepsAgreeing f (file_step f asked m).next
unfolding file_step fits_file
file_step-agrees f asked mark.Clear h = clear-agrees f asked (file_refusals f asked) refl
file_step-agrees f asked (mark.Fault count) h =
    stopped-agrees f asked errno.EIO count (count == 0) (file_refusals f asked) refl refl
    (and-first (is_before_end f asked count) _ (and-first (is_before_end f asked count && is_on_device f) _ h))
file_step-agrees f asked (mark.NoMem count) h =
    stopped-agrees f asked errno.ENOMEM count (count == 0) (file_refusals f asked) refl refl
    (and-first (is_before_end f asked count) _ h)

move_bytes-capacity : (generation : ℕ) (kind : Kind) (capacity : ℕ) (bytes : List ℕ) (asked : Step) (count : ℕ) →
    file_capacity (move_bytes generation kind capacity bytes asked count).next ≡ capacity
move_bytes-capacity generation kind capacity bytes (step.Size id) count = refl
move_bytes-capacity generation kind capacity bytes (step.Read id off len) count = refl
move_bytes-capacity generation kind capacity bytes (step.Load id off len) count = refl
move_bytes-capacity generation kind capacity bytes (step.Write id off piece) count = refl
move_bytes-capacity generation kind capacity bytes (step.Store id off piece) count = refl
move_bytes-capacity generation kind capacity bytes (step.Append id piece) count = refl
move_bytes-capacity generation kind capacity bytes (step.Trunc id len) count = refl
move_bytes-capacity generation kind capacity bytes _ count = refl

move_device-capacity : (generation : ℕ) (input output : List ℕ) (asked : Step) (count : ℕ) → file_capacity (move_device generation input output asked count).next ≡ 0
move_device-capacity generation input output (step.Read id off len) count = refl
move_device-capacity generation input output (step.Write id off piece) count = refl
move_device-capacity generation input output (step.Append id piece) count = refl
move_device-capacity generation input output _ count = refl

move-capacity : (f : FileState) (asked : Step) (count : ℕ) → file_capacity (move f asked count).next ≡ file_capacity f
move-capacity (file.Unbound generation) asked count = refl
move-capacity (file.Bytes generation kind capacity bytes) asked count = move_bytes-capacity generation kind capacity bytes asked count
move-capacity (file.Device generation input output) asked count = move_device-capacity generation input output asked count

stopped-capacity : (f : FileState) (asked : Step) (errno : Errno) (count : ℕ) (none : Bool) →
    file_capacity (if none then refused_file f errno else move f asked count).next ≡ file_capacity f
stopped-capacity f asked errno count true = refl
stopped-capacity f asked errno count false = move-capacity f asked count

clear-capacity : (f : FileState) (asked : Step) (r : Result (Unit {0}) Errno) → file_capacity (clear_step f asked r).next ≡ file_capacity f
clear-capacity f asked (Ok tt) = move-capacity f asked (moved_count f asked)
clear-capacity f asked (Err errno) = refl

-- a step leaves the room of a file as it was
pub file_step-capacity : (f : FileState) (asked : Step) (m : Mark) → file_capacity (file_step f asked m).next ≡ file_capacity f
unfolding file_step
file_step-capacity f asked mark.Clear = clear-capacity f asked (file_refusals f asked)
file_step-capacity f asked (mark.Fault count) = stopped-capacity f asked errno.EIO count (count == 0)
file_step-capacity f asked (mark.NoMem count) = stopped-capacity f asked errno.ENOMEM count (count == 0)
