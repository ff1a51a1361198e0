-- What a write leaves in a file, and what a step leaves of other files.
use Rattle.std.specs.Prelude.{◌≡◌, ℕ, zero, suc, ◌+◌, ◌-◌, ◌<◌, ◌≤◌, min, Bool, true, false, is_ok, Option, Some, List, [], ◌∷◌, ◌++◌, length, take, drop, replicate, Result, Ok, Err, refl, if◌then◌else◌}
use Rattle.std.proofs.Common.{sym, ◌∙◌, ap, subst, arith}
use Rattle.std.proofs.lemmas.List.{append_assoc, get_or-set_other, length-append, length-replicate, length-take, take-append-le}
use Rattle.std.proofs.Math.Seq.{drop-append_seam, take-append_seam, take-length}
use Rattle.vfs_base.specs.declared.entry.Mark.{Mark}
use Rattle.vfs_base.specs.declared.entry.Mark.TheVariants as mark
use Rattle.vfs_base.specs.declared.entry.Who.{Who}
use Rattle.vfs_base.specs.declared.errno.Errno.{Errno}
use Rattle.vfs_base.specs.declared.errno.Errno.TheVariants as errno
use Rattle.vfs_base.specs.declared.ids.FileId.{FileId}
use Rattle.vfs_base.specs.declared.kinds.Kind.{Kind}
use Rattle.vfs_base.specs.declared.reply.Reply.TheVariants as reply
use Rattle.vfs_base.specs.declared.step.Step.{Step}
use Rattle.vfs_base.specs.declared.step.Step.TheVariants as step
use Rattle.vfs_model.specs.FileLaws.{ChangesOneRow, WritesPiece}
use Rattle.vfs_model.specs.FileMoves.{clear_step, file_step}
use Rattle.vfs_model.specs.FileStep.{bytes_refusals, cut_or_padded, device_refusals, file_refusals, is_of_generation, moved_count, written_at}
use Rattle.vfs_model.specs.Homes.{file_at}
use Rattle.vfs_model.specs.World.{session_of, step_on, step_row, world_step}
use Rattle.vfs_model.specs.declared.world.FileState.{FileState}
use Rattle.vfs_model.specs.declared.world.FileState.TheVariants as file
use Rattle.vfs_model.specs.declared.world.WorldState.{WorldState}

cut-length : (len : ℕ) (bytes : List ℕ) → length (cut_or_padded len bytes) ≡ len
cut-length len bytes =
    let cut = length-take len (bytes ++ replicate (len - length bytes) 0) in
    let sum = length-append bytes (replicate (len - length bytes) 0) in
    let zeros = length-replicate {A = ℕ} (len - length bytes) 0 in
    omega (arith, cut, sum, zeros)

-- a list of this length is cut off in front, or all that is taken
drop-front : (n : ℕ) (xs ys : List ℕ) → length xs ≡ n → drop n (xs ++ ys) ≡ ys
drop-front n xs ys e = ap (λ m. drop m (xs ++ ys)) (sym e) ∙ drop-append_seam xs ys

take-front : (n : ℕ) (xs ys : List ℕ) → length xs ≡ n → take n (xs ++ ys) ≡ xs
take-front n xs ys e = ap (λ m. take m (xs ++ ys)) (sym e) ∙ take-append_seam xs ys

-- where the file ends before the offset, all its bytes stay and zeros follow
padded : (len : ℕ) (bytes : List ℕ) → length bytes ≤ len → cut_or_padded len bytes ≡ bytes ++ replicate (len - length bytes) 0
padded len bytes h =
    let sum = length-append bytes (replicate (len - length bytes) 0) in
    let zeros = length-replicate {A = ℕ} (len - length bytes) 0 in
    let whole : length (bytes ++ replicate (len - length bytes) 0) ≡ len = omega (arith, sum, zeros, h) in
    ap (λ n. take n (bytes ++ replicate (len - length bytes) 0)) (sym whole) ∙ take-length (bytes ++ replicate (len - length bytes) 0)

-- the parts of what a write leaves
parts : (off byte : ℕ) (piece bytes : List ℕ) → written_at off (byte ∷ piece) bytes
    ≡ cut_or_padded off bytes ++ (byte ∷ piece ++ drop (off + length (byte ∷ piece)) bytes)
parts off byte piece bytes = append_assoc (cut_or_padded off bytes) (byte ∷ piece) (drop (off + length (byte ∷ piece)) bytes)

there : (off byte : ℕ) (piece bytes : List ℕ) → take (length (byte ∷ piece)) (drop off (written_at off (byte ∷ piece) bytes)) ≡ byte ∷ piece
there off byte piece bytes =
    ap (λ xs. take (length (byte ∷ piece)) (drop off xs)) (parts off byte piece bytes)
    ∙ ap (take (length (byte ∷ piece))) (drop-front off (cut_or_padded off bytes) _ (cut-length off bytes))
    ∙ take-append_seam (byte ∷ piece) (drop (off + length (byte ∷ piece)) bytes)

gap : (off byte : ℕ) (piece bytes : List ℕ) → length bytes ≤ off →
    take (off - length bytes) (drop (length bytes) (written_at off (byte ∷ piece) bytes)) ≡ replicate (off - length bytes) 0
gap off byte piece bytes h =
    let zeros : List ℕ = replicate (off - length bytes) 0 in
    let rest : List ℕ = byte ∷ piece ++ drop (off + length (byte ∷ piece)) bytes in
    ap (λ xs. take (off - length bytes) (drop (length bytes) xs))
    (parts off byte piece bytes ∙ ap (λ xs. xs ++ rest) (padded off bytes h) ∙ append_assoc bytes zeros rest)
    ∙ ap (take (off - length bytes)) (drop-append_seam bytes (zeros ++ rest))
    ∙ take-front (off - length bytes) zeros rest (length-replicate (off - length bytes) 0)

take-take-le : (m n : ℕ) (xs : List ℕ) → m ≤ n → take m (take n xs) ≡ take m xs
take-take-le zero n xs h = refl
take-take-le (suc m) zero xs h = absurd (omega (arith, h))
take-take-le (suc m) (suc n) [] h = refl
take-take-le (suc m) (suc n) (x ∷ xs) h = ap (λ rest. x ∷ rest) (take-take-le m n xs (omega (arith, h)))

before : (off byte : ℕ) (piece bytes : List ℕ) → take (min off (length bytes)) (written_at off (byte ∷ piece) bytes) ≡ take (min off (length bytes)) bytes
before off byte piece bytes =
    let n : ℕ = min off (length bytes) in
    let within : n ≤ length (cut_or_padded off bytes) = let e = cut-length off bytes in omega (arith, e) in
    ap (take n) (parts off byte piece bytes)
    ∙ take-append-le n (cut_or_padded off bytes) (byte ∷ piece ++ drop (off + length (byte ∷ piece)) bytes) within
    ∙ take-take-le n off (bytes ++ replicate (off - length bytes) 0) (omega arith)
    ∙ take-append-le n bytes (replicate (off - length bytes) 0) (omega arith)

behind : (off byte : ℕ) (piece bytes : List ℕ) → drop (off + length (byte ∷ piece)) (written_at off (byte ∷ piece) bytes) ≡ drop (off + length (byte ∷ piece)) bytes
behind off byte piece bytes =
    drop-front (off + length (byte ∷ piece)) (cut_or_padded off bytes ++ byte ∷ piece) (drop (off + length (byte ∷ piece)) bytes)
    (let sum = length-append (cut_or_padded off bytes) (byte ∷ piece) in let cut = cut-length off bytes in omega (arith, sum, cut))

pub writes-piece : (off byte : ℕ) (piece bytes : List ℕ) → WritesPiece off (byte ∷ piece) bytes (written_at off (byte ∷ piece) bytes)
writes-piece off byte piece bytes = record {
  there = there off byte piece bytes;
  gap = gap off byte piece bytes;
  before = before off byte piece bytes;
  behind = behind off byte piece bytes;
}

-- a step of one row

pub changes-one : (w : WorldState) (asker : Who) (asked : Step) (m : Mark) (row : ℕ) → step_row asked ≡ Some row → 0 < row →
    ChangesOneRow row w (world_step w asker asked m).next
unfolding world_step
changes-one w asker asked m row e h =
    let P : Option ℕ → Type 0 = λ found. ChangesOneRow row w (step_on w (session_of asker) asked m found).next in
    subst P (sym e) (record {
      namespace = refl;
      homes = refl;
      files = λ other above differs. get_or-set_other w.files (row - 1) (other - 1) (file_step (file_at w row) asked m).next (file.Unbound 0) (λ same. differs (omega (arith, same, above, h)));
    })

-- a piece that was written whole is read again

count-is : (a b c d : ℕ) → reply.Count a b ≡ reply.Count c d → a ≡ c
count-is a b c d e = cc

end-is : (a b c d : ℕ) → reply.Count a b ≡ reply.Count c d → b ≡ d
end-is a b c d e = cc

passed-test : (test : Bool) (asked : Result (Unit {0}) Errno) (errno : Errno) → (if test then asked else Err errno) ≡ Ok tt → test ≡ true
passed-test true asked errno e = refl
passed-test false asked errno e = absurd (cc)

read-back : (off : ℕ) (piece bytes : List ℕ) →
    take (min (length piece) (length (written_at off piece bytes) - off)) (drop off (written_at off piece bytes)) ≡ piece
read-back off [] bytes = ap (λ n. take n (drop off bytes)) (let zero_first : min 0 (length bytes - off) ≡ 0 = omega arith in zero_first)
read-back off (byte ∷ piece) bytes =
    let sum = ap length (parts off byte piece bytes) in
    let first = length-append (cut_or_padded off bytes) (byte ∷ piece ++ drop (off + length (byte ∷ piece)) bytes) in
    let second = length-append (byte ∷ piece) (drop (off + length (byte ∷ piece)) bytes) in
    let cut = cut-length off bytes in
    let whole : min (length (byte ∷ piece)) (length (written_at off (byte ∷ piece) bytes) - off) ≡ length (byte ∷ piece) = omega (arith, sum, first, second, cut) in
    ap (λ n. take n (drop off (written_at off (byte ∷ piece) bytes))) whole ∙ there off byte piece bytes

-- what refuses a step of a file of this generation, where its test passes
abbrev pub tested : Bool → Result (Unit {0}) Errno
tested test = if test then Ok tt else Err errno.ENOENT

read-count : (generation : ℕ) (kind : Kind) (capacity : ℕ) (bytes : List ℕ) (id : FileId) (off len : ℕ) → is_of_generation generation (Some id) ≡ true →
    moved_count (file.Bytes generation kind capacity bytes) (step.Read id off len) ≡ min len (length bytes - off)
unfolding file_refusals moved_count
read-count generation kind capacity bytes id off len e = ap (λ (test : Bool). if is_ok (tested test) then min len (length bytes - off) else 0) e

read-bytes : (generation : ℕ) (kind : Kind) (capacity : ℕ) (bytes : List ℕ) (id : FileId) (off len : ℕ) → is_of_generation generation (Some id) ≡ true →
    (file_step (file.Bytes generation kind capacity bytes) (step.Read id off len) mark.Clear).reply ≡ reply.Got (take (min len (length bytes - off)) (drop off bytes))
unfolding file_step file_refusals
read-bytes generation kind capacity bytes id off len e =
    ap (λ (test : Bool). (clear_step (file.Bytes generation kind capacity bytes) (step.Read id off len) (tested test)).reply) e
    ∙ ap (λ n. reply.Got (take n (drop off bytes))) (read-count generation kind capacity bytes id off len e)

-- a file of bytes, behind a write that was taken
module _ (generation : ℕ) (kind : Kind) (capacity : ℕ) where
  read-written : (bytes : List ℕ) (id : FileId) (off : ℕ) (piece : List ℕ) (passed : Result (Unit {0}) Errno) →
      file_refusals (file.Bytes generation kind capacity bytes) (step.Write id off piece) ≡ passed →
      (clear_step (file.Bytes generation kind capacity bytes) (step.Write id off piece) passed).reply ≡ reply.Count (length piece) (off + length piece) →
      (file_step (clear_step (file.Bytes generation kind capacity bytes) (step.Write id off piece) passed).next (step.Read id off (length piece)) mark.Clear).reply
      ≡ reply.Got piece
  unfolding file_refusals
  read-written bytes id off piece (Err errno) p e = absurd (cc)
  read-written bytes id off piece (Ok passed) p e =
      let count : ℕ = moved_count (file.Bytes generation kind capacity bytes) (step.Write id off piece) in
      let same : count ≡ length piece = count-is count (off + count) (length piece) (off + length piece) e in
      let whole : take count piece ≡ piece = ap (λ n. take n piece) same ∙ take-length piece in
      let test = passed-test (is_of_generation generation (Some id)) (bytes_refusals kind capacity (length bytes) (step.Write id off piece)) errno.ENOENT p in
      ap (λ moved. (file_step (file.Bytes generation kind capacity (written_at off moved bytes)) (step.Read id off (length piece)) mark.Clear).reply) whole
      ∙ read-bytes generation kind capacity (written_at off piece bytes) id off (length piece) test
      ∙ ap reply.Got (read-back off piece bytes)

-- a character device takes a piece that is read again only where it is empty
device-count : (generation : ℕ) (input output : List ℕ) (id : FileId) (off : ℕ) → is_of_generation generation (Some id) ≡ true →
    moved_count (file.Device generation input output) (step.Read id off 0) ≡ 0
unfolding file_refusals moved_count
device-count generation input output id off e = ap (λ (test : Bool). if is_ok (tested test) then min 0 (length input) else 0) e ∙ omega arith

device-read : (generation : ℕ) (input output : List ℕ) (id : FileId) (off : ℕ) → is_of_generation generation (Some id) ≡ true →
    (file_step (file.Device generation input output) (step.Read id off 0) mark.Clear).reply ≡ reply.Got []
unfolding file_step file_refusals
device-read generation input output id off e =
    ap (λ (test : Bool). (clear_step (file.Device generation input output) (step.Read id off 0) (tested test)).reply) e
    ∙ ap (λ n. reply.Got (take n input)) (device-count generation input output id off e)

device-written : (generation : ℕ) (input output : List ℕ) (id : FileId) (off : ℕ) (piece : List ℕ) (passed : Result (Unit {0}) Errno) →
    file_refusals (file.Device generation input output) (step.Write id off piece) ≡ passed →
    (clear_step (file.Device generation input output) (step.Write id off piece) passed).reply ≡ reply.Count (length piece) (off + length piece) →
    (file_step (clear_step (file.Device generation input output) (step.Write id off piece) passed).next (step.Read id off (length piece)) mark.Clear).reply
    ≡ reply.Got piece
unfolding file_refusals
device-written generation input output id off piece (Err errno) p e = absurd (cc)
device-written generation input output id off (byte ∷ piece) (Ok passed) p e =
    let count : ℕ = moved_count (file.Device generation input output) (step.Write id off (byte ∷ piece)) in
    let ends : 0 ≡ off + length (byte ∷ piece) = end-is count 0 (length (byte ∷ piece)) (off + length (byte ∷ piece)) e in
    absurd (omega (arith, ends))
device-written generation input output id off [] (Ok passed) p e =
    let count : ℕ = moved_count (file.Device generation input output) (step.Write id off []) in
    let test = passed-test (is_of_generation generation (Some id)) (device_refusals (step.Write id off [])) errno.ENOENT p in
    device-read generation input (output ++ take count []) id off test

pub written-is-read : (f : FileState) (id : FileId) (off : ℕ) (piece : List ℕ) →
    (file_step f (step.Write id off piece) mark.Clear).reply ≡ reply.Count (length piece) (off + length piece) →
    (file_step (file_step f (step.Write id off piece) mark.Clear).next (step.Read id off (length piece)) mark.Clear).reply ≡ reply.Got piece
unfolding file_step
written-is-read (file.Bytes generation kind capacity bytes) id off piece e =
    read-written generation kind capacity bytes id off piece (file_refusals (file.Bytes generation kind capacity bytes) (step.Write id off piece)) refl e
written-is-read (file.Device generation input output) id off piece e =
    device-written generation input output id off piece (file_refusals (file.Device generation input output) (step.Write id off piece)) refl e
written-is-read (file.Unbound generation) id off piece e = refused (file_refusals (file.Unbound generation) (step.Write id off piece)) refl e
  where
    refused : (passed : Result (Unit {0}) Errno) → file_refusals (file.Unbound generation) (step.Write id off piece) ≡ passed →
        (clear_step (file.Unbound generation) (step.Write id off piece) passed).reply ≡ reply.Count (length piece) (off + length piece) →
        (file_step (clear_step (file.Unbound generation) (step.Write id off piece) passed).next (step.Read id off (length piece)) mark.Clear).reply ≡ reply.Got piece
    refused (Ok passed) p g = absurd (cc)
    refused (Err errno) p g = absurd (cc)
