-- The bytes that a file on a cell may have, where its device does not tell them.
use Rattle.std.specs.Prelude.{◌≡◌, ℕ, ◌+◌, ◌-◌, ◌<◌, ◌≤◌, ◌==◌, ◌||◌, Bool, true, false, nat_lt, max, Option, Some, None, option_map, IfSome, List, [], ◌∷◌, ◌++◌, length, take, drop, replicate, refl, if◌then◌else◌}
use Rattle.std.proofs.Common.{sym, ◌∙◌, ap, arith}
use Rattle.std.proofs.lemmas.Bool.Decides.{nat_tests}
use Rattle.std.proofs.lemmas.List.{length-append, length-drop, length-replicate, length-take, length-take-le}
use Rattle.vfs_base.specs.declared.entry.Mark.{Mark}
use Rattle.vfs_base.specs.declared.entry.Mark.TheVariants as mark
use Rattle.vfs_model.specs.FileStep.{cut_or_padded, written_at}
use Rattle.page_cache.proofs.Found.{same-number}
use Rattle.cell_file.specs.CellFile.{CellFile, IsCellFile, all_bytes, cut_under, is_within, moved_under, size_behind, size_under, told_bytes}
use Rattle.cell_file.proofs.Files.{all-length}
use Rattle.cell_file.proofs.Flat.{drop-over, take-over}
use Rattle.file_row.specs.Passed.{MayHold, left_under}

cut-length : (len : ℕ) (bytes : List ℕ) → length (cut_or_padded len bytes) ≡ len
cut-length len bytes =
    let whole = length-append bytes (replicate (len - length bytes) 0) in
    let pad = length-replicate {A = ℕ} (len - length bytes) 0 in
    let taken = length-take len (bytes ++ replicate (len - length bytes) 0) in
    omega (arith, taken, whole, pad)

pub no-bytes : (xs : List ℕ) → (length xs == 0) ≡ true → xs ≡ []
no-bytes [] e = refl
no-bytes (x ∷ xs) e = absurd (let none = same-number (length (x ∷ xs)) 0 e in omega (arith, none))

-- how long a file is in which a piece was written
pub written-length : (off : ℕ) (piece bytes : List ℕ) → length (written_at off piece bytes) ≡ size_behind off (length piece) (length bytes)
written-length off [] bytes = refl
written-length off (byte ∷ piece) bytes =
    let rest = length-drop (off + length (byte ∷ piece)) bytes in
    let some-piece : List ℕ = byte ∷ piece in
    let all = length-append (cut_or_padded off bytes ++ some-piece) (drop (off + length some-piece) bytes) in
    let front = length-append (cut_or_padded off bytes) some-piece in
    let cut = cut-length off bytes in
    let sum : length (written_at off (byte ∷ piece) bytes) ≡ max (length bytes) (off + length (byte ∷ piece)) = omega (arith, rest, front, all, cut) in
    sum ∙ some (length (byte ∷ piece)) (omega arith)
  where
    some : (n : ℕ) → 0 < n → max (length bytes) (off + n) ≡ size_behind off n (length bytes)
    some n h = grind (arith, nat_tests)

-- the told bytes are as many as the file has
told-length : (f : CellFile) → IsCellFile f → IfSome (told_bytes f) (λ bytes. length bytes ≡ f.size)
told-length f h = by f.state.device.contents refl
  where
    by : (o : Option (List (List ℕ))) → f.state.device.contents ≡ o → IfSome (told_bytes f) (λ bytes. length bytes ≡ f.size)
    by None e = rw e tt
    by (Some told) e =
        let all = all-length f told (h.whole told e) in
        let inside = h.size in
        rw e (length-take-le f.size (all_bytes f.state.space told) (omega (arith, all, inside)))

-- there are bytes that the file may have, and where this piece was read of it they have it there
pub record Holds (f : CellFile) (off : ℕ) (piece : List ℕ) : Type 0 where
  pub bytes : List ℕ
  pub may : MayHold f bytes
  pub there : take (length piece) (drop off bytes) ≡ piece

pub holds : (f : CellFile) (off : ℕ) (piece : List ℕ) → IsCellFile f → off + length piece ≤ f.size →
    IfSome (told_bytes f) (λ told. piece ≡ take (length piece) (drop off told)) → Holds f off piece
holds f off piece h fits read = by (told_bytes f) refl (told-length f h)
  where
    by : (o : Option (List ℕ)) → told_bytes f ≡ o → IfSome (told_bytes f) (λ bytes. length bytes ≡ f.size) → Holds f off piece
    by (Some told) e size = record {
      bytes = told;
      may = record { size = rw e at size; told = rw e refl };
      there = sym (rw e at read);
    }
    by None e size =
        let front : List ℕ = replicate off 0 in
        let back : List ℕ = replicate (f.size - off - length piece) 0 in
        let gap : length front ≡ off = length-replicate off 0 in
        let behind : length back ≡ f.size - off - length piece = length-replicate (f.size - off - length piece) 0 in
        let two = length-append piece back in
        let all = length-append front (piece ++ back) in record {
          bytes = front ++ (piece ++ back);
          may = record { size = omega (arith, gap, behind, two, all, fits); told = rw e tt };
          there = ap (take (length piece)) (drop-over front (piece ++ back) 0 off (omega (arith, gap)))
              ∙ take-over piece back 0 (length piece) (omega arith) ∙ append-none piece;
        }
      where
        append-none : (xs : List ℕ) → xs ++ take 0 (replicate (f.size - off - length piece) 0) ≡ xs
        append-none [] = refl
        append-none (x ∷ xs) = ap (λ ys. x ∷ ys) (append-none xs)

-- there are bytes that the file may have
pub holds-some : (f : CellFile) → IsCellFile f → Holds f 0 []
holds-some f h = holds f 0 [] h (omega arith) (nothing (told_bytes f))
  where
    nothing : (o : Option (List ℕ)) → IfSome o (λ told. [] ≡ take 0 (drop 0 told))
    nothing None = tt
    nothing (Some told) = refl

-- what the file holds then that a change leaves
pub holds-changed : (f g : CellFile) (change : List ℕ → List ℕ) (bytes : List ℕ) → MayHold f bytes → told_bytes g ≡ option_map change (told_bytes f) → length (change bytes) ≡ g.size →
    MayHold g (change bytes)
holds-changed f g change bytes may told size = record { size = size; told = rw told (by (told_bytes f) may.told) }
  where
    by : (o : Option (List ℕ)) → IfSome o (λ t. bytes ≡ t) → IfSome (option_map change o) (λ t. change bytes ≡ t)
    by None e = tt
    by (Some t) e = ap change e

-- a step that moved no byte leaves what was there
pub left-same : {X : Type 0} (m : Mark) (n : ℕ) (a b : X) → ((moved_under m n ≡ 0) → b ≡ a) → left_under m a b ≡ b
left-same mark.Clear n a b h = refl
left-same {X} (mark.Fault moved) n a b h = by (moved == 0) refl
  where
    by : (t : Bool) → (moved == 0) ≡ t → (if moved == 0 then a else b) ≡ b
    by true e = rw e (sym (h (same-number moved 0 e)))
    by false e = rw e refl
left-same {X} (mark.NoMem moved) n a b h = by (moved == 0) refl
  where
    by : (t : Bool) → (moved == 0) ≡ t → (if moved == 0 then a else b) ≡ b
    by true e = rw e (sym (h (same-number moved 0 e)))
    by false e = rw e refl

-- a step that moves no byte is stopped at none
stops-at-none : (moved : ℕ) → (moved == 0 || nat_lt moved 0) ≡ true → (moved == 0) ≡ true
stops-at-none moved h = grind (arith, nat_tests)

-- a truncation leaves what its mark says
pub left-cut : (m : Mark) (len : ℕ) (bytes : List ℕ) → is_within m 0 ≡ true → left_under m bytes (cut_or_padded len bytes) ≡ cut_under m len bytes
left-cut mark.Clear len bytes within = refl
left-cut (mark.Fault moved) len bytes within = rw (stops-at-none moved within) refl
left-cut (mark.NoMem moved) len bytes within = rw (stops-at-none moved within) refl

pub cut-size : (m : Mark) (len size : ℕ) (bytes : List ℕ) → length bytes ≡ size → length (cut_under m len bytes) ≡ size_under m len size
cut-size mark.Clear len size bytes e = cut-length len bytes
cut-size (mark.Fault moved) len size bytes e = e
cut-size (mark.NoMem moved) len size bytes e = e
