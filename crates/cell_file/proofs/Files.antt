-- A file on a cell, before and after a call.
use Rattle.std.specs.Prelude.{◌≡◌, ℕ, suc, ◌+◌, ◌-◌, ◌*◌, ◌≤◌, ◌==◌, ◌||◌, true, false, nat_lt, max, Option, Some, None, is_some, option_map, List, [], ◌∷◌, length, take, drop, replicate, refl, if◌then◌else◌}
use Rattle.std.proofs.Common.{sym, ◌∙◌, ap, ap₂, subst, arith}
use Rattle.std.proofs.lemmas.Bool.Decides.{nat_tests}
use Rattle.std.proofs.lemmas.List.{drop-take, length-take-le, take-take, take_at}
use Rattle.std.specs.List.{concat}
use Rattle.vfs_base.specs.declared.entry.Mark.{Mark}
use Rattle.vfs_base.specs.declared.entry.Mark.TheVariants as mark
use Rattle.vfs_base.specs.declared.limits.TheConstants.{CELL_PAGES_MAX, PAGE_SIZE}
use Rattle.vfs_model.specs.FileStep.{cut_or_padded, written_at}
use Rattle.page_cache.specs.AddressSpace.{AddressSpace, KeepsPages, Moment, file_pages}
use Rattle.page_cache.specs.Resident.{spliced}
use Rattle.page_cache.proofs.Found.{differs}
use Rattle.page_cache.proofs.Held.{spliced-length}
use Rattle.cell_file.specs.CellFile.{CellFile, IsCellFile, IsWhole, ReadsFile, all_bytes, capacity, cut_under, is_within, moved_under, size_behind, size_under, told_bytes}
use Rattle.cell_file.specs.Moves.{Runs, StepWay}
use Rattle.cell_file.specs.Parts.{CutsBytes, CutsUnder, EditsBytes, EditsUnder, Reads}
use Rattle.cell_file.proofs.Flat.{drop-over, flat-length, splice-none}
use Rattle.cell_file.proofs.SizedBytes.{cut-or-padded, piece-written, zeros-behind, zeros-further}
use Rattle.cell_file.proofs.Told.{whole-kept}
use Rattle.cell_file.proofs.Touching.{pages-count}

-- what the calls of a step leave of its device as it was
pub record SameDevice (a b : Moment) : Type 0 where
  pub pages : b.device.pages ≡ a.device.pages
  pub told : is_some b.device.contents ≡ is_some a.device.contents

pub same-device : (way : StepWay) (a b : Moment) (m : Mark) → Runs way a b m → SameDevice a b
same-device way a b mark.Clear h = record { pages = h.calls.pages; told = h.calls.told }
same-device way a b (mark.Fault moved) h = record { pages = h.calls.pages; told = h.calls.told }
same-device way a b (mark.NoMem moved) h = record { pages = h.calls.pages; told = h.calls.told }

-- what the cell holds afterwards, where the device tells it
pub record Becomes (f g : CellFile) (change : List ℕ → List ℕ) (told now : List (List ℕ)) : Type 0 where
  pub told_now : g.state.device.contents ≡ Some now
  pub whole : IsWhole g.state.space now
  pub bytes : take g.size (all_bytes g.state.space now) ≡ change (take f.size (all_bytes f.state.space told))
  pub zeros : drop g.size (all_bytes g.state.space now) ≡ replicate (capacity g - g.size) 0

-- A call leaves a file of the same cell, whose bytes have changed so.
pub record Leaves (f g : CellFile) (change : List ℕ → List ℕ) : Type 0 where
  pub sound : IsCellFile g
  pub bytes : told_bytes g ≡ option_map change (told_bytes f)

pub file-after : (f g : CellFile) (change : List ℕ → List ℕ) → IsCellFile f → g.state.space.pages ≡ f.state.space.pages → SameDevice f.state g.state → g.size ≤ capacity f →
    ((told : List (List ℕ)) → f.state.device.contents ≡ Some told → (now : List (List ℕ)) × Becomes f g change told now) → Leaves f g change
file-after f g change h pages device size after = record {
  sound = record {
    pages = device.pages ∙ h.pages ∙ sym pages;
    few = subst (λ n. n ≤ CELL_PAGES_MAX) (sym pages) h.few;
    size = subst (λ n. g.size ≤ PAGE_SIZE * n) (sym pages) size;
    whole = λ now e. let at = back now e in subst (IsWhole g.state.space) (same (after at.0 at.1).0 now ((after at.0 at.1).1.told_now) e) (after at.0 at.1).1.whole;
    zeros = λ now e. let at = back now e in
        subst (λ told. drop g.size (all_bytes g.state.space told) ≡ replicate (capacity g - g.size) 0) (same (after at.0 at.1).0 now ((after at.0 at.1).1.told_now) e) (after at.0 at.1).1.zeros;
  };
  bytes = by f.state.device.contents refl;
}
  where
    same : (x y : List (List ℕ)) → g.state.device.contents ≡ Some x → g.state.device.contents ≡ Some y → x ≡ y
    same x y p q = let e : Some x ≡ Some y = sym p ∙ q in cc

    back : (now : List (List ℕ)) → g.state.device.contents ≡ Some now → (told : List (List ℕ)) × (f.state.device.contents ≡ Some told)
    back now e = found f.state.device.contents refl
      where
        found : (o : Option (List (List ℕ))) → f.state.device.contents ≡ o → (told : List (List ℕ)) × (f.state.device.contents ≡ Some told)
        found (Some told) p = (told, p)
        found None p = absurd (let a : is_some (Some now) ≡ false = ap is_some (sym e) ∙ device.told ∙ ap is_some p in cc)

    none : (o : Option (List (List ℕ))) → is_some o ≡ false → o ≡ None
    none None e = refl
    none (Some x) e = absurd (cc)

    by : (o : Option (List (List ℕ))) → f.state.device.contents ≡ o → told_bytes g ≡ option_map change (told_bytes f)
    by None p =
        let away = none g.state.device.contents (device.told ∙ ap is_some p) in
        rw p (rw away refl)
    by (Some told) p =
        let now = after told p in
        rw p (rw now.1.told_now (ap Some now.1.bytes))

-- as many bytes as there are pages for
pub all-size : (a : AddressSpace) (told : List (List ℕ)) → IsWhole a told → length (all_bytes a told) ≡ PAGE_SIZE * a.pages
all-size a told h = flat-length (file_pages a told) h.whole ∙ ap (λ n. PAGE_SIZE * n) (pages-count a told)

-- the cell's bytes are as many as it has pages for
pub all-length : (f : CellFile) (told : List (List ℕ)) → IsWhole f.state.space told → length (all_bytes f.state.space told) ≡ capacity f
all-length f told h = all-size f.state.space told h

-- the pages are as they were
pub file-kept : (f g : CellFile) → IsCellFile f → g.state.space.pages ≡ f.state.space.pages → SameDevice f.state g.state → g.size ≡ f.size → KeepsPages f.state g.state → Leaves f g (λ bytes. bytes)
file-kept f g h pages device size kept = file-after f g (λ bytes. bytes) h pages device (subst (λ n. n ≤ capacity f) (sym size) h.size) (λ told e.
    let now = kept told e (h.whole told e).current in
    let bytes : all_bytes g.state.space now.0 ≡ all_bytes f.state.space told = ap concat now.2.same in (
      now.0,
      record {
        told_now = now.1;
        whole = whole-kept f.state.space g.state.space told now.0 (h.whole told e) now.2;
        bytes = ap₂ take size bytes;
        zeros = ap₂ drop size bytes ∙ h.zeros told e ∙ ap₂ (λ n k. replicate (PAGE_SIZE * n - k) 0) (sym pages) (sym size);
      },
    ))

-- a piece was put among the cell's bytes
pub file-written : (f g : CellFile) (off : ℕ) (piece : List ℕ) → IsCellFile f → g.state.space.pages ≡ f.state.space.pages → SameDevice f.state g.state → off + length piece ≤ capacity f →
    g.size ≡ size_behind off (length piece) f.size → EditsBytes off piece f.state g.state → Leaves f g (written_at off piece)
file-written f g off [] h pages device fits size edits = file-after f g (written_at off []) h pages device (subst (λ n. n ≤ capacity f) (sym size) h.size) (λ told e.
    let now = edits told e (h.whole told e) in
    let bytes : all_bytes g.state.space now.0 ≡ all_bytes f.state.space told = now.3 ∙ splice-none off (all_bytes f.state.space told) in (
      now.0,
      record {
        told_now = now.1;
        whole = now.2;
        bytes = ap₂ take size bytes;
        zeros = ap₂ drop size bytes ∙ h.zeros told e ∙ ap₂ (λ n k. replicate (PAGE_SIZE * n - k) 0) (sym pages) (sym size);
      },
    ))
file-written f g off (x ∷ xs) h pages device fits size edits =
    let inside = h.size in
    let end : g.size ≡ max f.size (off + length (x ∷ xs)) =
    size ∙ ap (λ t. if t then f.size else max f.size (off + length (x ∷ xs))) (differs (length (x ∷ xs)) 0 (λ e. absurd (let k : suc (length xs) ≡ 0 = e in omega (arith, k)))) in
    file-after f g (written_at off (x ∷ xs)) h pages device (omega (arith, end, fits, inside)) (λ told e.
    let now = edits told e (h.whole told e) in
    let W : List ℕ = all_bytes f.state.space told in
    let count = all-length f told (h.whole told e) in
    let room = all-length g now.0 now.2 in
    let zeros : drop f.size W ≡ replicate (length W - f.size) 0 = h.zeros told e ∙ ap (λ n. replicate (n - f.size) 0) (sym count) in
    let same : length (spliced off (x ∷ xs) W) ≡ length W = spliced-length off (x ∷ xs) W (omega (arith, count, fits)) in (
      now.0,
      record {
        told_now = now.1;
        whole = now.2;
        bytes = ap₂ take end now.3 ∙ piece-written W (x ∷ xs) off f.size (omega (arith, count, inside)) (omega (arith, count, fits)) (λ none. absurd (cc)) zeros;
        zeros = ap (drop g.size) now.3
            ∙ zeros-behind W (x ∷ xs) off f.size g.size (omega (arith, end)) (omega (arith, end)) (omega (arith, count, fits)) same zeros
            ∙ ap (λ n. replicate (n - g.size) 0) (ap length (sym now.3) ∙ room);
      },
    ))

-- the bytes behind a length are zeros now, and the file ends there
pub file-cut : (f g : CellFile) (len : ℕ) → IsCellFile f → g.state.space.pages ≡ f.state.space.pages → SameDevice f.state g.state → len ≤ f.size → g.size ≡ len → CutsBytes len f.state g.state →
    Leaves f g (cut_or_padded len)
file-cut f g len h pages device shorter size cuts =
    let inside = h.size in
    file-after f g (cut_or_padded len) h pages device (omega (arith, size, shorter, inside)) (λ told e.
    let now = cuts told e (h.whole told e) in
    let W : List ℕ = all_bytes f.state.space told in
    let count = all-length f told (h.whole told e) in
    let zeros : drop f.size W ≡ replicate (length W - f.size) 0 = h.zeros told e ∙ ap (λ n. replicate (n - f.size) 0) (sym count) in
    let front : length (take len W) ≡ len = length-take-le len W (omega (arith, count, shorter, inside)) in (
      now.0,
      record {
        told_now = now.1;
        whole = now.2;
        bytes = ap₂ take size now.3 ∙ take_at (take len W) (replicate (length W - len) 0) len front
            ∙ cut-or-padded W f.size len (omega (arith, count, inside)) (omega (arith, count, shorter, inside)) zeros;
        zeros = ap₂ drop size now.3 ∙ drop-over (take len W) (replicate (length W - len) 0) 0 len (omega (arith, front))
            ∙ ap₂ (λ n k. replicate (n - k) 0) (count ∙ ap (λ n. PAGE_SIZE * n) (sym pages)) (sym size);
      },
    ))

-- the file ends later, behind zeros
pub file-padded : (f g : CellFile) (len : ℕ) → IsCellFile f → g.state ≡ f.state → f.size ≤ len → len ≤ capacity f → g.size ≡ len → Leaves f g (cut_or_padded len)
file-padded f g len h same longer inside size =
    let before = h.size in
    file-after f g (cut_or_padded len) h (ap (λ (m : Moment). m.space.pages) same) (record { pages = ap (λ (m : Moment). m.device.pages) same; told = ap (λ (m : Moment). is_some m.device.contents) same })
    (subst (λ n. n ≤ capacity f) (sym size) inside) (λ told e.
    let W : List ℕ = all_bytes f.state.space told in
    let count = all-length f told (h.whole told e) in
    let zeros : drop f.size W ≡ replicate (length W - f.size) 0 = h.zeros told e ∙ ap (λ n. replicate (n - f.size) 0) (sym count) in
    let bytes : all_bytes g.state.space told ≡ W = ap (λ (m : Moment). all_bytes m.space told) same in (
      told,
      record {
        told_now = ap (λ (m : Moment). m.device.contents) same ∙ e;
        whole = subst (λ (m : Moment). IsWhole m.space told) (sym same) (h.whole told e);
        bytes = ap₂ take size bytes ∙ cut-or-padded W f.size len (omega (arith, count, before)) (omega (arith, count, inside)) zeros;
        zeros = ap₂ drop size bytes ∙ zeros-further W f.size len longer zeros
            ∙ ap₂ (λ n k. replicate (n - k) 0) (count ∙ ap (λ (m : Moment). PAGE_SIZE * m.space.pages) (sym same)) (sym size);
      },
    ))

pub moved-low : (m : Mark) (count : ℕ) → is_within m count ≡ true → moved_under m count ≤ count
moved-low mark.Clear count h = omega arith
moved-low (mark.Fault moved) count h = low moved count h
  where
    low : (n k : ℕ) → (n == 0 || nat_lt n k) ≡ true → n ≤ k
    low n k h = grind (arith, nat_tests)
moved-low (mark.NoMem moved) count h = low moved count h
  where
    low : (n k : ℕ) → (n == 0 || nat_lt n k) ≡ true → n ≤ k
    low n k h = grind (arith, nat_tests)

-- what was read of the cell's bytes was read of the file's
pub file-read : (f : CellFile) (off : ℕ) (out : List ℕ) (m : Mark) → off + length out ≤ f.size → is_within m (length out) ≡ true → IsCellFile f → Reads off m out f.state → ReadsFile off m out f
file-read f off out m inside within h reads = by f.state.device.contents refl
  where
    by : (o : Option (List (List ℕ))) → f.state.device.contents ≡ o → ReadsFile off m out f
    by None e = rw e tt
    by (Some told) e =
        let W : List ℕ = all_bytes f.state.space told in
        let low = moved-low m (length out) within in
        let n : ℕ = moved_under m (length out) in
        rw e (reads told e (h.whole told e)
        ∙ take-take n (length out) (drop off W) low
        ∙ sym (ap (λ k. take n (drop off (take k W))) (let e : f.size ≡ off + (f.size - off) = omega (arith, inside) in e)
        ∙ ap (take n) (drop-take off (f.size - off) W) ∙ take-take n (f.size - off) (drop off W) (omega (arith, inside, low))))

-- a transfer put the first bytes of a piece among the cell's
pub file-edited : (f g : CellFile) (off : ℕ) (piece : List ℕ) (m : Mark) → IsCellFile f → g.state.space.pages ≡ f.state.space.pages → SameDevice f.state g.state → off + length piece ≤ capacity f →
    is_within m (length piece) ≡ true → g.size ≡ size_behind off (moved_under m (length piece)) f.size → EditsUnder off piece m f.state g.state →
    Leaves f g (written_at off (take (moved_under m (length piece)) piece))
file-edited f g off piece m h pages device fits within size edits =
    let moved : ℕ = moved_under m (length piece) in
    let low = moved-low m (length piece) within in
    let count : length (take moved piece) ≡ moved = length-take-le moved piece low in
    file-written f g off (take moved piece) h pages device (omega (arith, count, low, fits)) (size ∙ ap (λ n. size_behind off n f.size) (sym count)) edits

-- a file was cut, or that was stopped
pub file-truncated : (f g : CellFile) (len : ℕ) (m : Mark) → IsCellFile f → g.state.space.pages ≡ f.state.space.pages → SameDevice f.state g.state → len ≤ f.size →
    g.size ≡ size_under m len f.size → CutsUnder m len f.state g.state → Leaves f g (cut_under m len)
file-truncated f g len mark.Clear h pages device shorter size cuts = file-cut f g len h pages device shorter size cuts
file-truncated f g len (mark.Fault moved) h pages device shorter size kept = file-kept f g h pages device size kept
file-truncated f g len (mark.NoMem moved) h pages device shorter size kept = file-kept f g h pages device size kept

pub option-same : {X : Type 0} (o : Option X) → option_map (λ x. x) o ≡ o
option-same None = refl
option-same (Some x) = refl
