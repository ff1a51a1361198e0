-- How many rows are free, and one of them less after one was bound.
use Rattle.std.proofs.Common.{◌≡◌, ℕ, zero, suc, ◌+◌, ◌-◌, ◌<◌, Bool, true, false, Some, None, List, [], ◌∷◌, length, map, zip, slice_index_or, slice_set, refl, sym, ap, subst, ◌∙◌, arith}
use Rattle.std.proofs.lemmas.List.{map-set}
use Rattle.std.proofs.lemmas.List.Sums.{passes_at_first, sum_by-cons}
use Rattle.std.specs.List.{position_or_len}
use Rattle.std.specs.Prelude.{count_by}
use Rattle.vfs_model.specs.Boxes.{one_if}
use Rattle.vfs_model.specs.FileLife.{after_taking, bind_row, free_rows, is_free_row, least_free_row}
use Rattle.vfs_model.specs.Namespace.{generation_at}
use Rattle.vfs_model.specs.declared.namespace.Backing.{Backing}
use Rattle.vfs_model.specs.declared.namespace.LiveFile.{LiveFile}
use Rattle.vfs_model.specs.declared.namespace.Namespace.{Namespace}
use Rattle.world_laws.proofs.parts.Binding.{next_generations}
use Rattle.world_laws.proofs.steps.OpenKeeping.{FreeRow, free-at, taken-live_files}
use Rattle.world_laws.proofs.parts.Taking.{count-set, with_life}
use Rattle.std.proofs.lemmas.Slice.Zip.{length-zip}
use Rattle.std.specs.Prelude.{min}

zip-set : {A B : Type 0} (xs : List A) (ys : List B) (i : ℕ) (x : A) (y : B) → zip (slice_set xs i x) (slice_set ys i y) ≡ slice_set (zip xs ys) i (x, y)
zip-set [] ys i x y = refl
zip-set (a ∷ xs) [] zero x y = refl
zip-set (a ∷ xs) [] (suc i) x y = refl
zip-set (a ∷ xs) (b ∷ ys) zero x y = refl
zip-set (a ∷ xs) (b ∷ ys) (suc i) x y = ap (λ rest. (a, b) ∷ rest) (zip-set xs ys i x y)

abbrev pub free_count : Namespace → ℕ
free_count n = count_by (λ free. free) (free_rows n)

-- one of a list passes where the count isn't 0
pub first-passes : (xs : List Bool) → 0 < count_by (λ free. free) xs → position_or_len (λ free. free) xs < length xs
first-passes [] l = absurd (omega (arith, l))
first-passes (true ∷ xs) l = omega arith
first-passes (false ∷ xs) l =
    let more = sum_by-cons (λ free. one_if free) false xs in
    let later = first-passes xs (omega (arith, l, more)) in
    omega (arith, later)

length-mapped : {A : Type 0} (f : A → Bool) (xs : List A) → length (map f xs) ≡ length xs
length-mapped f [] = refl
length-mapped f (x ∷ xs) = ap suc (length-mapped f xs)

pub rows-length : (n : Namespace) → length n.live_files ≡ 1024 → length n.generations ≡ 1024 → length (free_rows n) ≡ 1024
rows-length n live_files generations =
    length-mapped (λ row. is_free_row row.0 row.1) (zip n.live_files n.generations) ∙ length-zip n.live_files n.generations ∙ both live_files generations
  where
    both : {a b : ℕ} → a ≡ 1024 → b ≡ 1024 → min a b ≡ 1024
    both e f = omega (arith, e, f)

-- a row is free where one of them is
pub some-free : (n : Namespace) → length n.live_files ≡ 1024 → length n.generations ≡ 1024 → 0 < free_count n → FreeRow n (least_free_row n)
some-free n live_files generations l =
    let at = position_or_len (λ free. free) (free_rows n) in
    let small : at < 1024 = subst (λ x. at < x) (rows-length n live_files generations) (first-passes (free_rows n) l) in
    let place : least_free_row n - 1 ≡ at = omega arith in
    record {
      counted = omega arith;
      small = omega (arith, small);
      free = ap (λ k. slice_index_or n.live_files k None) place ∙ free-at n live_files generations small;
    }

taken-free : (m : Namespace) (b : Backing) → free_count (after_taking m b) ≡ free_count m
taken-free m b =
    let same = taken-live_files m b in
    ap (λ live_files. count_by (λ free. free) (map (λ row. is_free_row row.0 row.1) (zip live_files (after_taking m b).generations))) same.0
    ∙ ap (λ generations. count_by (λ free. free) (map (λ row. is_free_row row.0 row.1) (zip m.live_files generations))) same.1

-- the least free row is bound
pub one-less : (n : Namespace) (life : LiveFile) → length n.live_files ≡ 1024 → length n.generations ≡ 1024 → 0 < free_count n → free_count (bind_row n (least_free_row n) life) + 1 ≡ free_count n
unfolding bind_row
one-less n life live_files generations l =
    let at = position_or_len (λ free. free) (free_rows n) in
    let row = least_free_row n in
    let place : row - 1 ≡ at = omega arith in
    let small : at < length (free_rows n) = first-passes (free_rows n) l in
    let taken : free_count (after_taking (with_life n row (Some life) (next_generations n row)) life.backing) ≡ free_count (with_life n row (Some life) (next_generations n row)) = taken-free _ life.backing in
    let set : free_rows (with_life n row (Some life) (next_generations n row)) ≡ slice_set (free_rows n) (row - 1) false =
    ap (map (λ row. is_free_row row.0 row.1)) (zip-set n.live_files n.generations (row - 1) (Some life) (generation_at n row + 1))
    ∙ map-set (λ row. is_free_row row.0 row.1) (zip n.live_files n.generations) (row - 1) (Some life, generation_at n row + 1) in
    let counted : count_by (λ free. free) (slice_set (free_rows n) (row - 1) false) + one_if (slice_index_or (free_rows n) (row - 1) false) ≡ free_count n + 0 =
    count-set (λ free. free) (free_rows n) (row - 1) false false (subst (λ x. x < length (free_rows n)) (sym place) small) in
    let was : one_if (slice_index_or (free_rows n) (row - 1) false) ≡ 1 =
    ap (λ k. one_if (slice_index_or (free_rows n) k false)) place ∙ ap one_if (passes_at_first (λ free. free) (free_rows n) false small) in
    let is : free_count (with_life n row (Some life) (next_generations n row)) ≡ count_by (λ free. free) (slice_set (free_rows n) (row - 1) false) = ap (count_by (λ free. free)) set in
    omega (arith, taken, counted, was, is)
