-- The exit steps of a session: the first of several lists, what is left of them, and how many there are.
use Rattle.std.proofs.Common.{◌≡◌, ◌∙◌, ℕ, zero, suc, ◌+◌, ◌<◌, ◌≤◌, Bool, true, false, Option, Some, None, List, [], ◌∷◌, ◌++◌, drop, length, refl, sym, ap, arith}
use Rattle.std.proofs.lemmas.List.{drop-drop}
use Rattle.std.proofs.lemmas.Option.{slice_get_within}
use Rattle.std.proofs.lemmas.Bool.{cond_both}
use Rattle.std.specs.List.{filter_map, list_any}
use Rattle.std.specs.Prelude.{slice_get, is_some}
use Rattle.vfs_base.specs.declared.limits.TheConstants.{DESCRIPTORS, WINDOWS}
use Rattle.vfs_model.specs.DescriptorLaws.{IsSound}
use Rattle.vfs_model.specs.OpenFiles.{leads_to}
use Rattle.vfs_model.specs.Session.{close_step, files_to_close, unmap_step}
use Rattle.vfs_model.specs.declared.shell_state.ShellState.{ShellState}

pub first-dropped : {X : Type 0} (n : ℕ) (xs : List X) → slice_get (drop n xs) 0 ≡ slice_get xs n
first-dropped zero xs = refl
first-dropped (suc n) [] = refl
first-dropped (suc n) (x ∷ xs) = first-dropped n xs

pub next-dropped : {X : Type 0} (n : ℕ) (xs : List X) → drop 1 (drop n xs) ≡ drop (n + 1) xs
next-dropped n xs = drop-drop 1 n xs

-- the list has a first
abbrev pub has_first : {X : Type 0} → List X → Bool
has_first xs = is_some (slice_get xs 0)

-- where something is left behind a place, the place is in the list
pub place-few : {X : Type 0} (n bound : ℕ) (xs : List X) → length xs ≤ bound → has_first (drop n xs) ≡ true → n < bound
place-few {X = X} n bound xs few left = by_place (slice_get xs n) refl (sym (ap is_some (first-dropped n xs)) ∙ left)
  where
    by_place : (found : Option X) → slice_get xs n ≡ found → is_some found ≡ true → n < bound
    by_place None e h = absurd (cc)
    by_place (Some x) e h = let within = slice_get_within xs n x e in omega arith

-- The first of the four lists that has a first loses it.

pub first-goes : {X : Type 0} (a b c d : List X) → has_first a ≡ true → drop 1 a ++ b ++ c ++ d ≡ drop 1 (a ++ b ++ c ++ d)
first-goes [] b c d left = absurd (cc)
first-goes (x ∷ a) b c d left = refl

pub second-goes : {X : Type 0} (a b c d : List X) → has_first a ≡ false → has_first b ≡ true → a ++ drop 1 b ++ c ++ d ≡ drop 1 (a ++ b ++ c ++ d)
second-goes [] [] c d none left = absurd (cc)
second-goes [] (x ∷ b) c d none left = refl
second-goes (y ∷ a) b c d none left = absurd (cc)

pub third-goes : {X : Type 0} (a b c d : List X) → has_first a ≡ false → has_first b ≡ false → has_first c ≡ true →
    a ++ b ++ drop 1 c ++ d ≡ drop 1 (a ++ b ++ c ++ d)
third-goes [] [] [] d none nothing left = absurd (cc)
third-goes [] [] (x ∷ c) d none nothing left = refl
third-goes [] (y ∷ b) c d none nothing left = absurd (cc)
third-goes (y ∷ a) b c d none nothing left = absurd (cc)

pub fourth-goes : {X : Type 0} (a b c d : List X) → has_first a ≡ false → has_first b ≡ false → has_first c ≡ false →
    a ++ b ++ c ++ drop 1 d ≡ drop 1 (a ++ b ++ c ++ d)
fourth-goes [] [] [] d none nothing neither = refl
fourth-goes [] [] (y ∷ c) d none nothing neither = absurd (cc)
fourth-goes [] (y ∷ b) c d none nothing neither = absurd (cc)
fourth-goes (y ∷ a) b c d none nothing neither = absurd (cc)

-- How many exit steps there are.

filtered-few : {X Y : Type 0} (f : X → Option Y) (xs : List X) → length (filter_map f xs) ≤ length xs
filtered-few f [] = omega arith
filtered-few {Y = Y} f (x ∷ xs) = by_item (f x) refl (filtered-few f xs)
  where
    by_item : (found : Option Y) → f x ≡ found → length (filter_map f xs) ≤ length xs → length (filter_map f (x ∷ xs)) ≤ suc (length xs)
    by_item None e few = rw e (omega arith)
    by_item (Some y) e few = rw e (omega arith)

files-few : (descriptors : List (Option ℕ)) → length (files_to_close descriptors) ≤ length descriptors
files-few [] = omega arith
files-few (None ∷ later) = let few = files-few later in omega arith
files-few (Some number ∷ later) =
    let few = files-few later in
    cond_both (list_any (leads_to number) later) (files_to_close later) (number ∷ files_to_close later) (λ files. length files ≤ suc (length later)) (λ _. omega arith) (λ _. omega arith)

-- there are at most as many mappings to give up as places for them
pub unmaps-few : (state : ShellState) → length state.mappings ≡ WINDOWS → length (filter_map unmap_step state.mappings) ≤ WINDOWS
unmaps-few state count = let few = filtered-few unmap_step state.mappings in omega arith

-- and at most as many open files to close as descriptors
pub closes-few : (state : ShellState) → IsSound state.open_files →
    length (filter_map (close_step state.open_files) (files_to_close state.open_files.descriptors)) ≤ DESCRIPTORS
closes-few state sound =
    let few = filtered-few (close_step state.open_files) (files_to_close state.open_files.descriptors) in
    let files = files-few state.open_files.descriptors in
    let all = sound.descriptors in
    omega arith
