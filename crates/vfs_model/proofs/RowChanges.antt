-- A list of changes acts row by row.
use Rattle.std.proofs.Common.{◌≡◌, ℕ, ◌-◌, ◌==◌, ◌<◌, ◌≤◌, Bool, true, false, ◌||◌, Option, Some, None, is_some, List, [], ◌∷◌, length, map, fold, slice_index_or, slice_set, if◌then◌else◌, refl, ap, ◌∙◌, arith}
use Rattle.std.proofs.lemmas.Bool.Decides.{nat_tests}
use Rattle.std.proofs.lemmas.List.{get_or-set_other, get_or-set_same, length-set}
use Rattle.std.proofs.lemmas.List.Elements.{All-head, All-tail}
use Rattle.std.specs.List.{All, list_any}
use Rattle.std.specs.Option.{option_or}
use Rattle.vfs_base.specs.declared.entry.Mark.TheVariants as mark
use Rattle.vfs_base.specs.declared.step.Step.{Step}
use Rattle.vfs_model.specs.Homes.{bound_file, change_row, file_at, with_file}
use Rattle.vfs_model.specs.NamespaceStep.{namespace_step, row_of_change, touched_rows}
use Rattle.vfs_model.specs.RowChange.{HasRow, before_change, change_of, changed_file, last_change, touches}
use Rattle.vfs_model.specs.declared.namespace.Namespace.{Namespace}
use Rattle.vfs_model.specs.declared.namespace.RowChange.{RowChange}
use Rattle.vfs_model.specs.declared.namespace.RowChange.TheVariants as change
use Rattle.vfs_model.specs.declared.world.FileState.{FileState}
use Rattle.vfs_model.specs.declared.world.FileState.TheVariants as file
use Rattle.vfs_model.specs.declared.world.WorldState.{WorldState}

-- a file put at one row, and what stands at a row then
put-at : (w : WorldState) (other row : ℕ) (f : FileState) (b : Bool) → (other == row) ≡ b → 0 < other → 0 < row → row ≤ length w.files →
    file_at (with_file w other f) row ≡ (if b then f else file_at w row)
put-at w other row f true e g h l =
    let same : other ≡ row = grind (arith, nat_tests, e) in
    let within : row - 1 < length w.files = omega (arith, h, l) in
    ap (λ k. slice_index_or (slice_set w.files (k - 1) f) (row - 1) (file.Unbound 0)) same
    ∙ get_or-set_same w.files (row - 1) f (file.Unbound 0) within
put-at w other row f false e g h l =
    get_or-set_other w.files (other - 1) (row - 1) f (file.Unbound 0) (λ same.
    let one : other ≡ row = omega (arith, same, g, h) in
    let test : (other == row) ≡ true = grind (arith, nat_tests, one) in
    cc (test, e))

one-change : (w : WorldState) (changed : RowChange) (row : ℕ) → HasRow changed → 0 < row → row ≤ length w.files →
    file_at (change_row w changed) row ≡ changed_file w (change_of row changed) (file_at w row)
one-change w (change.Bind bound begins) row g h l = by_test (bound.row == row) refl
  where
    by_test : (b : Bool) → (bound.row == row) ≡ b →
        file_at (with_file w bound.row (bound_file w bound.generation begins)) row
        ≡ changed_file w (if b then Some (change.Bind bound begins) else None) (file_at w row)
    by_test true e = put-at w bound.row row (bound_file w bound.generation begins) true e g h l
    by_test false e = put-at w bound.row row (bound_file w bound.generation begins) false e g h l
one-change w (change.Free freed ending) row g h l = by_test (freed.row == row) refl
  where
    by_test : (b : Bool) → (freed.row == row) ≡ b →
        file_at (with_file w freed.row (file.Unbound freed.generation)) row
        ≡ changed_file w (if b then Some (change.Free freed ending) else None) (file_at w row)
    by_test true e = put-at w freed.row row (file.Unbound freed.generation) true e g h l
    by_test false e = put-at w freed.row row (file.Unbound freed.generation) false e g h l

same-length : (w : WorldState) (changed : RowChange) → length (change_row w changed).files ≡ length w.files
same-length w (change.Bind bound begins) = length-set w.files (bound.row - 1) (bound_file w bound.generation begins)
same-length w (change.Free freed ending) = length-set w.files (freed.row - 1) (file.Unbound freed.generation)

-- one change, and then the later ones
joined : (w v : WorldState) (found f g : FileState) (later this : Option RowChange) → g ≡ changed_file w this f → found ≡ changed_file v later g →
    found ≡ changed_file (if is_some later then v else w) (option_or later this) f
joined w v found f g None this one e = e ∙ one
joined w v found f g (Some (change.Bind bound begins)) this one e = e
joined w v found f g (Some (change.Free freed ending)) this one e = e

pub acts-by-row : (w : WorldState) (changes : List RowChange) (row : ℕ) → All HasRow changes → 0 < row → row ≤ length w.files →
    file_at (fold change_row w changes) row ≡ changed_file (before_change row w changes) (last_change row changes) (file_at w row)
acts-by-row w [] row k h l = refl
acts-by-row w (changed ∷ changes) row k h l =
    let v = change_row w changed in
    let same = same-length w changed in
    let within : row ≤ length v.files = omega (arith, same, l) in
    joined w (before_change row v changes) (file_at (fold change_row v changes) row) (file_at w row) (file_at v row)
    (last_change row changes) (change_of row changed)
    (one-change w changed row (All-head HasRow changed changes k) h l)
    (acts-by-row v changes row (All-tail HasRow changed changes k) h within)

either-some : (later : Option RowChange) (test : Bool) (changed : RowChange) (any : Bool) → is_some later ≡ any →
    is_some (option_or later (if test then Some changed else None)) ≡ (test || any)
either-some None true changed any e = refl
either-some None false changed any e = e
either-some (Some x) true changed any e = refl
either-some (Some x) false changed any e = e

some-change : (row : ℕ) (changes : List RowChange) →
    is_some (last_change row changes) ≡ list_any (λ touched. touched == row) (map row_of_change changes)
some-change row [] = refl
some-change row (changed ∷ changes) =
    either-some (last_change row changes) (row_of_change changed == row) changed
    (list_any (λ touched. touched == row) (map row_of_change changes)) (some-change row changes)

pub touched-change : (n : Namespace) (k : ℕ) (asked : Step) (row : ℕ) →
    touches n k asked row ≡ list_any (λ touched. touched == row) (touched_rows n k asked)
unfolding touched_rows
touched-change n k asked row = some-change row (namespace_step n k asked mark.Clear).changes
