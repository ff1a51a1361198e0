-- The first entry of a path, and what stands there.
use Rattle.std.proofs.Common.{◌≡◌, ℕ, ◌+◌, ◌<◌, true, false, cond, List, ◌∷◌, length, drop, slice_index_or, sym, ap, ◌∙◌}
use Rattle.std.specs.Prelude.{Some}
use Rattle.std.proofs.lemmas.List.{drop_more}
use Rattle.std.specs.FinMap.Entries.{find as value_at}
use Rattle.std.specs.Ordering.{eq_by_cmp}
use Rattle.vfs_base.specs.Path.{Path, path_cmp}

-- the entries from a place on begin with the entry at the place
from_place : {V : Type 0} (path : Path) (entries : List (Path × V)) (place : ℕ) (entry : Path × V) → place < length entries →
    entry ≡ slice_index_or entries place entry →
    value_at path_cmp path (drop place entries) ≡ value_at path_cmp path (entry ∷ drop (place + 1) entries)
from_place path entries place entry h e =
    ap (value_at path_cmp path) (drop_more entries place entry h)
    ∙ ap (λ first. value_at path_cmp path (first ∷ drop (place + 1) entries)) (sym e)

pub found_at : {V : Type 0} (path : Path) (entries : List (Path × V)) (place : ℕ) (entry : Path × V) → place < length entries →
    entry ≡ slice_index_or entries place entry → eq_by_cmp path_cmp path entry.0 ≡ true →
    value_at path_cmp path (drop place entries) ≡ Some entry.1
found_at path entries place entry h e same =
    from_place path entries place entry h e
    ∙ ap (λ test. cond test (Some entry.1) (value_at path_cmp path (drop (place + 1) entries))) same

pub passed_at : {V : Type 0} (path : Path) (entries : List (Path × V)) (place : ℕ) (entry : Path × V) → place < length entries →
    entry ≡ slice_index_or entries place entry → eq_by_cmp path_cmp path entry.0 ≡ false →
    value_at path_cmp path (drop place entries) ≡ value_at path_cmp path (drop (place + 1) entries)
passed_at path entries place entry h e other =
    from_place path entries place entry h e
    ∙ ap (λ test. cond test (Some entry.1) (value_at path_cmp path (drop (place + 1) entries))) other
