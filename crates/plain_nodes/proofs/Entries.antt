-- Finding by the order of paths is finding by equal paths.
use Rattle.std.proofs.Common.{◌≡◌, ℕ, ◌+◌, ◌<◌, List, ◌∷◌, length, drop, sym, ap, ◌∙◌}
use Rattle.std.specs.Prelude.{true, false, cond, Some, slice_index_or}
use Rattle.std.proofs.lemmas.List.{drop_more}
use Rattle.std.specs.FinMap.Entries.{find as value_at}
use Rattle.vfs_base.specs.Path.{Path, path_cmp}
use Rattle.vfs_base.specs.PathLaws.{path_ties}
use Rattle.vfs_model.specs.Namespace.{same_path}

found_here : {X : Type 0} (path : Path) (entry : Path × X) (entries : List (Path × X)) →
    same_path path entry.0 ≡ true → value_at path_cmp path (entry ∷ entries) ≡ Some entry.1
found_here path entry entries e = ap (λ b. cond b (Some entry.1) (value_at path_cmp path entries)) (sym (path_ties path entry.0) ∙ e)

found_later : {X : Type 0} (path : Path) (entry : Path × X) (entries : List (Path × X)) →
    same_path path entry.0 ≡ false → value_at path_cmp path (entry ∷ entries) ≡ value_at path_cmp path entries
found_later path entry entries e = ap (λ b. cond b (Some entry.1) (value_at path_cmp path entries)) (sym (path_ties path entry.0) ∙ e)

-- the entries from a place on, where an entry stands
from_place : {X : Type 0} (path : Path) (entries : List (Path × X)) (i : ℕ) (x : Path × X) → i < length entries →
    x ≡ slice_index_or entries i x →
    value_at path_cmp path (drop i entries) ≡ value_at path_cmp path (x ∷ drop (i + 1) entries)
from_place path entries i x h e =
    ap (value_at path_cmp path) (drop_more entries i x h)
    ∙ ap (λ y. value_at path_cmp path (y ∷ drop (i + 1) entries)) (sym e)

pub found_at : {X : Type 0} (path : Path) (entries : List (Path × X)) (i : ℕ) (x : Path × X) → i < length entries →
    x ≡ slice_index_or entries i x → same_path path x.0 ≡ true →
    value_at path_cmp path (drop i entries) ≡ Some x.1
found_at path entries i x h e t = from_place path entries i x h e ∙ found_here path x (drop (i + 1) entries) t

pub passed_at : {X : Type 0} (path : Path) (entries : List (Path × X)) (i : ℕ) (x : Path × X) → i < length entries →
    x ≡ slice_index_or entries i x → same_path path x.0 ≡ false →
    value_at path_cmp path (drop i entries) ≡ value_at path_cmp path (drop (i + 1) entries)
passed_at path entries i x h e t = from_place path entries i x h e ∙ found_later path x (drop (i + 1) entries) t
