-- How many paths and rows of holders there are at most.
use Rattle.std.proofs.Common.{◌≡◌, ◌+◌, ◌*◌, ◌≤◌, List, [], ◌∷◌, ◌++◌, length, map, arith}
use Rattle.std.specs.Prelude.{Option, Some, None, not, true, false, cond}
use Rattle.std.specs.List.{cons_option, filter_map, flat_map}
use Rattle.std.proofs.lemmas.List.{length-append, length-map}
use Rattle.vfs_base.specs.Path.{Path}
use Rattle.vfs_model.specs.FileLife.{is_linked}
use Rattle.vfs_model.specs.Holders.{holder_paths, nameless_row, nameless_rows, path_in_mount, reference_paths}
use Rattle.vfs_model.specs.Namespace.{all_mounts}
use Rattle.vfs_model.specs.declared.namespace.Mount.{Mount}
use Rattle.vfs_model.specs.declared.namespace.Namespace.{Namespace}
use Rattle.vfs_model.specs.declared.namespace.Reference.{Reference}
use Rattle.vfs_model.specs.Sizes.{IsSized}

filter_map_shrinks : {X Y : Type 0} (f : X → Option Y) (xs : List X) → length (filter_map f xs) ≤ length xs
filter_map_shrinks f [] = omega arith
filter_map_shrinks f (x ∷ xs) =
    let rest = filter_map_shrinks f xs in
    elim (f x) as (λ y. length (cons_option y (filter_map f xs)) ≤ length (x ∷ xs)) [
      | None ↦ omega (arith, rest)
      | Some y ↦ omega (arith, rest)
    ]

-- each piece has at most 16 items, one for each mount
pieces_fit : {X Y : Type 0} (f : X → List Y) → ((x : X) → length (f x) ≤ 16) → (xs : List X) → length (flat_map f xs) ≤ 16 * length xs
pieces_fit f h [] = omega arith
pieces_fit f h (x ∷ xs) = omega (arith, h x, pieces_fit f h xs, length-append (f x) (flat_map f xs))

row_paths_fit : (n : Namespace) → IsSized n → (reference : Option Reference) → length (reference_paths n reference) ≤ 16
row_paths_fit n s None = omega arith
row_paths_fit n s (Some reference) = omega (arith, filter_map_shrinks (path_in_mount n reference.file.row) (all_mounts n), s.mounts)

row_fits : (n : Namespace) (reference : Option Reference) → length (nameless_row n reference) ≤ 16
row_fits n None = omega arith
row_fits n (Some reference) = elim (is_linked n reference.file.row) as (λ b. length (cond (not b) (reference.file.row ∷ []) []) ≤ 16) [
  | true ↦ omega arith
  | false ↦ omega arith
]

pub paths_fit : (n : Namespace) → IsSized n → length (holder_paths n) ≤ 4294967295
paths_fit n s =
    let paths = flat_map (reference_paths n) n.references in
    let point : Mount → Path = λ mount. mount.point in
    let pieces = pieces_fit (reference_paths n) (row_paths_fit n s) n.references in
    let all : length (holder_paths n) ≡ length (paths ++ n.working_directories) + length (map point (all_mounts n)) = length-append (paths ++ n.working_directories) (map point (all_mounts n)) in
    let others = length-append paths n.working_directories in
    let same = length-map (all_mounts n) point in
    omega (arith, pieces, all, others, same, s.references, s.working_directories, s.mounts)

pub rows_fit : (n : Namespace) → IsSized n → length (nameless_rows n) ≤ 4294967295
rows_fit n s = omega (arith, pieces_fit (nameless_row n) (row_fits n) n.references, s.references)
