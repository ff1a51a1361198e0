-- How many holders each path has, and each file without a name.
use Rattle.std.specs.Prelude.{ℕ, ◌+◌, not, Option, Some, None, unwrap_or, option_map, List, [], ◌∷◌, ◌++◌, map, filter, filter_map, flat_map, find, fold}
use Rattle.std.specs.FinMap.Entries.{find as value_at, put}
use Rattle.std.specs.Ordering.{nat_cmp}
use Rattle.std.specs.declared.cmp.Ordering.{Ordering}
use Rattle.vfs_base.specs.Path.{Path, path_cmp}
use Rattle.vfs_base.specs.declared.reply.HolderLine.{HolderLine}
use Rattle.vfs_base.specs.declared.reply.HolderPlace.TheVariants as place
use Rattle.vfs_model.specs.FileLife.{is_file_of_row, is_linked}
use Rattle.vfs_model.specs.Namespace.{all_mounts, tree_of}
use Rattle.vfs_model.specs.declared.namespace.Mount.{Mount}
use Rattle.vfs_model.specs.declared.namespace.Namespace.{Namespace}
use Rattle.vfs_model.specs.declared.namespace.Reference.{Reference}

-- where the row's file stands in a mount's tree
abbrev pub path_in_mount : Namespace → ℕ → Mount → Option Path
path_in_mount n row mount =
    option_map (λ entry. mount.point ++ entry.0) (find (λ entry. is_file_of_row row entry.1) (tree_of n mount.number))

-- the paths at which a row's file stands: one, or none where the file has no name any more
abbrev pub paths_of_row : Namespace → ℕ → List Path
paths_of_row n row = filter_map (path_in_mount n row) (all_mounts n)

abbrev pub reference_paths : Namespace → Option Reference → List Path
reference_paths n None = []
reference_paths n (Some reference) = paths_of_row n reference.file.row

-- the path of each holder: a reference to the file that stands there, a session's working directory, or a mount
abbrev pub holder_paths : Namespace → List Path
holder_paths n = flat_map (reference_paths n) n.references ++ n.working_directories ++ map (λ mount. mount.point) (all_mounts n)

-- the row of a reference whose file has no name any more
abbrev pub nameless_row : Namespace → Option Reference → List ℕ
nameless_row n None = []
nameless_row n (Some reference) = filter (λ row. not (is_linked n row)) (reference.file.row ∷ [])

abbrev pub nameless_rows : Namespace → List ℕ
nameless_rows n = flat_map (nameless_row n) n.references

-- one more of the key
abbrev pub count_one : {K : Type 0} → (K → K → Ordering) → List (K × ℕ) → K → List (K × ℕ)
count_one R counts key = put R key (unwrap_or (value_at R key counts) 0 + 1) counts

-- how often each key stands in the list, in the order of keys
abbrev pub counted : {K : Type 0} → (K → K → Ordering) → List K → List (K × ℕ)
counted R keys = fold (count_one R) [] keys

abbrev pub path_line : (Path × ℕ) → HolderLine
path_line entry = record { place = place.At entry.0; count = entry.1 }

abbrev pub row_line : (ℕ × ℕ) → HolderLine
row_line entry = record { place = place.Row entry.0; count = entry.1 }

-- the holders of each path that has any, in the order of paths, and then of each file without a name, by row
unfoldable pub holder_lines : Namespace → List HolderLine
holder_lines n = map path_line (counted path_cmp (holder_paths n)) ++ map row_line (counted nat_cmp (nameless_rows n))
