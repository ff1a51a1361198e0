-- Where an entry is put into entries in the order of paths.
use Rattle.std.specs.Prelude.{Bool, true, false, not, List, [], ◌∷◌}
use Rattle.std.specs.Ordering.{is_gt}
use Rattle.vfs_base.specs.Path.{Path, path_cmp}
use Rattle.vfs_model.specs.Namespace.{same_path}

-- the path comes before the entries, or is that of the first one
abbrev pub comes_first : {X : Type 0} → Path → List (Path × X) → Bool
comes_first path [] = true
comes_first path (entry ∷ entries) = not (is_gt (path_cmp path entry.0))

-- the path is that of the first entry
abbrev pub begins_with : {X : Type 0} → Path → List (Path × X) → Bool
begins_with path [] = false
begins_with path (entry ∷ entries) = same_path path entry.0
