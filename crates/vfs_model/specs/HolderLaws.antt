-- Whom the lines of holders count.
use Rattle.std.specs.Prelude.{◌≡◌, ℕ, ◌+◌, ◌==◌, ◌<◌, T, Option, Some, unwrap_or, List, flat_map}
use Rattle.std.specs.FinMap.Entries.{find as value_at, is_sorted}
use Rattle.std.specs.List.{count_by}
use Rattle.std.specs.Ordering.{nat_cmp}
use Rattle.vfs_base.specs.Path.{Path, path_cmp}
use Rattle.vfs_model.specs.Holders.{counted, holder_paths, nameless_rows, reference_paths}
use Rattle.vfs_model.specs.Namespace.{all_mounts, same_path}
use Rattle.vfs_model.specs.declared.namespace.Namespace.{Namespace}

-- how many holders a path has: references to the file that stands there, sessions that stand in it, and mounts on it
abbrev pub holders_at : Namespace → Path → ℕ
holders_at n path =
    count_by (same_path path) (flat_map (reference_paths n) n.references)
    + count_by (same_path path) n.working_directories
    + count_by (λ mount. same_path path mount.point) (all_mounts n)

-- the lines have how often each key stands among the keys, in their order, and none for a key that does not
pub record CountsKeys {K : Type 0} (times : K → ℕ) (at : K → List (K × ℕ) → Option ℕ) (lines : List (K × ℕ)) : Type 0 where
  pub counts : (key : K) → unwrap_or (at key lines) 0 ≡ times key
  pub held : (key : K) (count : ℕ) → at key lines ≡ Some count → 0 < count

-- Each path has a line with the number of its holders, and each file without a name one with that of its references; nobody else has
-- a line, and the lines stand in the order of paths and of rows.
pub record CountsHolders (n : Namespace) : Type 0 where
  pub paths : CountsKeys (holders_at n) (value_at path_cmp) (counted path_cmp (holder_paths n))
  pub rows : CountsKeys (λ row. count_by (λ other. row == other) (nameless_rows n)) (value_at nat_cmp) (counted nat_cmp (nameless_rows n))
  pub paths_rise : T (is_sorted path_cmp (counted path_cmp (holder_paths n)))
  pub rows_rise : T (is_sorted nat_cmp (counted nat_cmp (nameless_rows n)))

abbrev pub HoldersAreCounted : Type 0
HoldersAreCounted = (n : Namespace) → CountsHolders n
