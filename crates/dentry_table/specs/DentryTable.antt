-- What a contract sees of a `DentryTable`: how many holders each path has, and what becomes of these numbers.
use Rattle.std.specs.Prelude.{◌≡◌, ◌≢◌, ℕ, ◌+◌, ◌++◌, ◌==◌, true, false, not, filter, Option, Some, None, if◌then◌else◌}
use Rattle.std.specs.FinMap.Entries.{find as value_at}
use Rattle.vfs_base.specs.Path.{Path, path_cmp}
use Rattle.vfs_model.specs.Lookup.{is_below, is_prefix}
use Rattle.vfs_model.specs.Namespace.{same_path}
use Rattle.node_maps.specs.NodeMap.{NodeMap}

-- how many holders each path has, and the room of a planned move: the path to which it goes, or `[]`
pub record Dentries : Type 0 where
  pub counts : NodeMap ℕ
  pub room : Path

-- a move: what stands at and below one path is to stand at and below another
pub record Planned : Type 0 where
  pub from : Path
  pub to : Path

-- there is room for the move
abbrev pub HasRoom : Dentries → Planned → Type 0
HasRoom table plan = table.room ≡ plan.to

-- neither path stands at or below the other
pub record AreApart (from to : Path) : Type 0 where
  pub outside : is_prefix from to ≡ false
  pub above : is_prefix to from ≡ false

-- a number that may not be told is 0
abbrev pub told : Option ℕ → ℕ
told None = 0
told (Some count) = count

-- how many holders the path has
abbrev pub count_at : NodeMap ℕ → Path → ℕ
count_at table path = told (value_at path_cmp path table)

-- the paths that have holders, with their numbers
abbrev pub held : NodeMap ℕ → NodeMap ℕ
held table = filter (λ entry. not (entry.1 == 0)) table

-- one at the path itself, and none elsewhere
abbrev pub one_at : Path → Path → ℕ
one_at q path = if same_path q path then 1 else 0

-- no path has a holder
pub record HoldsNothing (table : NodeMap ℕ) : Type 0 where
  pub counts : (q : Path) → count_at table q ≡ 0

-- each path has as many holders as before
pub record SameCounts (old new : NodeMap ℕ) : Type 0 where
  pub counts : (q : Path) → count_at new q ≡ count_at old q

-- the path has one holder more, and each other path as many as before
pub record Raises (old new : NodeMap ℕ) (path : Path) : Type 0 where
  pub counts : (q : Path) → count_at new q ≡ count_at old q + one_at q path

-- the path has one holder less, and each other path as many as before
pub record Lowers (old new : NodeMap ℕ) (path : Path) : Type 0 where
  pub counts : (q : Path) → count_at new q + one_at q path ≡ count_at old q

-- the path has no holder, and each other path as many as before
pub record Takes (old new : NodeMap ℕ) (path : Path) : Type 0 where
  pub counts : (q : Path) → count_at new q ≡ (if same_path q path then 0 else count_at old q)

-- each path at and below `to` has the holders that the one at and below `from` had, and that one none;
-- each other path has as many as before
pub record Moves (old new : NodeMap ℕ) (from to : Path) : Type 0 where
  pub there : (rest : Path) → count_at new (to ++ rest) ≡ count_at old (from ++ rest)
  pub gone : (rest : Path) → count_at new (from ++ rest) ≡ 0
  pub others : (q : Path) → is_prefix from q ≡ false → is_prefix to q ≡ false → count_at new q ≡ count_at old q

-- no path below this one has a holder
pub record HoldsNothingBelow (table : NodeMap ℕ) (path : Path) : Type 0 where
  pub counts : (q : Path) → is_below path q ≡ true → count_at table q ≡ 0

-- a path below this one has a holder
pub record HoldsBelow (table : NodeMap ℕ) (path : Path) : Type 0 where
  pub place : Path
  pub below : is_below path place ≡ true
  pub held : count_at table place ≢ 0
