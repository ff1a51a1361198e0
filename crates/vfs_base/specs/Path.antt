use Rattle.std.specs.Prelude.{ℕ, List, [], ◌∷◌, ◌++◌}
use Rattle.std.specs.Cmp.Lexicographic.{slice_cmp}
use Rattle.std.specs.Ordering.{nat_cmp, ordering_then}
use Rattle.std.specs.declared.cmp.Ordering.{Ordering}
use Rattle.vfs_base.specs.Name.{slash, IsName}

-- what a contract sees of a path: its names, from the root on
abbrev pub Path : Type 0
Path = List (List ℕ)

-- the fact holds of each item
abbrev pub AllAre : {X : Type 0} → (X → Type 0) → List X → Type 0
AllAre P [] = Unit {0}
AllAre P (x ∷ xs) = P x × AllAre P xs

-- each part of the path is a name
abbrev pub IsPath : Path → Type 0
IsPath = AllAre IsName

-- each name with a slash before it
abbrev pub slashed : Path → List ℕ
slashed [] = []
slashed (name ∷ names) = slash ∷ name ++ slashed names

-- the printed form: that of the root is one slash
abbrev pub printed : Path → List ℕ
printed [] = slash ∷ []
printed (name ∷ names) = slashed (name ∷ names)

-- the order of lists of names, name by name
abbrev pub names_cmp : Path → Path → Ordering
names_cmp = slice_cmp (slice_cmp nat_cmp)

-- the order of paths: by printed bytes. Paths of names that print alike are the same, and need no
-- second part; with it the order tells all lists apart
abbrev pub path_cmp : Path → Path → Ordering
path_cmp p q = ordering_then (slice_cmp nat_cmp (printed p) (printed q)) (names_cmp p q)
