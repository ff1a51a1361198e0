-- The names that a path may have between its slashes.
use Rattle.std.specs.Prelude.{ℕ, ◌==◌, Bool, not, ◌&&◌, List, codes}
use Rattle.std.specs.Cmp.Lexicographic.{pointwise}

-- the two texts are the same
abbrev pub same_text : List ℕ → List ℕ → Bool
same_text a b = pointwise (λ x y. x == y) a b

-- neither `.` nor `..`
abbrev pub is_plain_name : List ℕ → Bool
is_plain_name name = not (same_text name (codes ".")) && not (same_text name (codes ".."))
