-- The names of a path in its printed bytes.
use Rattle.std.specs.Prelude.{ℕ, ◌==◌, List, [], ◌∷◌, if◌then◌else◌}
use Rattle.vfs_base.specs.Path.{Path}

-- bytes behind a slash: those of the first name, and the names behind it
pub record Names : Type 0 where
  pub first : List ℕ
  pub others : Path

-- a byte stands before them: a slash begins a further name
abbrev pub with_byte : ℕ → Names → Names
with_byte byte names =
    if byte == 47 then record { first = []; others = names.first ∷ names.others }
    else record { first = byte ∷ names.first; others = names.others }

abbrev pub names_of : List ℕ → Names
names_of [] = record { first = []; others = [] }
names_of (byte ∷ bytes) = with_byte byte (names_of bytes)

-- the path of these bytes, in which a slash stands before each name
abbrev pub path_of : List ℕ → Path
path_of bytes = (names_of bytes).others
