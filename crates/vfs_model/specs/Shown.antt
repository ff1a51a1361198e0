-- What the shell shows for a line.
use Rattle.std.specs.Prelude.{ℕ, ◌-◌, nat_lt, List, [], ◌∷◌, ◌++◌, length, codes, replicate, if◌then◌else◌}

-- the text for a line that no form fits
abbrev pub bad_line_text : List ℕ
bad_line_text = codes "msh: bad line" ++ 10 ∷ []

-- the spaces behind a name: up to 20 bytes in all, and at least one
abbrev pub padding : List ℕ → List ℕ
padding name = replicate (if nat_lt (length name) 20 then 20 - length name else 1) 32
