use Rattle.std.specs.Prelude.{◌≡◌, ℕ, Bool, true, not, ◌&&◌, ◌||◌, ◌==◌, List, length, nat_lt, nat_le}
use Rattle.std.specs.List.{list_all}

-- the byte `/`
abbrev pub slash : ℕ
slash = 47

-- a byte that may stand in a name: neither zero nor a slash
abbrev pub is_name_byte : ℕ → Bool
is_name_byte byte = not (byte == 0 || byte == slash)

-- the rule of names: 1 to 255 bytes, each of which may stand in one
abbrev pub is_name : List ℕ → Bool
is_name bytes = nat_lt 0 (length bytes) && nat_le (length bytes) 255 && list_all is_name_byte bytes

-- these bytes are a name
abbrev pub IsName : List ℕ → Type 0
IsName bytes = is_name bytes ≡ true
