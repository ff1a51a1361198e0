-- Numbers as scripts and schedules write them: in decimal, without leading zeros.
use Rattle.std.specs.Prelude.{ℕ, ◌==◌, Bool, not, ◌&&◌, ◌||◌, nat_lt, nat_le, Option, Some, None, List, length, slice_index, if◌then◌else◌}
use Rattle.std.specs.List.{list_all}
use Rattle.std.specs.Str.Parse.{digits_value}

-- a digit, `0` to `9`
abbrev pub is_digit : ℕ → Bool
is_digit byte = nat_le 48 byte && nat_le byte 57

-- one digit, or more of which the first isn't a zero
abbrev pub is_numeral : List ℕ → Bool
is_numeral text =
    nat_lt 0 (length text) && list_all is_digit text && (length text == 1 || not (slice_index text 0 == 48))

-- the number is at least the one and at most the other
abbrev pub is_within : ℕ → ℕ → ℕ → Bool
is_within least most number = nat_le least number && nat_le number most

-- the number that the text writes, if it writes one in this range
abbrev pub number_within : ℕ → ℕ → List ℕ → Option ℕ
number_within least most text =
    if is_numeral text && is_within least most (digits_value 10 text) then Some (digits_value 10 text) else None
