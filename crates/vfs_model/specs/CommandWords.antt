-- What the words of a command stand for: numbers, offsets, and how a file is opened.
use Rattle.std.specs.Prelude.{ℕ, ◌+◌, ◌==◌, Bool, ◌&&◌, nat_lt, nat_le, neg_ℤ, pos, ℤ, bit_and, Option, Some, None, List, [], ◌∷◌, length, codes, if◌then◌else◌}
use Rattle.std.specs.Cmp.Lexicographic.{pointwise}
use Rattle.std.specs.List.{list_all, slice_split}
use Rattle.std.specs.Option.{option_and_then, option_map}
use Rattle.std.specs.Str.Parse.{digits_value}
use Rattle.vfs_base.specs.declared.flags.OpenFlags.{OpenFlags}
use Rattle.vfs_base.specs.declared.limits.TheConstants.{OFF_MAX}
use Rattle.vfs_model.specs.CommandText.{usage}
use Rattle.vfs_model.specs.Talk.{Talk}

abbrev pub same_word : List ℕ → List ℕ → Bool
same_word a b = pointwise (λ x y. x == y) a b

abbrev pub is_digit : ℕ → Bool
is_digit byte = nat_le 48 byte && nat_le byte 57

-- the most digits of a number
abbrev pub max_digits : ℕ
max_digits = 19

-- 1 to 19 digits, zeros in front included, of a value up to the greatest offset
abbrev pub is_number : List ℕ → Bool
is_number word =
    nat_lt 0 (length word) && nat_le (length word) max_digits && list_all is_digit word && nat_le (digits_value 10 word) OFF_MAX

abbrev pub number_of : List ℕ → Option ℕ
number_of word = if is_number word then Some (digits_value 10 word) else None

-- a number, perhaps with a minus before it
abbrev pub offset_of : List ℕ → Option ℤ
offset_of [] = None
offset_of (byte ∷ bytes) =
    if byte == 45 then option_map (λ n. neg_ℤ (pos n)) (number_of bytes) else option_map pos (number_of (byte ∷ bytes))

-- the bits of `r`, `w` and `rw`
abbrev pub access_bits : List ℕ → Option ℕ
access_bits word =
    if same_word word (codes "r") then Some 1
    else if same_word word (codes "w") then Some 2
    else if same_word word (codes "rw") then Some 3
    else None

-- the bit of what may follow them
abbrev pub extra_bit : List ℕ → Option ℕ
extra_bit word =
    if same_word word (codes "creat") then Some 4
    else if same_word word (codes "excl") then Some 8
    else if same_word word (codes "trunc") then Some 16
    else if same_word word (codes "append") then Some 32
    else None

-- each at most once
abbrev pub with_extras : ℕ → List (List ℕ) → Option ℕ
with_extras bits [] = Some bits
with_extras bits (word ∷ words) =
    option_and_then (λ bit. if bit_and bits bit == bit then None else with_extras (bits + bit) words) (extra_bit word)

abbrev pub flag_bits : List (List ℕ) → Option ℕ
flag_bits [] = None
flag_bits (word ∷ words) = option_and_then (λ bits. with_extras bits words) (access_bits word)

abbrev pub flags : ℕ → OpenFlags
flags bits = record { 0 = bits }

-- `r`, `w` or `rw`, then any of `creat`, `excl`, `trunc` and `append`, with a comma before each
abbrev pub flags_of : List ℕ → Option OpenFlags
flags_of word = option_map flags (flag_bits (slice_split (λ byte. byte == 44) word))

-- the word has a meaning, or else the words are not those of the form
abbrev pub meaning : {X : Type 0} → List ℕ → Option X → (X → Talk) → Talk
meaning form (Some x) go = go x
meaning form None go = usage form

-- as many words as the form has, or else the words are not those of the form
abbrev pub no_word : List ℕ → Talk → List (List ℕ) → Talk
no_word form go [] = go
no_word form go (a ∷ words) = usage form

abbrev pub one_word : List ℕ → (List ℕ → Talk) → List (List ℕ) → Talk
one_word form go [] = usage form
one_word form go (a ∷ []) = go a
one_word form go (a ∷ b ∷ words) = usage form

abbrev pub two_words : List ℕ → (List ℕ → List ℕ → Talk) → List (List ℕ) → Talk
two_words form go [] = usage form
two_words form go (a ∷ []) = usage form
two_words form go (a ∷ b ∷ []) = go a b
two_words form go (a ∷ b ∷ c ∷ words) = usage form

abbrev pub three_words : List ℕ → (List ℕ → List ℕ → List ℕ → Talk) → List (List ℕ) → Talk
three_words form go [] = usage form
three_words form go (a ∷ []) = usage form
three_words form go (a ∷ b ∷ []) = usage form
three_words form go (a ∷ b ∷ c ∷ []) = go a b c
three_words form go (a ∷ b ∷ c ∷ d ∷ words) = usage form

abbrev pub four_words : List ℕ → (List ℕ → List ℕ → List ℕ → List ℕ → Talk) → List (List ℕ) → Talk
four_words form go [] = usage form
four_words form go (a ∷ []) = usage form
four_words form go (a ∷ b ∷ []) = usage form
four_words form go (a ∷ b ∷ c ∷ []) = usage form
four_words form go (a ∷ b ∷ c ∷ d ∷ []) = go a b c d
four_words form go (a ∷ b ∷ c ∷ d ∷ e ∷ words) = usage form
