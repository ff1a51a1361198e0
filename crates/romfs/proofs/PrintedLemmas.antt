-- A rom's path is read from its printed form, and its bytes from their digits.
use Rattle.std.proofs.Common.{◌≡◌, ℕ, ◌-◌, ◌<◌, ◌==◌, true, false, ◌&&◌, ◌||◌, nat_lt, nat_le, Some, None, List, [], ◌∷◌, ◌++◌, length, All, refl, ap, ◌∙◌, arith, append-nil, le-leb, eqb-true}
use Rattle.std.specs.List.{list_all, list_any, before_first}
use Rattle.std.specs.Result.{result_ok}
use Rattle.std.proofs.lemmas.Bool.{and_parts, or_parts, not-true, or_from, not_from_false, false_from_ne_true, both_ways}
use Rattle.std.proofs.lemmas.List.Elements.{All-cons, All-weaker}
use Rattle.std.proofs.lemmas.List.Folds.{list_all-append}
use Rattle.std.proofs.lemmas.List.Splits.{slice_split_at, slice_split_none}
use Rattle.std.proofs.lemmas.List.Sums.{AllPass-from_list_all, list_all-from_AllPass}
use Rattle.hex.specs.Hex.{IsBytes, decode_of, encode_lower, is_hex_digit, lower_digits}
use Rattle.hex.proofs.HexLemmas.{decode_of-encode_lower, decode_pairs-encode_with, decode_pairs-ok, IsDigits-lower_digits, length-encode_with}
use Rattle.vfs_base.specs.Name.{slash, is_name, is_name_byte}
use Rattle.vfs_base.specs.Path.{Path, printed, slashed}
use Rattle.vfs_base.specs.declared.limits.TheConstants.{PATH_MAX}
use Rattle.vfs_model.specs.PlainName.{is_plain_name}
use Rattle.vfs_model.specs.Manifest.{rom_path, rom_bytes, is_space, behind_space}
use Rattle.vfs_model.specs.NormalPath.{parts_of, is_slash}
use Rattle.vfs_model.specs.Rom.{IsRomPath, is_rom_byte, is_rom_name}
use Rattle.vfs_model.specs.Script.{input_lines, without_return, last_byte}
use Rattle.romfs.proofs.LineLemmas.{Unfed, input_lines-feed}
use Rattle.romfs.proofs.SplitLemmas.{before_first-whole}

-- what a byte that a name may have isn't
record NoEnd (byte : ℕ) : Type 0 where
  feed : (byte == 10) ≡ false
  return : (byte == 13) ≡ false
  space : (byte == 32) ≡ false

no_end : (byte : ℕ) → is_rom_byte byte ≡ true → NoEnd byte
no_end byte h =
    let (ends, space) = or_parts (byte == 10 || byte == 13) (byte == 32) (not-true (byte == 10 || byte == 13 || byte == 32) h) in
    let (feed, return) = or_parts (byte == 10) (byte == 13) ends in
    record { feed = feed; return = return; space = space }

each : (text : List ℕ) → list_all is_rom_byte text ≡ true → All (λ byte. is_rom_byte byte ≡ true) text
each text h = AllPass-from_list_all is_rom_byte text h

-- a line of such bytes behind its kind and a space
pub input_lines-kind : (kind : ℕ) (text rest : List ℕ) → is_rom_byte kind ≡ true → list_all is_rom_byte text ≡ true
    → input_lines ((kind ∷ 32 ∷ text) ++ 10 ∷ rest) ≡ (kind ∷ 32 ∷ text) ∷ input_lines rest
input_lines-kind kind text rest k h =
    let line = kind ∷ 32 ∷ text in
    let unfed : Unfed line = All-cons (λ b. (b == 10) ≡ false) kind (32 ∷ text) (no_end kind k).feed
    (All-cons (λ b. (b == 10) ≡ false) 32 text refl (All-weaker (λ b. is_rom_byte b ≡ true) (λ b. (b == 10) ≡ false) (λ b p. (no_end b p).feed) text (each text h))) in
    let unreturned : All (λ b. (b == 13) ≡ false) line = All-cons (λ b. (b == 13) ≡ false) kind (32 ∷ text) (no_end kind k).return
    (All-cons (λ b. (b == 13) ≡ false) 32 text refl (All-weaker (λ b. is_rom_byte b ≡ true) (λ b. (b == 13) ≡ false) (λ b p. (no_end b p).return) text (each text h))) in
    let last : (last_byte line == 13) ≡ false = unreturned (length line - 1) 0 (omega arith) in
    let whole : without_return line ≡ line = rw last refl in
    input_lines-feed line rest unfed ∙ ap (λ l. l ∷ input_lines rest) whole

-- no space is among such bytes
list_any-space : (text : List ℕ) → list_all is_rom_byte text ≡ true → list_any is_space text ≡ false
list_any-space [] h = refl
list_any-space (byte ∷ text) h =
    let (first, rest) = and_parts (is_rom_byte byte) (list_all is_rom_byte text) h in
    or_from (is_space byte) (list_any is_space text) (no_end byte first).space (list_any-space text rest)

pub one_field : (text : List ℕ) → list_all is_rom_byte text ≡ true → (before_first is_space text ≡ text) × (behind_space text ≡ None)
one_field text h =
    let none = list_any-space text h in
    (before_first-whole 32 text none, rw none refl)

-- a name has no slash
unslashed : (name : List ℕ) → list_all is_name_byte name ≡ true → All (λ byte. is_slash byte ≡ false) name
unslashed name h = All-weaker (λ b. is_name_byte b ≡ true) (λ b. is_slash b ≡ false) (λ b p. (or_parts (b == 0) (b == slash) (not-true (b == 0 || b == slash) p)).1) name (AllPass-from_list_all is_name_byte name h)

record Named (name : List ℕ) : Type 0 where
  alone : All (λ byte. is_slash byte ≡ false) name
  plain : list_all is_rom_byte name ≡ true

named : (name : List ℕ) → is_rom_name name ≡ true → Named name
named name h =
    let (front, plain) = and_parts (is_name name && is_plain_name name) (list_all is_rom_byte name) h in
    let (rule, _) = and_parts (is_name name) (is_plain_name name) front in
    let (_, bytes) = and_parts (nat_lt 0 (length name) && nat_le (length name) 255) (list_all is_name_byte name) rule in
    record { alone = unslashed name bytes; plain = plain }

-- the names are read from the printed form
parts_of-slashed : (name : List ℕ) (names : Path) → list_all is_rom_name (name ∷ names) ≡ true → parts_of (name ++ slashed names) ≡ name ∷ names
parts_of-slashed name [] h =
    let (first, _) = and_parts (is_rom_name name) true h in
    rw (append-nil name) (slice_split_none is_slash name (named name first).alone)
parts_of-slashed name (next ∷ names) h =
    let (first, rest) = and_parts (is_rom_name name) (list_all is_rom_name (next ∷ names)) h in
    slice_split_at is_slash name slash (next ++ slashed names) (named name first).alone refl ∙ ap (λ p. name ∷ p) (parts_of-slashed next names rest)

slashed-plain : (path : Path) → list_all is_rom_name path ≡ true → list_all is_rom_byte (slashed path) ≡ true
slashed-plain [] h = refl
slashed-plain (name ∷ names) h =
    let (first, rest) = and_parts (is_rom_name name) (list_all is_rom_name names) h in
    rw (list_all-append is_rom_byte name (slashed names), (named name first).plain, slashed-plain names rest) refl

-- the printed form has none of the bytes that end a field
pub printed-plain : (path : Path) → IsRomPath path → list_all is_rom_byte (printed path) ≡ true
printed-plain [] h = absurd (omega (arith, h.below_root))
printed-plain (name ∷ names) h = slashed-plain (name ∷ names) h.names

-- the path is read from its printed form
pub rom_path-printed : (path : Path) → IsRomPath path → rom_path (printed path) ≡ Some path
rom_path-printed [] h = absurd (omega (arith, h.below_root))
rom_path-printed (name ∷ names) h =
    let short : nat_le (length (slash ∷ name ++ slashed names)) PATH_MAX ≡ true = le-leb _ PATH_MAX h.short in
    rw (short, parts_of-slashed name names h.names, h.names) refl

other : (c v : ℕ) → is_hex_digit c ≡ true → is_hex_digit v ≡ false → (c == v) ≡ false
other c v h never = false_from_ne_true (c == v) (λ e. both_ways (is_hex_digit c) (ap is_hex_digit (eqb-true c v e) ∙ never) h)

hex_plain : (c : ℕ) → is_hex_digit c ≡ true → is_rom_byte c ≡ true
hex_plain c h = not_from_false (c == 10 || c == 13 || c == 32) (or_from (c == 10 || c == 13) (c == 32) (or_from (c == 10) (c == 13) (other c 10 h refl) (other c 13 h refl)) (other c 32 h refl))

-- the digits have none of the bytes that end a field
pub encode_lower-plain : (bytes : List ℕ) → IsBytes bytes → list_all is_rom_byte (encode_lower bytes) ≡ true
encode_lower-plain bytes h =
    let text = encode_lower bytes in
    let (digits, _, _) = decode_pairs-ok 0 text bytes (decode_pairs-encode_with lower_digits IsDigits-lower_digits 0 bytes h) in
    list_all-from_AllPass is_rom_byte text (All-weaker (λ c. is_hex_digit c ≡ true) (λ c. is_rom_byte c ≡ true) hex_plain text digits)

some_digits : (text : List ℕ) → 0 < length text → rom_bytes text ≡ result_ok (decode_of text)
some_digits [] some = absurd (omega arith)
some_digits (digit ∷ digits) some = refl

-- the bytes are read from their digits
pub rom_bytes-encode_lower : (bytes : List ℕ) → 0 < length bytes → IsBytes bytes → rom_bytes (encode_lower bytes) ≡ Some bytes
rom_bytes-encode_lower bytes some h =
    some_digits (encode_lower bytes) (omega (arith, length-encode_with lower_digits bytes)) ∙ ap result_ok (decode_of-encode_lower bytes h)
