-- The form of a script: posted lines, events and roms, and what its bytes mean.
use Rattle.std.specs.Prelude.{ℕ, ◌+◌, ◌==◌, Bool, true, is_none, Option, Some, None, option_map, Result, Ok, Err, List, [], ◌∷◌, ◌++◌, length, map, codes, if◌then◌else◌}
use Rattle.std.specs.List.{flat_map, list_any}
use Rattle.vfs_base.specs.declared.deck.Act.{Act}
use Rattle.vfs_base.specs.declared.deck.Act.TheVariants as act
use Rattle.vfs_base.specs.declared.deck.Deck.{Deck}
use Rattle.vfs_model.specs.Manifest.{Draft, with_line}
use Rattle.vfs_model.specs.Namespace.{same_bytes}
use Rattle.vfs_model.specs.Script.{is_bad_line, line_text, raw_lines}
use Rattle.vfs_model.specs.DeckLine.{DeckLine, Asks, Blank, Opens, deck_line}

-- A rom whose lines are being read: its name, its lines so far as they stand, and what they mean.
pub record OpenRom : Type 0 where
  pub name : List ℕ
  pub text : List ℕ
  pub draft : Draft

-- What the lines so far mean, and the rom that they leave open.
pub record DeckDraft : Type 0 where
  pub deck : Deck
  pub rom : Option OpenRom

-- the script without lines
abbrev pub empty_deck : Deck
empty_deck = record { roms = []; acts = [] }

-- a rom without lines
abbrev pub new_rom : List ℕ → OpenRom
new_rom name = record { name = name; text = []; draft = record { items = []; last_file = None } }

-- the name is one of a rom
abbrev pub has_rom : Deck → List ℕ → Bool
has_rom deck name = list_any (λ rom. same_bytes rom.name name) deck.roms

-- a line outside a rom
abbrev pub with_deck_line : Deck → Option DeckLine → Option DeckDraft
with_deck_line deck None = None
with_deck_line deck (Some Blank) = Some (record { deck = deck; rom = None })
with_deck_line deck (Some (Asks asked)) = Some (record { deck = record deck { acts = deck.acts ++ asked ∷ [] }; rom = None })
with_deck_line deck (Some (Opens name)) = if has_rom deck name then None else Some (record { deck = deck; rom = Some (new_rom name) })

-- the rom is described whole
abbrev pub with_rom : Deck → OpenRom → Deck
with_rom deck rom = record deck { roms = deck.roms ++ record { name = rom.name; manifest = rom.text } ∷ [] }

-- a line of a rom, which its manifest must have in its form
abbrev pub with_rom_line : Deck → OpenRom → List ℕ → Option DeckDraft
with_rom_line deck rom raw =
    if same_bytes (line_text raw) (codes "end") then Some (record { deck = with_rom deck rom; rom = None })
    else option_map (λ draft. record { deck = deck; rom = Some (record rom { text = rom.text ++ raw; draft = draft }) }) (with_line rom.draft (line_text raw))

-- a line outside a rom, or in one
abbrev pub with_line_at : Deck → Option OpenRom → List ℕ → Option DeckDraft
with_line_at deck None raw = with_deck_line deck (deck_line (line_text raw))
with_line_at deck (Some rom) raw = with_rom_line deck rom raw

-- what the lines mean with this one, if it is in the form
abbrev pub with_raw_line : DeckDraft → List ℕ → Option DeckDraft
with_raw_line draft raw = with_line_at draft.deck draft.rom raw

-- what follows from the draft, or the number of the line where there is none
abbrev pub or_bad_line : ℕ → Option DeckDraft → (DeckDraft → Result Deck ℕ) → Result Deck ℕ
or_bad_line number None go = Err number
or_bad_line number (Some draft) go = go draft

-- What the draft means with these lines behind it, which come after that many bytes, or the number of the first that
-- is outside the form, where the first of them has this number. A rom that nothing ends is missed behind the last.
abbrev pub deck_from : ℕ → ℕ → DeckDraft → List (List ℕ) → Result Deck ℕ
deck_from number size draft [] = if is_none draft.rom then Ok draft.deck else Err number
deck_from number size draft (raw ∷ raws) =
    if is_bad_line size raw then Err number
    else or_bad_line number (with_raw_line draft raw) (λ next. deck_from (number + 1) (size + length raw) next raws)

-- the script that the bytes are, or the number of the first line that is outside the form, counted from 1
unfoldable pub deck_of : List ℕ → Result Deck ℕ
deck_of bytes = deck_from 1 0 (record { deck = empty_deck; rom = None }) (raw_lines bytes)

-- the lines that an act posts to a session
abbrev pub posted_to : ℕ → Act → List (List ℕ)
posted_to k (act.Post j text go) = if j == k then text ∷ [] else []
posted_to k (act.Events askers) = []

-- the lines that a script posts to a session, in their order
abbrev pub session_lines : Deck → ℕ → List (List ℕ)
session_lines deck k = flat_map (posted_to k) deck.acts

-- the script of a shell: each line is posted to the first session and run to its end
abbrev pub shell_deck : List (List ℕ) → Deck
shell_deck lines = record { roms = []; acts = map (λ line. act.Post 1 line true) lines }
