-- Lemmas on the lines that are left of a script.
use Rattle.std.proofs.Common.{◌≡◌, ℕ, ◌+◌, true, false, Some, None, Ok, Err, List, [], ◌∷◌, ◌++◌, length, take, drop, refl, sym, ap, ◌∙◌, codes, take_at, drop_at, drop-drop}
use Rattle.std.proofs.Math.Seq.{take-add}
use Rattle.vfs_base.specs.declared.deck.Deck.{Deck}
use Rattle.vfs_model.specs.Deck.{DeckDraft, or_bad_line, with_raw_line}
use Rattle.vfs_model.specs.DeckLine.{deck_line}
use Rattle.vfs_model.specs.Manifest.{Draft, with_line}
use Rattle.vfs_model.specs.Namespace.{same_bytes}
use Rattle.vfs_model.specs.Script.{line_text}
use Rattle.deck_form.specs.declared.deck.DeckFault.{DeckFault}
use Rattle.deck_form.specs.declared.deck.DeckFault.TheVariants.{Line, NoMemory}
use Rattle.deck_form.specs.Draft.{deck_after, deck_outside}
use Rattle.deck_form.specs.Lines.{IsNextLine, LinesState, StopsAtLine, deck_with}
use Rattle.deck_form.specs.Reading.{StopsReadingDeck}

-- the script with a line that was read
pub line_read : (old new : LinesState) (raw : List ℕ) (draft : DeckDraft) → IsNextLine old new raw
    → deck_with old draft ≡ or_bad_line new.number (with_raw_line draft raw) (deck_with new)
line_read old new raw draft is = rw (is.lines, is.form, is.number, is.size) refl

-- a line outside the form
pub line_bad : (lines : LinesState) (draft : DeckDraft) (fault : DeckFault) → StopsAtLine lines fault → StopsReadingDeck (deck_with lines draft) fault
line_bad lines draft NoMemory is = absurd is
line_bad lines draft (Line line) is = rw (is.1.first, is.1.bad, is.0) refl

-- a draft with an open rom
abbrev pub with_open : Deck → List ℕ → List ℕ → Draft → DeckDraft
with_open deck name text draft = record { deck = deck; rom = Some (record { name = name; text = text; draft = draft }) }

-- a line of a rom
pub rom_goes_on : (old new : LinesState) (raw name text : List ℕ) (draft next : Draft) (deck : Deck) → IsNextLine old new raw
    → same_bytes (line_text raw) (codes "end") ≡ false → with_line draft (line_text raw) ≡ Some next
    → deck_with old (with_open deck name text draft) ≡ deck_with new (with_open deck name (text ++ raw) next)
rom_goes_on old new raw name text draft next deck is other line = line_read old new raw (with_open deck name text draft) is ∙ rw (other, line) refl

-- the line after which a rom is whole
pub rom_ends : (old new : LinesState) (raw name text : List ℕ) (draft : Draft) (deck : Deck) → IsNextLine old new raw
    → same_bytes (line_text raw) (codes "end") ≡ true
    → deck_with old (with_open deck name text draft) ≡ deck_outside (record deck { roms = deck.roms ++ record { name = name; manifest = text } ∷ [] }) new
rom_ends old new raw name text draft deck is end = line_read old new raw (with_open deck name text draft) is ∙ rw end refl

-- a line that no rom has there
pub rom_is_bad : (old new : LinesState) (raw name text : List ℕ) (draft : Draft) (deck : Deck) → IsNextLine old new raw
    → same_bytes (line_text raw) (codes "end") ≡ false → with_line draft (line_text raw) ≡ None
    → deck_with old (with_open deck name text draft) ≡ Err new.number
rom_is_bad old new raw name text draft deck is other line = line_read old new raw (with_open deck name text draft) is ∙ rw (other, line) refl

-- a rom that nothing ends
pub rom_is_open : (lines : LinesState) (name text : List ℕ) (draft : Draft) (deck : Deck) → lines.rest ≡ [] → deck_with lines (with_open deck name text draft) ≡ Err (lines.number + 1)
rom_is_open lines name text draft deck none = rw none refl

-- a line outside a rom
pub outside_read : (old new : LinesState) (raw : List ℕ) (deck : Deck) → IsNextLine old new raw → deck_outside deck old ≡ deck_after deck (deck_line (line_text raw)) new
outside_read old new raw deck is = line_read old new raw (record { deck = deck; rom = None }) is

-- the script is read
pub outside_ends : (lines : LinesState) (deck : Deck) → lines.rest ≡ [] → deck_outside deck lines ≡ Ok deck
outside_ends lines deck none = rw none refl

-- a part of bytes grows by what comes next
pub part_grows : (bytes raw rest : List ℕ) (size : ℕ) → drop size bytes ≡ raw ++ rest → (take (size + length raw) bytes ≡ take size bytes ++ raw) × (drop (size + length raw) bytes ≡ rest)
part_grows bytes raw rest size is = (
  take-add size (length raw) bytes ∙ ap (λ more. take size bytes ++ more) (ap (take (length raw)) is ∙ take_at raw rest (length raw) refl),
  sym (drop-drop (length raw) size bytes) ∙ ap (drop (length raw)) is ∙ drop_at raw rest (length raw) refl,
)
