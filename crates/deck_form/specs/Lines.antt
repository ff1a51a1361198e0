-- The lines of a script that are left to read.
use Rattle.std.specs.Prelude.{◌≡◌, ℕ, ◌+◌, ◌<◌, ◌++◌, ◌∷◌, true, false, List, length, Result}
use Rattle.vfs_base.specs.declared.deck.Deck.{Deck}
use Rattle.vfs_model.specs.Deck.{DeckDraft, deck_from}
use Rattle.vfs_model.specs.Script.{is_bad_line, raw_lines}
use Rattle.deck_form.specs.declared.deck.DeckFault.{DeckFault}
use Rattle.deck_form.specs.declared.deck.DeckFault.TheVariants.{Line, NoMemory}

-- how many lines were read, how many bytes they have, and the bytes behind them
pub record LinesState : Type 0 where
  pub number : ℕ
  pub size : ℕ
  pub rest : List ℕ

-- this is the first of the lines that are left, it is in the form, and the others are left then
pub record IsNextLine (old new : LinesState) (raw : List ℕ) : Type 0 where
  pub bytes : old.rest ≡ raw ++ new.rest
  pub lines : raw_lines old.rest ≡ raw ∷ raw_lines new.rest
  pub form : is_bad_line old.size raw ≡ false
  pub some : 0 < length raw
  pub number : new.number ≡ old.number + 1
  pub size : new.size ≡ old.size + length raw

-- what the draft means with the lines that are left
abbrev pub deck_with : LinesState → DeckDraft → Result Deck ℕ
deck_with lines draft = deck_from (lines.number + 1) lines.size draft (raw_lines lines.rest)

-- the first of the lines that are left is outside the form
pub record IsBadLine (lines : LinesState) : Type 0 where
  pub raw : List ℕ
  pub raws : List (List ℕ)
  pub first : raw_lines lines.rest ≡ raw ∷ raws
  pub bad : is_bad_line lines.size raw ≡ true

-- the fault names it
abbrev pub StopsAtLine : LinesState → DeckFault → Type 0
StopsAtLine lines NoMemory = ⊥
StopsAtLine lines (Line line) = (line ≡ lines.number + 1) × IsBadLine lines
