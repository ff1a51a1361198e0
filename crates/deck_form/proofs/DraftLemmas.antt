-- Lemmas on the names of a script's roms.
use Rattle.std.proofs.Common.{◌≡◌, ℕ, ◌||◌, Bool, true, false, Some, Err, List, [], ◌∷◌, ◌++◌, refl, sym, ap, ◌∙◌, if◌then◌else◌}
use Rattle.std.proofs.lemmas.List.Folds.{list_any-append}
use Rattle.vfs_base.specs.declared.deck.Deck.{Deck}
use Rattle.vfs_base.specs.declared.deck.RomText.{RomText}
use Rattle.vfs_model.specs.Deck.{has_rom, new_rom}
use Rattle.vfs_model.specs.DeckLine.{Opens}
use Rattle.vfs_model.specs.Namespace.{same_bytes}
use Rattle.deck_form.specs.Draft.{AddsName, KnowsRoms, deck_after, has_name}
use Rattle.deck_form.specs.Lines.{LinesState, deck_with}

either_way : (a b : Bool) → (if a then true else b) ≡ (b || (a || false))
either_way true true = refl
either_way true false = refl
either_way false true = refl
either_way false false = refl

-- the script's names are known with a rom more
pub roms_known : (old new : List (List ℕ)) (deck : Deck) (rom : RomText) → KnowsRoms old deck → AddsName old new rom.name
    → KnowsRoms new (record deck { roms = deck.roms ++ rom ∷ [] })
roms_known old new deck rom known adds = λ other.
    adds other ∙ ap (λ b. if same_bytes rom.name other then true else b) (known other)
    ∙ either_way (same_bytes rom.name other) (has_rom deck other)
    ∙ sym (list_any-append (λ r. same_bytes r.name other) deck.roms (rom ∷ []))

-- a rom of a new name is opened
pub rom_opens : (names : List (List ℕ)) (deck : Deck) (name : List ℕ) (lines : LinesState) → KnowsRoms names deck → has_name names name ≡ false
    → deck_after deck (Some (Opens name)) lines ≡ deck_with lines (record { deck = deck; rom = Some (new_rom name) })
rom_opens names deck name lines known new = rw (sym (known name) ∙ new) refl

-- a rom has the name of another
pub name_is_taken : (names : List (List ℕ)) (deck : Deck) (name : List ℕ) (lines : LinesState) → KnowsRoms names deck → has_name names name ≡ true
    → deck_after deck (Some (Opens name)) lines ≡ Err lines.number
name_is_taken names deck name lines known there = rw (sym (known name) ∙ there) refl
