use Rattle.std.proofs.Common.{◌≡◌, ◌≤◌, length, take, drop}
use Rattle.vfs_base.specs.declared.deck.Deck.{Deck}
use Rattle.deck_form.specs.Lines.{deck_with}
use Rattle.deck_form.proofs.RomLemmas.{with_open}
use Rattle.vfs_model.specs.Deck.{new_rom}
use Rattle.std.proofs.Common.{Some}
use Rattle.deck_form.proofs.rom.read_rom.Given as goal

abbrev pub invariant-loop-draft : goal.invariant-loop-draft
invariant-loop-draft l = record {
  rest : drop l.size l.text ≡ l.lines.rest;
  within : l.size ≤ length l.text;
  shorter : length l.lines.rest ≤ length l.fn.lines.rest;
  name : l.name ≡ l.fn.name;
  read : (deck : Deck) → deck_with l.fn.lines (record { deck = deck; rom = Some (new_rom l.fn.name) }) ≡ deck_with l.lines (with_open deck l.fn.name (take l.size l.text) l.draft);
}

abbrev pub decreases-loop-draft : goal.decreases-loop-draft
decreases-loop-draft l = length l.lines.rest
