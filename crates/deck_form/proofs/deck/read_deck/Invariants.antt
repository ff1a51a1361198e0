use Rattle.std.proofs.Common.{◌≡◌, length}
use Rattle.vfs_model.specs.Deck.{deck_of}
use Rattle.deck_form.specs.Draft.{KnowsRoms, deck_outside}
use Rattle.deck_form.proofs.deck.read_deck.Given as goal

abbrev pub invariant-loop-draft : goal.invariant-loop-draft
invariant-loop-draft l = record {
  known : KnowsRoms l.draft.names.keys l.draft.deck;
  read : deck_outside l.draft.deck l.lines ≡ deck_of l.bytes;
}

abbrev pub decreases-loop-draft : goal.decreases-loop-draft
decreases-loop-draft l = length l.lines.rest
