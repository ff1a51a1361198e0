use Rattle.vfs_model.proofs.DeckLemmas.{script-form}
use Rattle.dfs_run.proofs.replay.read_script.Goals as goal

pub returns-in-Ok-read_deck-clause-script : goal.returns-in-Ok-read_deck-clause-script
returns-in-Ok-read_deck-clause-script g c = script-form c.as_slice.result.now c.in-Ok-read_deck.deck c.in-Ok-read_deck.ensures.deck
