use Rattle.vfs_model.proofs.DeckLemmas.{script-form}
use Rattle.vfs_model.proofs.laws.read_script_is_in_form.Goals as goal

pub returns : goal.returns
returns c bytes deck e = script-form bytes deck e
