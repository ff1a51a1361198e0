use Rattle.std.proofs.Common.{not, ◌==◌, rules}
use Rattle.std.proofs.lemmas.Fn.{filter_same}
use Rattle.dentry_table.proofs.dentries.keep_held.Goals as goal

pub returns : goal.returns
returns c = filter_same _ (λ entry. not (entry.1 == 0)) _ (λ x b f k. search rules) _ _ c.retain.ensures
