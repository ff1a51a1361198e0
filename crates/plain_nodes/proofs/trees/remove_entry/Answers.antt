use Rattle.std.proofs.Common.{rules}
use Rattle.std.specs.Prelude.{not}
use Rattle.std.proofs.lemmas.Fn.{filter_same}
use Rattle.vfs_model.specs.Namespace.{same_path}
use Rattle.plain_nodes.proofs.trees.remove_entry.Goals as goal

pub returns : goal.returns
returns c =
    filter_same _ (λ entry. not (same_path entry.0 c.args.path.now)) _ (λ x b f k. search rules) _ _ c.retain.ensures
