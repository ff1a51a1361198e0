use Rattle.std.proofs.Common.{rules, ◌==◌}
use Rattle.std.specs.Prelude.{not}
use Rattle.std.proofs.lemmas.Fn.{filter_same}
use Rattle.vfs_model.specs.declared.namespace.Mount.{Mount}
use Rattle.mount_tree.proofs.mounts.drop_numbered.Goals as goal

pub returns : goal.returns
returns c =
    filter_same _ (λ (other : Mount). not (other.number == c.args.number)) _ (λ other kept f called. search rules) _ _ c.retain.ensures
