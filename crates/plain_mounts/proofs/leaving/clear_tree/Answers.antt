use Rattle.std.proofs.Common.{rules}
use Rattle.plain_mounts.proofs.Keeps.{names_kept}
use Rattle.plain_mounts.proofs.leaving.clear_tree.Goals as goal

pub returns-in-Cell-clause-next : goal.returns-in-Cell-clause-next
returns-in-Cell-clause-next c =
    names_kept c.args.namespace.now c.take_tree-tree.new.namespace c.args.mount.now c.take_tree-tree.result c.kept_names-kept.result
    c.volume_named-volume.result c.set_kept.new.volumes
    c.take_tree-tree.ensures.next c.take_tree-tree.ensures.tree c.kept_names-kept.ensures (search rules) c.set_kept.ensures c.in-Cell.is
