use Rattle.std.proofs.Common.{rules, arith, ◌+◌, ◌<◌, length}
use Rattle.plain_mounts.proofs.Binds.{bind_told, bound_generations, bound_live_files, bound_trees}
use Rattle.plain_mounts.proofs.binding.bind_content.Goals as goal

pub returns-clause-live_files : goal.returns-clause-live_files
returns-clause-live_files c = bound_live_files c.args.namespace.now c.bind_row.new.namespace _ _ c.bind_row.ensures.next c.requires.ready.live_files

pub returns-clause-generations : goal.returns-clause-generations
returns-clause-generations c = bound_generations c.args.namespace.now c.bind_row.new.namespace _ _ c.bind_row.ensures.next c.requires.ready.generations

pub returns-clause-trees : goal.returns-clause-trees
returns-clause-trees c = bound_trees c.args.namespace.now c.bind_row.new.namespace _ _ c.bind_row.ensures.next

pub returns-clause-next : goal.returns-clause-next
returns-clause-next c =
    let inside : c.args.mount.now.number < length c.args.namespace.now.trees =
    omega (arith, c.requires.ready.places, c.requires.number) in
    bind_told c.args.namespace.now c.bind_row.new.namespace c.args.mount.now c.args.tree.now.items c.put_reserved.new.items.items
    c.args.path c.args.origin c.args.changes.now.items c.push_reserved.new.self.items
    c.in-Some.row (c.generation_at-generation.result + 1) c.kind_of-kind.result c.origin_backing.result
    inside (search rules) (search rules) c.kind_of-kind.ensures c.origin_backing.ensures c.bind_row.ensures.next
    (search rules) c.push_reserved.ensures.items
