use Rattle.std.proofs.Common.{[], drop, length, slice_index_or, sym, ap, subst, ◌∙◌}
use Rattle.vfs_model.specs.Lookup.{covering_mount, rest_of}
use Rattle.path_lookup.specs.Reach.{Reaches}
use Rattle.path_lookup.specs.Standing.{space_of}
use Rattle.path_lookup.proofs.Walks.{node-is-reached, walk-reached}
use Rattle.world_laws.proofs.parts.Nodes.{tree_at}
use Rattle.path_lookup.proofs.spot.spot_at.Goals as goal

-- the walk along the rest in the tree of the mount
reached : (c : goal.After-node_reached) → let n = space_of c.args.mounts.now c.args.trees.now in
    Reaches (tree_at n c.args.path.now) (rest_of n c.args.path.now) c.reach-count.result.0 c.reach-count.result.1
unfolding covering_mount
reached c =
    let mount = c.under-mount.result.now in
    let rest = c.rest_from-rest.ensures ∙ ap (λ depth. drop depth c.args.path.now) c.len-depth.ensures in
    subst (λ m. Reaches (slice_index_or c.args.trees.now m.number []) (drop (length m.point) c.args.path.now) c.reach-count.result.0 c.reach-count.result.1) c.under-mount.ensures.mount
    (subst (λ r. Reaches (slice_index_or c.args.trees.now mount.number []) r c.reach-count.result.0 c.reach-count.result.1) rest c.reach-count.ensures)

pub returns-clause-walk : goal.returns-clause-walk
unfolding covering_mount
returns-clause-walk c =
    rw (c.refusal_reached.ensures, c.rest_from-rest.ensures, c.len-depth.ensures, c.under-mount.ensures.mount)
    (sym (walk-reached c.requires c.args.path.now c.reach-count.result.0 c.reach-count.result.1 (reached c)))

pub returns-clause-node : goal.returns-clause-node
unfolding covering_mount
returns-clause-node c =
    rw (c.node_reached.ensures, c.rest_from-rest.ensures, c.len-depth.ensures, c.under-mount.ensures.mount)
    (sym (node-is-reached c.requires c.args.path.now c.reach-count.result.0 c.reach-count.result.1 (reached c)))
