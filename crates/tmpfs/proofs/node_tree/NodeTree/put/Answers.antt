use Rattle.std.proofs.Common.{◌≡◌, None, drop, sym, ap, ◌∙◌}
use Rattle.std.specs.FinMap.Entries.{put}
use Rattle.vfs_base.specs.Path.{path_cmp}
use Rattle.node_maps.specs.NodeMap.{link_refusal}
use Rattle.tmpfs.proofs.Rooted.{rooted-put, tree-put}
use Rattle.tmpfs.specs.NodeTree.{is_dir}
use Rattle.tmpfs.proofs.node_tree.NodeTree.put.Goals as goal

pub invariant_of-self-2 : goal.invariant_of-self-2
invariant_of-self-2 c =
    let free : link_refusal is_dir (drop 1 c.self.inside.names) c.args.path.now ≡ None = ap (λ t. link_refusal is_dir t c.args.path.now) c.self.view_is ∙ sym c.in_default.ensures in
    rw c.in_ok-insert.ensures.ok (rooted-put c.self.invariant c.args.path.now c.args.node free)

pub returns-clause-ok : goal.returns-clause-ok
returns-clause-ok c =
    let free : link_refusal is_dir (drop 1 c.self.inside.names) c.args.path.now ≡ None = ap (λ t. link_refusal is_dir t c.args.path.now) c.self.view_is ∙ sym c.in_default.ensures in
    ap (drop 1) c.in_ok-insert.ensures.ok ∙ tree-put c.self.invariant c.args.path.now c.args.node free ∙ ap (put path_cmp c.args.path.now c.args.node) c.self.view_is
