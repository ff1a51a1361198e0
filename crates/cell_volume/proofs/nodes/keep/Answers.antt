use Rattle.std.proofs.Common.{◌≡◌, Some, sym, ap, ◌∙◌}
use Rattle.std.specs.FinMap.Entries.{find as value_at, put}
use Rattle.vfs_base.specs.Path.{path_cmp}
use Rattle.cell_volume.proofs.EntryLemmas.{lookup-value_at, written-put}
use Rattle.cell_volume.proofs.MountedLemmas.{ordered-entries}
use Rattle.cell_volume.specs.MountedVolume.{with_found}
use Rattle.cell_volume.proofs.nodes.keep.Goals as goal

pub returns-in-Some : goal.returns-in-Some
returns-in-Some c =
    let there : value_at path_cmp c.args.path.now c.args.nodes.now.entries ≡ Some c.in-Some.node.now =
    sym (lookup-value_at c.args.path.now c.args.nodes.now.entries) ∙ sym c.in-Some.ensures.value in
    (c.get_mut.follows.holds c.with_content.result).0
    ∙ written-put c.args.path.now c.with_content.result c.in-Some.node.now c.args.nodes.now.entries
    (ordered-entries c.args.nodes.now.entries c.get_mut.ensures.ordered) there
    ∙ ap (λ node. put path_cmp c.args.path.now node c.args.nodes.now.entries) c.with_content.ensures
    ∙ sym (ap (with_found c.args.nodes.now.entries c.args.path.now c.args.size c.args.stored) there)
