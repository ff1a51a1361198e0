use Rattle.std.proofs.Common.{fold, subst, ap, ◌∙◌}
use Rattle.std.specs.FinMap.Entries.{find as value_at, put}
use Rattle.vfs_base.specs.Path.{path_cmp}
use Rattle.node_maps.specs.NodeMap.{put_entry, without}
use Rattle.cell_volume.proofs.MovedRanges.{back-again, moved-range, replaced-at}
use Rattle.cell_volume.proofs.RecordFiles.{Nodes}
use Rattle.cell_volume.specs.Below.{KeepsOthers, below_in, carried_to, without_entry}
use Rattle.cell_volume.proofs.moves.carry_out.Goals as goal

pub returns-in_default-clause-err : goal.returns-in_default-clause-err
returns-in_default-clause-err c =
    c.remove_all.ensures
    ∙ ap (fold without_entry c.put_moved.new.nodes.entries) (c.as_slice-in_default.ensures ∙ c.requires.carried)
    ∙ back-again c.args.old.now c.args.step.key c.args.nodes.now.entries c.requires.ordered c.requires.apart c.requires.beside c.requires.bare
    c.put_moved.new.nodes.entries c.put_moved.ensures.ordered
    (subst (λ (entries : Nodes). KeepsOthers entries c.args.nodes.now.entries c.put_moved.new.nodes.entries) (c.as_slice.ensures ∙ c.requires.carried) c.in_default.ensures.err)

pub returns-clause-ok : goal.returns-clause-ok
returns-clause-ok c =
    c.in-Ok.ensures.ok ∙ ap (λ entries. value_at path_cmp c.args.step.key (fold put_entry c.args.nodes.now.entries entries)) (c.as_slice.ensures ∙ c.requires.carried)
    ∙ replaced-at c.args.old.now c.args.step.key c.args.nodes.now.entries c.requires.ordered c.requires.apart c.requires.beside c.requires.bare

pub returns-clause-next : goal.returns-clause-next
returns-clause-next c =
    let come = c.in-Ok.ensures.next ∙ ap (λ entries. put path_cmp c.args.step.key c.args.node (fold put_entry c.args.nodes.now.entries entries)) (c.as_slice.ensures ∙ c.requires.carried) in
    c.remove_all-2.ensures
    ∙ ap (λ tree. fold without_entry tree c.as_slice-2.result.now) (c.remove_node.ensures.left ∙ ap (without c.args.old.now) come)
    ∙ ap (fold without_entry (without c.args.old.now (put path_cmp c.args.step.key c.args.node
    (fold put_entry c.args.nodes.now.entries (carried_to c.args.old.now c.args.step.key (below_in c.args.old.now c.args.nodes.now.entries))))))
    (c.as_slice-2.ensures ∙ c.requires.taken)
    ∙ moved-range c.args.old.now c.args.step.key c.args.nodes.now.entries c.requires.ordered c.requires.apart c.requires.beside c.requires.bare c.args.node c.requires.there
