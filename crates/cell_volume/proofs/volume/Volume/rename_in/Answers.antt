use Rattle.std.proofs.Common.{◌≡◌, List, Option, false, unwrap_or, sym, ap, subst, ◌∙◌}
use Rattle.std.specs.FinMap.Entries.{find as value_at}
use Rattle.vfs_base.specs.Path.{path_cmp}
use Rattle.vfs_base.specs.declared.describe.CellNode.{CellNode}
use Rattle.vfs_base.specs.declared.describe.CellNode.TheVariants.{Dir}
use Rattle.vfs_outside.specs.Volume.{CellState}
use Rattle.node_maps.specs.NodeMap.{moved}
use Rattle.cell_volume.proofs.LaidOut.{laid-rename, laid-replaced, states-with_mark_of}
use Rattle.cell_volume.specs.Cells.{MarksNode}
use Rattle.cell_volume.proofs.volume.Volume.rename_in.Goals as goal

pub rename-requires : goal.rename-requires
rename-requires g c = record {
  ordered = c.self.invariant.mounted.ordered;
  paths = c.self.invariant.mounted.paths;
  apart = c.requires.apart;
  beside = c.requires.beside;
  bare = rw (← c.self.view_is) at c.requires.bare;
}

pub free-requires : goal.free-requires
free-requires g c =
    let node : c.unwrap_or.result ≡ unwrap_or (value_at path_cmp c.args.new.now c.self.inside.nodes.entries) Dir = c.unwrap_or.ensures ∙ ap (λ (found : Option CellNode). unwrap_or found Dir) c.in-Ok.ensures.ok in
    subst (MarksNode c.self.inside.cells.cells.items) (sym node)
    (laid-replaced g.B.Block.pages g.B.Block.contents g.B.Block.counts c.self.inside.name c.self.inside.cells.cells.items c.self.inside.nodes.entries c.self.inside.room.items _ c.self.invariant c.args.new.now)

pub invariant_of-self-2 : goal.invariant_of-self-2
invariant_of-self-2 g c =
    let node : c.unwrap_or.result ≡ unwrap_or (value_at path_cmp c.args.new.now c.self.inside.nodes.entries) Dir = c.unwrap_or.ensures ∙ ap (λ (found : Option CellNode). unwrap_or found Dir) c.in-Ok.ensures.ok in
    rw (c.free.ensures, c.in-Ok.ensures.next, node)
    (laid-rename g.B.Block.pages g.B.Block.contents g.B.Block.counts c.self.inside.name c.self.inside.cells.cells.items c.self.inside.nodes.entries c.self.inside.room.items _ c.self.invariant c.args.old.now c.args.new.now c.in-Ok.ensures.fault
    c.requires.apart c.requires.beside (rw (← c.self.view_is) at c.requires.bare) c.in-Ok.ensures.path)

pub returns-clause-next : goal.returns-clause-next
returns-clause-next g c =
    rw (c.free.ensures, c.in-Ok.ensures.next, ← c.self.view_is)
    (ap (λ (states : List (Option CellState)). record { name = c.self.inside.name; cells = states; kept = moved c.args.old.now c.args.new.now c.self.inside.nodes.entries })
    (states-with_mark_of g.B.Block.pages g.B.Block.contents g.B.Block.counts c.self.inside.cells.cells.items c.unwrap_or.result false))
