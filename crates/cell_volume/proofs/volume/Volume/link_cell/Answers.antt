use Rattle.std.proofs.Common.{◌<◌, List, Option, length, true, ap, subst}
use Rattle.std.proofs.lemmas.List.{length-map}
use Rattle.std.specs.FinMap.Entries.{put}
use Rattle.vfs_base.specs.Path.{path_cmp}
use Rattle.vfs_outside.specs.Volume.{CellState}
use Rattle.cell_volume.proofs.LaidOut.{laid-link, own-cell, states-with_mark_of}
use Rattle.cell_volume.specs.Cells.{state_of}
use Rattle.cell_volume.specs.MountedVolume.{new_file}
use Rattle.cell_volume.proofs.volume.Volume.link_cell.Goals as goal

pub invariant_of-self-2 : goal.invariant_of-self-2
invariant_of-self-2 g c =
    rw (c.mark.ensures, c.in_default.ensures.ok)
    (laid-link g.B.Block.pages g.B.Block.contents g.B.Block.counts c.self.inside.name c.self.inside.cells.cells.items c.self.inside.nodes.entries c.self.inside.room.items _ c.self.invariant c.args.path.now (new_file c.args.cell) c.in_default.ensures.fault c.in_default.ensures.path
    (own-cell (length c.self.inside.cells.cells.items) c.self.inside.nodes.entries c.args.cell
    (subst (λ n. c.args.cell < n) (length-map c.self.inside.cells.cells.items (state_of g.B.Block.pages g.B.Block.contents g.B.Block.counts)) (rw (← c.self.view_is) at c.requires.within))
    (rw (← c.self.view_is) at c.requires.unused)))

pub returns-clause-ok : goal.returns-clause-ok
returns-clause-ok g c =
    rw (c.mark.ensures, c.in_default.ensures.ok, ← c.self.view_is)
    (ap (λ (states : List (Option CellState)). record { name = c.self.inside.name; cells = states; kept = put path_cmp c.args.path.now (new_file c.args.cell) c.self.inside.nodes.entries })
    (states-with_mark_of g.B.Block.pages g.B.Block.contents g.B.Block.counts c.self.inside.cells.cells.items (new_file c.args.cell) true))
