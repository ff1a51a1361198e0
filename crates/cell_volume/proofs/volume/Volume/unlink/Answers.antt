use Rattle.std.proofs.Common.{List, Option, false, ap}
use Rattle.vfs_outside.specs.Volume.{CellState}
use Rattle.node_maps.specs.NodeMap.{without}
use Rattle.cell_volume.proofs.LaidOut.{laid-marks, laid-unlink, states-with_mark_of}
use Rattle.cell_volume.proofs.volume.Volume.unlink.Goals as goal

pub unlink-requires : goal.unlink-requires
unlink-requires g c = c.self.invariant.mounted.ordered

pub free-requires : goal.free-requires
free-requires g c = laid-marks g.B.Block.pages g.B.Block.contents g.B.Block.counts c.self.inside.name c.self.inside.cells.cells.items c.self.inside.nodes.entries c.self.inside.room.items _ c.self.invariant c.args.path.now c.in-Ok.node c.in-Ok.ensures.ok

pub invariant_of-self-2 : goal.invariant_of-self-2
invariant_of-self-2 g c =
    rw (c.free.ensures, c.in-Ok.ensures.left)
    (laid-unlink g.B.Block.pages g.B.Block.contents g.B.Block.counts c.self.inside.name c.self.inside.cells.cells.items c.self.inside.nodes.entries c.self.inside.room.items _ c.self.invariant c.args.path.now c.in-Ok.node c.in-Ok.ensures.ok
    (rw (← c.self.view_is) at c.requires.bare))

pub returns-clause-next : goal.returns-clause-next
returns-clause-next g c =
    rw (c.free.ensures, c.in-Ok.ensures.left, ← c.self.view_is)
    (ap (λ (states : List (Option CellState)). record { name = c.self.inside.name; cells = states; kept = without c.args.path.now c.self.inside.nodes.entries })
    (states-with_mark_of g.B.Block.pages g.B.Block.contents g.B.Block.counts c.self.inside.cells.cells.items c.in-Ok.node false))
