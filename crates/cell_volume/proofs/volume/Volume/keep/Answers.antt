use Rattle.cell_volume.proofs.LaidOut.{laid-keep}
use Rattle.cell_volume.proofs.volume.Volume.keep.Goals as goal

pub invariant_of-self : goal.invariant_of-self
invariant_of-self g c =
    rw c.keep.ensures
    (laid-keep g.B.Block.pages g.B.Block.contents g.B.Block.counts c.self.inside.name c.self.inside.cells.cells.items c.self.inside.nodes.entries c.self.inside.room.items _ c.self.invariant c.args.path.now c.args.size c.args.stored (rw (← c.self.view_is) at c.requires.file))
