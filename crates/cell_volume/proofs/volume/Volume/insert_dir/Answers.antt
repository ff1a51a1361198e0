use Rattle.cell_volume.proofs.LaidOut.{laid-insert}
use Rattle.cell_volume.proofs.volume.Volume.insert_dir.Goals as goal

pub invariant_of-self : goal.invariant_of-self
invariant_of-self g c =
    laid-insert g.B.Block.pages g.B.Block.contents g.B.Block.counts c.self.inside.name c.self.inside.cells.cells.items c.self.inside.nodes.entries c.self.inside.room.items _ c.self.invariant c.args.path.now c.link.new.nodes.entries c.link.result c.link.ensures.path c.link.ensures.ok c.link.ensures.fault c.link.ensures.err
