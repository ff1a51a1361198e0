use Rattle.std.proofs.Common.{sym, ap, ◌∙◌}
use Rattle.cell_volume.proofs.LaidOut.{laid-count}
use Rattle.cell_volume.specs.MountedVolume.{spare_count}
use Rattle.cell_volume.proofs.volume.Volume.spare.Goals as goal

pub returns-clause-count : goal.returns-clause-count
returns-clause-count g c =
    c.self.inside.cells.counted
    ∙ sym (laid-count g.B.Block.pages g.B.Block.contents g.B.Block.counts c.self.inside.name c.self.inside.cells.cells.items c.self.inside.nodes.entries c.self.inside.room.items _ c.self.invariant)
    ∙ ap spare_count c.self.view_is
