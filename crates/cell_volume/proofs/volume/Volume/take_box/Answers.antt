use Rattle.std.proofs.Common.{List, Option, None, ap, ◌∙◌}
use Rattle.vfs_outside.specs.Volume.{CellState}
use Rattle.cell_volume.proofs.CellLemmas.{states-with_device}
use Rattle.cell_volume.proofs.LaidOut.{if-some, laid-device}
use Rattle.cell_volume.specs.MountedVolume.{MountedVolume, with_cell}
use Rattle.cell_volume.proofs.volume.Volume.take_box.Goals as goal

pub invariant_of-self : goal.invariant_of-self
invariant_of-self g c =
    rw c.take_device.ensures.left
    (laid-device g.B.Block.pages g.B.Block.contents g.B.Block.counts c.self.inside.name c.self.inside.cells.cells.items c.self.inside.nodes.entries c.self.inside.room.items _ c.self.invariant c.args.cell None tt)

pub returns-clause-left : goal.returns-clause-left
returns-clause-left g c =
    if-some c.take_device.result _
    (rw c.take_device.ensures.left
    (ap (λ (states : List (Option CellState)). record { name = c.self.inside.name; cells = states; kept = c.self.inside.nodes.entries })
    (states-with_device g.B.Block.pages g.B.Block.contents g.B.Block.counts c.self.inside.cells.cells.items c.args.cell None)
    ∙ ap (λ (v : MountedVolume). with_cell v c.args.cell None) c.self.view_is))
