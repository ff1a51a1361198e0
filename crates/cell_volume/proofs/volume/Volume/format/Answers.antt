use Rattle.std.proofs.Common.{List, Option, [], ap, ◌∙◌}
use Rattle.vfs_outside.specs.Volume.{CellState}
use Rattle.cell_volume.proofs.CellLemmas.{states-without_marks}
use Rattle.cell_volume.proofs.LaidOut.{laid-empty}
use Rattle.cell_volume.specs.MountedVolume.{MountedVolume, with_record}
use Rattle.cell_volume.proofs.volume.Volume.format.Goals as goal

pub invariant_of-self : goal.invariant_of-self
invariant_of-self g c =
    rw (c.clear-2.ensures, c.clear.ensures.empty)
    (laid-empty g.B.Block.pages g.B.Block.contents g.B.Block.counts c.self.inside.name c.self.inside.cells.cells.items c.self.inside.nodes.entries c.self.inside.room.items _ c.self.invariant)

pub returns : goal.returns
returns g c =
    rw (c.clear-2.ensures, c.clear.ensures.empty)
    (ap (λ (states : List (Option CellState)). record { name = c.self.inside.name; cells = states; kept = [] })
    (states-without_marks g.B.Block.pages g.B.Block.contents g.B.Block.counts c.self.inside.cells.cells.items)
    ∙ ap (λ (v : MountedVolume). with_record v []) c.self.view_is)
