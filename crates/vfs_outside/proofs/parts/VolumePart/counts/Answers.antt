use Rattle.vfs_outside.proofs.VolumeLemmas.{map-counts-cell_states}
use Rattle.vfs_outside.proofs.parts.VolumePart.counts.Goals as goal

pub returns : goal.returns
returns g c =
    rw (
      c.sum_of_counts.ensures,
      c.as_slice.ensures.value,
      ← c.self.view_is,
      map-counts-cell_states g.B.Block.pages g.B.Block.contents g.B.Block.counts c.self.inside.cells.items,
    )
