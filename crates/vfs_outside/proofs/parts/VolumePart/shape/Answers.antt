use Rattle.std.proofs.Common.{map}
use Rattle.vfs_outside.proofs.VolumeLemmas.{cells_counted, map-pages-cell_states}
use Rattle.vfs_outside.proofs.parts.VolumePart.shape.Goals as goal

pub page_counts-requires-after_bounds : goal.page_counts-requires-after_bounds
page_counts-requires-after_bounds g c κs within =
    rw c.as_slice.ensures.value (cells_counted (map g.B.Block.pages c.self.inside.cells.items)
    (rw (map-pages-cell_states g.B.Block.pages g.B.Block.contents g.B.Block.counts c.self.inside.cells.items) at c.self.invariant.cells))

pub returns-clause-shape : goal.returns-clause-shape
returns-clause-shape g c =
    let pages = map-pages-cell_states g.B.Block.pages g.B.Block.contents g.B.Block.counts c.self.inside.cells.items in
    rw (← c.self.view_is) (cc (pages, c.in_ok-name.ensures, c.in_ok-pages.ensures, c.as_slice.ensures.value))
