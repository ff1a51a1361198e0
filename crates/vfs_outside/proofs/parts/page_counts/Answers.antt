use Rattle.std.proofs.Common.{◌≡◌, true}
use Rattle.vfs_outside.specs.Volume.{is_page_count}
use Rattle.vfs_outside.proofs.VolumeLemmas.{counted_at, no_count}
use Rattle.vfs_outside.proofs.parts.page_counts.Goals as goal

pub unreachable-requires : goal.unreachable-requires
unreachable-requires g c =
    let counted : is_page_count c.pages.result ≡ true
    = rw (c.pages.ensures.number, c.cell-item.is)
    (counted_at g.B.Block.pages c.args.cells.now c.loop-cell.cell-index c.cell-item.result c.requires c.loop-cell-test.true) in
    no_count (is_page_count c.pages.result) c.pages.result c.new.result c.new.ensures counted c.in_default.is
