use Rattle.std.proofs.Common.{◌≡◌, ◌+◌, ◌-◌, length, take}
use Rattle.std.specs.List.{range_with_len}
use Rattle.vfs_model.specs.Cache.{touch_and_edit}
use Rattle.vfs_model.specs.FailedCalls.{bytes_before, try_edit}
use Rattle.page_cache.specs.AddressSpace.{view}
use Rattle.page_cache.specs.Framed.{AreCounted}
use Rattle.cell_file.specs.Moves.{each_way, editing_pages}
use Rattle.cell_file.specs.Parts.{EditsBytes, RestsOf}
use Rattle.cell_file.proofs.transfer.edit_pages.Given as goal

-- what is done so far, and then the pages that are left, is the whole
abbrev pub invariant-loop-page : goal.invariant-loop-page
invariant-loop-page g l =
    let P = g.B.Block.pages in let C = g.B.Block.contents in let N = g.B.Block.counts in
    record {
      rests : RestsOf (editing_pages l.fn.off (length l.fn.piece)) (view P C N l.fn.space l.fn.device)
          (each_way touch_and_edit try_edit l.fn.off (range_with_len l.page (l.last + 1 - l.page))) (view P C N l.space l.device);
      edits : EditsBytes l.fn.off (take (bytes_before l.fn.off l.page) l.fn.piece) (view P C N l.fn.space l.fn.device) (view P C N l.space l.device);
      counted : AreCounted (N l.device);
      device : P l.device ≡ l.fn.space.pages;
      pages : l.space.pages ≡ l.fn.space.pages;
    }
