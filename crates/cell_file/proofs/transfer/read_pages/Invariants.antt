use Rattle.std.proofs.Common.{◌≡◌, ◌+◌, ◌-◌, List, ℕ, Some, length}
use Rattle.std.specs.List.{range_with_len}
use Rattle.vfs_model.specs.Cache.{touch}
use Rattle.vfs_model.specs.FailedCalls.{bytes_before, try_touch}
use Rattle.page_cache.specs.AddressSpace.{KeepsPages, view}
use Rattle.page_cache.specs.Framed.{AreCounted}
use Rattle.cell_file.specs.CellFile.{IsWhole, all_bytes}
use Rattle.cell_file.specs.Moves.{each_way, reading_pages}
use Rattle.cell_file.specs.Parts.{HasRead, RestsOf}
use Rattle.cell_file.proofs.transfer.read_pages.Given as goal

-- what is done so far, and then the pages that are left, is the whole
abbrev pub invariant-loop-page : goal.invariant-loop-page
invariant-loop-page g l =
    let P = g.B.Block.pages in let C = g.B.Block.contents in let N = g.B.Block.counts in
    record {
      rests : RestsOf (reading_pages l.fn.off (length l.fn.out)) (view P C N l.fn.space l.fn.device)
          (each_way touch try_touch l.fn.off (range_with_len l.page (l.last + 1 - l.page))) (view P C N l.space l.device);
      same : KeepsPages (view P C N l.fn.space l.fn.device) (view P C N l.space l.device);
      read : (told : List (List ℕ)) → C l.fn.device ≡ Some told → IsWhole l.fn.space told → HasRead l.fn.off (bytes_before l.fn.off l.page) l.out (all_bytes l.fn.space told);
      counted : AreCounted (N l.device);
      device : P l.device ≡ l.fn.space.pages;
      pages : l.space.pages ≡ l.fn.space.pages;
    }
