use Rattle.std.proofs.Common.{◌≡◌, length, true}
use Rattle.std.specs.List.{AllByRecursion}
use Rattle.page_cache.proofs.address_space.AddressSpace.write_back.Given as goal
use Rattle.page_cache.specs.AddressSpace.{KeepsPages, view, writing_back}
use Rattle.page_cache.specs.Framed.{AreCounted, Rests, cleaning_each}
use Rattle.page_cache.specs.Resident.{holds_page}
use Rattle.page_cache.specs.StoredSet.{pages_in}

abbrev pub decreases-loop-page : goal.decreases-loop-page
decreases-loop-page g l = length (pages_in l.dirty.words)

-- what is done so far, and then the pages that are left, is the whole
abbrev pub invariant-loop-page : goal.invariant-loop-page
invariant-loop-page g l =
    let P = g.B.Block.pages in let C = g.B.Block.contents in let N = g.B.Block.counts in
    record {
      rests : Rests writing_back (view P C N l.fn.self l.fn.device) (cleaning_each (pages_in l.dirty.words)) (view P C N l.self l.device);
      same : KeepsPages (view P C N l.fn.self l.fn.device) (view P C N l.self l.device);
      there : AllByRecursion (λ page. holds_page l.self.resident page ≡ true) (pages_in l.dirty.words);
      counted : AreCounted (N l.device);
      device : P l.device ≡ l.fn.self.pages;
      pages : l.self.pages ≡ l.fn.self.pages;
    }
