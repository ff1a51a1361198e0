use Rattle.std.proofs.Common.{◌≡◌, ◌-◌, length}
use Rattle.vfs_base.specs.declared.limits.TheConstants.{RECLAIM_TARGET}
use Rattle.page_cache.proofs.address_space.AddressSpace.shrink.Given as goal
use Rattle.page_cache.specs.AddressSpace.{KeepsPages, view, reclaiming}
use Rattle.page_cache.specs.Framed.{AreCounted, Rests, evicting_many}

abbrev pub decreases-loop-self : goal.decreases-loop-self
decreases-loop-self g l = length l.self.resident

-- what is done so far, and then as many evictions as are left, is the whole
abbrev pub invariant-loop-self : goal.invariant-loop-self
invariant-loop-self g l =
    let P = g.B.Block.pages in let C = g.B.Block.contents in let N = g.B.Block.counts in
    record {
      rests : Rests reclaiming (view P C N l.fn.self l.fn.device) (evicting_many (length l.self.resident - RECLAIM_TARGET)) (view P C N l.self l.device);
      same : KeepsPages (view P C N l.fn.self l.fn.device) (view P C N l.self l.device);
      counted : AreCounted (N l.device);
      device : P l.device ≡ l.fn.self.pages;
      pages : l.self.pages ≡ l.fn.self.pages;
    }
