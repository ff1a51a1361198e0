use Rattle.std.proofs.Common.{◌≡◌, ◌∙◌, ◌-◌, ap, subst, arith, length, refl, suc}
use Rattle.vfs_base.specs.declared.limits.TheConstants.{RECLAIM_TARGET}
use Rattle.page_cache.specs.AddressSpace.{AddressSpace, view, reclaiming}
use Rattle.page_cache.specs.Framed.{evicting, evicting_many, then_way}
use Rattle.page_cache.proofs.Pages.{keeps-all, keeps-then}
use Rattle.page_cache.proofs.Parts.{none-left, on-err}
use Rattle.page_cache.proofs.Runs.{Alike, rests-all, rests-as, rests-then, stops-as, stops-first}
use Rattle.page_cache.proofs.Ways.{evicted-more, reclaimed}
use Rattle.page_cache.proofs.address_space.AddressSpace.shrink.Goals as goal

pub loop-self-init : goal.loop-self-init
loop-self-init g c =
    let old = view g.B.Block.pages g.B.Block.contents g.B.Block.counts c.args.self.now c.args.device.now in
    record {
      rests = rests-all reclaiming (evicting_many (length c.args.self.now.resident - RECLAIM_TARGET)) old (reclaimed old (length c.args.self.now.resident - RECLAIM_TARGET) refl);
      same = keeps-all old old refl refl;
      counted = c.know_counts.ensures;
      device = c.requires.device;
      pages = refl;
    }

pub loop-self-preserved : goal.loop-self-preserved
loop-self-preserved g c =
    let call = c.in_ok-evict_last.ensures {u = tt} in
    let old = view g.B.Block.pages g.B.Block.contents g.B.Block.counts c.args.self.now c.args.device.now in
    let now = view g.B.Block.pages g.B.Block.contents g.B.Block.counts c.loop-self.self c.loop-self.device in
    let next = view g.B.Block.pages g.B.Block.contents g.B.Block.counts c.evict_last.new.self c.evict_last.new.device in
    let left = length c.evict_last.new.self.resident - RECLAIM_TARGET in
    let counted = c.len.ensures.len in
    let seen = ap (λ (s : AddressSpace). length s.resident) c.self.view_is in
    let more = c.loop-self-test.true in
    let fewer = call.fewer in
    let one : suc left ≡ length c.loop-self.self.resident - RECLAIM_TARGET = omega (arith, counted, seen, more, fewer) in
    record {
      rests = rests-then reclaiming evicting (evicting_many left) old now next
          (rests-as reclaiming (evicting_many (length c.loop-self.self.resident - RECLAIM_TARGET)) (then_way evicting (evicting_many left)) old now
          (subst (λ n. Alike (evicting_many n) (then_way evicting (evicting_many left)) now) one (evicted-more now left)) c.loop-self.invariant.rests) call.ok;
      same = keeps-then old now next c.loop-self.invariant.same call.same;
      counted = call.counted;
      device = call.device ∙ c.loop-self.invariant.pages;
      pages = call.pages ∙ c.loop-self.invariant.pages;
    }

pub returns-in_err-evict_last-clause-stops : goal.returns-in_err-evict_last-clause-stops
returns-in_err-evict_last-clause-stops g c =
    let now = view g.B.Block.pages g.B.Block.contents g.B.Block.counts c.loop-self.self c.loop-self.device in
    let next = view g.B.Block.pages g.B.Block.contents g.B.Block.counts c.evict_last.new.self c.evict_last.new.device in
    let left = length c.loop-self.self.resident - RECLAIM_TARGET - 1 in
    let counted = c.len.ensures.len in
    let seen = ap (λ (s : AddressSpace). length s.resident) c.self.view_is in
    let more = c.loop-self-test.true in
    let one : suc left ≡ length c.loop-self.self.resident - RECLAIM_TARGET = omega (arith, counted, seen, more) in
    on-err c.from_residual.result _ (c.loop-self.invariant.rests.stops next
    (stops-as (evicting_many (length c.loop-self.self.resident - RECLAIM_TARGET)) (then_way evicting (evicting_many left)) now next
    (subst (λ n. Alike (evicting_many n) (then_way evicting (evicting_many left)) now) one (evicted-more now left))
    (stops-first evicting (evicting_many left) now next (c.in_err-evict_last.ensures {u = tt}).stops)))

pub returns-clause-ok : goal.returns-clause-ok
returns-clause-ok g c =
    let few = c.loop-self-test.false in
    c.loop-self.invariant.rests.completes _ (none-left _ (view g.B.Block.pages g.B.Block.contents g.B.Block.counts c.loop-self.self c.loop-self.device) c.len.result
    c.self.view_is c.len.ensures.len (omega (arith, few)) c.loop-self.invariant.counted)
