use Rattle.std.proofs.Common.{◌∙◌, ℕ, ◌+◌, ◌-◌, ◌/◌, List, ap, length, subst, sym}
use Rattle.std.specs.List.{range_with_len}
use Rattle.vfs_base.specs.declared.limits.TheConstants.{PAGE_SIZE}
use Rattle.vfs_model.specs.Cache.{touch}
use Rattle.vfs_model.specs.FailedCalls.{bytes_before, try_touch}
use Rattle.page_cache.specs.AddressSpace.{view}
use Rattle.page_cache.proofs.Found.{same-number}
use Rattle.page_cache.proofs.Pages.{keeps-then}
use Rattle.cell_file.specs.Moves.{Passes, Runs, each_way, mark_of, reading_pages}
use Rattle.cell_file.specs.Parts.{RestsOf}
use Rattle.cell_file.proofs.PageWays.{grown-touch, page-rests, page-stopped, pages-done, rests-further, runs-of}
use Rattle.cell_file.proofs.Ranges.{made-counted, pages-none, range-more, range-past}
use Rattle.cell_file.proofs.Told.{reads-then}
use Rattle.cell_file.proofs.transfer.read_pages.Goals as goal

pub returns-then-is_empty-clause-runs : goal.returns-then-is_empty-clause-runs
returns-then-is_empty-clause-runs g c =
    let old = view g.B.Block.pages g.B.Block.contents g.B.Block.counts c.args.space.now c.args.device.now in
    let count : ℕ = length c.args.out.now in
    subst (λ pages. Passes (each_way touch try_touch c.args.off pages) old old) (sym (pages-none c.args.off count (same-number count 0 (sym c.is_empty.ensures ∙ c.if-is_empty.true))))
    (pages-done touch try_touch c.args.off old c.know_counts.ensures)

pub returns-in-Err-clause-runs : goal.returns-in-Err-clause-runs
returns-in-Err-clause-runs g c =
    let old = view g.B.Block.pages g.B.Block.contents g.B.Block.counts c.args.space.now c.args.device.now in
    let now = view g.B.Block.pages g.B.Block.contents g.B.Block.counts c.loop-page.space c.loop-page.device in
    let next = view g.B.Block.pages g.B.Block.contents g.B.Block.counts c.read_page.new.space c.read_page.new.device in
    let off = c.args.off in
    let page = c.loop-page.page in
    let end : ℕ = (off + length c.args.out.now - 1) / PAGE_SIZE + 1 in
    let whole = reading_pages off (length c.args.out.now) in
    let rest = each_way touch try_touch off (range_with_len page (end - page)) in
    let why = mark_of c.in-Err.fault (bytes_before off page) in
    subst (Runs whole old next) (sym (c.mark_of.ensures ∙ ap (mark_of c.in-Err.fault) c.bytes_before.ensures))
    (runs-of whole rest old now next why c.loop-page.invariant.rests
    (subst (λ pages. Runs (each_way touch try_touch off pages) now next why) (sym (range-more page end c.loop-page-test.true))
    (page-stopped touch try_touch grown-touch off page (range_with_len (page + 1) (end - (page + 1))) now next c.in-Err.fault (c.in-Err.ensures {u = tt}).stops)))

pub loop-page-preserved : goal.loop-page-preserved
loop-page-preserved g c =
    let old = view g.B.Block.pages g.B.Block.contents g.B.Block.counts c.args.space.now c.args.device.now in
    let now = view g.B.Block.pages g.B.Block.contents g.B.Block.counts c.loop-page.space c.loop-page.device in
    let next = view g.B.Block.pages g.B.Block.contents g.B.Block.counts c.read_page.new.space c.read_page.new.device in
    let off = c.args.off in
    let page = c.loop-page.page in
    let end : ℕ = (off + length c.args.out.now - 1) / PAGE_SIZE + 1 in
    let whole = reading_pages off (length c.args.out.now) in
    let left : List ℕ = range_with_len (page + 1) (end - (page + 1)) in
    let call = c.in_default.ensures {u = tt} in
    record {
      rests = rests-further whole (each_way touch try_touch off (range_with_len page (end - page))) (each_way touch try_touch off left) old now next c.loop-page.invariant.rests
          (subst (λ pages. RestsOf (each_way touch try_touch off pages) now (each_way touch try_touch off left) next) (sym (range-more page end c.loop-page-test.true))
          (page-rests touch try_touch off page left now next call.ok));
      same = keeps-then old now next c.loop-page.invariant.same call.same;
      read = reads-then old now off page c.loop-page.out c.read_page.new.out c.loop-page.invariant.same c.loop-page.invariant.read call.read;
      counted = made-counted call.ok.made _ now.device next.device call.ok.calls;
      device = call.ok.calls.pages ∙ c.loop-page.invariant.device;
      pages = call.pages ∙ c.loop-page.invariant.pages;
    }

pub returns-clause-runs : goal.returns-clause-runs
returns-clause-runs g c =
    let now = view g.B.Block.pages g.B.Block.contents g.B.Block.counts c.loop-page.space c.loop-page.device in
    let end : ℕ = (c.args.off + length c.args.out.now - 1) / PAGE_SIZE + 1 in
    c.loop-page.invariant.rests.passes now
    (subst (λ pages. Passes (each_way touch try_touch c.args.off pages) now now) (sym (range-past c.loop-page.page end c.loop-page-test.false))
    (pages-done touch try_touch c.args.off now c.loop-page.invariant.counted))
