use Rattle.std.proofs.Common.{◌∙◌, ℕ, ◌+◌, ◌-◌, ◌/◌, ◌<◌, List, ap, arith, length, refl, subst, sym}
use Rattle.std.specs.List.{range_with_len}
use Rattle.vfs_base.specs.declared.limits.TheConstants.{PAGE_SIZE}
use Rattle.vfs_model.specs.Cache.{touch_and_edit}
use Rattle.vfs_model.specs.FailedCalls.{bytes_before, try_edit}
use Rattle.page_cache.specs.AddressSpace.{view}
use Rattle.page_cache.proofs.Found.{other-number, same-number}
use Rattle.cell_file.specs.Moves.{Passes, Runs, each_way, mark_of, editing_pages}
use Rattle.cell_file.specs.Parts.{RestsOf}
use Rattle.cell_file.proofs.PageWays.{grown-edit, page-rests, page-stopped, pages-done, rests-further, runs-of}
use Rattle.cell_file.proofs.Ranges.{made-counted, meets, pages-none, range-more, range-past}
use Rattle.cell_file.proofs.Told.{edits-then}
use Rattle.cell_file.proofs.transfer.edit_pages.Goals as goal

pub returns-then-is_empty-clause-runs : goal.returns-then-is_empty-clause-runs
returns-then-is_empty-clause-runs g c =
    let old = view g.B.Block.pages g.B.Block.contents g.B.Block.counts c.args.space.now c.args.device.now in
    let count : ℕ = length c.args.piece.now in
    subst (λ pages. Passes (each_way touch_and_edit try_edit c.args.off pages) old old) (sym (pages-none c.args.off count (same-number count 0 (sym c.is_empty.ensures ∙ c.if-is_empty.true))))
    (pages-done touch_and_edit try_edit c.args.off old c.know_counts.ensures)

pub returns-in-Err-clause-runs : goal.returns-in-Err-clause-runs
returns-in-Err-clause-runs g c =
    let old = view g.B.Block.pages g.B.Block.contents g.B.Block.counts c.args.space.now c.args.device.now in
    let now = view g.B.Block.pages g.B.Block.contents g.B.Block.counts c.loop-page.space c.loop-page.device in
    let next = view g.B.Block.pages g.B.Block.contents g.B.Block.counts c.edit_page.new.space c.edit_page.new.device in
    let off = c.args.off in
    let page = c.loop-page.page in
    let end : ℕ = (off + length c.args.piece.now - 1) / PAGE_SIZE + 1 in
    let whole = editing_pages off (length c.args.piece.now) in
    let rest = each_way touch_and_edit try_edit off (range_with_len page (end - page)) in
    let why = mark_of c.in-Err.fault (bytes_before off page) in
    subst (Runs whole old next) (sym (c.mark_of.ensures ∙ ap (mark_of c.in-Err.fault) c.bytes_before.ensures))
    (runs-of whole rest old now next why c.loop-page.invariant.rests
    (subst (λ pages. Runs (each_way touch_and_edit try_edit off pages) now next why) (sym (range-more page end c.loop-page-test.true))
    (page-stopped touch_and_edit try_edit grown-edit off page (range_with_len (page + 1) (end - (page + 1))) now next c.in-Err.fault (c.in-Err.ensures {u = tt}).stops)))

pub loop-page-preserved : goal.loop-page-preserved
loop-page-preserved g c =
    let old = view g.B.Block.pages g.B.Block.contents g.B.Block.counts c.args.space.now c.args.device.now in
    let now = view g.B.Block.pages g.B.Block.contents g.B.Block.counts c.loop-page.space c.loop-page.device in
    let next = view g.B.Block.pages g.B.Block.contents g.B.Block.counts c.edit_page.new.space c.edit_page.new.device in
    let off = c.args.off in
    let page = c.loop-page.page in
    let end : ℕ = (off + length c.args.piece.now - 1) / PAGE_SIZE + 1 in
    let whole = editing_pages off (length c.args.piece.now) in
    let left : List ℕ = range_with_len (page + 1) (end - (page + 1)) in
    let call = c.in_default.ensures {u = tt} in
    let some : 0 < length c.args.piece.now = (let apart = other-number (length c.args.piece.now) 0 (sym c.is_empty.ensures ∙ c.if-is_empty.false) in omega (arith, apart)) in
    record {
      rests = rests-further whole (each_way touch_and_edit try_edit off (range_with_len page (end - page))) (each_way touch_and_edit try_edit off left) old now next c.loop-page.invariant.rests
          (subst (λ pages. RestsOf (each_way touch_and_edit try_edit off pages) now (each_way touch_and_edit try_edit off left) next) (sym (range-more page end c.loop-page-test.true))
          (page-rests touch_and_edit try_edit off page left now next call.ok));
      edits = edits-then old now next off page c.args.piece.now
          (meets off (length c.args.piece.now) (off / PAGE_SIZE) ((off + length c.args.piece.now - 1) / PAGE_SIZE) page some refl refl c.loop-page.auto.page c.loop-page-test.true) c.requires.inside c.loop-page.invariant.edits call.edits;
      counted = made-counted call.ok.made _ now.device next.device call.ok.calls;
      device = call.ok.calls.pages ∙ c.loop-page.invariant.device;
      pages = call.pages ∙ c.loop-page.invariant.pages;
    }

pub returns-clause-runs : goal.returns-clause-runs
returns-clause-runs g c =
    let now = view g.B.Block.pages g.B.Block.contents g.B.Block.counts c.loop-page.space c.loop-page.device in
    let end : ℕ = (c.args.off + length c.args.piece.now - 1) / PAGE_SIZE + 1 in
    c.loop-page.invariant.rests.passes now
    (subst (λ pages. Passes (each_way touch_and_edit try_edit c.args.off pages) now now) (sym (range-past c.loop-page.page end c.loop-page-test.false))
    (pages-done touch_and_edit try_edit c.args.off now c.loop-page.invariant.counted))
