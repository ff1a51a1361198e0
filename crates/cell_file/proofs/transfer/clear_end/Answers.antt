use Rattle.std.proofs.Common.{ℕ, ◌≡◌, ◌∙◌, ◌-◌, ◌/◌, ◌%◌, ◌<◌, ap, arith, length, replicate, subst, sym, true}
use Rattle.std.proofs.lemmas.List.{length-replicate}
use Rattle.vfs_base.specs.declared.limits.TheConstants.{PAGE_SIZE}
use Rattle.page_cache.specs.AddressSpace.{AddressSpace, Completes, view}
use Rattle.page_cache.specs.Resident.{spliced}
use Rattle.page_cache.proofs.Runs.{completes-as}
use Rattle.cell_file.specs.CellFile.{all_bytes}
use Rattle.cell_file.specs.Moves.{editing, ending}
use Rattle.cell_file.specs.Parts.{has_end, page_end}
use Rattle.cell_file.proofs.Cutting.{clears-edited, clears-kept, end-absent, end-edited, end-room}
use Rattle.cell_file.proofs.Files.{all-size}
use Rattle.cell_file.proofs.Told.{edits-part}
use Rattle.cell_file.proofs.Touching.{touched-edited, touched-held}
use Rattle.cell_file.proofs.transfer.clear_end.Goals as goal

pub returns-then-not-has_end-clause-ok : goal.returns-then-not-has_end-clause-ok
returns-then-not-has_end-clause-ok g c =
    let old = view g.B.Block.pages g.B.Block.contents g.B.Block.counts c.args.space.now c.args.device.now in
    end-absent old c.args.len (sym c.has_end.ensures ∙ c.if-not-has_end.true) c.know_counts.ensures

pub returns-then-not-has_end-clause-clears : goal.returns-then-not-has_end-clause-clears
returns-then-not-has_end-clause-clears g c told e h =
    (told, e, h, clears-kept c.args.space.now told c.args.len h c.requires.inside (sym c.has_end.ensures ∙ c.if-not-has_end.true))

pub edit-requires-clause-there : goal.edit-requires-clause-there
edit-requires-clause-there g c =
    let old = view g.B.Block.pages g.B.Block.contents g.B.Block.counts c.args.space.now c.args.device.now in
    let mid = view g.B.Block.pages g.B.Block.contents g.B.Block.counts c.touch.new.self c.touch.new.device in
    touched-held old mid (c.args.len / PAGE_SIZE) (c.in_ok-touch.ensures {u = tt}).ok

pub returns-clause-ok : goal.returns-clause-ok
returns-clause-ok g c =
    let old = view g.B.Block.pages g.B.Block.contents g.B.Block.counts c.args.space.now c.args.device.now in
    let mid = view g.B.Block.pages g.B.Block.contents g.B.Block.counts c.touch.new.self c.touch.new.device in
    let new = view g.B.Block.pages g.B.Block.contents g.B.Block.counts c.edit.new.self c.touch.new.device in
    completes-as (ending c.args.len) (editing (c.args.len / PAGE_SIZE)) old new (end-edited old c.args.len (sym c.has_end.ensures ∙ c.if-not-has_end.false))
    (subst (λ (s : AddressSpace). Completes (editing (c.args.len / PAGE_SIZE)) old (record { space = s; device = mid.device })) (sym c.edit.ensures.edited)
    (touched-edited old mid (c.args.len / PAGE_SIZE) (c.args.len % PAGE_SIZE) c.zeros.result.now (c.in_ok-touch.ensures {u = tt}).ok))

pub returns-clause-clears : goal.returns-clause-clears
returns-clause-clears g c told e h =
    let old = view g.B.Block.pages g.B.Block.contents g.B.Block.counts c.args.space.now c.args.device.now in
    let mid = view g.B.Block.pages g.B.Block.contents g.B.Block.counts c.touch.new.self c.touch.new.device in
    let len = c.args.len in
    let touched = c.in_ok-touch.ensures {u = tt} in
    let now = touched.same told e h.current in
    let page = len / PAGE_SIZE in
    let at = len % PAGE_SIZE in
    let held = touched-held old mid page touched.ok in
    let inside = c.requires.inside in
    let same = touched.pages in
    let low : page < c.touch.new.self.pages = omega (arith, inside, same) in
    let part = c.zeros.result.now in
    let filled : part ≡ replicate (PAGE_SIZE - at) 0 = c.zeros.ensures ∙ ap (λ k. replicate (PAGE_SIZE - k) 0) c.from.ensures in
    let size : length part ≡ PAGE_SIZE - at = ap length filled ∙ length-replicate {A = ℕ} (PAGE_SIZE - at) 0 in
    let count = all-size c.args.space.now told h in
    let done = edits-part c.args.space.now c.touch.new.self c.edit.new.self told now.0 page at len part h now.2 held low
    (c.edit.ensures.current now.0 now.2.current) (c.edit.ensures.pages now.0 low) (omega arith) (omega (arith, size)) in
    let behind : has_end len c.args.space.now ≡ true = sym c.has_end.ensures ∙ c.if-not-has_end.false in
    let zeros : part ≡ replicate (page_end len - len) 0 = filled ∙ ap (λ n. replicate n 0) (end-room len c.args.space.now behind) in (
      now.0,
      now.1,
      done.0,
      clears-edited (all_bytes c.args.space.now told) (all_bytes c.edit.new.self now.0) len (omega (arith, count, inside))
          (done.1 ∙ ap (λ p. spliced len p (all_bytes c.args.space.now told)) zeros),
    )
