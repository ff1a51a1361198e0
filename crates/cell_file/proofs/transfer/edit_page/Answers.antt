use Rattle.std.proofs.Common.{◌≡◌, ◌∙◌, ◌+◌, ◌-◌, ◌*◌, ◌<◌, ap, arith, drop, length, max, subst, sym, take}
use Rattle.std.proofs.lemmas.List.{length-drop, length-take}
use Rattle.vfs_base.specs.declared.limits.TheConstants.{PAGE_SIZE}
use Rattle.vfs_model.specs.FailedCalls.{bytes_before}
use Rattle.page_cache.specs.AddressSpace.{AddressSpace, Completes, view}
use Rattle.page_cache.specs.Resident.{spliced}
use Rattle.cell_file.specs.CellFile.{all_bytes}
use Rattle.cell_file.specs.Moves.{editing}
use Rattle.cell_file.specs.Parts.{part_in}
use Rattle.cell_file.proofs.Told.{edits-part, part-is}
use Rattle.cell_file.proofs.Touching.{touched-edited, touched-held}
use Rattle.cell_file.proofs.transfer.edit_page.Goals as goal

pub edit-requires-clause-there : goal.edit-requires-clause-there
edit-requires-clause-there g c =
    let old = view g.B.Block.pages g.B.Block.contents g.B.Block.counts c.args.space.now c.args.device.now in
    let now = view g.B.Block.pages g.B.Block.contents g.B.Block.counts c.touch.new.self c.touch.new.device in
    touched-held old now c.args.page (c.in_ok-touch.ensures {u = tt}).ok

pub returns-clause-ok : goal.returns-clause-ok
returns-clause-ok g c =
    let old = view g.B.Block.pages g.B.Block.contents g.B.Block.counts c.args.space.now c.args.device.now in
    let mid = view g.B.Block.pages g.B.Block.contents g.B.Block.counts c.touch.new.self c.touch.new.device in
    let piece = take (c.part_in-part.result.to - c.part_in-part.result.from) (drop c.part_in-part.result.from c.args.piece.now) in
    subst (λ (s : AddressSpace). Completes (editing c.args.page) old (record { space = s; device = mid.device })) (sym c.edit.ensures.edited)
    (touched-edited old mid c.args.page c.part_in-part.result.at piece (c.in_ok-touch.ensures {u = tt}).ok)

pub returns-clause-edits : goal.returns-clause-edits
returns-clause-edits g c told e h =
    let old = view g.B.Block.pages g.B.Block.contents g.B.Block.counts c.args.space.now c.args.device.now in
    let mid = view g.B.Block.pages g.B.Block.contents g.B.Block.counts c.touch.new.self c.touch.new.device in
    let touched = c.in_ok-touch.ensures {u = tt} in
    let now = touched.same told e h.current in
    let held = touched-held old mid c.args.page touched.ok in
    let low = subst (λ n. c.args.page < n) (sym touched.pages) c.requires.page in
    let k = c.part_in-part.result.from in
    let to = c.part_in-part.result.to in
    let at = c.part_in-part.result.at in
    let piece = c.args.piece.now in
    let part = take (to - k) (drop k piece) in
    let is_from = c.part_in-part.ensures.from in
    let is_to = c.part_in-part.ensures.to in
    let is_at = c.part_in-part.ensures.at in
    let order = c.part_in-part.ensures.order in
    let fits = c.part_in-part.ensures.fits in
    let size : length part ≡ to - k = (let t = length-take (to - k) (drop k piece) in let d = length-drop k piece in omega (arith, t, d, is_to, order)) in
    let same : part ≡ part_in c.args.page c.args.off piece =
    part-is piece k to (bytes_before c.args.off (c.args.page + 1)) is_to order ∙ ap (λ n. drop n (take (bytes_before c.args.off (c.args.page + 1)) piece)) is_from in
    let done = edits-part c.args.space.now c.touch.new.self c.edit.new.self told now.0 c.args.page at (max c.args.off (PAGE_SIZE * c.args.page)) part h now.2 held low
    (c.edit.ensures.current now.0 now.2.current) (c.edit.ensures.pages now.0 low) (omega (arith, is_at)) (omega (arith, size, fits)) in
    (now.0, now.1, done.0, done.1 ∙ ap (λ p. spliced (max c.args.off (PAGE_SIZE * c.args.page)) p (all_bytes c.args.space.now told)) same)
