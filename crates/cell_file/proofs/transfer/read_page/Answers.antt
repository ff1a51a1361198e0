use Rattle.std.proofs.Common.{◌≡◌, ◌∙◌, ◌+◌, ◌-◌, ◌<◌, ap, arith, drop, length, subst, sym, take}
use Rattle.std.proofs.lemmas.List.{length-drop, length-take}
use Rattle.std.proofs.lemmas.Slice.{take-put_mid}
use Rattle.vfs_model.specs.FailedCalls.{bytes_before}
use Rattle.page_cache.specs.AddressSpace.{view}
use Rattle.page_cache.specs.Resident.{bytes_in}
use Rattle.cell_file.specs.CellFile.{all_bytes}
use Rattle.cell_file.specs.Parts.{HasRead}
use Rattle.cell_file.proofs.Told.{kept-part, mid-length, read-further}
use Rattle.cell_file.proofs.Touching.{touched-held}
use Rattle.cell_file.proofs.transfer.read_page.Goals as goal

pub copy_out-requires-clause-there : goal.copy_out-requires-clause-there
copy_out-requires-clause-there g c =
    let old = view g.B.Block.pages g.B.Block.contents g.B.Block.counts c.args.space.now c.args.device.now in
    let now = view g.B.Block.pages g.B.Block.contents g.B.Block.counts c.touch.new.self c.touch.new.device in
    touched-held old now c.args.page (c.in_ok-touch.ensures {u = tt}).ok

pub returns-clause-read : goal.returns-clause-read
returns-clause-read g c told e h before =
    let old = view g.B.Block.pages g.B.Block.contents g.B.Block.counts c.args.space.now c.args.device.now in
    let mid = view g.B.Block.pages g.B.Block.contents g.B.Block.counts c.touch.new.self c.touch.new.device in
    let touched = c.in_ok-touch.ensures {u = tt} in
    let now = touched.same told e h.current in
    let held = touched-held old mid c.args.page touched.ok in
    let low = subst (λ n. c.args.page < n) (sym touched.pages) c.requires.page in
    let k = c.part_in-part.result.from in
    let to = c.part_in-part.result.to in
    let at = c.part_in-part.result.at in
    let out = c.args.out.now in
    let ys = drop c.args.off (all_bytes c.args.space.now told) in
    let is_from = c.part_in-part.ensures.from in
    let is_to = c.part_in-part.ensures.to in
    let is_at = c.part_in-part.ensures.at in
    let order = c.part_in-part.ensures.order in
    let room : length (take (to - k) (drop k out)) ≡ to - k =
    (let t = length-take (to - k) (drop k out) in let d = length-drop k out in omega (arith, t, d, is_to, order)) in
    let size : length c.copy_out.new.out ≡ to - k = c.copy_out.auto.out ∙ room in
    let slice : c.copy_out.new.out ≡ take (to - k) (drop k ys) =
    c.copy_out.ensures ∙ ap (λ n. take n (drop at (bytes_in c.touch.new.self.resident c.args.page))) room
    ∙ kept-part c.args.space.now c.touch.new.self told now.0 c.args.page c.args.off k (to - k) at h now.2 held low (omega (arith, is_at, is_from)) c.part_in-part.ensures.fits in
    read-further ys out _ c.copy_out.new.out k to (bytes_before c.args.off (c.args.page + 1))
    (mid-length k (to - k) out c.copy_out.new.out (omega (arith, is_to, order)) size) is_to order size slice
    (take-put_mid k (to - k) out c.copy_out.new.out to (omega (arith, size, order)) (omega (arith, is_to, order)))
    (subst (λ n. HasRead c.args.off n out (all_bytes c.args.space.now told)) (sym is_from) before)
