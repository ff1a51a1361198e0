use Rattle.std.proofs.Common.{◌∙◌, ◌+◌, ◌≤◌, ap, length, option_map, subst, sym, take}
use Rattle.vfs_model.specs.FileStep.{written_at}
use Rattle.cell_file.specs.CellFile.{capacity, moved_under, seen, size_behind, told_bytes}
use Rattle.cell_file.proofs.Files.{file-edited, same-device}
use Rattle.cell_file.proofs.cell_file.CellFile.write.Goals as goal

pub invariant_of-self : goal.invariant_of-self
invariant_of-self g c =
    let P = g.B.Block.pages in let C = g.B.Block.contents in let N = g.B.Block.counts in
    let old = seen P C N c.self.inside.space c.self.inside.device c.self.inside.size in
    let new = seen P C N c.edit_pages-mark.new.space c.edit_pages-mark.new.device c.size_behind-self-inside.result in
    let call = c.edit_pages-mark.ensures in
    let m = c.edit_pages-mark.result in
    let size = c.size_behind-self-inside.ensures ∙ ap (λ n. size_behind c.args.off n c.self.inside.size) c.moved_under-moved.ensures in
    let fits = subst (λ f. c.args.off + length c.args.piece.now ≤ capacity f) (sym c.self.view_is) c.requires in
    (file-edited old new c.args.off c.args.piece.now m c.self.invariant call.pages (same-device _ old.state new.state m call.runs) fits call.within size call.edits).sound

pub returns-clause-bytes : goal.returns-clause-bytes
returns-clause-bytes g c =
    let P = g.B.Block.pages in let C = g.B.Block.contents in let N = g.B.Block.counts in
    let old = seen P C N c.self.inside.space c.self.inside.device c.self.inside.size in
    let new = seen P C N c.edit_pages-mark.new.space c.edit_pages-mark.new.device c.size_behind-self-inside.result in
    let call = c.edit_pages-mark.ensures in
    let m = c.edit_pages-mark.result in
    let size = c.size_behind-self-inside.ensures ∙ ap (λ n. size_behind c.args.off n c.self.inside.size) c.moved_under-moved.ensures in
    let fits = subst (λ f. c.args.off + length c.args.piece.now ≤ capacity f) (sym c.self.view_is) c.requires in
    (file-edited old new c.args.off c.args.piece.now m c.self.invariant call.pages (same-device _ old.state new.state m call.runs) fits call.within size call.edits).bytes
    ∙ ap (λ f. option_map (written_at c.args.off (take (moved_under m (length c.args.piece.now)) c.args.piece.now)) (told_bytes f)) c.self.view_is
