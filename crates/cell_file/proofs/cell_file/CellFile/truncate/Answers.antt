use Rattle.std.proofs.Common.{◌∙◌, ◌≤◌, ap, arith, option_map, refl, subst, sym}
use Rattle.vfs_model.specs.FileStep.{cut_or_padded}
use Rattle.cell_file.specs.CellFile.{CellFile, capacity, cut_under, seen, told_bytes}
use Rattle.cell_file.specs.Moves.{Passes, truncating}
use Rattle.cell_file.proofs.Cutting.{not-cut}
use Rattle.cell_file.proofs.Files.{file-padded, file-truncated, same-device}
use Rattle.cell_file.proofs.cell_file.CellFile.truncate.Goals as goal

pub invariant_of-self : goal.invariant_of-self
invariant_of-self g c =
    let P = g.B.Block.pages in let C = g.B.Block.contents in let N = g.B.Block.counts in
    let old = seen P C N c.self.inside.space c.self.inside.device c.self.inside.size in
    let new = seen P C N c.self.inside.space c.self.inside.device c.args.len in
    let inside = subst (λ f. c.args.len ≤ capacity f) (sym c.self.view_is) c.requires in
    (file-padded old new c.args.len c.self.invariant refl c.if-self-len.true inside refl).sound

pub returns-then-self-len-clause-bytes : goal.returns-then-self-len-clause-bytes
returns-then-self-len-clause-bytes g c =
    let P = g.B.Block.pages in let C = g.B.Block.contents in let N = g.B.Block.counts in
    let old = seen P C N c.self.inside.space c.self.inside.device c.self.inside.size in
    let new = seen P C N c.self.inside.space c.self.inside.device c.args.len in
    let inside = subst (λ f. c.args.len ≤ capacity f) (sym c.self.view_is) c.requires in
    (file-padded old new c.args.len c.self.invariant refl c.if-self-len.true inside refl).bytes
    ∙ ap (λ f. option_map (cut_or_padded c.args.len) (told_bytes f)) c.self.view_is

pub returns-then-self-len-clause-runs : goal.returns-then-self-len-clause-runs
returns-then-self-len-clause-runs g c =
    let P = g.B.Block.pages in let C = g.B.Block.contents in let N = g.B.Block.counts in
    let old = seen P C N c.self.inside.space c.self.inside.device c.self.inside.size in
    subst (λ (f : CellFile). Passes (truncating f.size c.args.len) f.state old.state) c.self.view_is
    (not-cut old.state c.self.inside.size c.args.len c.if-self-len.true c.know_counts.ensures)

pub invariant_of-self-2 : goal.invariant_of-self-2
invariant_of-self-2 g c =
    let P = g.B.Block.pages in let C = g.B.Block.contents in let N = g.B.Block.counts in
    let old = seen P C N c.self.inside.space c.self.inside.device c.self.inside.size in
    let new = seen P C N c.truncate_pages-mark.new.space c.truncate_pages-mark.new.device c.size_under-self-inside.result in
    let call = c.truncate_pages-mark.ensures in
    let m = c.truncate_pages-mark.result in
    let shorter : c.args.len ≤ c.self.inside.size = (let low = c.if-self-len.false in omega (arith, low)) in
    (file-truncated old new c.args.len m c.self.invariant call.pages (same-device _ old.state new.state m call.runs) shorter c.size_under-self-inside.ensures call.cuts).sound

pub returns-clause-bytes : goal.returns-clause-bytes
returns-clause-bytes g c =
    let P = g.B.Block.pages in let C = g.B.Block.contents in let N = g.B.Block.counts in
    let old = seen P C N c.self.inside.space c.self.inside.device c.self.inside.size in
    let new = seen P C N c.truncate_pages-mark.new.space c.truncate_pages-mark.new.device c.size_under-self-inside.result in
    let call = c.truncate_pages-mark.ensures in
    let m = c.truncate_pages-mark.result in
    let shorter : c.args.len ≤ c.self.inside.size = (let low = c.if-self-len.false in omega (arith, low)) in
    (file-truncated old new c.args.len m c.self.invariant call.pages (same-device _ old.state new.state m call.runs) shorter c.size_under-self-inside.ensures call.cuts).bytes
    ∙ ap (λ f. option_map (cut_under m c.args.len) (told_bytes f)) c.self.view_is
