use Rattle.std.proofs.Common.{◌≡◌, ◌∙◌, ap, arith, length, option_map, refl, subst}
use Rattle.cell_file.specs.CellFile.{CellFile, ReadsFile, is_within, seen, told_bytes}
use Rattle.cell_file.proofs.Files.{file-kept, file-read, option-same, same-device}
use Rattle.cell_file.proofs.cell_file.CellFile.read.Goals as goal

pub invariant_of-self : goal.invariant_of-self
invariant_of-self g c =
    let P = g.B.Block.pages in let C = g.B.Block.contents in let N = g.B.Block.counts in
    let old = seen P C N c.self.inside.space c.self.inside.device c.self.inside.size in
    let new = seen P C N c.read_pages.new.space c.read_pages.new.device c.self.inside.size in
    let call = c.read_pages.ensures in
    (file-kept old new c.self.invariant call.pages (same-device _ old.state new.state c.read_pages.result call.runs) refl call.same).sound

pub returns-clause-bytes : goal.returns-clause-bytes
returns-clause-bytes g c =
    let P = g.B.Block.pages in let C = g.B.Block.contents in let N = g.B.Block.counts in
    let old = seen P C N c.self.inside.space c.self.inside.device c.self.inside.size in
    let new = seen P C N c.read_pages.new.space c.read_pages.new.device c.self.inside.size in
    let call = c.read_pages.ensures in
    (file-kept old new c.self.invariant call.pages (same-device _ old.state new.state c.read_pages.result call.runs) refl call.same).bytes
    ∙ ap (λ f. option_map (λ bytes. bytes) (told_bytes f)) c.self.view_is ∙ option-same (told_bytes c.args.self.now)

pub returns-clause-read : goal.returns-clause-read
returns-clause-read g c =
    let P = g.B.Block.pages in let C = g.B.Block.contents in let N = g.B.Block.counts in
    let old = seen P C N c.self.inside.space c.self.inside.device c.self.inside.size in
    let call = c.read_pages.ensures in
    let out = c.read_pages.new.out in
    let same : length out ≡ length c.args.out.now = c.read_pages.auto.out in
    let inside = c.requires in
    let size = ap (λ (f : CellFile). f.size) c.self.view_is in
    subst (ReadsFile c.args.off c.read_pages.result out) c.self.view_is
    (file-read old c.args.off out c.read_pages.result (omega (arith, same, inside, size)) (ap (is_within c.read_pages.result) same ∙ call.within) c.self.invariant call.read)
