use Rattle.std.proofs.Common.{◌∙◌, ap, option_map, refl}
use Rattle.cell_file.specs.CellFile.{seen, told_bytes}
use Rattle.cell_file.proofs.Files.{file-kept, option-same, same-device}
use Rattle.cell_file.proofs.cell_file.CellFile.write_back.Goals as goal

pub invariant_of-self : goal.invariant_of-self
invariant_of-self g c =
    let P = g.B.Block.pages in let C = g.B.Block.contents in let N = g.B.Block.counts in
    let old = seen P C N c.self.inside.space c.self.inside.device c.self.inside.size in
    let new = seen P C N c.clean_pages.new.space c.clean_pages.new.device c.self.inside.size in
    let call = c.clean_pages.ensures in
    (file-kept old new c.self.invariant call.pages (same-device _ old.state new.state c.clean_pages.result call.runs) refl call.same).sound

pub returns-clause-bytes : goal.returns-clause-bytes
returns-clause-bytes g c =
    let P = g.B.Block.pages in let C = g.B.Block.contents in let N = g.B.Block.counts in
    let old = seen P C N c.self.inside.space c.self.inside.device c.self.inside.size in
    let new = seen P C N c.clean_pages.new.space c.clean_pages.new.device c.self.inside.size in
    let call = c.clean_pages.ensures in
    (file-kept old new c.self.invariant call.pages (same-device _ old.state new.state c.clean_pages.result call.runs) refl call.same).bytes
    ∙ ap (λ f. option_map (λ bytes. bytes) (told_bytes f)) c.self.view_is ∙ option-same (told_bytes c.args.self.now)
