use Rattle.std.proofs.Common.{◌≡◌, ◌∙◌, ◌*◌, ap, length, refl, subst, take, true}
use Rattle.vfs_base.specs.declared.limits.TheConstants.{PAGE_SIZE}
use Rattle.cell_file.specs.CellFile.{is_within}
use Rattle.cell_file.specs.Moves.{Runs, reading_pages}
use Rattle.file_row.proofs.CellSteps.{Call, front-filled, inside-of, reads-at, reads-none, reads-starved}
use Rattle.file_row.proofs.cell.read.Goals as goal

pub returns-then-count-eq0 : goal.returns-then-count-eq0
returns-then-count-eq0 g c =
    let empty = c.new.ensures in
    rw empty (reads-none c.args.off c.args.count c.args.file.now (record { sound = c.requires.sound.0; counted = c.requires.sound.1; cell = refl }) c.if-count-eq0.true)

pub returns-in_default : goal.returns-in_default
returns-in_default g c =
    rw c.starved.ensures (reads-starved c.args.off c.args.count c.args.file.now (record { sound = c.requires.sound.0; counted = c.requires.sound.1; cell = refl }))

pub returns : goal.returns
returns g c =
    let f = c.args.file.now in
    let m = c.read-mark.result in
    let out = c.read-mark.new.out in
    let call = c.read-mark.ensures in
    let lent = ap length c.as_mut_slice.ensures.value in
    let full : length out ≡ c.args.count = c.read-mark.auto.out ∙ lent ∙ c.in-Ok.ensures in
    let bytes = c.truncate.ensures ∙ front-filled c.moved_under.result _ _ out refl (c.read-mark.auto.out ∙ lent) ∙ ap (λ k. take k out) c.moved_under.ensures in
    let size = lent ∙ c.in-Ok.ensures in
    let cell : Call f c.read-mark.new.self = record { sound = c.requires.sound.0; counted = c.requires.sound.1; cell = ap (λ n. PAGE_SIZE * n) call.pages } in
    rw (c.answer.ensures, bytes) (reads-at c.args.off c.args.count out m (record { call = cell; told = call.bytes; size = call.size })
    (record {
      full = full;
      inside = inside-of c.args.off c.args.count f.size c.if-count-eq0.false c.requires.inside;
      within = subst (λ n. is_within m n ≡ true) size call.within;
      read = call.read;
    })
    (subst (λ n. Runs (reading_pages c.args.off n) f.state c.read-mark.new.self.state m) size call.runs))
