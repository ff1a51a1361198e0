use Rattle.std.proofs.Common.{◌∙◌, ◌*◌, ap, refl, sym}
use Rattle.vfs_base.specs.declared.limits.TheConstants.{PAGE_SIZE}
use Rattle.file_row.proofs.CellSteps.{writes-at, writes-none}
use Rattle.file_row.proofs.Witnesses.{no-bytes}
use Rattle.file_row.proofs.cell.write.Goals as goal

pub returns-then-is_empty : goal.returns-then-is_empty
returns-then-is_empty g c =
    writes-none c.args.off c.args.piece.now c.args.file.now (record { sound = c.requires.sound.0; counted = c.requires.sound.1; cell = refl })
    (no-bytes c.args.piece.now (sym c.is_empty.ensures ∙ c.if-is_empty.true))

pub returns : goal.returns
returns g c =
    let call = c.write-mark.ensures in
    let count = c.moved_under-n.ensures in
    rw (c.answer.ensures, count) (writes-at c.args.off c.args.piece.now c.write-mark.result
    (record { sound = c.requires.sound.0; counted = c.requires.sound.1; cell = ap (λ n. PAGE_SIZE * n) call.pages })
    (record { within = call.within; told = call.bytes; size = call.size }) call.runs)
