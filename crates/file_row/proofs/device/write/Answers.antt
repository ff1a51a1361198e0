use Rattle.std.proofs.Common.{length, refl}
use Rattle.vfs_base.specs.declared.entry.Mark.TheVariants as mark
use Rattle.file_row.specs.Row.{seen}
use Rattle.file_row.proofs.DeviceSteps.{chars-written, less-short}
use Rattle.file_row.proofs.device.write.Goals as goal

pub returns-in-Ok-clause-writes : goal.returns-in-Ok-clause-writes
returns-in-Ok-clause-writes g c =
    let old = seen g.C.Chars.contents g.C.Chars.faults c.args.device.now in
    let new = seen g.C.Chars.contents g.C.Chars.faults c.write.new.self in
    chars-written old new c.args.piece.now mark.Clear refl c.in-Ok.ensures.contents

pub returns-in-Err-clause-writes : goal.returns-in-Err-clause-writes
returns-in-Err-clause-writes g c =
    let old = seen g.C.Chars.contents g.C.Chars.faults c.args.device.now in
    let new = seen g.C.Chars.contents g.C.Chars.faults c.write.new.self in
    let n = c.in-Err.stopped.moved in
    rw c.answer.ensures (chars-written old new c.args.piece.now (mark.Fault n) (less-short n (length c.args.piece.now) c.in-Err.ensures.stopped) c.in-Err.ensures.contents)
