use Rattle.std.proofs.Common.{◌≡◌, ◌∙◌, ◌-◌, ◌≤◌, IfSome, ap, arith, length, min, refl, subst}
use Rattle.file_row.specs.Row.{seen}
use Rattle.file_row.proofs.CellSteps.{front-filled}
use Rattle.file_row.proofs.DeviceSteps.{chars-read, chars-starved, less-short, read-seen, stop-seen}
use Rattle.file_row.proofs.device.read.Goals as goal

pub returns-in_default-clause-reads : goal.returns-in_default-clause-reads
returns-in_default-clause-reads g c = rw c.starved.ensures (chars-starved c.args.len (seen g.C.Chars.contents g.C.Chars.faults c.args.device.now))

pub returns-in-Ok-read-clause-reads : goal.returns-in-Ok-read-clause-reads
returns-in-Ok-read-clause-reads g c =
    let out = c.read.new.out in
    let n = c.in-Ok-read.count in
    let lent = ap length c.as_mut_slice.ensures.value in
    let full : length out ≡ c.read_room.result = c.read.auto.out ∙ lent ∙ c.in-Ok.ensures in
    let low : n ≤ length out = c.in-Ok-read.ensures.within in
    let room = c.read_room.ensures.within in
    let old = seen g.C.Chars.contents g.C.Chars.faults c.args.device.now in
    let new = seen g.C.Chars.contents g.C.Chars.faults c.read.new.self in
    rw (c.truncate.ensures ∙ front-filled n _ _ out refl (c.read.auto.out ∙ lent))
    (chars-read {old = old} {new = new} (record { low = omega arith; bounded = omega (arith, full, low, room); inside = low; short = refl; moved = refl })
    (read-seen old.contents c.args.len c.read_room.result n out c.read_room.ensures.told
    (subst (λ k. IfSome old.contents (λ t. n ≡ min k (length t.input))) full c.in-Ok-read.ensures.full)
    c.in-Ok-read.ensures.bytes)
    c.in-Ok-read.ensures.contents)

pub returns-in-Err-clause-reads : goal.returns-in-Err-clause-reads
returns-in-Err-clause-reads g c =
    let out = c.read.new.out in
    let n = c.in-Err.stopped.moved in
    let lent = ap length c.as_mut_slice.ensures.value in
    let full : length out ≡ c.read_room.result = c.read.auto.out ∙ lent ∙ c.in-Ok.ensures in
    let low : n ≤ length out - 1 = c.in-Err.ensures.stopped in
    let room = c.read_room.ensures.within in
    let old = seen g.C.Chars.contents g.C.Chars.faults c.args.device.now in
    let new = seen g.C.Chars.contents g.C.Chars.faults c.read.new.self in
    rw (c.answer.ensures, c.truncate-in-Err.ensures ∙ front-filled n _ _ out refl (c.read.auto.out ∙ lent))
    (chars-read {old = old} {new = new}
    (record {
      low = omega (arith, full, low, room);
      bounded = omega arith;
      inside = omega (arith, low);
      short = less-short n c.args.len (omega (arith, full, low, room));
      moved = refl;
    })
    (stop-seen old.contents c.args.len c.read_room.result n out c.read_room.ensures.told
    (subst (λ k. IfSome old.contents (λ t. n ≤ min k (length t.input) - 1)) full c.in-Err.ensures.short)
    c.in-Err.ensures.bytes)
    c.in-Err.ensures.contents)
