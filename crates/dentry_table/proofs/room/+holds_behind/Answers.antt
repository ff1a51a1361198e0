use Rattle.std.proofs.Common.{sym}
use Rattle.dentry_table.proofs.Rooms.{behind-tells, beside-tells, end-tells, next-tells}
use Rattle.dentry_table.proofs.room.+holds_behind.Goals as goal

pub returns-then-len-room : goal.returns-then-len-room
returns-then-len-room t c = end-tells c.requires.tidy c.args.len c.if-len-room.true c.has_below.ensures

pub returns-then-has_beside : goal.returns-then-has_beside
returns-then-has_beside t c = beside-tells c.requires.tidy c.args.len c.if-len-room.false c.requires.len c.index-room-len.is (sym c.if-has_beside.ensures)

pub returns-then-count_in-ne0 : goal.returns-then-count_in-ne0
returns-then-count_in-ne0 t c = next-tells c.requires.tidy c.args.len c.if-len-room.false c.requires.len c.index-room-len.is c.if-count_in-ne0.true c.count_in.ensures

pub returns-else-count_in-ne0 : goal.returns-else-count_in-ne0
returns-else-count_in-ne0 t c =
    behind-tells c.requires.tidy c.args.len c.if-len-room.false c.requires.len c.index-room-len.is (sym c.if-has_beside.ensures) c.if-count_in-ne0.false c.count_in.ensures c.holds_behind.ensures
