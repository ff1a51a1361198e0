use Rattle.file_row.proofs.Rows.{rom-takes, tmp-takes, unbound-takes}
use Rattle.file_row.proofs.row_body.step_body.Goals as goal

pub returns-in-Unbound-clause-takes : goal.returns-in-Unbound-clause-takes
returns-in-Unbound-clause-takes g c generation = rw c.in-Unbound.is (unbound-takes generation c.args.step.now)

pub returns-in-Tmp-clause-takes : goal.returns-in-Tmp-clause-takes
returns-in-Tmp-clause-takes g c generation =
    rw c.in-Tmp.is (tmp-takes generation c.in-Tmp.bytes c.step_memory.new.bytes c.args.step.now _ _ c.step_memory.ensures.takes)

pub returns-in-Rom-clause-takes : goal.returns-in-Rom-clause-takes
returns-in-Rom-clause-takes g c generation =
    let takes = rw c.len-capacity.ensures at c.step_memory-in-Rom.ensures.takes in
    rw c.in-Rom.is (rom-takes generation c.in-Rom.bytes c.step_memory-in-Rom.new.bytes c.args.step.now _ _ (rw c.in-Rom.is at c.requires) takes)
