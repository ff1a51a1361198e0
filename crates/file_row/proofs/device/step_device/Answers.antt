use Rattle.file_row.specs.Row.{seen}
use Rattle.std.proofs.Common.{inl, inr}
use Rattle.file_row.proofs.DeviceSteps.{appends-take, device-idles, is-no-transfer, reads-take, writes-take}
use Rattle.file_row.proofs.device.step_device.Goals as goal

pub returns-in-Read-clause-takes : goal.returns-in-Read-clause-takes
returns-in-Read-clause-takes g c generation =
    rw c.in-Read.is (reads-take generation c.in-Read.off c.in-Read.len c.in-Read.file c.read.ensures.reads)

pub returns-in_default-clause-takes : goal.returns-in_default-clause-takes
returns-in_default-clause-takes g c generation =
    let other = is-no-transfer c.args.step.now c.in_default.not-Read c.in_default.not-Write c.in_default.not-Append in
    device-idles generation c.args.step.now (seen g.C.Chars.contents g.C.Chars.faults c.args.device.now) other.none (other.moves generation)

pub returns-in-Write-clause-takes : goal.returns-in-Write-clause-takes
returns-in-Write-clause-takes g c generation =
    let h = rw c.as_slice.ensures at c.write.ensures.writes in
    elim c.in-Write.is [
      | inl w ↦ rw w.2 (writes-take generation w.1 c.in-Write.bytes w.0 h)
      | inr w ↦ rw w.1 (appends-take generation c.in-Write.bytes w.0 h)
    ]
