use Rattle.plain_mounts.proofs.Unmounts.{may_not_go}
use Rattle.plain_mounts.proofs.unmounting.may_umount.Goals as goal

pub returns-in-Err-Refusal : goal.returns-in-Err-Refusal
returns-in-Err-Refusal c =
    may_not_go c.args.namespace.now c.args.session c.args.point.now c.in-Err-Refusal.field-0-0
    (rw c.in-Err-Refusal.field-0-is at c.in-Err-Refusal.ensures)
