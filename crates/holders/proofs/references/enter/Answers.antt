use Rattle.std.proofs.Common.{subst, sym, ◌∙◌, arith}
use Rattle.dentry_table.specs.DentryTable.{Raises}
use Rattle.holders.proofs.Folders.{one-at-itself}
use Rattle.holders.proofs.references.enter.Goals as goal

pub release-requires : goal.release-requires
release-requires c = λ e.
    let path = c.as_names-in-Err.result.now in
    let raised : Raises c.args.dentries.now.counts c.hold.new.self.counts path = subst (λ p. Raises c.args.dentries.now.counts c.hold.new.self.counts p) (c.as_names.ensures.value ∙ sym c.as_names-in-Err.ensures.value) c.in_ok-hold.ensures.ok in
    let more = raised.counts path in
    let itself = one-at-itself path in
    absurd (omega (arith, more, itself, e))
