use Rattle.std.proofs.Common.{◌≡◌, ◌≢◌, false, sym, subst}
use Rattle.dentry_table.specs.DentryTable.{Lowers, count_at}
use Rattle.holders.specs.Holding.{is_used}
use Rattle.holders.proofs.Mounting.{counted-unmount, point-held}
use Rattle.holders.proofs.holders.Holders.remove_mount.Goals as goal

pub release-requires : goal.release-requires
release-requires c =
    subst (λ p. count_at c.self.inside.dentries.counts p ≢ 0) (sym c.as_names-point.ensures.value)
    (point-held c.self.invariant c.point.ensures.sound c.args.mount c.requires.not_root c.point.result.now c.point.ensures.point)

pub invariant_of-self : goal.invariant_of-self
invariant_of-self c =
    rw (c.remove.ensures, c.release.ensures.plan)
    (counted-unmount c.self.invariant c.point.ensures.sound c.args.mount c.requires.not_root c.point.result.now c.point.ensures.point
    (subst (λ h. is_used h c.args.mount ≡ false) (sym c.self.view_is) c.requires.unused)
    (subst (λ p. Lowers c.self.inside.dentries.counts c.release.new.self.counts p) c.as_names-point.ensures.value c.release.ensures.counts))
