use Rattle.std.proofs.Common.{sym, subst}
use Rattle.std.specs.Prelude.{IfSome}
use Rattle.holders.specs.Holding.{HoldsFiles, path_at}
use Rattle.holders.proofs.Unlinking.{counted-unlinked}
use Rattle.holders.proofs.holders.Holders.unlink.Goals as goal

pub invariant_of-self : goal.invariant_of-self
invariant_of-self c =
    rw (c.link.ensures, c.drop_path.ensures.paths, c.drop_path.ensures.plan)
    (counted-unlinked c.self.invariant c.args.file.row c.drop_path.ensures.row c.drop_path.ensures.within c.drop_path.ensures.counts
    (subst (λ h. IfSome (path_at h.paths c.args.file.row) (HoldsFiles h)) (sym c.self.view_is) c.requires.path))
