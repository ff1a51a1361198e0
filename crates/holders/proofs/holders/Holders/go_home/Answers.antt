use Rattle.std.proofs.Common.{◌≡◌, subst}
use Rattle.holders.specs.Holding.{holders_at}
use Rattle.holders.proofs.Folders.{root-held}
use Rattle.holders.proofs.holders.Holders.go_home.Goals as goal

pub unreachable-requires : goal.unreachable-requires
unreachable-requires c = root-held c.self.invariant (rw c.self.view_is (subst (λ folder. holders_at c.args.self.now folder ≡ 0) c.root-root.ensures c.in_default.ensures.held))
