use Rattle.std.proofs.Common.{◌∙◌, ap}
use Rattle.holders.specs.Holding.{is_used}
use Rattle.holders.proofs.Users.{used-is}
use Rattle.holders.proofs.holders.Holders.is_used.Goals as goal

pub returns : goal.returns
returns c = c.is_counted.ensures.used ∙ used-is c.self.invariant c.args.mount c.is_counted.ensures.below ∙ ap (λ h. is_used h c.args.mount) c.self.view_is
