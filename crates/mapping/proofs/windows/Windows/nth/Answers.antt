use Rattle.std.proofs.Common.{rules}
use Rattle.mapping.proofs.Used.{found-unmaps}
use Rattle.mapping.proofs.windows.Windows.nth.Goals as goal

pub returns-clause-unmaps : goal.returns-clause-unmaps
returns-clause-unmaps c =
    found-unmaps c.nth_window.result c.args.self.now c.args.place (search rules)
