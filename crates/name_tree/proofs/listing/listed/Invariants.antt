use Rattle.std.proofs.Common.{◌≡◌, ◌++◌}
use Rattle.name_tree.proofs.listing.listed.Given as goal

abbrev pub invariant-loop-entry : goal.invariant-loop-entry
invariant-loop-entry g l = l.list ++ l.entry-iterator ≡ l.fn.found.entries
