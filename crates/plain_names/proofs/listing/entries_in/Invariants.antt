use Rattle.std.proofs.Common.{◌≡◌, ◌++◌, drop}
use Rattle.plain_names.specs.Listing.{entries_in}
use Rattle.plain_names.proofs.listing.entries_in.Given as goal

abbrev pub invariant-loop-entry : goal.invariant-loop-entry
invariant-loop-entry l = l.out ++ entries_in l.folder (drop l.entry-index l.tree) ≡ entries_in l.folder l.tree
