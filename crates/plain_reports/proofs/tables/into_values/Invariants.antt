use Rattle.std.proofs.Common.{◌≡◌, ◌++◌, map}
use Rattle.plain_reports.proofs.tables.into_values.Given as goal

abbrev pub invariant-loop-entry : goal.invariant-loop-entry
invariant-loop-entry l = l.files ++ map (λ entry. entry.1) l.entry-iterator ≡ map (λ entry. entry.1) l.fn.found.entries
