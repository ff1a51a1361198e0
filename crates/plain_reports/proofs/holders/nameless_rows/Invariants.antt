use Rattle.std.proofs.Common.{◌≡◌, ◌++◌, drop}
use Rattle.std.specs.List.{flat_map}
use Rattle.vfs_model.specs.Holders.{nameless_row, nameless_rows}
use Rattle.plain_reports.proofs.holders.nameless_rows.Given as goal

abbrev pub invariant-loop-reference : goal.invariant-loop-reference
invariant-loop-reference l = l.rows ++ flat_map (nameless_row l.namespace) (drop l.reference-index l.references) ≡ nameless_rows l.namespace
