use Rattle.std.proofs.Common.{◌≡◌, ◌++◌, drop}
use Rattle.std.specs.List.{flat_map}
use Rattle.vfs_model.specs.Holders.{reference_paths}
use Rattle.plain_reports.proofs.holders.push_references.Given as goal

abbrev pub invariant-loop-reference : goal.invariant-loop-reference
invariant-loop-reference l = l.paths ++ flat_map (reference_paths l.namespace) (drop l.reference-index l.references) ≡ l.initial.paths ++ flat_map (reference_paths l.namespace) l.references
