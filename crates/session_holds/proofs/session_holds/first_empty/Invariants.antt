use Rattle.std.proofs.Common.{◌≡◌, ◌+◌, drop}
use Rattle.std.specs.Prelude.{is_none}
use Rattle.std.specs.List.{position_or_len}
use Rattle.session_holds.proofs.session_holds.first_empty.Given as goal

abbrev pub invariant-loop-reference : goal.invariant-loop-reference
invariant-loop-reference l =
    (l.place ≡ l.reference-index)
    × (l.place + position_or_len is_none (drop l.reference-index l.references) ≡ position_or_len is_none l.references)
