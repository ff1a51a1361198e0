use Rattle.std.proofs.Common.{◌≡◌, [], All, vec_len}
use Rattle.turn_cases.proofs.log.rows.Given as goal

abbrev pub invariant-loop-row : goal.invariant-loop-row
invariant-loop-row l = (vec_len l.rows ≡ l._row) × All (λ log. log.turns.items ≡ []) l.rows.items
