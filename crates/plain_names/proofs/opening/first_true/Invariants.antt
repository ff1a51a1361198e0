use Rattle.std.proofs.Common.{◌≡◌, ◌+◌, drop}
use Rattle.std.specs.List.{position_or_len}
use Rattle.plain_names.proofs.opening.first_true.Given as goal

abbrev pub invariant-loop-test : goal.invariant-loop-test
invariant-loop-test l =
    (l.place ≡ l.test-index)
    × (l.place + position_or_len (λ test. test) (drop l.test-index l.tests) ≡ position_or_len (λ test. test) l.tests)
