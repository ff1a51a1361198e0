-- Up to 18 digits are below 10 ^ 18, and one more digit fits.
use Rattle.std.proofs.Common.{ℕ, ◌≤◌, ◌^◌, arith}
use Rattle.std.proofs.Math.Nat.{pow-le-pow_right}
use Rattle.msh_forms.proofs.numbers.value_of.Goals as goal

eighteen_digits : (i : ℕ) → i ≤ 18 → 10 ^ i ≤ 1000000000000000000
eighteen_digits i few = pow-le-pow_right {n = 10} (omega arith) {i = i} {j = 18} few

pub overflow_mul-value : goal.overflow_mul-value
overflow_mul-value c =
    omega (arith, c.requires.few, c.loop-byte-test.true, c.loop-byte.invariant.2, eighteen_digits c.loop-byte.byte-index (omega (arith, c.requires.few, c.loop-byte-test.true)))

pub overflow_add-value : goal.overflow_add-value
overflow_add-value c =
    omega (arith, c.requires.few, c.loop-byte-test.true, c.loop-byte.invariant.2, c.from.ensures, c.type_inv.digits c.loop-byte.byte-index, eighteen_digits c.loop-byte.byte-index (omega (arith, c.requires.few, c.loop-byte-test.true)))
