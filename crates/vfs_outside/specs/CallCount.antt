-- How calls are counted, and those of them that failed: each count stops at the last value of a u64.
use Rattle.std.specs.Prelude.{ℕ, ◌+◌, ◌-◌, ◌^◌, min, Result, is_err, if◌then◌else◌}

-- one more, where a u64 holds it
abbrev pub next_count : ℕ → ℕ
next_count n = min (n + 1) (2 ^ 64 - 1)

-- so many more, where a u64 holds it
abbrev pub count_sum : ℕ → ℕ → ℕ
count_sum n more = min (n + more) (2 ^ 64 - 1)

-- the faults that are counted behind a call that gave this result
abbrev pub faults_behind : {T E : Type 0} → ℕ → Result T E → ℕ
faults_behind faults result = if is_err result then next_count faults else faults
