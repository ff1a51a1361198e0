-- The calls to an object in memory: numbered from 1, they fail where their number is listed.
use Rattle.std.specs.Prelude.{ℕ, List, Contains, Result}
use Rattle.vfs_outside.specs.CallCount.{next_count, faults_behind}

-- the numbers of the calls that fail, how many calls were made, and how many failed
pub record Calls : Type 0 where
  pub failing : List ℕ
  pub made : ℕ
  pub faults : ℕ

-- the number of the next call is listed
abbrev pub NextFails : Calls → Type 0
NextFails calls = Contains calls.failing (next_count calls.made)

-- the calls, with one more that gave this result
abbrev pub with_call : {T E : Type 0} → Calls → Result T E → Calls
with_call calls result = record {
  failing = calls.failing;
  made = next_count calls.made;
  faults = faults_behind calls.faults result;
}

-- no call made so far, and these will fail
abbrev pub first_calls : List ℕ → Calls
first_calls failing = record { failing = failing; made = 0; faults = 0 }
