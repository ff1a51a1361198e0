-- How a count of faults goes with the calls that fail, and that known bytes stay known.
use Rattle.std.specs.Prelude.{◌≡◌, ℕ, ◌+◌, ◌-◌, ◌^◌, ◌≤◌, min, List, Option, Result, OnErr, OnOk, is_some}

-- the count went up, or stands at the last value of its type
abbrev pub Rose : ℕ → ℕ → Type 0
Rose before now = min (before + 1) (2 ^ 64 - 1) ≤ now

-- the count never falls: a failed call raises it, and no other call moves it
pub record HasCause {T E : Type 0} (before now : ℕ) (result : Result T E) : Type 0 where
  pub rising : before ≤ now
  pub failed : OnErr result (Rose before now)
  pub kept : OnOk result (now ≡ before)

-- bytes that were known are known, and others aren't
abbrev pub StillTells : Option (List ℕ) → Option (List ℕ) → Type 0
StillTells old new = is_some new ≡ is_some old
