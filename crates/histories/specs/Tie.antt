-- How the shares of the parts hang together, as one value.
use Rattle.std.specs.Prelude.{ℕ, List, fold}
use Rattle.histories.specs.declared.entry.HistoryEntry.{HistoryEntry}
use Rattle.histories.specs.Turns.{References}

pub record Tie (S : Type 0) : Type 1 where
  -- the share of a part that no call has reached
  pub nothing : S
  -- what the share of part 0 says of a row
  pub rows : ℕ → S → S
  -- the files that the references of a pass keep, as the share of part 0 has them
  pub references : ℕ → S → References
  -- what the references of a pass become by a call of it on part 0
  pub replied : HistoryEntry → References → References
  -- each file that is referred to is open
  pub held_open : S → Type 0

-- the references of a pass after these calls on part 0
abbrev pub replayed : {S : Type 0} → Tie S → ℕ → List HistoryEntry → References
replayed tie pass calls = fold (λ files entry. tie.replied entry files) (tie.references pass tie.nothing) calls
