-- What a pass must know of the shares that its step leaves, and what drawing a stamp changes.
use Rattle.std.specs.Prelude.{◌≡◌, ◌≢◌, ℕ, ◌<◌, Some, None, All}
use Rattle.histories.specs.declared.entry.HistoryEntry.{HistoryEntry}
use Rattle.histories.specs.Turns.{entries}
use Rattle.histories.specs.Tie.{Tie}
use Rattle.turn_table.specs.declared.view.View.{View}
use Rattle.turn_table.specs.Takes.{IsSamePass}
use Rattle.turn_table.specs.Views.{seen_of, share_held, renamed}

-- the shares that the held parts will have are tied as shares are: it speaks of the held parts and the own pass alone
pub record IsTied {S O : Type 0} (tie : Tie S) (v : View S O) (entry : HistoryEntry) (named : ℕ → S) : Type 0 where
  -- where part 0 is held, it says of each held row what the row's share says
  pub both : (known : S) → share_held v 0 ≡ Some known → (row : ℕ) (share : S) → 0 < row → share_held v row ≡ Some share → tie.rows row (named 0) ≡ named row
  -- and of each other row what it said before
  pub first : (known : S) → share_held v 0 ≡ Some known → (row : ℕ) → 0 < row → share_held v row ≡ None → tie.rows row (named 0) ≡ tie.rows row known
  -- the reply changes the references of the pass, and those of no other
  pub own : (known : S) → share_held v 0 ≡ Some known → tie.references v.number (named 0) ≡ tie.replied entry (tie.references v.number known)
  pub others : (known : S) → share_held v 0 ≡ Some known → (pass : ℕ) → pass ≢ v.number → tie.references pass (named 0) ≡ tie.references pass known
  pub held_open : (known : S) → share_held v 0 ≡ Some known → tie.held_open (named 0)
  -- where part 0 isn't held, no share changes
  pub alone : share_held v 0 ≡ None → (row : ℕ) (share : S) → share_held v row ≡ Some share → named row ≡ share

-- by drawing a stamp the pass has this entry, which is later than all that it has seen, and its parts have these shares
pub record Stamps {S O : Type 0} (v w : View S O) (entry : HistoryEntry) (named : ℕ → S) : Type 0 where
  pub pass : IsSamePass v w
  pub calls : w.calls ≡ v.calls
  pub held : w.held ≡ renamed named v.held
  pub stamped : w.stamped ≡ Some entry
  pub seen : w.seen ≡ v.seen
  pub later : (part : ℕ) → All (λ earlier. earlier.stamp < entry.stamp) (entries (seen_of v part))
