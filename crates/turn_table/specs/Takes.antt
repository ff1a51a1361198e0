-- What a pass learns and gets by taking a part, and what it gives by putting it back.
use Rattle.std.specs.Prelude.{◌≡◌, ◌≢◌, ℕ, ◌^◌, ◌<◌, Some, None, List, ◌∷◌, ◌++◌, length}
use mathlib.Core.List.{IsPrefix}
use Rattle.histories.specs.Turns.{Turn, calls_on, entries_by, StampsRise}
use Rattle.histories.specs.Tie.{Tie, replayed}
use Rattle.turn_table.specs.declared.view.Ticket.{Ticket}
use Rattle.turn_table.specs.declared.view.View.{View}
use Rattle.turn_table.specs.Views.{seen_of, share_held, asked, without, call_of}

-- the pass is the same one, with the same calls and the same passes joined into it
pub record IsSamePass {S O : Type 0} (v w : View S O) : Type 0 where
  pub number : w.number ≡ v.number
  pub joined : w.joined ≡ v.joined
  pub opens : w.opens ≡ v.opens
  pub made : w.made ≡ v.made
  pub origin : w.origin ≡ v.origin

-- the turns of other parts that the pass has seen are those that it had seen
abbrev pub SeesElsewhere : {S O : Type 0} → View S O → View S O → ℕ → Type 0
SeesElsewhere v w part = (other : ℕ) → other ≢ part → seen_of w other ≡ seen_of v other

-- what the share of a part tells a pass that takes it: there is a share of part 0 with the pass's references, each of an
-- open file, and it has the row's share; it is the share of part 0 that the pass holds, where it holds it
pub record Learns {S O : Type 0} (tie : Tie S) (v : View S O) (part : ℕ) (share : S) : Type 0 where
  pub first : S
  pub references : tie.references v.number first ≡ replayed tie v.number (asked v)
  pub held_open : tie.held_open first
  pub row : 0 < part → tie.rows part first ≡ share
  pub itself : part ≡ 0 → first ≡ share
  pub held : (known : S) → share_held v 0 ≡ Some known → known ≡ first

-- by taking a part the pass holds it, with its share, and has seen its turns
pub record Takes {S O : Type 0} (tie : Tie S) (v w : View S O) (part : ℕ) (turns : List Turn) (share : S) : Type 0 where
  pub pass : IsSamePass v w
  pub calls : w.calls ≡ v.calls
  pub ticket : Ticket S
  pub of_part : ticket.part ≡ part
  pub of_share : ticket.share ≡ share
  pub held : w.held ≡ ticket ∷ v.held
  pub fresh : w.stamped ≡ None
  pub here : seen_of w part ≡ turns
  pub there : SeesElsewhere v w part
  pub grown : IsPrefix (seen_of v part) turns
  pub short : length turns < 2 ^ 63
  pub whole : entries_by v.number turns ≡ calls_on part v.calls
  pub rise : StampsRise turns
  pub learns : Learns tie v part share

-- by putting a part back with these turns the pass holds it no more, and the turn's entry is one of its calls
pub record Puts {S O : Type 0} (v w : View S O) (part : ℕ) (turns : List Turn) : Type 0 where
  pub pass : IsSamePass v w
  pub calls : w.calls ≡ v.calls ++ call_of part v.stamped
  pub held : w.held ≡ without part v.held
  pub stamped : w.stamped ≡ v.stamped
  pub here : seen_of w part ≡ turns
  pub there : SeesElsewhere v w part
