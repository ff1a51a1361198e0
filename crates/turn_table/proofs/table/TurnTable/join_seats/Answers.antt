use Rattle.std.proofs.Common.{rules, ap, ◌∙◌}
use Rattle.turn_table.specs.Views.{seen_of}
use Rattle.turn_table.proofs.Calls.{idle_from, longer_from, no_slots}
use Rattle.turn_table.proofs.JoinSteps.{joins}
use Rattle.turn_table.proofs.MergeSteps.{merge}
use Rattle.turn_table.proofs.table.TurnTable.join_seats.Goals as goal

pub join_seat-requires : goal.join_seat-requires
join_seat-requires g c = let mine = c.requires.rest in let its = c.requires.other_rests in (
  search rules,
  search rules,
  no_slots 1025 c.args.other.me its.0 its.1,
  search rules,
  joins _ _ 1025 _ _ c.args.seat.now.me.0 c.args.other.me.0 (idle_from 1025 c.args.seat.now.me mine.0 mine.1) (idle_from 1025 c.args.other.me its.0 its.1),
)

pub load-requires : goal.load-requires
load-requires g c = let mine = c.requires.rest in let both = c.join_seat.ensures.2 in (
  search rules,
  search rules,
  merge _ _ 1025 _ _ _ c.join_seat.new.seat.me (ap (λ m. m.0.spent) both ∙ mine.0.alive) (ap (λ m. m.0.held) both ∙ mine.1),
)

pub returns-clause-seen : goal.returns-clause-seen
returns-clause-seen g c = longer_from c.args.seat.now.me.0 c.args.other.me.0 c.join_seat.new.seat.me.0 (seen_of c.load.new.seat.me.0) (ap (λ m. m.0) c.join_seat.ensures.2) c.load.ensures.2.2
