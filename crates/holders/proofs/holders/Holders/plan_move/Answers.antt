use Rattle.std.proofs.Common.{sym, ◌∙◌}
use Rattle.holders.proofs.Moving.{counted-room, held-place}
use Rattle.holders.proofs.holders.Holders.plan_move.Goals as goal

pub invariant_of-self : goal.invariant_of-self
invariant_of-self c = counted-room c.self.invariant c.in_err-holders.ensures.same c.plan_move.new.self.room

pub planned_paths-requires : goal.planned_paths-requires
planned_paths-requires c = λ place path e none. held-place c.self.invariant place path e (sym (c.in_ok-holders.ensures.same.counts path) ∙ none)

pub invariant_of-self-in-Ok : goal.invariant_of-self-in-Ok
invariant_of-self-in-Ok c = counted-room c.self.invariant c.in_ok-holders.ensures.same c.plan_move.new.self.room

pub invariant_of-self-in-Err : goal.invariant_of-self-in-Err
invariant_of-self-in-Err c =
    counted-room c.self.invariant (record { counts = λ q. c.cancel_move.ensures.same.counts q ∙ c.in_ok-holders.ensures.same.counts q }) c.cancel_move.new.self.room
