use Rattle.std.proofs.Common.{sym, subst, ◌∙◌, Option}
use Rattle.turn_table.specs.Values.{IsOf}
use Rattle.turn_cases.proofs.calls.call.Goals as goal

pub put_back-requires-clause-kind : goal.put_back-requires-clause-kind
put_back-requires-clause-kind g c = let same = c.stamp-stamp.ensures.stamps.pass.origin ∙ c.take-value.ensures.takes.pass.origin in
    c.with_turn-value.ensures.kind c.args.part _ (subst (λ (began : Option (Unit {0})). IsOf (λ _. tt) began c.args.part c.take-value.result) (sym same) c.take-value.ensures.kind)
