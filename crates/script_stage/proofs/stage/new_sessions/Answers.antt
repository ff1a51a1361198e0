use Rattle.std.proofs.Common.{◌≡◌, ◌∷◌, ◌++◌, [], length, sym, ap, subst, arith, length-append}
use Rattle.script_stage.proofs.Starting.{AreNew, new-each, new-fresh, new-more, none-new}
use Rattle.script_stage.proofs.stage.new_sessions.Goals as goal

pub loop-place-init : goal.loop-place-init
loop-place-init c = (ap length c.new-sessions.ensures.items, subst AreNew (sym c.new-sessions.ensures.items) none-new)

pub loop-place-preserved : goal.loop-place-preserved
loop-place-preserved c =
    let pushed = (c.in_ok-push.ensures {u = tt}).items in
    let more : length c.push.new.self.items ≡ length (c.loop-place.sessions.items ++ c.in_ok-session.session ∷ []) = ap length pushed in (
      omega (arith, more, length-append c.loop-place.sessions.items (c.in_ok-session.session ∷ []), c.loop-place.invariant.0),
      subst AreNew (sym pushed) (new-more c.loop-place.sessions.items c.in_ok-session.session c.loop-place.invariant.1
          (c.in_ok-session.ensures.work, c.in_ok-session.ensures.fresh.0, c.in_ok-session.ensures.fresh.1)),
    )

pub returns-clause-count : goal.returns-clause-count
returns-clause-count c = omega (arith, c.loop-place.invariant.0)

pub returns-clause-each : goal.returns-clause-each
returns-clause-each c =
    let count : length c.loop-place.sessions.items ≡ 8 = omega (arith, c.loop-place.invariant.0) in
    new-each c.loop-place.sessions.items count c.loop-place.invariant.1

pub returns-clause-fresh : goal.returns-clause-fresh
returns-clause-fresh c = new-fresh c.loop-place.sessions.items c.loop-place.invariant.1
