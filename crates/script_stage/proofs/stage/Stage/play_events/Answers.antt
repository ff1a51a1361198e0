use Rattle.std.proofs.Common.{◌+◌, arith, drop, map}
use Rattle.vfs_model.specs.Turns.{Steps}
use Rattle.script_stage.proofs.Calls.{err_of}
use Rattle.script_stage.proofs.Leading.{events-at, events-past, leads-all, leads-on, leads-stop}
use Rattle.script_stage.proofs.stage.Stage.play_events.Goals as goal
use Rattle.script_stage.specs.Standing.{StandsAt}

pub returns-in_err-play_event-clause-err : goal.returns-in_err-play_event-clause-err
returns-in_err-play_event-clause-err g c =
    err_of c.from_residual.result
    (leads-stop StandsAt c.args.self.now c.loop-who.self c.play_event.new.self (map Steps c.args.events.now) (map Steps (drop c.loop-who.who-index c.args.events.now))
    (map Steps (drop (c.loop-who.who-index + 1) c.args.events.now)) (Steps c.who-item.result)
    (events-at c.args.events.now c.loop-who.who-index c.who-item.result c.loop-who-test.true c.who-item.is) c.loop-who.invariant c.in_err-play_event.ensures.err)

pub loop-who-preserved : goal.loop-who-preserved
loop-who-preserved g c =
    leads-on StandsAt c.args.self.now c.loop-who.self c.play_event.new.self (map Steps c.args.events.now) (map Steps (drop c.loop-who.who-index c.args.events.now))
    (map Steps (drop (c.loop-who.who-index + 1) c.args.events.now)) (Steps c.who-item.result)
    (events-at c.args.events.now c.loop-who.who-index c.who-item.result c.loop-who-test.true c.who-item.is) c.loop-who.invariant (c.in_ok-play_event.ensures {u = tt}).ok

pub returns-clause-ok : goal.returns-clause-ok
returns-clause-ok g c =
    leads-all StandsAt c.args.self.now c.loop-who.self (map Steps c.args.events.now) (map Steps (drop c.loop-who.who-index c.args.events.now))
    (events-past c.args.events.now c.loop-who.who-index (omega arith)) c.loop-who.invariant
