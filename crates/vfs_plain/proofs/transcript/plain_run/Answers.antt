use Rattle.std.proofs.lemmas.Result.{err_from_is_err_and}
use Rattle.vfs_plain.proofs.SessionTexts.{opens-not, played-lacks, played-text}
use Rattle.vfs_plain.proofs.transcript.plain_run.Goals as goal

pub returns-in_err-world-clause-fault : goal.returns-in_err-world-clause-fault
returns-in_err-world-clause-fault c =
    let p = err_from_is_err_and c.from_residual.result c.from_residual.ensures.1 in
    rw (p.1, p.2) (opens-not c.args.deck.now c.args.describe.now c.args.schedule.now c.in_err-world.field-0.0 c.in_err-world.ensures.fault)

pub returns-clause-text : goal.returns-clause-text
returns-clause-text c =
    played-text c.in_ok-stage.stage c.play.new.stage c.args.deck.now c.args.describe.now c.args.schedule.now
    c.in_ok-world.world c.in_ok-world.ensures.opens c.in_ok-world.ensures.roms c.in_ok-world.ensures.told c.in_ok-stage.ensures
    c.play.result c.play.ensures

pub returns-clause-fault : goal.returns-clause-fault
returns-clause-fault c =
    played-lacks c.in_ok-stage.stage c.play.new.stage c.args.deck.now c.args.describe.now c.args.schedule.now
    c.in_ok-world.world c.in_ok-world.ensures.opens c.in_ok-world.ensures.roms c.in_ok-world.ensures.told c.in_ok-stage.ensures
    c.play.result c.play.ensures
