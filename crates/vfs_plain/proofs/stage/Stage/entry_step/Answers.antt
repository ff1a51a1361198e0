use Rattle.std.proofs.Common.{sym, ◌∙◌}
use Rattle.vfs_plain.proofs.Calls.{end-entry, session-asks, session-entry}
use Rattle.vfs_plain.proofs.stage.Stage.entry_step.Goals as goal

pub returns-in-Session-clause-step : goal.returns-in-Session-clause-step
returns-in-Session-clause-step c =
    session-entry c.args.self.now c.args.who c.in-Session.k c.place.result c.index.result.now c.in-Session.is
    c.place.ensures.value c.place.ensures.least c.place.ensures.below c.index.ensures c.wanted.result c.wanted.ensures

pub returns-in-Session-clause-asks : goal.returns-in-Session-clause-asks
returns-in-Session-clause-asks c =
    session-asks c.args.self.now c.args.who c.in-Session.k c.place.result c.index.result.now c.in-Session.is
    c.place.ensures.value c.place.ensures.least c.place.ensures.below c.index.ensures c.wanted.result c.wanted.ensures

pub returns-in-End-clause-step : goal.returns-in-End-clause-step
returns-in-End-clause-step c = λ deck s stands.
    end-entry c.args.self.now c.args.who _ deck s c.in-End.is (sym c.if-are_through.true ∙ c.are_through.ensures) stands

pub returns-in-End-2-clause-step : goal.returns-in-End-2-clause-step
returns-in-End-2-clause-step c = λ deck s stands.
    end-entry c.args.self.now c.args.who _ deck s c.in-End.is (sym c.if-are_through.false ∙ c.are_through.ensures) stands
