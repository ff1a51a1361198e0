use Rattle.std.proofs.Common.{◌∙◌, ap, sym}
use Rattle.vfs_model.specs.RowShape.{shape_refusals}
use Rattle.file_row.proofs.Rows.{steps-of, steps-refused}
use Rattle.file_row.proofs.row_state.RowState.row_step.Goals as goal

pub returns-in-Err-clause-step : goal.returns-in-Err-clause-step
returns-in-Err-clause-step g c =
    let shape = c.shape_of-shape.ensures in
    rw (← c.self.view_is) (steps-refused _ c.args.step.now c.in-Err.errno shape.sound
    (ap (λ s. shape_refusals s c.args.step.now) (sym shape.shape) ∙ sym c.refusals.ensures ∙ c.in-Err.is))

pub returns-clause-step : goal.returns-clause-step
returns-clause-step g c =
    let shape = c.shape_of-shape.ensures in
    rw (← c.self.view_is) (steps-of c.self.inside.generation _ _ c.args.step.now _ _
    (ap (λ s. shape_refusals s c.args.step.now) (sym shape.shape) ∙ sym c.refusals.ensures ∙ c.in_default.is)
    (c.step_body.ensures.takes c.self.inside.generation)
    c.step_body.ensures.calls)
