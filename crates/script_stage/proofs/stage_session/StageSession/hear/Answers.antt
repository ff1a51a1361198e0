use Rattle.std.proofs.Common.{◌≡◌, ◌++◌, refl, sym, ap, ◌∙◌}
use Rattle.std.specs.Prelude.{is_some}
use Rattle.std.proofs.lemmas.Result.{on_ok_weaker}
use Rattle.script_stage.proofs.SessionLemmas.{block_text, reply-stands}
use Rattle.script_stage.proofs.stage_session.StageSession.hear.Goals as goal

pub returns-in-Ok-Some : goal.returns-in-Ok-Some
returns-in-Ok-Some c =
    let same : block_text c.in-Ok-Some.field-0 ≡ c.as_slice.result.now = ap block_text c.in-Ok-Some.field-0-is ∙ sym c.as_slice.ensures in
    on_ok_weaker c.extend_from_slice.result
    (λ text. reply-stands c.args.self.now _ c.args.reply.now c.in-Ok-Some.field-0 c.in-Ok-Some.ensures.rest c.in-Ok-Some.ensures.exits refl
    (c.in-Ok-Some.ensures.finished ∙ ap is_some c.in-Ok-Some.field-0-is)
    (text ∙ ap (λ x. c.args.self.now.text ++ x) (sym same)))
    c.extend_from_slice.ensures.ok
