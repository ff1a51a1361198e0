use Rattle.std.proofs.Common.{◌++◌, sym, ap, ◌∙◌}
use Rattle.std.proofs.lemmas.Result.{on_ok_weaker}
use Rattle.script_stage.proofs.ShownTexts.{shows-all}
use Rattle.script_stage.proofs.stage.Stage.push_sessions.Goals as goal
use Rattle.script_stage.specs.Scenes.{Scene}
use Rattle.script_stage.specs.Texts.{titled_texts}

pub returns : goal.returns
returns g c =
    on_ok_weaker c.push_all.result
    (λ is script s acts at taken.
    is ∙ ap (λ x. c.args.out.now ++ x)
    (ap (titled_texts 1 c.args.acts.now) (c.as_slice.ensures.value ∙ ap (λ (v : Scene). v.sessions) c.self.view_is)
    ∙ ap (λ a. titled_texts 1 a c.args.self.now.sessions) (sym acts)
    ∙ shows-all c.args.self.now script s at taken))
    c.push_all.ensures
