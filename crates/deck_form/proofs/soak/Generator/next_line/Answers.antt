use Rattle.std.proofs.Common.{◌≡◌, sym, ◌∙◌, subst, IfOk}
use Rattle.std.proofs.lemmas.Option.{cond_some}
use Rattle.vfs_model.specs.Soak.{SoakLine}
use Rattle.deck_form.proofs.SoakLemmas.{line_drawn}
use Rattle.deck_form.proofs.soak.Generator.next_line.Goals as goal

pub returns : goal.returns
returns c =
    let number = cond_some _ _ c.unwrap-k.result (sym c.new.ensures ∙ c.unwrap-k.ensures) in
    let line = line_drawn c.args.self.now.state c.draw.new.self.state c.draw-choice.new.self.state c.draw-file.new.self.state
    c.draw.result c.draw-choice.result c.draw-file.result c.args.number c.unwrap-k.result
    c.draw.ensures.state c.draw-choice.ensures.state c.draw-file.ensures.state
    c.draw.ensures.value c.draw-choice.ensures.value c.draw-file.ensures.value (sym number.1) in
    subst (λ (made : SoakLine). IfOk c.chosen_line.result (λ line. made ≡ record { line = line; state = c.chosen_line.new.self.state })) line c.chosen_line.ensures
