use Rattle.std.proofs.Common.{◌+◌, ◌-◌, [], ◌∷◌, ◌++◌, sym, ap, ◌∙◌, append_assoc}
use Rattle.vfs_model.specs.Soak.{SoakLine, soak_lines}
use Rattle.deck_form.proofs.SoakLemmas.{lines_step}
use Rattle.deck_form.proofs.soak.soak_deck.Goals as goal

pub loop-at-preserved : goal.loop-at-preserved
loop-at-preserved c =
    let at = c.loop-at.at in
    let acts = c.loop-at.acts in
    let line = c.in_ok-next_line.field-0 in
    let rest = soak_lines (c.args.steps - (at + 1)) (at + 1 + 1) c.next_line.new.self.state in
    let step = lines_step c.args.steps at (at + 1) c.loop-at.generator.state c.loop-at-test.true in
    let made = ap (λ (m : SoakLine). m.line ∷ soak_lines (c.args.steps - (at + 1)) (at + 1 + 1) m.state) c.in_ok-next_line.ensures in
    rw c.in_ok-push-3.ensures.ok (append_assoc acts (line ∷ []) rest ∙ ap (λ more. acts ++ more) (sym (step ∙ made)) ∙ c.loop-at.invariant)
