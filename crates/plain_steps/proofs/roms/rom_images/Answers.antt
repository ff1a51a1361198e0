use Rattle.std.proofs.Common.{◌+◌, ◌∷◌, drop, ap, sym, subst, ◌∙◌}
use Rattle.std.proofs.lemmas.List.{drop_more}
use Rattle.plain_steps.specs.Opening.{StopsRoms, behind, rom_images}
use Rattle.plain_steps.proofs.roms.rom_images.Goals as goal

pub returns-in-Err-clause-fault : goal.returns-in-Err-clause-fault
returns-in-Err-clause-fault c =
    let i = c.loop-text.text-index in
    let texts = c.args.texts.now in
    let later = drop (i + 1) texts in
    let here = drop_more texts i c.text-item.result c.loop-text-test.true ∙ ap (λ text. text ∷ later) (sym c.text-item.is) in
    subst (λ told. StopsRoms told c.in-Err.fault)
    (ap (λ rest. behind c.loop-text.images (rom_images c.loop-text.index rest)) (sym here) ∙ c.loop-text.invariant.1)
    (c.in-Err.ensures.fault later)
