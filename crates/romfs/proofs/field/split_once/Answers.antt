use Rattle.std.proofs.Common.{◌==◌, ◌∙◌, sym, refl}
use Rattle.std.proofs.lemmas.List.{take_rest}
use Rattle.romfs.proofs.SplitLemmas.{found, missing}
use Rattle.romfs.proofs.field.split_once.Goals as goal

pub returns-in-Some-clause-before : goal.returns-in-Some-clause-before
returns-in-Some-clause-before c =
    rw ((found (λ byte. byte == c.args.value) c.args.bytes.now c.in-Some.at (sym c.place_of.ensures ∙ c.in-Some.is)).0) refl

pub returns-in-Some-clause-after : goal.returns-in-Some-clause-after
returns-in-Some-clause-after c =
    let at = found (λ byte. byte == c.args.value) c.args.bytes.now c.in-Some.at (sym c.place_of.ensures ∙ c.in-Some.is) in
    rw (at.1, at.0, take_rest) refl

pub returns-in-None-clause-before : goal.returns-in-None-clause-before
returns-in-None-clause-before c = sym (missing (λ byte. byte == c.args.value) c.args.bytes.now (sym c.place_of.ensures ∙ c.in-None.is)).0

pub returns-in-None-clause-after : goal.returns-in-None-clause-after
returns-in-None-clause-after c = rw ((missing (λ byte. byte == c.args.value) c.args.bytes.now (sym c.place_of.ensures ∙ c.in-None.is)).1) refl
