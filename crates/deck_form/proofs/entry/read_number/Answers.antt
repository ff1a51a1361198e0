use Rattle.std.proofs.Common.{◌≡◌, true, sym, ◌∙◌, rules}
use Rattle.std.specs.Str.{IsUtf8}
use Rattle.vfs_model.specs.Numeral.{is_numeral}
use Rattle.deck_form.proofs.NumberLemmas.{number_parsed, numeral_utf8, no_error, value_there}
use Rattle.deck_form.proofs.entry.read_number.Goals as goal

pub returns-in_err-digits : goal.returns-in_err-digits
returns-in_err-digits c =
    let numeral : is_numeral c.args.text.now ≡ true = search rules in
    absurd (no_error (IsUtf8 c.args.text.now) _ _ c.from_utf8.result (numeral_utf8 c.args.text.now numeral) c.from_utf8.ensures.cases (sym c.ok.ensures.value ∙ c.in_err-digits.was))

pub returns : goal.returns
returns c =
    let numeral : is_numeral c.args.text.now ≡ true = search rules in
    let there = value_there _ _ c.from_utf8.result c.in_ok-digits.digits c.from_utf8.ensures.cases (sym c.ok.ensures.value ∙ c.in_ok-digits.was) in
    let parsed = rw there.0 at c.parse.ensures.value.0 in
    c.ok-2.ensures.value ∙ number_parsed c.args.text.now c.parse.result numeral parsed
