use Rattle.std.proofs.Common.{length, ap, sym, ◌∙◌, ◌≤◌, subst}
use Rattle.std.specs.Option.{unwrap_or}
use Rattle.vfs_model.specs.Schedule.{begins_mark}
use Rattle.deck_form.proofs.NumberLemmas.{place_or_end, place_within}
use Rattle.deck_form.proofs.entry.mark_place.Goals as goal

pub returns-clause-place : goal.returns-clause-place
returns-clause-place c =
    c.unwrap_or.ensures ∙ ap (λ o. unwrap_or o (length c.args.text.now)) c.first_mark.ensures ∙ place_or_end begins_mark c.args.text.now

pub returns-clause-within : goal.returns-clause-within
returns-clause-within c =
    let place = c.unwrap_or.ensures ∙ ap (λ o. unwrap_or o (length c.args.text.now)) c.first_mark.ensures ∙ place_or_end begins_mark c.args.text.now in
    subst (λ n. n ≤ length c.args.text.now) (sym place) (place_within begins_mark c.args.text.now)
