use Rattle.std.proofs.Common.{◌≡◌, ◌+◌, true, false, rules, tests, [], ◌∷◌, ◌++◌, length, drop, sym, ap, ◌∙◌, arith, length-append}
use Rattle.std.specs.List.{slice_split}
use Rattle.std.proofs.lemmas.Iterator.Consumers.{YieldsList-turn, YieldsList-end}
use Rattle.std.proofs.lemmas.Iterator.Splits.{YieldsList-from_slice_split}
use Rattle.std.proofs.lemmas.List.{drop_all}
use Rattle.vfs_model.specs.Manifest.{is_space}
use Rattle.deck_form.specs.Line.{IsEventPushed}
use Rattle.deck_form.proofs.PartLemmas.{events_with, events_go_on, events_stop, events_end, next_part}
use Rattle.deck_form.proofs.line.read_events.Goals as goal

pub loop-text-preserved : goal.loop-text-preserved
loop-text-preserved c =
    let parts = slice_split is_space c.args.events.now in
    let n = length c.loop-text.yielded in
    let list = c.loop-text.list in
    let turn = YieldsList-turn (YieldsList-from_slice_split _ is_space c.args.events.now (cc) (cc) (cc) (λ x b q k. search (rules, tests)))
    c.loop-text.yielded _ c.loop-text.yielded_by _ _ c.in-Some.text c.in-Some.is c.next.ensures.steps in
    let here = next_part parts n c.in-Some.text.now turn in
    let count : length (c.loop-text.yielded ++ c.in-Some.text ∷ []) ≡ n + 1 = length-append c.loop-text.yielded (c.in-Some.text ∷ []) in
    let pushed : IsEventPushed c.in-Some.text.now true list c.push_event.new.list = rw c.if-not-branch.false at c.in_ok-push_event.ensures in
    rw count (sym (events_go_on c.in-Some.text.now list c.push_event.new.list (drop (n + 1) parts) pushed) ∙ ap (events_with list) (sym here) ∙ c.loop-text.invariant)

pub returns-then-not-branch : goal.returns-then-not-branch
returns-then-not-branch c =
    let parts = slice_split is_space c.args.events.now in
    let n = length c.loop-text.yielded in
    let list = c.loop-text.list in
    let turn = YieldsList-turn (YieldsList-from_slice_split _ is_space c.args.events.now (cc) (cc) (cc) (λ x b q k. search (rules, tests)))
    c.loop-text.yielded _ c.loop-text.yielded_by _ _ c.in-Some.text c.in-Some.is c.next.ensures.steps in
    let here = next_part parts n c.in-Some.text.now turn in
    let pushed : IsEventPushed c.in-Some.text.now false list c.push_event.new.list = rw c.if-not-branch.true at c.in_ok-push_event.ensures in
    sym (events_stop c.in-Some.text.now list c.push_event.new.list (drop (n + 1) parts) pushed) ∙ ap (events_with list) (sym here) ∙ c.loop-text.invariant

pub returns : goal.returns
returns c =
    let parts = slice_split is_space c.args.events.now in
    let n = length c.loop-text.yielded in
    let list = c.loop-text.list in
    let end = YieldsList-end (YieldsList-from_slice_split _ is_space c.args.events.now (cc) (cc) (cc) (λ x b q k. search (rules, tests)))
    c.loop-text.yielded _ c.loop-text.yielded_by _ _ c.in-None.is c.next.ensures.steps in
    let gone : drop n parts ≡ [] = drop_all n parts (omega (arith, end.1)) in
    sym (events_end list) ∙ ap (events_with list) (sym gone) ∙ c.loop-text.invariant
