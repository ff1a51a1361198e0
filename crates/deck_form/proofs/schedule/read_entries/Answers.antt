use Rattle.std.proofs.Common.{◌≡◌, ◌+◌, true, false, rules, tests, [], ◌∷◌, ◌++◌, length, drop, sym, ap, ◌∙◌, arith, length-append, Err}
use Rattle.std.specs.List.{slice_split}
use Rattle.std.proofs.lemmas.Iterator.Consumers.{YieldsList-turn, YieldsList-end}
use Rattle.std.proofs.lemmas.Iterator.Splits.{YieldsList-from_slice_split}
use Rattle.std.proofs.lemmas.List.{drop_all}
use Rattle.vfs_model.specs.Manifest.{is_space}
use Rattle.deck_form.specs.Reading.{IsEntryPushed}
use Rattle.deck_form.proofs.PartLemmas.{entries_with, entries_go_on, entries_stop, entries_end, next_part}
use Rattle.deck_form.proofs.schedule.read_entries.Goals as goal

pub loop-text-preserved : goal.loop-text-preserved
loop-text-preserved c =
    let parts = slice_split is_space c.args.texts.now in
    let n = length c.loop-text.yielded in
    let entries = c.loop-text.entries in
    let turn = YieldsList-turn (YieldsList-from_slice_split _ is_space c.args.texts.now (cc) (cc) (cc) (λ x b q k. search (rules, tests)))
    c.loop-text.yielded _ c.loop-text.yielded_by _ _ c.in-Some.text c.in-Some.is c.next.ensures.steps in
    let here = next_part parts n c.in-Some.text.now turn in
    let count : length (c.loop-text.yielded ++ c.in-Some.text ∷ []) ≡ n + 1 = length-append c.loop-text.yielded (c.in-Some.text ∷ []) in
    let pushed : IsEntryPushed c.in-Some.text.now true entries c.push_entry.new.entries = rw c.if-not-branch.false at c.in_ok-push_entry.ensures in
    rw count (sym (entries_go_on c.in-Some.text.now entries c.push_entry.new.entries (drop (n + 1) parts) pushed) ∙ ap (entries_with entries) (sym here) ∙ c.loop-text.invariant)

pub returns-then-not-branch-clause-fault : goal.returns-then-not-branch-clause-fault
returns-then-not-branch-clause-fault c =
    let parts = slice_split is_space c.args.texts.now in
    let n = length c.loop-text.yielded in
    let entries = c.loop-text.entries in
    let turn = YieldsList-turn (YieldsList-from_slice_split _ is_space c.args.texts.now (cc) (cc) (cc) (λ x b q k. search (rules, tests)))
    c.loop-text.yielded _ c.loop-text.yielded_by _ _ c.in-Some.text c.in-Some.is c.next.ensures.steps in
    let here = next_part parts n c.in-Some.text.now turn in
    let pushed : IsEntryPushed c.in-Some.text.now false entries c.push_entry.new.entries = rw c.if-not-branch.true at c.in_ok-push_entry.ensures in
    sym c.loop-text.invariant ∙ ap (entries_with entries) here ∙ entries_stop c.in-Some.text.now entries c.push_entry.new.entries (drop (n + 1) parts) pushed ∙ ap Err (sym c.len.ensures)

pub returns-clause-entries : goal.returns-clause-entries
returns-clause-entries c =
    let parts = slice_split is_space c.args.texts.now in
    let n = length c.loop-text.yielded in
    let entries = c.loop-text.entries in
    let end = YieldsList-end (YieldsList-from_slice_split _ is_space c.args.texts.now (cc) (cc) (cc) (λ x b q k. search (rules, tests)))
    c.loop-text.yielded _ c.loop-text.yielded_by _ _ c.in-None.is c.next.ensures.steps in
    let gone : drop n parts ≡ [] = drop_all n parts (omega (arith, end.1)) in
    sym c.loop-text.invariant ∙ ap (entries_with entries) gone ∙ entries_end entries
