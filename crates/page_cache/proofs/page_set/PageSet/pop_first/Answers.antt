use Rattle.std.proofs.Common.{◌≡◌, ◌<◌, ◌^◌, ◌∙◌, ap, arith, length, rules, slice_index_or, sym}
use Rattle.page_cache.proofs.page_set.PageSet.pop_first.Goals as goal
use Rattle.page_cache.proofs.StoredSets.{first-read, none-in}
use Rattle.page_cache.specs.StoredSet.{pages_in}

pub returns-then-word-ne0-clause-first : goal.returns-then-word-ne0-clause-first
returns-then-word-ne0-clause-first c =
    let words = c.loop-place.self.words in
    let zeros = c.loop-place.invariant.1 in
    let some : 0 < slice_index_or words c.from.result 0 = omega (arith, c.if-word-ne0.true) in
    let small : slice_index_or words c.from.result 0 < 2 ^ 64 = search rules in
    let count : length words ≡ 16 = search rules in
    ap pages_in (sym c.loop-place.invariant.0) ∙
    first-read words c.loop-place.place c.from.result c.from-then-word-ne0.result c.from.ensures c.from-then-word-ne0.ensures
    (record { count = count; within = omega arith; zeros = zeros; some = some; small = small })

pub returns-clause-none : goal.returns-clause-none
returns-clause-none c =
    let zeros = c.loop-place.invariant.1 in
    ap pages_in (sym c.loop-place.invariant.0) ∙ none-in c.loop-place.self.words (λ place low. zeros place (omega (arith, low)))
