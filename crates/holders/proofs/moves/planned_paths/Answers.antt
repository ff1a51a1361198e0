use Rattle.std.proofs.Common.{None, sym, ap, subst, ◌∙◌, slice_index_or}
use Rattle.dentry_table.specs.DentryTable.{HoldsBelow, count_at}
use Rattle.holders.proofs.Moving.{none-moves}
use Rattle.holders.proofs.moves.planned_paths.Goals as goal

pub returns-then-not-held_below-clause-places : goal.returns-then-not-held_below-clause-places
returns-then-not-held_below-clause-places c = λ place.
    ap (λ news. slice_index_or news place None) c.new.ensures
    ∙ none-moves c.args.from.now c.args.to.now c.args.dentries.now.counts c.args.paths.now c.requires
    (ap (count_at c.args.dentries.now.counts) (sym c.as_names-names.ensures.value) ∙ sym c.count.ensures ∙ c.if-count-eq0.true)
    (λ below.
    let yes = c.held_below.ensures.1 (subst (λ path. HoldsBelow c.args.dentries.now.counts path) (sym c.as_names-names.ensures.value) below) in
    let no = c.if-not-held_below.true in
    absurd (cc))
    place
