use Rattle.std.proofs.Common.{true, cond, ap, ◌∙◌}
use Rattle.std.proofs.lemmas.Map.Text.{is_eq-slice_cmp}
use Rattle.vfs_model.specs.Namespace.{same_bytes}
use Rattle.deck_form.specs.Draft.{has_name}
use Rattle.deck_form.proofs.deck.insert_name.Goals as goal

pub returns-clause-names : goal.returns-clause-names
returns-clause-names c = λ other.
    c.in_ok-insert.ensures.updates.0 other
    ∙ ap (λ b. cond b true (has_name c.args.names.now.keys other)) (is_eq-slice_cmp c.in_ok-copy.field-0 other ∙ ap (λ key. same_bytes key other) c.in_ok-copy.ensures)
