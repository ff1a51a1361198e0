use Rattle.std.proofs.Common.{List, Option, is_none, ap, ◌∙◌}
use Rattle.std.specs.List.{position_or_len}
use Rattle.vfs_model.specs.declared.namespace.Reference.{Reference}
use Rattle.session_holds.proofs.Numbers.{empty-at}
use Rattle.session_holds.proofs.session_holds.SessionHolds.free_number.Goals as goal

pub returns-then-place-clause-empty : goal.returns-then-place-clause-empty
returns-then-place-clause-empty c =
    empty-at c.args.self.now c.args.session c.first_empty-place.result
    (c.first_empty-place.ensures ∙ ap (λ (xs : List (Option Reference)). position_or_len is_none xs) c.references_of.ensures.value)
