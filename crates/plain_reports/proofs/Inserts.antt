-- What `insert` of a `BTreeMap` makes of its entries, as `put` of entries in their order.
use Rattle.std.proofs.Common.{◌≡◌, List, [], ◌∷◌, refl, ap, ◌∙◌}
use Rattle.std.specs.BTreeMap.{insert_entry}
use Rattle.std.specs.FinMap.Entries.{put, by_order}
use Rattle.std.specs.Ordering.{match_ordering}
use Rattle.std.specs.declared.cmp.Ordering.{Ordering}
use Rattle.std.specs.declared.cmp.Ordering.TheVariants.{Less, Equal, Greater}

same_choice : {A : Type 0} (o : Ordering) (a b c : A) → match_ordering o a b c ≡ by_order o a b c
same_choice Less a b c = refl
same_choice Equal a b c = refl
same_choice Greater a b c = refl

pub insert_as_put : {K X : Type 0} (R : K → K → Ordering) (es : List (K × X)) (k : K) (v : X) → insert_entry R es k v ≡ put R k v es
insert_as_put R [] k v = refl
insert_as_put R (e ∷ es) k v =
    ap (λ rest. match_ordering (R k e.0) ((k, v) ∷ e ∷ es) ((e.0, v) ∷ es) (e ∷ rest)) (insert_as_put R es k v)
    ∙ same_choice (R k e.0) _ _ _
