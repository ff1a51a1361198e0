-- Slots of nodes after a write of one of them, and what that means for entries and values.
use Rattle.std.proofs.Common.{◌≡◌, ◌≢◌, ℕ, ◌<◌, true, false, cond, Option, Some, None, IsSome, List, [], inl, inr, length, get_or, set, refl, sym, ap, ◌∙◌}
use Rattle.std.proofs.lemmas.Bool.{cases_eq, cases_lt}
use Rattle.std.proofs.lemmas.Cmp.{nat_list_cmp_total, tied_itself}
use Rattle.std.proofs.lemmas.List.{get_or-set_other, get_or-set_same, get_or_past}
use Rattle.std.specs.BTreeMap.{BTreeMap, get, is_at}
use Rattle.std.specs.List.Sorted.{IsStrictlySortedBy}
use Rattle.std.specs.Map.{keys_of, lookup}
use Rattle.std.specs.Ordering.{is_eq}
use Rattle.name_tree.proofs.Views.{name-is}
use Rattle.name_tree.specs.Changes.{Inserts, Redirects, Relinks, Removes}
use Rattle.name_tree.specs.Layout.{IsSound, child_in, entries_of, entry_of, name_cmp, value_in, value_of}
use Rattle.name_tree.specs.declared.node.Node.{Node}

-- a name is level with itself
pub level-itself : (name : List ℕ) → is_at (name_cmp name) name ≡ true
level-itself name = ap is_eq (tied_itself nat_list_cmp_total name)

-- and with no other
pub level-other : (name other : List ℕ) → other ≢ name → is_at (name_cmp name) other ≡ false
level-other name other h = elim (is_at (name_cmp name) other) as (λ b. is_at (name_cmp name) other ≡ b → b ≡ false) [
  | true ↦ λ e. absurd (h (sym (name-is name other e)))
  | false ↦ λ e. refl
] refl

-- a map without entries finds nothing
pub get-empty : (map : BTreeMap (List ℕ) ℕ) → map.entries ≡ [] → (name : List ℕ) → get name_cmp map name ≡ None
get-empty map e name = ap (lookup (is_at (name_cmp name))) e

module _ {T : Type 0} where
  some-within : (nodes : List (Option (Node T))) (slot : ℕ) (node : Node T) → get_or nodes slot None ≡ Some node → slot < length nodes
  some-within nodes slot node e = elim (cases_lt slot (length nodes)) [
    | inl l ↦ l
    | inr past ↦ let none : get_or nodes slot None ≡ None = get_or_past nodes slot None past in absurd (cc)
  ]

  -- a write of a node's entry of one name
  pub Redirects-set : (nodes : List (Option (Node T))) (slot : ℕ) (node new : Node T) (name : List ℕ) (to : Option ℕ) → get_or nodes slot None ≡ Some node →
      ((other : List ℕ) → get name_cmp new.entries other ≡ cond (is_at (name_cmp name) other) to (get name_cmp node.entries other)) →
      Redirects (child_in nodes) (child_in (set nodes slot (Some new))) slot name to
  Redirects-set nodes slot node new name to e found =
      let l = some-within nodes slot node e in
      let here : get_or (set nodes slot (Some new)) slot None ≡ Some new = get_or-set_same nodes slot (Some new) None l in
      record {
        changed = ap (λ o. entry_of o name) here ∙ found name ∙ ap (λ b. cond b to (get name_cmp node.entries name)) (level-itself name);
        others = λ a other h. elim (cases_eq a slot) [
          | inl same ↦
              ap (λ x. child_in (set nodes slot (Some new)) x other) same ∙ ap (λ o. entry_of o other) here ∙ found other
              ∙ ap (λ b. cond b to (get name_cmp node.entries other)) (level-other name other (h same))
              ∙ sym (ap (λ x. child_in nodes x other) same ∙ ap (λ o. entry_of o other) e)
          | inr differs ↦ ap (λ o. entry_of o other) (get_or-set_other nodes slot a (Some new) None differs)
        ];
      }

  -- a node without entries that came to a vacant slot
  pub Inserts-vacant : (old mid new : List (Option (Node T))) (at to key : ℕ) (name : List ℕ) (node : Node T) → IsSome (get_or old at None) → get_or old to None ≡ None → key ≡ to →
      Redirects (child_in old) (child_in mid) at name (Some to) → ((slot : ℕ) → value_in mid slot ≡ value_in old slot) →
      ((other : List ℕ) → get name_cmp node.entries other ≡ None) → get_or new key None ≡ Some node → ((slot : ℕ) → slot ≢ key → get_or new slot None ≡ get_or mid slot None) →
      Inserts old new at name node.value
  Inserts-vacant old mid new at to key name node there vacant is r values bare here kept = record {
    to = to;
    free = ap value_of vacant;
    bare = λ other. ap (λ o. entry_of o other) vacant;
    entry = record {
      changed = ap (λ o. entry_of o name) (kept at (λ e. apart (e ∙ is))) ∙ r.changed;
      others = λ slot other h. elim (cases_eq slot to) [
        | inl same ↦
            ap (λ o. entry_of o other) (ap (λ x. get_or new x None) (same ∙ sym is) ∙ here) ∙ bare other
            ∙ sym (ap (λ o. entry_of o other) (ap (λ x. get_or old x None) same ∙ vacant))
        | inr differs ↦ ap (λ o. entry_of o other) (kept slot (λ e. differs (e ∙ is))) ∙ r.others slot other h
      ];
    };
    valued = record {
      changed = ap value_of (ap (λ x. get_or new x None) (sym is) ∙ here);
      others = λ slot differs. ap value_of (kept slot (λ e. differs (e ∙ is))) ∙ values slot;
    };
  }
    where
      apart : at ≢ to
      apart e = no-node (get_or old at None) there (ap (λ x. get_or old x None) e ∙ vacant)
        where
          no-node : (o : Option (Node T)) → IsSome o → o ≡ None → ⊥
          no-node None h f = absurd (cc)
          no-node (Some node) h f = absurd (cc)

  -- a node without entries that went
  pub Removes-vacated : (old mid new : List (Option (Node T))) (at slot : ℕ) (name : List ℕ) → Redirects (child_in old) (child_in mid) at name None →
      ((a : ℕ) → value_in mid a ≡ value_in old a) → ((other : List ℕ) → child_in old slot other ≡ None) → get_or new slot None ≡ None →
      ((a : ℕ) → a ≢ slot → get_or new a None ≡ get_or mid a None) → Removes old new at name slot
  Removes-vacated old mid new at slot name r values bare gone kept = record {
    entry = record {
      changed = elim (cases_eq at slot) [
        | inl same ↦ ap (λ o. entry_of o name) (ap (λ x. get_or new x None) same ∙ gone)
        | inr differs ↦ ap (λ o. entry_of o name) (kept at differs) ∙ r.changed
      ];
      others = λ a other h. elim (cases_eq a slot) [
        | inl same ↦ ap (λ o. entry_of o other) (ap (λ x. get_or new x None) same ∙ gone) ∙ sym (ap (λ x. child_in old x other) same ∙ bare other)
        | inr differs ↦ ap (λ o. entry_of o other) (kept a differs) ∙ r.others a other h
      ];
    };
    valued = record { changed = ap value_of gone; others = λ a differs. ap value_of (kept a differs) ∙ values a };
  }

  -- an entry moved onto another, whose node went
  pub Relinks-vacated : (old mid left new : List (Option (Node T))) (at to slot gone : ℕ) (name other : List ℕ) → child_in old to other ≡ Some gone →
      Redirects (child_in old) (child_in mid) to other (Some slot) → ((a : ℕ) → value_in mid a ≡ value_in old a) →
      Redirects (child_in mid) (child_in left) at name None → ((a : ℕ) → value_in left a ≡ value_in mid a) →
      ((key : List ℕ) → child_in old gone key ≡ None) → get_or new gone None ≡ None → ((a : ℕ) → a ≢ gone → get_or new a None ≡ get_or left a None) →
      Relinks old new at name to other slot
  Relinks-vacated old mid left new at to slot gone name other before added values taken values' bare vacated kept = record {
    between = child_in mid;
    added = added;
    taken = record {
      changed = elim (cases_eq at gone) [
        | inl same ↦ ap (λ o. entry_of o name) (ap (λ x. get_or new x None) same ∙ vacated)
        | inr differs ↦ ap (λ o. entry_of o name) (kept at differs) ∙ taken.changed
      ];
      others = λ a key h. elim (cases_eq a gone) [
        | inl same ↦
            ap (λ o. entry_of o key) (ap (λ x. get_or new x None) same ∙ vacated)
            ∙ sym (ap (λ x. child_in mid x key) same ∙ added.others gone key (λ e. absurd (not-itself e)) ∙ bare key)
        | inr differs ↦ ap (λ o. entry_of o key) (kept a differs) ∙ taken.others a key h
      ];
    };
    values = λ a h. ap value_of (kept a (λ e. h (before ∙ ap (λ x. Some x) (sym e)))) ∙ values' a ∙ values a;
    gone = λ a h. let same : a ≡ gone = cc in ap (value_in new) same ∙ ap value_of vacated;
  }
    where
      not-itself : gone ≡ to → ⊥
      not-itself e = let none : child_in old to other ≡ None = ap (λ x. child_in old x other) (sym e) ∙ bare other in absurd (cc)

  -- an entry leads to a node
  pub entry-contains : {nodes : List (Option (Node T))} {count : ℕ} → IsSound nodes count → (slot : ℕ) (name : List ℕ) (to : ℕ) → child_in nodes slot name ≡ Some to → IsSome (get_or nodes to None)
  entry-contains {nodes} s slot name to e = there (get_or nodes to None) (s.tree.live slot name to e)
    where
      there : (o : Option (Node T)) → value_of o ≢ None → IsSome o
      there None h = absurd (h refl)
      there (Some node) h = refl

  -- a node alone in the first slot
  pub value-alone : (old new : List (Option (Node T))) (key : ℕ) (node : Node T) → key ≡ 0 → get_or new key None ≡ Some node → value_in new 0 ≡ Some node.value
  value-alone old new key node is here = ap (value_in new) (sym is) ∙ ap value_of here

  pub bare-alone : (old new : List (Option (Node T))) (key : ℕ) (node : Node T) → old ≡ [] → get_or new key None ≡ Some node → ((slot : ℕ) → slot ≢ key → get_or new slot None ≡ get_or old slot None) →
      ((name : List ℕ) → get name_cmp node.entries name ≡ None) → (slot : ℕ) (name : List ℕ) → child_in new slot name ≡ None
  bare-alone old new key node none here kept bare slot name = elim (cases_eq slot key) [
    | inl same ↦ ap (λ a. child_in new a name) same ∙ ap (λ o. entry_of o name) here ∙ bare name
    | inr differs ↦ ap (λ o. entry_of o name) (kept slot differs ∙ ap (λ xs. get_or xs slot None) none)
  ]

  -- no entries are in order
  pub none-ordered : (o : Option (Node T)) → o ≡ None → IsStrictlySortedBy name_cmp (keys_of (entries_of o))
  unfolding IsStrictlySortedBy
  none-ordered None e = tt
  none-ordered (Some node) e = absurd (cc)
