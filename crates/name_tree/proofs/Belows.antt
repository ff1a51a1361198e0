-- Whether anything stands below a path is whether its node has entries.
use Rattle.std.proofs.Common.{◌≡◌, ◌≢◌, ℕ, suc, ◌+◌, ◌<◌, Bool, true, false, cond, not, ◌&&◌, ◌||◌, ◌==◌, nat_lt, Option, Some, None, List, [], ◌∷◌, ◌++◌, inl, inr, length, drop, option_and_then, refl, sym, ap, ◌∙◌, arith, length-append}
use Rattle.std.proofs.lemmas.Bool.Decides.{nat_tests}
use Rattle.std.specs.BTreeMap.{is_at}
use Rattle.std.specs.FinMap.Entries.{find as value_at}
use Rattle.std.specs.Map.{lookup}
use Rattle.vfs_base.specs.Path.{Path, path_cmp}
use Rattle.vfs_model.proofs.Trees.{prefix-splits}
use Rattle.vfs_model.specs.Lookup.{is_below, is_prefix}
use Rattle.node_maps.proofs.MovedNodes.{at-entry, at-later, none-under, same_or_other}
use Rattle.node_maps.specs.NodeMap.{NodeMap}
use Rattle.name_tree.proofs.NodeSlots.{level-itself}
use Rattle.name_tree.proofs.Views.{child-leads, tree-at}
use Rattle.name_tree.proofs.Walks.{walk-append}
use Rattle.name_tree.specs.Layout.{IsSound, child_in, entries_in, name_cmp, tree_of, value_in, walk}
use Rattle.name_tree.specs.Listed.{has_below}
use Rattle.name_tree.specs.declared.node.Node.{Node}

pub and_parts : (a b : Bool) → (a && b) ≡ true → (a ≡ true) × (b ≡ true)
and_parts true b h = (refl, h)
and_parts false b h = absurd (cc)

rest-behind : (rest : Path) (n : ℕ) → n < n + length rest → (next : List ℕ) × (more : Path) × (rest ≡ next ∷ more)
rest-behind [] n h = absurd (omega arith)
rest-behind (next ∷ more) n h = (next, more, refl)

-- a path below another goes on from it
pub below-splits : (path q : Path) → is_below path q ≡ true → (next : List ℕ) × (more : Path) × (q ≡ path ++ next ∷ more)
below-splits path q h =
    let parts = and_parts (is_prefix path q) (nat_lt (length path) (length q)) h in
    let split = prefix-splits path q parts.0 in
    let longer : length path < length q = grind (arith, nat_tests) in
    let sum : length path + length (drop (length path) q) ≡ length q = sym (length-append path (drop (length path) q)) ∙ sym (ap length split) in
    let rest = rest-behind (drop (length path) q) (length path) (omega arith) in
    (rest.0, rest.1, split ∙ ap (λ r. path ++ r) rest.2)

module _ {N : Type 0} where
  pub none-below : (path : Path) (tree : NodeMap N) → ((next : List ℕ) (more : Path) → value_at path_cmp (path ++ next ∷ more) tree ≡ None) → has_below path tree ≡ false
  none-below path [] h = refl
  none-below path (entry ∷ tree) h =
      ap (λ b. b || has_below path tree) (first (is_below path entry.0) refl)
      ∙ none-below path tree (λ next more. elim (same_or_other (path ++ next ∷ more) entry.0) [
        | inl e ↦ absurd (not-here (path ++ next ∷ more) e (h next more))
        | inr other ↦ sym (at-later (path ++ next ∷ more) entry tree other) ∙ h next more
      ])
    where
      not-here : (q : Path) → q ≡ entry.0 → value_at path_cmp q (entry ∷ tree) ≡ None → ⊥
      not-here q e none = let some : value_at path_cmp q (entry ∷ tree) ≡ Some entry.1 = at-entry q entry tree e in absurd (cc)

      first : (b : Bool) → is_below path entry.0 ≡ b → is_below path entry.0 ≡ false
      first true e = let split = below-splits path entry.0 e in absurd (not-here (path ++ split.0 ∷ split.1) (sym split.2) (h split.0 split.1))
      first false e = e

  pub some-below : (path : Path) (tree : NodeMap N) (next : List ℕ) (more : Path) → value_at path_cmp (path ++ next ∷ more) tree ≢ None → has_below path tree ≡ true
  some-below path tree next more h = elim (has_below path tree) as (λ b. has_below path tree ≡ b → b ≡ true) [
    | true ↦ λ e. refl
    | false ↦ λ e. absurd (h (none-under path tree e next more))
  ] refl

  module _ {nodes : List (Option (Node N))} {count : ℕ} {tree : NodeMap N} (s : IsSound nodes count) (view : tree_of nodes ≡ tree) (path : Path) where
    pub after : (next : List ℕ) (more : Path) (o : Option ℕ) → walk (child_in nodes) 0 path ≡ o →
        value_at path_cmp (path ++ next ∷ more) tree ≡ option_and_then (value_in nodes) (option_and_then (λ b. walk (child_in nodes) b (next ∷ more)) o)
    after next more o w =
        ap (value_at path_cmp (path ++ next ∷ more)) (sym view) ∙ tree-at nodes s.tree (path ++ next ∷ more)
        ∙ ap (option_and_then (value_in nodes)) (walk-append (child_in nodes) 0 path (next ∷ more) ∙ ap (option_and_then (λ b. walk (child_in nodes) b (next ∷ more))) w)

    pub below-nothing : walk (child_in nodes) 0 path ≡ None → has_below path tree ≡ false
    below-nothing w = none-below path tree (λ next more. after next more None w)

    pub below-entries : (slot : ℕ) → walk (child_in nodes) 0 path ≡ Some slot → has_below path tree ≡ not (length (entries_in nodes slot) == 0)
    below-entries slot w = by_entries (entries_in nodes slot) refl
      where
        found : (next : List ℕ) (more : Path) (o : Option ℕ) → child_in nodes slot next ≡ o → value_at path_cmp (path ++ next ∷ more) tree ≡ option_and_then (value_in nodes) (option_and_then (λ b. walk (child_in nodes) b more) o)
        found next more o e = after next more (Some slot) w ∙ ap (λ x. option_and_then (value_in nodes) (option_and_then (λ b. walk (child_in nodes) b more) x)) e

        by_entries : (entries : List (List ℕ × ℕ)) → entries_in nodes slot ≡ entries → has_below path tree ≡ not (length entries == 0)
        by_entries [] e = none-below path tree (λ next more. found next more None (child-leads nodes slot next ∙ ap (lookup (is_at (name_cmp next))) e))
        by_entries (entry ∷ entries) e =
            let leads : child_in nodes slot entry.0 ≡ Some entry.1 =
            child-leads nodes slot entry.0 ∙ ap (lookup (is_at (name_cmp entry.0))) e ∙ ap (λ b. cond b (Some entry.1) (lookup (is_at (name_cmp entry.0)) entries)) (level-itself entry.0) in
            let some : has_below path tree ≡ true = some-below path tree entry.0 [] (λ none. s.tree.live slot entry.0 entry.1 leads (sym (found entry.0 [] (Some entry.1) leads) ∙ none)) in
            let test : not (suc (length entries) == 0) ≡ true = grind (arith, nat_tests) in
            some ∙ sym test
