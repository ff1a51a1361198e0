-- A walk over all nodes from one on finds what stands there.
use Rattle.std.proofs.Common.{◌≡◌, ◌≢◌, ℕ, suc, ◌+◌, ◌-◌, ◌<◌, true, false, cond, Option, Some, None, IfSome, IfNone, List, [], ◌∷◌, ◌++◌, length, take, map, fold, flat_map, option_and_then, refl, sym, ap, ◌∙◌, arith, append_assoc, length-append}
use Rattle.std.proofs.Math.Seq.{take-append_seam}
use Rattle.std.proofs.lemmas.List.{append-nil}
use Rattle.std.specs.BTreeMap.{is_at}
use Rattle.std.specs.FinMap.Entries.{put}
use Rattle.std.specs.List.{AllByRecursion}
use Rattle.std.specs.List.Sorted.{IsStrictlySortedBy}
use Rattle.std.specs.Map.{keys_of, lookup}
use Rattle.std.specs.Ordering.{is_eq}
use Rattle.std.specs.declared.cmp.Ordering.TheVariants.{Less}
use Rattle.vfs_base.specs.Path.{Path, path_cmp}
use Rattle.node_maps.specs.NodeMap.{NodeMap}
use Rattle.name_tree.proofs.Depths.{depth-below}
use Rattle.name_tree.proofs.NodeSlots.{level-itself, level-other}
use Rattle.name_tree.proofs.Views.{child-leads, value-within}
use Rattle.name_tree.proofs.Walks.{walk-append}
use Rattle.name_tree.specs.Gathered.{found_onto, gathered}
use Rattle.name_tree.specs.Layout.{IsTree, child_in, entries_in, found_in, name_cmp, paths_within, tree_of, value_in, walk, with_found}
use Rattle.name_tree.specs.declared.node.Node.{Node}

-- each entry is the one of its name among all
abbrev AllFound : List (List ℕ × ℕ) → List (List ℕ × ℕ) → Type 0
AllFound all [] = Unit {0}
AllFound all (entry ∷ entries) = (lookup (is_at (name_cmp entry.0)) all ≡ Some entry.1) × AllFound all entries

found-later : (first : List ℕ × ℕ) (all entries : List (List ℕ × ℕ)) → AllByRecursion (λ y. name_cmp first.0 y ≡ Less) (keys_of entries) → AllFound all entries → AllFound (first ∷ all) entries
found-later first all [] less f = tt
found-later first all (entry ∷ entries) less f =
    (ap (λ b. cond b (Some first.1) (lookup (is_at (name_cmp entry.0)) all)) (level-other entry.0 first.0 apart) ∙ f.0, found-later first all entries less.1 f.1)
  where
    apart : first.0 ≢ entry.0
    apart e =
        let level : is_eq (name_cmp first.0 entry.0) ≡ true = ap (λ n. is_eq (name_cmp n entry.0)) e ∙ level-itself entry.0 in
        let not-level : is_eq (name_cmp first.0 entry.0) ≡ false = ap is_eq less.0 in
        absurd (cc)

all-found : (entries : List (List ℕ × ℕ)) → IsStrictlySortedBy name_cmp (keys_of entries) → AllFound entries entries
unfolding IsStrictlySortedBy
all-found [] s = tt
all-found (entry ∷ entries) s =
    (ap (λ b. cond b (Some entry.1) (lookup (is_at (name_cmp entry.0)) entries)) (level-itself entry.0), found-later entry entries entries s.0 (all-found entries s.1))

module _ {N : Type 0} (found : Path → Option N) where
  onto-append : (front : Path) (ps qs : List Path) (tree : NodeMap N) → found_onto found front (ps ++ qs) tree ≡ found_onto found front qs (found_onto found front ps tree)
  onto-append front [] qs tree = refl
  onto-append front (p ∷ ps) qs tree = onto-append front ps qs (with_found (found (front ++ p)) (front ++ p) tree)

  onto-name : (front : Path) (name : List ℕ) (ps : List Path) (tree : NodeMap N) → found_onto found front (map (λ p. name ∷ p) ps) tree ≡ found_onto found (front ++ name ∷ []) ps tree
  onto-name front name [] tree = refl
  onto-name front name (p ∷ ps) tree =
      ap (λ q. found_onto found front (map (λ p. name ∷ p) ps) (with_found (found q) q tree)) (sym (append_assoc front (name ∷ []) p))
      ∙ onto-name front name ps (with_found (found ((front ++ name ∷ []) ++ p)) ((front ++ name ∷ []) ++ p) tree)

pub length-of-next : (path : Path) (name : List ℕ) → length (path ++ name ∷ []) ≡ suc (length path)
length-of-next path name = let l : length (path ++ name ∷ []) ≡ length path + 1 = length-append path (name ∷ []) in omega arith

module _ {N : Type 0} (nodes : List (Option (Node N))) where
  -- the entries lead from the slot to their slots
  abbrev pub AllLead : ℕ → List (List ℕ × ℕ) → Type 0
  AllLead slot [] = Unit {0}
  AllLead slot (entry ∷ entries) = (child_in nodes slot entry.0 ≡ Some entry.1) × AllLead slot entries

  found-lead : (slot : ℕ) (all entries : List (List ℕ × ℕ)) → entries_in nodes slot ≡ all → AllFound all entries → AllLead slot entries
  found-lead slot all [] e f = tt
  found-lead slot all (entry ∷ entries) e f =
      (child-leads nodes slot entry.0 ∙ ap (lookup (is_at (name_cmp entry.0))) e ∙ f.0, found-lead slot all entries e f.1)

  pub all-lead : (slot : ℕ) (all : List (List ℕ × ℕ)) → entries_in nodes slot ≡ all → IsStrictlySortedBy name_cmp (keys_of all) → AllLead slot all
  all-lead slot all e s = found-lead slot all all e (all-found all s)

  -- the values with those of what entries lead to, from a path on
  abbrev pub entries_onto : Path → List (List ℕ × ℕ) → NodeMap N → NodeMap N
  entries_onto path entries tree =
      found_onto (found_in nodes) path (flat_map (λ entry. map (λ p. entry.0 ∷ p) (paths_within (entries_in nodes) (length nodes - suc (length path)) entry.1)) entries) tree

  pub gathered-entry : (path : Path) (entry : List ℕ × ℕ) (entries : List (List ℕ × ℕ)) (tree : NodeMap N) →
      entries_onto path (entry ∷ entries) tree ≡ entries_onto path entries (gathered nodes (path ++ entry.0 ∷ []) entry.1 tree)
  gathered-entry path entry entries tree =
      let count = length nodes - suc (length path) in
      let rest = flat_map (λ entry. map (λ p. entry.0 ∷ p) (paths_within (entries_in nodes) count entry.1)) entries in
      let longer : length (path ++ entry.0 ∷ []) ≡ suc (length path) = length-of-next path entry.0 in
      onto-append (found_in nodes) path (map (λ p. entry.0 ∷ p) (paths_within (entries_in nodes) count entry.1)) rest tree
      ∙ ap (found_onto (found_in nodes) path rest) (onto-name (found_in nodes) path entry.0 (paths_within (entries_in nodes) count entry.1) tree
      ∙ ap (λ n. found_onto (found_in nodes) (path ++ entry.0 ∷ []) (paths_within (entries_in nodes) (length nodes - n) entry.1) tree) (sym longer))

  module _ (t : IsTree (value_in nodes) (child_in nodes)) (path : Path) {slot : ℕ} (w : walk (child_in nodes) 0 path ≡ Some slot) where
    pub short : length path < length nodes
    short = depth-below t (length nodes) (value-within nodes) path slot w

    pub gathered-node : (value : N) (tree : NodeMap N) → value_in nodes slot ≡ Some value → gathered nodes path slot tree ≡ entries_onto path (entries_in nodes slot) (put path_cmp path value tree)
    gathered-node value tree v =
        let l : length path < length nodes = short in
        let count : length nodes - length path ≡ suc (length nodes - suc (length path)) = omega arith in
        let here : found_in nodes path ≡ Some value = ap (option_and_then (value_in nodes)) w ∙ v in
        ap (λ n. found_onto (found_in nodes) path (paths_within (entries_in nodes) n slot) tree) count
        ∙ ap (λ p. entries_onto path (entries_in nodes slot) (with_found (found_in nodes p) p tree)) (append-nil path)
        ∙ ap (λ o. entries_onto path (entries_in nodes slot) (with_found o path tree)) here

    -- one step further down
    pub walk-on : (name : List ℕ) (to : ℕ) → child_in nodes slot name ≡ Some to → walk (child_in nodes) 0 (path ++ name ∷ []) ≡ Some to
    walk-on name to e =
        walk-append (child_in nodes) 0 path (name ∷ []) ∙ ap (option_and_then (λ b. walk (child_in nodes) b (name ∷ []))) w ∙ ap (option_and_then (λ b. walk (child_in nodes) b [])) e

  onto-root : (paths : List Path) (tree : NodeMap N) → found_onto (found_in nodes) [] paths tree ≡ fold (λ tree path. with_found (found_in nodes path) path tree) tree paths
  onto-root [] tree = refl
  onto-root (p ∷ ps) tree = onto-root ps (with_found (found_in nodes p) p tree)

  -- all from the root on
  pub gathered-all : gathered nodes [] 0 [] ≡ tree_of nodes
  unfolding tree_of
  gathered-all = onto-root (paths_within (entries_in nodes) (length nodes - 0) 0) [] ∙ ap (λ n. fold (λ tree path. with_found (found_in nodes path) path tree) [] (paths_within (entries_in nodes) n 0)) (omega arith)

  -- a walk over all nodes, before the entries of one that are left
  pub record IsGathering (front path : Path) (slot : ℕ) (entries : List (List ℕ × ℕ)) (before now : NodeMap N) : Type 0 where
    pub same : path ≡ front
    pub leads : AllLead slot entries
    pub found : entries_onto front entries now ≡ gathered nodes front slot before

-- a path without its last name
same-front : (p q : Path) (a b : List ℕ) → p ++ a ∷ [] ≡ q ++ b ∷ [] → p ≡ q
same-front p q a b e =
    let l : length p + 1 ≡ length q + 1 = sym (length-append p (a ∷ [])) ∙ ap length e ∙ length-append q (b ∷ []) in
    let same : length p ≡ length q = omega arith in
    sym (take-append_seam p (a ∷ [])) ∙ ap (take (length p)) e ∙ ap (λ n. take n (q ++ b ∷ [])) same ∙ take-append_seam q (b ∷ [])

pub popped : (o : Option (List ℕ)) (old new path : Path) (name : List ℕ) → old ≡ path ++ name ∷ [] → IfSome o (λ last. old ≡ new ++ last ∷ []) → IfNone o ((old ≡ []) × (new ≡ [])) → new ≡ path
popped (Some last) old new path name e some none = same-front new path last name (sym some ∙ e)
popped None old new path name e some none =
    let l : length path + 1 ≡ 0 = sym (length-append path (name ∷ [])) ∙ ap length (sym e ∙ none.0) in absurd (omega arith)
