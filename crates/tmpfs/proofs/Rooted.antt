-- A tree below its root: what a change of all nodes by path is for those beside the root.
use Rattle.std.proofs.Common.{◌≡◌, ◌≢◌, ℕ, suc, Bool, true, false, cond, not, ◌&&◌, ◌+◌, nat_eq, Option, Some, None, ◌==◌, is_some, if◌then◌else◌, List, [], ◌∷◌, ◌++◌, inl, inr, length, map, filter, fold, drop, nat_lt, refl, sym, ap, ◌∙◌, arith}
use Rattle.std.proofs.lemmas.Bool.Decides.{nat_tests}
use Rattle.std.specs.FinMap.Entries.{by_order, find as value_at, put}
use Rattle.std.specs.Ordering.{ordering_reverse}
use Rattle.std.specs.declared.cmp.Ordering.TheVariants.{Greater}
use Rattle.vfs_base.proofs.PathOrder.{below}
use Rattle.vfs_base.specs.Path.{Path, path_cmp}
use Rattle.vfs_base.specs.PathLaws.{path_cmp_total}
use Rattle.vfs_base.specs.declared.kinds.NodeKind.{NodeKind}
use Rattle.vfs_base.specs.declared.kinds.NodeKind.TheVariants as node
use Rattle.vfs_base.specs.declared.reply.ListEntry.{ListEntry}
use Rattle.vfs_model.proofs.MovedLaws.{prefix-append}
use Rattle.vfs_model.proofs.Trees.{at-filter, at-put-other, prefix-splits, same_path-other}
use Rattle.vfs_model.specs.Lookup.{is_prefix}
use Rattle.vfs_model.specs.NameSteps.{is_entry_of, last_name}
use Rattle.vfs_model.specs.Namespace.{Tree, same_path}
use Rattle.vfs_model.specs.RenameStep as model
use Rattle.node_maps.proofs.MovedNodes.{at-entry, at-later, moved-beside, same_or_other}
use Rattle.node_maps.specs.NodeMap.{carried, left_behind, link_refusal, moved, put_entry, unlink_refusal, without}
use Rattle.node_maps.specs.declared.tree_fault.TreeFault.TheVariants as fault
use Rattle.name_tree.specs.Listed.{listed}
use Rattle.tmpfs.specs.NodeTree.{IsRooted, entries_in, is_dir}

-- an entry of a listing
abbrev pub entry_of : (List ℕ × NodeKind) → ListEntry
entry_of e = record { name = e.0; node = e.1 }

-- the root is no entry
no-entry : (path : Path) → is_entry_of path [] ≡ false
no-entry path =
    let none : nat_lt (length path) 0 ≡ false = grind (arith, nat_tests) in
    elim (is_prefix path []) as (λ b. ((b && nat_lt (length path) 0) && nat_eq 0 (length path + 1)) ≡ false) [
      | true ↦ ap (λ b. b && nat_eq 0 (length path + 1)) none
      | false ↦ refl
    ]

-- every other path comes behind the root's
root-first : (name : List ℕ) (names : Path) → path_cmp (name ∷ names) [] ≡ Greater
root-first name names = path_cmp_total.antisymm (name ∷ names) [] ∙ ap ordering_reverse (below [] name names)

not-root : (name : List ℕ) (names : Path) → [] ≢ name ∷ names
not-root name names e = let l : 0 ≡ suc (length names) = ap length e in absurd (omega arith)

-- no other path is above the root
prefix-root : (name : List ℕ) (names : Path) → is_prefix (name ∷ names) [] ≡ false
prefix-root name names = elim (is_prefix (name ∷ names) []) as (λ b. is_prefix (name ∷ names) [] ≡ b → b ≡ false) [
  | true ↦ λ e. absurd (not-root name (names ++ drop (length (name ∷ names)) []) (prefix-splits (name ∷ names) [] e))
  | false ↦ λ e. refl
] refl

root-put : (name : List ℕ) (names : Path) (new : NodeKind) (tree : Tree) → put path_cmp (name ∷ names) new (([], node.Dir) ∷ tree) ≡ ([], node.Dir) ∷ put path_cmp (name ∷ names) new tree
root-put name names new tree =
    ap (λ o. by_order o ((name ∷ names, new) ∷ ([], node.Dir) ∷ tree) (([], new) ∷ tree) (([], node.Dir) ∷ put path_cmp (name ∷ names) new tree)) (root-first name names)

root-without : (name : List ℕ) (names : Path) (tree : Tree) → without (name ∷ names) (([], node.Dir) ∷ tree) ≡ ([], node.Dir) ∷ without (name ∷ names) tree
root-without name names tree =
    ap (λ b. cond (not b) (([], node.Dir) ∷ without (name ∷ names) tree) (without (name ∷ names) tree)) (same_path-other [] (name ∷ names) (not-root name names))

root-put_all : (name : List ℕ) (names : Path) (count : ℕ) (entries base : Tree) →
    fold put_entry (([], node.Dir) ∷ base) (map (λ e. ((name ∷ names) ++ drop count e.0, e.1)) entries) ≡ ([], node.Dir) ∷ fold put_entry base (map (λ e. ((name ∷ names) ++ drop count e.0, e.1)) entries)
root-put_all name names count [] base = refl
root-put_all name names count (e ∷ entries) base =
    ap (λ b. fold put_entry b (map (λ e. ((name ∷ names) ++ drop count e.0, e.1)) entries)) (root-put name (names ++ drop count e.0) e.1 base)
    ∙ root-put_all name names count entries (put path_cmp ((name ∷ names) ++ drop count e.0) e.1 base)

root-moved : (n m : List ℕ) (ns ms : Path) (tree : Tree) → moved (n ∷ ns) (m ∷ ms) (([], node.Dir) ∷ tree) ≡ ([], node.Dir) ∷ moved (n ∷ ns) (m ∷ ms) tree
unfolding moved
root-moved n m ns ms tree =
    let outside = prefix-root n ns in
    let stays : left_behind (n ∷ ns) (m ∷ ms) (([], node.Dir) ∷ tree) ≡ ([], node.Dir) ∷ left_behind (n ∷ ns) (m ∷ ms) tree =
    ap (λ b. cond (not b && not (same_path [] (m ∷ ms))) (([], node.Dir) ∷ left_behind (n ∷ ns) (m ∷ ms) tree) (left_behind (n ∷ ns) (m ∷ ms) tree)) outside
    ∙ ap (λ b. cond (not b) (([], node.Dir) ∷ left_behind (n ∷ ns) (m ∷ ms) tree) (left_behind (n ∷ ns) (m ∷ ms) tree)) (same_path-other [] (m ∷ ms) (not-root m ms)) in
    let goes : carried (n ∷ ns) (m ∷ ms) (([], node.Dir) ∷ tree) ≡ carried (n ∷ ns) (m ∷ ms) tree =
    ap (λ b. map (λ e. ((m ∷ ms) ++ drop (length (n ∷ ns)) e.0, e.1)) (cond b (([], node.Dir) ∷ filter (λ e. is_prefix (n ∷ ns) e.0) tree) (filter (λ e. is_prefix (n ∷ ns) e.0) tree))) outside in
    ap (λ es. fold put_entry (left_behind (n ∷ ns) (m ∷ ms) (([], node.Dir) ∷ tree)) es) goes
    ∙ ap (λ b. fold put_entry b (carried (n ∷ ns) (m ∷ ms) tree)) stays
    ∙ root-put_all m ms (length (n ∷ ns)) (filter (λ e. is_prefix (n ∷ ns) e.0) tree) (left_behind (n ∷ ns) (m ∷ ms) tree)

-- a rename means the same here as in the namespace
moved-is : (old new : Path) (tree : Tree) → moved old new tree ≡ model.moved old new tree
unfolding moved model.moved
moved-is old new tree = refl

pub rooted-root : IsRooted (([], node.Dir) ∷ [])
rooted-root = record { first = refl; once = refl }

not-linked : (tree : Tree) → link_refusal is_dir tree [] ≡ None → ⊥
not-linked tree h = absurd (cc)

module _ {names : Tree} (r : IsRooted names) where
  pub tree-put : (path : Path) (new : NodeKind) → link_refusal is_dir (drop 1 names) path ≡ None → drop 1 (put path_cmp path new names) ≡ put path_cmp path new (drop 1 names)
  tree-put [] new h = absurd (not-linked (drop 1 names) h)
  tree-put (name ∷ rest) new h = ap (λ t. drop 1 (put path_cmp (name ∷ rest) new t)) r.first ∙ ap (drop 1) (root-put name rest new (drop 1 names))

  pub rooted-put : (path : Path) (new : NodeKind) → link_refusal is_dir (drop 1 names) path ≡ None → IsRooted (put path_cmp path new names)
  rooted-put [] new h = absurd (not-linked (drop 1 names) h)
  rooted-put (name ∷ rest) new h = record {
    first =
        ap (put path_cmp (name ∷ rest) new) r.first ∙ root-put name rest new (drop 1 names)
        ∙ ap (λ t. ([], node.Dir) ∷ t) (sym (tree-put (name ∷ rest) new h));
    once = ap (value_at path_cmp []) (tree-put (name ∷ rest) new h) ∙ at-put-other (name ∷ rest) [] new (drop 1 names) (not-root name rest) ∙ r.once;
  }

  pub tree-without : (path : Path) → path ≢ [] → drop 1 (without path names) ≡ without path (drop 1 names)
  tree-without [] h = absurd (h refl)
  tree-without (name ∷ rest) h = ap (λ t. drop 1 (without (name ∷ rest) t)) r.first ∙ ap (drop 1) (root-without name rest (drop 1 names))

  pub rooted-without : (path : Path) → path ≢ [] → IsRooted (without path names)
  rooted-without [] h = absurd (h refl)
  rooted-without (name ∷ rest) h = record {
    first =
        ap (without (name ∷ rest)) r.first ∙ root-without name rest (drop 1 names)
        ∙ ap (λ t. ([], node.Dir) ∷ t) (sym (tree-without (name ∷ rest) h));
    once =
        ap (value_at path_cmp []) (tree-without (name ∷ rest) h) ∙ at-filter (λ p. not (same_path p (name ∷ rest))) [] (drop 1 names)
        ∙ ap (λ found. cond (not (same_path [] (name ∷ rest))) found None) r.once ∙ nothing (not (same_path [] (name ∷ rest)));
  }
    where
      nothing : (b : Bool) → cond {A = Option NodeKind} b None None ≡ None
      nothing true = refl
      nothing false = refl

  pub tree-moved : (old new : Path) → is_prefix old new ≡ false → is_prefix new old ≡ false → drop 1 (moved old new names) ≡ model.moved old new (drop 1 names)
  tree-moved [] new h k = absurd (let t : is_prefix [] new ≡ true = prefix-append [] new in cc)
  tree-moved (n ∷ ns) [] h k = absurd (let t : is_prefix [] (n ∷ ns) ≡ true = prefix-append [] (n ∷ ns) in cc)
  tree-moved (n ∷ ns) (m ∷ ms) h k =
      ap (λ t. drop 1 (moved (n ∷ ns) (m ∷ ms) t)) r.first ∙ ap (drop 1) (root-moved n m ns ms (drop 1 names)) ∙ moved-is (n ∷ ns) (m ∷ ms) (drop 1 names)

  pub rooted-moved : (old new : Path) → is_prefix old new ≡ false → is_prefix new old ≡ false → IsRooted (moved old new names)
  rooted-moved [] new h k = absurd (let t : is_prefix [] new ≡ true = prefix-append [] new in cc)
  rooted-moved (n ∷ ns) [] h k = absurd (let t : is_prefix [] (n ∷ ns) ≡ true = prefix-append [] (n ∷ ns) in cc)
  rooted-moved (n ∷ ns) (m ∷ ms) h k =
      let whole : moved (n ∷ ns) (m ∷ ms) names ≡ ([], node.Dir) ∷ moved (n ∷ ns) (m ∷ ms) (drop 1 names) = ap (moved (n ∷ ns) (m ∷ ms)) r.first ∙ root-moved n m ns ms (drop 1 names) in
      record {
        first = whole ∙ ap (λ t. ([], node.Dir) ∷ t) (sym (ap (drop 1) whole));
        once = ap (λ t. value_at path_cmp [] (drop 1 t)) whole ∙ moved-beside (n ∷ ns) (m ∷ ms) (drop 1 names) [] (prefix-root m ms) (prefix-root n ns) ∙ r.once;
      }

  -- the root is not taken away
  pub root-refused : {tree : Tree} → drop 1 names ≡ tree → (path : Path) → true ≡ (length path == 0) → unlink_refusal tree path ≡ Some fault.NotFound
  root-refused {tree} view [] h =
      ap (λ found. if is_some found then None else Some fault.NotFound) (ap (value_at path_cmp []) (sym view) ∙ r.once)
  root-refused view (name ∷ path) h = let none : (suc (length path) == 0) ≡ false = grind (arith, nat_tests) in absurd (cc)

  -- what is in a folder is the same with and without the root
  pub entries-listed : (path : Path) → map entry_of (listed path names) ≡ entries_in path (drop 1 names)
  entries-listed path =
      ap (λ t. map entry_of (listed path t)) r.first
      ∙ ap (λ b. map entry_of (map (λ e. (last_name e.0, e.1)) (cond b (([], node.Dir) ∷ filter (λ e. is_entry_of path e.0) (drop 1 names)) (filter (λ e. is_entry_of path e.0) (drop 1 names))))) (no-entry path)
      ∙ mapped (filter (λ e. is_entry_of path e.0) (drop 1 names))
    where
      mapped : (tree : Tree) → map entry_of (map (λ e. (last_name e.0, e.1)) tree) ≡ map (λ e. record { name = last_name e.0; node = e.1 }) tree
      mapped [] = refl
      mapped (e ∷ tree) = ap (λ rest. record { name = last_name e.0; node = e.1 } ∷ rest) (mapped tree)

-- taking away what is not there changes nothing
pub without-absent : (path : Path) (tree : Tree) → value_at path_cmp path tree ≡ None → without path tree ≡ tree
without-absent path [] h = refl
without-absent path (entry ∷ tree) h = elim (same_or_other path entry.0) [
  | inl e ↦ let some : value_at path_cmp path (entry ∷ tree) ≡ Some entry.1 = at-entry path entry tree e in absurd (cc)
  | inr other ↦
      ap (λ b. cond (not b) (entry ∷ without path tree) (without path tree)) (same_path-other entry.0 path (λ f. other (sym f)))
      ∙ ap (λ rest. entry ∷ rest) (without-absent path tree (sym (at-later path entry tree other) ∙ h))
]

pub no-root : (path : Path) → false ≡ (length path == 0) → path ≢ []
no-root [] h e = absurd (cc)
no-root (name ∷ path) h e = not-root name path (sym e)
