-- A node that is put at a path, or taken away, changes what stands there and nothing else.
use Rattle.std.proofs.Common.{◌≡◌, ◌≢◌, ℕ, ◌<◌, not, Some, None, [], ◌∷◌, ◌++◌, ◌⊎◌, inl, inr, length, filter, slice_index_or, slice_set, refl, sym, ap, ◌∙◌}
use Rattle.std.proofs.lemmas.List.{get_or-set_other, get_or-set_same}
use Rattle.std.proofs.lemmas.Bool.Decides.{eqb_tells}
use Rattle.std.specs.FinMap.Entries.{put}
use Rattle.vfs_base.specs.Path.{Path, path_cmp}
use Rattle.vfs_base.specs.declared.kinds.NodeKind.{NodeKind}
use Rattle.vfs_model.proofs.CoveringMounts.{nearest-prefix}
use Rattle.vfs_model.proofs.Trees.{at-put-here, at-put-other, at-without-here, at-without-other, prefix-splits}
use Rattle.vfs_model.specs.Laws.{MountsApart}
use Rattle.vfs_model.specs.Lookup.{covering_mount, is_prefix, node_at, node_in, rest_of, with_node, with_tree}
use Rattle.vfs_model.specs.NameSteps.{without_node}
use Rattle.vfs_model.specs.Namespace.{Tree, same_path, tree_of}
use Rattle.vfs_model.specs.declared.namespace.Namespace.{Namespace}

pub same_or_other : (a b : ℕ) → (a ≡ b) ⊎ (a ≢ b)
same_or_other a b = elim (eqb_tells a b) [ inl h ↦ inl h.1 | inr h ↦ inr h.1 ]

pub covered : (n : Namespace) (path : Path) → n.root.point ≡ [] → path ≡ (covering_mount n path).point ++ rest_of n path
unfolding covering_mount
covered n path e = prefix-splits _ path (nearest-prefix path n.root n.mounts (ap (λ point. is_prefix point path) e))

-- another tree at a mount's number changes no node of the mounts of other numbers
pub other_mount : (n : Namespace) (number : ℕ) (tree : Tree) (q : Path) → (covering_mount n q).number ≢ number → node_at (with_tree n number tree) q ≡ node_at n q
unfolding node_at covering_mount
other_mount n number tree q h = ap (λ t. node_in t (rest_of n q)) (get_or-set_other n.trees number (covering_mount n q).number tree [] h)

-- and a node of the mount of this number is looked up in that tree
pub own_mount : (n : Namespace) (number : ℕ) (tree : Tree) (q : Path) → number < length n.trees → (covering_mount n q).number ≡ number →
    node_at (with_tree n number tree) q ≡ node_in tree (rest_of n q)
unfolding node_at covering_mount
own_mount n number tree q l e =
    ap (λ t. node_in t (rest_of n q)) (ap (λ k. slice_index_or (slice_set n.trees number tree) k []) e ∙ get_or-set_same n.trees number tree [] l)

pub own_node : (n : Namespace) (number : ℕ) (q : Path) → (covering_mount n q).number ≡ number → node_in (tree_of n number) (rest_of n q) ≡ node_at n q
unfolding node_at
own_node n number q e = ap (λ k. node_in (tree_of n k) (rest_of n q)) (sym e)

-- the rests of two paths of one mount are the same where the paths are
pub rests_differ : (n : Namespace) (p q : Path) → MountsApart n → (covering_mount n q).number ≡ (covering_mount n p).number → q ≢ p → rest_of n q ≢ rest_of n p
rests_differ n p q apart e h r =
    h (covered n q apart.root ∙ ap (λ point. point ++ rest_of n q) (apart.own q p e) ∙ ap (λ rest. (covering_mount n p).point ++ rest) r ∙ sym (covered n p apart.root))

node_in-put-here : (rest : Path) (new : NodeKind) (tree : Tree) → rest ≢ [] → node_in (put path_cmp rest new tree) rest ≡ Some new
node_in-put-here [] new tree h = absurd (h refl)
node_in-put-here (name ∷ names) new tree h = at-put-here (name ∷ names) new tree

node_in-put-other : (rest q : Path) (new : NodeKind) (tree : Tree) → q ≢ rest → node_in (put path_cmp rest new tree) q ≡ node_in tree q
node_in-put-other rest [] new tree h = refl
node_in-put-other rest (name ∷ names) new tree h = at-put-other rest (name ∷ names) new tree h

pub put-here : (n : Namespace) (path : Path) (new : NodeKind) → (covering_mount n path).number < length n.trees → rest_of n path ≢ [] →
    node_at (with_node n path new) path ≡ Some new
unfolding with_node
put-here n path new l h = own_mount n (covering_mount n path).number _ path l refl ∙ node_in-put-here (rest_of n path) new _ h

pub put-other : (n : Namespace) (path : Path) (new : NodeKind) → MountsApart n → (covering_mount n path).number < length n.trees →
    (other : Path) → other ≢ path → node_at (with_node n path new) other ≡ node_at n other
unfolding with_node
put-other n path new apart l other h = elim (same_or_other (covering_mount n other).number (covering_mount n path).number) [
  | inl e ↦ own_mount n (covering_mount n path).number _ other l e
      ∙ node_in-put-other (rest_of n path) (rest_of n other) new _ (rests_differ n path other apart e h)
      ∙ own_node n (covering_mount n path).number other e
  | inr e ↦ other_mount n (covering_mount n path).number _ other e
]

node_in-without-here : (rest : Path) (tree : Tree) → rest ≢ [] → node_in (filter (λ entry. not (same_path entry.0 rest)) tree) rest ≡ None
node_in-without-here [] tree h = absurd (h refl)
node_in-without-here (name ∷ names) tree h = at-without-here (name ∷ names) tree

node_in-without-other : (rest q : Path) (tree : Tree) → q ≢ rest → node_in (filter (λ entry. not (same_path entry.0 rest)) tree) q ≡ node_in tree q
node_in-without-other rest [] tree h = refl
node_in-without-other rest (name ∷ names) tree h = at-without-other rest (name ∷ names) tree h

pub taken-here : (n : Namespace) (path : Path) → (covering_mount n path).number < length n.trees → rest_of n path ≢ [] →
    node_at (without_node n path) path ≡ None
unfolding without_node
taken-here n path l h = own_mount n (covering_mount n path).number _ path l refl ∙ node_in-without-here (rest_of n path) _ h

pub taken-other : (n : Namespace) (path : Path) → MountsApart n → (covering_mount n path).number < length n.trees →
    (other : Path) → other ≢ path → node_at (without_node n path) other ≡ node_at n other
unfolding without_node
taken-other n path apart l other h = elim (same_or_other (covering_mount n other).number (covering_mount n path).number) [
  | inl e ↦ own_mount n (covering_mount n path).number _ other l e
      ∙ node_in-without-other (rest_of n path) (rest_of n other) _ (rests_differ n path other apart e h)
      ∙ own_node n (covering_mount n path).number other e
  | inr e ↦ other_mount n (covering_mount n path).number _ other e
]
