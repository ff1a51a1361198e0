-- Trees by path: what a node put, taken away or left there changes.
use Rattle.std.proofs.Common.{◌≡◌, ◌≢◌, Bool, true, false, cond, not, Some, None, List, ◌++◌, length, take, drop, filter, refl, sym, ap, ◌∙◌}
use Rattle.std.proofs.lemmas.Cmp.{tied_itself}
use Rattle.std.proofs.lemmas.List.{take-append-drop}
use Rattle.std.specs.Cmp.Lexicographic.{pointwise_decides, bytes_decides}
use Rattle.std.specs.FinMap.Entries.{find as value_at, find-put, find-where_key, put}
use Rattle.std.specs.Ordering.{eq_by_cmp, is_eq}
use Rattle.vfs_base.specs.Path.{Path, path_cmp}
use Rattle.vfs_base.specs.PathLaws.{path_cmp_exact, path_cmp_total, path_ties}
use Rattle.vfs_model.specs.Lookup.{is_prefix}
use Rattle.vfs_model.specs.Namespace.{same_path}

pub same_path-is : (p q : Path) → same_path p q ≡ true → p ≡ q
same_path-is p q = (pointwise_decides bytes_decides p q).0

pub same_path-itself : (p : Path) → same_path p p ≡ true
same_path-itself p = (pointwise_decides bytes_decides p p).1 refl

false_unless : (b : Bool) → (b ≡ true → Unit {0} → ⊥) → b ≡ false
false_unless true h = absurd (h refl tt)
false_unless false h = refl

pub same_path-other : (p q : Path) → p ≢ q → same_path p q ≡ false
same_path-other p q h = false_unless (same_path p q) (λ e u. h (same_path-is p q e))

tied-itself : (p : Path) → eq_by_cmp path_cmp p p ≡ true
tied-itself p = ap is_eq (tied_itself path_cmp_total p)

tied-other : (p q : Path) → p ≢ q → eq_by_cmp path_cmp p q ≡ false
tied-other p q h = sym (path_ties p q) ∙ same_path-other p q h

pub at-put-here : {X : Type 0} (p : Path) (x : X) (tree : List (Path × X)) → value_at path_cmp p (put path_cmp p x tree) ≡ Some x
at-put-here p x tree = find-put path_cmp path_cmp_total p p x tree ∙ ap (λ b. cond b (Some x) (value_at path_cmp p tree)) (tied-itself p)

pub at-put-other : {X : Type 0} (p q : Path) (x : X) (tree : List (Path × X)) → q ≢ p → value_at path_cmp q (put path_cmp p x tree) ≡ value_at path_cmp q tree
at-put-other p q x tree h = find-put path_cmp path_cmp_total q p x tree ∙ ap (λ b. cond b (Some x) (value_at path_cmp q tree)) (tied-other q p h)

-- the nodes whose paths pass a test
pub at-filter : {X : Type 0} (test : Path → Bool) (q : Path) (tree : List (Path × X)) →
    value_at path_cmp q (filter (λ entry. test entry.0) tree) ≡ cond (test q) (value_at path_cmp q tree) None
at-filter test q tree = find-where_key path_cmp test q (λ x e. ap test (sym (path_cmp_exact q x e))) tree

-- the tree without the node at a path
pub at-without-here : {X : Type 0} (p : Path) (tree : List (Path × X)) → value_at path_cmp p (filter (λ entry. not (same_path entry.0 p)) tree) ≡ None
at-without-here p tree = at-filter (λ x. not (same_path x p)) p tree ∙ ap (λ b. cond (not b) (value_at path_cmp p tree) None) (same_path-itself p)

pub at-without-other : {X : Type 0} (p q : Path) (tree : List (Path × X)) → q ≢ p →
    value_at path_cmp q (filter (λ entry. not (same_path entry.0 p)) tree) ≡ value_at path_cmp q tree
at-without-other p q tree h = at-filter (λ x. not (same_path x p)) q tree ∙ ap (λ b. cond (not b) (value_at path_cmp q tree) None) (same_path-other q p h)

-- a path with a prefix is the prefix and a rest
pub prefix-splits : (front path : Path) → is_prefix front path ≡ true → path ≡ front ++ drop (length front) path
prefix-splits front path e =
    sym (take-append-drop (length front) path)
    ∙ ap (λ f. f ++ drop (length front) path) (sym ((pointwise_decides bytes_decides front (take (length front) path)).0 e))
