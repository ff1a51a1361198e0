-- A file that a path or a reference names is live.
use Rattle.std.proofs.Common.{◌≡◌, ℕ, suc, ◌==◌, ◌<◌, Bool, true, false, cond, ◌&&◌, ◌||◌, T, Option, Some, None, is_some, IsSomeAnd, List, [], ◌∷◌, slice_index_or, inl, inr, refl, sym, ap, ◌∙◌}
use Rattle.std.proofs.lemmas.Bool.Decides.{eqb_tells}
use Rattle.std.proofs.lemmas.Cmp.{tied_itself}
use Rattle.std.specs.FinMap.Entries.{below_all, find as value_at, is_sorted}
use Rattle.std.specs.List.{list_any}
use Rattle.std.specs.Ordering.{eq_by_cmp, is_eq, is_lt}
use Rattle.std.specs.declared.cmp.Ordering.{Ordering}
use Rattle.std.specs.declared.cmp.Ordering.TheVariants.{Less, Equal, Greater}
use Rattle.vfs_base.specs.Path.{Path, path_cmp}
use Rattle.vfs_base.specs.PathLaws.{path_cmp_exact, path_cmp_total}
use Rattle.vfs_base.specs.declared.ids.FileId.{FileId}
use Rattle.vfs_base.specs.declared.kinds.Kind.{Kind}
use Rattle.vfs_base.specs.declared.kinds.NodeKind.{NodeKind}
use Rattle.vfs_base.specs.declared.kinds.NodeKind.TheVariants as node
use Rattle.vfs_model.specs.Boxes.{IsConsistent}
use Rattle.vfs_model.specs.Consistency.{IsLive}
use Rattle.vfs_model.specs.FileLife.{has_row, is_file_of_row, is_held, is_linked, refers_to}
use Rattle.vfs_model.specs.Namespace.{life_at, tree_of}
use Rattle.vfs_model.specs.declared.namespace.LiveFile.{LiveFile}
use Rattle.vfs_model.specs.declared.namespace.Namespace.{Namespace}
use Rattle.vfs_model.specs.declared.namespace.Reference.{Reference}
use Rattle.vfs_model.specs.declared.world.WorldState.{WorldState}

same-number : (a b : ℕ) → (a == b) ≡ true → a ≡ b
same-number a b h = elim (eqb_tells a b) [ inl k ↦ k.1 | inr k ↦ absurd (cc) ]

-- a place at which a test holds
record AnyPlace {X : Type 0} (p : X → Bool) (xs : List X) (d : X) : Type 0 where
  place : ℕ
  holds : p (slice_index_or xs place d) ≡ true

any-cons : {X : Type 0} (p : X → Bool) (x : X) (xs : List X) (d : X) (b : Bool) → p x ≡ b → (b || list_any p xs) ≡ true →
    (list_any p xs ≡ true → AnyPlace p xs d) → AnyPlace p (x ∷ xs) d
any-cons p x xs d true e h later = record { place = 0; holds = e }
any-cons p x xs d false e h later = let found = later h in record { place = suc found.place; holds = found.holds }

any-place : {X : Type 0} (p : X → Bool) (xs : List X) (d : X) → list_any p xs ≡ true → AnyPlace p xs d
any-place p [] d h = absurd (cc)
any-place p (x ∷ xs) d h = any-cons p x xs d (p x) refl h (any-place p xs d)

-- a node of a tree, by its path
record AnyNode (test : NodeKind → Bool) (tree : List (Path × NodeKind)) : Type 0 where
  path : Path
  found : NodeKind
  there : value_at path_cmp path tree ≡ Some found
  holds : test found ≡ true

t-first : (a b : Bool) → T (a && b) → T a
t-first true b h = tt
t-first false b h = absurd h

t-second : (a b : Bool) → T (a && b) → T b
t-second true b h = h
t-second false b h = absurd h

not-equal : (o : Ordering) → T (is_lt o) → is_eq o ≡ false
not-equal Less p = refl
not-equal Equal p = absurd p
not-equal Greater p = absurd p

is-equal : (o : Ordering) → is_eq o ≡ true → o ≡ Equal
is-equal Less h = absurd (cc)
is-equal Equal h = refl
is-equal Greater h = absurd (cc)

below-none : (p : Path) (tree : List (Path × NodeKind)) → T (below_all path_cmp p tree) → value_at path_cmp p tree ≡ None
below-none p [] h = refl
below-none p (e ∷ tree) h =
    ap (λ b. cond b (Some e.1) (value_at path_cmp p tree)) (not-equal (path_cmp p e.0) (t-first _ (below_all path_cmp p tree) h))
    ∙ below-none p tree (t-second (is_lt (path_cmp p e.0)) _ h)

later-there : (e : Path × NodeKind) (q : Path) (found : NodeKind) (tree : List (Path × NodeKind)) → T (below_all path_cmp e.0 tree) →
    value_at path_cmp q tree ≡ Some found → (b : Bool) → eq_by_cmp path_cmp q e.0 ≡ b → value_at path_cmp q (e ∷ tree) ≡ Some found
later-there e q found tree h there true b =
    let same : q ≡ e.0 = path_cmp_exact q e.0 (is-equal (path_cmp q e.0) b) in
    let none : value_at path_cmp q tree ≡ None = ap (λ p. value_at path_cmp p tree) same ∙ below-none e.0 tree h in
    absurd (cc)
later-there e q found tree h there false b = ap (λ b. cond b (Some e.1) (value_at path_cmp q tree)) b ∙ there

first-there : (e : Path × NodeKind) (tree : List (Path × NodeKind)) → value_at path_cmp e.0 (e ∷ tree) ≡ Some e.1
first-there e tree = ap (λ o. cond (is_eq o) (Some e.1) (value_at path_cmp e.0 tree)) (tied_itself path_cmp_total e.0)

node-cons : (test : NodeKind → Bool) (e : Path × NodeKind) (tree : List (Path × NodeKind)) (b : Bool) → test e.1 ≡ b →
    T (is_sorted path_cmp (e ∷ tree)) → (b || list_any (λ e. test e.1) tree) ≡ true →
    (list_any (λ e. test e.1) tree ≡ true → AnyNode test tree) → AnyNode test (e ∷ tree)
node-cons test e tree true k sorted h later = record { path = e.0; found = e.1; there = first-there e tree; holds = k }
node-cons test e tree false k sorted h later =
    let one = later h in
    record {
      path = one.path;
      found = one.found;
      there = later-there e one.path one.found tree (t-first _ (is_sorted path_cmp tree) sorted) one.there (eq_by_cmp path_cmp one.path e.0) refl;
      holds = one.holds;
    }

any-node : (test : NodeKind → Bool) (tree : List (Path × NodeKind)) → T (is_sorted path_cmp tree) → list_any (λ e. test e.1) tree ≡ true → AnyNode test tree
any-node test [] sorted h = absurd (cc)
any-node test (e ∷ tree) sorted h =
    node-cons test e tree (test e.1) refl sorted h (any-node test tree (t-second (below_all path_cmp e.0 tree) _ sorted))

some-live : (found : Option LiveFile) (P : LiveFile → Type 0) → IsSomeAnd found P → is_some found ≡ true
some-live None P h = absurd h
some-live (Some life) P h = refl

live-row : (n : Namespace) (row : ℕ) (id : FileId) (kind : Kind) (number : ℕ) → id.row ≡ row → IsLive n id kind number → is_some (life_at n row) ≡ true
live-row n row id kind number e live =
    ap (λ r. is_some (life_at n r)) (sym e) ∙ some-live (life_at n id.row) (λ life. (life.kind ≡ kind) × (life.mount ≡ number)) live.life

linked-node : (w : WorldState) (row number : ℕ) (path : Path) (found : NodeKind) → IsConsistent w →
    value_at path_cmp path (tree_of w.namespace number) ≡ Some found → is_file_of_row row found ≡ true → is_some (life_at w.namespace row) ≡ true
linked-node w row number path node.Dir c there h = absurd (cc)
linked-node w row number path (node.File id kind) c there h =
    live-row w.namespace row id kind number (same-number id.row row h) (c.references_live.linked number path id kind there)

linked-lives : (w : WorldState) (row : ℕ) → IsConsistent w → is_linked w.namespace row ≡ true → is_some (life_at w.namespace row) ≡ true
linked-lives w row c h =
    let tree = any-place (has_row row) w.namespace.trees [] h in
    let there = any-node (is_file_of_row row) (tree_of w.namespace tree.place) (c.trees_closed tree.place).sorted tree.holds in
    linked-node w row tree.place there.path there.found c there.there there.holds

held-reference : (w : WorldState) (row place : ℕ) (found : Option Reference) → IsConsistent w →
    slice_index_or w.namespace.references place None ≡ found → refers_to row found ≡ true → is_some (life_at w.namespace row) ≡ true
held-reference w row place None c e h = absurd (cc)
held-reference w row place (Some reference) c e h =
    live-row w.namespace row reference.file reference.kind reference.mount (same-number reference.file.row row h)
    (c.references_live.held place reference e).0

held-lives : (w : WorldState) (row : ℕ) → IsConsistent w → is_held w.namespace row ≡ true → is_some (life_at w.namespace row) ≡ true
held-lives w row c h =
    let found = any-place (refers_to row) w.namespace.references None h in
    held-reference w row found.place (slice_index_or w.namespace.references found.place None) c refl found.holds

either-lives : (a b lives : Bool) → (a ≡ true → lives ≡ true) → (b ≡ true → lives ≡ true) → (lives ≡ true → (a || b) ≡ true) → lives ≡ (a || b)
either-lives true b lives h k l = h refl
either-lives false true lives h k l = k refl
either-lives false false true h k l = let named : false ≡ true = l refl in absurd (cc)
either-lives false false false h k l = refl

pub lives-while-named : (w : WorldState) (row : ℕ) → IsConsistent w → 0 < row →
    is_some (life_at w.namespace row) ≡ (is_linked w.namespace row || is_held w.namespace row)
lives-while-named w row c l =
    either-lives (is_linked w.namespace row) (is_held w.namespace row) (is_some (life_at w.namespace row))
    (linked-lives w row c) (held-lives w row c) (c.rows_used.used row l)
