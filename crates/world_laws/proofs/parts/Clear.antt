-- Where nothing stands below a path, no point of a mount does.
use Rattle.std.proofs.Common.{◌≡◌, ◌≢◌, ℕ, zero, suc, ◌+◌, ◌<◌, ◌≤◌, Bool, true, false, not, ◌&&◌, Some, None, List, [], ◌∷◌, ◌++◌, length, drop, filter, slice_index_or, ◌⊎◌, inl, inr, refl, sym, ap, subst, ◌∙◌, arith, length-append, append_assoc, if◌then◌else◌}
use Rattle.std.proofs.lemmas.Bool.{lt-ltb}
use Rattle.std.proofs.lemmas.List.{append_cancel_left}
use Rattle.std.specs.FinMap.Entries.{find as value_at}
use Rattle.std.specs.List.{list_any}
use Rattle.std.specs.Prelude.{nat_lt}
use Rattle.vfs_base.specs.Path.{Path, path_cmp}
use Rattle.vfs_base.specs.declared.kinds.NodeKind.TheVariants as node
use Rattle.vfs_model.proofs.CoveringMounts.{IsOneOf, nearest-found, nearest-longest}
use Rattle.vfs_model.proofs.MountLaws.{prefixes-nest}
use Rattle.vfs_model.proofs.MovedLaws.{none-below, prefix-append}
use Rattle.vfs_model.proofs.Trees.{prefix-splits, same_path-itself, same_path-other}
use Rattle.vfs_model.specs.Consistency.{FoldersStand, covered_mount}
use Rattle.vfs_model.specs.Laws.{HasNoPoint}
use Rattle.vfs_model.specs.Lookup.{covering_mount, has_nodes, is_below, is_point, is_prefix, nearest, node_in, rest_of}
use Rattle.vfs_model.specs.Namespace.{all_mounts, same_path, tree_of}
use Rattle.vfs_model.specs.declared.namespace.Mount.{Mount}
use Rattle.vfs_model.specs.declared.namespace.Namespace.{Namespace}
use Rattle.world_laws.proofs.parts.Covering.{IsMount, covering-is, covers-longest, covers-prefix, one-point, prefix-length, prefix-trans, same-prefix, splits}
use Rattle.world_laws.proofs.lists.Lists.{AnyPlace, any-place, below-or-past, place-any, true-or-false}
use Rattle.world_laws.proofs.parts.Nodes.{tree_at, prefix-itself}
use Rattle.world_laws.proofs.parts.Points.{first-or-later, one-later, point-covers, point-not-root}
use Rattle.world_laws.proofs.parts.TreeParts.{at-node}

-- one that passes is kept by a filter
kept-has : (test : Mount → Bool) (x : Mount) (xs : List Mount) (found : Mount) (b : Bool) → test x ≡ b → test found ≡ true → (IsOneOf xs found → IsOneOf (filter test xs) found) →
    (x ≡ found) ⊎ IsOneOf xs found → IsOneOf (if b then x ∷ filter test xs else filter test xs) found
kept-has test x xs found true e h later (inl same) = (0, omega arith, same)
kept-has test x xs found false e h later (inl same) = let no = sym (ap test same) ∙ e in absurd (cc)
kept-has test x xs found true e h later (inr more) = one-later x (filter test xs) found (later more)
kept-has test x xs found false e h later (inr more) = later more

filter-has : (test : Mount → Bool) (xs : List Mount) (found : Mount) → test found ≡ true → IsOneOf xs found → IsOneOf (filter test xs) found
filter-has test [] found h (place, l, e) = absurd (omega arith)
filter-has test (x ∷ xs) found h one = kept-has test x xs found (test x) refl h (filter-has test xs found h) (first-or-later x xs found one)

one-longest : (q : Path) (root : Mount) (xs : List Mount) (found : Mount) → IsOneOf xs found → is_prefix found.point q ≡ true → length found.point ≤ length (nearest q root xs).point
one-longest q root xs found one h =
    subst (λ m. length m.point ≤ length (nearest q root xs).point) one.2
    (nearest-longest q root xs one.0 found one.1 (subst (λ m. is_prefix m.point q ≡ true) (sym one.2) h))

-- a mount whose point is a proper prefix of a path has a point no longer than that of the mount that the path covers
covered-longest : (n : Namespace) (q : Path) (m : Mount) → IsMount n m → is_prefix m.point q ≡ true → m.point ≢ q → length m.point ≤ length (covered_mount n q).point
covered-longest n q m x h other = at-place x.place x.within x.is
  where
    at-place : (place : ℕ) → place < length (all_mounts n) → slice_index_or (all_mounts n) place m ≡ m → length m.point ≤ length (covered_mount n q).point
    at-place zero l e =
        subst (λ r. length r.point ≤ length (covered_mount n q).point) e (nearest-found q n.root (filter (λ mount. not (same_path mount.point q)) n.mounts))
    at-place (suc place) l e =
        one-longest q n.root (filter (λ mount. not (same_path mount.point q)) n.mounts) m
        (filter-has (λ mount. not (same_path mount.point q)) n.mounts m (ap not (same_path-other m.point q other)) (place, omega (arith, l), e)) h

is-point-at : (n : Namespace) (place : ℕ) (d : Mount) → place < length (all_mounts n) → is_point n (slice_index_or (all_mounts n) place d).point ≡ true
is-point-at n place d l = place-any (λ mount. same_path mount.point (slice_index_or (all_mounts n) place d).point) (all_mounts n) place d l (same_path-itself (slice_index_or (all_mounts n) place d).point)

pub below-prefix : (a b : Path) → is_prefix a b ≡ true → length a < length b → is_below a b ≡ true
below-prefix a b h l = ap (λ x. x && nat_lt (length a) (length b)) h ∙ lt-ltb (length a) (length b) l

module _ (n : Namespace) (p : Path) (f : FoldersStand n) (unpointed : is_point n p ≡ false) (bare : has_nodes n p ≡ false) where
  not-point : (place : ℕ) (d : Mount) → place < length (all_mounts n) → (slice_index_or (all_mounts n) place d).point ≢ p
  not-point place d l e = let yes = is-point-at n place d l in let no = ap (is_point n) e ∙ unpointed in absurd (cc)

  -- the point that a mount stands on, in the mount that covers the path
  on-own-mount : (place : ℕ) (d : Mount) → place < length n.mounts → is_prefix p (slice_index_or n.mounts place d).point ≡ true →
      length (covered_mount n (slice_index_or n.mounts place d).point).point < length p → Unit {0} → ⊥
  on-own-mount place d l h shorter u =
      let q = (slice_index_or n.mounts place d).point in
      let cm = covered_mount n q in
      let m = covering_mount n p in
      let c = point-covers n place d f l in
      let x = covering-is n p f in
      let up : is_prefix m.point q ≡ true = prefix-trans m.point p q (covers-prefix n p f) h in
      let apart : p ≢ q = λ e. not-point (suc place) d (omega (arith, l)) (sym e) in
      let longer : length p ≤ length q = prefix-length p q h in
      let own : length m.point ≤ length p = prefix-length m.point p (covers-prefix n p f) in
      let other : m.point ≢ q = λ e. apart (same-prefix p q q h (prefix-itself q) (let same = ap (λ y. length y) e in omega (arith, longer, own, same))) in
      let most : length m.point ≤ length cm.point = covered-longest n q m x up other in
      let down : is_prefix cm.point p ≡ true = prefixes-nest cm.point p q c.prefix h (omega (arith, shorter)) in
      let least : length cm.point ≤ length m.point = covers-longest n p cm f c.mount down in
      let same : cm ≡ m = one-point n cm m f c.mount x (same-prefix cm.point m.point q c.prefix up (omega (arith, most, least))) in
      let r : Path = drop (length cm.point) q in
      let split : q ≡ m.point ++ r = prefix-splits cm.point q c.prefix ∙ ap (λ y. y.point ++ r) same in
      let whole : q ≡ m.point ++ (rest_of n p ++ drop (length p) q) =
      prefix-splits p q h ∙ ap (λ y. y ++ drop (length p) q) (splits n p f) ∙ append_assoc m.point (rest_of n p) (drop (length p) q) in
      let rests : r ≡ rest_of n p ++ drop (length p) q = append_cancel_left m.point r (rest_of n p ++ drop (length p) q) (sym split ∙ whole) in
      let under : is_prefix (rest_of n p) r ≡ true = subst (λ y. is_prefix (rest_of n p) y ≡ true) (sym rests) (prefix-append (rest_of n p) (drop (length p) q)) in
      let lengths : length q ≡ length m.point + length r = ap (λ y. length y) split ∙ length-append m.point r in
      let front : length p ≡ length m.point + length (rest_of n p) = ap (λ y. length y) (splits n p f) ∙ length-append m.point (rest_of n p) in
      let proper : length p ≢ length q = λ e. apart (same-prefix p q q h (prefix-itself q) e) in
      let below : is_below (rest_of n p) r ≡ true = below-prefix (rest_of n p) r under (omega (arith, lengths, front, proper, longer)) in
      let none : value_at path_cmp r (tree_at n p) ≡ None = none-below (rest_of n p) r (tree_at n p) bare below in
      let some : r ≢ [] = λ e. let zero-long = ap (λ y. length y) e in absurd (omega (arith, lengths, front, proper, longer, zero-long)) in
      let dir : node_in (tree_at n p) r ≡ Some node.Dir = sym (ap (λ y. node_in (tree_of n y.number) r) same) ∙ (f.points place d l).0 in
      let there : value_at path_cmp r (tree_at n p) ≡ Some node.Dir = sym (at-node (tree_at n p) r some) ∙ dir in
      absurd (cc)

  above : (count place : ℕ) (d : Mount) → place < length n.mounts → length (slice_index_or n.mounts place d).point ≤ suc count →
      is_prefix p (slice_index_or n.mounts place d).point ≡ true → length p ≤ length (covered_mount n (slice_index_or n.mounts place d).point).point →
      ((other : ℕ) (e : Mount) → other < length n.mounts → length (slice_index_or n.mounts other e).point ≤ count → is_prefix p (slice_index_or n.mounts other e).point ≡ true → Unit {0} → ⊥) →
      (at : ℕ) → at < length (all_mounts n) → slice_index_or (all_mounts n) at (covered_mount n (slice_index_or n.mounts place d).point) ≡ covered_mount n (slice_index_or n.mounts place d).point →
      Unit {0} → ⊥
  above count place d l small h longer later zero m e u =
      let cm = covered_mount n (slice_index_or n.mounts place d).point in
      let root : length cm.point ≡ 0 = ap (λ y. length y.point) (sym e) ∙ ap (λ y. length y) f.root.0 in
      let empty : p ≡ [] = no-names p (omega (arith, root, longer)) in
      not-point 0 d (omega arith) (f.root.0 ∙ sym empty)
    where
      no-names : (p : Path) → length p ≡ 0 → p ≡ []
      no-names [] h = refl
      no-names (name ∷ p) h = absurd (omega (arith, h))
  above count place d l small h longer later (suc at) m e u =
      let q = (slice_index_or n.mounts place d).point in
      let cm = covered_mount n q in
      let c = point-covers n place d f l in
      let shorter : length cm.point ≢ length q = λ x. c.other (same-prefix cm.point q q c.prefix (prefix-itself q) x) in
      let most : length cm.point ≤ length q = prefix-length cm.point q c.prefix in
      let here : slice_index_or n.mounts at cm ≡ cm = e in
      later at cm (omega (arith, m)) (subst (λ y. length y.point ≤ count) (sym here) (omega (arith, shorter, most, small)))
      (subst (λ y. is_prefix p y.point ≡ true) (sym here) (prefixes-nest p cm.point q h c.prefix longer)) tt

  -- no point lies at or below the path, the shorter ones first
  no-point-below : (count place : ℕ) (d : Mount) → place < length n.mounts → length (slice_index_or n.mounts place d).point ≤ count →
      is_prefix p (slice_index_or n.mounts place d).point ≡ true → Unit {0} → ⊥
  no-point-below zero place d l small h u =
      point-not-root n place d f l (no-names (slice_index_or n.mounts place d).point (omega (arith, small)))
    where
      no-names : (p : Path) → length p ≡ 0 → p ≡ []
      no-names [] h = refl
      no-names (name ∷ p) h = absurd (omega (arith, h))
  no-point-below (suc count) place d l small h u =
      let q = (slice_index_or n.mounts place d).point in
      let c = point-covers n place d f l in
      elim (below-or-past (length (covered_mount n q).point) (length p)) [
        | inl shorter ↦ on-own-mount place d l h shorter tt
        | inr longer ↦ above count place d l small h longer (no-point-below count) c.mount.place c.mount.within c.mount.is tt
      ]

  pub clear-of-points : HasNoPoint n p
  clear-of-points = elim (true-or-false (list_any (λ mount. is_prefix p mount.point) (all_mounts n))) [
    | inr h ↦ h
    | inl h ↦ absurd (somewhere (any-place (λ mount. is_prefix p mount.point) (all_mounts n) n.root h))
  ]
    where
      at : (place : ℕ) → place < length (all_mounts n) → is_prefix p (slice_index_or (all_mounts n) place n.root).point ≡ true → ⊥
      at zero l h =
          not-point 0 n.root (omega arith) (same-prefix n.root.point p n.root.point (prefix-itself n.root.point) h (let m = prefix-length p n.root.point h in let e = ap (λ y. length y) f.root.0 in omega (arith, m, e)))
      at (suc place) l h = no-point-below (length (slice_index_or n.mounts place n.root).point) place n.root (omega (arith, l)) (omega arith) h tt

      somewhere : AnyPlace (λ mount. is_prefix p mount.point) (all_mounts n) n.root → ⊥
      somewhere found = at found.place found.within found.holds
