-- What a point covers is apart from the paths of the mount that it stands on.
use Rattle.std.proofs.Common.{◌≡◌, ◌≢◌, ℕ, zero, suc, ◌+◌, ◌<◌, ◌≤◌, Bool, true, false, not, List, [], ◌∷◌, ◌++◌, length, drop, filter, slice_index_or, ◌⊎◌, inl, inr, refl, sym, ap, subst, ◌∙◌, arith, length-append, if◌then◌else◌}
use Rattle.std.proofs.lemmas.List.{append-nil}
use Rattle.vfs_base.specs.Path.{Path}
use Rattle.vfs_model.proofs.CoveringMounts.{IsOneOf, nearest-among, nearest-prefix}
use Rattle.vfs_model.proofs.Trees.{prefix-splits, same_path-itself}
use Rattle.vfs_model.specs.Consistency.{FoldersStand, covered_mount}
use Rattle.vfs_model.specs.Lookup.{covering_mount, is_prefix, rest_of}
use Rattle.vfs_model.specs.Namespace.{same_path}
use Rattle.vfs_model.specs.declared.namespace.Mount.{Mount}
use Rattle.vfs_model.specs.declared.namespace.Namespace.{Namespace}
use Rattle.world_laws.proofs.parts.Covering.{IsMount, any-default, covering-is, covers-longest, one-number, prefix-append-both, splits}
use Rattle.world_laws.proofs.lists.Lists.{true-or-false}

pub one-later : (x : Mount) (xs : List Mount) (found : Mount) → IsOneOf xs found → IsOneOf (x ∷ xs) found
one-later x xs found (place, l, h) = (suc place, omega (arith, l), h)

pub first-or-later : (x : Mount) (xs : List Mount) (found : Mount) → IsOneOf (x ∷ xs) found → (x ≡ found) ⊎ IsOneOf xs found
first-or-later x xs found (zero, l, h) = inl h
first-or-later x xs found (suc place, l, h) = inr (place, omega (arith, l), h)

kept-one : (test : Mount → Bool) (x : Mount) (xs : List Mount) (found : Mount) (b : Bool) → test x ≡ b → (IsOneOf (filter test xs) found → IsOneOf xs found × (test found ≡ true)) →
    IsOneOf (if b then x ∷ filter test xs else filter test xs) found → IsOneOf (x ∷ xs) found × (test found ≡ true)
kept-one test x xs found false e later h = (one-later x xs found (later h).0, (later h).1)
kept-one test x xs found true e later h = elim (first-or-later x (filter test xs) found h) [
  | inl same ↦ ((0, omega arith, same), sym (ap test same) ∙ e)
  | inr more ↦ (one-later x xs found (later more).0, (later more).1)
]

-- one that a filter keeps is one of the list, and passes
pub filter-one : (test : Mount → Bool) (xs : List Mount) (found : Mount) → IsOneOf (filter test xs) found → IsOneOf xs found × (test found ≡ true)
filter-one test [] found (place, l, h) = absurd (omega arith)
filter-one test (x ∷ xs) found h = kept-one test x xs found (test x) refl (filter-one test xs found) h

pub mount-at : (n : Namespace) (place : ℕ) (d : Mount) → place < length n.mounts → IsMount n (slice_index_or n.mounts place d)
mount-at n place d l = record { place = suc place; within = omega (arith, l); is = any-default n.mounts place (slice_index_or n.mounts place d) d l }

-- the mount that a point covers: another one, whose point is a proper prefix
pub record Covered (n : Namespace) (q : Path) : Type 0 where
  pub mount : IsMount n (covered_mount n q)
  pub prefix : is_prefix (covered_mount n q).point q ≡ true
  pub other : (covered_mount n q).point ≢ q

covered-one : (n : Namespace) (q : Path) (found : Mount) → FoldersStand n → q ≢ [] → IsOneOf (n.root ∷ filter (λ mount. not (same_path mount.point q)) n.mounts) found →
    IsMount n found × (found.point ≢ q)
covered-one n q found f h one = elim (first-or-later n.root _ found one) [
  | inl same ↦ (record { place = 0; within = omega arith; is = same }, λ e. h (sym e ∙ ap (λ m. m.point) (sym same) ∙ f.root.0))
  | inr more ↦
      let kept = filter-one (λ mount. not (same_path mount.point q)) n.mounts found more in
      let among = kept.0 in (
        record { place = suc among.0; within = let l = among.1 in omega (arith, l); is = among.2 },
        λ e. let no = kept.1 in let yes = ap (λ point. not (same_path point q)) e ∙ ap not (same_path-itself q) in absurd (cc),
      )
]

-- a point is not `/`
pub point-not-root : (n : Namespace) (place : ℕ) (d : Mount) → FoldersStand n → place < length n.mounts → (slice_index_or n.mounts place d).point ≢ []
point-not-root n place d f l e =
    let same : suc place ≡ 0 = f.points_differ (suc place) 0 d (omega (arith, l)) (omega arith) (e ∙ sym f.root.0) in
    absurd (omega (arith, same))

pub point-covers : (n : Namespace) (place : ℕ) (d : Mount) → FoldersStand n → place < length n.mounts → Covered n (slice_index_or n.mounts place d).point
point-covers n place d f l =
    let q = (slice_index_or n.mounts place d).point in
    let one = covered-one n q (covered_mount n q) f (point-not-root n place d f l) (nearest-among q n.root (filter (λ mount. not (same_path mount.point q)) n.mounts)) in
    record {
      mount = one.0;
      prefix = nearest-prefix q n.root (filter (λ mount. not (same_path mount.point q)) n.mounts) (ap (λ point. is_prefix point q) f.root.0);
      other = one.1;
    }

-- no path of the mount on which a point stands is the point or lies below it
point-not-above : (n : Namespace) (place : ℕ) (d : Mount) (p : Path) → FoldersStand n → place < length n.mounts →
    (covering_mount n p).number ≡ (covered_mount n (slice_index_or n.mounts place d).point).number →
    is_prefix (drop (length (covered_mount n (slice_index_or n.mounts place d).point).point) (slice_index_or n.mounts place d).point) (rest_of n p) ≡ true → Unit {0} → ⊥
point-not-above n place d p f l e h u =
    let q = (slice_index_or n.mounts place d).point in
    let cm = covered_mount n q in
    let c = point-covers n place d f l in
    let same : covering_mount n p ≡ cm = one-number n (covering_mount n p) cm f (covering-is n p f) c.mount e in
    let whole : q ≡ cm.point ++ drop (length cm.point) q = prefix-splits cm.point q c.prefix in
    let path : p ≡ cm.point ++ rest_of n p = splits n p f ∙ ap (λ m. m.point ++ rest_of n p) same in
    let under : is_prefix q p ≡ true =
    subst (λ x. is_prefix q x ≡ true) (sym path) (subst (λ x. is_prefix x (cm.point ++ rest_of n p) ≡ true) (sym whole) (prefix-append-both cm.point _ (rest_of n p) h)) in
    let longest : length q ≤ length (covering_mount n p).point = covers-longest n p (slice_index_or n.mounts place d) f (mount-at n place d l) under in
    let short : length (covering_mount n p).point ≡ length cm.point = ap (λ m. length m.point) same in
    let long : length q ≡ length cm.point + length (drop (length cm.point) q) = ap (λ x. length x) whole ∙ length-append cm.point _ in
    let empty : length (drop (length cm.point) q) ≡ 0 = omega (arith, longest, short, long) in
    c.other (sym (whole ∙ ap (λ x. cm.point ++ x) (no-names _ empty) ∙ append-nil cm.point))
  where
    no-names : (p : Path) → length p ≡ 0 → p ≡ []
    no-names [] h = refl
    no-names (name ∷ p) h = absurd (omega (arith, h))

pub point-apart : (n : Namespace) (place : ℕ) (d : Mount) (p : Path) → FoldersStand n → place < length n.mounts →
    (covering_mount n p).number ≡ (covered_mount n (slice_index_or n.mounts place d).point).number →
    is_prefix (drop (length (covered_mount n (slice_index_or n.mounts place d).point).point) (slice_index_or n.mounts place d).point) (rest_of n p) ≡ false
point-apart n place d p f l e = elim (true-or-false (is_prefix (drop (length (covered_mount n (slice_index_or n.mounts place d).point).point) (slice_index_or n.mounts place d).point) (rest_of n p))) [
  | inl h ↦ absurd (point-not-above n place d p f l e h tt)
  | inr h ↦ h
]
