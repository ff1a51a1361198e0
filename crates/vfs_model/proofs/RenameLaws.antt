-- What a rename within a mount changes.
use Rattle.std.proofs.Common.{◌≡◌, ◌≢◌, ℕ, zero, suc, ◌<◌, ◌≤◌, Bool, true, false, ◌&&◌, nat_eq, nat_lt, None, List, [], ◌∷◌, ◌++◌, inl, inr, length, take, drop, if◌then◌else◌, refl, sym, ap, ◌∙◌, arith}
use Rattle.std.proofs.lemmas.Bool.Decides.{nat_tests}
use Rattle.std.proofs.lemmas.List.{append_cancel_left, append-nil}
use Rattle.std.specs.Cmp.Lexicographic.{pointwise, pointwise_decides, bytes_decides}
use Rattle.std.specs.FinMap.Entries.{find as value_at, is_sorted}
use Rattle.std.specs.List.{list_any}
use Rattle.vfs_base.specs.Path.{Path, path_cmp}
use Rattle.vfs_model.proofs.MountLaws.{covering-fails, prefix-is}
use Rattle.vfs_model.proofs.MovedLaws.{moved-at, moved-away, moved-beside, neither, prefix-append}
use Rattle.vfs_model.proofs.NodeLaws.{covered, other_mount, own_mount, own_node, same_or_other}
use Rattle.vfs_model.proofs.Trees.{prefix-splits}
use Rattle.vfs_model.specs.Laws.{MountsApart}
use Rattle.vfs_model.specs.Lookup.{covering_mount, has_nodes, is_below, is_prefix, nearest, node_at, node_in, rest_of}
use Rattle.vfs_model.specs.Namespace.{Tree, all_mounts, same_path, tree_of}
use Rattle.vfs_model.specs.RenameStep.{moved, with_moved}
use Rattle.vfs_model.specs.declared.namespace.Mount.{Mount}
use Rattle.vfs_model.specs.declared.namespace.Namespace.{Namespace}

take-front : (count : ℕ) (front rest : Path) → count ≤ length front → take count (front ++ rest) ≡ take count front
take-front zero front rest h = refl
take-front (suc count) [] rest h = absurd (omega arith)
take-front (suc count) (x ∷ front) rest h = ap (λ xs. x ∷ xs) (take-front count front rest (omega arith))

-- a longer prefix of `front ++ rest` begins with the front
front-of-longer : (front rest point : Path) → is_prefix point (front ++ rest) ≡ true → length front ≤ length point → is_prefix front point ≡ true
front-of-longer front rest point h l =
    (pointwise_decides bytes_decides front (take (length front) point)).1
    (sym (same_front (length front) (length point) front rest refl l) ∙ ap (take (length front)) (sym (prefix-is point (front ++ rest) h)))
  where
    same_front : (a b : ℕ) (front rest : Path) → a ≡ length front → a ≤ b → take a (take b (front ++ rest)) ≡ front
    same_front zero b [] rest e l = refl
    same_front zero b (x ∷ front) rest e l = absurd (omega arith)
    same_front (suc a) b [] rest e l = absurd (omega arith)
    same_front (suc a) zero (x ∷ front) rest e l = absurd (omega arith)
    same_front (suc a) (suc b) (x ∷ front) rest e l = ap (λ xs. x ∷ xs) (same_front a b front rest (omega arith) (omega arith))

-- a point that does not begin with the front is a prefix of the front and of what lies below it alike
same-prefix : (front rest point : Path) → is_prefix front point ≡ false → is_prefix point (front ++ rest) ≡ is_prefix point front
same-prefix front rest point h = elim (nat_lt (length front) (length point)) as (λ r. nat_lt (length front) (length point) ≡ r → is_prefix point (front ++ rest) ≡ is_prefix point front) [
  | true ↦ λ e. both-false (is_prefix point (front ++ rest)) (is_prefix point front)
      (λ t. clash (front-of-longer front rest point t (grind (arith, nat_tests))))
      (λ t. clash (front-of-longer front [] point (ap (is_prefix point) (append-nil front) ∙ t) (grind (arith, nat_tests))))
  | false ↦ λ e. ap (λ p. is_prefix_of p) (take-front (length point) front rest (grind (arith, nat_tests)))
] refl
  where
    clash : is_prefix front point ≡ true → ⊥
    clash t = absurd (cc)

    both-false : (a b : Bool) → (a ≡ true → ⊥) → (b ≡ true → ⊥) → a ≡ b
    both-false true b p q = absurd (p refl)
    both-false false true p q = absurd (q refl)
    both-false false false p q = refl

    is_prefix_of : Path → Bool
    is_prefix_of p = same_path point p

-- where no mount's point begins with the front, one mount covers it and what lies below it
nearest-below : (front rest : Path) (mounts : List Mount) (found : Mount) → list_any (λ mount. is_prefix front mount.point) mounts ≡ false →
    nearest (front ++ rest) found mounts ≡ nearest front found mounts
nearest-below front rest [] found h = refl
nearest-below front rest (mount ∷ mounts) found h =
    let both = neither _ _ h in
    ap (λ b. nearest (front ++ rest) (if b && nat_lt (length found.point) (length mount.point) then mount else found) mounts) (same-prefix front rest mount.point both.0)
    ∙ nearest-below front rest mounts (if is_prefix mount.point front && nat_lt (length found.point) (length mount.point) then mount else found) both.1

pub covering-below : (n : Namespace) (front rest : Path) → list_any (λ mount. is_prefix front mount.point) (all_mounts n) ≡ false →
    covering_mount n (front ++ rest) ≡ covering_mount n front
unfolding covering_mount
covering-below n front rest h = nearest-below front rest n.mounts n.root (neither _ _ h).1

append-assoc : (a b c : Path) → (a ++ b) ++ c ≡ a ++ (b ++ c)
append-assoc [] b c = refl
append-assoc (x ∷ a) b c = ap (λ xs. x ∷ xs) (append-assoc a b c)

-- the rest of what lies below a path is the path's rest and more
pub rest-below : (n : Namespace) (front rest : Path) → MountsApart n → list_any (λ mount. is_prefix front mount.point) (all_mounts n) ≡ false →
    rest_of n (front ++ rest) ≡ rest_of n front ++ rest
rest-below n front rest apart h =
    append_cancel_left (covering_mount n front).point (rest_of n (front ++ rest)) (rest_of n front ++ rest) (
    ap (λ m. m.point ++ rest_of n (front ++ rest)) (sym (covering-below n front rest h))
    ∙ sym (covered n (front ++ rest) apart.root)
    ∙ ap (λ p. p ++ rest) (covered n front apart.root)
    ∙ append-assoc (covering_mount n front).point (rest_of n front) rest
    )

same_bytes-itself : (x : List ℕ) → pointwise nat_eq x x ≡ true
same_bytes-itself x = (bytes_decides x x).1 refl

-- a common front decides nothing
prefix-cancel : (front a b : Path) → is_prefix (front ++ a) (front ++ b) ≡ is_prefix a b
prefix-cancel [] a b = refl
prefix-cancel (x ∷ front) a b = ap (λ t. t && is_prefix (front ++ a) (front ++ b)) (same_bytes-itself x) ∙ prefix-cancel front a b

-- a path that is no mount's point has a rest
has-rest : (n : Namespace) (path : Path) → MountsApart n → list_any (λ mount. is_prefix path mount.point) (all_mounts n) ≡ false → rest_of n path ≢ []
has-rest n path apart h e =
    let none : is_prefix path (covering_mount n path).point ≡ false = covering-fails (λ mount. is_prefix path mount.point) n path h in
    let same : path ++ [] ≡ (covering_mount n path).point = append-nil path ∙ covered n path apart.root ∙ ap (λ rest. (covering_mount n path).point ++ rest) e ∙ append-nil (covering_mount n path).point in
    let some : is_prefix path (covering_mount n path).point ≡ true = ap (is_prefix path) (sym same) ∙ prefix-append path [] in
    absurd (cc)

node_in-rest : (tree : Tree) (front rest : Path) → front ≢ [] → node_in tree (front ++ rest) ≡ value_at path_cmp (front ++ rest) tree
node_in-rest tree [] rest h = absurd (h refl)
node_in-rest tree (name ∷ front) rest h = refl

module _ (n : Namespace) (old new : Path) (apart : MountsApart n) (one : (covering_mount n old).number ≡ (covering_mount n new).number)
    (fits : (covering_mount n old).number < length n.trees) (sorted : is_sorted path_cmp (tree_of n (covering_mount n old).number) ≡ true)
    (plain : list_any (λ mount. is_prefix old mount.point) (all_mounts n) ≡ false) (clear : list_any (λ mount. is_prefix new mount.point) (all_mounts n) ≡ false)
    (empty : has_nodes n new ≡ false) where
  none-below : list_any (λ entry. is_below (rest_of n new) entry.0) (tree_of n (covering_mount n old).number) ≡ false
  none-below = ap (λ number. list_any (λ entry. is_below (rest_of n new) entry.0) (tree_of n number)) one ∙ empty

  number-at-new : (rest : Path) → (covering_mount n (new ++ rest)).number ≡ (covering_mount n old).number
  number-at-new rest = ap (λ m. m.number) (covering-below n new rest clear) ∙ sym one

  number-at-old : (rest : Path) → (covering_mount n (old ++ rest)).number ≡ (covering_mount n old).number
  number-at-old rest = ap (λ m. m.number) (covering-below n old rest plain)

  pub renamed-at : (rest : Path) → node_at (with_moved n old new) (new ++ rest) ≡ node_at n (old ++ rest)
  unfolding with_moved
  renamed-at rest =
      own_mount n (covering_mount n old).number _ (new ++ rest) fits (number-at-new rest)
      ∙ ap (node_in (moved (rest_of n old) (rest_of n new) (tree_of n (covering_mount n old).number))) (rest-below n new rest apart clear)
      ∙ node_in-rest (moved (rest_of n old) (rest_of n new) (tree_of n (covering_mount n old).number)) (rest_of n new) rest (has-rest n new apart clear)
      ∙ moved-at (rest_of n old) (rest_of n new) (tree_of n (covering_mount n old).number) rest sorted none-below
      ∙ sym (node_in-rest (tree_of n (covering_mount n old).number) (rest_of n old) rest (has-rest n old apart plain))
      ∙ sym (ap (node_in (tree_of n (covering_mount n old).number)) (rest-below n old rest apart plain))
      ∙ own_node n (covering_mount n old).number (old ++ rest) (number-at-old rest)

  -- in one mount, prefixes of paths are prefixes of their rests
  prefix-of-rest : (front path : Path) → (covering_mount n front).number ≡ (covering_mount n path).number → is_prefix front path ≡ is_prefix (rest_of n front) (rest_of n path)
  prefix-of-rest front path e =
      ap (λ p. is_prefix p path) (covered n front apart.root ∙ ap (λ point. point ++ rest_of n front) (apart.own front path e))
      ∙ ap (is_prefix ((covering_mount n path).point ++ rest_of n front)) (covered n path apart.root)
      ∙ prefix-cancel (covering_mount n path).point (rest_of n front) (rest_of n path)

  away : (rest : Path) → is_prefix new (old ++ rest) ≡ false → node_at (with_moved n old new) (old ++ rest) ≡ None
  unfolding with_moved
  away rest h =
      own_mount n (covering_mount n old).number _ (old ++ rest) fits (number-at-old rest)
      ∙ ap (node_in (moved (rest_of n old) (rest_of n new) (tree_of n (covering_mount n old).number))) (rest-below n old rest apart plain)
      ∙ node_in-rest (moved (rest_of n old) (rest_of n new) (tree_of n (covering_mount n old).number)) (rest_of n old) rest (has-rest n old apart plain)
      ∙ moved-away (rest_of n old) (rest_of n new) (tree_of n (covering_mount n old).number) (rest_of n old ++ rest)
      (ap (is_prefix (rest_of n new)) (sym (rest-below n old rest apart plain)) ∙ sym (prefix-of-rest new (old ++ rest) (sym one ∙ sym (number-at-old rest))) ∙ h)
      (prefix-append (rest_of n old) rest)

  pub renamed-away : (path : Path) → is_prefix new path ≡ false → is_prefix old path ≡ true → node_at (with_moved n old new) path ≡ None
  renamed-away path h k =
      ap (node_at (with_moved n old new)) (prefix-splits old path k)
      ∙ away (drop (length old) path) (ap (is_prefix new) (sym (prefix-splits old path k)) ∙ h)

  node_in-beside : (rest : Path) → is_prefix (rest_of n new) rest ≡ false → is_prefix (rest_of n old) rest ≡ false →
      node_in (moved (rest_of n old) (rest_of n new) (tree_of n (covering_mount n old).number)) rest ≡ node_in (tree_of n (covering_mount n old).number) rest
  node_in-beside [] h k = refl
  node_in-beside (name ∷ rest) h k = moved-beside (rest_of n old) (rest_of n new) (tree_of n (covering_mount n old).number) (name ∷ rest) h k

  pub renamed-beside : (path : Path) → is_prefix new path ≡ false → is_prefix old path ≡ false → node_at (with_moved n old new) path ≡ node_at n path
  unfolding with_moved
  renamed-beside path h k = elim (same_or_other (covering_mount n path).number (covering_mount n old).number) [
    | inl e ↦ own_mount n (covering_mount n old).number _ path fits e
        ∙ node_in-beside (rest_of n path) (sym (prefix-of-rest new path (sym one ∙ sym e)) ∙ h) (sym (prefix-of-rest old path (sym e)) ∙ k)
        ∙ own_node n (covering_mount n old).number path e
    | inr e ↦ other_mount n (covering_mount n old).number _ path e
  ]
