-- A walk to a path meets folders down to the point of the path's mount, and then what the mount's tree has.
use Rattle.std.proofs.Common.{◌≡◌, ◌≢◌, ℕ, zero, suc, ◌+◌, ◌-◌, ◌<◌, ◌≤◌, ◌==◌, Bool, true, false, not, ◌||◌, Option, Some, None, is_some, List, [], ◌∷◌, ◌++◌, length, take, drop, filter, slice_index_or, ◌⊎◌, inl, inr, refl, sym, ap, subst, ◌∙◌, arith, length-append, append_assoc, if◌then◌else◌}
use Rattle.std.proofs.lemmas.Bool.Decides.{nat_tests}
use Rattle.std.proofs.lemmas.Bool.{cases_lt}
use Rattle.std.proofs.lemmas.List.{append-nil, length-drop, length-take-le, take-append-drop}
use Rattle.std.specs.FinMap.Entries.{find as value_at}
use Rattle.vfs_base.specs.Path.{Path, path_cmp}
use Rattle.vfs_base.specs.declared.errno.Errno.{Errno}
use Rattle.vfs_base.specs.declared.errno.Errno.TheVariants as errno
use Rattle.vfs_base.specs.declared.kinds.NodeKind.{NodeKind}
use Rattle.vfs_base.specs.declared.kinds.NodeKind.TheVariants as node
use Rattle.vfs_model.proofs.CoveringMounts.{IsOneOf, nearest-found, nearest-longest}
use Rattle.vfs_model.proofs.MountLaws.{prefixes-nest}
use Rattle.vfs_model.proofs.MovedLaws.{prefix-append}
use Rattle.vfs_model.proofs.Trees.{prefix-splits, same_path-other}
use Rattle.vfs_model.specs.Consistency.{FoldersStand, IsClosedTree, covered_mount}
use Rattle.vfs_model.specs.Lookup.{covering_mount, is_dir_node, is_folder, is_prefix, node_at, node_in, prefix_refusal, rest_of, walk_refusal, walk_refusal_from}
use Rattle.vfs_model.specs.Namespace.{Tree, all_mounts, same_path, tree_of}
use Rattle.vfs_model.specs.declared.namespace.Mount.{Mount}
use Rattle.vfs_model.specs.declared.namespace.Namespace.{Namespace}
use Rattle.world_laws.proofs.parts.Covering.{IsMount, covering-is, covers-longest, covers-prefix, drop-front, one-point, prefix-length, prefix-trans, same-prefix, splits}
use Rattle.world_laws.proofs.parts.Nodes.{at-front, at-rest, prefix-itself, tree_at}
use Rattle.world_laws.proofs.parts.Points.{Covered, first-or-later, one-later, point-covers}
use Rattle.path_lookup.specs.Reach.{Reaches, node_reached, refusal_reached}
use Rattle.path_lookup.specs.Standing.{IsStanding}

-- one of the list that passes is one of those that a filter keeps
kept-here : (test : Mount → Bool) (x : Mount) (xs : List Mount) (found : Mount) (b : Bool) → test x ≡ b → test found ≡ true → (x ≡ found) ⊎ IsOneOf (filter test xs) found →
    IsOneOf (if b then x ∷ filter test xs else filter test xs) found
kept-here test x xs found true e t (inl same) = (0, omega arith, same)
kept-here test x xs found true e t (inr later) = one-later x (filter test xs) found later
kept-here test x xs found false e t (inl same) = absurd (let yes : test x ≡ true = ap test same ∙ t in cc)
kept-here test x xs found false e t (inr later) = later

kept-one : (test : Mount → Bool) (xs : List Mount) (found : Mount) → test found ≡ true → IsOneOf xs found → IsOneOf (filter test xs) found
kept-one test [] found t (place, l, h) = absurd (omega arith)
kept-one test (x ∷ xs) found t one = kept-here test x xs found (test x) refl t (elim (first-or-later x xs found one) [
  | inl same ↦ inl same
  | inr later ↦ inr (kept-one test xs found t later)
])

-- of the mounts whose points are proper prefixes of a point none has a longer point than the one that the point covers
covered-longest : (n : Namespace) (q : Path) (m : Mount) → IsMount n m → is_prefix m.point q ≡ true → m.point ≢ q → length m.point ≤ length (covered_mount n q).point
covered-longest n q m i h other = later n q m i.place i.within i.is h other
  where
    later : (n : Namespace) (q : Path) (m : Mount) (place : ℕ) → place < length (all_mounts n) → slice_index_or (all_mounts n) place m ≡ m → is_prefix m.point q ≡ true → m.point ≢ q →
        length m.point ≤ length (covered_mount n q).point
    later n q m zero l e h other =
        subst (λ x. length x.point ≤ length (covered_mount n q).point) e (nearest-found q n.root (filter (λ mount. not (same_path mount.point q)) n.mounts))
    later n q m (suc place) l e h other =
        let kept = kept-one (λ mount. not (same_path mount.point q)) n.mounts m (ap not (same_path-other m.point q other)) (place, omega (arith, l), e) in
        subst (λ x. length x.point ≤ length (covered_mount n q).point) kept.2
        (nearest-longest q n.root (filter (λ mount. not (same_path mount.point q)) n.mounts) kept.0 m kept.1 (ap (λ x. is_prefix x.point q) kept.2 ∙ h))

module _ {n : Namespace} (f : FoldersStand n) where
  -- the mount that a point covers covers each proper prefix of the point that has its own point as a prefix
  covered-covers : (q p : Path) → Covered n q → is_prefix p q ≡ true → length p < length q → is_prefix (covered_mount n q).point p ≡ true → covering_mount n p ≡ covered_mount n q
  covered-covers q p c h less k =
      let own = covers-prefix n p f in
      let up : is_prefix (covering_mount n p).point q ≡ true = prefix-trans (covering_mount n p).point p q own h in
      let short : length (covering_mount n p).point ≤ length p = prefix-length (covering_mount n p).point p own in
      let other : (covering_mount n p).point ≢ q = λ e. absurd (let same : length (covering_mount n p).point ≡ length q = ap (λ x. length x) e in omega (arith, short, less, same)) in
      let most = covered-longest n q (covering_mount n p) (covering-is n p f) up other in
      let least = covers-longest n p (covered_mount n q) f c.mount k in
      one-point n (covering_mount n p) (covered_mount n q) f (covering-is n p f) c.mount
      (same-prefix (covering_mount n p).point (covered_mount n q).point q up c.prefix (omega (arith, most, least)))

-- in a closed tree, each proper prefix of a path where a node stands is a folder
module _ {tree : Tree} (closed : IsClosedTree is_dir_node tree) where
  in-dir : (front : Path) → (is_dir_node (value_at path_cmp front tree) || same_path front []) ≡ true → is_dir_node (node_in tree front) ≡ true
  in-dir [] h = refl
  in-dir (name ∷ names) h = elim (is_dir_node (value_at path_cmp (name ∷ names) tree)) as (λ b. (b || false) ≡ true → b ≡ true) [ true ↦ λ e. refl | false ↦ λ e. absurd (cc) ] h

  some-in : (front : Path) (name : List ℕ) → is_some (node_in tree (front ++ name ∷ [])) ≡ is_some (value_at path_cmp (front ++ name ∷ []) tree)
  some-in [] name = refl
  some-in (first ∷ front) name = refl

  parent-in : (front : Path) (name : List ℕ) → is_some (node_in tree (front ++ name ∷ [])) ≡ true → is_dir_node (node_in tree front) ≡ true
  parent-in front name h = in-dir front (closed.parents front name (sym (some-in front name) ∙ h))

  dir-there : (found : Option NodeKind) → is_dir_node found ≡ true → is_some found ≡ true
  dir-there None h = absurd (cc)
  dir-there (Some found) h = refl

  pub front-in : (front : Path) (name : List ℕ) (rest : Path) → is_some (node_in tree (front ++ name ∷ rest)) ≡ true → is_dir_node (node_in tree front) ≡ true
  front-in front name [] h = parent-in front name h
  front-in front name (next ∷ rest) h =
      parent-in front name (dir-there (node_in tree (front ++ name ∷ [])) (front-in (front ++ name ∷ []) next rest (subst (λ p. is_some (node_in tree p) ≡ true) (sym (append_assoc front (name ∷ []) (next ∷ rest))) h)))

-- a path is as long as its front and its rest
length-split : (front : Path) (name : List ℕ) (rest : Path) → length (front ++ name ∷ rest) ≡ length front + suc (length rest)
length-split front name rest = length-append front (name ∷ rest)

drop-split : (front middle rest : Path) → drop (length front) ((front ++ middle) ++ rest) ≡ middle ++ rest
drop-split front middle rest = ap (drop (length front)) (append_assoc front middle rest) ∙ drop-front front (middle ++ rest)

-- what a longer path has behind its front
record Longer (front p : Path) : Type 0 where
  name : List ℕ
  rest : Path
  is : p ≡ front ++ name ∷ rest

longer : (front p : Path) → is_prefix front p ≡ true → length front < length p → Longer front p
longer front p h l = behind (drop (length front) p) (prefix-splits front p h) l
  where
    behind : (rest : Path) → p ≡ front ++ rest → length front < length p → Longer front p
    behind [] e l = absurd (let whole : length p ≡ length front = ap (λ x. length x) (e ∙ append-nil front) in omega (arith, whole, l))
    behind (name ∷ rest) e l = record { name = name; rest = rest; is = e }

length-more : (p front : Path) (name : List ℕ) (rest : Path) → p ≡ front ++ name ∷ rest → length front < length p
length-more p front name rest e = let whole : length p ≡ length front + suc (length rest) = ap (λ x. length x) e ∙ length-append front (name ∷ rest) in omega (arith, whole)

front-prefix : (p front : Path) (name : List ℕ) (rest : Path) → p ≡ front ++ name ∷ rest → is_prefix front p ≡ true
front-prefix p front name rest e = subst (λ x. is_prefix front x ≡ true) (sym e) (prefix-append front (name ∷ rest))

module _ {n : Namespace} (s : IsStanding n) where
  -- above the point of the covered mount: the point's own rest in that mount has the path's
  in-covered : (place : ℕ) (d : Mount) (q : Path) (name : List ℕ) (rest : Path) → place < length n.mounts → (slice_index_or n.mounts place d).point ≡ q ++ name ∷ rest →
      is_prefix (covered_mount n (slice_index_or n.mounts place d).point).point q ≡ true → is_folder n q ≡ true
  in-covered place d q name rest l e k =
      let point = (slice_index_or n.mounts place d).point in
      let cv = point-covers n place d s.folders l in
      let c = covered_mount n point in
      let cover : covering_mount n q ≡ c = covered-covers s.folders point q cv (front-prefix point q name rest e) (length-more point q name rest e) k in
      let mid = drop (length c.point) q in
      let below : drop (length c.point) point ≡ mid ++ name ∷ rest =
      ap (drop (length c.point)) (e ∙ ap (λ x. x ++ name ∷ rest) (prefix-splits c.point q k)) ∙ drop-split c.point mid (name ∷ rest) in
      let there : is_some (node_in (tree_of n c.number) (mid ++ name ∷ rest)) ≡ true =
      ap is_some (ap (node_in (tree_of n c.number)) (sym below) ∙ (s.folders.points place d l).0) in
      ap is_dir_node (at-rest n q ∙ ap (λ m. node_in (tree_of n m.number) (drop (length m.point) q)) cover)
      ∙ front-in (s.closed c.number) mid name rest there

  shorter : (place : ℕ) (d : Mount) → place < length n.mounts →
      length (covered_mount n (slice_index_or n.mounts place d).point).point < length (slice_index_or n.mounts place d).point
  shorter place d l =
      let point = (slice_index_or n.mounts place d).point in
      let cv = point-covers n place d s.folders l in
      let c = covered_mount n point in
      let most : length c.point ≤ length point = prefix-length c.point point cv.prefix in
      elim (cases_lt (length c.point) (length point)) [
        | inl less ↦ less
        | inr more ↦ absurd (cv.other (same-prefix c.point point point cv.prefix (prefix-itself point) (omega (arith, most, more))))
      ]

  -- a mount is that of `/`, whose point has no names, or stands among the others
  later-mount : {X : Type 0} {m : Mount} → IsMount n m → (length m.point ≡ 0 → X) → ((place : ℕ) → place < length n.mounts → slice_index_or n.mounts place m ≡ m → X) → X
  later-mount {X} {m} i first later = at i.place i.within i.is
    where
      at : (at : ℕ) → at < length (all_mounts n) → slice_index_or (all_mounts n) at m ≡ m → X
      at zero w e = first (ap (λ x. length x.point) (sym e) ∙ ap (λ p. length p) s.folders.root.0)
      at (suc place) w e = later place (omega (arith, w)) e

  -- each proper prefix of a point is a folder
  point-fronts : (bound place : ℕ) (d : Mount) (q : Path) (name : List ℕ) (rest : Path) → place < length n.mounts → (slice_index_or n.mounts place d).point ≡ q ++ name ∷ rest →
      length (slice_index_or n.mounts place d).point ≤ bound → is_folder n q ≡ true
  point-fronts zero place d q name rest l e b = absurd (let more = length-more (slice_index_or n.mounts place d).point q name rest e in omega (arith, more, b))
  point-fronts (suc bound) place d q name rest l e b =
      let point = (slice_index_or n.mounts place d).point in
      let cv = point-covers n place d s.folders l in
      let c = covered_mount n point in
      let qp = front-prefix point q name rest e in
      elim (cases_lt (length q) (length c.point)) [
        | inr more ↦ in-covered place d q name rest l e (prefixes-nest c.point q point cv.prefix qp more)
        | inl less ↦
            let up = longer q c.point (prefixes-nest q c.point point qp cv.prefix (omega (arith, less))) less in
            let short = shorter place d l in
            later-mount cv.mount (λ none. absurd (omega (arith, none, less)))
            (λ at w i. point-fronts bound at c q up.name up.rest w (ap (λ x. x.point) i ∙ up.is) (subst (λ x. length x.point ≤ bound) (sym i) (omega (arith, short, b))))
      ]

  -- the same of each mount
  pub mount-fronts : {m : Mount} → IsMount n m → (q : Path) (name : List ℕ) (rest : Path) → m.point ≡ q ++ name ∷ rest → is_folder n q ≡ true
  mount-fronts {m} i q name rest e =
      let more = length-more m.point q name rest e in
      later-mount i (λ none. absurd (omega (arith, none, more)))
      (λ place w same. point-fronts (length (slice_index_or n.mounts place m).point) place m q name rest w (ap (λ x. x.point) same ∙ e) (omega arith))

-- a walk goes on behind folders
passes : (found : Option NodeKind) (later : Option Errno) → is_dir_node found ≡ true → prefix_refusal found later ≡ later
passes None later h = absurd (cc)
passes (Some node.Dir) later h = refl
passes (Some (node.File id kind)) later h = absurd (cc)

walk-through : (n : Namespace) (front names rest : Path) → ((a : Path) (name : List ℕ) (b : Path) → names ≡ a ++ name ∷ b → is_folder n (front ++ a) ≡ true) →
    walk_refusal_from n front (names ++ rest) ≡ walk_refusal_from n (front ++ names) rest
walk-through n front [] rest h = ap (λ p. walk_refusal_from n p rest) (sym (append-nil front))
walk-through n front (first ∷ names) rest h =
    passes (node_at n front) (walk_refusal_from n (front ++ first ∷ []) (names ++ rest)) (subst (λ p. is_folder n p ≡ true) (append-nil front) (h [] first names refl))
    ∙ walk-through n (front ++ first ∷ []) names rest
    (λ a name b e. subst (λ p. is_folder n p ≡ true) (sym (append_assoc front (first ∷ []) a)) (h (first ∷ a) name b (ap (λ r. first ∷ r) e)))
    ∙ ap (λ p. walk_refusal_from n p rest) (append_assoc front (first ∷ []) names)

-- what a walk meets at the node that it has come to, behind which nothing stands
walk-end : (n : Namespace) (front left : Path) (found : NodeKind) → node_at n front ≡ Some found →
    ((name : List ℕ) (rest : Path) → left ≡ name ∷ rest → node_at n (front ++ name ∷ []) ≡ None) → walk_refusal_from n front left ≡ refusal_reached (length left) found
walk-end n front [] node.Dir h ends = refl
walk-end n front [] (node.File id kind) h ends = refl
walk-end n front (name ∷ left) (node.File id kind) h ends =
    let some : (suc (length left) == 0) ≡ false = grind (arith, nat_tests) in
    ap (λ found. prefix_refusal found (walk_refusal_from n (front ++ name ∷ []) left)) h ∙ sym (ap (λ b. if b then None else Some errno.ENOTDIR) some)
walk-end n front (name ∷ []) node.Dir h ends = ap (λ found. prefix_refusal found None) h
walk-end n front (name ∷ next ∷ left) node.Dir h ends =
    let some : (suc (suc (length left)) == 0) ≡ false = grind (arith, nat_tests) in
    let more : (suc (suc (length left)) == 1) ≡ false = grind (arith, nat_tests) in
    ap (λ found. prefix_refusal found (walk_refusal_from n (front ++ name ∷ []) (next ∷ left))) h
    ∙ ap (λ found. prefix_refusal found (walk_refusal_from n ((front ++ name ∷ []) ++ next ∷ []) left)) (ends name (next ∷ left) refl)
    ∙ sym (ap (λ b. if b then None else if suc (suc (length left)) == 1 then None else Some errno.ENOENT) some ∙ ap (λ b. if b then None else Some errno.ENOENT) more)

take-front : (a : Path) (name : List ℕ) (rest : Path) → take (length a + 1) (a ++ name ∷ rest) ≡ a ++ name ∷ []
take-front [] name rest = refl
take-front (first ∷ a) name rest =
    let more : suc (length a) + 1 ≡ suc (length a + 1) = omega arith in
    ap (λ k. take k (first ∷ a ++ name ∷ rest)) more ∙ ap (λ r. first ∷ r) (take-front a name rest)

-- behind an absent path nothing stands
none-behind : {tree : Tree} (closed : IsClosedTree is_dir_node tree) (front : Path) (name : List ℕ) (rest : Path) → node_in tree (front ++ name ∷ []) ≡ None → node_in tree (front ++ name ∷ rest) ≡ None
none-behind {tree} closed front name [] h = h
none-behind {tree} closed front name (next ∷ rest) h =
    elim (node_in tree (front ++ name ∷ next ∷ rest)) as (λ o. node_in tree (front ++ name ∷ next ∷ rest) ≡ o → o ≡ None) [
      | None ↦ λ e. refl
      | Some there ↦ λ e.
          let dir : is_dir_node (node_in tree (front ++ name ∷ [])) ≡ true =
          front-in closed (front ++ name ∷ []) next rest (ap is_some (ap (node_in tree) (append_assoc front (name ∷ []) (next ∷ rest)) ∙ e)) in
          absurd (let no : is_dir_node (node_in tree (front ++ name ∷ [])) ≡ false = ap is_dir_node h in cc)
    ] refl

-- a path whose rest leads so far in the tree of its mount: down to the node that is reached, and what is left
pub record Parts (n : Namespace) (p a left : Path) (found : NodeKind) : Type 0 where
  pub rest : rest_of n p ≡ a ++ left
  pub node : node_in (tree_at n p) a ≡ Some found
  pub ends : (name : List ℕ) (later : Path) → left ≡ name ∷ later → node_in (tree_at n p) (a ++ name ∷ []) ≡ None

module _ {n : Namespace} (s : IsStanding n) (p a left : Path) (found : NodeKind) (parts : Parts n p a left found) where
  fronts : (q : Path) (name : List ℕ) (b : Path) → (covering_mount n p).point ++ a ≡ q ++ name ∷ b → is_folder n q ≡ true
  fronts q name b e = elim (cases_lt (length q) (length (covering_mount n p).point)) [
    | inl less ↦
        let up = longer q (covering_mount n p).point (prefixes-nest q (covering_mount n p).point ((covering_mount n p).point ++ a) (front-prefix _ q name b e) (prefix-append (covering_mount n p).point a) (omega (arith, less))) less in
        mount-fronts s (covering-is n p s.folders) q up.name up.rest up.is
    | inr more ↦
        let point = (covering_mount n p).point in
        let k = prefixes-nest point q (point ++ a) (prefix-append point a) (front-prefix _ q name b e) more in
        let mid = drop (length point) q in
        let split : q ≡ point ++ mid = prefix-splits point q k in
        let inner : a ≡ mid ++ name ∷ b = sym (drop-front point a) ∙ ap (drop (length point)) (e ∙ ap (λ x. x ++ name ∷ b) split) ∙ drop-split point mid (name ∷ b) in
        let tail : Path = (name ∷ b) ++ left in
        let rest : rest_of n p ≡ mid ++ tail = parts.rest ∙ ap (λ x. x ++ left) inner ∙ append_assoc mid (name ∷ b) left in
        ap is_dir_node (ap (node_at n) split ∙ at-front n p mid tail s.folders rest)
        ∙ front-in (s.closed (covering_mount n p).number) mid name b (ap is_some (ap (node_in (tree_at n p)) (sym inner) ∙ parts.node))
  ]

  pub walk-parts : walk_refusal n p ≡ refusal_reached (length left) found
  unfolding walk_refusal
  walk-parts =
      let point = (covering_mount n p).point in
      let whole : p ≡ (point ++ a) ++ left = splits n p s.folders ∙ ap (λ r. point ++ r) parts.rest ∙ sym (append_assoc point a left) in
      let node : node_at n (point ++ a) ≡ Some found = at-front n p a left s.folders parts.rest ∙ parts.node in
      ap (walk_refusal_from n []) whole ∙ walk-through n [] (point ++ a) left (λ q name b e. fronts q name b e)
      ∙ walk-end n (point ++ a) left found node
      (λ name later e.
      let rest : rest_of n p ≡ (a ++ name ∷ []) ++ later = parts.rest ∙ ap (λ x. a ++ x) e ∙ sym (append_assoc a (name ∷ []) later) in
      ap (node_at n) (append_assoc point a (name ∷ [])) ∙ at-front n p (a ++ name ∷ []) later s.folders rest ∙ parts.ends name later e)

  pub node-parts : node_at n p ≡ node_reached (length left) found
  node-parts = at-rest n p ∙ ap (node_in (tree_at n p)) parts.rest ∙ at left refl
    where
      at : (rest : Path) → left ≡ rest → node_in (tree_at n p) (a ++ rest) ≡ node_reached (length rest) found
      at [] e = ap (node_in (tree_at n p)) (append-nil a) ∙ parts.node
      at (name ∷ later) e =
          let some : (suc (length later) == 0) ≡ false = grind (arith, nat_tests) in
          none-behind (s.closed (covering_mount n p).number) a name later (parts.ends name later e)
          ∙ sym (ap (λ b. if b then Some found else None) some)

-- how far a path leads tells what a walk meets
module _ {n : Namespace} (s : IsStanding n) (p : Path) (count : ℕ) (found : NodeKind) (r : Reaches (tree_at n p) (rest_of n p) count found) where
  parts : Parts n p (take count (rest_of n p)) (drop count (rest_of n p)) found
  parts = record {
    rest = sym (take-append-drop count (rest_of n p));
    node = r.node;
    ends = λ name later e.
        let a = take count (rest_of n p) in
        let size : length a ≡ count = length-take-le count (rest_of n p) r.within in
        let whole : rest_of n p ≡ a ++ name ∷ later = sym (take-append-drop count (rest_of n p)) ∙ ap (λ x. a ++ x) e in
        let less : count < length (rest_of n p) = subst (λ k. k < length (rest_of n p)) size (length-more (rest_of n p) a name later whole) in
        ap (node_in (tree_at n p)) (sym (take-front a name later) ∙ ap (λ k. take (k + 1) (a ++ name ∷ later)) size ∙ ap (take (count + 1)) (sym whole)) ∙ r.ends less;
  }

  pub walk-reached : walk_refusal n p ≡ refusal_reached (length (rest_of n p) - count) found
  walk-reached = walk-parts s p _ _ found parts ∙ ap (λ left. refusal_reached left found) (length-drop count (rest_of n p))

  pub node-is-reached : node_at n p ≡ node_reached (length (rest_of n p) - count) found
  node-is-reached = node-parts s p _ _ found parts ∙ ap (λ left. node_reached left found) (length-drop count (rest_of n p))
