-- What a mount that comes or goes changes.
use Rattle.std.proofs.Common.{◌≡◌, ◌≢◌, ℕ, zero, suc, ◌<◌, ◌≤◌, Bool, true, false, not, ◌==◌, ◌&&◌, nat_lt, List, [], ◌∷◌, ◌++◌, length, take, drop, filter, slice_index_or, slice_set, if◌then◌else◌, refl, sym, ap, ◌∙◌, arith}
use Rattle.std.proofs.lemmas.Bool.Decides.{nat_tests}
use Rattle.std.proofs.lemmas.List.{get_or-set_other, get_or-set_same}
use Rattle.std.specs.Cmp.Lexicographic.{pointwise_decides, bytes_decides}
use Rattle.std.specs.List.{list_any}
use Rattle.vfs_base.specs.Path.{Path}
use Rattle.vfs_model.proofs.CoveringMounts.{IsOneOf, nearer, nearest-among, nearest-prefix}
use Rattle.vfs_model.specs.Laws.{with_mount, without_mount}
use Rattle.vfs_model.specs.Lookup.{covering_mount, is_prefix, nearest, node_at, node_in, rest_of}
use Rattle.vfs_model.specs.Namespace.{Tree, all_mounts}
use Rattle.vfs_model.specs.declared.namespace.Mount.{Mount}
use Rattle.vfs_model.specs.declared.namespace.Namespace.{Namespace}

pub nearest-append : (path : Path) (found : Mount) (mounts : List Mount) (mount : Mount) → nearest path found (mounts ++ mount ∷ []) ≡ nearer path (nearest path found mounts) mount
nearest-append path found [] mount = refl
nearest-append path found (first ∷ mounts) mount = nearest-append path (nearer path found first) mounts mount

-- none of a list passes a test, so one of the list does not
one-fails : (test : Mount → Bool) (mounts : List Mount) (place : ℕ) (found : Mount) → list_any test mounts ≡ false → place < length mounts →
    slice_index_or mounts place found ≡ found → test found ≡ false
one-fails test [] place found h l e = absurd (omega arith)
one-fails test (mount ∷ mounts) zero found h l e = sym (ap test e) ∙ grind arith
one-fails test (mount ∷ mounts) (suc place) found h l e = one-fails test mounts place found (grind arith) (omega arith) e

pub covering-fails : (test : Mount → Bool) (n : Namespace) (path : Path) → list_any test (all_mounts n) ≡ false → test (covering_mount n path) ≡ false
unfolding covering_mount
covering-fails test n path h =
    let one : IsOneOf (n.root ∷ n.mounts) (nearest path n.root n.mounts) = nearest-among path n.root n.mounts in
    one-fails test (all_mounts n) one.0 (nearest path n.root n.mounts) h one.1 one.2

take-of-prefix : (a b : ℕ) (q : Path) → a ≤ b → take a (take b q) ≡ take a q
take-of-prefix zero b q h = refl
take-of-prefix (suc a) zero q h = absurd (omega arith)
take-of-prefix (suc a) (suc b) [] h = refl
take-of-prefix (suc a) (suc b) (x ∷ q) h = ap (λ rest. x ∷ rest) (take-of-prefix a b q (omega arith))

pub prefix-is : (front path : Path) → is_prefix front path ≡ true → front ≡ take (length front) path
prefix-is front path = (pointwise_decides bytes_decides front (take (length front) path)).0

-- of two prefixes of a path the shorter is a prefix of the longer
pub prefixes-nest : (a b q : Path) → is_prefix a q ≡ true → is_prefix b q ≡ true → length a ≤ length b → is_prefix a b ≡ true
prefixes-nest a b q h k l =
    (pointwise_decides bytes_decides a (take (length a) b)).1
    (prefix-is a q h ∙ sym (take-of-prefix (length a) (length b) q l) ∙ ap (take (length a)) (sym (prefix-is b q k)))

longer-unless : (a b : Path) → is_prefix a b ≡ false → (length a ≤ length b → is_prefix a b ≡ true) → nat_lt (length b) (length a) ≡ true
longer-unless a b h k = elim (nat_lt (length b) (length a)) as (λ r. nat_lt (length b) (length a) ≡ r → r ≡ true) [
  | true ↦ λ e. refl
  | false ↦ λ e. let l : length a ≤ length b = grind (arith, nat_tests) in let t : is_prefix a b ≡ true = k l in absurd (cc)
] refl

nearer-new : (path : Path) (found mount : Mount) → is_prefix mount.point path ≡ true → nat_lt (length found.point) (length mount.point) ≡ true → nearer path found mount ≡ mount
nearer-new path found mount h k =
    let t : (is_prefix mount.point path && nat_lt (length found.point) (length mount.point)) ≡ true = grind arith in
    ap (λ b. if b then mount else found) t

pub nearer-old : (path : Path) (found mount : Mount) → is_prefix mount.point path ≡ false → nearer path found mount ≡ found
nearer-old path found mount h =
    let t : (is_prefix mount.point path && nat_lt (length found.point) (length mount.point)) ≡ false = grind arith in
    ap (λ b. if b then mount else found) t

-- at and below its point the new mount covers
new-covers : (n : Namespace) (mount : Mount) (tree : Tree) (path : Path) → n.root.point ≡ [] →
    list_any (λ other. is_prefix mount.point other.point) (all_mounts n) ≡ false → is_prefix mount.point path ≡ true →
    covering_mount (with_mount n mount tree) path ≡ mount
unfolding covering_mount
new-covers n mount tree path e h k =
    let old = nearest path n.root n.mounts in
    nearest-append path n.root n.mounts mount
    ∙ nearer-new path old mount k (longer-unless mount.point old.point (covering-fails (λ other. is_prefix mount.point other.point) n path h)
    (prefixes-nest mount.point old.point path k (nearest-prefix path n.root n.mounts (ap (λ point. is_prefix point path) e))))

old-covers : (n : Namespace) (mount : Mount) (tree : Tree) (path : Path) → is_prefix mount.point path ≡ false →
    covering_mount (with_mount n mount tree) path ≡ covering_mount n path
unfolding covering_mount
old-covers n mount tree path k = nearest-append path n.root n.mounts mount ∙ nearer-old path (nearest path n.root n.mounts) mount k

pub mounted-below : (n : Namespace) (mount : Mount) (tree : Tree) (path : Path) → n.root.point ≡ [] →
    list_any (λ other. is_prefix mount.point other.point) (all_mounts n) ≡ false → mount.number < length n.trees → is_prefix mount.point path ≡ true →
    node_at (with_mount n mount tree) path ≡ node_in tree (drop (length mount.point) path)
unfolding node_at
mounted-below n mount tree path e h l k =
    ap (λ m. node_in (slice_index_or (slice_set n.trees mount.number tree) m.number []) (drop (length m.point) path)) (new-covers n mount tree path e h k)
    ∙ ap (λ t. node_in t (drop (length mount.point) path)) (get_or-set_same n.trees mount.number tree [] l)

differ : (a b : ℕ) → (a == b) ≡ false → a ≢ b
differ a b e f = grind (arith, nat_tests)

pub mounted-beside : (n : Namespace) (mount : Mount) (tree : Tree) (path : Path) →
    list_any (λ other. other.number == mount.number) (all_mounts n) ≡ false → is_prefix mount.point path ≡ false →
    node_at (with_mount n mount tree) path ≡ node_at n path
unfolding node_at
mounted-beside n mount tree path h k =
    ap (λ m. node_in (slice_index_or (slice_set n.trees mount.number tree) m.number []) (drop (length m.point) path)) (old-covers n mount tree path k)
    ∙ ap (λ t. node_in t (rest_of n path)) (get_or-set_other n.trees mount.number (covering_mount n path).number tree []
    (differ (covering_mount n path).number mount.number (covering-fails (λ other. other.number == mount.number) n path h)))

-- where a later mount is chosen after b, it is chosen after a shorter a too
later-step : (number : ℕ) (path : Path) (a b x : Mount) (rest : List Mount) (p ta tb : Bool) →
    nat_lt (length a.point) (length x.point) ≡ ta → nat_lt (length b.point) (length x.point) ≡ tb → length a.point ≤ length b.point →
    ((c : Mount) → length c.point ≤ length b.point → (nearest path b rest).number ≢ number → nearest path c rest ≡ nearest path b rest) →
    (nearest path (if p && tb then x else b) rest).number ≢ number →
    nearest path (if p && ta then x else a) rest ≡ nearest path (if p && tb then x else b) rest
later-step number path a b x rest false ta tb s t l later h = later a l h
later-step number path a b x rest true true true s t l later h = refl
later-step number path a b x rest true false true s t l later h = absurd (grind (arith, nat_tests))
later-step number path a b x rest true true false s t l later h = later x (grind (arith, nat_tests)) h
later-step number path a b x rest true false false s t l later h = later a l h

later-same : (number : ℕ) (path : Path) (b : Mount) (rest : List Mount) → b.number ≡ number → (a : Mount) → length a.point ≤ length b.point →
    (nearest path b rest).number ≢ number → nearest path a rest ≡ nearest path b rest
later-same number path b [] e a l h = absurd (h e)
later-same number path b (x ∷ rest) e a l h = later-step number path a b x rest _ _ _ refl refl l (later-same number path b rest e) h

-- the mounts but those of a number
abbrev others : ℕ → List Mount → List Mount
others number mounts = filter (λ other. not (other.number == number)) mounts

-- a mount of the number comes, and is left out
others-step : (number : ℕ) (path : Path) (found x : Mount) (rest : List Mount) (c : Bool) → x.number ≡ number →
    (c ≡ true → length found.point ≤ length x.point) →
    ((nearest path found rest).number ≢ number → nearest path found (others number rest) ≡ nearest path found rest) →
    (nearest path (if c then x else found) rest).number ≢ number →
    nearest path found (others number rest) ≡ nearest path (if c then x else found) rest
others-step number path found x rest true e l later h =
    let same = later-same number path x rest e found (l refl) h in later (λ f. h (sym (ap (λ m. m.number) same) ∙ f)) ∙ same
others-step number path found x rest false e l later h = later h

either-number : (c : Bool) (number : ℕ) (found x : Mount) → found.number ≢ number → x.number ≢ number → (if c then x else found).number ≢ number
either-number true number found x h k e = k e
either-number false number found x h k e = h e

pub nearest-others : (number : ℕ) (path : Path) (mounts : List Mount) (found : Mount) → found.number ≢ number → (nearest path found mounts).number ≢ number →
    nearest path found (others number mounts) ≡ nearest path found mounts
nearest-others number path [] found f h = refl
nearest-others number path (x ∷ mounts) found f h = elim (x.number == number) as (λ r. (x.number == number) ≡ r →
    nearest path found (if not r then x ∷ others number mounts else others number mounts) ≡ nearest path (nearer path found x) mounts) [
      | true ↦ λ e. others-step number path found x mounts (is_prefix x.point path && nat_lt (length found.point) (length x.point)) (grind (arith, nat_tests))
          (λ c. grind (arith, nat_tests)) (nearest-others number path mounts found f) h
      | false ↦ λ e. nearest-others number path mounts (nearer path found x) (either-number _ number found x f (differ x.number number e)) h
    ] refl

pub unmounted-leaves : (n : Namespace) (number : ℕ) (path : Path) → n.root.number ≢ number → (covering_mount n path).number ≢ number →
    node_at (without_mount n number) path ≡ node_at n path
unfolding node_at covering_mount
unmounted-leaves n number path r h =
    ap (λ m. node_in (slice_index_or (slice_set n.trees number []) m.number []) (drop (length m.point) path)) (nearest-others number path n.mounts n.root r h)
    ∙ ap (λ t. node_in t (rest_of n path)) (get_or-set_other n.trees number (covering_mount n path).number [] [] h)
