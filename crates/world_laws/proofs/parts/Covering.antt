-- Which mount covers which path, where the points of mounts stand.
use Rattle.std.proofs.Common.{◌≡◌, ℕ, zero, suc, ◌+◌, ◌<◌, ◌≤◌, true, Option, Some, None, List, [], ◌∷◌, ◌++◌, length, take, drop, slice_index_or, refl, sym, ap, subst, ◌∙◌, arith, length-append, append_assoc}
use Rattle.std.proofs.lemmas.List.{append-nil}
use Rattle.std.specs.Cmp.Lexicographic.{pointwise_decides, bytes_decides}
use Rattle.vfs_base.specs.Path.{Path}
use Rattle.vfs_model.proofs.CoveringMounts.{covering_mount-longest}
use Rattle.vfs_model.proofs.MovedLaws.{prefix-append}
use Rattle.vfs_model.proofs.Trees.{prefix-splits}
use Rattle.vfs_model.specs.Consistency.{FoldersStand}
use Rattle.vfs_model.specs.Lookup.{covering_mount, is_dir_node, is_folder, is_prefix, node_at, prefix_refusal, rest_of, walk_refusal, walk_refusal_from}
use Rattle.vfs_model.specs.Namespace.{all_mounts}
use Rattle.vfs_model.specs.declared.namespace.Mount.{Mount}
use Rattle.vfs_model.specs.declared.namespace.Namespace.{Namespace}
use Rattle.vfs_base.specs.declared.errno.Errno.{Errno}
use Rattle.vfs_base.specs.declared.kinds.NodeKind.{NodeKind}
use Rattle.vfs_base.specs.declared.kinds.NodeKind.TheVariants as node

-- what stands in a list at a place does not hang on the default
pub any-default : (mounts : List Mount) (place : ℕ) (d e : Mount) → place < length mounts → slice_index_or mounts place d ≡ slice_index_or mounts place e
any-default [] place d e l = absurd (omega arith)
any-default (mount ∷ mounts) zero d e l = refl
any-default (mount ∷ mounts) (suc place) d e l = any-default mounts place d e (omega arith)

-- a mount of the list
pub record IsMount (n : Namespace) (found : Mount) : Type 0 where
  pub place : ℕ
  pub within : place < length (all_mounts n)
  pub is : slice_index_or (all_mounts n) place found ≡ found

pub covering-is : (n : Namespace) (p : Path) → FoldersStand n → IsMount n (covering_mount n p)
covering-is n p f =
    let among = (covering_mount-longest n p f.root.0).among in
    record { place = among.0; within = among.1; is = among.2 }

pub same-place : (n : Namespace) (a b : Mount) → (x : IsMount n a) → (y : IsMount n b) → x.place ≡ y.place → a ≡ b
same-place n a b x y e =
    sym x.is ∙ ap (λ k. slice_index_or (all_mounts n) k a) e ∙ any-default (all_mounts n) y.place a b y.within ∙ y.is

-- of two mounts with one point, or with one number, one is the other
pub one-point : (n : Namespace) (a b : Mount) → FoldersStand n → IsMount n a → IsMount n b → a.point ≡ b.point → a ≡ b
one-point n a b f x y e =
    same-place n a b x y (f.points_differ x.place y.place a x.within y.within
    (ap (λ m. m.point) x.is ∙ e ∙ sym (ap (λ m. m.point) (any-default (all_mounts n) y.place a b y.within ∙ y.is))))

pub one-number : (n : Namespace) (a b : Mount) → FoldersStand n → IsMount n a → IsMount n b → a.number ≡ b.number → a ≡ b
one-number n a b f x y e =
    same-place n a b x y (f.numbers_differ x.place y.place a x.within y.within
    (ap (λ m. m.number) x.is ∙ e ∙ sym (ap (λ m. m.number) (any-default (all_mounts n) y.place a b y.within ∙ y.is))))

-- a prefix, and what comes behind it
pub prefix-more : (front middle rest : Path) → is_prefix front (front ++ middle ++ rest) ≡ true
prefix-more front middle rest = subst (λ p. is_prefix front p ≡ true) (sym (append_assoc front middle rest)) (prefix-append front (middle ++ rest))

pub prefix-through : (a b : Path) → is_prefix a b ≡ true → (rest : Path) → is_prefix a (b ++ rest) ≡ true
prefix-through a b h rest =
    subst (λ p. is_prefix a (p ++ rest) ≡ true) (sym (prefix-splits a b h)) (prefix-more a (drop (length a) b) rest)

pub prefix-trans : (a b c : Path) → is_prefix a b ≡ true → is_prefix b c ≡ true → is_prefix a c ≡ true
prefix-trans a b c h k = subst (λ p. is_prefix a p ≡ true) (sym (prefix-splits b c k)) (prefix-through a b h (drop (length b) c))

pub prefix-length : (a b : Path) → is_prefix a b ≡ true → length a ≤ length b
prefix-length a b h =
    let whole : length b ≡ length a + length (drop (length a) b) = ap (λ p. length p) (prefix-splits a b h) ∙ length-append a (drop (length a) b) in
    omega (arith, whole)

-- two prefixes of one length are one
pub same-prefix : (a b p : Path) → is_prefix a p ≡ true → is_prefix b p ≡ true → length a ≡ length b → a ≡ b
same-prefix a b p h k e =
    (pointwise_decides bytes_decides a (take (length a) p)).0 h ∙ ap (λ n. take n p) e ∙ sym ((pointwise_decides bytes_decides b (take (length b) p)).0 k)

pub covers-prefix : (n : Namespace) (p : Path) → FoldersStand n → is_prefix (covering_mount n p).point p ≡ true
covers-prefix n p f = (covering_mount-longest n p f.root.0).prefix

-- of the mounts whose points are prefixes of a path none has a longer point than the one that covers it
pub covers-longest : (n : Namespace) (p : Path) (m : Mount) → FoldersStand n → IsMount n m → is_prefix m.point p ≡ true → length m.point ≤ length (covering_mount n p).point
covers-longest n p m f x h =
    subst (λ point. length point ≤ length (covering_mount n p).point) (ap (λ d. d.point) x.is)
    ((covering_mount-longest n p f.root.0).longest x.place m x.within (subst (λ point. is_prefix point p ≡ true) (sym (ap (λ d. d.point) x.is)) h))

-- a path between the point of a mount and a path that the mount covers is covered by it too
pub covers-between : (n : Namespace) (q p : Path) → FoldersStand n → is_prefix q p ≡ true → is_prefix (covering_mount n p).point q ≡ true → covering_mount n q ≡ covering_mount n p
covers-between n q p f h k =
    let own = covers-prefix n q f in
    let up = prefix-trans (covering_mount n q).point q p own h in
    let least = covers-longest n q (covering_mount n p) f (covering-is n p f) k in
    let most = covers-longest n p (covering_mount n q) f (covering-is n q f) up in
    one-point n (covering_mount n q) (covering_mount n p) f (covering-is n q f) (covering-is n p f)
    (same-prefix (covering_mount n q).point (covering_mount n p).point p up (covers-prefix n p f) (omega (arith, least, most)))

-- a path is its mount's point and a rest
pub splits : (n : Namespace) (p : Path) → FoldersStand n → p ≡ (covering_mount n p).point ++ rest_of n p
splits n p f = prefix-splits (covering_mount n p).point p (covers-prefix n p f)

-- a path of a mount, from its point on
pub drop-front : (front rest : Path) → drop (length front) (front ++ rest) ≡ rest
drop-front [] rest = refl
drop-front (name ∷ front) rest = drop-front front rest

-- in the mount of a path, the paths whose rests are fronts of its rest are covered by it, with these rests
pub covers-front : (n : Namespace) (p front rest : Path) → FoldersStand n → rest_of n p ≡ front ++ rest →
    (covering_mount n ((covering_mount n p).point ++ front) ≡ covering_mount n p) × (rest_of n ((covering_mount n p).point ++ front) ≡ front)
covers-front n p front rest f e =
    let point = (covering_mount n p).point in
    let whole : p ≡ point ++ front ++ rest = splits n p f ∙ ap (λ r. point ++ r) e ∙ sym (append_assoc point front rest) in
    let same : covering_mount n (point ++ front) ≡ covering_mount n p =
    covers-between n (point ++ front) p f (subst (λ x. is_prefix (point ++ front) x ≡ true) (sym whole) (prefix-append (point ++ front) rest)) (prefix-append point front) in
    (same, ap (λ m. drop (length m.point) (point ++ front)) same ∙ drop-front point front)

-- a walk that came through
passed : (found : Option NodeKind) (later : Option Errno) → prefix_refusal found later ≡ None → (is_dir_node found ≡ true) × (later ≡ None)
passed None later h = absurd (cc)
passed (Some node.Dir) later h = (refl, h)
passed (Some (node.File id kind)) later h = absurd (cc)

walked-from : (n : Namespace) (front names : Path) (name : List ℕ) (rest : Path) → walk_refusal_from n front (names ++ name ∷ rest) ≡ None → is_folder n (front ++ names) ≡ true
walked-from n front [] name rest h =
    subst (λ p. is_folder n p ≡ true) (sym (append-nil front)) (passed (node_at n front) (walk_refusal_from n (front ++ name ∷ []) rest) h).0
walked-from n front (first ∷ names) name rest h =
    subst (λ p. is_folder n p ≡ true) (append_assoc front (first ∷ []) names)
    (walked-from n (front ++ first ∷ []) names name rest (passed (node_at n front) (walk_refusal_from n (front ++ first ∷ []) (names ++ name ∷ rest)) h).1)

-- each proper prefix of a path that is walked to is a folder
pub walked : (n : Namespace) (front : Path) (name : List ℕ) (rest : Path) → walk_refusal n (front ++ name ∷ rest) ≡ None → is_folder n front ≡ true
unfolding walk_refusal
walked n front name rest h = walked-from n [] front name rest h

pub prefix-append-both : (front a b : Path) → is_prefix a b ≡ true → is_prefix (front ++ a) (front ++ b) ≡ true
prefix-append-both front a b h =
    subst (λ x. is_prefix (front ++ a) (front ++ x) ≡ true) (sym (prefix-splits a b h))
    (subst (λ x. is_prefix (front ++ a) x ≡ true) (append_assoc front a (drop (length a) b)) (prefix-append (front ++ a) (drop (length a) b)))
