-- What holds of the mounts holds when one comes or goes.
use Rattle.std.proofs.Common.{◌≡◌, ℕ, ◌<◌, ◌≤◌, ◌==◌, Bool, true, false, Option, Some, None, is_some, option_map, Bor, List, [], ◌∷◌, length, filter, refl, sym, ap, ◌∙◌, arith, length-append}
use Rattle.std.specs.Prelude.{not}
use Rattle.std.specs.Option.{option_copied}
use Rattle.std.specs.Cmp.Lexicographic.{pointwise_decides, bytes_decides}
use Rattle.std.proofs.lemmas.Bool.Decides.{nat_tests}
use Rattle.std.proofs.lemmas.List.Sums.{count_by-le-length, length-filter}
use Rattle.vfs_base.specs.Path.{Path}
use Rattle.vfs_model.specs.Consistency.{AllDiffer}
use Rattle.vfs_model.specs.Lookup.{is_prefix}
use Rattle.vfs_model.specs.Namespace.{same_path}
use Rattle.vfs_model.specs.declared.namespace.Mount.{Mount}
use Rattle.vfs_model.proofs.CoveringMounts.{IsOneOf, nearest-among, nearest-prefix}
use Rattle.mount_tree.proofs.FreeNumbers.{IsFreeNumber}
use Rattle.mount_tree.proofs.Items.{EachItem, any-at, differ-cons, differ-first, differ-tail, each-cons, each-fails, each-filter, each-push, each-tail, filter-differ, is_some-find, push-differ}
use Rattle.mount_tree.specs.MountList.{AreMounts, MountList, covering, has_number, has_point, mount_at, mount_numbered, mounts_of, with_mount, without_mount}

other-number : (a b : ℕ) → (a == b) ≡ false → a ≡ b → ⊥
other-number a b h e = grind (arith, nat_tests)

other-point : (p q : Path) → same_path p q ≡ false → p ≡ q → ⊥
other-point p q h e =
    let same : same_path p q ≡ true = (pointwise_decides bytes_decides p q).1 e in absurd (cc)

pub added-kept : (mounts : MountList) (mount : Mount) → AreMounts mounts → length mounts.others ≤ 14 →
    IsFreeNumber mounts mount.number → has_point mounts mount.point ≡ false → AreMounts (with_mount mounts mount)
added-kept mounts mount kept few number point =
    let all = mounts_of mounts in
    let more = length-append mounts.others (mount ∷ []) in
    let numbers : EachItem (λ (other : Mount). (other.number == mount.number) ≡ false) all = each-fails (λ (other : Mount). other.number == mount.number) all number.free in
    let points : EachItem (λ (other : Mount). same_path other.point mount.point ≡ false) all = each-fails (λ (other : Mount). same_path other.point mount.point) all point in
    record {
      root = kept.root;
      few = omega (arith, more, few);
      numbers = each-push (λ (other : Mount). other.number < 16) all mount kept.numbers number.below;
      numbers_differ = push-differ (λ (other : Mount). other.number) all mount kept.numbers_differ
          (λ place d l. other-number _ _ (numbers place d l));
      points_differ = push-differ (λ (other : Mount). other.point) all mount kept.points_differ
          (λ place d l. other-point _ _ (points place d l));
    }

-- the same of what a filter leaves behind a first item
each-left : {X : Type 0} (P : X → Type 0) (test : X → Bool) (x : X) (xs : List X) → EachItem P (x ∷ xs) → EachItem P (x ∷ filter test xs)
each-left P test x xs h = each-cons P x (filter test xs) (h 0 x (omega arith)) (each-filter P test xs (each-tail P x xs h))

differ-left : {X Y : Type 0} (value : X → Y) (test : X → Bool) (x : X) (xs : List X) → AllDiffer value (x ∷ xs) → AllDiffer value (x ∷ filter test xs)
differ-left {X} {Y} value test x xs h =
    differ-cons value x (filter test xs) (each-filter (λ (y : X). value y ≡ value x → ⊥) test xs (differ-first value x xs h))
    (filter-differ value test xs (differ-tail value x xs h))

pub removed-kept : (mounts : MountList) (number : ℕ) → AreMounts mounts → AreMounts (without_mount mounts number)
removed-kept mounts number kept =
    let stays : Mount → Bool = λ other. not (other.number == number) in
    let fewer = length-filter stays mounts.others in
    let most = count_by-le-length stays mounts.others in
    let few = kept.few in
    record {
      root = kept.root;
      few = omega (arith, fewer, most, few);
      numbers = each-left (λ (other : Mount). other.number < 16) stays mounts.root mounts.others kept.numbers;
      numbers_differ = differ-left (λ (other : Mount). other.number) stays mounts.root mounts.others kept.numbers_differ;
      points_differ = differ-left (λ (other : Mount). other.point) stays mounts.root mounts.others kept.points_differ;
    }

-- the covering mount is one of the mounts, and its point a prefix of the path
pub covering-there : (mounts : MountList) (path : Path) (found : Mount) → found ≡ covering mounts path → has_number mounts found.number ≡ true
covering-there mounts path found is =
    let one : IsOneOf (mounts_of mounts) (covering mounts path) = nearest-among path mounts.root mounts.others in
    let there : has_number mounts (covering mounts path).number ≡ true =
    any-at (λ (mount : Mount). mount.number == (covering mounts path).number) (mounts_of mounts) one.0 (covering mounts path) one.1 one.2
    (grind (arith, nat_tests)) in
    ap (λ (mount : Mount). has_number mounts mount.number) is ∙ there

pub covering-prefix : (mounts : MountList) (path : Path) → AreMounts mounts → is_prefix (covering mounts path).point path ≡ true
covering-prefix mounts path kept =
    nearest-prefix path mounts.root mounts.others (ap (λ (root : Mount). is_prefix root.point path) kept.root)

point-found : (found : Option Mount) → is_some (option_map (λ (mount : Mount). mount.number) found) ≡ is_some found
point-found None = refl
point-found (Some mount) = refl

-- a point is told by whether its mount is found
pub point-is : (mounts : MountList) (path : Path) (answer : Option ℕ) → answer ≡ option_map (λ mount. mount.number) (mount_at mounts path) →
    is_some answer ≡ has_point mounts path
point-is mounts path answer is =
    ap is_some is ∙ point-found (mount_at mounts path) ∙ is_some-find (λ (mount : Mount). same_path mount.point path) (mounts_of mounts)

-- a mount that is there is found
pub numbered-there : (mounts : MountList) (number : ℕ) (found : Option (Bor Mount)) → option_copied found ≡ mount_numbered mounts number →
    has_number mounts number ≡ true → found ≡ None → ⊥
numbered-there mounts number found is there none =
    let some = is_some-find (λ (mount : Mount). mount.number == number) (mounts_of mounts) in
    let nothing : is_some (mount_numbered mounts number) ≡ false = ap is_some (sym is) ∙ ap (λ (f : Option (Bor Mount)). is_some (option_copied f)) none in
    cc (some, nothing, there)
