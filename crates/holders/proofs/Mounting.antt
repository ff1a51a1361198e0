-- A mount comes, and a mount goes.
use Rattle.std.proofs.Common.{◌≡◌, ◌≢◌, ℕ, zero, suc, ◌+◌, ◌<◌, ◌≤◌, ◌==◌, ◌||◌, Bool, true, false, not, Some, None, Ok, Err, ◌↔◌, unwrap_or, option_map, List, [], ◌∷◌, ◌++◌, length, filter, refl, sym, ap, ◌∙◌, arith, get_or, if◌then◌else◌, length-append}
use Rattle.std.specs.Prelude.{find}
use Rattle.std.proofs.lemmas.Bool.Decides.{nat_tests}
use Rattle.std.proofs.lemmas.List.{append-nil}
use Rattle.std.proofs.lemmas.List.Elements.{filter-append}
use Rattle.std.proofs.lemmas.List.Sums.{sum_by-cons, sum_by_push}
use Rattle.std.specs.List.{list_any, sum_by}
use Rattle.vfs_base.specs.Path.{Path}
use Rattle.holders.proofs.Opens.{different-number}
use Rattle.mount_tree.specs.declared.mount_fault.MountFault.TheVariants as fault
use Rattle.vfs_model.proofs.Trees.{same_path-itself}
use Rattle.vfs_model.proofs.MountLaws.{nearer-old, nearest-append, nearest-others}
use Rattle.vfs_model.specs.Consistency.{AllDiffer}
use Rattle.vfs_model.specs.Lookup.{is_prefix}
use Rattle.vfs_model.specs.UmountSteps.{refers_to_mount}
use Rattle.vfs_model.specs.declared.namespace.Mount.{Mount}
use Rattle.node_maps.specs.NodeMap.{NodeMap}
use Rattle.mount_tree.proofs.FreeNumbers.{least-free}
use Rattle.mount_tree.proofs.Items.{EachItem, differ-first, differ-tail, each-tail}
use Rattle.mount_tree.specs.MountList.{AreMounts, MountList, covering, has_number, least_free_number, mount_numbered, mounts_of, with_mount, without_mount}
use Rattle.dentry_table.specs.DentryTable.{Lowers, Raises, SameCounts, count_at, one_at}
use Rattle.vnode_table.specs.Layout.{one_if}
use Rattle.holders.proofs.Numbers.{same-number, sum-same}
use Rattle.holders.specs.Counted.{IsCounted}
use Rattle.holders.specs.Holding.{Holding, holders_at, is_used, one_covered, uses_of}

first-false : (a b : Bool) → (a || b) ≡ false → a ≡ false
first-false true b h = absurd (cc)
first-false false b h = refl

second-false : (a b : Bool) → (a || b) ≡ false → b ≡ false
second-false true b h = absurd (cc)
second-false false b h = h

-- one of a list does not pass a test that none passes
pub none-at : {X : Type 0} (test : X → Bool) (xs : List X) (place : ℕ) (d : X) → list_any test xs ≡ false → place < length xs → test (get_or xs place d) ≡ false
none-at test [] place d h l = absurd (omega (arith, l))
none-at test (x ∷ xs) zero d h l = first-false (test x) (list_any test xs) h
none-at test (x ∷ xs) (suc place) d h l = none-at test xs place d (second-false (test x) (list_any test xs) h) (omega (arith, l))

-- a filter keeps a list of which none passes the test
keeps-all : {X : Type 0} (test : X → Bool) (xs : List X) → list_any test xs ≡ false → filter (λ x. not (test x)) xs ≡ xs
keeps-all test [] h = refl
keeps-all test (x ∷ xs) h = go (test x) refl (λ f. keeps-all test xs f) h
  where
    go : (b : Bool) → test x ≡ b → (list_any test xs ≡ false → filter (λ x. not (test x)) xs ≡ xs) → (b || list_any test xs) ≡ false →
        (if not b then x ∷ filter (λ x. not (test x)) xs else filter (λ x. not (test x)) xs) ≡ x ∷ xs
    go true e again h = absurd (cc)
    go false e again h = ap (λ rest. x ∷ rest) (again h)

-- a mount that was added is the only one with its number: without it the mounts are as before
added-back : (mounts : MountList) (mount : Mount) → list_any (λ other. other.number == mount.number) mounts.others ≡ false → without_mount (with_mount mounts mount) mount.number ≡ mounts
added-back mounts mount free =
    let own : filter (λ other. not (other.number == mount.number)) (mount ∷ []) ≡ [] = ap (λ b. if not b then mount ∷ [] else []) (same-number mount.number) in
    ap (λ others. record mounts { others = others })
    (filter-append (λ other. not (other.number == mount.number)) mounts.others (mount ∷ [])
    ∙ ap (λ rest. filter (λ other. not (other.number == mount.number)) mounts.others ++ rest) own
    ∙ append-nil (filter (λ other. not (other.number == mount.number)) mounts.others)
    ∙ keeps-all (λ other. other.number == mount.number) mounts.others free)

-- a mount that was added: there was room for it, and none had its number
pub record Added (mounts : MountList) (number : ℕ) : Type 0 where
  pub few : length (mounts_of mounts) < 16
  pub free : has_number mounts number ≡ false

pub added : (mounts : MountList) (number : ℕ) → length (mounts_of mounts) ≤ 16 → ((Ok number ≡ Err fault.Full) ↔ (length (mounts_of mounts) ≡ 16)) → number ≡ least_free_number mounts →
    Added mounts number
added mounts number most full e =
    let apart : length (mounts_of mounts) ≢ 16 = λ all. absurd (let no = full.1 all in cc) in
    let few : length (mounts_of mounts) < 16 = grind arith in
    record { few = few; free = ap (has_number mounts) e ∙ (least-free mounts few).free }

free-others : (mounts : MountList) (number : ℕ) → has_number mounts number ≡ false → list_any (λ other. other.number == number) mounts.others ≡ false
free-others mounts number h = second-false (mounts.root.number == number) (list_any (λ other. other.number == number) mounts.others) h

find-last : (test : Mount → Bool) (xs : List Mount) (y : Mount) → list_any test xs ≡ false → test y ≡ true → find test (xs ++ y ∷ []) ≡ Some y
find-last test [] y h t = ap (λ b. if b then Some y else None) t
find-last test (x ∷ xs) y h t = go (test x) refl (λ f. find-last test xs y f t) h
  where
    go : (b : Bool) → test x ≡ b → (list_any test xs ≡ false → find test (xs ++ y ∷ []) ≡ Some y) → (b || list_any test xs) ≡ false → (if b then Some x else find test (xs ++ y ∷ [])) ≡ Some y
    go true e again h = absurd (cc)
    go false e again h = again h

-- the point that is found by the number of a mount that was added is the mount's
pub added-point : (mounts : MountList) (mount : Mount) (point : Path) → has_number mounts mount.number ≡ false →
    option_map (λ m. m.point) (mount_numbered (with_mount mounts mount) mount.number) ≡ Some point → mount.point ≡ point
added-point mounts mount point free e =
    same-point (sym (ap (option_map (λ m. m.point)) (find-last (λ other. other.number == mount.number) (mounts_of mounts) mount free (same-number mount.number))) ∙ e)
  where
    same-point : Some mount.point ≡ Some point → mount.point ≡ point
    same-point e = ap (λ o. unwrap_or o mount.point) e

-- the mounts that a call added to are as before when it takes the mount away
pub taken-back : (mounts new : MountList) (mount : Mount) → new ≡ with_mount mounts mount → Added mounts mount.number → without_mount new mount.number ≡ mounts
taken-back mounts new mount e room = ap (λ m. without_mount m mount.number) e ∙ added-back mounts mount (free-others mounts mount.number room.free)

-- other counts that tell the same
pub counted-same : {h : Holding} {counts c1 : NodeMap ℕ} {used : List ℕ} → IsCounted h counts used → SameCounts counts c1 → IsCounted h c1 used
counted-same k s = record {
  places = k.places;
  numbers = k.numbers;
  numbered = k.numbered;
  live = k.live;
  references = k.references;
  told = k.told;
  differ = k.differ;
  dentries = λ q. s.counts q ∙ k.dentries q;
  uses = k.uses;
}

-- the counts when a mount has come
pub counted-mount : {h : Holding} {counts c1 : NodeMap ℕ} {used : List ℕ} → IsCounted h counts used → (mount : Mount) → list_any (is_prefix mount.point) h.sessions.folders ≡ false →
    length (mounts_of h.mounts) < 16 → Raises counts c1 mount.point → IsCounted (record h { mounts = with_mount h.mounts mount }) c1 used
unfolding holders_at uses_of
counted-mount {h} {counts} {c1} {used} k mount outside few o = record {
  places = record {
    rows = k.places.rows;
    paths = k.places.paths;
    references = k.places.references;
    folders = k.places.folders;
    mounts = let more = length-append (mounts_of h.mounts) (mount ∷ []) in omega (arith, more, few);
    root = k.places.root;
  };
  numbers = k.numbers;
  numbered = k.numbered;
  live = k.live;
  references = k.references;
  told = k.told;
  differ = k.differ;
  dentries = λ q.
      let raises = o.counts q in
      let told = k.dentries q in
      let sum : sum_by (λ mount. one_at q mount.point) (mounts_of h.mounts ++ mount ∷ []) ≡ sum_by (λ mount. one_at q mount.point) (mounts_of h.mounts) + one_at q mount.point =
      sum_by_push (λ mount. one_at q mount.point) (mounts_of h.mounts) mount in
      omega (arith, raises, told, sum);
  uses = λ number l.
      let told = k.uses number l in
      let same = sum-same (one_covered (with_mount h.mounts mount) number) (one_covered h.mounts number) h.sessions.folders
      (λ place d w. ap (λ m. one_if (m.number == number))
      (nearest-append (get_or h.sessions.folders place d) h.mounts.root h.mounts.others mount
      ∙ nearer-old (get_or h.sessions.folders place d) (covering h.mounts (get_or h.sessions.folders place d)) mount (none-at (is_prefix mount.point) h.sessions.folders place d outside w))) in
      omega (arith, told, same);
}

-- of mounts with different numbers one goes: its point is counted less
number-none : (number : ℕ) (mount : Mount) (mounts : List Mount) → mount.number ≡ number → EachItem (λ y. y.number ≡ mount.number → ⊥) mounts → list_any (λ other. other.number == number) mounts ≡ false
number-none number mount [] e apart = refl
number-none number mount (x ∷ xs) e apart = go (x.number == number) refl (number-none number mount xs e (each-tail (λ y. y.number ≡ mount.number → ⊥) x xs apart))
  where
    go : (b : Bool) → (x.number == number) ≡ b → list_any (λ other. other.number == number) xs ≡ false → (b || list_any (λ other. other.number == number) xs) ≡ false
    go true t later = absurd (apart 0 x (omega arith) (let same : x.number ≡ number = grind (arith, nat_tests) in same ∙ sym e))
    go false t later = later

sum-without : (f : Path → ℕ) (number : ℕ) (mounts : List Mount) (point : Path) → AllDiffer (λ mount. mount.number) mounts →
    option_map (λ mount. mount.point) (find (λ mount. mount.number == number) mounts) ≡ Some point →
    sum_by (λ mount. f mount.point) (filter (λ other. not (other.number == number)) mounts) + f point ≡ sum_by (λ mount. f mount.point) mounts
sum-without f number [] point differ e = absurd (cc)
sum-without f number (x ∷ xs) point differ e = go (x.number == number) refl (λ e. sum-without f number xs point (differ-tail (λ mount. mount.number) x xs differ) e) e
  where
    same-point : (a b : Path) → Some a ≡ Some b → a ≡ b
    same-point a b e = ap (λ o. unwrap_or o a) e

    go : (b : Bool) → (x.number == number) ≡ b →
        (option_map (λ mount. mount.point) (find (λ mount. mount.number == number) xs) ≡ Some point → sum_by (λ mount. f mount.point) (filter (λ other. not (other.number == number)) xs) + f point ≡ sum_by (λ mount. f mount.point) xs) →
        option_map (λ mount. mount.point) (if b then Some x else find (λ mount. mount.number == number) xs) ≡ Some point →
        sum_by (λ mount. f mount.point) (if not b then x ∷ filter (λ other. not (other.number == number)) xs else filter (λ other. not (other.number == number)) xs) + f point ≡ sum_by (λ mount. f mount.point) (x ∷ xs)
    go true t again e =
        let same : x.number ≡ number = grind (arith, nat_tests) in
        let rest = keeps-all (λ other. other.number == number) xs (number-none number x xs same (differ-first (λ mount. mount.number) x xs differ)) in
        let own : x.point ≡ point = same-point x.point point e in
        let whole = sum_by-cons (λ mount. f mount.point) x xs in
        let kept : sum_by (λ mount. f mount.point) (filter (λ other. not (other.number == number)) xs) ≡ sum_by (λ mount. f mount.point) xs = ap (sum_by (λ mount. f mount.point)) rest in
        let one : f x.point ≡ f point = ap f own in
        omega (arith, whole, kept, one)
    go false t again e =
        let left = sum_by-cons (λ mount. f mount.point) x (filter (λ other. not (other.number == number)) xs) in
        let whole = sum_by-cons (λ mount. f mount.point) x xs in
        let later = again e in
        omega (arith, left, whole, later)

module _ {h : Holding} {counts : NodeMap ℕ} {used : List ℕ} (k : IsCounted h counts used) (are : AreMounts h.mounts) (number : ℕ) (inner : number ≢ 0) (point : Path)
    (there : option_map (λ mount. mount.point) (mount_numbered h.mounts number) ≡ Some point) where
  root-apart : h.mounts.root.number ≢ number
  root-apart e = inner (sym e ∙ ap (λ m. m.number) are.root)

  whole : (f : Path → ℕ) → sum_by (λ mount. f mount.point) (mounts_of (without_mount h.mounts number)) + f point ≡ sum_by (λ mount. f mount.point) (mounts_of h.mounts)
  whole f =
      let other : (h.mounts.root.number == number) ≡ false = different-number h.mounts.root.number number root-apart in
      ap (λ b. sum_by (λ mount. f mount.point) (if not b then h.mounts.root ∷ filter (λ other. not (other.number == number)) h.mounts.others else filter (λ other. not (other.number == number)) h.mounts.others) + f point) (sym other)
      ∙ sum-without f number (mounts_of h.mounts) point are.numbers_differ there

  -- the point of a mount has a holder
  pub point-held : count_at counts point ≢ 0
  unfolding holders_at
  point-held e =
      let sum = whole (one_at point) in
      let itself : one_at point point ≡ 1 = ap one_if (same_path-itself point) in
      let told = k.dentries point in
      absurd (omega (arith, sum, itself, told, e))

  -- the counts when the mount has gone
  pub counted-unmount : {c1 : NodeMap ℕ} → is_used h number ≡ false → Lowers counts c1 point → IsCounted (record h { mounts = without_mount h.mounts number }) c1 used
  unfolding holders_at uses_of
  counted-unmount {c1} unused o = record {
    places = record {
      rows = k.places.rows;
      paths = k.places.paths;
      references = k.places.references;
      folders = k.places.folders;
      mounts = let most = k.places.mounts in let fewer = few h.mounts.others in omega (arith, most, fewer);
      root = k.places.root;
    };
    numbers = k.numbers;
    numbered = k.numbered;
    live = k.live;
    references = k.references;
    told = k.told;
    differ = k.differ;
    dentries = λ q.
        let lowers = o.counts q in
        let told = k.dentries q in
        let sum = whole (one_at q) in
        omega (arith, lowers, told, sum);
    uses = λ other l.
        let told = k.uses other l in
        let same = sum-same (one_covered (without_mount h.mounts number) other) (one_covered h.mounts other) h.sessions.folders
        (λ place d w. ap (λ m. one_if (m.number == other))
        (nearest-others number (get_or h.sessions.folders place d) h.mounts.others h.mounts.root root-apart (outside place d w))) in
        omega (arith, told, same);
  }
    where
      few : (mounts : List Mount) → length (filter (λ other. not (other.number == number)) mounts) ≤ length mounts
      few [] = omega arith
      few (x ∷ xs) = by (x.number == number) (few xs)
        where
          by : (b : Bool) → length (filter (λ other. not (other.number == number)) xs) ≤ length xs → length (if not b then x ∷ filter (λ other. not (other.number == number)) xs else filter (λ other. not (other.number == number)) xs) ≤ suc (length xs)
          by true l = omega (arith, l)
          by false l = omega (arith, l)

      outside : (place : ℕ) (d : Path) → place < length h.sessions.folders → (covering h.mounts (get_or h.sessions.folders place d)).number ≢ number
      outside place d w e =
          let none = none-at (λ folder. (covering h.mounts folder).number == number) h.sessions.folders place d (second-false (list_any (refers_to_mount number) h.sessions.references) (list_any (λ folder. (covering h.mounts folder).number == number) h.sessions.folders) unused) w in
          let some : ((covering h.mounts (get_or h.sessions.folders place d)).number == number) ≡ true = ap (λ a. a == number) e ∙ same-number number in
          absurd (cc)
