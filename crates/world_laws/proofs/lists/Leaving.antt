-- Lists that lose items, and counts that are at most one.
use Rattle.std.proofs.Common.{◌≡◌, ℕ, zero, suc, ◌+◌, ◌-◌, ◌<◌, ◌≤◌, Bool, true, false, T, Option, Some, None, List, [], ◌∷◌, length, map, filter, slice_index_or, slice_set, inl, inr, if◌then◌else◌, refl, sym, ap, subst, ◌∙◌, arith}
use Rattle.std.proofs.lemmas.List.{length-set}
use Rattle.std.proofs.lemmas.List.Sums.{sum_by-cons}
use Rattle.std.specs.FinMap.Entries.{below_all, find as value_at, is_sorted}
use Rattle.std.specs.List.{list_any, enumerate_from}
use Rattle.std.specs.Prelude.{count_by}
use Rattle.vfs_base.specs.Path.{Path, path_cmp}
use Rattle.vfs_model.specs.Boxes.{one_if}
use Rattle.vfs_model.specs.Namespace.{life_at}
use Rattle.vfs_model.specs.UmountSteps.{is_of_mount}
use Rattle.vfs_model.specs.declared.namespace.LiveFile.{LiveFile}
use Rattle.vfs_model.specs.declared.namespace.Namespace.{Namespace}
use Rattle.world_laws.proofs.lists.Counting.{count-place, none-count}
use Rattle.world_laws.proofs.parts.Emptying.{AllAbove, InRows, RowsLeft}
use Rattle.world_laws.proofs.lists.Lists.{any-node, below-none, first-there, later-there, place-any, same-or-other, set-there, t-first, t-second, true-or-false}
use Rattle.world_laws.proofs.steps.MountKeeping.{counted-place}
use Rattle.world_laws.proofs.parts.Taking.{count-set}

pub count-any : {X : Type 0} (p : X → Bool) (xs : List X) (d : X) → 0 < count_by p xs → list_any p xs ≡ true
count-any p xs d l = let at = counted-place p xs d l in place-any p xs at.place d at.within at.holds

-- where the count is at most 1, two places at which the test holds are one; none passes is an item that fails
pub one-place : {X : Type 0} (p : X → Bool) (xs : List X) (none d : X) (i j : ℕ) → p none ≡ false → count_by p xs ≤ 1 → i < length xs → j < length xs →
    p (slice_index_or xs i d) ≡ true → p (slice_index_or xs j d) ≡ true → i ≡ j
one-place p xs none d i j fails most l m h k = elim (same-or-other j i) [
  | inl e ↦ sym e
  | inr e ↦
      let without = count-set p xs i none d l in
      let was : one_if (p (slice_index_or xs i d)) ≡ 1 = ap one_if h in
      let is : one_if (p none) ≡ 0 = ap one_if fails in
      let still : p (slice_index_or (slice_set xs i none) j d) ≡ true = ap p (set-there xs i j none d e) ∙ k in
      let more = count-place p (slice_set xs i none) j d (subst (λ n. j < n) (sym (length-set xs i none)) m) still in
      absurd (omega (arith, without, was, is, more, most))
]

-- at most one node of a tree passes where nodes that pass stand at one path
unique-cons : {X : Type 0} (test : X → Bool) (e : Path × X) (tree : List (Path × X)) (b : Bool) → test e.1 ≡ b → T (is_sorted path_cmp (e ∷ tree)) →
    ((p q : Path) (a c : X) → value_at path_cmp p (e ∷ tree) ≡ Some a → test a ≡ true → value_at path_cmp q (e ∷ tree) ≡ Some c → test c ≡ true → p ≡ q) →
    count_by (λ x. test x.1) tree ≤ 1 → count_by (λ x. test x.1) (e ∷ tree) ≤ 1
unique-cons test e tree false h sorted one most =
    let all : count_by (λ x. test x.1) (e ∷ tree) ≡ one_if (test e.1) + count_by (λ x. test x.1) tree = sum_by-cons (λ y. one_if (test y.1)) e tree in
    let first : one_if (test e.1) ≡ 0 = ap one_if h in
    omega (arith, all, first, most)
unique-cons test e tree true h sorted one most =
    let all : count_by (λ x. test x.1) (e ∷ tree) ≡ one_if (test e.1) + count_by (λ x. test x.1) tree = sum_by-cons (λ y. one_if (test y.1)) e tree in
    let first : one_if (test e.1) ≡ 1 = ap one_if h in
    let none = none-count (λ x. test x.1) tree (elim (true-or-false (list_any (λ x. test x.1) tree)) [
      | inr k ↦ k
      | inl k ↦
          let found = any-node test tree (t-second (below_all path_cmp e.0 tree) _ sorted) k in
          let below = t-first _ (is_sorted path_cmp tree) sorted in
          let same = one e.0 found.path e.1 found.node (first-there e tree) h (later-there e found.path found.node tree below found.there (true-or-false _)) found.holds in
          let gone = below-none e.0 tree below in
          let there = ap (λ p. value_at path_cmp p tree) same ∙ found.there in
          absurd (cc)
    ]) in
    omega (arith, all, first, none)

pub unique-count : {X : Type 0} (test : X → Bool) (tree : List (Path × X)) → T (is_sorted path_cmp tree) →
    ((p q : Path) (a c : X) → value_at path_cmp p tree ≡ Some a → test a ≡ true → value_at path_cmp q tree ≡ Some c → test c ≡ true → p ≡ q) →
    count_by (λ x. test x.1) tree ≤ 1
unique-count test [] sorted one = omega arith
unique-count test (e ∷ tree) sorted one =
    let below = t-first _ (is_sorted path_cmp tree) sorted in
    unique-cons test e tree (test e.1) refl sorted one
    (unique-count test tree (t-second (below_all path_cmp e.0 tree) _ sorted)
    (λ p q a c h i k j. one p q a c (later-there e p a tree below h (true-or-false _)) i (later-there e q c tree below k (true-or-false _)) j))

-- the rows of a mount, from a place of the list of lives on
abbrev pub rows_from : ℕ → ℕ → List (Option LiveFile) → List ℕ
rows_from number from live_files = map (λ row. row.0) (filter (λ row. is_of_mount number row.1) (enumerate_from from live_files))

row-cons : (number from : ℕ) (life : Option LiveFile) (live_files : List (Option LiveFile)) (b : Bool) → is_of_mount number life ≡ b →
    rows_from number from (life ∷ live_files) ≡ (if b then from ∷ rows_from number (from + 1) live_files else rows_from number (from + 1) live_files)
row-cons number from life live_files true e =
    ap (λ b. map (λ row. row.0) (if b then (from, life) ∷ filter (λ row. is_of_mount number row.1) (enumerate_from (from + 1) live_files) else filter (λ row. is_of_mount number row.1) (enumerate_from (from + 1) live_files))) e
row-cons number from life live_files false e =
    ap (λ b. map (λ row. row.0) (if b then (from, life) ∷ filter (λ row. is_of_mount number row.1) (enumerate_from (from + 1) live_files) else filter (λ row. is_of_mount number row.1) (enumerate_from (from + 1) live_files))) e

rows-above : (number from row : ℕ) (live_files : List (Option LiveFile)) → row < from → AllAbove row (rows_from number from live_files)
rows-above number from row [] l = tt
rows-above number from row (life ∷ live_files) l = at (is_of_mount number life) refl (rows-above number (from + 1) row live_files (omega (arith, l)))
  where
    at : (b : Bool) → is_of_mount number life ≡ b → AllAbove row (rows_from number (from + 1) live_files) → AllAbove row (rows_from number from (life ∷ live_files))
    at true e later = subst (AllAbove row) (sym (row-cons number from life live_files true e)) (l, later)
    at false e later = subst (AllAbove row) (sym (row-cons number from life live_files false e)) later

pub rows-left : (number from : ℕ) (m : Namespace) (live_files : List (Option LiveFile)) → 0 < from → (from - 1) + length live_files ≤ 1024 →
    ((k : ℕ) → k < length live_files → life_at m (from + k) ≡ slice_index_or live_files k None) → RowsLeft number m (rows_from number from live_files)
rows-left number from m [] l most h = tt
rows-left number from m (life ∷ live_files) l most h =
    at (is_of_mount number life) refl (rows-left number (from + 1) m live_files (omega arith) (omega (arith, most, l))
    (λ k s. ap (life_at m) (omega arith) ∙ h (suc k) (omega (arith, s))))
  where
    at : (b : Bool) → is_of_mount number life ≡ b → RowsLeft number m (rows_from number (from + 1) live_files) → RowsLeft number m (rows_from number from (life ∷ live_files))
    at false e later = subst (RowsLeft number m) (sym (row-cons number from life live_files false e)) later
    at true e later = subst (RowsLeft number m) (sym (row-cons number from life live_files true e)) (
      l,
      omega (arith, most, l),
      ap (λ k. is_of_mount number (life_at m k)) (omega arith) ∙ ap (is_of_mount number) (h 0 (omega arith)) ∙ e,
      rows-above number (from + 1) from live_files (omega arith),
      later,
    )

pub rows-in : (number from k : ℕ) (live_files : List (Option LiveFile)) → k < length live_files → is_of_mount number (slice_index_or live_files k None) ≡ true → InRows (rows_from number from live_files) (from + k)
rows-in number from k [] l h = absurd (omega (arith, l))
rows-in number from zero (life ∷ live_files) l h = subst (λ rows. InRows rows (from + 0)) (sym (row-cons number from life live_files true h)) (inl (omega arith))
rows-in number from (suc k) (life ∷ live_files) l h = at (is_of_mount number life) refl (subst (InRows (rows_from number (from + 1) live_files)) (omega arith) (rows-in number (from + 1) k live_files (omega (arith, l)) h))
  where
    at : (b : Bool) → is_of_mount number life ≡ b → InRows (rows_from number (from + 1) live_files) (from + suc k) → InRows (rows_from number from (life ∷ live_files)) (from + suc k)
    at true e later = subst (λ rows. InRows rows (from + suc k)) (sym (row-cons number from life live_files true e)) (inr later)
    at false e later = subst (λ rows. InRows rows (from + suc k)) (sym (row-cons number from life live_files false e)) later

pub in-left : (number : ℕ) (m : Namespace) (rows : List ℕ) (row : ℕ) → RowsLeft number m rows → InRows rows row → (0 < row) × (row - 1 < 1024) × (is_of_mount number (life_at m row) ≡ true)
in-left number m [] row left i = absurd i
in-left number m (r ∷ rows) row left (inl e) = (subst (λ x. 0 < x) (sym e) left.0, subst (λ x. x - 1 < 1024) (sym e) left.1, ap (λ x. is_of_mount number (life_at m x)) e ∙ left.2)
in-left number m (r ∷ rows) row left (inr i) = in-left number m rows row left.4 i
