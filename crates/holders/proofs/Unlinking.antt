-- A file loses its name.
use Rattle.std.proofs.Common.{◌≡◌, ◌≢◌, ℕ, suc, ◌-◌, ◌<◌, ◌≤◌, ◌&&◌, ◌||◌, Bool, true, false, Option, Some, None, is_some, List, [], ◌∷◌, length, ◌⊎◌, inl, inr, refl, sym, ap, ◌∙◌, arith, get_or, slice_index_or, if◌then◌else◌}
use Rattle.std.specs.Prelude.{IfSome, nat_lt}
use Rattle.std.proofs.lemmas.List.{length-set}
use Rattle.std.proofs.lemmas.List.Sums.{sum_by-cons}
use Rattle.std.specs.List.{list_any, sum_by}
use Rattle.vfs_base.specs.Path.{Path}
use Rattle.vfs_model.specs.declared.namespace.Reference.{Reference}
use Rattle.node_maps.specs.NodeMap.{NodeMap}
use Rattle.dentry_table.specs.DentryTable.{count_at, one_at}
use Rattle.vnode_table.specs.Layout.{one_if}
use Rattle.vnode_table.specs.SlotTable.{linked_slot, slot_at}
use Rattle.mount_tree.specs.MountList.{mounts_of}
use Rattle.vfs_model.proofs.Trees.{same_path-is, same_path-itself, same_path-other}
use Rattle.vfs_model.specs.Namespace.{same_path}
use Rattle.holders.proofs.Opens.{slot_file}
use Rattle.holders.proofs.Numbers.{sum-same}
use Rattle.holders.proofs.Referring.{came, same-some}
use Rattle.holders.proofs.Slots.{at-slot, other-path, other-slot, own-path, own-slot, same-or-other}
use Rattle.holders.specs.Counted.{IsCounted}
use Rattle.holders.specs.Holding.{Holding, HoldsFiles, dropped_at, holders_at, one_referred, one_where, path_at, uses_of, with_path, without_name}

pub same-or-other-path : (p q : Path) → (p ≡ q) ⊎ (p ≢ q)
same-or-other-path p q = elim (same_path p q) as (λ b. same_path p q ≡ b → (p ≡ q) ⊎ (p ≢ q)) [
  | true ↦ λ e. inl (same_path-is p q e)
  | false ↦ λ e. inr (λ f. absurd (let yes = ap (same_path p) (sym f) ∙ same_path-itself p in cc))
] refl

-- a test that none of the list passes counts none
none-counted : {X : Type 0} (test : X → Bool) (xs : List X) → list_any test xs ≡ false → sum_by (λ x. one_if (test x)) xs ≡ 0
none-counted test [] e = refl
none-counted test (x ∷ xs) e = go (test x) refl (λ f. none-counted test xs f) e
  where
    go : (b : Bool) → test x ≡ b → (list_any test xs ≡ false → sum_by (λ x. one_if (test x)) xs ≡ 0) → (b || list_any test xs) ≡ false → sum_by (λ x. one_if (test x)) (x ∷ xs) ≡ 0
    go true f again e = absurd (cc)
    go false f again e =
        let whole = sum_by-cons (λ x. one_if (test x)) x xs in
        let first : one_if (test x) ≡ 0 = ap one_if f in
        let later = again e in
        omega (arith, whole, first, later)

pub zeros : {X : Type 0} (f : X → ℕ) (xs : List X) → ((place : ℕ) (d : X) → place < length xs → f (get_or xs place d) ≡ 0) → sum_by f xs ≡ 0
zeros f [] none = refl
zeros f (x ∷ xs) none =
    let whole = sum_by-cons f x xs in
    let first : f x ≡ 0 = none 0 x (omega arith) in
    let later = zeros f xs (λ place d l. none (suc place) d (omega (arith, l))) in
    omega (arith, whole, first, later)

module _ {h : Holding} {counts : NodeMap ℕ} {used : List ℕ} (k : IsCounted h counts used) (row : ℕ) (first : 1 ≤ row) (last : row ≤ 1024) where
  row-in : row - 1 < length h.rows
  row-in = let size = k.places.rows in omega (arith, size, first, last)

  path-in : row - 1 < length h.paths
  path-in = let size = k.places.paths in omega (arith, size, first, last)

  -- what a reference holds elsewhere stays
  stays : (q : Path) → (path_at h.paths row ≡ Some q → ⊥) → (place : ℕ) (d : Option Reference) → place < length h.sessions.references →
      one_referred (with_path h.paths row None) q (get_or h.sessions.references place d) ≡ one_referred h.paths q (get_or h.sessions.references place d)
  stays q apart place d l = go (get_or h.sessions.references place d)
    where
      none-where : (o : Option Path) → (o ≡ Some q → ⊥) → 0 ≡ one_where q o
      none-where None apart = refl
      none-where (Some p) apart = sym (ap one_if (same_path-other q p (λ e. apart (ap Some (sym e)))))

      go : (o : Option Reference) → one_referred (with_path h.paths row None) q o ≡ one_referred h.paths q o
      go None = refl
      go (Some x) = elim (same-or-other (x.file.row - 1) (row - 1)) [
        | inr other ↦ ap (one_where q) (other-path h.paths row x.file.row None other)
        | inl same ↦
            ap (one_where q) (own-path h.paths row x.file.row None path-in same)
            ∙ none-where (path_at h.paths x.file.row) (λ e. apart (ap (λ p. slice_index_or h.paths p None) (sym same) ∙ e))
      ]

  -- nothing is held any more where the file stood
  gone : (q : Path) → path_at h.paths row ≡ Some q → (place : ℕ) (d : Option Reference) → place < length h.sessions.references → one_referred (with_path h.paths row None) q (get_or h.sessions.references place d) ≡ 0
  gone q here place d l = go (get_or h.sessions.references place d)
    where
      none-where : (o : Option Path) → (o ≡ Some q → ⊥) → one_where q o ≡ 0
      none-where None apart = refl
      none-where (Some p) apart = ap one_if (same_path-other q p (λ e. apart (ap Some (sym e))))

      go : (o : Option Reference) → one_referred (with_path h.paths row None) q o ≡ 0
      go None = refl
      go (Some x) = elim (same-or-other (x.file.row - 1) (row - 1)) [
        | inl same ↦ ap (one_where q) (own-path h.paths row x.file.row None path-in same)
        | inr other ↦
            ap (one_where q) (other-path h.paths row x.file.row None other)
            ∙ none-where (path_at h.paths x.file.row) (λ e. other (k.differ (x.file.row - 1) (row - 1) q e here))
      ]

  holders-left : (o : Option Path) → path_at h.paths row ≡ o → IfSome o (HoldsFiles h) → (q : Path) → dropped_at o q (holders_at h q) ≡ holders_at (without_name h row) q
  unfolding holders_at
  holders-left None e files q =
      let same = sum-same (one_referred (with_path h.paths row None) q) (one_referred h.paths q) h.sessions.references (stays q (λ f. absurd (let no = sym e ∙ f in cc))) in
      omega (arith, same)
  holders-left (Some p) e files q = elim (same-or-other-path q p) [
    | inl same ↦
        let yes : same_path q p ≡ true = ap (λ x. same_path x p) same ∙ same_path-itself p in
        let references = zeros (one_referred (with_path h.paths row None) q) h.sessions.references (gone q (e ∙ ap Some (sym same))) in
        let folders : sum_by (one_at q) h.sessions.folders ≡ 0 = none-counted (same_path q) h.sessions.folders (ap (λ x. list_any (same_path x) h.sessions.folders) same ∙ files.folders) in
        let points : sum_by (λ mount. one_at q mount.point) (mounts_of h.mounts) ≡ 0 = none-counted (λ mount. same_path q mount.point) (mounts_of h.mounts) (ap (λ x. list_any (λ mount. same_path x mount.point) (mounts_of h.mounts)) same ∙ files.points) in
        ap (λ b. if b then 0 else holders_at h q) yes ∙ (omega (arith, references, folders, points))
    | inr other ↦
        let no : same_path q p ≡ false = same_path-other q p other in
        let same = sum-same (one_referred (with_path h.paths row None) q) (one_referred h.paths q) h.sessions.references (stays q (λ f. other (sym (same-some p q (sym e ∙ f))))) in
        ap (λ b. if b then 0 else holders_at h q) no ∙ (omega (arith, same))
  ]

  -- the counts when the row's file has no name
  pub counted-unlinked : {c1 : NodeMap ℕ} → ((q : Path) → count_at c1 q ≡ dropped_at (path_at h.paths row) q (count_at counts q)) → IfSome (path_at h.paths row) (HoldsFiles h) → IsCounted (without_name h row) c1 used
  unfolding uses_of
  counted-unlinked {c1} o files = record {
    places = record {
      rows = length-set h.rows (row - 1) (linked_slot false (slot_at h.rows row)) ∙ k.places.rows;
      paths = length-set h.paths (row - 1) None ∙ k.places.paths;
      references = k.places.references;
      folders = k.places.folders;
      mounts = k.places.mounts;
      root = k.places.root;
    };
    numbers = k.numbers;
    numbered = k.numbered;
    live = λ place x e. at-slot (slot_file x.file.row) h.rows row x.file.row (linked_slot false) row-in (λ s. refl) ∙ k.live place x e;
    references = λ other some. at-slot (λ s. s.references) h.rows row other (linked_slot false) row-in (λ s. refl) ∙ k.references other some;
    told = λ other. elim (same-or-other (other - 1) (row - 1)) [
      | inl e ↦ ap is_some (own-path h.paths row other None path-in e) ∙ sym (ap (λ s. s.linked && nat_lt 0 s.references) (own-slot h.rows row other (linked_slot false) row-in e))
      | inr apart ↦
          ap is_some (other-path h.paths row other None apart) ∙ k.told other
          ∙ sym (ap (λ s. s.linked && nat_lt 0 s.references) (other-slot h.rows row other (linked_slot false) apart))
    ];
    differ = λ place other p e f. k.differ place other p (stood p place e) (stood p other f);
    dentries = λ q. o q ∙ ap (dropped_at (path_at h.paths row) q) (k.dentries q) ∙ holders-left (path_at h.paths row) refl files q;
    uses = k.uses;
  }
    where
      stood : (p : Path) (place : ℕ) → slice_index_or (with_path h.paths row None) place None ≡ Some p → slice_index_or h.paths place None ≡ Some p
      stood p place e = elim (came h.paths (row - 1) place None p path-in e) [ inl new ↦ absurd (let none = new.1 in cc) | inr old ↦ old.1 ]
