-- Dentries that come along a path, without holders.
use Rattle.std.proofs.Common.{◌≡◌, ◌≢◌, ℕ, zero, suc, true, Some, None, [], ◌∷◌, ◌⊎◌, inl, inr, length, take, drop, refl, sym, ap, ◌∙◌}
use Rattle.std.proofs.Math.Seq.{take-append_seam}
use Rattle.std.proofs.lemmas.List.{append-nil, take-append-drop}
use Rattle.std.specs.FinMap.Entries.{find as value_at, put}
use Rattle.vfs_base.specs.Path.{Path, path_cmp}
use Rattle.vfs_model.proofs.MovedLaws.{prefix-append}
use Rattle.vfs_model.proofs.Trees.{at-put-here, at-put-other}
use Rattle.vfs_model.specs.Lookup.{is_prefix}
use Rattle.node_maps.proofs.MovedNodes.{same_or_other}
use Rattle.node_maps.specs.NodeMap.{NodeMap}
use Rattle.name_tree.specs.Entered.{entered, put_unless}
use Rattle.dentry_table.proofs.Belows.{below-kept}
use Rattle.dentry_table.proofs.Tidiness.{places-kept}
use Rattle.dentry_table.specs.DentryTable.{SameCounts, told}
use Rattle.dentry_table.specs.Tidy.{IsTidy, IsTidyBut}

take-all : (path : Path) → take (length path) path ≡ path
take-all path = ap (take (length path)) (sym (append-nil path)) ∙ take-append_seam path []

take-along : (count : ℕ) (path : Path) → is_prefix (take count path) path ≡ true
take-along count path = ap (is_prefix (take count path)) (sym (take-append-drop count path)) ∙ prefix-append (take count path) (drop count path)

module _ (path : Path) (table : NodeMap ℕ) where
  -- what stands at a path stood there, or has come along the path
  abbrev Comes : NodeMap ℕ → Path → Type 0
  Comes new q =
      (value_at path_cmp q new ≡ value_at path_cmp q table)
      ⊎ ((value_at path_cmp q table ≡ None) × (value_at path_cmp q new ≡ Some 0) × (is_prefix q path ≡ true))

  came : (old : NodeMap ℕ) (front q : Path) → Comes old q → value_at path_cmp front old ≡ None → is_prefix front path ≡ true → Comes (put path_cmp front 0 old) q
  came old front q before absent along = elim (same_or_other q front) [
    | inl e ↦
        let none : value_at path_cmp q old ≡ None = ap (λ p. value_at path_cmp p old) e ∙ absent in
        elim before [
          | inl same ↦ inr (sym same ∙ none, ap (λ p. value_at path_cmp p (put path_cmp front 0 old)) e ∙ at-put-here front 0 old, ap (λ p. is_prefix p path) e ∙ along)
          | inr new ↦ let some : value_at path_cmp q old ≡ Some 0 = new.1 in absurd (cc)
        ]
    | inr other ↦
        let kept : value_at path_cmp q (put path_cmp front 0 old) ≡ value_at path_cmp q old = at-put-other front q 0 old other in
        elim before [ inl same ↦ inl (kept ∙ same) | inr new ↦ inr (new.0, kept ∙ new.1, new.2) ]
  ]

  entered-at : (count : ℕ) (q : Path) → Comes (entered count path 0 table) q
  entered-at zero q = inl refl
  entered-at (suc count) q =
      elim (value_at path_cmp (take (suc count) path) (entered count path 0 table)) as
      (λ o. value_at path_cmp (take (suc count) path) (entered count path 0 table) ≡ o → Comes (put_unless o (take (suc count) path) 0 (entered count path 0 table)) q) [
        | None ↦ λ e. came (entered count path 0 table) (take (suc count) path) q (entered-at count q) e (take-along (suc count) path)
        | Some found ↦ λ e. entered-at count q
      ] refl

  pub entered-same : (count : ℕ) → SameCounts table (entered count path 0 table)
  entered-same count = record { counts = λ q. elim (entered-at count q) [ inl same ↦ ap told same | inr new ↦ ap told new.1 ∙ sym (ap told new.0) ] }

  pub entered-tidy : (count : ℕ) {room : Path} → IsTidy table room → IsTidyBut (entered count path 0 table) room path
  entered-tidy count t = record {
    places = places-kept kept t.places;
    along = λ q bare. elim (entered-at count q) [
      | inl same ↦ inl (t.along q (record { value = sym same ∙ bare.value; below = below-kept q table (entered count path 0 table) kept bare.below }))
      | inr new ↦ inr new.2
    ];
  }
    where
      kept : (r : Path) → value_at path_cmp r (entered count path 0 table) ≡ None → value_at path_cmp r table ≡ None
      kept r none = elim (entered-at count r) [ inl same ↦ sym same ∙ none | inr new ↦ new.0 ]

  there-at : (count : ℕ) → value_at path_cmp (take (suc count) path) (entered (suc count) path 0 table) ≢ None
  there-at count =
      elim (value_at path_cmp (take (suc count) path) (entered count path 0 table)) as
      (λ o. value_at path_cmp (take (suc count) path) (entered count path 0 table) ≡ o → value_at path_cmp (take (suc count) path) (put_unless o (take (suc count) path) 0 (entered count path 0 table)) ≢ None) [
        | None ↦ λ e none. let some : value_at path_cmp (take (suc count) path) (put path_cmp (take (suc count) path) 0 (entered count path 0 table)) ≡ Some 0 = at-put-here (take (suc count) path) 0 (entered count path 0 table) in absurd (cc)
        | Some found ↦ λ e none. absurd (cc)
      ] refl

pub entered-there : (path : Path) (table : NodeMap ℕ) → path ≢ [] → value_at path_cmp path (entered (length path) path 0 table) ≢ None
entered-there [] table inner none = inner refl
entered-there (name ∷ names) table inner none =
    there-at (name ∷ names) table (length names) (ap (λ p. value_at path_cmp p (entered (suc (length names)) (name ∷ names) 0 table)) (take-all (name ∷ names)) ∙ none)
