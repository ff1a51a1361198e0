-- Rows that are bound and freed, which nothing refers to.
use Rattle.std.proofs.Common.{◌≡◌, ℕ, ◌-◌, ◌<◌, ◌==◌, ◌&&◌, not, Bool, true, false, Option, Some, None, List, length, inl, inr, refl, sym, ap, subst, ◌∙◌, arith, slice_index_or, if◌then◌else◌}
use Rattle.std.specs.Prelude.{nat_lt}
use Rattle.std.proofs.lemmas.Bool.Decides.{nat_tests}
use Rattle.std.proofs.lemmas.Bool.{cases_lt}
use Rattle.std.proofs.lemmas.List.{get_or_past, length-set}
use Rattle.vfs_base.specs.declared.ids.FileId.{FileId}
use Rattle.vfs_model.specs.FileLife.{refers_to}
use Rattle.vfs_model.specs.declared.namespace.Reference.{Reference}
use Rattle.node_maps.specs.NodeMap.{NodeMap}
use Rattle.vnode_table.specs.Layout.{one_if}
use Rattle.vnode_table.specs.SlotTable.{IsFreeRow, bound_slot, is_unused, linked_slot, opening_slot, slot_at, unbound_slot, with_slot}
use Rattle.vnode_table.specs.declared.vnode_slot.VnodeSlot.{VnodeSlot}
use Rattle.holders.proofs.Mappings.{referred}
use Rattle.holders.proofs.Opens.{different-number, slot_file}
use Rattle.holders.proofs.Referring.{unreferred}
use Rattle.holders.proofs.Slots.{other-slot, own-slot, same-or-other}
use Rattle.holders.specs.Counted.{IsCounted, reference_in}
use Rattle.holders.specs.Holding.{Holding, holders_at, uses_of, with_bound}

module _ {h : Holding} {counts : NodeMap ℕ} {used : List ℕ} (k : IsCounted h counts used) where
  -- of a slot that nothing refers to another fact may hold, if it keeps the number of references
  pub counted-slot : (row : ℕ) (change : VnodeSlot → VnodeSlot) → (slot_at h.rows row).references ≡ 0 → (change (slot_at h.rows row)).references ≡ 0 → row - 1 < length h.rows →
      IsCounted (record h { rows = with_slot h.rows row change }) counts used
  unfolding holders_at uses_of
  counted-slot row change none stays l = record {
    places = record {
      rows = length-set h.rows (row - 1) (change (slot_at h.rows row)) ∙ k.places.rows;
      paths = k.places.paths;
      references = k.places.references;
      folders = k.places.folders;
      mounts = k.places.mounts;
      root = k.places.root;
    };
    numbers = k.numbers;
    numbered = k.numbered;
    live = λ place r e. elim (same-or-other (r.file.row - 1) (row - 1)) [
      | inr apart ↦ ap (slot_file r.file.row) (other-slot h.rows row r.file.row change apart) ∙ k.live place r e
      | inl same ↦
          let zero : (slot_at h.rows r.file.row).references ≡ 0 = ap (λ p. (slice_index_or h.rows p opening_slot).references) same ∙ none in
          let within = place-in place r e in
          absurd (unreferred k r.file.row (sym (k.references r.file.row (k.numbered place r e)) ∙ zero) place r within e refl)
    ];
    references = λ other some. elim (same-or-other (other - 1) (row - 1)) [
      | inr apart ↦ ap (λ s. s.references) (other-slot h.rows row other change apart) ∙ k.references other some
      | inl same ↦
          ap (λ s. s.references) (own-slot h.rows row other change l same) ∙ stays ∙ sym none
          ∙ ap (λ p. (slice_index_or h.rows p opening_slot).references) (sym same) ∙ k.references other some
    ];
    told = λ other. elim (same-or-other (other - 1) (row - 1)) [
      | inr apart ↦ k.told other ∙ sym (ap (λ s. s.linked && nat_lt 0 s.references) (other-slot h.rows row other change apart))
      | inl same ↦
          k.told other ∙ ap (λ p. (slice_index_or h.rows p opening_slot).linked && nat_lt 0 (slice_index_or h.rows p opening_slot).references) same
          ∙ ap (λ n. (slot_at h.rows row).linked && nat_lt 0 n) none ∙ never (slot_at h.rows row).linked (change (slot_at h.rows row)).linked
          ∙ ap (λ n. (change (slot_at h.rows row)).linked && nat_lt 0 n) (sym stays)
          ∙ sym (ap (λ s. s.linked && nat_lt 0 s.references) (own-slot h.rows row other change l same))
    ];
    differ = k.differ;
    dentries = k.dentries;
    uses = k.uses;
  }
    where
      never : (a b : Bool) → (a && nat_lt 0 0) ≡ (b && nat_lt 0 0)
      never true true = refl
      never true false = refl
      never false true = refl
      never false false = refl

      place-in : (place : ℕ) (r : Reference) → reference_in h place ≡ Some r → place < length h.sessions.references
      place-in place r e = elim (cases_lt place (length h.sessions.references)) [
        | inl less ↦ less
        | inr past ↦ absurd (let none : reference_in h place ≡ None = get_or_past h.sessions.references place None past in cc)
      ]

  -- nothing refers to a row without a file
  pub unbound-free : (row : ℕ) → 0 < row → (slot_at h.rows row).bound ≡ false → (slot_at h.rows row).references ≡ 0
  unbound-free row some unbound = elim (same-or-other (slot_at h.rows row).references 0) [
    | inl none ↦ none
    | inr more ↦
        let told = k.references row some in
        let found = referred row h.sessions.references (let apart = more in grind arith) in
        absurd (names found.0 (reference_in h found.0) refl found.2)
  ]
    where
      names : (place : ℕ) (o : Option Reference) → reference_in h place ≡ o → one_if (refers_to row o) ≡ 1 → ⊥
      names place None e one = absurd (omega (arith, one))
      names place (Some r) e one = elim (same-or-other r.file.row row) [
        | inr apart ↦ absurd (let none : one_if (r.file.row == row) ≡ 0 = ap one_if (different-number r.file.row row apart) in omega (arith, one, none))
        | inl same ↦
            let live : slot_file r.file.row (slot_at h.rows r.file.row) ≡ Some r.file = k.live place r e in
            let dead : slot_file r.file.row (slot_at h.rows r.file.row) ≡ None = ap (λ b. if b then Some (record { row = r.file.row; generation = (slot_at h.rows r.file.row).generation }) else None) (ap (λ a. (slot_at h.rows a).bound) same ∙ unbound) in
            absurd (cc)
      ]

-- the counts when a free row is bound and linked
pub counted-bound : {h : Holding} {counts : NodeMap ℕ} {used : List ℕ} → IsCounted h counts used → (file : FileId) → IsFreeRow h.rows file → IsCounted (with_bound h file.row) counts used
counted-bound {h} k file f =
    let none = unbound-free k file.row f.least f.unbound in
    let within : file.row - 1 < length h.rows = let least = f.least in let last = f.within in omega (arith, least, last) in
    let stays : (slot_at (with_slot h.rows file.row bound_slot) file.row).references ≡ 0 = ap (λ s. s.references) (own-slot h.rows file.row file.row bound_slot within refl) ∙ none in
    let inside : file.row - 1 < length (with_slot h.rows file.row bound_slot) = subst (λ n. file.row - 1 < n) (sym (length-set h.rows (file.row - 1) (bound_slot (slot_at h.rows file.row)))) within in
    counted-slot (counted-slot k file.row bound_slot none none within) file.row (linked_slot true) stays stays inside

-- the counts when a row is free that nothing refers to
pub counted-free : {h : Holding} {counts : NodeMap ℕ} {used : List ℕ} → IsCounted h counts used → (row : ℕ) → is_unused (slot_at h.rows row) ≡ true → row - 1 < 1024 → IsCounted (record h { rows = with_slot h.rows row unbound_slot }) counts used
counted-free {h} k row e l =
    let none : (slot_at h.rows row).references ≡ 0 = unused (slot_at h.rows row).linked (slot_at h.rows row).references e in
    counted-slot k row unbound_slot none none (subst (λ n. row - 1 < n) (sym k.places.rows) l)
  where
    unused : (b : Bool) (n : ℕ) → (not b && (n == 0)) ≡ true → n ≡ 0
    unused true n e = absurd (cc)
    unused false n e = grind (arith, nat_tests)
