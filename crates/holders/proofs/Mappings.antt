-- A reference comes, to a file that has some.
use Rattle.std.proofs.Common.{◌≡◌, ℕ, suc, ◌+◌, ◌-◌, ◌<◌, ◌≤◌, ◌==◌, ◌&&◌, Bool, true, false, Option, Some, None, is_some, List, [], ◌∷◌, length, inl, inr, refl, sym, ap, subst, ◌∙◌, arith, get_or, slice_index_or, slice_set}
use Rattle.std.specs.Prelude.{nat_lt}
use Rattle.std.proofs.lemmas.Bool.Decides.{nat_tests}
use Rattle.std.proofs.lemmas.List.{length-set}
use Rattle.std.proofs.lemmas.List.Sums.{sum_by-cons, sum_by-set}
use Rattle.std.specs.List.{sum_by}
use Rattle.vfs_base.specs.Path.{Path}
use Rattle.vfs_model.specs.FileLife.{refers_to}
use Rattle.vfs_model.specs.UmountSteps.{refers_to_mount}
use Rattle.vfs_model.specs.declared.namespace.Reference.{Reference}
use Rattle.node_maps.specs.NodeMap.{NodeMap}
use Rattle.dentry_table.specs.DentryTable.{count_at}
use Rattle.vnode_table.specs.Layout.{one_if}
use Rattle.vnode_table.specs.SlotTable.{file_at, held_slot, opening_slot, slot_at, with_slot}
use Rattle.holders.proofs.Numbers.{raised, raised-at, same-number, sum-one}
use Rattle.holders.proofs.Folders.{one-at-itself}
use Rattle.holders.proofs.Opens.{different-number, slot_file}
use Rattle.holders.proofs.Referring.{came, same-some}
use Rattle.holders.proofs.Slots.{at-slot, other-slot, own-slot, same-or-other}
use Rattle.holders.specs.Counted.{IsCounted, reference_in}
use Rattle.holders.specs.Holding.{Holding, holders_at, one_referred, one_where, path_at, references_to, uses_of}

-- the reference at a free place, of a file that has references
pub record ComesAgain (h : Holding) (at : ℕ) (r : Reference) : Type 0 where
  pub within : at < 256
  pub free : reference_in h at ≡ None
  pub first : 1 ≤ r.file.row
  pub last : r.file.row ≤ 1024
  pub bound : file_at h.rows r.file.row ≡ Some r.file
  pub held : 0 < (slot_at h.rows r.file.row).references
  pub mount : r.mount < 16

-- what is held when it has come
abbrev pub mapped : Holding → ℕ → Reference → Holding
mapped h at r = record h {
  rows = with_slot h.rows r.file.row held_slot;
  sessions = record h.sessions { references = slice_set h.sessions.references at (Some r) };
}

-- the holders are counted so: the path, if there is one, has one more
abbrev pub HoldsMore : NodeMap ℕ → NodeMap ℕ → Option Path → Type 0
HoldsMore old new path = (q : Path) → count_at new q ≡ count_at old q + one_where q path

-- a reference to the row's file stands at some place
pub referred : (row : ℕ) (xs : List (Option Reference)) → 0 < sum_by (λ x. one_if (refers_to row x)) xs →
    (place : ℕ) × (place < length xs) × (one_if (refers_to row (get_or xs place None)) ≡ 1)
referred row [] some = absurd (omega (arith, some))
referred row (x ∷ xs) some = go (refers_to row x) refl (λ more. referred row xs more)
  where
    later : ((place : ℕ) × (place < length xs) × (one_if (refers_to row (get_or xs place None)) ≡ 1)) → (place : ℕ) × (place < suc (length xs)) × (one_if (refers_to row (get_or (x ∷ xs) place None)) ≡ 1)
    later (place, l, e) = (suc place, omega (arith, l), e)

    go : (b : Bool) → refers_to row x ≡ b → (0 < sum_by (λ x. one_if (refers_to row x)) xs → (place : ℕ) × (place < length xs) × (one_if (refers_to row (get_or xs place None)) ≡ 1)) →
        (place : ℕ) × (place < suc (length xs)) × (one_if (refers_to row (get_or (x ∷ xs) place None)) ≡ 1)
    go true e again = (0, omega arith, ap one_if e)
    go false e again =
        let whole = sum_by-cons (λ x. one_if (refers_to row x)) x xs in
        let none : one_if (refers_to row x) ≡ 0 = ap one_if e in
        later (again (omega (arith, whole, none, some)))

-- a reference that refers to the row's file is held at its path
one-there : (paths : List (Option Path)) (q : Path) (row : ℕ) (x : Option Reference) → one_if (refers_to row x) ≡ 1 → path_at paths row ≡ Some q → one_referred paths q x ≡ 1
one-there paths q row None e p = absurd (omega (arith, e))
one-there paths q row (Some x) e p = ap (one_where q) (ap (path_at paths) (same-from x.file.row row e) ∙ p) ∙ one-at-itself q
  where
    same-from : (a b : ℕ) → one_if (a == b) ≡ 1 → a ≡ b
    same-from a b e = elim (same-or-other a b) [ inl s ↦ s | inr o ↦ absurd (let none : one_if (a == b) ≡ 0 = ap one_if (different-number a b o) in omega (arith, e, none)) ]

module _ {h : Holding} {counts : NodeMap ℕ} {used : List ℕ} (k : IsCounted h counts used) where
  -- the path of a file that has references has holders
  pub path-held : {row : ℕ} → 0 < row → (path : Path) → path_at h.paths row ≡ Some path → 0 < count_at counts path
  unfolding holders_at
  path-held {row} some path e =
      let told : is_some (Some path) ≡ ((slot_at h.rows row).linked && nat_lt 0 (slot_at h.rows row).references) = sym (ap is_some e) ∙ k.told row in
      let more : 0 < (slot_at h.rows row).references = both (slot_at h.rows row).linked (slot_at h.rows row).references told in
      let counted = k.references row some in
      let found = referred row h.sessions.references (omega (arith, more, counted)) in
      let one : one_referred h.paths path (get_or h.sessions.references found.0 None) ≤ sum_by (one_referred h.paths path) h.sessions.references = sum-one (one_referred h.paths path) h.sessions.references found.0 None found.1 in
      let itself = one-there h.paths path row (get_or h.sessions.references found.0 None) found.2 e in
      let dentries = k.dentries path in
      omega (arith, one, itself, dentries)
    where
      both : (b : Bool) (n : ℕ) → true ≡ (b && nat_lt 0 n) → 0 < n
      both true n e = grind (arith, nat_tests)
      both false n e = absurd (cc)

module _ {h : Holding} {counts : NodeMap ℕ} {used : List ℕ} (k : IsCounted h counts used) (at : ℕ) (r : Reference) (c : ComesAgain h at r) where
  abbrev pub row : ℕ
  row = r.file.row

  row-in : row - 1 < length h.rows
  row-in = let size = k.places.rows in let last = c.last in let first = c.first in omega (arith, size, first, last)

  at-in : at < length h.sessions.references
  at-in = let size = k.places.references in let within = c.within in omega (arith, size, within)

  same-row : (other : ℕ) → 0 < other → other - 1 ≡ row - 1 → row ≡ other
  same-row other some e = let first = c.first in omega (arith, some, e, first)

  -- the counts when the reference has come
  pub counted-mapping : {c1 : NodeMap ℕ} → HoldsMore counts c1 (path_at h.paths row) → IsCounted (mapped h at r) c1 (raised used r.mount)
  unfolding holders_at uses_of
  counted-mapping {c1} o = record {
    places = record {
      rows = length-set h.rows (row - 1) (held_slot (slot_at h.rows row)) ∙ k.places.rows;
      paths = k.places.paths;
      references = length-set h.sessions.references at (Some r) ∙ k.places.references;
      folders = k.places.folders;
      mounts = k.places.mounts;
      root = k.places.root;
    };
    numbers = length-set used r.mount (slice_index_or used r.mount 0 + 1) ∙ k.numbers;
    numbered = λ place x e. elim (came h.sessions.references at place (Some r) x at-in e) [
      | inl new ↦ subst (λ y. 0 < y.file.row) (same-some r x new.1) c.first
      | inr old ↦ k.numbered place x old.1
    ];
    live = λ place x e.
        at-slot (slot_file x.file.row) h.rows row x.file.row held_slot row-in (λ s. refl)
        ∙ elim (came h.sessions.references at place (Some r) x at-in e) [
          | inl new ↦ subst (λ y. file_at h.rows y.file.row ≡ Some y.file) (same-some r x new.1) c.bound
          | inr old ↦ k.live place x old.1
        ];
    references = λ other some.
        let sum : references_to (mapped h at r) other + 0 ≡ references_to h other + one_if (row == other) =
        ap (λ o. references_to (mapped h at r) other + one_if (refers_to other o)) (sym c.free)
        ∙ sum_by-set (λ x. one_if (refers_to other x)) h.sessions.references at (Some r) None at-in in
        let told = k.references other some in
        elim (same-or-other (other - 1) (row - 1)) [
          | inl e ↦
              let slot : (slot_at (with_slot h.rows row held_slot) other).references ≡ (slot_at h.rows other).references + 1 =
              ap (λ s. s.references) (own-slot h.rows row other held_slot row-in e) ∙ ap (λ p. (slice_index_or h.rows p opening_slot).references + 1) (sym e) in
              let one : one_if (row == other) ≡ 1 = ap (λ b. one_if (row == b)) (sym (same-row other some e)) ∙ ap one_if (same-number row) in
              omega (arith, sum, told, slot, one)
          | inr apart ↦
              let slot : (slot_at (with_slot h.rows row held_slot) other).references ≡ (slot_at h.rows other).references = ap (λ s. s.references) (other-slot h.rows row other held_slot apart) in
              let none : one_if (row == other) ≡ 0 = ap one_if (different-number row other (λ e. apart (ap (λ x. x - 1) (sym e)))) in
              omega (arith, sum, told, slot, none)
        ];
    told = λ other. elim (same-or-other (other - 1) (row - 1)) [
      | inl e ↦
          let held = c.held in
          let some : nat_lt 0 (slot_at h.rows row).references ≡ true = grind (arith, nat_tests) in
          let more : nat_lt 0 ((slot_at h.rows row).references + 1) ≡ true = grind (arith, nat_tests) in
          k.told other ∙ ap (λ p. (slice_index_or h.rows p opening_slot).linked && nat_lt 0 (slice_index_or h.rows p opening_slot).references) e
          ∙ ap (λ b. (slot_at h.rows row).linked && b) (some ∙ sym more)
          ∙ sym (ap (λ s. s.linked && nat_lt 0 s.references) (own-slot h.rows row other held_slot row-in e))
      | inr apart ↦ k.told other ∙ sym (ap (λ s. s.linked && nat_lt 0 s.references) (other-slot h.rows row other held_slot apart))
    ];
    differ = k.differ;
    dentries = λ q.
        let raises = o q in
        let told = k.dentries q in
        let sum : sum_by (one_referred h.paths q) (slice_set h.sessions.references at (Some r)) + 0 ≡ sum_by (one_referred h.paths q) h.sessions.references + one_where q (path_at h.paths row) =
        ap (λ x. sum_by (one_referred h.paths q) (slice_set h.sessions.references at (Some r)) + one_referred h.paths q x) (sym c.free)
        ∙ sum_by-set (one_referred h.paths q) h.sessions.references at (Some r) None at-in in
        omega (arith, raises, told, sum);
    uses = λ number w.
        let size = k.numbers in
        let mount = c.mount in
        let raises = raised-at used r.mount number (omega (arith, size, mount)) in
        let told = k.uses number w in
        let sum : sum_by (λ x. one_if (refers_to_mount number x)) (slice_set h.sessions.references at (Some r)) + 0 ≡ sum_by (λ x. one_if (refers_to_mount number x)) h.sessions.references + one_if (r.mount == number) =
        ap (λ x. sum_by (λ x. one_if (refers_to_mount number x)) (slice_set h.sessions.references at (Some r)) + one_if (refers_to_mount number x)) (sym c.free)
        ∙ sum_by-set (λ x. one_if (refers_to_mount number x)) h.sessions.references at (Some r) None at-in in
        omega (arith, raises, told, sum);
  }
