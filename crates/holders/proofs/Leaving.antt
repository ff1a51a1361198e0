-- A reference goes.
use Rattle.std.proofs.Common.{◌≡◌, ◌≢◌, ℕ, ◌+◌, ◌-◌, ◌<◌, ◌≤◌, ◌==◌, ◌&&◌, Bool, true, false, Option, Some, None, is_some, List, length, inl, inr, refl, sym, ap, subst, ◌∙◌, arith, get_or, slice_index_or, slice_set, if◌then◌else◌}
use Rattle.std.specs.Prelude.{nat_lt}
use Rattle.std.proofs.lemmas.Bool.Decides.{nat_tests}
use Rattle.std.proofs.lemmas.List.{get_or_default, length-set}
use Rattle.std.proofs.lemmas.List.Sums.{sum_by-set}
use Rattle.std.specs.List.{sum_by}
use Rattle.vfs_base.specs.Path.{Path}
use Rattle.vfs_base.specs.declared.ids.FileId.{FileId}
use Rattle.vfs_model.specs.FileLife.{refers_to}
use Rattle.vfs_model.specs.UmountSteps.{refers_to_mount}
use Rattle.vfs_model.specs.declared.namespace.Reference.{Reference}
use Rattle.node_maps.specs.NodeMap.{NodeMap}
use Rattle.dentry_table.specs.DentryTable.{count_at}
use Rattle.vnode_table.specs.Layout.{one_if}
use Rattle.vnode_table.specs.SlotTable.{file_at, opening_slot, released_slot, slot_at, with_slot}
use Rattle.holders.proofs.Numbers.{lowered, lowered-at, same-number, sum-one, sum-same}
use Rattle.holders.proofs.Opens.{different-number, slot_file}
use Rattle.holders.proofs.Referring.{came}
use Rattle.holders.proofs.Slots.{at-slot, other-path, other-slot, own-path, own-slot, same-or-other}
use Rattle.holders.specs.Counted.{IsCounted, Names, reference_in}
use Rattle.holders.specs.Holding.{Holding, holders_at, one_referred, one_where, path_at, references_to, uses_of, with_path}

-- what is held when it has gone
abbrev pub left : Holding → ℕ → ℕ → Holding
left h at row = record h {
  rows = with_slot h.rows row released_slot;
  paths = if (slot_at h.rows row).references == 1 then with_path h.paths row None else h.paths;
  sessions = record h.sessions { references = slice_set h.sessions.references at None };
}

-- the holders are counted so: the path, if there is one, has one less
abbrev pub HoldsLess : NodeMap ℕ → NodeMap ℕ → Option Path → Type 0
HoldsLess old new path = (q : Path) → count_at new q + one_where q path ≡ count_at old q

module _ {h : Holding} {counts : NodeMap ℕ} {used : List ℕ} (k : IsCounted h counts used) (at : ℕ) (file : FileId) (mount : ℕ) (g : Names h.sessions at file mount) where
  abbrev pub row : ℕ
  row = file.row

  pub first : 1 ≤ row
  first = subst (λ f. 0 < f.row) g.file_is (k.numbered at g.reference g.there)

  pub is-bound : file_at h.rows row ≡ Some file
  is-bound = subst (λ f. file_at h.rows f.row ≡ Some f) g.file_is (k.live at g.reference g.there)

  row-in : row - 1 < length h.rows
  row-in = let size = k.places.rows in let last = g.last in let least = first in omega (arith, size, least, last)

  path-in : row - 1 < length h.paths
  path-in = let size = k.places.paths in let last = g.last in let least = first in omega (arith, size, least, last)

  at-in : at < length h.sessions.references
  at-in = let size = k.places.references in let within = g.within in omega (arith, size, within)

  same-row : (other : ℕ) → 0 < other → other - 1 ≡ row - 1 → row ≡ other
  same-row other some e = let least = first in omega (arith, some, e, least)

  referring : (other : ℕ) → one_if (refers_to other (reference_in h at)) ≡ one_if (row == other)
  referring other = ap (λ o. one_if (refers_to other o)) g.there ∙ ap (λ f. one_if (f.row == other)) g.file_is

  -- one reference to each file less, where it named the file
  sum-left : (other : ℕ) → references_to (left h at row) other + one_if (row == other) ≡ references_to h other
  sum-left other =
      let sum : references_to (left h at row) other + one_if (refers_to other (reference_in h at)) ≡ references_to h other + 0 = sum_by-set (λ x. one_if (refers_to other x)) h.sessions.references at None None at-in in
      let own = referring other in
      omega (arith, sum, own)

  pub is-held : 0 < (slot_at h.rows row).references
  is-held =
      let sum = sum-left row in
      let one : one_if (row == row) ≡ 1 = ap one_if (same-number row) in
      let told = k.references row first in
      omega (arith, sum, one, told)

  pub is-used : mount < 16 → 0 < slice_index_or used mount 0
  unfolding uses_of
  is-used l =
      let one : one_if (refers_to_mount mount (reference_in h at)) ≤ sum_by (λ x. one_if (refers_to_mount mount x)) h.sessions.references = sum-one (λ x. one_if (refers_to_mount mount x)) h.sessions.references at None at-in in
      let own : one_if (refers_to_mount mount (reference_in h at)) ≡ 1 = ap (λ o. one_if (refers_to_mount mount o)) g.there ∙ ap (λ m. one_if (m == mount)) g.mount_is ∙ ap one_if (same-number mount) in
      let told = k.uses mount l in
      omega (arith, one, own, told)

  slot-left : (slot_at (with_slot h.rows row released_slot) row).references ≡ (slot_at h.rows row).references - 1
  slot-left = ap (λ s. s.references) (own-slot h.rows row row released_slot row-in refl)

  -- the references that stay are held where they were
  stays : (b : Bool) → ((slot_at h.rows row).references == 1) ≡ b → (q : Path) (place : ℕ) (d : Option Reference) → place < length (slice_set h.sessions.references at None) →
      one_referred (if b then with_path h.paths row None else h.paths) q (get_or (slice_set h.sessions.references at None) place d) ≡ one_referred h.paths q (get_or (slice_set h.sessions.references at None) place d)
  stays false e q place d l = refl
  stays true e q place d l = go (get_or (slice_set h.sessions.references at None) place d) (get_or_default (slice_set h.sessions.references at None) place None d l)
    where
      go : (o : Option Reference) → get_or (slice_set h.sessions.references at None) place None ≡ o → one_referred (with_path h.paths row None) q o ≡ one_referred h.paths q o
      go None f = refl
      go (Some x) f = elim (same-or-other (x.file.row - 1) (row - 1)) [
        | inr other ↦ ap (one_where q) (other-path h.paths row x.file.row None other)
        | inl same ↦
            let old : reference_in h place ≡ Some x = elim (came h.sessions.references at place None x at-in f) [ inl new ↦ absurd (let none = new.1 in cc) | inr stayed ↦ stayed.1 ] in
            let names : row ≡ x.file.row = same-row x.file.row (k.numbered place x old) same in
            let one : one_if (refers_to row (get_or (slice_set h.sessions.references at None) place None)) ≤ references_to (left h at row) row =
            sum-one (λ o. one_if (refers_to row o)) (slice_set h.sessions.references at None) place None l in
            let own : one_if (refers_to row (get_or (slice_set h.sessions.references at None) place None)) ≡ 1 = ap (λ o. one_if (refers_to row o)) f ∙ ap (λ a. one_if (a == row)) (sym names) ∙ ap one_if (same-number row) in
            let sum = sum-left row in
            let itself : one_if (row == row) ≡ 1 = ap one_if (same-number row) in
            let told = k.references row first in
            absurd (let last : (slot_at h.rows row).references ≡ 1 = grind (arith, nat_tests) in omega (arith, one, own, sum, itself, told, last))
      ]

  -- the paths, by whether the reference was the last one
  some-length : (b : Bool) → length (if b then with_path h.paths row None else h.paths) ≡ length h.paths
  some-length true = length-set h.paths (row - 1) None
  some-length false = refl

  told-left : (b : Bool) → ((slot_at h.rows row).references == 1) ≡ b → (other : ℕ) →
      is_some (path_at (if b then with_path h.paths row None else h.paths) other) ≡ ((slot_at (with_slot h.rows row released_slot) other).linked && nat_lt 0 (slot_at (with_slot h.rows row released_slot) other).references)
  told-left b e other = elim (same-or-other (other - 1) (row - 1)) [
    | inr apart ↦ beside b apart ∙ sym (ap (λ s. s.linked && nat_lt 0 s.references) (other-slot h.rows row other released_slot apart))
    | inl same ↦ here b e same ∙ sym (ap (λ s. s.linked && nat_lt 0 s.references) (own-slot h.rows row other released_slot row-in same))
  ]
    where
      beside : (b : Bool) → other - 1 ≢ row - 1 → is_some (path_at (if b then with_path h.paths row None else h.paths) other) ≡ ((slot_at h.rows other).linked && nat_lt 0 (slot_at h.rows other).references)
      beside true apart = ap is_some (other-path h.paths row other None apart) ∙ k.told other
      beside false apart = k.told other

      none-and : (b : Bool) → false ≡ (b && false)
      none-and true = refl
      none-and false = refl

      here : (b : Bool) → ((slot_at h.rows row).references == 1) ≡ b → other - 1 ≡ row - 1 →
          is_some (path_at (if b then with_path h.paths row None else h.paths) other) ≡ ((slot_at h.rows row).linked && nat_lt 0 ((slot_at h.rows row).references - 1))
      here true e same =
          let last : nat_lt 0 ((slot_at h.rows row).references - 1) ≡ false = grind (arith, nat_tests) in
          ap is_some (own-path h.paths row other None path-in same) ∙ none-and (slot_at h.rows row).linked ∙ ap (λ t. (slot_at h.rows row).linked && t) (sym last)
      here false e same =
          let held = is-held in
          let some : nat_lt 0 (slot_at h.rows row).references ≡ true = grind (arith, nat_tests) in
          let more : nat_lt 0 ((slot_at h.rows row).references - 1) ≡ true = grind (arith, nat_tests) in
          k.told other ∙ ap (λ p. (slice_index_or h.rows p opening_slot).linked && nat_lt 0 (slice_index_or h.rows p opening_slot).references) same
          ∙ ap (λ t. (slot_at h.rows row).linked && t) (some ∙ sym more)

  differ-left : (b : Bool) → (place other : ℕ) (p : Path) → slice_index_or (if b then with_path h.paths row None else h.paths) place None ≡ Some p →
      slice_index_or (if b then with_path h.paths row None else h.paths) other None ≡ Some p → place ≡ other
  differ-left false place other p e f = k.differ place other p e f
  differ-left true place other p e f = k.differ place other p (stood place e) (stood other f)
    where
      stood : (place : ℕ) → slice_index_or (with_path h.paths row None) place None ≡ Some p → slice_index_or h.paths place None ≡ Some p
      stood place e = elim (came h.paths (row - 1) place None p path-in e) [ inl new ↦ absurd (let none = new.1 in cc) | inr old ↦ old.1 ]

  -- the counts when the reference has gone
  pub counted-left : {c1 : NodeMap ℕ} → HoldsLess counts c1 (path_at h.paths row) → mount < 16 → IsCounted (left h at row) c1 (lowered used mount)
  unfolding holders_at uses_of
  counted-left {c1} o m = record {
    places = record {
      rows = length-set h.rows (row - 1) (released_slot (slot_at h.rows row)) ∙ k.places.rows;
      paths = some-length ((slot_at h.rows row).references == 1) ∙ k.places.paths;
      references = length-set h.sessions.references at None ∙ k.places.references;
      folders = k.places.folders;
      mounts = k.places.mounts;
      root = k.places.root;
    };
    numbers = length-set used mount (slice_index_or used mount 0 - 1) ∙ k.numbers;
    numbered = λ place x e. elim (came h.sessions.references at place None x at-in e) [ inl new ↦ absurd (let none = new.1 in cc) | inr old ↦ k.numbered place x old.1 ];
    live = λ place x e.
        at-slot (slot_file x.file.row) h.rows row x.file.row released_slot row-in (λ s. refl)
        ∙ elim (came h.sessions.references at place None x at-in e) [ inl new ↦ absurd (let none = new.1 in cc) | inr old ↦ k.live place x old.1 ];
    references = λ other some.
        let sum = sum-left other in
        let told = k.references other some in
        elim (same-or-other (other - 1) (row - 1)) [
          | inl e ↦
              let slot : (slot_at (with_slot h.rows row released_slot) other).references ≡ (slot_at h.rows other).references - 1 =
              ap (λ s. s.references) (own-slot h.rows row other released_slot row-in e) ∙ ap (λ p. (slice_index_or h.rows p opening_slot).references - 1) (sym e) in
              let one : one_if (row == other) ≡ 1 = ap (λ b. one_if (row == b)) (sym (same-row other some e)) ∙ ap one_if (same-number row) in
              omega (arith, sum, told, slot, one)
          | inr apart ↦
              let slot : (slot_at (with_slot h.rows row released_slot) other).references ≡ (slot_at h.rows other).references = ap (λ s. s.references) (other-slot h.rows row other released_slot apart) in
              let none : one_if (row == other) ≡ 0 = ap one_if (different-number row other (λ e. apart (ap (λ x. x - 1) (sym e)))) in
              omega (arith, sum, told, slot, none)
        ];
    told = told-left ((slot_at h.rows row).references == 1) refl;
    differ = differ-left ((slot_at h.rows row).references == 1);
    dentries = λ q.
        let lowers = o q in
        let told = k.dentries q in
        let own : one_referred h.paths q (reference_in h at) ≡ one_where q (path_at h.paths row) = ap (one_referred h.paths q) g.there ∙ ap (λ f. one_where q (path_at h.paths f.row)) g.file_is in
        let sum : sum_by (one_referred h.paths q) (slice_set h.sessions.references at None) + one_referred h.paths q (reference_in h at) ≡ sum_by (one_referred h.paths q) h.sessions.references + 0 =
        sum_by-set (one_referred h.paths q) h.sessions.references at None None at-in in
        let same = sum-same (one_referred (left h at row).paths q) (one_referred h.paths q) (slice_set h.sessions.references at None) (stays ((slot_at h.rows row).references == 1) refl q) in
        omega (arith, lowers, told, own, sum, same);
    uses = λ number w.
        let size = k.numbers in
        let lowers = lowered-at used mount number (omega (arith, size, m)) (is-used m) in
        let told = k.uses number w in
        let own : one_if (refers_to_mount number (reference_in h at)) ≡ one_if (mount == number) = ap (λ x. one_if (refers_to_mount number x)) g.there ∙ ap (λ x. one_if (x == number)) g.mount_is in
        let sum : sum_by (λ x. one_if (refers_to_mount number x)) (slice_set h.sessions.references at None) + one_if (refers_to_mount number (reference_in h at)) ≡ sum_by (λ x. one_if (refers_to_mount number x)) h.sessions.references + 0 =
        sum_by-set (λ x. one_if (refers_to_mount number x)) h.sessions.references at None None at-in in
        omega (arith, lowers, told, own, sum);
  }
