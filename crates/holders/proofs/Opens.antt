-- A reference comes, of an open file.
use Rattle.std.proofs.Common.{◌≡◌, ◌≢◌, ℕ, ◌+◌, ◌-◌, ◌<◌, ◌≤◌, ◌==◌, ◌&&◌, true, false, Option, Some, None, is_some, List, length, inl, inr, refl, sym, ap, subst, ◌∙◌, arith, get_or, slice_index_or, slice_set, if◌then◌else◌}
use Rattle.std.specs.Prelude.{nat_lt}
use Rattle.std.proofs.lemmas.Bool.Decides.{nat_tests}
use Rattle.std.proofs.lemmas.List.{get_or_default, length-set}
use Rattle.std.proofs.lemmas.List.Sums.{sum_by-set}
use Rattle.std.specs.List.{sum_by}
use Rattle.vfs_base.specs.Path.{Path}
use Rattle.vfs_base.specs.declared.ids.FileId.{FileId}
use Rattle.vfs_model.specs.FileLife.{refers_to}
use Rattle.vfs_model.specs.UmountSteps.{refers_to_mount}
use Rattle.vfs_model.specs.declared.namespace.Reference.{Reference}
use Rattle.node_maps.specs.NodeMap.{NodeMap}
use Rattle.dentry_table.specs.DentryTable.{Raises, one_at}
use Rattle.vnode_table.specs.Layout.{one_if}
use Rattle.vnode_table.specs.SlotTable.{file_at, held_slot, opening_slot, slot_at, with_slot}
use Rattle.vnode_table.specs.declared.vnode_slot.VnodeSlot.{VnodeSlot}
use Rattle.holders.proofs.Numbers.{raised, raised-at, same-number, sum-same}
use Rattle.holders.proofs.Referring.{came, same-some, unreferred}
use Rattle.holders.proofs.Slots.{at-slot, other-path, other-slot, own-path, own-slot, same-or-other}
use Rattle.holders.specs.Counted.{IsCounted, reference_in}
use Rattle.holders.specs.Holding.{Holding, MayStand, holders_at, one_referred, one_where, path_at, references_to, uses_of, with_path}

-- the file of a slot
abbrev pub slot_file : ℕ → VnodeSlot → Option FileId
slot_file row slot = if slot.bound then Some (record { row = row; generation = slot.generation }) else None

pub different-number : (a b : ℕ) → a ≢ b → (a == b) ≡ false
different-number a b h = elim (a == b) as (λ t. (a == b) ≡ t → t ≡ false) [ true ↦ λ e. absurd (h (grind (arith, nat_tests))) | false ↦ λ e. refl ] refl

-- the reference at a free place, of a file that is linked
pub record Comes (h : Holding) (at : ℕ) (r : Reference) (path : Path) : Type 0 where
  pub within : at < 256
  pub free : reference_in h at ≡ None
  pub first : 1 ≤ r.file.row
  pub last : r.file.row ≤ 1024
  pub bound : file_at h.rows r.file.row ≡ Some r.file
  pub linked : (slot_at h.rows r.file.row).linked ≡ true
  pub stands : MayStand h.paths r.file.row path
  pub mount : r.mount < 16

-- what is held when it has come
abbrev pub opened : Holding → ℕ → Reference → Path → Holding
opened h at r path = record h {
  rows = with_slot h.rows r.file.row held_slot;
  paths = with_path h.paths r.file.row (Some path);
  sessions = record h.sessions { references = slice_set h.sessions.references at (Some r) };
}

module _ {h : Holding} {counts : NodeMap ℕ} {used : List ℕ} (k : IsCounted h counts used) (at : ℕ) (r : Reference) (path : Path) (c : Comes h at r path) where
  abbrev pub row : ℕ
  row = r.file.row

  row-in : row - 1 < length h.rows
  row-in = let size = k.places.rows in let last = c.last in let first = c.first in omega (arith, size, first, last)

  path-in : row - 1 < length h.paths
  path-in = let size = k.places.paths in let last = c.last in let first = c.first in omega (arith, size, first, last)

  at-in : at < length h.sessions.references
  at-in = let size = k.places.references in let within = c.within in omega (arith, size, within)

  same-row : (other : ℕ) → 0 < other → other - 1 ≡ row - 1 → row ≡ other
  same-row other some e = let first = c.first in omega (arith, some, e, first)

  -- the references before stand where they stood
  stays : (q : Path) (place : ℕ) (d : Option Reference) → place < length h.sessions.references →
      one_referred (with_path h.paths row (Some path)) q (get_or h.sessions.references place d) ≡ one_referred h.paths q (get_or h.sessions.references place d)
  stays q place d l = go (get_or h.sessions.references place d) (get_or_default h.sessions.references place None d l)
    where
      go : (o : Option Reference) → reference_in h place ≡ o → one_referred (with_path h.paths row (Some path)) q o ≡ one_referred h.paths q o
      go None e = refl
      go (Some x) e = elim (same-or-other (x.file.row - 1) (row - 1)) [
        | inr other ↦ ap (one_where q) (other-path h.paths row x.file.row (Some path) other)
        | inl same ↦ elim c.stands.own [
          | inr own ↦ ap (one_where q) (own-path h.paths row x.file.row (Some path) path-in same ∙ sym own ∙ ap (λ p. slice_index_or h.paths p None) (sym same))
          | inl none ↦
              let untold : ((slot_at h.rows row).linked && nat_lt 0 (slot_at h.rows row).references) ≡ false = sym (k.told row) ∙ ap is_some none in
              let few : nat_lt 0 (slot_at h.rows row).references ≡ false = sym (ap (λ b. b && nat_lt 0 (slot_at h.rows row).references) c.linked) ∙ untold in
              let zero : references_to h row ≡ 0 = let told = k.references row c.first in grind (arith, nat_tests) in
              absurd (unreferred k row zero place x l e (sym (same-row x.file.row (k.numbered place x e) same)))
        ]
      ]

  -- the counts when the reference has come
  pub counted-open : {c1 : NodeMap ℕ} → Raises counts c1 path → IsCounted (opened h at r path) c1 (raised used r.mount)
  unfolding holders_at uses_of
  counted-open {c1} o = record {
    places = record {
      rows = length-set h.rows (row - 1) (held_slot (slot_at h.rows row)) ∙ k.places.rows;
      paths = length-set h.paths (row - 1) (Some path) ∙ k.places.paths;
      references = length-set h.sessions.references at (Some r) ∙ k.places.references;
      folders = k.places.folders;
      mounts = k.places.mounts;
      root = k.places.root;
    };
    numbers = length-set used r.mount (slice_index_or used r.mount 0 + 1) ∙ k.numbers;
    numbered = λ place x e. elim (came h.sessions.references at place (Some r) x at-in e) [
      | inl new ↦ subst (λ y. 0 < y.file.row) (same-some r x new.1) c.first
      | inr old ↦ k.numbered place x old.1
    ];
    live = λ place x e.
        at-slot (slot_file x.file.row) h.rows row x.file.row held_slot row-in (λ s. refl)
        ∙ elim (came h.sessions.references at place (Some r) x at-in e) [
          | inl new ↦ subst (λ y. file_at h.rows y.file.row ≡ Some y.file) (same-some r x new.1) c.bound
          | inr old ↦ k.live place x old.1
        ];
    references = λ other some.
        let sum : references_to (opened h at r path) other + 0 ≡ references_to h other + one_if (row == other) =
        ap (λ o. references_to (opened h at r path) other + one_if (refers_to other o)) (sym c.free)
        ∙ sum_by-set (λ x. one_if (refers_to other x)) h.sessions.references at (Some r) None at-in in
        let told = k.references other some in
        elim (same-or-other (other - 1) (row - 1)) [
          | inl e ↦
              let slot : (slot_at (with_slot h.rows row held_slot) other).references ≡ (slot_at h.rows other).references + 1 =
              ap (λ s. s.references) (own-slot h.rows row other held_slot row-in e) ∙ ap (λ p. (slice_index_or h.rows p opening_slot).references + 1) (sym e) in
              let one : one_if (row == other) ≡ 1 = ap (λ b. one_if (row == b)) (sym (same-row other some e)) ∙ ap one_if (same-number row) in
              omega (arith, sum, told, slot, one)
          | inr apart ↦
              let slot : (slot_at (with_slot h.rows row held_slot) other).references ≡ (slot_at h.rows other).references = ap (λ s. s.references) (other-slot h.rows row other held_slot apart) in
              let none : one_if (row == other) ≡ 0 = ap one_if (different-number row other (λ e. apart (ap (λ x. x - 1) (sym e)))) in
              omega (arith, sum, told, slot, none)
        ];
    told = λ other. elim (same-or-other (other - 1) (row - 1)) [
      | inl e ↦
          let more : nat_lt 0 ((slot_at h.rows row).references + 1) ≡ true = grind (arith, nat_tests) in
          ap is_some (own-path h.paths row other (Some path) path-in e)
          ∙ sym (ap (λ s. s.linked && nat_lt 0 s.references) (own-slot h.rows row other held_slot row-in e)
          ∙ ap (λ b. b && nat_lt 0 ((slot_at h.rows row).references + 1)) c.linked ∙ more)
      | inr apart ↦
          ap is_some (other-path h.paths row other (Some path) apart) ∙ k.told other
          ∙ sym (ap (λ s. s.linked && nat_lt 0 s.references) (other-slot h.rows row other held_slot apart))
    ];
    differ = λ place other p e f. elim (came h.paths (row - 1) place (Some path) p path-in e) [
      | inl new ↦ elim (came h.paths (row - 1) other (Some path) p path-in f) [
        | inl too ↦ new.0 ∙ sym too.0
        | inr old ↦ new.0 ∙ sym (c.stands.alone other (old.1 ∙ sym new.1))
      ]
      | inr old ↦ elim (came h.paths (row - 1) other (Some path) p path-in f) [
        | inl new ↦ c.stands.alone place (old.1 ∙ sym new.1) ∙ sym new.0
        | inr too ↦ k.differ place other p old.1 too.1
      ]
    ];
    dentries = λ q.
        let raises = o.counts q in
        let told = k.dentries q in
        let paths = with_path h.paths row (Some path) in
        let here : one_where q (path_at paths row) ≡ one_at q path = ap (one_where q) (own-path h.paths row row (Some path) path-in refl) in
        let sum : sum_by (one_referred paths q) (slice_set h.sessions.references at (Some r)) + 0 ≡ sum_by (one_referred paths q) h.sessions.references + one_where q (path_at paths row) =
        ap (λ x. sum_by (one_referred paths q) (slice_set h.sessions.references at (Some r)) + one_referred paths q x) (sym c.free)
        ∙ sum_by-set (one_referred paths q) h.sessions.references at (Some r) None at-in in
        let same : sum_by (one_referred paths q) h.sessions.references ≡ sum_by (one_referred h.paths q) h.sessions.references = sum-same (one_referred paths q) (one_referred h.paths q) h.sessions.references (stays q) in
        omega (arith, raises, told, here, sum, same);
    uses = λ number w.
        let size = k.numbers in
        let mount = c.mount in
        let raises = raised-at used r.mount number (omega (arith, size, mount)) in
        let told = k.uses number w in
        let sum : sum_by (λ x. one_if (refers_to_mount number x)) (slice_set h.sessions.references at (Some r)) + 0 ≡ sum_by (λ x. one_if (refers_to_mount number x)) h.sessions.references + one_if (r.mount == number) =
        ap (λ x. sum_by (λ x. one_if (refers_to_mount number x)) (slice_set h.sessions.references at (Some r)) + one_if (refers_to_mount number x)) (sym c.free)
        ∙ sum_by-set (λ x. one_if (refers_to_mount number x)) h.sessions.references at (Some r) None at-in in
        omega (arith, raises, told, sum);
  }
