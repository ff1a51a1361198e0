-- References that come and go among all.
use Rattle.std.proofs.Common.{◌≡◌, ◌≢◌, ℕ, ◌+◌, ◌-◌, ◌*◌, ◌<◌, ◌≤◌, ◌==◌, true, Option, Some, None, unwrap_or, List, length, drop, slice_range, ◌⊎◌, inl, inr, sym, ap, ◌∙◌, arith, slice_index_or, slice_set, if◌then◌else◌}
use Rattle.std.specs.Prelude.{nat_lt}
use Rattle.std.proofs.lemmas.Bool.Decides.{nat_tests}
use Rattle.std.proofs.lemmas.List.{get_or-drop, get_or-set_other, get_or-set_same, get_or-take}
use Rattle.vfs_base.specs.declared.limits.TheConstants.{HOLDS}
use Rattle.vfs_model.specs.FileLife.{refers_to}
use Rattle.vfs_model.specs.declared.namespace.Reference.{Reference}
use Rattle.node_maps.specs.NodeMap.{NodeMap}
use Rattle.session_holds.specs.SessionTable.{SessionTable, reference_at}
use Rattle.vnode_table.specs.Layout.{one_if}
use Rattle.holders.proofs.Numbers.{same-number, sum-one}
use Rattle.holders.proofs.Slots.{same-or-other}
use Rattle.holders.specs.Counted.{IsCounted, reference_in}
use Rattle.holders.specs.Holding.{Holding, references_to}

-- a number of a session stands at its place among all references
pub numbered-place : (table : SessionTable) (k number : ℕ) → 1 ≤ k → 1 ≤ number → number ≤ 32 → reference_at table k number ≡ slice_index_or table.references (HOLDS * (k - 1) + (number - 1)) None
numbered-place table k number least from to =
    let some : nat_lt 0 number ≡ true = grind (arith, nat_tests) in
    let within : number - 1 < HOLDS * k - HOLDS * (k - 1) = omega (arith, least, from, to) in
    ap (λ b. if b then slice_index_or (slice_range table.references (HOLDS * (k - 1)) (HOLDS * k)) (number - 1) None else None) some
    ∙ get_or-take (HOLDS * k - HOLDS * (k - 1)) (drop (HOLDS * (k - 1)) table.references) (number - 1) None within
    ∙ get_or-drop (HOLDS * (k - 1)) table.references (number - 1) None

pub same-some : {X : Type 0} (x y : X) → Some x ≡ Some y → x ≡ y
same-some x y e = ap (λ o. unwrap_or o x) e

-- what stands at a place of a list, of which one item was set
pub came : {X : Type 0} (xs : List (Option X)) (at place : ℕ) (new : Option X) (x : X) → at < length xs → slice_index_or (slice_set xs at new) place None ≡ Some x →
    ((place ≡ at) × (new ≡ Some x)) ⊎ ((place ≢ at) × (slice_index_or xs place None ≡ Some x))
came xs at place new x l e = elim (same-or-other place at) [
  | inl same ↦ inl (same, sym (get_or-set_same xs at new None l) ∙ ap (λ p. slice_index_or (slice_set xs at new) p None) (sym same) ∙ e)
  | inr other ↦ inr (other, sym (get_or-set_other xs at place new None other) ∙ e)
]

module _ {h : Holding} {counts : NodeMap ℕ} {used : List ℕ} (k : IsCounted h counts used) where
  -- a row that no reference names
  pub unreferred : (row : ℕ) → references_to h row ≡ 0 → (place : ℕ) (r : Reference) → place < length h.sessions.references → reference_in h place ≡ Some r → r.file.row ≢ row
  unreferred row none place r l e same =
      let one : one_if (refers_to row (reference_in h place)) ≤ references_to h row = sum-one (λ reference. one_if (refers_to row reference)) h.sessions.references place None l in
      let names : one_if (refers_to row (reference_in h place)) ≡ 1 = ap (λ o. one_if (refers_to row o)) e ∙ ap (λ a. one_if (a == row)) same ∙ ap one_if (same-number row) in
      absurd (omega (arith, one, names, none))
