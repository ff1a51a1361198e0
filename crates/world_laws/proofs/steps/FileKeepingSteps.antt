-- Opening, mapping and giving up keep what holds between steps.
use Rattle.std.proofs.Common.{◌≡◌, ℕ, ◌+◌, ◌-◌, ◌*◌, ◌<◌, ◌≤◌, Bool, true, false, ◌&&◌, ◌==◌, Option, Some, None, is_none, List, length, take, drop, slice_index_or, ◌⊎◌, inl, inr, if◌then◌else◌, refl, sym, ap, ◌∙◌, arith}
use Rattle.std.proofs.lemmas.Bool.{ltb-false}
use Rattle.std.proofs.lemmas.List.{get_or_past, get_or-take, get_or-drop, length-take}
use Rattle.std.proofs.lemmas.List.Sums.{passes_at_first}
use Rattle.std.specs.List.{position_or_len}
use Rattle.std.specs.Prelude.{nat_lt, slice_range}
use Rattle.vfs_base.specs.declared.errno.Errno.TheVariants as errno
use Rattle.vfs_base.specs.declared.ids.HoldId.{HoldId}
use Rattle.vfs_model.specs.Chain.{refuse◌when◌}
use Rattle.vfs_model.specs.Namespace.{references_of, with_reference}
use Rattle.vfs_model.specs.OpenStep.{least_free_number}
use Rattle.vfs_model.specs.ReferenceSteps.{close_step, give_up_step, in_role, is_device_kind, map_step, reference_at, same_role, unmap_step}
use Rattle.vfs_model.specs.declared.namespace.Namespace.{Namespace}
use Rattle.vfs_model.specs.declared.namespace.Reference.{Reference}
use Rattle.vfs_model.specs.declared.namespace.Role.{Role}
use Rattle.vfs_model.specs.declared.namespace.Role.TheVariants as role
use Rattle.world_laws.proofs.steps.Keeping.{Kept, live-row, lost-kept, names-kept, then-kept, wanted-kept}
use Rattle.world_laws.proofs.lists.Lists.{below-or-past, some-within}
use Rattle.world_laws.proofs.lists.Passing.{refuse-passed}
use Rattle.world_laws.proofs.parts.Referring.{refer-stands, unrefer-stands}
use Rattle.world_laws.proofs.parts.Standing.{Nothing, Stands}

-- the place of a session's reference
abbrev pub place_of : ℕ → ℕ → ℕ
place_of k number = 32 * (k - 1) + (number - 1)

-- a place of a part of a list
pub range-at : {X : Type 0} (xs : List X) (a b i : ℕ) (d : X) → i < b - a → slice_index_or (slice_range xs a b) i d ≡ slice_index_or xs (a + i) d
range-at xs a b i d l = get_or-take (b - a) (drop a xs) i d l ∙ get_or-drop a xs i d

length-range : {X : Type 0} (xs : List X) (a b : ℕ) → length (slice_range xs a b) ≤ b - a
length-range xs a b = length-take-most (b - a) (drop a xs)
  where
    length-take-most : {X : Type 0} (n : ℕ) (ys : List X) → length (take n ys) ≤ n
    length-take-most n ys = let e = length-take n ys in omega (arith, e)

in-role : (as_role : Role) (found : Option Reference) (reference : Reference) → in_role as_role found ≡ Some reference → found ≡ Some reference
in-role as_role None reference h = absurd (cc)
in-role as_role (Some other) reference h = same (same_role as_role other.role) h
  where
    same : (b : Bool) → (if b then Some other else None) ≡ Some reference → Some other ≡ Some reference
    same true e = e
    same false e = absurd (cc)

-- the reference of a name stands at its place
reference-place : (n : Namespace) (k : ℕ) (hold : HoldId) (as_role : Role) (reference : Reference) → reference_at n k hold as_role ≡ Some reference →
    slice_index_or n.references (place_of k hold.number) None ≡ Some reference
reference-place n k hold as_role reference h = named (hold.session == k && nat_lt 0 hold.number) h
  where
    named : (b : Bool) → (if b then in_role as_role (slice_index_or (references_of n k) (hold.number - 1) None) else None) ≡ Some reference →
        slice_index_or n.references (place_of k hold.number) None ≡ Some reference
    named false e = absurd (cc)
    named true e =
        let found : slice_index_or (references_of n k) (hold.number - 1) None ≡ Some reference = in-role as_role _ reference e in
        let within = some-within (references_of n k) (hold.number - 1) reference found in
        let most = length-range n.references (32 * (k - 1)) (32 * k) in
        sym (range-at n.references (32 * (k - 1)) (32 * k) (hold.number - 1) None (omega (arith, within, most))) ∙ found

give_up-kept : (as_role : Role) (n : Namespace) (k : ℕ) (hold : HoldId) → Stands Nothing n → Kept n (give_up_step as_role n k hold)
unfolding give_up_step
give_up-kept as_role n k hold s =
    wanted-kept n errno.EBADF (reference_at n k hold as_role) _ (λ reference h.
    let there = reference-place n k hold as_role reference h in
    let good = s.live.held (place_of k hold.number) reference there in
    let row = live-row n reference.file reference.kind reference.mount s.sizes.live_files good.0 in
    lost-kept n (with_reference n k hold.number None) reference.file.row row.0 row.1 (unrefer-stands n (place_of k hold.number) reference there s) (refl, refl, refl, refl))

pub close-kept : (n : Namespace) (k : ℕ) (hold : HoldId) → Stands Nothing n → Kept n (close_step n k hold)
close-kept n k hold s = give_up-kept role.Open n k hold s

pub unmap-kept : (n : Namespace) (k : ℕ) (hold : HoldId) → Stands Nothing n → Kept n (unmap_step n k hold)
unmap-kept n k hold s = give_up-kept role.Map n k hold s

none-is : {X : Type 0} (found : Option X) → is_none found ≡ true → found ≡ None
none-is None h = refl
none-is (Some x) h = absurd (cc)

-- the least free number of a session is that of a place without a reference
pub free-place : (n : Namespace) (k : ℕ) → 0 < k → nat_lt 32 (least_free_number n k) ≡ false → slice_index_or n.references (place_of k (least_free_number n k)) None ≡ None
free-place n k l h =
    let small : least_free_number n k ≤ 32 = ltb-false 32 (least_free_number n k) h in
    let at : slice_index_or (references_of n k) (position_or_len is_none (references_of n k)) None ≡ None = free (below-or-past (position_or_len is_none (references_of n k)) (length (references_of n k))) in
    ap (λ p. slice_index_or n.references (32 * (k - 1) + p) None) (omega arith)
    ∙ sym (range-at n.references (32 * (k - 1)) (32 * k) (position_or_len is_none (references_of n k)) None (omega (arith, small, l))) ∙ at
  where
    free : (position_or_len is_none (references_of n k) < length (references_of n k)) ⊎ (length (references_of n k) ≤ position_or_len is_none (references_of n k)) →
        slice_index_or (references_of n k) (position_or_len is_none (references_of n k)) None ≡ None
    free (inl m) = none-is _ (passes_at_first is_none (references_of n k) None m)
    free (inr m) = get_or_past (references_of n k) (position_or_len is_none (references_of n k)) None m

pub map-kept : (n : Namespace) (k : ℕ) (hold : HoldId) → 0 < k → Stands Nothing n → Kept n (map_step n k hold)
unfolding map_step
map-kept n k hold l s =
    wanted-kept n errno.EBADF (reference_at n k hold role.Open) _ (λ opened h.
    then-kept n (refuse errno.ENODEV when (is_device_kind opened.kind)) _ (λ device.
    then-kept n (refuse errno.EMFILE when (nat_lt 32 (least_free_number n k))) _ (λ room.
    let there = reference-place n k hold role.Open opened h in
    let good = s.live.held (place_of k hold.number) opened there in
    let free = free-place n k l (refuse-passed errno.EMFILE (nat_lt 32 (least_free_number n k)) room) in
    names-kept n (with_reference n k (least_free_number n k) (Some (record opened { role = role.Map })))
    (refer-stands Nothing n (place_of k (least_free_number n k)) (record opened { role = role.Map }) free good s) (refl, refl, refl, refl))))
