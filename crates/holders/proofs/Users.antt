-- A mount has users where its number says so.
use Rattle.std.proofs.Common.{◌≡◌, ℕ, ◌+◌, ◌<◌, ◌==◌, ◌||◌, Bool, true, false, List, [], ◌∷◌, refl, ap, ◌∙◌, arith, slice_index_or}
use Rattle.std.specs.Prelude.{nat_lt}
use Rattle.std.proofs.lemmas.Bool.Decides.{nat_tests}
use Rattle.std.proofs.lemmas.List.Sums.{sum_by-cons}
use Rattle.std.specs.List.{list_any, sum_by}
use Rattle.vfs_model.specs.UmountSteps.{refers_to_mount}
use Rattle.mount_tree.specs.MountList.{covering}
use Rattle.node_maps.specs.NodeMap.{NodeMap}
use Rattle.vnode_table.specs.Layout.{one_if}
use Rattle.holders.specs.Counted.{IsCounted}
use Rattle.holders.specs.Holding.{Holding, is_used, uses_of}

more-or : (a b : ℕ) → nat_lt 0 (a + b) ≡ (nat_lt 0 a || nat_lt 0 b)
more-or a b = elim (nat_lt 0 a) as (λ t. nat_lt 0 a ≡ t → nat_lt 0 (a + b) ≡ (t || nat_lt 0 b)) [
  | true ↦ λ e. grind (arith, nat_tests)
  | false ↦ λ e. let none : a + b ≡ b = grind (arith, nat_tests) in ap (nat_lt 0) none
] refl

one-some : (t : Bool) → nat_lt 0 (one_if t) ≡ t
one-some true = refl
one-some false = refl

any-sum : {X : Type 0} (test : X → Bool) (xs : List X) → nat_lt 0 (sum_by (λ x. one_if (test x)) xs) ≡ list_any test xs
any-sum test [] = refl
any-sum test (x ∷ xs) =
    ap (nat_lt 0) (sum_by-cons (λ x. one_if (test x)) x xs) ∙ more-or (one_if (test x)) (sum_by (λ x. one_if (test x)) xs)
    ∙ ap (λ t. t || nat_lt 0 (sum_by (λ x. one_if (test x)) xs)) (one-some (test x)) ∙ ap (λ t. test x || t) (any-sum test xs)

-- a mount's number is more than 0 where it has a user
pub used-is : {h : Holding} {counts : NodeMap ℕ} {used : List ℕ} → IsCounted h counts used → (number : ℕ) → number < 16 → nat_lt 0 (slice_index_or used number 0) ≡ is_used h number
unfolding uses_of
used-is {h} k number l =
    ap (nat_lt 0) (k.uses number l)
    ∙ more-or (sum_by (λ r. one_if (refers_to_mount number r)) h.sessions.references) (sum_by (λ f. one_if ((covering h.mounts f).number == number)) h.sessions.folders)
    ∙ ap (λ t. t || nat_lt 0 (sum_by (λ f. one_if ((covering h.mounts f).number == number)) h.sessions.folders)) (any-sum (refers_to_mount number) h.sessions.references)
    ∙ ap (λ t. list_any (refers_to_mount number) h.sessions.references || t) (any-sum (λ f. (covering h.mounts f).number == number) h.sessions.folders)
