-- The laws of the one order of paths, for the comparisons of `Path` and for maps by path.
use Rattle.std.specs.Prelude.{◌≡◌, nat_eq}
use Rattle.std.proofs.Common.{ap, subst}
use Rattle.std.specs.Bool.{one_answer}
use Rattle.std.specs.Cmp.{IsTotalOrder, IsEquivalence, Equal-is}
use Rattle.std.specs.Cmp.Lexicographic.{pointwise, slice_cmp, pointwise_decides, bytes_decides}
use Rattle.std.specs.FinMap.{IsAntisymmetric, nat_cmp-IsAntisymmetric, slice_cmp-IsAntisymmetric}
use Rattle.std.specs.Ordering.{nat_cmp, ordering_then, is_eq, eq_by_cmp}
use Rattle.std.specs.declared.cmp.Ordering.{Ordering}
use Rattle.std.specs.declared.cmp.Ordering.TheVariants.{Less, Equal, Greater}
use Rattle.std.proofs.lemmas.Cmp.{on_total, then_total, tied_itself, lists_total, lists_equiv, nat_list_cmp_total, nat_list_eq_equiv}
use Rattle.vfs_base.specs.Path.{Path, printed, names_cmp, path_cmp}

pub path_equiv : IsEquivalence (pointwise (pointwise nat_eq))
path_equiv = lists_equiv nat_list_eq_equiv

pub path_cmp_total : IsTotalOrder path_cmp
path_cmp_total = then_total (on_total printed nat_list_cmp_total) (lists_total nat_list_cmp_total)

level_second : (a b : Ordering) → ordering_then a b ≡ Equal → b ≡ Equal
level_second Less b e = absurd (cc)
level_second Equal b e = e
level_second Greater b e = absurd (cc)

-- the order is exact: only a path itself is level with it
pub path_cmp_exact : IsAntisymmetric path_cmp
path_cmp_exact p q e =
    slice_cmp-IsAntisymmetric (slice_cmp-IsAntisymmetric nat_cmp-IsAntisymmetric) p q (
    level_second (slice_cmp nat_cmp (printed p) (printed q)) (names_cmp p q) e)

pub path_ties : (p q : Path) → pointwise (pointwise nat_eq) p q ≡ eq_by_cmp path_cmp p q
path_ties p q = one_answer _ _ (pointwise_decides bytes_decides p q) (
  λ e. path_cmp_exact p q ((Equal-is (path_cmp p q)).0 e),
  λ e. ap is_eq (subst (λ w. path_cmp p w ≡ Equal) e (tied_itself path_cmp_total p)),
)
