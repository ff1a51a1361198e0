use Rattle.std.proofs.Common.{rules, ◌≡◌, ◌≤◌, length, ◌+◌, ◌∷◌, All, subst, sym, arith, ap}
use Rattle.std.specs.Map.{values_of}
use Rattle.std.specs.Vec.Iter.{into_iter_items}
use Rattle.vfs_model.specs.Holders.{count_one}
use Rattle.plain_reports.proofs.Counts.{counts_fit}
use Rattle.plain_reports.proofs.counting.counted.Goals as goal

pub loop-key-preserved : goal.loop-key-preserved
loop-key-preserved g c =
    let rest = into_iter_items c.next.new.self in
    let items : into_iter_items c.loop-key.key-iterator ≡ c.in-Some.key ∷ rest = search rules in
    let made : c.count_one.new.counts.entries ≡ count_one g.K.Ord.cmp c.loop-key.counts.entries c.in-Some.key = search rules in
    let one : length (into_iter_items c.loop-key.key-iterator) ≡ length (c.in-Some.key ∷ rest) = ap length items in
    let size : length rest + 1 ≤ length c.args.keys = omega (arith, one, c.loop-key.invariant.2) in
    let room : All (λ count. count + (length rest + 1) ≤ length c.args.keys) (values_of c.loop-key.counts.entries) =
    λ k d h. omega (arith, one, c.loop-key.invariant.1 k d h) in
    let fits = counts_fit g.K.Ord.cmp c.loop-key.counts.entries c.in-Some.key (length rest) (length c.args.keys) size room in
    let kept : All (λ count. count + length rest ≤ length c.args.keys) (values_of c.count_one.new.counts.entries) =
    subst (λ entries. All (λ count. count + length rest ≤ length c.args.keys) (values_of entries)) (sym made) fits in
    (search rules, kept, omega (arith, size))
