use Rattle.std.proofs.Common.{◌≡◌, ◌+◌, ◌≤◌, length, fold, All}
use Rattle.std.specs.Map.{values_of}
use Rattle.std.specs.Vec.Iter.{into_iter_items}
use Rattle.vfs_model.specs.Holders.{count_one, counted}
use Rattle.plain_reports.proofs.counting.counted.Given as goal

abbrev pub invariant-loop-key : goal.invariant-loop-key
invariant-loop-key g l =
    let rest = length (into_iter_items l.key-iterator) in
    (fold (count_one g.K.Ord.cmp) l.counts.entries (into_iter_items l.key-iterator) ≡ counted g.K.Ord.cmp l.fn.keys)
    × (All (λ count. count + rest ≤ length l.fn.keys) (values_of l.counts.entries))
    × (rest ≤ length l.fn.keys)
