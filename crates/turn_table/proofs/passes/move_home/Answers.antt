use Rattle.std.proofs.Common.{◌+◌, length, ap, ◌∙◌, length-append, arith}
use Rattle.turn_table.proofs.Homes.{empty_more, full_still, moved_more, taken_some}
use Rattle.turn_table.proofs.passes.move_home.Goals as goal

pub unwrap-requires : goal.unwrap-requires
unwrap-requires g c = taken_some _ _ c.loop-part.part _ c.loop-part.invariant.items c.take.ensures.value (c.requires.home c.loop-part.part c.loop-part-test.true)

pub loop-part-preserved : goal.loop-part-preserved
loop-part-preserved g c = let so_far = c.loop-part.invariant in record {
  count = ap length c.push_reserved.ensures.items ∙ (length-append c.loop-part.values.items _ ∙ ap (λ n. n + 1) so_far.count);
  room = (let same = c.push_reserved.ensures.capacity in let room = so_far.room in omega arith);
  items = c.take.ensures.others.0 ∙ so_far.items;
  len = c.take.ensures.others.2 ∙ so_far.len;
  full = full_still _ _ c.loop-part.part 1025 c.take.ensures.others.1 so_far.full;
  empty = empty_more _ _ c.loop-part.part c.take.ensures.others.1 so_far.empty;
  moved = moved_more _ _ _ _ c.loop-part.part c.unwrap.result c.take.result so_far.items so_far.count c.push_reserved.ensures.items c.take.ensures.value c.unwrap.ensures so_far.moved;
}
