use Rattle.vfs_plain.proofs.Calls.{adds-count, adds-start}
use Rattle.vfs_plain.proofs.taking.new_sessions.Goals as goal

pub loop-place-preserved : goal.loop-place-preserved
loop-place-preserved c = record {
  count = adds-count c.loop-place.sessions.items c.add_session.new.sessions.items c.args.deck.now.acts c.loop-place.place
      c.loop-place.invariant.count c.in_ok-add_session.ensures;
  start = adds-start c.loop-place.sessions.items c.add_session.new.sessions.items c.args.deck.now.acts c.loop-place.place
      c.loop-place.invariant.count c.in_ok-add_session.ensures c.loop-place.invariant.start;
}
