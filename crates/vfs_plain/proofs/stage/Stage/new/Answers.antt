use Rattle.std.proofs.Common.{refl}
use Rattle.vfs_plain.proofs.Staging.{all-start}
use Rattle.vfs_plain.proofs.stage.Stage.new.Goals as goal

pub returns : goal.returns
returns c = record {
  world = refl;
  sessions = all-start c.in_ok-new_sessions.field-0.items c.args.deck.now.acts c.in_ok-new_sessions.ensures.count c.in_ok-new_sessions.ensures.each;
  is_over = refl;
}
