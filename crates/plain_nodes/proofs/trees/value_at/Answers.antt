use Rattle.std.proofs.Common.{sym, ◌∙◌}
use Rattle.plain_nodes.proofs.Entries.{found_at, passed_at}
use Rattle.plain_nodes.proofs.trees.value_at.Goals as goal

pub returns-then-same_path : goal.returns-then-same_path
returns-then-same_path g c =
    sym (found_at c.args.path.now c.args.entries.now c.loop-entry.entry-index c.entry-item.result c.loop-entry-test.true c.entry-item.is (cc (c.as_names.ensures.value, c.same_path.ensures, c.if-same_path.true)))
    ∙ c.loop-entry.invariant

pub loop-entry-preserved : goal.loop-entry-preserved
loop-entry-preserved g c =
    sym (passed_at c.args.path.now c.args.entries.now c.loop-entry.entry-index c.entry-item.result c.loop-entry-test.true c.entry-item.is (cc (c.as_names.ensures.value, c.same_path.ensures, c.if-same_path.false)))
    ∙ c.loop-entry.invariant
