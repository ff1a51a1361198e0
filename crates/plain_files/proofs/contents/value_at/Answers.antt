use Rattle.std.proofs.Common.{rules, sym, ◌∙◌}
use Rattle.plain_files.proofs.EntryLemmas.{found_at, passed_at}
use Rattle.plain_files.proofs.contents.value_at.Goals as goal

pub returns-then-is_eq : goal.returns-then-is_eq
returns-then-is_eq g c =
    sym (found_at c.args.path.now c.args.entries.now c.loop-entry.entry-index c.entry-item.result c.loop-entry-test.true c.entry-item.is (search rules))
    ∙ c.loop-entry.invariant

pub loop-entry-preserved : goal.loop-entry-preserved
loop-entry-preserved g c =
    sym (passed_at c.args.path.now c.args.entries.now c.loop-entry.entry-index c.entry-item.result c.loop-entry-test.true c.entry-item.is (search rules))
    ∙ c.loop-entry.invariant
