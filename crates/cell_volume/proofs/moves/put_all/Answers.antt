use Rattle.std.proofs.Common.{◌∙◌}
use Rattle.vfs_base.proofs.PathMaps.{insert_entry-put}
use Rattle.vfs_base.specs.Path.{path_cmp}
use Rattle.cell_volume.proofs.MountedLemmas.{ordered-entries}
use Rattle.cell_volume.proofs.MovedRanges.{others-so-far, puts-next}
use Rattle.cell_volume.proofs.moves.put_all.Goals as goal

pub returns-in_err-copy-clause-others : goal.returns-in_err-copy-clause-others
returns-in_err-copy-clause-others c = others-so-far c.loop-path.path-index c.args.carried.now c.args.nodes.now.entries c.loop-path.nodes.entries c.loop-path.invariant.puts

pub returns-in_err-insert-clause-others : goal.returns-in_err-insert-clause-others
returns-in_err-insert-clause-others c =
    others-so-far c.loop-path.path-index c.args.carried.now c.args.nodes.now.entries c.insert.new.self.entries (c.in_err-insert.ensures.err ∙ c.loop-path.invariant.puts)

pub returns-clause-others : goal.returns-clause-others
returns-clause-others c = others-so-far c.loop-path.path-index c.args.carried.now c.args.nodes.now.entries c.loop-path.nodes.entries c.loop-path.invariant.puts

pub loop-path-preserved : goal.loop-path-preserved
loop-path-preserved c = record {
  puts =
      c.in_ok-insert.ensures.entries
      ∙ insert_entry-put path_cmp c.loop-path.nodes.entries c.in_ok-copy.field-0 c.loop-path-item.result.1
      ∙ puts-next c.loop-path.path-index c.args.carried.now c.args.nodes.now.entries c.loop-path.nodes.entries c.loop-path-item.result c.in_ok-copy.field-0
      c.loop-path-test.true c.loop-path-item.is c.in_ok-copy.ensures c.loop-path.invariant.puts;
  ordered = ordered-entries c.insert.new.self.entries c.insert.ensures.ordered;
}
