use Rattle.std.proofs.Common.{◌≡◌, true, map, subst, ap, ◌∙◌, rules}
use Rattle.std.proofs.lemmas.List.{map_push}
use Rattle.std.proofs.lemmas.Map.Iter.{iter_end}
use Rattle.std.specs.Map.Iter.{deref_pair}
use Rattle.vfs_base.specs.Path.{AllAre, IsPath}
use Rattle.cell_volume.proofs.BelowRanges.{all-paths, all-push}
use Rattle.cell_volume.proofs.CellLoops.{devices-with_mark_of, marked-more}
use Rattle.cell_volume.proofs.MountedLemmas.{ordered-entries}
use Rattle.cell_volume.proofs.RecordFiles.{Nodes}
use Rattle.cell_volume.specs.MountedVolume.{has_file}
use Rattle.cell_volume.proofs.cells.mark_files.Goals as goal

pub loop-path-preserved : goal.loop-path-preserved
loop-path-preserved g c = record {
  devices = rw c.mark_node.ensures (devices-with_mark_of c.loop-path.cells.items c.in-Some.node.now true ∙ c.loop-path.invariant.devices);
  marks = rw (c.mark_node.ensures, map_push) (marked-more c.loop-path.cells.items (map deref_pair c.loop-path.yielded) c.in-Some.path.now c.in-Some.node.now c.loop-path.invariant.marks);
  paths = rw map_push (all-push (λ entry. IsPath entry.0) (map deref_pair c.loop-path.yielded) (c.in-Some.path.now, c.in-Some.node.now) c.loop-path.invariant.paths c.as_names-names.ensures.is_path);
}

pub returns-clause-marks : goal.returns-clause-marks
returns-clause-marks g c =
    let whole : map deref_pair c.loop-path.yielded ≡ c.args.nodes.now.entries = search (rules, iter_end) in
    λ place l. c.loop-path.invariant.marks place l ∙ ap (λ (kept : Nodes). has_file kept place) whole

pub returns-clause-ordered : goal.returns-clause-ordered
returns-clause-ordered g c = ordered-entries c.args.nodes.now.entries c.iter-path-items.ensures.ordered

pub returns-clause-paths : goal.returns-clause-paths
returns-clause-paths g c =
    let whole : map deref_pair c.loop-path.yielded ≡ c.args.nodes.now.entries = search (rules, iter_end) in
    all-paths c.args.nodes.now.entries (subst (λ (kept : Nodes). AllAre (λ entry. IsPath entry.0) kept) whole c.loop-path.invariant.paths)
