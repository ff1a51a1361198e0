use Rattle.std.proofs.Common.{◌≡◌, ◌+◌, ◌≤◌, ◌++◌, map, length}
use Rattle.std.specs.Prelude.{vec_len, vec_capacity}
use Rattle.std.specs.Vec.Iter.{into_iter_items}
use Rattle.vfs_model.specs.UmountSteps.{kept_node}
use Rattle.plain_mounts.proofs.leaving.kept_names.Given as goal

abbrev pub invariant-loop-path : goal.invariant-loop-path
invariant-loop-path l = record {
  kept : l.kept.items ++ map (λ entry. (entry.0, kept_node l.namespace entry.1)) (into_iter_items l.path-iterator)
      ≡ map (λ entry. (entry.0, kept_node l.namespace entry.1)) l.fn.tree;
  room : vec_len l.kept + length (into_iter_items l.path-iterator) ≤ vec_capacity l.kept;
}
