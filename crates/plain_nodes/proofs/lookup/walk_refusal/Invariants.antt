use Rattle.std.proofs.Common.{◌≡◌, drop, take}
use Rattle.vfs_model.specs.Lookup.{walk_refusal, walk_refusal_from}
use Rattle.plain_nodes.proofs.lookup.walk_refusal.Given as goal

abbrev pub invariant-loop-len : goal.invariant-loop-len
invariant-loop-len l =
    walk_refusal_from l.namespace (take l.len l.path) (drop l.len l.path) ≡ walk_refusal l.namespace l.path
