use Rattle.std.proofs.Common.{◌≡◌, ◌++◌, drop, map}
use Rattle.vfs_base.specs.Path.{Path}
use Rattle.vfs_model.specs.Content.{kept_origin}
use Rattle.vfs_model.specs.declared.namespace.KeptNode.{KeptNode}
use Rattle.plain_mounts.proofs.content.cell_entries.Given as goal

abbrev pub invariant-loop-entry : goal.invariant-loop-entry
invariant-loop-entry l =
    l.content ++ map (λ (entry : Path × KeptNode). (entry.0, kept_origin l.volume entry.1)) (drop l.entry-index l.kept)
    ≡ map (λ (entry : Path × KeptNode). (entry.0, kept_origin l.volume entry.1)) l.kept
