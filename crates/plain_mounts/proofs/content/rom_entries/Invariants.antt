use Rattle.std.proofs.Common.{◌≡◌, ◌++◌, drop, map}
use Rattle.vfs_base.specs.Path.{Path}
use Rattle.vfs_model.specs.Content.{rom_origin}
use Rattle.vfs_model.specs.declared.namespace.RomNode.{RomNode}
use Rattle.plain_mounts.proofs.content.rom_entries.Given as goal

abbrev pub invariant-loop-entry : goal.invariant-loop-entry
invariant-loop-entry l =
    l.content ++ map (λ (entry : Path × RomNode). (entry.0, rom_origin l.rom entry.0 entry.1)) (drop l.entry-index l.nodes)
    ≡ map (λ (entry : Path × RomNode). (entry.0, rom_origin l.rom entry.0 entry.1)) l.nodes
