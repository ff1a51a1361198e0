use Rattle.std.proofs.Common.{◌≡◌, ◌+◌, drop}
use Rattle.std.specs.List.{position_or_len}
use Rattle.vfs_model.specs.Namespace.{same_bytes}
use Rattle.plain_nodes.proofs.sources.place_of_rom.Given as goal

abbrev pub invariant-loop-image : goal.invariant-loop-image
invariant-loop-image l =
    (l.place ≡ l.image-index)
    × (l.place + position_or_len (λ item. same_bytes item.name l.name) (drop l.image-index l.roms) ≡ position_or_len (λ item. same_bytes item.name l.name) l.roms)
