use Rattle.std.proofs.Common.{◌≡◌, ◌+◌, drop}
use Rattle.std.specs.List.{position_or_len}
use Rattle.vfs_model.specs.Namespace.{same_bytes}
use Rattle.plain_nodes.proofs.sources.place_of_volume.Given as goal

abbrev pub invariant-loop-volume : goal.invariant-loop-volume
invariant-loop-volume l =
    (l.place ≡ l.volume-index)
    × (l.place + position_or_len (λ item. same_bytes item.name l.name) (drop l.volume-index l.volumes) ≡ position_or_len (λ item. same_bytes item.name l.name) l.volumes)
