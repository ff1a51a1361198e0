use Rattle.std.proofs.Common.{◌≡◌, map, take}
use Rattle.devfs.proofs.slots.copy_names.Given as goal

abbrev pub invariant-loop-slot : goal.invariant-loop-slot
invariant-loop-slot g l = l.names ≡ map (λ slot. slot.name) (take l.slot-index l.slots)
