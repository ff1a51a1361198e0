use Rattle.std.proofs.Common.{◌≡◌, ◌++◌, true, length}
use Rattle.std.specs.List.{list_all}
use Rattle.vfs_model.specs.NormalPath.{parts_of}
use Rattle.vfs_model.specs.Rom.{is_rom_name}
use Rattle.romfs.proofs.PathLemmas.{parts_left}
use Rattle.romfs.proofs.field.read_names.Given as goal

abbrev pub invariant-loop-left : goal.invariant-loop-left
invariant-loop-left l =
    (l.path ++ parts_left l.left ≡ parts_of l.fn.names)
    × (list_all is_rom_name l.path ≡ true)

abbrev pub decreases-loop-left : goal.decreases-loop-left
decreases-loop-left l = length (parts_left l.left)
