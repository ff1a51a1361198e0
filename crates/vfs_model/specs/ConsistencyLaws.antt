-- Laws of consistency.
use Rattle.std.specs.Prelude.{List}
use Rattle.vfs_base.specs.declared.describe.Describe.{Describe}
use Rattle.vfs_model.specs.Boxes.{IsConsistent, RomsClosed}
use Rattle.vfs_model.specs.Consistency.{FoldersStand}
use Rattle.vfs_model.specs.Homes.{opening_world}
use Rattle.vfs_model.specs.Laws.{MountsApart}
use Rattle.vfs_model.specs.declared.namespace.Namespace.{Namespace}
use Rattle.vfs_model.specs.declared.namespace.RomImage.{RomImage}

-- the world at the start is consistent, where each rom is a tree
abbrev pub OpeningWorldIsConsistent : Type 0
OpeningWorldIsConsistent = (roms : List RomImage) (describe : Describe) → RomsClosed roms → IsConsistent (opening_world roms describe)

-- in a consistent world, no two points have mounts of one number
abbrev pub StandingMountsAreApart : Type 0
StandingMountsAreApart = (n : Namespace) → FoldersStand n → MountsApart n
