-- How long a file lives.
use Rattle.std.specs.Prelude.{◌≡◌, ℕ, ◌<◌, ◌||◌, is_some}
use Rattle.vfs_model.specs.Boxes.{IsConsistent}
use Rattle.vfs_model.specs.FileLife.{is_held, is_linked}
use Rattle.vfs_model.specs.Namespace.{life_at}
use Rattle.vfs_model.specs.declared.world.WorldState.{WorldState}

-- between steps a row has a live file exactly where a path or a reference names it
abbrev pub FileLivesWhileNamed : Type 0
FileLivesWhileNamed = (w : WorldState) (row : ℕ) → IsConsistent w → 0 < row →
    is_some (life_at w.namespace row) ≡ (is_linked w.namespace row || is_held w.namespace row)
