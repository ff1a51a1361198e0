-- What holds of the mappings of every shell.
use Rattle.std.specs.Prelude.{◌≡◌, ℕ, ◌+◌, ◌≤◌, Option, List, length, None, slice_index_or, IfSome}
use Rattle.vfs_base.specs.declared.limits.TheConstants.{OFF_MAX, WINDOWS}
use Rattle.vfs_model.specs.declared.shell_state.Window.{Window}

-- the part of a file that is mapped ends within a file of the greatest size
abbrev pub IsWithinFile : Window → Type 0
IsWithinFile window = window.off + window.len ≤ OFF_MAX

-- There are eight places, and each mapping ends within a file of the greatest size.
pub record AreWindows (mappings : List (Option Window)) : Type 0 where
  pub places : length mappings ≡ WINDOWS
  pub within : (place : ℕ) → IfSome (slice_index_or mappings place None) IsWithinFile
