-- What a contract sees of what sessions hold: their references and their working directories.
use Rattle.std.specs.Prelude.{◌≡◌, ℕ, ◌+◌, ◌-◌, ◌*◌, nat_lt, is_none, Option, None, List, [], length, replicate, slice_index_or, slice_range, slice_set, if◌then◌else◌}
use Rattle.std.specs.List.{position_or_len}
use Rattle.vfs_base.specs.Path.{Path}
use Rattle.vfs_base.specs.declared.limits.TheConstants.{HOLDS, SESSIONS}
use Rattle.vfs_model.specs.declared.namespace.Reference.{Reference}

pub record SessionTable : Type 0 where
  -- for each session, from 1 on, a place for each number from 1 to 32
  pub references : List (Option Reference)
  -- the working directory of each session, from 1 on
  pub folders : List Path

-- no references, and each session in `/`
abbrev pub opening_table : SessionTable
opening_table = record { references = replicate (SESSIONS * HOLDS) None; folders = replicate SESSIONS [] }

-- the references of a session by number, from 1 to 32
abbrev pub references_of : SessionTable → ℕ → List (Option Reference)
references_of table k = slice_range table.references (HOLDS * (k - 1)) (HOLDS * k)

-- the reference that a session has by a number
abbrev pub reference_at : SessionTable → ℕ → ℕ → Option Reference
reference_at table k number = if nat_lt 0 number then slice_index_or (references_of table k) (number - 1) None else None

-- what stands at a number of a session's references
abbrev pub with_reference : SessionTable → ℕ → ℕ → Option Reference → SessionTable
with_reference table k number reference = record table { references = slice_set table.references (HOLDS * (k - 1) + (number - 1)) reference }

-- the session's least number without a reference, or 33 where it has 32
abbrev pub least_free_number : SessionTable → ℕ → ℕ
least_free_number table k = position_or_len is_none (references_of table k) + 1

-- the working directory of a session
abbrev pub folder_of : SessionTable → ℕ → Path
folder_of table k = slice_index_or table.folders (k - 1) []

-- the working directory of a session is the path
abbrev pub with_folder_of : SessionTable → ℕ → Path → SessionTable
with_folder_of table k path = record table { folders = slice_set table.folders (k - 1) path }

-- how many places there are
pub record IsSound (table : SessionTable) : Type 0 where
  pub references : length table.references ≡ SESSIONS * HOLDS
  pub folders : length table.folders ≡ SESSIONS
