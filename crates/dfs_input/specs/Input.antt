-- How all bytes of an input are read.
use Rattle.std.specs.Prelude.{◌≡◌, ℕ, ◌≤◌, Option, List, ◌++◌, Result, Ok, Err}
use Rattle.std.specs.Io.KnownBytes.{Consumes}
use Rattle.vfs_outside.specs.Causes.{Rose}
use Rattle.dfs_input.specs.declared.input.InputFault.{InputFault}
use Rattle.dfs_input.specs.declared.input.InputFault.TheVariants.{NoMemory, Failed}

-- bytes of the source were read, and stand behind those that were read before
pub record ReadsMore (before after : Option (List ℕ)) (old new : List ℕ) : Type 0 where
  pub part : List ℕ
  pub taken : Consumes before after part
  pub bytes : new ≡ old ++ part

-- the source's count of faults rose exactly where the source failed
abbrev pub HasInputCause : {T : Type 0} → ℕ → ℕ → Result T InputFault → Type 0
HasInputCause before now (Ok value) = now ≡ before
HasInputCause before now (Err NoMemory) = now ≡ before
HasInputCause before now (Err Failed) = (before ≤ now) × Rose before now
