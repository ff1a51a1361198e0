-- What a character device tells of itself, and how many bytes its calls move.
use Rattle.std.specs.Prelude.{ℕ, ◌-◌, ◌≤◌, ◌++◌, List, Result, drop}
use Rattle.std.specs.declared.result.Result.TheVariants.{Ok, Err}
use Rattle.vfs_outside.specs.declared.stopped.Stopped.{Stopped}

-- the input that is left, and the output so far
pub record CharsContents : Type 0 where
  pub input : List ℕ
  pub output : List ℕ

-- less than so many, or none where these are none
abbrev pub IsLess : ℕ → ℕ → Type 0
IsLess moved most = moved ≤ most - 1

-- how many bytes a read moved
abbrev pub read_count : Result ℕ Stopped → ℕ
read_count (Ok count) = count
read_count (Err stopped) = stopped.moved

-- how many bytes a write of so many moved
abbrev pub write_count : ℕ → Result (Unit {0}) Stopped → ℕ
write_count most (Ok done) = most
write_count most (Err stopped) = stopped.moved

-- so many bytes were read
abbrev pub behind_read : ℕ → CharsContents → CharsContents
behind_read count told = record { input = drop count told.input; output = told.output }

-- these bytes were written
abbrev pub behind_write : List ℕ → CharsContents → CharsContents
behind_write bytes told = record { input = told.input; output = told.output ++ bytes }
