-- What a contract sees of a character device in memory.
use Rattle.std.specs.Prelude.{ℕ, List}
use Rattle.vfs_outside.specs.Chars.{CharsContents}
use Rattle.vfs_outside.specs.FailingCalls.{Calls}

-- the input that is left, the output so far, and the calls to it
pub record MemCharsState : Type 0 where
  pub input : List ℕ
  pub output : List ℕ
  pub calls : Calls

-- it tells both
abbrev pub contents_of : MemCharsState → CharsContents
contents_of state = record { input = state.input; output = state.output }
