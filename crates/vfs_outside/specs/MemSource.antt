use Rattle.std.specs.Prelude.{ℕ, List}
use Rattle.vfs_outside.specs.FailingCalls.{Calls}

-- a source in memory: the bytes that are left, and the calls to it
pub record SourceState : Type 0 where
  pub left : List ℕ
  pub calls : Calls
