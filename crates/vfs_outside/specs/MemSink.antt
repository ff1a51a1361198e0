use Rattle.std.specs.Prelude.{ℕ, List}
use Rattle.vfs_outside.specs.FailingCalls.{Calls}

-- a sink in memory: the bytes that were written, and the calls to it
pub record SinkState : Type 0 where
  pub written : List ℕ
  pub calls : Calls
