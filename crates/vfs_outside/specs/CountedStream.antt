use Rattle.std.specs.Prelude.{ℕ}

-- a stream of std, and how many calls to it failed
pub record CountedStream (S : Type 0) : Type 0 where
  pub stream : S
  pub faults : ℕ
