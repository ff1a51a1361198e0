-- What a sink took of the bytes that it was given.
use Rattle.std.specs.Prelude.{ℕ, ◌<◌, List, Option, length, take}
use Rattle.std.specs.Io.KnownBytes.{Appends}

-- some bytes from the front were written, and not all of them
pub record AppendsFront (old new : Option (List ℕ)) (bytes : List ℕ) : Type 0 where
  pub count : ℕ
  pub short : count < length bytes
  pub appends : Appends old new (take count bytes)
