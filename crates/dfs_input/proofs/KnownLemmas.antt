-- Lemmas on the bytes that a source has, told or not.
use Rattle.std.proofs.Common.{ℕ, Option, Some, None, List, [], ◌++◌, refl, ap, ◌∙◌}
use Rattle.std.specs.Io.KnownBytes.{Consumes, IsAtEnd}
use Rattle.dfs_input.specs.Known.{IsInput}

-- a source has some bytes, and where it tells them, those
pub known_input : (told : Option (List ℕ)) → (bytes : List ℕ) × IsInput told bytes
known_input None = ([], tt)
known_input (Some known) = (known, refl)

-- what was consumed stands before whatever comes behind
pub consumed_input : (before after : Option (List ℕ)) (bytes : List ℕ) → Consumes before after bytes
    → (rest : List ℕ) → IsInput after rest → IsInput before (bytes ++ rest)
consumed_input None after bytes consumes rest is = tt
consumed_input (Some known) None bytes consumes rest is = absurd consumes
consumed_input (Some known) (Some left) bytes consumes rest is = consumes ∙ ap (λ l. bytes ++ l) is

-- at the end nothing is to come
pub ended_input : (told : Option (List ℕ)) → IsAtEnd told → IsInput told []
ended_input None end = tt
ended_input (Some known) end = end
