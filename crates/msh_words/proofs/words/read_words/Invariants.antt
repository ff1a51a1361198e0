use Rattle.std.proofs.Common.{◌≡◌, false, [], ◌++◌, length}
use Rattle.std.specs.Option.{option_map}
use Rattle.msh_words.specs.Reading.{words_in, starts_word}
use Rattle.msh_words.proofs.words.read_words.Given as goal

abbrev pub invariant-loop-rest : goal.invariant-loop-rest
invariant-loop-rest l =
    (words_in l.text ≡ option_map (λ more. l.words ++ more) (words_in l.rest))
    × (starts_word l.rest ≡ false → l.rest ≡ [])

abbrev pub decreases-loop-rest : goal.decreases-loop-rest
decreases-loop-rest l = length l.rest
