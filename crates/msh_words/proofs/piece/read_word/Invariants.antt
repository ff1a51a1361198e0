use Rattle.std.proofs.Common.{◌≡◌, ◌<◌, length}
use Rattle.msh_words.specs.Reading.{words_in, words_from}
use Rattle.msh_words.proofs.piece.read_word.Given as goal

abbrev pub invariant-loop-word : goal.invariant-loop-word
invariant-loop-word l = (words_in l.text ≡ words_from l.word l.rest) × (length l.rest < length l.text)

abbrev pub decreases-loop-word : goal.decreases-loop-word
decreases-loop-word l = length l.rest
