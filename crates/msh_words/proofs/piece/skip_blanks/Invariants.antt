use Rattle.std.proofs.Common.{◌≡◌, ◌≤◌, length}
use Rattle.msh_words.specs.Reading.{words_in}
use Rattle.msh_words.proofs.piece.skip_blanks.Given as goal

abbrev pub invariant-loop-text : goal.invariant-loop-text
invariant-loop-text l =
    (words_in l.text ≡ words_in l.initial.text) × (length l.text ≤ length l.initial.text)

abbrev pub decreases-loop-text : goal.decreases-loop-text
decreases-loop-text l = length l.text
