-- Lemmas on the lines of a generator.
use Rattle.std.proofs.Common.{◌≡◌, ℕ, suc, ◌+◌, ◌-◌, ◌%◌, ◌<◌, ◌∷◌, refl, arith}
use Rattle.vfs_model.specs.Soak.{chosen_line, draw, drawn, soak_line, soak_lines}

-- three draws choose a line
pub line_drawn : (state first second third one two three number k : ℕ) →
    first ≡ drawn state → second ≡ drawn first → third ≡ drawn second →
    one ≡ draw first → two ≡ draw second → three ≡ draw third → k ≡ 1 + one % 8 →
    chosen_line third number k (two % 10) (three % 16) ≡ soak_line state number
line_drawn state first second third one two three number k a b c d e f g = rw (g, d, e, f, c, b, a) refl

-- a line more
pub lines_step : (steps at number state : ℕ) → at < steps →
    soak_lines (steps - at) number state ≡ (soak_line state number).line ∷ soak_lines (steps - (at + 1)) (number + 1) (soak_line state number).state
lines_step steps at number state below =
    let one_more : steps - at ≡ suc (steps - (at + 1)) = omega arith in
    rw one_more refl
