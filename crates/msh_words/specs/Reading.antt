-- How a line is read, word by word.

use Rattle.std.specs.Prelude.{◌≡◌, ℕ, Bool, false, not, List, [], ◌∷◌, Option, None, ⊤}
use Rattle.std.specs.Option.{option_map}
use Rattle.vfs_model.specs.Words.{Piece, is_blank, parts, quoted_parts, words_of, part_before}
use Rattle.msh_words.specs.declared.word_fault.WordFault.{WordFault}
use Rattle.msh_words.specs.declared.word_fault.WordFault.TheVariants.{OpenQuote, TooManyWords, BadByte, NoMemory}

-- the words of a text; None where a quote isn't closed
abbrev pub words_in : List ℕ → Option (List (List ℕ))
words_in text = option_map words_of (parts text)

-- the words of a text that goes on with a word, which has these bytes so far
abbrev pub words_from : List ℕ → List ℕ → Option (List (List ℕ))
words_from word text = option_map words_of (part_before (Piece word) (parts text))

-- the same where the text goes on inside a quote of the word
abbrev pub words_quoted : List ℕ → List ℕ → Option (List (List ℕ))
words_quoted word text = option_map words_of (part_before (Piece word) (quoted_parts [] text))

-- a word before others
abbrev pub word_before : List ℕ → Option (List (List ℕ)) → Option (List (List ℕ))
word_before word words = option_map (λ more. word ∷ more) words

-- whether a text begins with a piece of a word
abbrev pub starts_word : List ℕ → Bool
starts_word [] = false
starts_word (byte ∷ text) = not (is_blank byte)

-- what a fault that is met on the way tells of the words
abbrev pub Tells : WordFault → Option (List (List ℕ)) → Type 0
Tells OpenQuote words = words ≡ None
Tells TooManyWords words = ⊥
Tells BadByte words = ⊥
Tells NoMemory words = ⊤
