-- What `cat` does by the number of its words.
use Rattle.std.proofs.Common.{◌≡◌, ◌<◌, List, [], ◌∷◌, ℕ, length, refl, arith}
use Rattle.vfs_model.specs.TextCommands.{cat, cat_files}

pub cat_words : (words : List (List ℕ)) → 0 < length words → cat words ≡ cat_files words []
cat_words [] some = absurd (omega arith)
cat_words (word ∷ words) some = refl
