-- What `rm` does by the number of its words.
use Rattle.std.proofs.Common.{◌≡◌, ◌<◌, List, [], ◌∷◌, ℕ, length, refl, arith}
use Rattle.vfs_model.specs.FolderCommands.{rm, remove_all}

pub rm_words : (words : List (List ℕ)) → 0 < length words → rm words ≡ remove_all words
rm_words [] some = absurd (omega arith)
rm_words (word ∷ words) some = refl
