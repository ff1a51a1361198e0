-- What a command does by the number of its words.
use Rattle.std.proofs.Common.{◌≡◌, ◌≢◌, List, [], ◌∷◌, ℕ, length, get_or, refl, arith}
use Rattle.vfs_model.specs.CommandText.{usage}
use Rattle.vfs_model.specs.CommandWords.{three_words, four_words}
use Rattle.vfs_model.specs.Talk.{Talk}

pub not_three : (form : List ℕ) (go : List ℕ → List ℕ → List ℕ → Talk) (words : List (List ℕ)) → length words ≢ 3 →
    three_words form go words ≡ usage form
not_three form go [] other = refl
not_three form go (a ∷ []) other = refl
not_three form go (a ∷ b ∷ []) other = refl
not_three form go (a ∷ b ∷ c ∷ []) other = absurd (other refl)
not_three form go (a ∷ b ∷ c ∷ d ∷ words) other = refl

pub not_four : (form : List ℕ) (go : List ℕ → List ℕ → List ℕ → List ℕ → Talk) (words : List (List ℕ)) → length words ≢ 4 →
    four_words form go words ≡ usage form
not_four form go [] other = refl
not_four form go (a ∷ []) other = refl
not_four form go (a ∷ b ∷ []) other = refl
not_four form go (a ∷ b ∷ c ∷ []) other = refl
not_four form go (a ∷ b ∷ c ∷ d ∷ []) other = absurd (other refl)
not_four form go (a ∷ b ∷ c ∷ d ∷ e ∷ words) other = refl

pub three : (form : List ℕ) (go : List ℕ → List ℕ → List ℕ → Talk) (words : List (List ℕ)) → length words ≡ 3 →
    three_words form go words ≡ go (get_or words 0 []) (get_or words 1 []) (get_or words 2 [])
three form go [] same = absurd (omega arith)
three form go (a ∷ []) same = absurd (omega arith)
three form go (a ∷ b ∷ []) same = absurd (omega arith)
three form go (a ∷ b ∷ c ∷ []) same = refl
three form go (a ∷ b ∷ c ∷ d ∷ words) same = absurd (omega arith)

pub four : (form : List ℕ) (go : List ℕ → List ℕ → List ℕ → List ℕ → Talk) (words : List (List ℕ)) → length words ≡ 4 →
    four_words form go words ≡ go (get_or words 0 []) (get_or words 1 []) (get_or words 2 []) (get_or words 3 [])
four form go [] same = absurd (omega arith)
four form go (a ∷ []) same = absurd (omega arith)
four form go (a ∷ b ∷ []) same = absurd (omega arith)
four form go (a ∷ b ∷ c ∷ []) same = absurd (omega arith)
four form go (a ∷ b ∷ c ∷ d ∷ []) same = refl
four form go (a ∷ b ∷ c ∷ d ∷ e ∷ words) same = absurd (omega arith)
