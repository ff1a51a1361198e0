-- Lists at single places.
use Rattle.std.proofs.Common.{arith, ◌≡◌, ℕ, ◌+◌, ◌<◌, List, [], ◌∷◌, ◌++◌, length, take, drop, map, slice_index_or, slice_set, ap, sym, ◌∙◌}
use Rattle.std.proofs.lemmas.List.{append_assoc, drop_more, length-map, length-take-le, map-append, set-set, set-get_or, set_at, take_more}

-- a place that is set twice has what came last
pub set_again : {X : Type 0} (xs : List X) (place : ℕ) (x y : X) → slice_set (slice_set xs place x) place y ≡ slice_set xs place y
set_again xs place x y = set-set xs place x y

-- a place that gets back what it had
pub set_back : {X : Type 0} (xs : List X) (place : ℕ) (x : X) → slice_set xs place (slice_index_or xs place x) ≡ xs
set_back xs place x = set-get_or xs place x

pub ruleset replacing = (set_again, set_back)

-- one item more is cleared
pub cleared_more : (xs cells : List (List ℕ)) (place : ℕ) → place < length xs →
    cells ≡ map (λ bytes. []) (take place xs) ++ drop place xs →
    slice_set cells place [] ≡ map (λ bytes. []) (take (place + 1) xs) ++ drop (place + 1) xs
cleared_more xs cells place h e =
    let clear : List ℕ → List ℕ = λ bytes. [] in
    let front : List (List ℕ) = map clear (take place xs) in
    let rest : List (List ℕ) = drop (place + 1) xs in
    let place_is : length front ≡ place = length-map (take place xs) clear ∙ length-take-le place xs (omega arith) in
    ap (λ (now : List (List ℕ)). slice_set now place []) (e ∙ ap (λ (later : List (List ℕ)). front ++ later) (drop_more xs place [] h))
    ∙ set_at front (slice_index_or xs place []) rest [] place place_is
    ∙ sym (append_assoc front ([] ∷ []) rest)
    ∙ ap (λ (now : List (List ℕ)). now ++ rest)
    (sym (ap (map clear) (take_more xs place [] h) ∙ map-append clear (take place xs) (slice_index_or xs place [] ∷ [])))
