-- Lists that get one value at each place.
use Rattle.std.proofs.Common.{arith, ◌≡◌, ℕ, ◌+◌, ◌<◌, List, [], ◌∷◌, ◌++◌, length, take, drop, map, slice_index_or, slice_set, ap, sym, ◌∙◌}
use Rattle.std.proofs.lemmas.List.{append_assoc, drop_more, length-map, length-take-le, map-append, set_at, take_more}

-- one item more has the value
pub filled_more : {X : Type 0} (value : X) (xs now : List X) (place : ℕ) → place < length xs →
    now ≡ map (λ item. value) (take place xs) ++ drop place xs →
    slice_set now place value ≡ map (λ item. value) (take (place + 1) xs) ++ drop (place + 1) xs
filled_more {X} value xs now place h e =
    let fill : X → X = λ item. value in
    let front : List X = map fill (take place xs) in
    let rest : List X = drop (place + 1) xs in
    let place_is : length front ≡ place = length-map (take place xs) fill ∙ length-take-le place xs (omega arith) in
    ap (λ (now : List X). slice_set now place value) (e ∙ ap (λ (later : List X). front ++ later) (drop_more xs place value h))
    ∙ set_at front (slice_index_or xs place value) rest value place place_is
    ∙ sym (append_assoc front (value ∷ []) rest)
    ∙ ap (λ (now : List X). now ++ rest)
    (sym (ap (map fill) (take_more xs place value h) ∙ map-append fill (take place xs) (slice_index_or xs place value ∷ [])))
