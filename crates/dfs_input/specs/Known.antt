-- What is known of the bytes that a source has.
use Rattle.std.specs.Prelude.{◌≡◌, ℕ, Option, List, IfSome}

-- these bytes are what a source has, where it tells that
abbrev pub IsInput : Option (List ℕ) → List ℕ → Type 0
IsInput told bytes = IfSome told (λ known. known ≡ bytes)
