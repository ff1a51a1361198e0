-- The sessions at the start.
use Rattle.std.proofs.Common.{◌≡◌, ℕ, zero, suc, ◌-◌, ◌<◌, Some, List, [], ◌∷◌, ◌++◌, length, refl, subst, arith, inl, inr}
use Rattle.std.specs.Prelude.{◌⊎◌, slice_get}
use Rattle.script_stage.specs.Scenes.{IsNumber}
use Rattle.script_stage.specs.Sessions.{AtWork}
use Rattle.script_stage.specs.Standing.{AreFresh, SessionAt}
use Rattle.script_stage.specs.declared.phase.Phase.TheVariants as phase
use Rattle.script_stage.specs.declared.stage_session.StageSession.{StageSession}

-- all sessions are new
abbrev pub AreNew : List StageSession → Type 0
AreNew all = (i : ℕ) (p : StageSession) → slice_get all i ≡ Some p → AtWork p [] [] [] × (p.phase ≡ phase.Idle) × (p.text ≡ [])

some-at : (all : List StageSession) (i : ℕ) → i < length all → (p : StageSession) × (slice_get all i ≡ Some p)
some-at [] i h = absurd (omega (arith, h))
some-at (p ∷ all) zero h = (p, refl)
some-at (p ∷ all) (suc i) h = some-at all i (omega (arith, h))

last-or-before : (all : List StageSession) (last : StageSession) (i : ℕ) (p : StageSession) → slice_get (all ++ last ∷ []) i ≡ Some p →
    (slice_get all i ≡ Some p) ⊎ (last ≡ p)
last-or-before [] last zero p found = inr (cc)
last-or-before [] last (suc i) p found = absurd (cc)
last-or-before (q ∷ all) last zero p found = inl found
last-or-before (q ∷ all) last (suc i) p found = last-or-before all last i p found

pub none-new : AreNew []
none-new i p found = absurd (cc)

pub new-more : (all : List StageSession) (last : StageSession) → AreNew all → AtWork last [] [] [] × (last.phase ≡ phase.Idle) × (last.text ≡ []) → AreNew (all ++ last ∷ [])
new-more all last are is i p found =
    elim (last-or-before all last i p found) [
      | inl before ↦ are i p before
      | inr same ↦ subst (λ x. AtWork x [] [] [] × (x.phase ≡ phase.Idle) × (x.text ≡ [])) same is
    ]

pub new-each : (all : List StageSession) → length all ≡ 8 → AreNew all → (k : ℕ) → IsNumber k → SessionAt AtWork all k [] [] []
new-each all count are k n =
    let some = some-at all (k - 1) (omega (arith, n.0, n.1, count)) in
    record { session = some.0; found = some.1; stands = (are (k - 1) some.0 some.1).0 }

pub new-fresh : (all : List StageSession) → AreNew all → AreFresh all
new-fresh all are i p found = let is = are i p found in (is.1, is.2)
