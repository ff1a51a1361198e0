-- Tasks are led on one after the other, over events and over sessions.
use Rattle.std.proofs.Common.{◌≡◌, ℕ, zero, suc, ◌+◌, ◌-◌, ◌<◌, ◌≤◌, ◌==◌, Bool, true, false, Some, List, [], ◌∷◌, ◌++◌, drop, length, map, get_or, refl, sym, ap, ◌∙◌, subst, arith, add-one}
use Rattle.std.proofs.Math.Seq.{drop-cons}
use Rattle.std.proofs.lemmas.Bool.Decides.{nat_tests}
use Rattle.std.proofs.lemmas.List.{drop_all}
use Rattle.std.specs.Prelude.{slice_get}
use Rattle.std.specs.List.{range_with_len}
use Rattle.vfs_base.specs.declared.entry.Who.{Who}
use Rattle.vfs_model.specs.ScriptRun.{sessions}
use Rattle.vfs_model.specs.Turns.{Steps, Task}
use Rattle.script_stage.specs.Scenes.{Scene}
use Rattle.script_stage.specs.Standing.{EachUpTo, Leads, OthersStay, Place, Stops}
use Rattle.script_stage.specs.declared.stage_session.StageSession.{StageSession}

-- what is led to a list of tasks is led on past the first of them
pub leads-on : (At : Place) (a b c : Scene) (all rest later : List Task) (task : Task) → rest ≡ task ∷ later →
    Leads At a b all rest → Leads At b c (task ∷ []) [] → Leads At a c all later
leads-on At a b c all rest later task e first second script tasks handed at =
    second script (later ++ tasks) handed
    (subst (λ x. At b script (x ++ tasks) handed) e (first script tasks handed at))

-- it stops where the first of them is not done
pub leads-stop : (At : Place) (a b c : Scene) (all rest later : List Task) (task : Task) → rest ≡ task ∷ later →
    Leads At a b all rest → Stops At b c (task ∷ []) → Stops At a c all
leads-stop At a b c all rest later task e first second script tasks handed at =
    second script (later ++ tasks) handed
    (subst (λ x. At b script (x ++ tasks) handed) e (first script tasks handed at))

pub leads-all : (At : Place) (a b : Scene) (all rest : List Task) → rest ≡ [] → Leads At a b all rest → Leads At a b all []
leads-all At a b all rest e first script tasks handed at =
    subst (λ x. At b script (x ++ tasks) handed) e (first script tasks handed at)

-- the events from a place on
pub events-at : (events : List Who) (i : ℕ) (asker : Who) → i < length events → asker ≡ get_or events i asker →
    map Steps (drop i events) ≡ Steps asker ∷ map Steps (drop (i + 1) events)
events-at events i asker h is =
    ap (map Steps) (drop-cons events i asker h)
    ∙ ap (λ w. Steps w ∷ map Steps (drop (suc i) events)) (sym is)
    ∙ ap (λ n. Steps asker ∷ map Steps (drop n events)) (sym (add-one i))

pub events-past : (events : List Who) (i : ℕ) → length events ≤ i → map Steps (drop i events) ≡ []
events-past events i h = ap (map Steps) (drop_all i events h)

range-drop : (a n i : ℕ) → i < n → drop i (range_with_len a n) ≡ (a + i) ∷ drop (i + 1) (range_with_len a n)
range-drop a zero i h = absurd (omega (arith, h))
range-drop a (suc n) zero h = let e : a ≡ a + 0 = omega arith in ap (λ x. x ∷ range_with_len (a + 1) n) e
range-drop a (suc n) (suc i) h =
    let e : (a + 1) + i ≡ a + suc i = omega arith in
    let f : suc (i + 1) ≡ suc i + 1 = omega arith in
    range-drop (a + 1) n i (omega (arith, h))
    ∙ ap (λ x. x ∷ drop (i + 1) (range_with_len (a + 1) n)) e
    ∙ ap (λ m. (a + suc i) ∷ drop m (range_with_len a (suc n))) f

-- the tasks of the sessions from a place on
pub sessions-at : (f : ℕ → Task) (place : ℕ) → place < 8 → map f (drop place sessions) ≡ f (place + 1) ∷ map f (drop (place + 1) sessions)
sessions-at f place h =
    let e : 1 + place ≡ place + 1 = omega arith in
    ap (map f) (range-drop 1 8 place h) ∙ ap (λ n. f n ∷ map f (drop (place + 1) sessions)) e

-- what holds of the sessions holds of them all, where one changed and it holds of that
pub each-stays : (P : StageSession → Type 0) (old new : List StageSession) (k last : ℕ) → OthersStay old new k →
    ((p : StageSession) → slice_get new (k - 1) ≡ Some p → P p) →
    EachUpTo last (λ j. (p : StageSession) → slice_get old (j - 1) ≡ Some p → P p) →
    EachUpTo last (λ j. (p : StageSession) → slice_get new (j - 1) ≡ Some p → P p)
each-stays P old new k last others now each j n within = by_same (k == j) refl
  where
    by_same : (b : Bool) → (k == j) ≡ b → (p : StageSession) → slice_get new (j - 1) ≡ Some p → P p
    by_same true e = let is : k ≡ j = grind (arith, nat_tests) in subst (λ i. (p : StageSession) → slice_get new (i - 1) ≡ Some p → P p) is now
    by_same false e = λ p found. each j n within p (sym (others j n e) ∙ found)

-- the same up to one more
pub each-more : (P : StageSession → Type 0) (old new : List StageSession) (place : ℕ) → OthersStay old new (place + 1) →
    ((p : StageSession) → slice_get new ((place + 1) - 1) ≡ Some p → P p) →
    EachUpTo place (λ j. (p : StageSession) → slice_get old (j - 1) ≡ Some p → P p) →
    EachUpTo (place + 1) (λ j. (p : StageSession) → slice_get new (j - 1) ≡ Some p → P p)
each-more P old new place others now each j n within = by_same ((place + 1) == j) refl
  where
    by_same : (b : Bool) → ((place + 1) == j) ≡ b → (p : StageSession) → slice_get new (j - 1) ≡ Some p → P p
    by_same true e = let is : place + 1 ≡ j = grind (arith, nat_tests) in subst (λ i. (p : StageSession) → slice_get new (i - 1) ≡ Some p → P p) is now
    by_same false e =
        let less : j ≤ place = grind (arith, nat_tests) in
        λ p found. each j n less p (sym (others j n e) ∙ found)
