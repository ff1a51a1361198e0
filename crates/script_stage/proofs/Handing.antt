-- What was shown is handed out.
use Rattle.std.proofs.Common.{◌≡◌, ℕ, ◌-◌, ◌<◌, ◌==◌, Bool, true, false, Some, List, [], ◌++◌, length, set, refl, sym, ap, ◌∙◌, subst, arith, append-nil, length-set}
use Rattle.std.specs.Prelude.{slice_get}
use Rattle.std.proofs.lemmas.Bool.Decides.{nat_tests}
use Rattle.vfs_model.specs.ScriptRun.{heard_by}
use Rattle.vfs_model.specs.Turns.{Task}
use Rattle.script_stage.proofs.Moving.{each-set, got-same}
use Rattle.script_stage.proofs.SessionLemmas.{hands-work}
use Rattle.script_stage.specs.Scenes.{IsNumber, Scene, Script, handed_of, posted_to, with_session}
use Rattle.script_stage.specs.Sessions.{AtWork}
use Rattle.script_stage.specs.Standing.{IsFresh, IsIdle, Plays, StandsAt}
use Rattle.script_stage.specs.declared.stage_session.StageSession.{StageSession}

first-number : IsNumber 1
first-number = (omega arith, omega arith)

not-first : (j : ℕ) → (1 == j) ≡ false → (j == 1) ≡ false
not-first j e = grind (arith, nat_tests)

-- nothing was handed out of the other sessions
other-handed : (one two : List ℕ) (j : ℕ) → (1 == j) ≡ false → handed_of one j ≡ handed_of two j
other-handed one two j e = rw (not-first j e) refl

some-same : (a b : StageSession) → Some a ≡ Some b → a ≡ b
some-same a b e = cc

hands-plays : (old : Scene) (before p : StageSession) (script : Script) (tasks : List Task) (handed : List ℕ) →
    slice_get old.sessions 0 ≡ Some before → p.session ≡ before.session → p.phase ≡ before.phase → p.text ≡ [] →
    Plays AtWork old script tasks handed → Plays AtWork (with_session old 0 p) script tasks (handed ++ before.text)
hands-plays old before p script tasks handed found e = λ f g at.
    let a = at.each 1 first-number in
    let same : a.session ≡ before = some-same a.session before (sym a.found ∙ found) in
    let stands : AtWork before (posted_to at.posted 1) (heard_by at.s 1) handed =
    subst (λ x. AtWork x (posted_to at.posted 1) (heard_by at.s 1) handed) same a.stands in
    record {
      s = at.s;
      posted = at.posted;
      places = at.places;
      heard = at.heard;
      count = length-set old.sessions 0 p ∙ at.count;
      world = at.world;
      is_open = at.is_open;
      reaches = at.reaches;
      taken_on = at.taken_on;
      there = at.there;
      each = each-set AtWork old.sessions 1 p (posted_to at.posted) (posted_to at.posted) (heard_by at.s) (heard_by at.s) (handed_of handed) (handed_of (handed ++ before.text)) first-number at.count
          (hands-work before p (posted_to at.posted 1) (heard_by at.s 1) handed e f g stands)
          (λ j r o. (refl, refl, other-handed handed (handed ++ before.text) j o)) at.each;
      left = at.left;
    }

-- nothing is left of the first session's text, and it is at what it was
pub hands_fresh : (now old : Scene) (before p : StageSession) → old ≡ now → length old.sessions ≡ 8 → slice_get old.sessions 0 ≡ Some before →
    p ≡ record before { text = [] } → IsIdle now.sessions 1 → IsFresh (with_session old 0 p)
hands_fresh now old before p same count found rest = λ idle q taken.
    let is : p ≡ q = some-same p q (sym (got-same old.sessions 0 p (omega (arith, count))) ∙ taken) in (
      ap (λ x. x.phase) (sym is) ∙ ap (λ x. x.phase) rest ∙ idle before (ap (λ s. slice_get s.sessions 0) (sym same) ∙ found),
      ap (λ x. x.text) (sym is) ∙ ap (λ x. x.text) rest,
    )

-- the call by which it is handed out
pub hands_stands : (now old : Scene) (before p : StageSession) (text : List ℕ) → old ≡ now → slice_get old.sessions 0 ≡ Some before →
    p ≡ record before { text = [] } → before.text ≡ text →
    (script : Script) (tasks : List Task) (handed : List ℕ) → StandsAt now script tasks handed → StandsAt (with_session old 0 p) script tasks (handed ++ text)
hands_stands now old before p text same found rest is = λ script tasks handed at.
    let was = subst (λ s. StandsAt s script tasks handed) (sym same) at in
    subst (λ x. StandsAt (with_session old 0 p) script tasks (handed ++ x)) is (record {
      plays = hands-plays old before p script tasks handed found (ap (λ x. x.session) rest) (ap (λ x. x.phase) rest) (ap (λ x. x.text) rest) was.plays;
      stays = was.stays;
      before = was.before;
    })
