-- What the sessions show after the end, beside the definition of a transcript.
use Rattle.std.proofs.Common.{◌≡◌, ℕ, suc, ◌+◌, ◌-◌, ◌<◌, ◌==◌, Bool, true, false, cond, Some, List, [], ◌∷◌, ◌++◌, drop, get_or, length, refl, sym, ap, ◌∙◌, arith, add-one, append_assoc}
use Rattle.std.proofs.Math.Seq.{drop-cons}
use Rattle.std.specs.Prelude.{filter, slice_get}
use Rattle.std.specs.List.{flat_map, range_with_len}
use Rattle.std.proofs.lemmas.Option.{slice_get_within}
use Rattle.vfs_base.specs.declared.deck.Act.{Act}
use Rattle.vfs_base.specs.declared.deck.Act.TheVariants as act
use Rattle.vfs_base.specs.declared.deck.Deck.{Deck}
use Rattle.vfs_base.specs.declared.deck.RomText.{RomText}
use Rattle.vfs_model.specs.ScriptRun.{RunState, sessions, state_after}
use Rattle.vfs_model.specs.Transcript.{has_lines, session_text, session_title, sessions_text}
use Rattle.script_stage.specs.Scenes.{Scene, Script}
use Rattle.script_stage.specs.Standing.{ClosesAt}
use Rattle.script_stage.specs.Texts.{has_line, titled_text, titled_texts}
use Rattle.script_stage.specs.declared.stage_session.StageSession.{StageSession}

-- a script posts to a session exactly where it has lines for it
named-same : (roms : List RomText) (acts : List Act) (k : ℕ) → has_line k acts ≡ has_lines (record { roms = roms; acts = acts }) k
named-same roms [] k = refl
named-same roms (act.Events askers ∷ acts) k = named-same roms acts k
named-same roms (act.Post j text go ∷ acts) k =
    elim (j == k) as (λ b. (j == k) ≡ b → has_line k (act.Post j text go ∷ acts) ≡ has_lines (record { roms = roms; acts = act.Post j text go ∷ acts }) k) [
      | true ↦ λ e. rw e refl
      | false ↦ λ e. rw e (named-same roms acts k)
    ] refl

-- those that pass a test, joined
joined-filter : {X A : Type 0} (test : X → Bool) (f : X → List A) (xs : List X) →
    flat_map f (filter test xs) ≡ flat_map (λ x. cond (test x) (f x) []) xs
joined-filter test f [] = refl
joined-filter test f (x ∷ xs) =
    elim (test x) as (λ b. flat_map f (cond b (x ∷ filter test xs) (filter test xs)) ≡ cond b (f x) [] ++ flat_map (λ x. cond (test x) (f x) []) xs) [
      | true ↦ ap (λ rest. f x ++ rest) (joined-filter test f xs)
      | false ↦ joined-filter test f xs
    ]

-- what each number shows
abbrev shown_by : Deck → RunState → ℕ → List ℕ
shown_by deck s k = cond (has_lines deck k) (session_title k ++ session_text deck s k) []

texts-from : (deck : Deck) (s : RunState) (k : ℕ) (all : List StageSession) →
    ((i : ℕ) (p : StageSession) → slice_get all i ≡ Some p → p.text ≡ session_text deck s (k + i)) →
    titled_texts k deck.acts all ≡ flat_map (shown_by deck s) (range_with_len k (length all))
texts-from deck s k [] same = refl
texts-from deck s k (p ∷ later) same =
    let here : k + 0 ≡ k = omega arith in
    let moved : (n : ℕ) → k + suc n ≡ (k + 1) + n = λ n. omega arith in
    let text : p.text ≡ session_text deck s k = same 0 p refl ∙ ap (session_text deck s) here in
    let first : titled_text k deck.acts p.text ≡ shown_by deck s k =
    ap (titled_text k deck.acts) text ∙ ap (λ b. cond b (session_title k ++ session_text deck s k) []) (named-same deck.roms deck.acts k) in
    let rest = texts-from deck s (k + 1) later (λ i q found. same (suc i) q found ∙ ap (session_text deck s) (moved i)) in
    ap (λ x. x ++ titled_texts (k + 1) deck.acts later) first ∙ ap (λ x. shown_by deck s k ++ x) rest

some-state : (a b : RunState) → Some a ≡ Some b → a ≡ b
some-state a b e = cc

some-session : (a b : StageSession) → Some a ≡ Some b → a ≡ b
some-session a b e = cc

pub shows-all : (scene : Scene) (script : Script) (s : RunState) → ClosesAt scene script [] → state_after script.deck script.describe scene.schedule ≡ Some s →
    titled_texts 1 script.deck.acts scene.sessions ≡ sessions_text script.deck s
shows-all scene script s at e =
    texts-from script.deck s 1 scene.sessions texts
    ∙ ap (λ n. flat_map (shown_by script.deck s) (range_with_len 1 n)) at.count
    ∙ sym (joined-filter (has_lines script.deck) (λ k. session_title k ++ session_text script.deck s k) sessions)
  where
    none-handed : (b : Bool) (text : List ℕ) → cond b [] [] ++ text ≡ text
    none-handed true text = refl
    none-handed false text = refl

    texts : (i : ℕ) (p : StageSession) → slice_get scene.sessions i ≡ Some p → p.text ≡ session_text script.deck s (1 + i)
    texts i p found =
        let within : i < length scene.sessions = slice_get_within scene.sessions i p found in
        let before : (1 + i) - 1 ≡ i = omega arith in
        let a = at.each (1 + i) (omega arith, omega (arith, at.count)) in
        let same : a.session ≡ p = some-session a.session p (sym a.found ∙ ap (slice_get scene.sessions) before ∙ found) in
        let state : at.s ≡ s = some-state at.s s (sym at.taken ∙ e) in
        ap (λ x. x.text) (sym same) ∙ sym (none-handed ((1 + i) == 1) a.session.text) ∙ sym a.shown ∙ ap (λ x. session_text script.deck x (1 + i)) state

-- one more session's text stands there
pub texts_more : (place number : ℕ) (acts : List Act) (all : List StageSession) (p : StageSession) (text out more whole : List ℕ) → place < length all → p ≡ get_or all place p →
    number ≡ place + 1 → text ≡ p.text → more ≡ out ++ titled_text number acts text → out ++ titled_texts (place + 1) acts (drop place all) ≡ whole →
    more ++ titled_texts ((place + 1) + 1) acts (drop (place + 1) all) ≡ whole
texts_more place number acts all p text out more whole h is e f g before =
    let rest = titled_texts ((place + 1) + 1) acts (drop (place + 1) all) in
    let here : titled_texts (place + 1) acts (drop place all) ≡ titled_text number acts text ++ rest =
    ap (titled_texts (place + 1) acts) (drop-cons all place p h)
    ∙ ap (λ q. titled_text (place + 1) acts q.text ++ titled_texts ((place + 1) + 1) acts (drop (suc place) all)) (sym is)
    ∙ ap (λ n. titled_text (place + 1) acts p.text ++ titled_texts ((place + 1) + 1) acts (drop n all)) (sym (add-one place))
    ∙ ap (λ x. titled_text (place + 1) acts x ++ rest) (sym f)
    ∙ ap (λ n. titled_text n acts text ++ rest) (sym e) in
    ap (λ x. x ++ rest) g ∙ append_assoc out (titled_text number acts text) rest ∙ ap (λ x. out ++ x) (sym here) ∙ before
