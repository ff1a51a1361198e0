-- A session of a script goes on with a line, with a reply, and with an exit step.
use Rattle.std.proofs.Common.{◌≡◌, ◌∙◌, ℕ, true, false, Bool, Option, Some, None, List, [], ◌∷◌, ◌++◌, drop, refl, subst, sym, ap, append_assoc, append-nil, inl, inr}
use Rattle.std.proofs.lemmas.List.Folds.{concat-append}
use Rattle.std.specs.Prelude.{IsSome, is_none, is_some, not, slice_get}
use Rattle.std.specs.Bool.{OnFalse, OnTrue}
use Rattle.std.specs.List.{concat}
use Rattle.std.specs.Option.{option_to_list}
use Rattle.vfs_base.specs.declared.deck.Act.{Act}
use Rattle.vfs_base.specs.declared.reply.Reply.{Reply}
use Rattle.vfs_base.specs.declared.step.Step.{Step}
use Rattle.vfs_model.specs.Session.{is_pending, session_run, wanted_step}
use Rattle.vfs_model.specs.StepForms.{TellsFolder}
use Rattle.vfs_model.specs.declared.shell_state.ShellState.{ShellState}
use Rattle.msh_session.proofs.Runs.{done-leaves, exit-follows, exit-next, line-follows, reply-follows, step-next}
use Rattle.msh_session.proofs.Stages.{ready-rest}
use Rattle.msh_session.specs.Following.{ExitNext, Follows, Leaves, PendingNext}
use Rattle.msh_session.specs.SessionTalks.{FitsWanted, LosesLine, LosesReply, StopsAt, blocks_before, exits_left, is_ready, no_exits, session_rest}
use Rattle.msh_session.specs.declared.session.Session.{Session}
use Rattle.msh_session.specs.declared.stage.Stage.{Stage}
use Rattle.msh_session.specs.declared.stage.Stage.TheVariants as stage
use Rattle.vfs_plain.specs.ScriptSessions.{ComesTo, IsAsking, IsLeaving, Pauses, Plays, PostsLine, TakesIn, lines_from}
use Rattle.vfs_plain.specs.SessionSteps.{TakesReply, is_asking, next_step}
use Rattle.vfs_plain.specs.declared.script_session.ScriptSession.{ScriptSession}

-- nothing is pending where the session is ready
pub ready-idle : (s : Session) → is_ready s ≡ true → is_asking s ≡ false
ready-idle s ready = ap is_pending (ready-rest s [] [] ready)

stopped-idle : (at : Stage) (state : ShellState) (reply : Reply) (new : Session) → StopsAt at state reply new → is_asking new ≡ false
stopped-idle stage.Ready state reply new stops = absurd stops
stopped-idle (stage.Pending head command) state reply new stops = ap is_pending (stops [] [])
stopped-idle (stage.GivenUp command) state reply new stops = absurd stops

-- a command that was given up is not pending
pub lost-reply : (old new : Session) (reply : Reply) → LosesReply old reply new → is_asking new ≡ false
lost-reply old new reply loses = stopped-idle old.stage _ reply new loses

pub lost-line : (old new : Session) (line : List ℕ) → is_ready old ≡ true → LosesLine old line new → is_asking new ≡ false
lost-line old new line ready loses =
    elim loses [
      | inl same ↦ ap is_pending (same []) ∙ ready-idle old ready
      | inr given ↦ ap is_pending (given [])
    ]

-- the next step of a session that asks, and of one that asks none
pub next-asking : (s : Session) → is_asking s ≡ true → next_step s ≡ (session_rest s [] []).wanted
next-asking s asks = rw asks refl

pub next-idle : (s : Session) → is_asking s ≡ false → next_step s ≡ slice_get (exits_left s) 0
next-idle s idle = rw idle refl

fits-some : (wanted : Option Step) (reply : Reply) → is_some wanted ≡ true → TellsFolder reply → FitsWanted wanted reply
fits-some None reply some tells = absurd (cc)
fits-some (Some step) reply some tells = tells

-- the reply fits the pending step
pub takes-pending : (s : Session) (reply : Reply) → TakesReply s reply → is_asking s ≡ true → FitsWanted (session_rest s [] []).wanted reply
takes-pending s reply takes asks = fits-some (session_rest s [] []).wanted reply asks takes.1

-- an exit step is left
pub takes-exit : (s : Session) (reply : Reply) → TakesReply s reply → is_asking s ≡ false → IsSome (slice_get (exits_left s) 0)
takes-exit s reply takes idle = subst (λ (step : Option Step). IsSome step) (next-idle s idle) takes.0

fits-asking : (s : Session) (reply : Reply) → FitsWanted (session_rest s [] []).wanted reply → is_asking s ≡ true
fits-asking s reply fits = by_wanted (session_rest s [] []).wanted fits
  where
    by_wanted : (wanted : Option Step) → FitsWanted wanted reply → is_some wanted ≡ true
    by_wanted None fits = absurd fits
    by_wanted (Some step) fits = refl

leaving-idle : (s : Session) (posted : List (List ℕ)) (heard : List Reply) (blocks : List (List ℕ)) →
    IsLeaving s posted heard blocks → is_asking s ≡ false
leaving-idle s posted heard blocks leaving = ready-idle s leaving.leaves.is_ready

-- the session at its start, with no line posted
pub new-pauses : (p : ScriptSession) (acts : List Act) → Follows p.session [] [] [] → is_ready p.session ≡ true →
    p.session.exits ≡ no_exits → p.place ≡ 0 → p.text ≡ [] → Pauses p acts []
new-pauses p acts follows ready exits place text = record {
  posted = [];
  blocks = [];
  lines = ap (lines_from p.k acts) (sym place);
  text = text;
  idle = record { follows = follows; ready = ready; exits = exits };
}

-- where the lines of a session are posted up to this place, they are so with the next one
lines-more : (k : ℕ) (acts : List Act) (place next : ℕ) (line : List ℕ) (posted : List (List ℕ)) →
    lines_from k acts 0 ≡ posted ++ lines_from k acts place → lines_from k acts place ≡ line ∷ lines_from k acts next →
    lines_from k acts 0 ≡ (posted ++ line ∷ []) ++ lines_from k acts next
lines-more k acts place next line posted all first =
    all ∙ ap (λ left. posted ++ left) first ∙ sym (append_assoc posted (line ∷ []) (lines_from k acts next))

text-more : (old new : ScriptSession) (block : Option (List ℕ)) (blocks : List (List ℕ)) → old.text ≡ concat blocks →
    new.text ≡ old.text ++ concat (option_to_list block) → new.text ≡ concat (blocks ++ option_to_list block)
text-more old new block blocks before more =
    more ∙ ap (λ text. text ++ concat (option_to_list block)) before ∙ sym (concat-append blocks (option_to_list block))

module _ (old middle new : ScriptSession) (acts : List Act) (line : List ℕ) (heard : List Reply) (number : middle.k ≡ old.k)
    (session : middle.session ≡ old.session) (text : middle.text ≡ old.text)
    (first : lines_from old.k acts old.place ≡ line ∷ lines_from old.k acts middle.place) where
  posted-lines : (p : Pauses old acts heard) → new.k ≡ middle.k → new.place ≡ middle.place →
      lines_from new.k acts 0 ≡ (p.posted ++ line ∷ []) ++ lines_from new.k acts new.place
  posted-lines p same place =
      let k : new.k ≡ old.k = same ∙ number in
      ap (λ k. lines_from k acts 0) k
      ∙ lines-more old.k acts old.place middle.place line p.posted p.lines first
      ∙ ap (λ k. (p.posted ++ line ∷ []) ++ lines_from k acts middle.place) (sym k)
      ∙ ap (λ place. (p.posted ++ line ∷ []) ++ lines_from new.k acts place) (sym place)

  posted-follows : (p : Pauses old acts heard) (finished : Bool) (posts : PostsLine middle new line finished) →
      Follows new.session (p.posted ++ line ∷ []) heard (p.blocks ++ option_to_list posts.block)
  posted-follows p finished posts =
      line-follows middle.session new.session line posts.block p.posted heard p.blocks posts.rest
      (subst (λ (s : Session). Follows s p.posted heard p.blocks) (sym session) p.idle.follows)

  -- the line's block is shown, and more may follow
  pub posted-pauses : PostsLine middle new line true → Pauses old acts heard → Pauses new acts heard
  posted-pauses posts p = record {
    posted = p.posted ++ line ∷ [];
    blocks = p.blocks ++ option_to_list posts.block;
    lines = posted-lines p posts.comes.number posts.comes.place;
    text = text-more middle new posts.block p.blocks (text ∙ p.text) posts.comes.text;
    idle = record {
      follows = posted-follows p true posts;
      ready = posts.comes.ready;
      exits = posts.comes.exits ∙ ap (λ s. s.exits) session ∙ p.idle.exits;
    };
  }

  -- the line's command asks a step
  pub posted-plays : PostsLine middle new line false → Pauses old acts heard → Plays new acts heard
  posted-plays posts p = record {
    posted = p.posted ++ line ∷ [];
    blocks = p.blocks ++ option_to_list posts.block;
    lines = posted-lines p posts.comes.number posts.comes.place;
    text = text-more middle new posts.block p.blocks (text ∙ p.text) posts.comes.text;
    stands = inl (record {
      follows = posted-follows p false posts;
      pending = posts.comes.pending;
      exits = posts.comes.exits ∙ ap (λ s. s.exits) session ∙ p.idle.exits;
    });
  }

-- no line is left
pub over-plays : (old new : ScriptSession) (acts : List Act) (heard : List Reply) →
    new.k ≡ old.k → new.session ≡ old.session → new.text ≡ old.text →
    lines_from old.k acts old.place ≡ [] → lines_from old.k acts new.place ≡ [] → Pauses old acts heard → Plays new acts heard
over-plays old new acts heard number session text before after p =
    let none : lines_from new.k acts new.place ≡ [] = ap (λ k. lines_from k acts new.place) number ∙ after in
    record {
      posted = p.posted;
      blocks = p.blocks;
      lines =
          ap (λ k. lines_from k acts 0) number ∙ p.lines ∙ ap (λ left. p.posted ++ left) before ∙ ap (λ left. p.posted ++ left) (sym none);
      text = text ∙ p.text;
      stands = inr (
        none,
        record {
          before = heard;
          replies = [];
          parts = sym (append-nil heard);
          leaves = subst (λ (s : Session). Leaves s p.posted heard p.blocks []) (sym session)
              (done-leaves old.session p.posted heard p.blocks p.idle.follows p.idle.ready p.idle.exits);
        },
      );
    }

module _ (old new : ScriptSession) (acts : List Act) (reply : Reply) (heard : List Reply)
    (fits : FitsWanted (session_rest old.session [] []).wanted reply) where
  asks-before : (p : Plays old acts heard) → IsAsking old.session p.posted heard p.blocks
  asks-before p =
      elim p.stands [
        | inl asking ↦ asking
        | inr left ↦ let idle = leaving-idle old.session p.posted heard p.blocks left.1 in
            let asks = fits-asking old.session reply fits in absurd (cc)
      ]

  taken-follows : (p : Plays old acts heard) (finished : Bool) (takes : TakesIn old new reply finished) →
      Follows new.session p.posted (heard ++ reply ∷ []) (p.blocks ++ option_to_list takes.block)
  taken-follows p finished takes =
      reply-follows old.session new.session reply takes.block p.posted heard p.blocks takes.rest (asks-before p).follows

  taken-lines : (p : Plays old acts heard) → new.k ≡ old.k → new.place ≡ old.place →
      lines_from new.k acts 0 ≡ p.posted ++ lines_from new.k acts new.place
  taken-lines p number place =
      ap (λ k. lines_from k acts 0) number ∙ p.lines
      ∙ ap (λ k. p.posted ++ lines_from k acts old.place) (sym number)
      ∙ ap (λ at. p.posted ++ lines_from new.k acts at) (sym place)

  -- the command is finished with the reply
  pub taken-pauses : TakesIn old new reply true → Plays old acts heard → Pauses new acts (heard ++ reply ∷ [])
  taken-pauses takes p = record {
    posted = p.posted;
    blocks = p.blocks ++ option_to_list takes.block;
    lines = taken-lines p takes.comes.number takes.comes.place;
    text = text-more old new takes.block p.blocks p.text takes.comes.text;
    idle = record {
      follows = taken-follows p true takes;
      ready = takes.comes.ready;
      exits = takes.comes.exits ∙ (asks-before p).exits;
    };
  }

  -- the command asks another step
  pub taken-plays : TakesIn old new reply false → Plays old acts heard → Plays new acts (heard ++ reply ∷ [])
  taken-plays takes p = record {
    posted = p.posted;
    blocks = p.blocks ++ option_to_list takes.block;
    lines = taken-lines p takes.comes.number takes.comes.place;
    text = text-more old new takes.block p.blocks p.text takes.comes.text;
    stands = inl (record {
      follows = taken-follows p false takes;
      pending = takes.comes.pending;
      exits = takes.comes.exits ∙ (asks-before p).exits;
    });
  }

-- an exit step is made
pub exit-plays : (old new : ScriptSession) (acts : List Act) (reply : Reply) (heard : List Reply) →
    is_asking old.session ≡ false → new.k ≡ old.k → new.place ≡ old.place → new.text ≡ old.text →
    ((lines : List (List ℕ)) (replies : List Reply) → session_rest new.session lines replies ≡ session_rest old.session lines replies) →
    is_ready new.session ≡ is_ready old.session → exits_left new.session ≡ drop 1 (exits_left old.session) →
    Plays old acts heard → Plays new acts (heard ++ reply ∷ [])
exit-plays old new acts reply heard idle number place text rest ready left p =
    elim p.stands [
      | inl asking ↦ let asks = asking.pending in absurd (cc)
      | inr done ↦ record {
        posted = p.posted;
        blocks = p.blocks;
        lines =
            ap (λ k. lines_from k acts 0) number ∙ p.lines
            ∙ ap (λ k. p.posted ++ lines_from k acts old.place) (sym number)
            ∙ ap (λ at. p.posted ++ lines_from new.k acts at) (sym place);
        text = text ∙ p.text;
        stands = inr (
          ap (λ k. lines_from k acts new.place) number ∙ ap (lines_from old.k acts) place ∙ done.0,
          record {
            before = done.1.before;
            replies = done.1.replies ++ reply ∷ [];
            parts = ap (λ front. front ++ reply ∷ []) done.1.parts ∙ append_assoc done.1.before done.1.replies (reply ∷ []);
            leaves = exit-follows old.session new.session reply p.posted done.1.before p.blocks done.1.replies rest ready left done.1.leaves;
          },
        );
      }
    ]

-- What a session's lines and replies come to.
pub record RunIs (p : ScriptSession) (acts : List Act) (heard : List Reply) : Type 0 where
  pub shown : concat (session_run (lines_from p.k acts 0) heard).blocks ≡ p.text
  pub is_next : wanted_step (session_run (lines_from p.k acts 0) heard) ≡ next_step p.session

asking-run : (p : ScriptSession) (acts : List Act) (heard : List Reply) (play : Plays p acts heard) →
    IsAsking p.session play.posted heard play.blocks → RunIs p acts heard
asking-run p acts heard play asking =
    let next : PendingNext (session_run (play.posted ++ lines_from p.k acts p.place) heard) play.blocks p.session =
    step-next p.session play.posted (lines_from p.k acts p.place) heard play.blocks asking.follows asking.pending in
    record {
      shown = ap (λ lines. concat (session_run lines heard).blocks) play.lines ∙ ap concat next.shown ∙ sym play.text;
      is_next =
          ap (λ lines. wanted_step (session_run lines heard)) play.lines ∙ next.is_next ∙ sym (next-asking p.session asking.pending);
    }

leaving-run : (p : ScriptSession) (acts : List Act) (heard : List Reply) (play : Plays p acts heard) →
    lines_from p.k acts p.place ≡ [] → IsLeaving p.session play.posted heard play.blocks → RunIs p acts heard
leaving-run p acts heard play none leaving =
    let next : ExitNext (session_run play.posted (leaving.before ++ leaving.replies)) play.blocks p.session =
    exit-next p.session play.posted leaving.before play.blocks leaving.replies leaving.leaves in
    let lines : lines_from p.k acts 0 ≡ play.posted = play.lines ∙ ap (λ left. play.posted ++ left) none ∙ append-nil play.posted in
    let run : session_run (lines_from p.k acts 0) heard ≡ session_run play.posted (leaving.before ++ leaving.replies) =
    ap (λ all. session_run all heard) lines ∙ ap (session_run play.posted) leaving.parts in
    record {
      shown = ap (λ run. concat run.blocks) run ∙ ap concat next.shown ∙ sym play.text;
      is_next =
          ap wanted_step run ∙ next.is_next
          ∙ sym (next-idle p.session (leaving-idle p.session play.posted heard play.blocks leaving));
    }

-- a session that plays shows its blocks, and takes next what its lines and replies want
pub plays-run : (p : ScriptSession) (acts : List Act) (heard : List Reply) → Plays p acts heard → RunIs p acts heard
plays-run p acts heard play =
    elim play.stands [
      | inl asking ↦ asking-run p acts heard play asking
      | inr done ↦ leaving-run p acts heard play done.0 done.1
    ]

module _ (old new : ScriptSession) (session : Session) (block : Option (List ℕ)) (kept : Bool)
    (ready : is_ready session ≡ is_some block) (pending : is_asking session ≡ is_none block) (exits : session.exits ≡ old.session.exits)
    (finished : is_some block ≡ kept) (text : new.text ≡ old.text ++ concat (option_to_list block))
    (same : new.session ≡ session) (place : new.place ≡ old.place) (number : new.k ≡ old.k) where
  comes-to : ComesTo old new block kept
  comes-to = record {
    finished = finished;
    ready = ap (λ s. is_ready s) same ∙ ready ∙ finished;
    pending = ap (λ s. is_asking s) same ∙ pending ∙ ap not finished;
    exits = ap (λ s. s.exits) same ∙ exits;
    text = text;
    place = place;
    number = number;
  }

  pub posts-line : (line : List ℕ) →
      ((lines : List (List ℕ)) (replies : List Reply) →
      session_rest old.session (line ∷ lines) replies ≡ blocks_before (option_to_list block) (session_rest session lines replies)) →
      PostsLine old new line kept
  posts-line line rest = record {
    block = block;
    rest = λ lines replies. rest lines replies ∙ ap (λ s. blocks_before (option_to_list block) (session_rest s lines replies)) (sym same);
    comes = comes-to;
  }

  pub takes-in : (reply : Reply) →
      ((lines : List (List ℕ)) (replies : List Reply) →
      session_rest old.session lines (reply ∷ replies) ≡ blocks_before (option_to_list block) (session_rest session lines replies)) →
      TakesIn old new reply kept
  takes-in reply rest = record {
    block = block;
    rest = λ lines replies. rest lines replies ∙ ap (λ s. blocks_before (option_to_list block) (session_rest s lines replies)) (sym same);
    comes = comes-to;
  }

-- what one turn of posting lines leaves: more lines may follow, or the session plays
pub record Turns (old new : ScriptSession) (acts : List Act) (more : Bool) : Type 0 where
  pub pauses : OnTrue more ((heard : List Reply) → Pauses old acts heard → Pauses new acts heard)
  pub plays : OnFalse more ((heard : List Reply) → Pauses old acts heard → Plays new acts heard)
  pub ready : OnTrue more (is_ready new.session ≡ true)

pub posted-turns : (old middle new : ScriptSession) (acts : List Act) (line : List ℕ) (more : Bool) → middle.k ≡ old.k →
    middle.session ≡ old.session → middle.text ≡ old.text → lines_from old.k acts old.place ≡ line ∷ lines_from old.k acts middle.place →
    PostsLine middle new line more → Turns old new acts more
posted-turns old middle new acts line true number session text first posts = record {
  pauses = λ heard p. posted-pauses old middle new acts line heard number session text first posts p;
  plays = tt;
  ready = posts.comes.ready;
}
posted-turns old middle new acts line false number session text first posts = record {
  pauses = tt;
  plays = λ heard p. posted-plays old middle new acts line heard number session text first posts p;
  ready = tt;
}
