-- A session after a line, a reply and an exit step, and what its lines and replies want next.
use Rattle.std.proofs.Common.{◌≡◌, ℕ, true, false, Option, Some, None, List, [], ◌∷◌, ◌++◌, drop, sym, ap, ◌∙◌, subst, append_assoc, append-nil}
use Rattle.std.specs.Prelude.{is_some, slice_get}
use Rattle.std.specs.List.{concat}
use Rattle.std.specs.Option.{option_to_list}
use Rattle.std.proofs.lemmas.List.Folds.{concat-append}
use Rattle.vfs_base.specs.declared.reply.Reply.{Reply}
use Rattle.vfs_base.specs.declared.step.Step.{Step}
use Rattle.vfs_model.specs.Session.{is_pending, session_run, wanted_step}
use Rattle.msh_session.proofs.Runs.{done-leaves, exit-follows, exit-next, line-follows, new-follows, reply-follows, step-next}
use Rattle.msh_session.specs.Following.{Follows, PendingNext}
use Rattle.msh_session.specs.SessionTalks.{blocks_before, exits_left, is_ready, no_exits, session_rest}
use Rattle.script_stage.specs.Phases.{fits_phase, is_lost}
use Rattle.script_stage.specs.Sessions.{AtExit, AtWork, FollowsExit, FollowsLine, FollowsReply}
use Rattle.script_stage.specs.declared.phase.Phase.TheVariants as phase
use Rattle.script_stage.specs.declared.stage_session.StageSession.{StageSession}

-- what a block adds to a text
abbrev pub block_text : Option (List ℕ) → List ℕ
block_text None = []
block_text (Some block) = block

more-text : (blocks : List (List ℕ)) (block : Option (List ℕ)) (handed old new : List ℕ) → concat blocks ≡ handed ++ old → new ≡ old ++ block_text block →
    concat (blocks ++ option_to_list block) ≡ handed ++ new
more-text blocks None handed old new e f = ap concat (append-nil blocks) ∙ e ∙ ap (λ x. handed ++ x) (sym (f ∙ append-nil old))
more-text blocks (Some block) handed old new e f =
    concat-append blocks (block ∷ []) ∙ ap (λ x. concat blocks ++ x) (append-nil block) ∙ ap (λ x. x ++ block) e
    ∙ append_assoc handed old block ∙ ap (λ x. handed ++ x) (sym f)

pub line-stands : (old new : StageSession) (line : List ℕ) (block : Option (List ℕ)) →
    ((lines : List (List ℕ)) (replies : List Reply) → session_rest old.session (line ∷ lines) replies ≡ blocks_before (option_to_list block) (session_rest new.session lines replies)) →
    new.session.exits ≡ old.session.exits → is_lost new.phase ≡ false → fits_phase new.phase new.session ≡ true →
    new.text ≡ old.text ++ block_text block → FollowsLine old new line
line-stands old new line block rest exits kept fits text posted heard handed at = record {
  blocks = at.blocks ++ option_to_list block;
  follows = line-follows old.session new.session line block posted heard at.blocks rest at.follows;
  exits = exits ∙ at.exits;
  kept = kept;
  fits = fits;
  text = more-text at.blocks block handed old.text new.text at.text text;
}

pub reply-stands : (old new : StageSession) (reply : Reply) (block : Option (List ℕ)) →
    ((lines : List (List ℕ)) (replies : List Reply) → session_rest old.session lines (reply ∷ replies) ≡ blocks_before (option_to_list block) (session_rest new.session lines replies)) →
    new.session.exits ≡ old.session.exits → is_lost new.phase ≡ false → fits_phase new.phase new.session ≡ true →
    new.text ≡ old.text ++ block_text block → FollowsReply old new reply
reply-stands old new reply block rest exits kept fits text posted heard handed at = record {
  blocks = at.blocks ++ option_to_list block;
  follows = reply-follows old.session new.session reply block posted heard at.blocks rest at.follows;
  exits = exits ∙ at.exits;
  kept = kept;
  fits = fits;
  text = more-text at.blocks block handed old.text new.text at.text text;
}

pub exit-stands : (old new : StageSession) →
    ((lines : List (List ℕ)) (replies : List Reply) → session_rest new.session lines replies ≡ session_rest old.session lines replies) →
    is_ready new.session ≡ is_ready old.session → exits_left new.session ≡ drop 1 (exits_left old.session) → new.text ≡ old.text → FollowsExit old new
exit-stands old new rest ready left text posted heard handed reply at = record {
  blocks = at.blocks;
  before = at.before;
  replies = at.replies ++ reply ∷ [];
  parts = ap (λ x. x ++ reply ∷ []) at.parts ∙ append_assoc at.before at.replies (reply ∷ []);
  leaves = exit-follows old.session new.session reply posted at.before at.blocks at.replies rest ready left at.leaves;
  text = at.text ∙ ap (λ x. handed ++ x) (sym text);
}

pub new-stands : (p : StageSession) →
    ((lines : List (List ℕ)) (replies : List Reply) → session_rest p.session lines replies ≡ session_run lines replies) →
    p.session.exits ≡ no_exits → is_lost p.phase ≡ false → fits_phase p.phase p.session ≡ true → p.text ≡ [] → AtWork p [] [] []
new-stands p rest exits kept fits text = record {
  blocks = [];
  follows = new-follows p.session rest;
  exits = exits;
  kept = kept;
  fits = fits;
  text = sym text;
}

-- an idle session begins to leave
pub idle-leaves : (p : StageSession) (posted : List (List ℕ)) (heard : List Reply) (handed : List ℕ) → AtWork p posted heard handed → p.phase ≡ phase.Idle → AtExit p posted heard handed
idle-leaves p posted heard handed at e = record {
  blocks = at.blocks;
  before = heard;
  replies = [];
  parts = sym (append-nil heard);
  leaves = done-leaves p.session posted heard at.blocks at.follows (ap (λ x. fits_phase x p.session) (sym e) ∙ at.fits) at.exits;
  text = at.text;
}

pub asking-next : (p : StageSession) (posted more : List (List ℕ)) (heard : List Reply) (handed : List ℕ) → (at : AtWork p posted heard handed) → p.phase ≡ phase.Asking →
    PendingNext (session_run (posted ++ more) heard) at.blocks p.session
asking-next p posted more heard handed at e =
    step-next p.session posted more heard at.blocks at.follows (ap (λ x. fits_phase x p.session) (sym e) ∙ at.fits)

-- the run of an asking session's lines so far is pending
pub asking-pending : (p : StageSession) (posted : List (List ℕ)) (heard : List Reply) (handed : List ℕ) (asked : Step) → AtWork p posted heard handed → p.phase ≡ phase.Asking →
    (session_rest p.session [] []).wanted ≡ Some asked → is_pending (session_run posted heard) ≡ true
asking-pending p posted heard handed asked at e f =
    ap (λ x. is_pending (session_run x heard)) (sym (append-nil posted)) ∙ ap is_some ((asking-next p posted [] heard handed at e).wanted ∙ f)

pub asking-wants : (p : StageSession) (posted more : List (List ℕ)) (heard : List Reply) (handed : List ℕ) (asked : Step) → AtWork p posted heard handed → p.phase ≡ phase.Asking →
    (session_rest p.session [] []).wanted ≡ Some asked → wanted_step (session_run (posted ++ more) heard) ≡ Some asked
asking-wants p posted more heard handed asked at e f = (asking-next p posted more heard handed at e).is_next ∙ f

-- a session that leaves has nothing pending
pub exit-idle : (p : StageSession) (posted : List (List ℕ)) (heard : List Reply) (handed : List ℕ) → AtExit p posted heard handed → is_pending (session_run posted heard) ≡ false
exit-idle p posted heard handed at =
    ap (λ x. is_pending (session_run posted x)) at.parts ∙ ap is_some (exit-next p.session posted at.before at.blocks at.replies at.leaves).wanted

pub exit-wants : (p : StageSession) (posted : List (List ℕ)) (heard : List Reply) (handed : List ℕ) → AtExit p posted heard handed →
    wanted_step (session_run posted heard) ≡ slice_get (exits_left p.session) 0
exit-wants p posted heard handed at =
    ap (λ x. wanted_step (session_run posted x)) at.parts ∙ (exit-next p.session posted at.before at.blocks at.replies at.leaves).is_next

-- what the finished blocks show
pub exit-shows : (p : StageSession) (posted : List (List ℕ)) (heard : List Reply) (handed : List ℕ) → AtExit p posted heard handed →
    concat (session_run posted heard).blocks ≡ handed ++ p.text
exit-shows p posted heard handed at =
    ap (λ x. concat (session_run posted x).blocks) at.parts
    ∙ ap concat (exit-next p.session posted at.before at.blocks at.replies at.leaves).shown
    ∙ at.text

-- lines behind those that were posted show more behind what was handed out
pub work-shows : (p : StageSession) (posted more : List (List ℕ)) (heard : List Reply) (handed : List ℕ) → AtWork p posted heard handed →
    (later : List ℕ) × (concat (session_run (posted ++ more) heard).blocks ≡ handed ++ later)
work-shows p posted more heard handed at =
    let rest = session_rest p.session more [] in
    let run : session_run (posted ++ more) heard ≡ blocks_before at.blocks rest =
    ap (session_run (posted ++ more)) (sym (append-nil heard)) ∙ at.follows.goes_on more [] in (
      p.text ++ concat rest.blocks,
      ap (λ r. concat r.blocks) run ∙ concat-append at.blocks rest.blocks ∙ ap (λ x. x ++ concat rest.blocks) at.text
          ∙ append_assoc handed p.text (concat rest.blocks),
    )

-- a session whose text is handed out
pub hands-work : (old new : StageSession) (posted : List (List ℕ)) (heard : List Reply) (handed : List ℕ) → new.session ≡ old.session → new.phase ≡ old.phase →
    new.text ≡ [] → AtWork old posted heard handed → AtWork new posted heard (handed ++ old.text)
hands-work old new posted heard handed e f g at = record {
  blocks = at.blocks;
  follows = subst (λ x. Follows x posted heard at.blocks) (sym e) at.follows;
  exits = ap (λ x. x.exits) e ∙ at.exits;
  kept = ap is_lost f ∙ at.kept;
  fits = ap (λ x. fits_phase x new.session) f ∙ ap (λ x. fits_phase old.phase x) e ∙ at.fits;
  text = at.text ∙ sym (append-nil (handed ++ old.text)) ∙ ap (λ x. (handed ++ old.text) ++ x) (sym g);
}
