-- A session follows what was posted to it and what it heard.
use Rattle.std.proofs.Common.{◌≡◌, ◌∙◌, ℕ, suc, ◌+◌, true, false, Option, None, List, [], ◌∷◌, ◌++◌, drop, length, refl, sym, ap, append_assoc, append-nil, arith, length-append}
use Rattle.std.specs.Prelude.{slice_get, is_some, cond}
use Rattle.std.specs.Option.{option_to_list}
use Rattle.vfs_base.specs.declared.reply.Reply.{Reply}
use Rattle.vfs_base.specs.declared.step.Step.{Step}
use Rattle.vfs_model.specs.Session.{SessionRun, exit_step, exit_steps, is_pending, lines_run, session_run, wanted_step}
use Rattle.vfs_model.specs.declared.shell_state.ShellState.{ShellState}
use Rattle.msh_desk.specs.State.{state_of}
use Rattle.msh_session.proofs.ExitLists.{first-dropped, next-dropped}
use Rattle.msh_session.proofs.Stages.{pending-more, ready-rest}
use Rattle.msh_session.specs.Following.{AbandonedSessionLeaves, AllExitsAreLeft, DoneSessionLeaves, ExitStepIsNext, Follows, Leaves, MadeExitIsFollowed, NewSessionFollows, PendingStepIsNext, PostedLineIsFollowed, TakenReplyIsFollowed}
use Rattle.msh_session.specs.SessionTalks.{blocks_before, exits_behind, exits_left, is_ready, no_exits, session_rest}
use Rattle.msh_session.specs.declared.session.Session.{Session}

pub new-follows : NewSessionFollows
new-follows s same = record { goes_on = λ more later. sym (same more later) }

-- blocks before blocks
blocks-join : (first second : List (List ℕ)) (run : SessionRun) → blocks_before first (blocks_before second run) ≡ blocks_before (first ++ second) run
blocks-join first second run = ap (λ all. record run { blocks = all }) (sym (append_assoc first second run.blocks))

pub line-follows : PostedLineIsFollowed
line-follows old new line block lines heard blocks same follows = record {
  goes_on = λ more later.
      ap (λ all. session_run all (heard ++ later)) (append_assoc lines (line ∷ []) more)
      ∙ follows.goes_on (line ∷ more) later
      ∙ ap (blocks_before blocks) (same more later)
      ∙ blocks-join blocks (option_to_list block) (session_rest new more later);
}

pub reply-follows : TakenReplyIsFollowed
reply-follows old new reply block lines heard blocks same follows = record {
  goes_on = λ more later.
      ap (session_run (lines ++ more)) (append_assoc heard (reply ∷ []) later)
      ∙ follows.goes_on more (reply ∷ later)
      ∙ ap (blocks_before blocks) (same more later)
      ∙ blocks-join blocks (option_to_list block) (session_rest new more later);
}

wanted-first : (run : SessionRun) → is_pending run ≡ true → wanted_step run ≡ run.wanted
wanted-first run e = rw e refl

exit-first : (run : SessionRun) → is_pending run ≡ false → wanted_step run ≡ exit_step run
exit-first run e = rw e refl

pub step-next : PendingStepIsNext
step-next s lines more heard blocks follows asks =
    let run : session_run (lines ++ more) heard ≡ blocks_before blocks (session_rest s more []) =
    ap (session_run (lines ++ more)) (sym (append-nil heard)) ∙ follows.goes_on more [] in
    let same = pending-more s more asks in
    let pending : is_pending (session_run (lines ++ more) heard) ≡ true = ap is_pending run ∙ ap (λ r. is_pending r) same.0 ∙ asks in
    let wanted = ap (λ r. r.wanted) run ∙ ap (λ r. r.wanted) same.0 in
    record {
      shown = ap (λ r. r.blocks) run ∙ ap (λ r. blocks ++ r.blocks) same.0 ∙ ap (λ own. blocks ++ own) same.1 ∙ append-nil blocks;
      wanted = wanted;
      is_next = wanted-first (session_run (lines ++ more) heard) pending ∙ wanted;
    }

pub all-left : AllExitsAreLeft
all-left s none = ap (λ made. exits_behind made (session_rest s [] [])) none

pub done-leaves : DoneSessionLeaves
done-leaves s lines heard blocks follows ready none = record { follows = follows; is_ready = ready; made = all-left s none }

pub exit-follows : MadeExitIsFollowed
exit-follows old new reply lines heard blocks replies same ready left leaves = record {
  follows = record { goes_on = λ more later. leaves.follows.goes_on more later ∙ ap (blocks_before blocks) (sym (same more later)) };
  is_ready = ready ∙ leaves.is_ready;
  made =
      left ∙ ap (drop 1) leaves.made ∙ next-dropped (length replies) (exit_steps (session_rest old [] []))
      ∙ ap (λ n. drop n (exit_steps (session_rest old [] []))) (sym (length-append replies (reply ∷ [])))
      ∙ ap (λ run. drop (length (replies ++ reply ∷ [])) (exit_steps run)) (sym (same [] []));
}

pub exit-next : ExitStepIsNext
exit-next s lines heard blocks replies leaves =
    let run : session_run lines (heard ++ replies) ≡ blocks_before blocks (lines_run [] (state_of s.desk) replies) =
    ap (λ all. session_run all (heard ++ replies)) (sym (append-nil lines)) ∙ leaves.follows.goes_on [] replies
    ∙ ap (blocks_before blocks) (ready-rest s [] replies leaves.is_ready) in
    record {
      shown = ap (λ r. r.blocks) run ∙ append-nil blocks;
      wanted = ap (λ r. r.wanted) run;
      is_next =
          exit-first (session_run lines (heard ++ replies)) (ap is_pending run)
          ∙ ap exit_step run
          ∙ sym (first-dropped (length replies) (exit_steps (lines_run [] (state_of s.desk) [])))
          ∙ ap (λ r. slice_get (drop (length replies) (exit_steps r)) 0) (sym (ready-rest s [] [] leaves.is_ready))
          ∙ ap (λ list. slice_get list 0) (sym leaves.made);
    }

pub abandoned-leaves : AbandonedSessionLeaves
abandoned-leaves old new lines heard blocks follows given none =
    let run : session_run lines heard ≡ blocks_before blocks (session_rest old [] []) =
    ap (λ all. session_run all heard) (sym (append-nil lines)) ∙ ap (session_run (lines ++ [])) (sym (append-nil heard)) ∙ follows.goes_on [] [] in
    all-left new none ∙ ap exit_steps (given [] []) ∙ sym (ap exit_steps run)
