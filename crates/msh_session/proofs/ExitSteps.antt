-- A session makes its exit steps one after the other.
use Rattle.std.proofs.Common.{◌≡◌, ◌∙◌, ℕ, ◌+◌, ◌<◌, ◌≤◌, Bool, true, false, List, [], ◌∷◌, ◌++◌, drop, length, refl, sym, ap, arith, if◌then◌else◌}
use Rattle.std.specs.List.{filter_map}
use Rattle.vfs_base.specs.Path.{Path}
use Rattle.vfs_base.specs.declared.limits.TheConstants.{DESCRIPTORS, WINDOWS}
use Rattle.vfs_base.specs.declared.step.Step.{Step}
use Rattle.vfs_model.specs.DescriptorLaws.{IsSound}
use Rattle.vfs_model.specs.Session.{close_step, files_to_close, home_steps, lines_run, unmap_step}
use Rattle.vfs_model.specs.declared.shell_state.Next.TheVariants as next
use Rattle.vfs_model.specs.declared.shell_state.ShellState.{ShellState}
use Rattle.msh_commands.specs.CommandTalks.{command_talk}
use Rattle.msh_desk.specs.State.{state_of}
use Rattle.msh_commands.specs.declared.command.Command.{Command}
use Rattle.msh_session.proofs.Commands.{commands-rest}
use Rattle.msh_session.proofs.ExitLists.{closes-few, first-goes, fourth-goes, has_first, next-dropped, place-few, second-goes, third-goes, unmaps-few}
use Rattle.msh_session.proofs.Heads.{head-asks, head-shows}
use Rattle.msh_session.proofs.Stages.{rest-state}
use Rattle.msh_session.specs.Blocks.{after_head}
use Rattle.msh_session.specs.SessionTalks.{exits_left, session_rest, stage_rest}
use Rattle.msh_session.specs.declared.session.Session.{Session}
use Rattle.msh_session.specs.declared.stage.Stage.{Stage}
use Rattle.msh_session.specs.declared.stage.Stage.TheVariants as stage

head-few : (head : List ℕ) (command : Command) (state : ShellState) → length (after_head head (command_talk command state []) (lines_run [])).own ≤ 2
head-few head command state =
    let answer = command_talk command state [] in
    let few = (commands-rest command).few state in
    elim answer.next as (λ x. answer.next ≡ x → length (after_head head answer (lines_run [])).own ≤ 2) [
      | next.Ask asked ↦ λ e. rw (head-asks head asked answer (lines_run []) e) few
      | next.Finished text ↦ λ e. rw (head-shows head text answer (lines_run []) e) (omega arith)
    ] refl

stage-few : (at : Stage) (state : ShellState) → length (stage_rest at state [] []).own ≤ 2
stage-few stage.Ready state = omega arith
stage-few (stage.Pending head command) state = head-few head command state
stage-few (stage.GivenUp command) state = (commands-rest command).few state

-- what is left of each kind of exit steps

abbrev pub own_left : Session → List Step
own_left s = drop s.exits.own (session_rest s [] []).own

abbrev pub unmaps_left : ℕ → ShellState → List Step
unmaps_left made state = drop made (filter_map unmap_step state.mappings)

abbrev pub closes_left : ℕ → ShellState → List Step
closes_left made state = drop made (filter_map (close_step state.open_files) (files_to_close state.open_files.descriptors))

abbrev home_left : Bool → Path → List Step
home_left is_home shown = if is_home then [] else home_steps shown

pub own-fits : (s : Session) → has_first (own_left s) ≡ true → s.exits.own < 2
own-fits s left = place-few s.exits.own 2 (session_rest s [] []).own (stage-few s.stage (state_of s.desk)) left

pub mapping-fits : (s : Session) → length (state_of s.desk).mappings ≡ WINDOWS → has_first (unmaps_left s.exits.mappings (state_of s.desk)) ≡ true → s.exits.mappings < 8
mapping-fits s count left = place-few s.exits.mappings 8 (filter_map unmap_step (state_of s.desk).mappings) (unmaps-few (state_of s.desk) count) left

pub file-fits : (s : Session) → IsSound (state_of s.desk).open_files → has_first (closes_left s.exits.files (state_of s.desk)) ≡ true → s.exits.files < 16
file-fits s sound left =
    place-few s.exits.files 16 (filter_map (close_step (state_of s.desk).open_files) (files_to_close (state_of s.desk).open_files.descriptors))
    (closes-few (state_of s.desk) sound) left

-- what is left of the lists stands in the session's state
at-state : (s : Session) (test : ShellState → Bool) (value : Bool) → test (state_of s.desk) ≡ value → test (session_rest s [] []).state ≡ value
at-state s test value e = ap test (rest-state s) ∙ e

pub own-goes : (s : Session) → has_first (own_left s) ≡ true → exits_left (record s { exits = record s.exits { own = s.exits.own + 1 } }) ≡ drop 1 (exits_left s)
own-goes s left =
    let state = (session_rest s [] []).state in
    ap (λ own. own ++ unmaps_left s.exits.mappings state ++ closes_left s.exits.files state ++ home_left s.exits.is_home state.shown)
    (sym (next-dropped s.exits.own (session_rest s [] []).own))
    ∙ first-goes (own_left s) (unmaps_left s.exits.mappings state) (closes_left s.exits.files state) (home_left s.exits.is_home state.shown) left

pub mapping-goes : (s : Session) → has_first (own_left s) ≡ false → has_first (unmaps_left s.exits.mappings (state_of s.desk)) ≡ true →
    exits_left (record s { exits = record s.exits { mappings = s.exits.mappings + 1 } }) ≡ drop 1 (exits_left s)
mapping-goes s none left =
    let state = (session_rest s [] []).state in
    ap (λ unmaps. own_left s ++ unmaps ++ closes_left s.exits.files state ++ home_left s.exits.is_home state.shown)
    (sym (next-dropped s.exits.mappings (filter_map unmap_step state.mappings)))
    ∙ second-goes (own_left s) (unmaps_left s.exits.mappings state) (closes_left s.exits.files state) (home_left s.exits.is_home state.shown) none
    (at-state s (λ state. has_first (unmaps_left s.exits.mappings state)) true left)

pub file-goes : (s : Session) → has_first (own_left s) ≡ false → has_first (unmaps_left s.exits.mappings (state_of s.desk)) ≡ false →
    has_first (closes_left s.exits.files (state_of s.desk)) ≡ true →
    exits_left (record s { exits = record s.exits { files = s.exits.files + 1 } }) ≡ drop 1 (exits_left s)
file-goes s none nothing left =
    let state = (session_rest s [] []).state in
    ap (λ closes. own_left s ++ unmaps_left s.exits.mappings state ++ closes ++ home_left s.exits.is_home state.shown)
    (sym (next-dropped s.exits.files (filter_map (close_step state.open_files) (files_to_close state.open_files.descriptors))))
    ∙ third-goes (own_left s) (unmaps_left s.exits.mappings state) (closes_left s.exits.files state) (home_left s.exits.is_home state.shown) none
    (at-state s (λ state. has_first (unmaps_left s.exits.mappings state)) false nothing)
    (at-state s (λ state. has_first (closes_left s.exits.files state)) true left)

one-home : (is_home : Bool) (shown : Path) → [] ≡ drop 1 (home_left is_home shown)
one-home true shown = refl
one-home false [] = refl
one-home false (name ∷ names) = refl

pub home-goes : (s : Session) → has_first (own_left s) ≡ false → has_first (unmaps_left s.exits.mappings (state_of s.desk)) ≡ false →
    has_first (closes_left s.exits.files (state_of s.desk)) ≡ false →
    exits_left (record s { exits = record s.exits { is_home = true } }) ≡ drop 1 (exits_left s)
home-goes s none nothing neither =
    let state = (session_rest s [] []).state in
    ap (λ home. own_left s ++ unmaps_left s.exits.mappings state ++ closes_left s.exits.files state ++ home) (one-home s.exits.is_home state.shown)
    ∙ fourth-goes (own_left s) (unmaps_left s.exits.mappings state) (closes_left s.exits.files state) (home_left s.exits.is_home state.shown) none
    (at-state s (λ state. has_first (unmaps_left s.exits.mappings state)) false nothing)
    (at-state s (λ state. has_first (closes_left s.exits.files state)) false neither)
