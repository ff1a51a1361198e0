-- From the serving of lines to what a run shows of its input.
use Rattle.std.proofs.Common.{◌≡◌, ℕ, ◌+◌, ◌-◌, ◌≤◌, Bool, true, false, Option, Some, None, option_map, unwrap_or, if◌then◌else◌, List, [], ◌++◌, length, drop, take, map, refl, sym, ap, ◌∙◌, subst, append_assoc, append-nil, arith}
use Rattle.std.specs.List.{concat}
use Rattle.std.specs.Io.KnownBytes.{Appends, prepend_known}
use Rattle.std.proofs.KnownBytes.{Appends-nil, Appends-trans}
use Rattle.std.proofs.Math.Seq.{drop-append_seam, take-append_seam, take-append-add, take-length}
use Rattle.std.proofs.lemmas.List.{take-append-le}
use Rattle.vfs_base.specs.declared.entry.Entry.{Entry}
use Rattle.vfs_model.specs.Deck.{shell_deck}
use Rattle.vfs_model.specs.FaultCounts.{ByDevice}
use Rattle.vfs_model.specs.Schedule.{schedule_line}
use Rattle.vfs_model.specs.Script.{first_bad_from, first_bad_line, input_lines, line_text, raw_lines, whole_lines}
use Rattle.vfs_model.specs.ScriptRun.{RunState, has_ended, run_of, state_after}
use Rattle.vfs_model.specs.Transcript.{finished_text, shown, transcript}
use Rattle.vfs_model.specs.declared.script_form.ScriptForm.TheVariants as form
use Rattle.dfs_input.proofs.KnownLemmas.{consumed_input}
use Rattle.dfs_input.proofs.ScriptLemmas.{first_bad_from-first}
use Rattle.dfs_input.specs.Known.{IsInput}
use Rattle.dfs_input.specs.LineReader.{BeginsBadLine, is_past_form}
use Rattle.dfs_run.proofs.ServingLemmas.{bad-behind, fewer-bound, is_supposed, length-mapped, map-append, supposed}
use Rattle.dfs_run.proofs.StandingLemmas.{here-bound}
use Rattle.dfs_run.specs.Ending.{EndsAtBadLine, EndsAtReadFault, EndsWell, HasBlocks, HasFront}
use Rattle.dfs_run.specs.Headline.{HasTranscript, ShowsAllButLast, ShowsBlocks, ShowsFirstLines, begun_line, ended_lines, lines_in_form}
use Rattle.dfs_run.specs.Run.{OfInput, Run, Streams, run_for}
use Rattle.dfs_run.specs.declared.report.FaultNote.{FaultNote}
use Rattle.dfs_run.specs.Serving.{Moment, Posts, Serves, opening_moment}
use Rattle.dfs_run.specs.Standing.{Continues, StandsBehind}
use Rattle.dfs_run.specs.Stopping.{BreaksOff}
use Rattle.script_stage.specs.Scenes.{Scene, Script}

-- what is shown, and the schedule's line behind it where the end was taken
pub over_text : (s : Option RunState) (f : RunState → List ℕ) (text line : List ℕ) → option_map f s ≡ Some text → has_ended s ≡ true
    → option_map (λ s. f s ++ (if s.is_over then line else [])) s ≡ Some (text ++ line)
over_text None f text line e h = cc
over_text (Some s) f text line e h =
    ap (λ b. Some (f s ++ (if b then line else []))) h ∙ ap (option_map (λ t. t ++ line)) e

-- and where it was not taken
pub open_text : (s : Option RunState) (f : RunState → List ℕ) (text line : List ℕ) → option_map f s ≡ Some text → has_ended s ≡ false
    → option_map (λ s. f s ++ (if s.is_over then line else [])) s ≡ Some text
open_text None f text line e h = cc
open_text (Some s) f text line e h =
    ap (λ b. Some (f s ++ (if b then line else []))) h ∙ ap (option_map (λ t. t ++ [])) e ∙ ap Some (append-nil text)

-- the input that a source without buffered bytes has
known-opening : (left : Option (List ℕ)) (bytes : List ℕ) → IsInput (prepend_known [] left) bytes → IsInput left bytes
known-opening None bytes known = tt
known-opening (Some input) bytes known = known

-- the lines in front
pub first-lines : (input : List ℕ) (raws later : List (List ℕ)) → raw_lines input ≡ raws ++ later → take (length raws) (input_lines input) ≡ map line_text raws
first-lines input raws later e =
    ap (λ l. take (length raws) (map line_text l)) e ∙ ap (take (length raws)) (map-append line_text raws later)
    ∙ ap (λ n. take n (map line_text raws ++ map line_text later)) (sym (length-mapped raws))
    ∙ take-append_seam (map line_text raws) (map line_text later)

module _ (base : Script) (io : Streams) (steps : List Entry) (last : ByDevice) (fault : Option FaultNote) where
  abbrev run : Run
  run = run_for base io steps last fault

  -- the transcript of a whole schedule
  pub transcript-whole : (lines : List (List ℕ)) (text : List ℕ) → HasBlocks base lines steps last text →
      HasTranscript form.Shell (shell_deck lines) run true (text ++ schedule_line steps)
  unfolding transcript shown
  transcript-whole lines text b = record {
    follows = b.follows;
    taken = over_text (state_after (shell_deck lines) base.describe steps) (finished_text form.Shell (shell_deck lines)) text (schedule_line steps) b.taken b.whole;
    ends = b.whole;
    taken_on = b.taken_on;
    unstarved = b.unstarved;
    before = λ e. absurd (cc);
  }

  -- the transcript of a schedule without its end
  pub transcript-open : (lines : List (List ℕ)) (handed : List ℕ) (p : HasFront base lines steps last handed) →
      HasTranscript form.Shell (shell_deck lines) run false (handed ++ p.later)
  unfolding transcript shown
  transcript-open lines handed p = record {
    follows = p.follows;
    taken = open_text (state_after (shell_deck lines) base.describe steps) (finished_text form.Shell (shell_deck lines)) (handed ++ p.later) (schedule_line steps) p.taken p.unended;
    ends = p.unended;
    taken_on = p.taken_on;
    unstarved = p.unstarved;
    before = λ e. p.before;
  }

  -- the first lines of the input, and what was written of their transcript
  pub front-of : (whole : Bool) (input : List ℕ) (raws later : List (List ℕ)) (text : List ℕ) (size : ℕ) → raw_lines input ≡ raws ++ later →
      HasTranscript form.Shell (shell_deck (map line_text raws)) run whole text → Appends io.before io.now (take size text) →
      ShowsAllButLast (map line_text raws) run size → ShowsFirstLines whole run input
  front-of whole input raws later text size e = λ t w prompt.
      let same = first-lines input raws later e in
      record {
        count = length raws;
        front = record {
          text = text;
          size = size;
          transcript = subst (λ lines. HasTranscript form.Shell (shell_deck lines) run whole text) (sym same) t;
          written = w;
        };
        prompt = subst (λ lines. ShowsAllButLast lines run size) (sym same) prompt;
      }

  -- the blocks of the lines but the last are within what was written
  posted-prompt : (start stage : Scene) (given before sink : Option (List ℕ)) (done : Bool) (p : Posts (opening_moment start given before) stage sink done) →
      StandsBehind start base [] [] → Continues stage steps → ShowsAllButLast (map line_text p.raws) run p.count
  posted-prompt start stage given before sink done p h on s taken =
      let bound = p.prompt base [] [] h on.0 s (ap (state_after (shell_deck (map line_text p.raws)) base.describe) (sym on.1) ∙ taken) in
      let last : 0 + (length p.raws - 1) ≡ length (map line_text p.raws) - 1 = omega (arith, length-mapped p.raws) in
      let count : 0 + p.count ≡ p.count = omega arith in
      subst (λ n. length (concat (take n (run_of (shell_deck (map line_text p.raws)) s 1).blocks)) ≤ p.count) last
      (subst (λ m. length (concat (take (0 + (length p.raws - 1)) (run_of (shell_deck (map line_text p.raws)) s 1).blocks)) ≤ m) count bound)

  -- a front of the transcript of posted lines, without the end
  pub front-unended : (start stage : Scene) (done : Bool) (p : Posts (opening_moment start io.given io.before) stage io.now done) → StandsBehind start base [] [] →
      HasFront base (map line_text p.raws) steps last p.text × Continues stage steps → OfInput run (ShowsFirstLines false run)
  front-unended start stage done p stands h = (
    p.bytes,
    known-opening io.given p.bytes p.reads,
    front-of false p.bytes p.raws p.later (p.text ++ h.0.later) p.count p.lines (transcript-open (map line_text p.raws) p.text h.0)
        (subst (Appends io.before io.now) (sym (take-append-le p.count p.text h.0.later p.fits)) p.written)
        (posted-prompt start stage io.given io.before io.now done p stands h.1),
  )

  -- posted lines, of whose transcript a front was written, and the end
  pub front-whole : (start stage : Scene) (p : Posts (opening_moment start io.given io.before) stage io.now true) → StandsBehind start base [] [] →
      HasBlocks base (map line_text p.raws) steps last p.text × Continues stage steps → OfInput run (ShowsFirstLines true run)
  front-whole start stage p stands h = (
    p.bytes,
    known-opening io.given p.bytes p.reads,
    front-of true p.bytes p.raws p.later (p.text ++ schedule_line steps) p.count p.lines (transcript-whole (map line_text p.raws) p.text h.0)
        (subst (Appends io.before io.now) (sym (take-append-le p.count p.text (schedule_line steps) p.fits)) p.written)
        (posted-prompt start stage io.given io.before io.now true p stands h.1),
  )

  module _ (start : Scene) (now : Moment) (p : Serves (opening_moment start io.given io.before) now) (stands : StandsBehind start base [] []) where
    -- what was served shows all lines but the last
    served-prompt : (size : ℕ) → length p.text ≤ size → Continues now.stage steps → ShowsAllButLast (map line_text p.raws) run size
    served-prompt size fits on s taken =
        let lines = map line_text p.raws in
        let all = here-bound now.stage base lines p.text (p.stands base [] [] stands) in
        let bound = fewer-bound now.stage base lines (length lines - 1) (length lines) (length p.text) (omega arith) all on.0 s
        (ap (state_after (shell_deck lines) base.describe) (sym on.1) ∙ taken) in
        omega (arith, bound, fits)

    -- the input that these lines begin
    pub begun-input : (bytes : List ℕ) → IsInput now.ahead bytes → IsInput io.given (concat p.raws ++ bytes)
    begun-input bytes known = known-opening io.given (concat p.raws ++ bytes) (p.reads.taken bytes known)

    -- lines that were served, and the end: of the schedule's line a front was written
    pub served-end : (bytes : List ℕ) → IsInput now.ahead bytes → (count : ℕ) → HasBlocks base (map line_text p.raws) steps last p.text × Continues now.stage steps →
        Appends now.written io.now (take count (schedule_line steps)) → ShowsFirstLines true run (concat p.raws ++ bytes)
    served-end bytes known count h w =
        front-of true (concat p.raws ++ bytes) p.raws (raw_lines bytes) (p.text ++ schedule_line steps) (length p.text + count) (p.reads.lines bytes known)
        (transcript-whole (map line_text p.raws) p.text h.0)
        (subst (Appends io.before io.now) (sym (take-append-add p.text (schedule_line steps) count))
        (Appends-trans io.before now.written io.now p.text (take count (schedule_line steps)) p.written w))
        (served-prompt (length p.text + count) (omega arith) h.1)

    -- nothing was written behind the blocks
    none-written : io.now ≡ now.written → Appends now.written io.now (take 0 (schedule_line steps))
    none-written e = subst (λ o. Appends now.written o []) (sym e) (Appends-nil now.written)

    -- all lines were served, and the schedule's line was written
    pub ends-well : IsInput now.ahead [] → HasBlocks base (map line_text p.raws) steps last p.text × Continues now.stage steps →
        Appends now.written io.now (schedule_line steps) → OfInput run (EndsWell run)
    ends-well over h w =
        let all : raw_lines (concat p.raws ++ []) ≡ p.raws = p.reads.lines [] over ∙ append-nil p.raws in (
          concat p.raws ++ [],
          begun-input [] over,
          record {
            form = ap (first_bad_from 1 0) all ∙ p.form;
            shows = record {
              deck = shell_deck (map line_text p.raws);
              text = p.text ++ schedule_line steps;
              script = ap (λ l. Some (shell_deck (map line_text l))) all;
              transcript = transcript-whole (map line_text p.raws) p.text h.0;
              written = Appends-trans io.before now.written io.now p.text (schedule_line steps) p.written w;
            };
            front = served-end [] over (length (schedule_line steps)) h (subst (Appends now.written io.now) (sym (take-length (schedule_line steps))) w);
          },
        )

    -- the blocks of lines that were served
    shows-blocks : (lines : List (List ℕ)) → map line_text p.raws ≡ lines → io.now ≡ now.written → HasBlocks base (map line_text p.raws) steps last p.text → ShowsBlocks lines run
    shows-blocks lines e w b = subst (λ l. ShowsBlocks l run) e (record {
      text = p.text;
      follows = b.follows;
      taken = b.taken;
      whole = b.whole;
      written = subst (λ o. Appends io.before o p.text) (sym w) p.written;
    })

    -- the next line is bad, and the end was taken
    pub ends-at-bad-line : (line : ℕ) → line ≡ now.number + 1 → BeginsBadLine now.size now.ahead → io.now ≡ now.written →
        HasBlocks base (map line_text p.raws) steps last p.text × Continues now.stage steps → OfInput run (EndsAtBadLine line run)
    ends-at-bad-line line number bad w h =
        let input = concat p.raws ++ bad.bytes in
        let lines : raw_lines input ≡ p.raws ++ raw_lines bad.bytes = p.reads.lines bad.bytes bad.input in
        let size : 0 + length (concat p.raws) ≡ now.size = sym p.size in
        let place : 1 + length p.raws ≡ line = omega (arith, number, p.number) in
        let form : first_bad_line input ≡ Some line =
        ap (first_bad_from 1 0) lines ∙ bad-behind 1 0 (length p.raws) p.raws (raw_lines bad.bytes) refl p.form
        ∙ ap (λ n. first_bad_from (1 + length p.raws) n (raw_lines bad.bytes)) size
        ∙ first_bad_from-first (1 + length p.raws) now.size bad.bytes bad.begins ∙ ap Some place in
        let good : map line_text p.raws ≡ lines_in_form input =
        sym (first-lines input p.raws (raw_lines bad.bytes) lines)
        ∙ ap (λ n. take n (input_lines input)) (let e : length p.raws ≡ line - 1 = omega (arith, place) in e)
        ∙ sym (ap (λ found. unwrap_or (option_map (λ k. take (k - 1) (input_lines input)) found) (input_lines input)) form) in (
          input,
          begun-input bad.bytes bad.input,
          record {
            form = form;
            shows = shows-blocks (lines_in_form input) good w h.0;
            front = served-end bad.bytes bad.input 0 h (none-written w);
          },
        )

    -- a read failed in the line that was begun, and the end was taken
    pub ends-at-read-fault : now.at_end ≡ false → BreaksOff now.size now.ahead io.rest → io.now ≡ now.written →
        HasBlocks base (map line_text p.raws) steps last p.text × Continues now.stage steps → OfInput run (EndsAtReadFault run)
    ends-at-read-fault unended breaks w h =
        let rest = supposed io.rest in
        let known = is_supposed io.rest in
        let ahead = consumed_input now.ahead io.rest breaks.partial breaks.taken rest known in
        let read = concat p.raws ++ breaks.partial in
        let ended : ended_lines read ≡ p.raws = p.whole unended breaks.partial ∙ ap (λ l. p.raws ++ l) breaks.none_whole ∙ append-nil p.raws in
        let size : length (concat (ended_lines read)) ≡ now.size =
        ap (λ l. length (concat l)) ended ∙ (let e : length (concat p.raws) ≡ now.size = omega (arith, p.size) in e) in
        let begun : begun_line read ≡ breaks.partial =
        ap (λ l. drop (length (concat l)) read) ended ∙ drop-append_seam (concat p.raws) breaks.partial in (
          concat p.raws ++ (breaks.partial ++ rest),
          begun-input (breaks.partial ++ rest) ahead,
          record {
            rest = rest;
            known = known;
            shows = record {
              read = read;
              taken = sym (append_assoc (concat p.raws) breaks.partial rest);
              form = record {
                lines = ap (first_bad_from 1 0) ended ∙ p.form;
                begun = ap (λ n. is_past_form n (begun_line read)) size ∙ ap (is_past_form now.size) begun ∙ breaks.form;
              };
              blocks = shows-blocks (whole_lines read) (sym (ap (map line_text) ended)) w h.0;
            };
            front = served-end (breaks.partial ++ rest) ahead 0 h (none-written w);
          },
        )
