-- One line more is served, or stops the serving.
use Rattle.std.proofs.Common.{◌≡◌, ℕ, ◌+◌, Bool, true, false, Option, None, List, [], ◌∷◌, ◌++◌, length, filter, refl, sym, ap, ◌∙◌, subst, append-nil, arith}
use Rattle.std.specs.Io.KnownBytes.{Appends, IsAtEnd}
use Rattle.std.proofs.KnownBytes.{Appends-nil}
use Rattle.vfs_model.specs.Script.{first_bad_from, is_bad_line, is_ended, raw_lines}
use Rattle.dfs_input.proofs.KnownLemmas.{ended_input}
use Rattle.dfs_input.proofs.ScriptLemmas.{ended_lines-front, ended_lines-none}
use Rattle.dfs_input.specs.Known.{IsInput}
use Rattle.dfs_input.specs.LineReader.{ReaderState, ReadsLine, TakesLine, ahead}
use Rattle.dfs_run.proofs.ServingLemmas.{ComesBehind-as, Posts-none, Serves-refl, Serves-then, ShowsUpTo-as, is_supposed, supposed}
use Rattle.dfs_run.proofs.StandingLemmas.{stops_behind}
use Rattle.dfs_run.specs.Serving.{ComeFirst, Moment, Serves, moment_of}
use Rattle.dfs_run.specs.Stopping.{ServesAll, Stops, StopsAtLine, StopsPosting, WritesBlock}
use Rattle.dfs_run.specs.declared.line_stop.LineStop.{LineStop}
use Rattle.dfs_run.specs.declared.line_stop.LineStop.TheVariants as stop
use Rattle.script_stage.specs.Scenes.{Scene}

-- what isn't ended now was not ended before
open_before : (a b : Bool) → (a ≡ true → b ≡ true) → b ≡ false → a ≡ false
open_before true b f h = cc (f refl)
open_before false b f h = refl

-- a line that is read comes first
first_line : (before after : Option (List ℕ)) (raw : List ℕ) → TakesLine before after raw → ComeFirst before after (raw ∷ [])
first_line before after raw takes = record {
  taken = λ rest known. subst (λ l. IsInput before (l ++ rest)) (sym (append-nil raw)) (takes rest known).0;
  lines = λ rest known. ap (λ l. raw_lines (l ++ rest)) (append-nil raw) ∙ (takes rest known).1;
}

-- one line in the form
one_form : (number size : ℕ) (raw : List ℕ) → is_bad_line size raw ≡ false → first_bad_from number size (raw ∷ []) ≡ None
one_form number size raw e = rw e refl

-- the line was read, run and written
pub line_served : (old new : ReaderState) (before after : Option (List ℕ)) (stage next : Scene) (sink now : Option (List ℕ)) (line : List ℕ)
    → ReadsLine old new before after line → (old.at_end ≡ true → new.at_end ≡ true) → WritesBlock stage next sink now line
    → Serves (moment_of old stage before sink) (moment_of new next after now)
line_served old new before after stage next sink now line r stays w = record {
  raws = r.raw ∷ [];
  text = w.text;
  number = omega (arith, r.number);
  size = let e = ap length (append-nil r.raw) in omega (arith, e, r.size);
  form = one_form (old.number + 1) old.size r.raw r.form;
  reads = first_line (ahead old before) (ahead new after) r.raw r.takes;
  started = open_before old.at_end new.at_end stays;
  whole = λ h rest. ap (λ l. filter is_ended (raw_lines (l ++ rest))) (append-nil r.raw) ∙ ended_lines-front r.raw rest r.single (r.ended h);
  written = w.written;
  stands = λ base lines handed h.
      ComesBehind-as true next base _ _ _ _ (ap (λ l. lines ++ l ∷ []) r.text) refl (w.runs.stands base lines handed h);
}

-- the line was read, and its block was not written
pub posting_stopped : (old new : ReaderState) (before after left : Option (List ℕ)) (stage next : Scene) (sink now : Option (List ℕ)) (line : List ℕ)
    (why : LineStop) → ReadsLine old new before after line → StopsPosting stage next sink now line why
    → Stops (moment_of old stage before sink) next now left why
posting_stopped old new before after left stage next sink now line stop.NoMemory r s =
    let takes = r.takes (supposed (ahead new after)) (is_supposed (ahead new after)) in
    record {
      raws = r.raw ∷ [];
      text = [];
      count = 0;
      bytes = r.raw ++ supposed (ahead new after);
      later = raw_lines (supposed (ahead new after));
      reads = takes.0;
      lines = takes.1;
      fits = omega arith;
      written = subst (λ w. Appends sink w []) (sym s.0) (Appends-nil sink);
      comes = λ base lines handed h.
          ComesBehind-as false next base _ _ _ _ (ap (λ l. lines ++ l ∷ []) r.text) (sym (append-nil handed)) (s.1.stops base lines handed h);
      prompt = λ base lines handed h.
          ShowsUpTo-as next base _ _ _ _ _ _ (ap (λ l. lines ++ l ∷ []) r.text) (let n : length lines ≡ length lines + 0 = omega arith in n)
          (let n : length handed ≡ length handed + 0 = omega arith in n) (s.1.prompt base lines handed h);
    }
posting_stopped old new before after left stage next sink now line (stop.BadLine place) r s = absurd s
posting_stopped old new before after left stage next sink now line stop.ReadFault r s = absurd s
posting_stopped old new before after left stage next sink now line stop.WriteFault r s =
    let takes = r.takes (supposed (ahead new after)) (is_supposed (ahead new after)) in
    record {
      raws = r.raw ∷ [];
      text = s.text;
      count = s.count;
      bytes = r.raw ++ supposed (ahead new after);
      later = raw_lines (supposed (ahead new after));
      reads = takes.0;
      lines = takes.1;
      fits = s.fits;
      written = s.written;
      comes = λ base lines handed h.
          ComesBehind-as true next base _ _ _ _ (ap (λ l. lines ++ l ∷ []) r.text) refl (s.runs.stands base lines handed h);
      prompt = λ base lines handed h more t taken.
          let bound = ShowsUpTo-as next base _ _ _ _ _ _ (ap (λ l. lines ++ l ∷ []) r.text) (let n : length lines ≡ length lines + 0 = omega arith in n) refl
          (s.runs.prompt base lines handed h) more t taken in
          omega (arith, bound);
    }

-- no line came
pub reading_stopped : (old new : ReaderState) (before after : Option (List ℕ)) (stage : Scene) (sink : Option (List ℕ)) (why : LineStop)
    → StopsAtLine old new before after why → (old.at_end ≡ true → new.at_end ≡ true)
    → Stops (moment_of old stage before sink) stage sink after why
reading_stopped old new before after stage sink stop.NoMemory s stays =
    Posts-none (moment_of old stage before sink) stage sink false refl refl (λ base lines handed h. stops_behind stage base lines handed h)
reading_stopped old new before after stage sink (stop.BadLine place) s stays = record {
  now = moment_of old stage before sink;
  serves = Serves-refl (moment_of old stage before sink);
  stage = refl;
  written = refl;
  line = s.0;
  bad = s.1;
}
reading_stopped old new before after stage sink stop.ReadFault s stays = record {
  now = moment_of old stage before sink;
  serves = Serves-refl (moment_of old stage before sink);
  stage = refl;
  written = refl;
  unended = open_before old.at_end new.at_end stays s.at_end;
  breaks = record { partial = s.partial; taken = s.consumes; none_whole = ended_lines-none s.partial s.unended; form = s.form };
}
reading_stopped old new before after stage sink stop.WriteFault s stays = absurd s

-- nothing is ahead at the end
pub serves_all : (start : Moment) (reader : ReaderState) (stage : Scene) (left sink : Option (List ℕ))
    → Serves start (moment_of reader stage left sink) → IsAtEnd (ahead reader left) → ServesAll start stage sink
serves_all start reader stage left sink p over = record {
  now = moment_of reader stage left sink;
  serves = p;
  stage = refl;
  written = refl;
  over = ended_input (ahead reader left) over;
}

-- `Serves-then`, under a name that a function's attribute can cite
pub more_lines : (a b c : Moment) → Serves a b → Serves b c → Serves a c
more_lines a b c p q = Serves-then a b c p q
