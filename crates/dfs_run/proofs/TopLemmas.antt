-- From the end of a job to what its report says of it.
use Rattle.std.proofs.Common.{◌≡◌, ℕ, true, inl, inr, Option, Some, None, is_some, option_map, if◌then◌else◌, List, [], refl, sym, ap, ◌∙◌, subst, arith}
use Rattle.std.specs.Prelude.{IfSome}
use Rattle.std.specs.Result.{result_err}
use Rattle.vfs_base.specs.declared.deck.Deck.{Deck}
use Rattle.vfs_base.specs.declared.describe.Describe.{Describe}
use Rattle.vfs_base.specs.declared.entry.Entry.{Entry}
use Rattle.vfs_model.specs.Deck.{deck_of}
use Rattle.vfs_model.specs.FaultCounts.{no_devices}
use Rattle.vfs_model.specs.Tally.{is_faultless}
use Rattle.vfs_outside.specs.Causes.{Rose}
use Rattle.dfs_words.specs.declared.mode.Job.{Job}
use Rattle.dfs_words.specs.declared.mode.Job.TheVariants as job
use Rattle.dfs_run.proofs.EndingLemmas.{ends_unbegun}
use Rattle.dfs_run.proofs.Faultless.{run-clear, run-faultless}
use Rattle.dfs_run.proofs.ReplayLemmas.{read_as, replay_shows, stops_told}
use Rattle.dfs_run.specs.Causes.{HasCause}
use Rattle.dfs_run.specs.Ending.{EndsFor}
use Rattle.dfs_run.specs.Headline.{EndsByForm, EndsClear, ShowsBlocks, ShowsFirstLines, ShowsFront, ShowsLinesRead, ShowsPlainTree, first_bad, is_closed, lines_in_form}
use Rattle.dfs_run.specs.Opening.{plainly}
use Rattle.dfs_run.specs.Replaying.{JobEnds, ReplayEndsFor, reads_all}
use Rattle.dfs_run.specs.Report.{status_of}
use Rattle.dfs_run.specs.Run.{AfterReading, OfInput, ReadsThrough, Run, Streams, run_of}
use Rattle.dfs_run.specs.declared.report.FaultNote.{FaultNote}
use Rattle.dfs_run.specs.declared.report.FaultNote.TheVariants as fault
use Rattle.dfs_run.specs.declared.report.Report.{Report}
use Rattle.dfs_run.specs.declared.script_stop.ScriptStop.TheVariants as stop

-- a fact of the job that was asked
of-asked : (asked : Option Job) (j : Job) (P : Job → Type 0) → asked ≡ Some j → P j → IfSome asked P
of-asked asked j P a p = subst (λ found. IfSome found P) (sym a) p

-- which fault a status stands for
abbrev IsFor : ℕ → Option FaultNote → Type 0
IsFor status why = status ≡ status_of why

given-input : (run : Run) (P Q : List ℕ → Type 0) → ((input : List ℕ) → P input → Q input) → OfInput run P → OfInput run Q
given-input run P Q f (input, known, p) = (input, known, f input p)

-- what all of the job's text shows
shell-shows : (run : Run) (why : Option FaultNote) → status_of why ≡ 0 → EndsFor why run → OfInput run (ShowsPlainTree job.Shell run)
shell-shows run None s e = given-input run _ _ (λ input p. p.shows) e
shell-shows run (Some fault.NoMemory) s e = absurd (omega (arith, s))
shell-shows run (Some fault.Usage) s e = absurd (omega (arith, s))
shell-shows run (Some (fault.BadDeck line)) s e = absurd (omega (arith, s))
shell-shows run (Some fault.ReadFault) s e = absurd (omega (arith, s))
shell-shows run (Some fault.WriteFault) s e = absurd (omega (arith, s))
shell-shows run (Some (fault.DeviceFault device)) s e = absurd (omega (arith, s))

replay-shows : (run : Run) (why : Option FaultNote) → status_of why ≡ 0 → OfInput run (ReplayEndsFor why run) → OfInput run (ShowsPlainTree job.Replay run)
replay-shows run None s e = e
replay-shows run (Some fault.NoMemory) s e = absurd (omega (arith, s))
replay-shows run (Some fault.Usage) s e = absurd (omega (arith, s))
replay-shows run (Some (fault.BadDeck line)) s e = absurd (omega (arith, s))
replay-shows run (Some fault.ReadFault) s e = absurd (omega (arith, s))
replay-shows run (Some fault.WriteFault) s e = absurd (omega (arith, s))
replay-shows run (Some (fault.DeviceFault device)) s e = absurd (omega (arith, s))

pub job_shows : (asked : Option Job) (j : Job) (io : Streams) (describe : Describe) (report : Report) → asked ≡ Some j → report.status ≡ status_of report.fault →
    JobEnds j (run_of io describe report) → report.status ≡ 0 → IfSome asked (λ job. OfInput (run_of io describe report) (ShowsPlainTree job (run_of io describe report)))
job_shows asked job.Shell io describe report a s e z =
    let run = run_of io describe report in of-asked asked job.Shell (λ job. OfInput run (ShowsPlainTree job run)) a (shell-shows run report.fault (sym s ∙ z) e)
job_shows asked job.Replay io describe report a s e z =
    let run = run_of io describe report in of-asked asked job.Replay (λ job. OfInput run (ShowsPlainTree job run)) a (replay-shows run report.fault (sym s ∙ z) e)

-- what is shown where not all is
shell-front : (run : Run) (why : Option FaultNote) → EndsFor why run → OfInput run (ShowsFirstLines (is_closed why) run)
shell-front run None e = given-input run _ _ (λ input p. p.front) e
shell-front run (Some fault.NoMemory) e = e
shell-front run (Some fault.Usage) e = absurd e
shell-front run (Some (fault.BadDeck line)) e = given-input run _ _ (λ input p. p.front) e
shell-front run (Some fault.ReadFault) e = given-input run _ _ (λ input p. p.front) e
shell-front run (Some fault.WriteFault) e = e
shell-front run (Some (fault.DeviceFault device)) e = absurd e

pub job_front : (asked : Option Job) (j : Job) (io : Streams) (describe : Describe) (report : Report) → asked ≡ Some j → JobEnds j (run_of io describe report) →
    IfSome asked (λ job. OfInput (run_of io describe report) (ShowsFront job (run_of io describe report)))
job_front asked job.Shell io describe report a e =
    let run = run_of io describe report in of-asked asked job.Shell (λ job. OfInput run (ShowsFront job run)) a (shell-front run report.fault e)
job_front asked job.Replay io describe report a e =
    let run = run_of io describe report in
    of-asked asked job.Replay (λ job. OfInput run (ShowsFront job run)) a (given-input run _ _ (λ input p. replay_shows run input report.fault p) e)

-- no job but the one that was asked
other-job : (asked : Option Job) → asked ≡ Some job.Replay → asked ≡ Some job.Shell → ⊥
other-job asked a b = let same : Some job.Replay ≡ Some job.Shell = sym a ∙ b in cc

other-shell : (asked : Option Job) → asked ≡ Some job.Shell → asked ≡ Some job.Replay → ⊥
other-shell asked a b = let same : Some job.Shell ≡ Some job.Replay = sym a ∙ b in cc

shell-before : (run : Run) (why : Option FaultNote) → status_of why ≡ 3 → EndsFor why run → OfInput run (λ input. ShowsBlocks (lines_in_form input) run)
shell-before run (Some (fault.BadDeck line)) s e = given-input run _ _ (λ input p. p.shows) e
shell-before run None s e = absurd (omega (arith, s))
shell-before run (Some fault.NoMemory) s e = absurd (omega (arith, s))
shell-before run (Some fault.Usage) s e = absurd (omega (arith, s))
shell-before run (Some fault.ReadFault) s e = absurd (omega (arith, s))
shell-before run (Some fault.WriteFault) s e = absurd (omega (arith, s))
shell-before run (Some (fault.DeviceFault device)) s e = absurd (omega (arith, s))

pub job_before_bad_line : (asked : Option Job) (j : Job) (io : Streams) (describe : Describe) (report : Report) → asked ≡ Some j → report.status ≡ status_of report.fault →
    JobEnds j (run_of io describe report) → report.status ≡ 3 → asked ≡ Some job.Shell →
    OfInput (run_of io describe report) (λ input. ShowsBlocks (lines_in_form input) (run_of io describe report))
job_before_bad_line asked job.Shell io describe report a s e z b = shell-before (run_of io describe report) report.fault (sym s ∙ z) e
job_before_bad_line asked job.Replay io describe report a s e z b = absurd (other-job asked a b)

shell-read : (run : Run) (why : Option FaultNote) → status_of why ≡ 4 → EndsFor why run → OfInput run (AfterReading run (λ rest. ShowsLinesRead rest run))
shell-read run (Some fault.ReadFault) s e = given-input run _ _ (λ input p. (p.rest, p.known, p.shows)) e
shell-read run None s e = absurd (omega (arith, s))
shell-read run (Some fault.NoMemory) s e = absurd (omega (arith, s))
shell-read run (Some fault.Usage) s e = absurd (omega (arith, s))
shell-read run (Some (fault.BadDeck line)) s e = absurd (omega (arith, s))
shell-read run (Some fault.WriteFault) s e = absurd (omega (arith, s))
shell-read run (Some (fault.DeviceFault device)) s e = absurd (omega (arith, s))

pub job_before_fault : (asked : Option Job) (j : Job) (io : Streams) (describe : Describe) (report : Report) → asked ≡ Some j → report.status ≡ status_of report.fault →
    JobEnds j (run_of io describe report) → report.status ≡ 4 → asked ≡ Some job.Shell →
    OfInput (run_of io describe report) (AfterReading (run_of io describe report) (λ rest. ShowsLinesRead rest (run_of io describe report)))
job_before_fault asked job.Shell io describe report a s e z b = shell-read (run_of io describe report) report.fault (sym s ∙ z) e
job_before_fault asked job.Replay io describe report a s e z b = absurd (other-job asked a b)

-- the line that is named
shell-bad : (run : Run) (why : Option FaultNote) → status_of why ≡ 3 → EndsFor why run → OfInput run (λ input. why ≡ option_map fault.BadDeck (first_bad job.Shell input))
shell-bad run (Some (fault.BadDeck line)) s e = given-input run _ _ (λ input p. sym (ap (option_map fault.BadDeck) p.form)) e
shell-bad run None s e = absurd (omega (arith, s))
shell-bad run (Some fault.NoMemory) s e = absurd (omega (arith, s))
shell-bad run (Some fault.Usage) s e = absurd (omega (arith, s))
shell-bad run (Some fault.ReadFault) s e = absurd (omega (arith, s))
shell-bad run (Some fault.WriteFault) s e = absurd (omega (arith, s))
shell-bad run (Some (fault.DeviceFault device)) s e = absurd (omega (arith, s))

replay-bad : (run : Run) (why : Option FaultNote) → status_of why ≡ 3 → OfInput run (ReplayEndsFor why run) →
    OfInput run (λ input. why ≡ option_map fault.BadDeck (first_bad job.Replay input))
replay-bad run (Some (fault.BadDeck line)) s e = given-input run _ _ (λ input p. sym (ap (λ read. option_map fault.BadDeck (result_err read)) p.0)) e
replay-bad run None s e = absurd (omega (arith, s))
replay-bad run (Some fault.NoMemory) s e = absurd (omega (arith, s))
replay-bad run (Some fault.Usage) s e = absurd (omega (arith, s))
replay-bad run (Some fault.ReadFault) s e = absurd (omega (arith, s))
replay-bad run (Some fault.WriteFault) s e = absurd (omega (arith, s))
replay-bad run (Some (fault.DeviceFault device)) s e = absurd (omega (arith, s))

pub job_bad_deck : (asked : Option Job) (j : Job) (io : Streams) (describe : Describe) (report : Report) → asked ≡ Some j → report.status ≡ status_of report.fault →
    JobEnds j (run_of io describe report) → report.status ≡ 3 →
    IfSome asked (λ job. OfInput (run_of io describe report) (λ input. report.fault ≡ option_map fault.BadDeck (first_bad job input)))
job_bad_deck asked job.Shell io describe report a s e z =
    of-asked asked job.Shell (λ job. OfInput (run_of io describe report) (λ input. report.fault ≡ option_map fault.BadDeck (first_bad job input))) a
    (shell-bad (run_of io describe report) report.fault (sym s ∙ z) e)
job_bad_deck asked job.Replay io describe report a s e z =
    of-asked asked job.Replay (λ job. OfInput (run_of io describe report) (λ input. report.fault ≡ option_map fault.BadDeck (first_bad job input))) a
    (replay-bad (run_of io describe report) report.fault (sym s ∙ z) e)

-- an input of which all is shown is in its form
shell-form : (run : Run) (why : Option FaultNote) → status_of why ≡ 0 → EndsFor why run → OfInput run (λ input. first_bad job.Shell input ≡ None)
shell-form run None s e = given-input run _ _ (λ input p. p.form) e
shell-form run (Some fault.NoMemory) s e = absurd (omega (arith, s))
shell-form run (Some fault.Usage) s e = absurd (omega (arith, s))
shell-form run (Some (fault.BadDeck line)) s e = absurd (omega (arith, s))
shell-form run (Some fault.ReadFault) s e = absurd (omega (arith, s))
shell-form run (Some fault.WriteFault) s e = absurd (omega (arith, s))
shell-form run (Some (fault.DeviceFault device)) s e = absurd (omega (arith, s))

replay-form : (run : Run) (why : Option FaultNote) → status_of why ≡ 0 → OfInput run (ReplayEndsFor why run) → OfInput run (λ input. first_bad job.Replay input ≡ None)
replay-form run None s e = given-input run _ _ (λ input p. ap result_err (read_as (deck_of input) p.deck p.script)) e
replay-form run (Some fault.NoMemory) s e = absurd (omega (arith, s))
replay-form run (Some fault.Usage) s e = absurd (omega (arith, s))
replay-form run (Some (fault.BadDeck line)) s e = absurd (omega (arith, s))
replay-form run (Some fault.ReadFault) s e = absurd (omega (arith, s))
replay-form run (Some fault.WriteFault) s e = absurd (omega (arith, s))
replay-form run (Some (fault.DeviceFault device)) s e = absurd (omega (arith, s))

pub job_form : (asked : Option Job) (j : Job) (io : Streams) (describe : Describe) (report : Report) → asked ≡ Some j → report.status ≡ status_of report.fault →
    JobEnds j (run_of io describe report) → report.status ≡ 0 → IfSome asked (λ job. OfInput (run_of io describe report) (λ input. first_bad job input ≡ None))
job_form asked job.Shell io describe report a s e z =
    of-asked asked job.Shell (λ job. OfInput (run_of io describe report) (λ input. first_bad job input ≡ None)) a (shell-form (run_of io describe report) report.fault (sym s ∙ z) e)
job_form asked job.Replay io describe report a s e z =
    of-asked asked job.Replay (λ job. OfInput (run_of io describe report) (λ input. first_bad job input ≡ None)) a (replay-form (run_of io describe report) report.fault (sym s ∙ z) e)

-- where neither stream failed
module _ (a b c d : ℕ) (reads : Rose a b → ⊥) (writes : Rose c d → ⊥) where
  shell-by-form : (run : Run) (schedule : List Entry) (status : ℕ) (why : Option FaultNote) → is_faultless schedule ≡ true → IsFor status why → HasCause a b c d why → EndsFor why run →
      OfInput run (EndsByForm job.Shell schedule status)
  shell-by-form run schedule status None f s h e = given-input run _ _ (λ input p. (inr (s ∙ ap (λ found. if is_some found then 3 else 0) (sym p.form)), f)) e
  shell-by-form run schedule status (Some fault.NoMemory) f s h e = given-input run _ _ (λ input p. (inl s, f)) e
  shell-by-form run schedule status (Some fault.Usage) f s h e = absurd e
  shell-by-form run schedule status (Some (fault.BadDeck line)) f s h e = given-input run _ _ (λ input p. (inr (s ∙ ap (λ found. if is_some found then 3 else 0) (sym p.form)), f)) e
  shell-by-form run schedule status (Some fault.ReadFault) f s h e = absurd (reads h.0)
  shell-by-form run schedule status (Some fault.WriteFault) f s h e = absurd (writes h.1)
  shell-by-form run schedule status (Some (fault.DeviceFault device)) f s h e = absurd e

  replay-by-form : (run : Run) (schedule : List Entry) (status : ℕ) (why : Option FaultNote) → is_faultless schedule ≡ true → IsFor status why → HasCause a b c d why → OfInput run (ReplayEndsFor why run) →
      OfInput run (EndsByForm job.Replay schedule status)
  replay-by-form run schedule status None f s h e =
      given-input run _ _ (λ input p. (inr (s ∙ ap (λ read. if is_some (result_err read) then 3 else 0) (sym (read_as (deck_of input) p.deck p.script))), f)) e
  replay-by-form run schedule status (Some fault.NoMemory) f s h e = given-input run _ _ (λ input p. (inl s, f)) e
  replay-by-form run schedule status (Some fault.Usage) f s h e = absurd e.2
  replay-by-form run schedule status (Some (fault.BadDeck line)) f s h e =
      given-input run _ _ (λ input p. (inr (s ∙ ap (λ read. if is_some (result_err read) then 3 else 0) (sym p.0)), f)) e
  replay-by-form run schedule status (Some fault.ReadFault) f s h e = absurd (reads h.0)
  replay-by-form run schedule status (Some fault.WriteFault) f s h e = absurd (writes h.1)
  replay-by-form run schedule status (Some (fault.DeviceFault device)) f s h e = absurd e.2

pub job_by_form : (asked : Option Job) (j : Job) (io : Streams) (describe : Describe) (report : Report) (a b c d : ℕ) → asked ≡ Some j → report.status ≡ status_of report.fault →
    JobEnds j (run_of io describe report) → HasCause a b c d report.fault → (Rose a b → ⊥) → (Rose c d → ⊥) →
    IfSome asked (λ job. OfInput (run_of io describe report) (EndsByForm job report.schedule report.status))
job_by_form asked job.Shell io describe report a b c d = λ is s e h r w.
    of-asked asked job.Shell (λ job. OfInput (run_of io describe report) (EndsByForm job report.schedule report.status)) is
    (shell-by-form a b c d r w (run_of io describe report) report.schedule report.status report.fault (run-faultless job.Shell io describe report e) s h e)
job_by_form asked job.Replay io describe report a b c d = λ is s e h r w.
    of-asked asked job.Replay (λ job. OfInput (run_of io describe report) (EndsByForm job report.schedule report.status)) is
    (replay-by-form a b c d r w (run_of io describe report) report.schedule report.status report.fault (run-faultless job.Replay io describe report e) s h e)

pub job_faultless : (j : Job) (io : Streams) (describe : Describe) (report : Report) → JobEnds j (run_of io describe report) → is_faultless report.schedule ≡ true
job_faultless j io describe report e = run-faultless j io describe report e

pub job_ends_clear : (j : Job) (io : Streams) (describe : Describe) (report : Report) → report.status ≡ status_of report.fault → JobEnds j (run_of io describe report) → report.status ≡ 0 →
    EndsClear report.schedule
job_ends_clear j io describe report s e z = run-clear j io describe report e (sym s ∙ z)

-- the counts of the source and the sink by the status
quiet-source : (why : Option FaultNote) (a b c d : ℕ) → HasCause a b c d why → (status_of why ≡ 1 → ⊥) → (status_of why ≡ 4 → ⊥) → b ≡ a
quiet-source None a b c d h one four = h.0
quiet-source (Some fault.NoMemory) a b c d h one four = absurd (one refl)
quiet-source (Some fault.Usage) a b c d h one four = h.0
quiet-source (Some (fault.BadDeck line)) a b c d h one four = h.0
quiet-source (Some fault.ReadFault) a b c d h one four = absurd (four refl)
quiet-source (Some fault.WriteFault) a b c d h one four = h.0
quiet-source (Some (fault.DeviceFault device)) a b c d h one four = h.0

quiet-sink : (why : Option FaultNote) (a b c d : ℕ) → HasCause a b c d why → (status_of why ≡ 1 → ⊥) → (status_of why ≡ 5 → ⊥) → d ≡ c
quiet-sink None a b c d h one five = h.1
quiet-sink (Some fault.NoMemory) a b c d h one five = absurd (one refl)
quiet-sink (Some fault.Usage) a b c d h one five = h.1
quiet-sink (Some (fault.BadDeck line)) a b c d h one five = h.1
quiet-sink (Some fault.ReadFault) a b c d h one five = h.1
quiet-sink (Some fault.WriteFault) a b c d h one five = absurd (five refl)
quiet-sink (Some (fault.DeviceFault device)) a b c d h one five = h.1

read-rose : (why : Option FaultNote) (a b c d : ℕ) → HasCause a b c d why → status_of why ≡ 4 → Rose a b
read-rose (Some fault.ReadFault) a b c d h s = h.0
read-rose None a b c d h s = absurd (omega (arith, s))
read-rose (Some fault.NoMemory) a b c d h s = absurd (omega (arith, s))
read-rose (Some fault.Usage) a b c d h s = absurd (omega (arith, s))
read-rose (Some (fault.BadDeck line)) a b c d h s = absurd (omega (arith, s))
read-rose (Some fault.WriteFault) a b c d h s = absurd (omega (arith, s))
read-rose (Some (fault.DeviceFault device)) a b c d h s = absurd (omega (arith, s))

write-rose : (why : Option FaultNote) (a b c d : ℕ) → HasCause a b c d why → status_of why ≡ 5 → Rose c d
write-rose (Some fault.WriteFault) a b c d h s = h.1
write-rose None a b c d h s = absurd (omega (arith, s))
write-rose (Some fault.NoMemory) a b c d h s = absurd (omega (arith, s))
write-rose (Some fault.Usage) a b c d h s = absurd (omega (arith, s))
write-rose (Some (fault.BadDeck line)) a b c d h s = absurd (omega (arith, s))
write-rose (Some fault.ReadFault) a b c d h s = absurd (omega (arith, s))
write-rose (Some (fault.DeviceFault device)) a b c d h s = absurd (omega (arith, s))

module _ (report : Report) (a b c d : ℕ) (is : report.status ≡ status_of report.fault) (h : HasCause a b c d report.fault) where
  pub job_quiet_source : (report.status ≡ 1 → ⊥) → (report.status ≡ 4 → ⊥) → b ≡ a
  job_quiet_source one four = quiet-source report.fault a b c d h (λ e. one (is ∙ e)) (λ e. four (is ∙ e))

  pub job_quiet_sink : (report.status ≡ 1 → ⊥) → (report.status ≡ 5 → ⊥) → d ≡ c
  job_quiet_sink one five = quiet-sink report.fault a b c d h (λ e. one (is ∙ e)) (λ e. five (is ∙ e))

  pub job_read_fault : report.status ≡ 4 → Rose a b
  job_read_fault s = read-rose report.fault a b c d h (sym is ∙ s)

  pub job_write_fault : report.status ≡ 5 → Rose c d
  job_write_fault s = write-rose report.fault a b c d h (sym is ∙ s)

-- a job ends for one of these reasons alone
shell-reads : (run : Run) (why : Option FaultNote) → EndsFor why run → (status_of why ≡ 2 → ⊥) × (status_of why ≡ 6 → ⊥)
shell-reads run None e = (λ s. omega (arith, s), λ s. omega (arith, s))
shell-reads run (Some fault.NoMemory) e = (λ s. omega (arith, s), λ s. omega (arith, s))
shell-reads run (Some fault.Usage) e = absurd e
shell-reads run (Some (fault.BadDeck line)) e = (λ s. omega (arith, s), λ s. omega (arith, s))
shell-reads run (Some fault.ReadFault) e = (λ s. omega (arith, s), λ s. omega (arith, s))
shell-reads run (Some fault.WriteFault) e = (λ s. omega (arith, s), λ s. omega (arith, s))
shell-reads run (Some (fault.DeviceFault device)) e = absurd e

replay-reads : (run : Run) (why : Option FaultNote) → OfInput run (ReplayEndsFor why run) → (status_of why ≡ 2 → ⊥) × (status_of why ≡ 6 → ⊥)
replay-reads run None e = (λ s. omega (arith, s), λ s. omega (arith, s))
replay-reads run (Some fault.NoMemory) e = (λ s. omega (arith, s), λ s. omega (arith, s))
replay-reads run (Some fault.Usage) e = absurd e.2
replay-reads run (Some (fault.BadDeck line)) e = (λ s. omega (arith, s), λ s. omega (arith, s))
replay-reads run (Some fault.ReadFault) e = (λ s. omega (arith, s), λ s. omega (arith, s))
replay-reads run (Some fault.WriteFault) e = (λ s. omega (arith, s), λ s. omega (arith, s))
replay-reads run (Some (fault.DeviceFault device)) e = absurd e.2

job-reads : (j : Job) (io : Streams) (describe : Describe) (report : Report) → JobEnds j (run_of io describe report) →
    (status_of report.fault ≡ 2 → ⊥) × (status_of report.fault ≡ 6 → ⊥)
job-reads job.Shell io describe report e = shell-reads (run_of io describe report) report.fault e
job-reads job.Replay io describe report e = replay-reads (run_of io describe report) report.fault e

pub no_usage : (j : Job) (io : Streams) (describe : Describe) (report : Report) → report.status ≡ status_of report.fault → JobEnds j (run_of io describe report) →
    report.status ≡ 2 → ⊥
no_usage j io describe report s e = λ z. (job-reads j io describe report e).0 (sym s ∙ z)

pub no_device_fault : (j : Job) (io : Streams) (describe : Describe) (report : Report) → report.status ≡ status_of report.fault → JobEnds j (run_of io describe report) →
    report.status ≡ 6 → ⊥
no_device_fault j io describe report s e = λ z. (job-reads j io describe report e).1 (sym s ∙ z)

-- a replay read its source through
through : (why : Option FaultNote) → (status_of why ≡ 1 → ⊥) → (status_of why ≡ 4 → ⊥) → (status_of why ≡ 2 → ⊥) → (status_of why ≡ 6 → ⊥) → reads_all why ≡ true
through None one four two six = refl
through (Some fault.NoMemory) one four two six = absurd (one refl)
through (Some fault.Usage) one four two six = absurd (two refl)
through (Some (fault.BadDeck line)) one four two six = refl
through (Some fault.ReadFault) one four two six = absurd (four refl)
through (Some fault.WriteFault) one four two six = refl
through (Some (fault.DeviceFault device)) one four two six = absurd (six refl)

pub job_reads_through : (asked : Option Job) (j : Job) (io : Streams) (describe : Describe) (report : Report) → asked ≡ Some j →
    report.status ≡ status_of report.fault → JobEnds j (run_of io describe report) → (j ≡ job.Replay → reads_all report.fault ≡ true → ReadsThrough io.given io.rest) →
    (report.status ≡ 1 → ⊥) → (report.status ≡ 4 → ⊥) → asked ≡ Some job.Replay → ReadsThrough io.given io.rest
job_reads_through asked job.Shell io describe report = λ a s e t one four replay. absurd (other-shell asked a replay)
job_reads_through asked job.Replay io describe report = λ a s e t one four replay.
    let reads = job-reads job.Replay io describe report e in
    t refl (through report.fault (λ z. one (s ∙ z)) (λ z. four (s ∙ z)) reads.0 reads.1)

no_script : Deck
no_script = record { roms = []; acts = [] }

-- a job that could not begin
pub job_unbegun : (j : Job) (io : Streams) (describe : Describe) (report : Report) → report.schedule ≡ [] → report.fault ≡ Some fault.NoMemory → io.now ≡ io.before →
    JobEnds j (run_of io describe report)
job_unbegun job.Shell io describe report none is same = ends_unbegun (plainly no_script describe) io report.schedule report.fault none is same
job_unbegun job.Replay io describe report none is same =
    stops_told (plainly no_script describe) io no_devices stop.NoMemory report.schedule report.fault none is same tt

module _ (io : Streams) (describe : Describe) (report : Report) (none : report.schedule ≡ []) (is : report.fault ≡ Some fault.NoMemory) (same : io.now ≡ io.before) where
  pub unbegun_front : (asked : Option Job) → IfSome asked (λ job. OfInput (run_of io describe report) (ShowsFront job (run_of io describe report)))
  unbegun_front None = tt
  unbegun_front (Some j) = job_front (Some j) j io describe report refl (job_unbegun j io describe report none is same)

  pub unbegun_by_form : (asked : Option Job) (a b c d : ℕ) → report.status ≡ status_of report.fault → (Rose a b → ⊥) → (Rose c d → ⊥) →
      IfSome asked (λ job. OfInput (run_of io describe report) (EndsByForm job report.schedule report.status))
  unbegun_by_form None a b c d s r w = tt
  unbegun_by_form (Some j) a b c d s r w =
      job_by_form (Some j) j io describe report a b c d refl s (job_unbegun j io describe report none is same) (subst (HasCause a b c d) (sym is) tt) r w
