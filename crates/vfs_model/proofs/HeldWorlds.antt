-- What the sessions' references keep after each step of the world.
use Rattle.std.proofs.Common.{◌≡◌, ◌≢◌, ◌⊎◌, inl, inr, ℕ, ◌==◌, ◌<◌, ◌≤◌, Bool, true, false, ◌&&◌, ◌||◌, nat_lt, is_ok, Option, Some, None, Result, Ok, Err, List, length, fold, if◌then◌else◌, refl, sym, ap, subst, ◌∙◌, arith}
use Rattle.std.proofs.lemmas.Bool.{and_parts}
use Rattle.std.proofs.lemmas.Bool.Decides.{nat_tests}
use Rattle.vfs_base.specs.declared.entry.Mark.{Mark}
use Rattle.vfs_base.specs.declared.entry.Mark.TheVariants as mark
use Rattle.vfs_base.specs.declared.entry.Who.TheVariants as who
use Rattle.vfs_base.specs.declared.errno.Errno.{Errno}
use Rattle.vfs_base.specs.declared.errno.Errno.TheVariants as errno
use Rattle.vfs_base.specs.declared.ids.FileId.{FileId}
use Rattle.vfs_base.specs.declared.kinds.Kind.{Kind}
use Rattle.vfs_base.specs.declared.reply.Reply.{Reply}
use Rattle.vfs_base.specs.declared.reply.Reply.TheVariants as reply
use Rattle.vfs_base.specs.declared.step.Step.{Step}
use Rattle.vfs_base.specs.declared.step.Step.TheVariants as step
use Rattle.vfs_model.specs.ExitLaws.{gives_up}
use Rattle.vfs_model.specs.FileMoves.{clear_step, file_step, fits_file, is_before_end, is_on_cell, is_on_device, move, move_bytes, move_device, stopped_step}
use Rattle.vfs_model.specs.FileStep.{absent_refusals, file_refusals, moved_count, refused_file}
use Rattle.vfs_model.specs.HeldFiles.{CanReply, Held, file_held, held_after, held_after_close, held_after_home, held_after_map, held_after_move, held_after_open, held_by, own_by}
use Rattle.vfs_model.specs.Homes.{change_row, file_at}
use Rattle.vfs_model.specs.Namespace.{folder_of}
use Rattle.vfs_model.specs.NamespaceOutcome.{NamespaceOutcome}
use Rattle.vfs_model.specs.NamespaceStep.{is_shutdown, namespace_step}
use Rattle.vfs_model.specs.World.{FitsStep, WorldOutcome, after_format, fits_on, fits_step, namespace_part, step_on, step_row, world_step}
use Rattle.vfs_model.specs.declared.world.FileState.{FileState}
use Rattle.vfs_model.specs.declared.world.FileState.TheVariants as file
use Rattle.vfs_model.specs.declared.world.WorldState.{WorldState}
use Rattle.vfs_model.proofs.HeldSteps.{LeavesHeld, step-leaves}
use Rattle.vfs_model.proofs.Rests.{changed-namespace}

-- what a session's step leaves: its references keep what its reply tells, and it stands where its reply tells, the reply is one
-- that it can have, and the references of the others keep what they kept, and they stand where they stood
pub record LeavesWorld (intact : Bool) (w : WorldState) (k : ℕ) (asked : Step) (outcome : WorldOutcome) : Type 0 where
  pub own : held_by outcome.next.namespace k ≡ (held_after k (own_by intact w.namespace k) asked outcome.reply).files
  pub can : CanReply k (held_by w.namespace k) asked outcome.reply
  pub others : (other : ℕ) → 0 < other → other ≢ k → held_by outcome.next.namespace other ≡ held_by w.namespace other
  pub folder : folder_of outcome.next.namespace k ≡ (held_after k (own_by intact w.namespace k) asked outcome.reply).folder
  pub elsewhere : (other : ℕ) → 0 < other → other ≢ k → folder_of outcome.next.namespace other ≡ folder_of w.namespace other

format-namespace : (w : WorldState) (asked : Step) (answer : Reply) → (after_format w asked answer).namespace ≡ w.namespace
format-namespace w (step.Mkfs name) reply.Done = refl
format-namespace w (step.Mkfs name) _ = refl
format-namespace w _ answer = refl

part-namespace : (w : WorldState) (outcome : NamespaceOutcome) (asked : Step) → (namespace_part w outcome asked).next.namespace ≡ outcome.next
part-namespace w outcome asked =
    let begun : WorldState = record w { namespace = outcome.next } in
    format-namespace (fold change_row begun outcome.changes) asked outcome.reply ∙ changed-namespace outcome.changes begun

-- a file's step tells what it moved, or is refused

or-cases : (a b : Bool) → (a || b) ≡ true → (a ≡ true) ⊎ (b ≡ true)
or-cases true b h = inl refl
or-cases false b h = inr h

nothing-before : (count moved : ℕ) → moved ≡ 0 → (count == 0 || nat_lt count moved) ≡ true → (count == 0) ≡ true
nothing-before count moved none h = elim (or-cases (count == 0) (nat_lt count moved) h) [
  | inl e ↦ e
  | inr e ↦ let less : count < moved = grind (arith, nat_tests, e) in absurd (omega (arith, less, none))
]

refused-can : (k : ℕ) (held : List (Option FileId)) (asked : Step) (f : FileState) (errno : Errno) (row : ℕ) → step_row asked ≡ Some row →
    CanReply k held asked (refused_file f errno).reply
refused-can k held (step.Open path flags) f errno row e = absurd (cc)
refused-can k held (step.Map hold) f errno row e = absurd (cc)
refused-can k held _ f errno row e = tt

bytes-can : (k : ℕ) (held : List (Option FileId)) (generation : ℕ) (kind : Kind) (capacity : ℕ) (bytes : List ℕ) (asked : Step) (count : ℕ) (row : ℕ) → step_row asked ≡ Some row →
    CanReply k held asked (move_bytes generation kind capacity bytes asked count).reply
bytes-can k held generation kind capacity bytes (step.Open path flags) = λ count row e. absurd (cc)
bytes-can k held generation kind capacity bytes (step.Map hold) = λ count row e. absurd (cc)
bytes-can k held generation kind capacity bytes _ = λ count row e. tt

-- nothing is moved of a row that does not have the file
absent-can : (k : ℕ) (held : List (Option FileId)) (asked : Step) (row : ℕ) → step_row asked ≡ Some row → absent_refusals asked ≡ Ok tt →
    CanReply k held asked reply.Done
absent-can k held (step.Open path flags) row e r = absurd (cc)
absent-can k held (step.Map hold) row e r = absurd (cc)
absent-can k held (step.Read id off len) row e r = absurd (cc)
absent-can k held (step.Write id off piece) row e r = absurd (cc)
absent-can k held (step.Append id piece) row e r = absurd (cc)
absent-can k held _ row e r = tt

device-can : (k : ℕ) (held : List (Option FileId)) (generation : ℕ) (input output : List ℕ) (asked : Step) (count row : ℕ) → step_row asked ≡ Some row →
    CanReply k held asked (move_device generation input output asked count).reply
device-can k held generation input output (step.Open path flags) count row e = absurd (cc)
device-can k held generation input output (step.Map hold) count row e = absurd (cc)
device-can k held generation input output _ count row e = tt

module _ (k : ℕ) (held : List (Option FileId)) (asked : Step) (row : ℕ) (on : step_row asked ≡ Some row) where
  clear-can : (f : FileState) (passed : Result (Unit {0}) Errno) → file_refusals f asked ≡ passed → CanReply k held asked (clear_step f asked passed).reply
  unfolding file_refusals
  clear-can f (Err errno) r = refused-can k held asked f errno row on
  clear-can (file.Unbound generation) (Ok passed) r = absent-can k held asked row on r
  clear-can (file.Bytes generation kind capacity bytes) (Ok passed) r = bytes-can k held generation kind capacity bytes asked _ row on
  clear-can (file.Device generation input output) (Ok passed) r = device-can k held generation input output asked _ row on

  moved-none : (generation : ℕ) → moved_count (file.Unbound generation) asked ≡ 0
  unfolding moved_count
  moved-none generation = by (is_ok (file_refusals (file.Unbound generation) asked))
    where
      by : (passed : Bool) → (let none : ℕ = if passed then 0 else 0 in none) ≡ 0
      by true = refl
      by false = refl

  stopped-by : (f : FileState) (errno : Errno) (count : ℕ) (none : Bool) → CanReply k held asked (move f asked count).reply →
      CanReply k held asked (if none then refused_file f errno else move f asked count).reply
  stopped-by f errno count true can = refused-can k held asked f errno row on
  stopped-by f errno count false can = can

  stopped-can : (f : FileState) (errno : Errno) (count : ℕ) → is_before_end f asked count ≡ true → CanReply k held asked (stopped_step f asked errno count).reply
  stopped-can (file.Bytes generation kind capacity bytes) errno count h =
      stopped-by (file.Bytes generation kind capacity bytes) errno count (count == 0) (bytes-can k held generation kind capacity bytes asked count row on)
  stopped-can (file.Device generation input output) errno count h =
      stopped-by (file.Device generation input output) errno count (count == 0) (device-can k held generation input output asked count row on)
  stopped-can (file.Unbound generation) errno count h =
      let none : (count == 0) ≡ true = nothing-before count (moved_count (file.Unbound generation) asked) (moved-none generation) h in
      subst (λ none. CanReply k held asked (if none then refused_file (file.Unbound generation) errno else move (file.Unbound generation) asked count).reply) (sym none)
      (refused-can k held asked (file.Unbound generation) errno row on)

  file-can : (f : FileState) (m : Mark) → fits_file f asked m ≡ true → CanReply k held asked (file_step f asked m).reply
  unfolding file_step fits_file
  file-can f mark.Clear h = clear-can f (file_refusals f asked) refl
  file-can f (mark.Fault count) h =
      stopped-can f errno.EIO count (and_parts (is_before_end f asked count) (is_on_device f) (and_parts (is_before_end f asked count && is_on_device f) (is_ok (file_refusals f asked)) h).0).0
  file-can f (mark.NoMem count) h =
      stopped-can f errno.ENOMEM count (and_parts (is_before_end f asked count) (count == 0 || is_on_cell f) h).0

-- a step of a row's file opens, maps and gives up nothing, and goes nowhere
row-after : (k : ℕ) (held : Held) (asked : Step) (answer : Reply) (row : ℕ) → step_row asked ≡ Some row → held ≡ held_after k held asked answer
row-after k held (step.Open path flags) answer row e = absurd (cc)
row-after k held (step.Map hold) answer row e = absurd (cc)
row-after k held (step.Close hold) answer row e = absurd (cc)
row-after k held (step.Unmap hold) answer row e = absurd (cc)
row-after k held (step.Chdir path) answer row e = absurd (cc)
row-after k held step.Cwd answer row e = absurd (cc)
row-after k held step.Home answer row e = absurd (cc)
row-after k held _ answer row e = refl

on-leaves : (intact : Bool) (w : WorldState) (k : ℕ) (asked : Step) (m : Mark) (found : Option ℕ) → step_row asked ≡ found → fits_on w k asked m found ≡ true →
    LeavesHeld intact w.namespace k asked (namespace_step w.namespace k asked m) → LeavesWorld intact w k asked (step_on w k asked m found)
on-leaves intact w k asked m None e fits leaves =
    let outcome = namespace_step w.namespace k asked m in
    let same = part-namespace w outcome asked in
    record {
      own = ap (λ n. held_by n k) same ∙ leaves.own;
      can = leaves.can;
      others = λ other l d. ap (λ n. held_by n other) same ∙ leaves.others other l d;
      folder = ap (λ n. folder_of n k) same ∙ leaves.folder;
      elsewhere = λ other l d. ap (λ n. folder_of n other) same ∙ leaves.elsewhere other l d;
    }
on-leaves intact w k asked m (Some row) e fits leaves = record {
  own = ap (λ held. held.files) (row-after k (own_by intact w.namespace k) asked (step_on w k asked m (Some row)).reply row e);
  can = file-can k (held_by w.namespace k) asked row e (file_at w row) m fits;
  others = λ other l d. refl;
  folder = ap (λ held. held.folder) (row-after k (own_by intact w.namespace k) asked (step_on w k asked m (Some row)).reply row e);
  elsewhere = λ other l d. refl;
}

pub world-leaves : (intact : Bool) (w : WorldState) (k : ℕ) (asked : Step) (m : Mark) → 0 < k → k ≤ 8 → length w.namespace.references ≡ 256 → length w.namespace.working_directories ≡ 8 → is_shutdown asked ≡ false →
    FitsStep w (who.Session k) asked m → LeavesWorld intact w k asked (world_step w (who.Session k) asked m)
unfolding world_step fits_step
world-leaves intact w k asked m above within whole folders = λ s fits.
    on-leaves intact w k asked m (step_row asked) refl fits (step-leaves intact w.namespace k above within whole folders asked m s)

-- where a step that gives up is answered Done, nothing is lost

opened-whole : (held : Held) (answer : Reply) → (held_after_open held answer).whole ≡ held.whole
opened-whole held (reply.Opened hold file kind) = refl
opened-whole held _ = refl

mapped-whole : (held : Held) (file : Option FileId) (answer : Reply) → (held_after_map held file answer).whole ≡ held.whole
mapped-whole held file (reply.Held new) = refl
mapped-whole held file _ = refl

moved-whole : (held : Held) (answer : Reply) → (held_after_move held answer).whole ≡ held.whole
moved-whole held (reply.At path) = refl
moved-whole held _ = refl

pub whole-stays : (k : ℕ) (held : Held) (asked : Step) (answer : Reply) → (gives_up asked ≡ true → answer ≡ reply.Done) →
    (held_after k held asked answer).whole ≡ held.whole
whole-stays k held (step.Open path flags) answer done = opened-whole held answer
whole-stays k held (step.Map hold) answer done = mapped-whole held (file_held held.files k hold) answer
whole-stays k held (step.Close hold) answer done = ap (λ found. (held_after_close held hold found).whole) (done refl)
whole-stays k held (step.Unmap hold) answer done = ap (λ found. (held_after_close held hold found).whole) (done refl)
whole-stays k held (step.Chdir path) answer done = moved-whole held answer
whole-stays k held step.Cwd answer done = moved-whole held answer
whole-stays k held step.Home answer done = ap (λ found. (held_after_home held found).whole) (done refl)
whole-stays k held _ answer done = refl

-- the worker's step leaves the namespace
pub flush-leaves : (w : WorldState) (row : ℕ) (m : Mark) → (world_step w (who.Flush row) (step.Flush row) m).next.namespace ≡ w.namespace
unfolding world_step
flush-leaves w row m = refl

pub reclaim-leaves : (w : WorldState) (row : ℕ) (m : Mark) → (world_step w (who.Reclaim row) (step.Reclaim row) m).next.namespace ≡ w.namespace
unfolding world_step
reclaim-leaves w row m = refl
