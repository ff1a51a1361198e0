-- The files that a session's references keep and where it stands, as its steps and their replies tell them, and what it asks by them.
use Rattle.std.specs.Prelude.{◌≡◌, ℕ, ◌-◌, ◌==◌, ◌<◌, ◌≤◌, Bool, not, ◌&&◌, ◌||◌, nat_lt, false, true, is_none, is_some, Option, Some, None, option_map, List, [], ◌∷◌, length, map, slice_index_or, slice_set, if◌then◌else◌}
use Rattle.std.specs.List.{list_any}
use Rattle.vfs_base.specs.Path.{Path}
use Rattle.vfs_base.specs.declared.ids.FileId.{FileId}
use Rattle.vfs_base.specs.declared.ids.HoldId.{HoldId}
use Rattle.vfs_base.specs.declared.reply.Reply.{Reply}
use Rattle.vfs_base.specs.declared.reply.Reply.TheVariants as reply
use Rattle.vfs_base.specs.declared.step.Step.{Step}
use Rattle.vfs_base.specs.declared.step.Step.TheVariants as step
use Rattle.vfs_model.specs.Asking.{needs_no_reference}
use Rattle.vfs_model.specs.FileStep.{step_file}
use Rattle.vfs_model.specs.Namespace.{folder_of, references_of}
use Rattle.vfs_model.specs.NamespaceStep.{is_shutdown}
use Rattle.vfs_model.specs.Session.{SessionRun, is_pending, wanted_step}
use Rattle.vfs_model.specs.World.{step_row}
use Rattle.vfs_model.specs.declared.namespace.Namespace.{Namespace}

-- the files that the references of a session keep, by number from 1 on
abbrev pub held_by : Namespace → ℕ → List (Option FileId)
held_by n k = map (option_map (λ reference. reference.file)) (references_of n k)

-- the file that a session's reference keeps
abbrev pub file_held : List (Option FileId) → ℕ → HoldId → Option FileId
file_held held k hold = if hold.session == k && nat_lt 0 hold.number then slice_index_or held (hold.number - 1) None else None

-- what a session has: what its references keep, its working directory, and whether each step so far that gives up a
-- reference, or goes back to `/`, was answered Done
pub record Held : Type 0 where
  pub files : List (Option FileId)
  pub folder : Path
  pub whole : Bool

-- what a session has in a namespace, and whether its steps that give up were answered Done
abbrev pub own_by : Bool → Namespace → ℕ → Held
own_by whole n k = record { files = held_by n k; folder = folder_of n k; whole = whole }

-- the reference keeps this file, or none
abbrev pub with_held : HoldId → Option FileId → Held → Held
with_held hold file held = record held { files = slice_set held.files (hold.number - 1) file }

-- a step that gives up was not answered Done
abbrev pub lost : Held → Held
lost held = record held { whole = false }

abbrev pub held_after_open : Held → Reply → Held
held_after_open held (reply.Opened hold file kind) = with_held hold (Some file) held
held_after_open held _ = held

abbrev pub held_after_map : Held → Option FileId → Reply → Held
held_after_map held file (reply.Held new) = with_held new file held
held_after_map held file _ = held

abbrev pub held_after_close : Held → HoldId → Reply → Held
held_after_close held hold reply.Done = with_held hold None held
held_after_close held hold _ = lost held

abbrev pub held_after_move : Held → Reply → Held
held_after_move held (reply.At path) = record held { folder = path }
held_after_move held _ = held

abbrev pub held_after_home : Held → Reply → Held
held_after_home held reply.Done = record held { folder = [] }
held_after_home held _ = lost held

-- what a session has after its step with this reply
abbrev pub held_after : ℕ → Held → Step → Reply → Held
held_after k held (step.Open path flags) answer = held_after_open held answer
held_after k held (step.Map hold) answer = held_after_map held (file_held held.files k hold) answer
held_after k held (step.Close hold) answer = held_after_close held hold answer
held_after k held (step.Unmap hold) answer = held_after_close held hold answer
held_after k held (step.Chdir path) answer = held_after_move held answer
held_after k held step.Cwd answer = held_after_move held answer
held_after k held step.Home answer = held_after_home held answer
held_after k held _ answer = held

-- a reference of the session that kept nothing so far
pub record IsNew (k : ℕ) (held : List (Option FileId)) (hold : HoldId) : Type 0 where
  pub session : hold.session ≡ k
  pub above : 0 < hold.number
  pub below : hold.number ≤ length held
  pub free : slice_index_or held (hold.number - 1) None ≡ None

abbrev pub OpensNew : ℕ → List (Option FileId) → Reply → Type 0
OpensNew k held (reply.Opened hold file kind) = IsNew k held hold
OpensNew k held (reply.Refused errno) = Unit {0}
OpensNew k held _ = ⊥

abbrev pub MapsNew : ℕ → List (Option FileId) → Option FileId → Reply → Type 0
MapsNew k held file (reply.Held new) = IsNew k held new × (is_some file ≡ true)
MapsNew k held file (reply.Refused errno) = Unit {0}
MapsNew k held file _ = ⊥

-- bytes are got, or the step is refused
abbrev pub IsGot : Reply → Type 0
IsGot (reply.Got bytes) = Unit {0}
IsGot (reply.Refused errno) = Unit {0}
IsGot _ = ⊥

-- bytes are counted, or the step is refused
abbrev pub IsCount : Reply → Type 0
IsCount (reply.Count n end) = Unit {0}
IsCount (reply.Refused errno) = Unit {0}
IsCount _ = ⊥

-- the step is done, or refused
abbrev pub IsDone : Reply → Type 0
IsDone reply.Done = Unit {0}
IsDone (reply.Refused errno) = Unit {0}
IsDone _ = ⊥

-- a reply that a session's step can have: a reference that is told is new, and a step of a file tells what it moved
abbrev pub CanReply : ℕ → List (Option FileId) → Step → Reply → Type 0
CanReply k held (step.Open path flags) answer = OpensNew k held answer
CanReply k held (step.Map hold) answer = MapsNew k held (file_held held k hold) answer
CanReply k held (step.Read id off len) answer = IsGot answer
CanReply k held (step.Write id off piece) answer = IsCount answer
CanReply k held (step.Append id piece) answer = IsCount answer
CanReply k held (step.Trunc id len) answer = IsDone answer
CanReply k held _ answer = Unit {0}

abbrev pub keeps_file : FileId → Option FileId → Bool
keeps_file id None = false
keeps_file id (Some other) = other.row == id.row && other.generation == id.generation

-- a step of the namespace, the size or the write-back of any file, or another step of a file that a reference keeps
abbrev pub may_ask_held : List (Option FileId) → Step → Option FileId → Bool
may_ask_held held asked None = is_none (step_row asked) && not (is_shutdown asked)
may_ask_held held asked (Some id) = needs_no_reference asked || list_any (keeps_file id) held

-- the session may ask the step that it wants
abbrev pub WantsItsOwn : Held → SessionRun → Type 0
WantsItsOwn held run = (asked : Step) → wanted_step run ≡ Some asked → may_ask_held held.files asked (step_file asked) ≡ true

-- no reference keeps a file, and the working directory is `/`
pub record IsEmpty (held : Held) : Type 0 where
  pub files : (place : ℕ) → slice_index_or held.files place None ≡ None
  pub folder : held.folder ≡ []

-- the step gives back a reference that keeps a file, or goes back to `/`
abbrev pub gives_back : ℕ → List (Option FileId) → Step → Bool
gives_back k held (step.Close hold) = is_some (file_held held k hold)
gives_back k held (step.Unmap hold) = is_some (file_held held k hold)
gives_back k held step.Home = true
gives_back k held _ = false

-- where its lines are done the session gives back only what it has
abbrev pub GivesBackItsOwn : ℕ → Held → SessionRun → Type 0
GivesBackItsOwn k held run = is_pending run ≡ false → (asked : Step) → wanted_step run ≡ Some asked → gives_back k held.files asked ≡ true

-- the session may ask what it wants, where its lines are done it gives back only what it has, and where it wants nothing
-- more it has nothing
pub record StandsWell (k : ℕ) (held : Held) (run : SessionRun) : Type 0 where
  pub wants : WantsItsOwn held run
  pub gives : GivesBackItsOwn k held run
  pub leaves : wanted_step run ≡ None → held.whole ≡ true → IsEmpty held

-- At each of these replies that its steps can have, the session may ask what it wants, where its lines are done it gives back
-- only what it has, and where it wants nothing more it has nothing.
abbrev pub AsksItsOwn : ℕ → List Reply → Held → (List Reply → SessionRun) → Type 0
AsksItsOwn k [] held run = StandsWell k held (run [])
AsksItsOwn k (answer ∷ later) held run =
    (asked : Step) → wanted_step (run []) ≡ Some asked → CanReply k held.files asked answer →
    AsksItsOwn k later (held_after k held asked answer) (λ more. run (answer ∷ more))
