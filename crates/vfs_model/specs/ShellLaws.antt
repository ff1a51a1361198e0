-- Laws of the shell's commands, open files and mappings.
use Rattle.std.specs.Prelude.{◌≡◌, ◌≢◌, ℕ, Bool, true, false, Option, Some, None, Ok, List, [], ◌∷◌, ◌++◌}
use Rattle.std.specs.List.{last_or}
use Rattle.vfs_base.specs.declared.reply.Reply.{Reply}
use Rattle.vfs_model.specs.Command.{line_talk}
use Rattle.vfs_model.specs.CommandText.{whole_lines}
use Rattle.vfs_model.specs.Mappings.{NewMapping, add_mapping, mapping_at, remove_mapping}
use Rattle.vfs_model.specs.OpenFiles.{NewDescriptor, dup_file, file_number}
use Rattle.vfs_model.specs.Talk.{Answer, Talk}
use Rattle.vfs_model.specs.declared.shell_state.Next.{Next}
use Rattle.vfs_model.specs.declared.shell_state.Next.TheVariants as next
use Rattle.vfs_model.specs.declared.shell_state.OpenFiles.{OpenFiles}
use Rattle.vfs_model.specs.declared.shell_state.ShellState.{ShellState}
use Rattle.vfs_model.specs.declared.shell_state.Window.{Window}

abbrev pub is_finished : Next → Bool
is_finished (next.Ask step) = false
is_finished (next.Finished text) = true

abbrev pub with_left : Answer → List Reply → Answer
with_left answer more = record answer { left = answer.left ++ more }

-- What an answer is where more replies follow: while a command asks it has taken in all replies, and once it is
-- finished it looks at no further one, and has nothing to give back.
pub record TakesReplies (answer : Answer) (longer : List Reply → Answer) : Type 0 where
  pub asked : is_finished answer.next ≡ false → answer.left ≡ []
  pub finished : is_finished answer.next ≡ true → (more : List Reply) → longer more ≡ with_left answer more
  pub given : is_finished answer.next ≡ true → answer.own ≡ []

abbrev pub TalkTakesReplies : Talk → Type 0
TalkTakesReplies talk =
    (state : ShellState) (replies : List Reply) → TakesReplies (talk state replies) (λ more. talk state (replies ++ more))

-- so does every line of the shell
abbrev pub LineTakesReplies : Type 0
LineTakesReplies = (text : List ℕ) → TalkTakesReplies (line_talk text)

-- a text that is shown in a block is empty, or its last byte is a line feed
abbrev pub EndsItsLine : List ℕ → Type 0
EndsItsLine [] = Unit {0}
EndsItsLine (byte ∷ bytes) = last_or None (byte ∷ bytes) ≡ Some 10

abbrev pub WholeLinesEnd : Type 0
WholeLinesEnd = (text : List ℕ) → EndsItsLine (whole_lines text)

-- a descriptor that was free leads to this open file now, and no other descriptor leads elsewhere than before
pub record LeadsAnew (before after : OpenFiles) (fd : ℕ) (number : Option ℕ) : Type 0 where
  pub free : file_number before fd ≡ None
  pub leads : file_number after fd ≡ number
  pub others : (other : ℕ) → other ≢ fd → file_number after other ≡ file_number before other

-- a descriptor made by dup leads to the open file of the other one, and so has its place
pub record SharesFile (before : OpenFiles) (fd : ℕ) (new : NewDescriptor) : Type 0 where
  pub leads : LeadsAnew before new.open_files new.fd (file_number before fd)
  pub files : new.open_files.files ≡ before.files

abbrev pub DupSharesFile : Type 0
DupSharesFile = (open_files : OpenFiles) (fd : ℕ) (new : NewDescriptor) →
    dup_file open_files fd ≡ Ok new → SharesFile open_files fd new

-- a mapping that was added is there under its number, which was free; taken away again it leaves the mappings as before
pub record AddsMapping (before : List (Option Window)) (window : Window) (new : NewMapping) : Type 0 where
  pub free : mapping_at before new.number ≡ None
  pub there : mapping_at new.mappings new.number ≡ Some window
  pub others : (other : ℕ) → other ≢ new.number → mapping_at new.mappings other ≡ mapping_at before other
  pub back : remove_mapping new.mappings new.number ≡ Ok (record { window = window; mappings = before })

abbrev pub AddedMappingGoesBack : Type 0
AddedMappingGoesBack = (mappings : List (Option Window)) (window : Window) (new : NewMapping) →
    add_mapping mappings window ≡ Ok new → AddsMapping mappings window new
