-- What `cp` does from where it stands.
use Rattle.std.specs.Prelude.{List, [], ◌∷◌}
use Rattle.vfs_base.specs.declared.reply.Reply.{Reply}
use Rattle.vfs_base.specs.declared.reply.Reply.TheVariants as reply
use Rattle.vfs_base.specs.declared.step.Step.{Step}
use Rattle.vfs_base.specs.declared.step.Step.TheVariants as step
use Rattle.vfs_model.specs.CopyCommands.{CopyFile, CopyStage, Reads, Writes, close_both, close_source, copy_cut, copy_round, copy_step, open_destination, source_opened}
use Rattle.vfs_model.specs.TextCommands.{to_read}
use Rattle.vfs_model.specs.Talk.{After, Again, Round, Talk, ask, ask_holding, ask_in_turn, shows}
use Rattle.msh_text_commands.specs.declared.copy_end.CopyEnd.{CopyEnd}
use Rattle.msh_text_commands.specs.declared.copies.CopyCommand.{CopyCommand}
use Rattle.msh_text_commands.specs.declared.copies.CopyCommand.TheVariants as command

abbrev pub file_of : CopyEnd → CopyFile
file_of end = record { word = end.word; hold = end.hold; file = end.file; kind = end.kind }

-- both references are given back by these
abbrev pub both : CopyEnd → CopyEnd → List Step
both src dst = step.Close src.hold ∷ step.Close dst.hold ∷ []

-- the copy goes on from a stage
abbrev pub copy_from : CopyEnd → CopyEnd → CopyStage → Talk
copy_from src dst stage = ask_in_turn (both src dst) (copy_step (file_of src) (file_of dst)) (copy_round (file_of src) (file_of dst)) stage

-- the copy goes on, or is over
abbrev pub copy_after : CopyEnd → CopyEnd → Round CopyStage → Talk
copy_after src dst (Again stage) = copy_from src dst stage
copy_after src dst (After go) = go

-- what the command does for any later replies
abbrev pub copy_talk : CopyCommand → Talk
copy_talk (command.Shown text) = shows text
copy_talk (command.Open word other) = ask (step.Open word to_read) (source_opened word other)
copy_talk (command.OpenTo src word) = open_destination word (file_of src)
copy_talk (command.Cut src dst) = ask_holding (both src dst) (step.Trunc dst.file 0) (copy_cut (file_of src) (file_of dst))
copy_talk (command.Read src dst offset) = copy_from src dst (Reads offset)
copy_talk (command.Write src dst offset bytes) = copy_from src dst (Writes offset bytes)
copy_talk (command.CloseTo src dst text) = close_both (file_of src) (file_of dst) text
copy_talk (command.CloseFrom src text) = close_source (file_of src) text

-- the source's reference is given back by this
abbrev pub own_source : CopyEnd → List Step
own_source src = step.Close src.hold ∷ []

-- behind the Open of the source the command has it
abbrev pub own_opened : Reply → List Step
own_opened (reply.Opened hold file kind) = step.Close hold ∷ []
own_opened _ = []

-- behind the Open of the destination it has both, and behind a refusal the source
abbrev pub own_both_opened : CopyEnd → Reply → List Step
own_both_opened src (reply.Opened hold file kind) = step.Close src.hold ∷ step.Close hold ∷ []
own_both_opened src (reply.Refused errno) = own_source src
own_both_opened src _ = []

-- what stays behind a Done, and behind a refusal
abbrev pub own_done : List Step → Reply → List Step
own_done own reply.Done = own
own_done own (reply.Refused errno) = own
own_done own _ = []

-- what stays behind a Got, and behind a refusal
abbrev pub own_read : List Step → Reply → List Step
own_read own (reply.Got bytes) = own
own_read own (reply.Refused errno) = own
own_read own _ = []

-- what stays behind a Count, and behind a refusal
abbrev pub own_written : List Step → Reply → List Step
own_written own (reply.Count n end) = own
own_written own (reply.Refused errno) = own
own_written own _ = []

-- what gives back the references that the command has behind a reply
abbrev pub own_behind : CopyCommand → Reply → List Step
own_behind (command.Shown text) reply = []
own_behind (command.Open word other) reply = own_opened reply
own_behind (command.OpenTo src word) reply = own_both_opened src reply
own_behind (command.Cut src dst) reply = own_done (both src dst) reply
own_behind (command.Read src dst offset) reply = own_read (both src dst) reply
own_behind (command.Write src dst offset bytes) reply = own_written (both src dst) reply
own_behind (command.CloseTo src dst text) reply = own_done (own_source src) reply
own_behind (command.CloseFrom src text) reply = []

-- a step is asked
abbrev pub IsAsking : CopyCommand → Type 0
IsAsking (command.Shown text) = ⊥
IsAsking _ = Unit {0}
