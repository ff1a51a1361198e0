-- What `cat` and `echo` do from where they stand.
use Rattle.std.specs.Prelude.{ℕ, codes, List, [], ◌∷◌, Option, Some, None}
use Rattle.vfs_base.specs.declared.ids.FileId.{FileId}
use Rattle.vfs_base.specs.declared.ids.HoldId.{HoldId}
use Rattle.vfs_base.specs.declared.reply.Reply.{Reply}
use Rattle.vfs_base.specs.declared.reply.Reply.TheVariants as reply
use Rattle.vfs_base.specs.declared.step.Step.{Step}
use Rattle.vfs_base.specs.declared.step.Step.TheVariants as step
use Rattle.vfs_model.specs.TextCommands.{CatStage, cat_files, cat_opened, cat_round, cat_step, closes, echo_opened, echo_round, to_append, to_read}
use Rattle.vfs_model.specs.Talk.{After, Again, Round, Talk, ask, ask_in_turn, shows}
use Rattle.msh_text_commands.specs.declared.cat_reading.CatReading.{CatReading}
use Rattle.msh_text_commands.specs.declared.texts.TextCommand.{TextCommand}
use Rattle.msh_text_commands.specs.declared.texts.TextCommand.TheVariants as command

-- the file is read on from a stage
abbrev pub cat_from : CatReading → CatStage → Talk
cat_from reading stage =
    ask_in_turn (step.Close reading.hold ∷ []) (cat_step reading.file) (cat_round reading.word reading.hold reading.kind (cat_files reading.others.items)) stage

abbrev pub stage_of : CatReading → CatStage
stage_of reading = record { offset = reading.offset; text = reading.text }

-- the file is read on, or the reading is over
abbrev pub cat_after : CatReading → Round CatStage → Talk
cat_after reading (Again stage) = cat_from reading stage
cat_after reading (After go) = go

-- the bytes are appended
abbrev pub echo_from : List ℕ → HoldId → FileId → List ℕ → Talk
echo_from word hold file bytes = ask_in_turn (step.Close hold ∷ []) (λ rest. step.Append file rest) (echo_round word hold) bytes

-- the rest is appended, or nothing is left
abbrev pub echo_after : List ℕ → HoldId → FileId → Round (List ℕ) → Talk
echo_after word hold file (Again bytes) = echo_from word hold file bytes
echo_after word hold file (After go) = go

-- what the command does for any later replies
abbrev pub text_talk : TextCommand → Talk
text_talk (command.Shown text) = shows text
text_talk (command.CatOpen word others text) = ask (step.Open word to_read) (cat_opened text word (cat_files others.items))
text_talk (command.CatRead reading) = cat_from reading (stage_of reading)
text_talk (command.CatClose word others hold text) = closes (codes "cat") word hold text (cat_files others.items)
text_talk (command.CatEnd word hold text) = closes (codes "cat") word hold text shows
text_talk (command.EchoOpen word text) = ask (step.Open word to_append) (echo_opened text word)
text_talk (command.EchoAppend word hold file bytes) = echo_from word hold file bytes
text_talk (command.EchoEnd word hold text) = closes (codes "echo") word hold text shows

-- the reference of an Opened
abbrev pub opened_hold : Reply → Option HoldId
opened_hold (reply.Opened hold file kind) = Some hold
opened_hold _ = None

-- the reference stays behind a Got, and behind a refusal
abbrev pub read_hold : HoldId → Reply → Option HoldId
read_hold hold (reply.Got bytes) = Some hold
read_hold hold (reply.Refused errno) = Some hold
read_hold hold _ = None

-- the reference stays behind a Count, and behind a refusal
abbrev pub appended_hold : HoldId → Reply → Option HoldId
appended_hold hold (reply.Count n end) = Some hold
appended_hold hold (reply.Refused errno) = Some hold
appended_hold hold _ = None

-- the reference that the command has behind a reply
abbrev pub hold_behind : TextCommand → Reply → Option HoldId
hold_behind (command.CatOpen word others text) reply = opened_hold reply
hold_behind (command.CatRead reading) reply = read_hold reading.hold reply
hold_behind (command.EchoOpen word text) reply = opened_hold reply
hold_behind (command.EchoAppend word hold file bytes) reply = appended_hold hold reply
hold_behind _ reply = None

-- what gives back a reference, if there is one
abbrev pub own_of : Option HoldId → List Step
own_of None = []
own_of (Some hold) = step.Close hold ∷ []

-- a step is asked
abbrev pub IsAsking : TextCommand → Type 0
IsAsking (command.Shown text) = ⊥
IsAsking _ = Unit {0}
