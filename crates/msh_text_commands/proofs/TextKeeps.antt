-- A reply to `cat` or `echo` leaves the shell's state as it is, and the command has the reference of the file that is open.
use Rattle.std.proofs.Common.{◌≡◌, ◌++◌, ℕ, length, drop, List, [], ◌∷◌, Result, Ok, Err, IfOk, refl, ap, subst, codes}
use Rattle.std.proofs.lemmas.Bool.{cond_both}
use Rattle.vfs_base.specs.declared.ids.FileId.{FileId}
use Rattle.vfs_base.specs.declared.ids.HoldId.{HoldId}
use Rattle.vfs_base.specs.declared.no_memory.NoMemory.{NoMemory}
use Rattle.vfs_base.specs.declared.reply.Reply.{Reply}
use Rattle.vfs_base.specs.declared.reply.Reply.TheVariants as reply
use Rattle.vfs_base.specs.declared.step.Step.{Step}
use Rattle.vfs_base.specs.declared.step.Step.TheVariants as step
use Rattle.vfs_model.specs.OpenFiles.{moved_offset}
use Rattle.vfs_model.specs.TextCommands.{CatStage, cat_files, cat_opened, cat_round, closed, closes, echo_left, echo_opened, echo_round, echo_text, is_read_out}
use Rattle.vfs_model.specs.Talk.{After, Again, Round, Talk, round_talk, shows}
use Rattle.vfs_model.specs.declared.shell_state.ShellState.{ShellState}
use Rattle.msh_desk.specs.FitsReply.{TakesReply}
use Rattle.msh_text_commands.specs.TextTalks.{IsAsking, cat_after, cat_from, echo_after, echo_from, hold_behind, opened_hold, own_of, read_hold, appended_hold, stage_of, text_talk}
use Rattle.msh_text_commands.specs.declared.cat_reading.CatReading.{CatReading}
use Rattle.msh_text_commands.specs.declared.texts.TextCommand.{TextCommand}
use Rattle.msh_text_commands.specs.declared.texts.TextCommand.TheVariants as command

cat_turn : (reading : CatReading) (round : Round CatStage) (state : ShellState) (later : List Reply) →
    cat_after reading round state later ≡ round_talk (λ stage now behind. cat_from reading stage state later) round state later
cat_turn reading (Again stage) state later = refl
cat_turn reading (After go) state later = refl

pub cat_turns : (reading : CatReading) (reply : Reply) (state : ShellState) (later : List Reply) →
    cat_after reading (cat_round reading.word reading.hold reading.kind (cat_files reading.others.items) (stage_of reading) reply) state later
    ≡ cat_from reading (stage_of reading) state (reply ∷ later)
cat_turns reading reply state later =
    cat_turn reading (cat_round reading.word reading.hold reading.kind (cat_files reading.others.items) (stage_of reading) reply) state later

echo_turn : (word : List ℕ) (hold : HoldId) (file : FileId) (round : Round (List ℕ)) (state : ShellState) (later : List Reply) →
    echo_after word hold file round state later ≡ round_talk (λ bytes now behind. echo_from word hold file bytes state later) round state later
echo_turn word hold file (Again bytes) state later = refl
echo_turn word hold file (After go) state later = refl

pub echo_turns : (word : List ℕ) (hold : HoldId) (file : FileId) (bytes : List ℕ) (reply : Reply) (state : ShellState) (later : List Reply) →
    echo_after word hold file (echo_round word hold bytes reply) state later ≡ echo_from word hold file bytes state (reply ∷ later)
echo_turns word hold file bytes reply state later = echo_turn word hold file (echo_round word hold bytes reply) state later

echo_begun : (word : List ℕ) (hold : HoldId) (file : FileId) (round : Round (List ℕ)) → echo_after word hold file round ≡ echo_text word hold file round
echo_begun word hold file (Again bytes) = refl
echo_begun word hold file (After go) = refl

pub echo_begins : (word : List ℕ) (hold : HoldId) (file : FileId) (text : List ℕ) →
    echo_after word hold file (echo_left word hold text) ≡ echo_text word hold file (echo_left word hold text)
echo_begins word hold file text = echo_begun word hold file (echo_left word hold text)

pub cat_fed : (reading : CatReading) (reply : Reply) (found : Result TextCommand NoMemory) →
    IfOk found (λ next. text_talk next ≡ cat_after reading (cat_round reading.word reading.hold reading.kind (cat_files reading.others.items) (stage_of reading) reply)) →
    IfOk found (λ next. (state : ShellState) (later : List Reply) → text_talk next state later ≡ cat_from reading (stage_of reading) state (reply ∷ later))
cat_fed reading reply (Ok next) same =
    λ state later. subst (λ end. text_talk next state later ≡ end) (cat_turns reading reply state later) (ap (λ talk. talk state later) same)
cat_fed reading reply (Err fault) same = tt

pub echo_fed : (word : List ℕ) (hold : HoldId) (file : FileId) (bytes : List ℕ) (reply : Reply) (found : Result TextCommand NoMemory) →
    IfOk found (λ next. text_talk next ≡ echo_after word hold file (echo_round word hold bytes reply)) →
    IfOk found (λ next. (state : ShellState) (later : List Reply) → text_talk next state later ≡ echo_from word hold file bytes state (reply ∷ later))
echo_fed word hold file bytes reply (Ok next) same =
    λ state later. subst (λ end. text_talk next state later ≡ end) (echo_turns word hold file bytes reply state later) (ap (λ talk. talk state later) same)
echo_fed word hold file bytes reply (Err fault) same = tt

-- with no further reply the talk leaves this state, and has these references
abbrev Leaves : Talk → ShellState → List Step → Type 0
Leaves talk state own = ((talk state []).state ≡ state) × ((talk state []).own ≡ own)

files_leave : (words : List (List ℕ)) (text : List ℕ) (state : ShellState) → Leaves (cat_files words text) state []
files_leave [] text state = (refl, refl)
files_leave (word ∷ words) text state = (refl, refl)

closed_leaves : (name word text : List ℕ) (go : List ℕ → Talk) (reply : Reply) (state : ShellState) →
    Leaves (go text) state [] → Leaves (closed name word text go reply) state []
closed_leaves name word text go reply.Done state goes = goes
closed_leaves name word text go (reply.Refused errno) state goes = (refl, refl)
closed_leaves name word text go _ state goes = (refl, refl)

cat_opened_leaves : (text word : List ℕ) (words : List (List ℕ)) (reply : Reply) (state : ShellState) →
    Leaves (cat_opened text word (cat_files words) reply) state (own_of (opened_hold reply))
cat_opened_leaves text word words (reply.Opened hold file kind) state = (refl, refl)
cat_opened_leaves text word words (reply.Refused errno) state = (refl, refl)
cat_opened_leaves text word words _ state = (refl, refl)

cat_round_leaves : (reading : CatReading) (reply : Reply) (state : ShellState) →
    Leaves (cat_from reading (stage_of reading)) state (step.Close reading.hold ∷ []) →
    Leaves (λ now later. cat_from reading (stage_of reading) now (reply ∷ later)) state (own_of (read_hold reading.hold reply))
cat_round_leaves reading (reply.Got bytes) state whole =
    cond_both (is_read_out reading.kind bytes)
    (After (closes (codes "cat") reading.word reading.hold (reading.text ++ bytes) (cat_files reading.others.items)))
    (Again (record { offset = moved_offset reading.offset (length bytes); text = reading.text ++ bytes }))
    (λ round. Leaves (λ now later. round_talk (λ stage after behind. cat_from reading stage now later) round now later) state (step.Close reading.hold ∷ []))
    (λ _. (refl, refl)) (λ _. (refl, refl))
cat_round_leaves reading (reply.Refused errno) state whole = (refl, refl)
cat_round_leaves reading _ state whole = (refl, refl)

echo_left_leaves : (word : List ℕ) (hold : HoldId) (file : FileId) (bytes : List ℕ) (state : ShellState) →
    Leaves (λ now later. round_talk (λ rest after behind. echo_from word hold file rest now later) (echo_left word hold bytes) now later) state (step.Close hold ∷ [])
echo_left_leaves word hold file [] state = (refl, refl)
echo_left_leaves word hold file (byte ∷ bytes) state = (refl, refl)

echo_round_leaves : (word : List ℕ) (hold : HoldId) (file : FileId) (bytes : List ℕ) (reply : Reply) (state : ShellState) →
    Leaves (λ now later. echo_from word hold file bytes now (reply ∷ later)) state (own_of (appended_hold hold reply))
echo_round_leaves word hold file bytes (reply.Count n end) state = echo_left_leaves word hold file (drop n bytes) state
echo_round_leaves word hold file bytes (reply.Refused errno) state = (refl, refl)
echo_round_leaves word hold file bytes _ state = (refl, refl)

echo_opened_leaves : (text word : List ℕ) (reply : Reply) (state : ShellState) → Leaves (echo_opened text word reply) state (own_of (opened_hold reply))
echo_opened_leaves [] word (reply.Opened hold file kind) state = (refl, refl)
echo_opened_leaves (byte ∷ text) word (reply.Opened hold file kind) state = (refl, refl)
echo_opened_leaves text word (reply.Refused errno) state = (refl, refl)
echo_opened_leaves text word _ state = (refl, refl)

reply_leaves : (c : TextCommand) (reply : Reply) (state : ShellState) →
    Leaves (λ now later. text_talk c now (reply ∷ later)) state (own_of (hold_behind c reply))
reply_leaves (command.Shown text) reply state = (refl, refl)
reply_leaves (command.CatOpen word others text) reply state = cat_opened_leaves text word others.items reply state
reply_leaves (command.CatRead reading) reply state = cat_round_leaves reading reply state (refl, refl)
reply_leaves (command.CatClose word others hold text) reply state =
    closed_leaves (codes "cat") word text (cat_files others.items) reply state (files_leave others.items text state)
reply_leaves (command.CatEnd word hold text) reply state = closed_leaves (codes "cat") word text shows reply state (refl, refl)
reply_leaves (command.EchoOpen word text) reply state = echo_opened_leaves text word reply state
reply_leaves (command.EchoAppend word hold file bytes) reply state = echo_round_leaves word hold file bytes reply state
reply_leaves (command.EchoEnd word hold text) reply state = closed_leaves (codes "echo") word text shows reply state (refl, refl)

pub reply_keeps : (c : TextCommand) (reply : Reply) (state : ShellState) → (text_talk c state (reply ∷ [])).state ≡ state
reply_keeps c reply state = (reply_leaves c reply state).0

pub reply_owns : (c : TextCommand) (reply : Reply) (state : ShellState) → (text_talk c state (reply ∷ [])).own ≡ own_of (hold_behind c reply)
reply_owns c reply state = (reply_leaves c reply state).1

pub text_takes_asking : (c : TextCommand) (reply : Reply) (state : ShellState) → TakesReply (text_talk c state []).next reply → IsAsking c
text_takes_asking (command.Shown text) reply state takes = takes
text_takes_asking _ reply state takes = tt
