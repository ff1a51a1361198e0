-- A reply to `cp` leaves the shell's state as it is, and the command has the references of the files that are open.
use Rattle.std.proofs.Common.{◌≡◌, ℕ, drop, List, [], ◌∷◌, Result, Ok, Err, IfOk, refl, ap, subst, if◌then◌else◌}
use Rattle.std.proofs.lemmas.Bool.{cond_both}
use Rattle.vfs_base.specs.declared.errno.Errno.TheVariants as errno
use Rattle.vfs_base.specs.declared.no_memory.NoMemory.{NoMemory}
use Rattle.vfs_base.specs.declared.reply.Reply.{Reply}
use Rattle.vfs_base.specs.declared.reply.Reply.TheVariants as reply
use Rattle.vfs_base.specs.declared.step.Step.{Step}
use Rattle.vfs_base.specs.declared.step.Step.TheVariants as step
use Rattle.vfs_model.specs.CopyCommands.{CopyStage, Reads, Writes, close_both, close_source, copy_bytes, copy_closed, copy_cut, copy_fails, copy_from_start, copy_got, copy_left, copy_round, destination_opened, is_cut, same_file, source_opened}
use Rattle.vfs_model.specs.Mappings.{is_chr}
use Rattle.vfs_model.specs.OpenFiles.{moved_offset}
use Rattle.vfs_model.specs.Talk.{After, Again, Round, Talk, ask_holding, round_talk, shows}
use Rattle.vfs_model.specs.declared.shell_state.ShellState.{ShellState}
use Rattle.msh_text_commands.specs.CopyTalks.{IsAsking, both, copy_after, copy_from, copy_talk, file_of, own_behind, own_both_opened, own_done, own_opened, own_read, own_source, own_written}
use Rattle.msh_desk.specs.FitsReply.{TakesReply}
use Rattle.msh_text_commands.specs.declared.copies.CopyCommand.{CopyCommand}
use Rattle.msh_text_commands.specs.declared.copies.CopyCommand.TheVariants as command
use Rattle.msh_text_commands.specs.declared.copy_end.CopyEnd.{CopyEnd}

copy_turn : (src dst : CopyEnd) (round : Round CopyStage) (state : ShellState) (later : List Reply) →
    copy_after src dst round state later ≡ round_talk (λ stage now behind. copy_from src dst stage state later) round state later
copy_turn src dst (Again stage) state later = refl
copy_turn src dst (After go) state later = refl

pub copy_turns : (src dst : CopyEnd) (stage : CopyStage) (reply : Reply) (state : ShellState) (later : List Reply) →
    copy_after src dst (copy_round (file_of src) (file_of dst) stage reply) state later ≡ copy_from src dst stage state (reply ∷ later)
copy_turns src dst stage reply state later = copy_turn src dst (copy_round (file_of src) (file_of dst) stage reply) state later

pub copy_fed : (src dst : CopyEnd) (stage : CopyStage) (reply : Reply) (found : Result CopyCommand NoMemory) →
    IfOk found (λ next. copy_talk next ≡ copy_after src dst (copy_round (file_of src) (file_of dst) stage reply)) →
    IfOk found (λ next. (state : ShellState) (later : List Reply) → copy_talk next state later ≡ copy_from src dst stage state (reply ∷ later))
copy_fed src dst stage reply (Ok next) same =
    λ state later. subst (λ end. copy_talk next state later ≡ end) (copy_turns src dst stage reply state later) (ap (λ talk. talk state later) same)
copy_fed src dst stage reply (Err fault) same = tt

-- with no further reply the talk leaves this state, and has these references
abbrev Leaves : Talk → ShellState → List Step → Type 0
Leaves talk state own = ((talk state []).state ≡ state) × ((talk state []).own ≡ own)

opened_leaves : (word other : List ℕ) (reply : Reply) (state : ShellState) → Leaves (source_opened word other reply) state (own_opened reply)
opened_leaves word other (reply.Opened hold file kind) state = (refl, refl)
opened_leaves word other (reply.Refused errno) state = (refl, refl)
opened_leaves word other _ state = (refl, refl)

start_leaves : (src dst : CopyEnd) (state : ShellState) → Leaves (copy_from_start (file_of src) (file_of dst)) state (both src dst)
start_leaves src dst state =
    cond_both (same_file src.file dst.file) (copy_fails (file_of src) (file_of dst) dst.word errno.EINVAL)
    (if is_cut dst.kind then ask_holding (both src dst) (step.Trunc dst.file 0) (copy_cut (file_of src) (file_of dst)) else copy_bytes (file_of src) (file_of dst))
    (λ talk. Leaves talk state (both src dst)) (λ _. (refl, refl))
    (λ _. cond_both (is_cut dst.kind) (ask_holding (both src dst) (step.Trunc dst.file 0) (copy_cut (file_of src) (file_of dst))) (copy_bytes (file_of src) (file_of dst))
    (λ talk. Leaves talk state (both src dst)) (λ _. (refl, refl)) (λ _. (refl, refl)))

both_opened_leaves : (src : CopyEnd) (word : List ℕ) (reply : Reply) (state : ShellState) →
    Leaves (destination_opened (file_of src) word reply) state (own_both_opened src reply)
both_opened_leaves src word (reply.Opened hold file kind) state =
    start_leaves src (record { word = word; hold = hold; file = file; kind = kind }) state
both_opened_leaves src word (reply.Refused errno) state = (refl, refl)
both_opened_leaves src word _ state = (refl, refl)

cut_leaves : (src dst : CopyEnd) (reply : Reply) (state : ShellState) →
    Leaves (copy_cut (file_of src) (file_of dst) reply) state (own_done (both src dst) reply)
cut_leaves src dst reply.Done state = (refl, refl)
cut_leaves src dst (reply.Refused errno) state = (refl, refl)
cut_leaves src dst _ state = (refl, refl)

-- what a round leaves
abbrev RoundLeaves : CopyEnd → CopyEnd → ShellState → List Step → Round CopyStage → Type 0
RoundLeaves src dst state own round = Leaves (λ now later. round_talk (λ stage after behind. copy_from src dst stage now later) round now later) state own

got_leaves : (src dst : CopyEnd) (offset : ℕ) (bytes : List ℕ) (state : ShellState) →
    RoundLeaves src dst state (both src dst) (copy_got (file_of src) (file_of dst) offset bytes)
got_leaves src dst offset [] state = (refl, refl)
got_leaves src dst offset (byte ∷ bytes) state = (refl, refl)

read_leaves : (src dst : CopyEnd) (offset : ℕ) (reply : Reply) (state : ShellState) →
    Leaves (λ now later. copy_from src dst (Reads offset) now (reply ∷ later)) state (own_read (both src dst) reply)
read_leaves src dst offset (reply.Got bytes) state = got_leaves src dst offset bytes state
read_leaves src dst offset (reply.Refused errno) state = (refl, refl)
read_leaves src dst offset _ state = (refl, refl)

left_leaves : (src dst : CopyEnd) (offset : ℕ) (bytes : List ℕ) (state : ShellState) →
    RoundLeaves src dst state (both src dst) (copy_left (file_of src) (file_of dst) offset bytes)
left_leaves src dst offset [] state =
    cond_both (is_chr src.kind) (After (close_both (file_of src) (file_of dst) [])) (Again (Reads offset))
    (RoundLeaves src dst state (both src dst)) (λ _. (refl, refl)) (λ _. (refl, refl))
left_leaves src dst offset (byte ∷ bytes) state = (refl, refl)

written_leaves : (src dst : CopyEnd) (offset : ℕ) (bytes : List ℕ) (reply : Reply) (state : ShellState) →
    Leaves (λ now later. copy_from src dst (Writes offset bytes) now (reply ∷ later)) state (own_written (both src dst) reply)
written_leaves src dst offset bytes (reply.Count n end) state = left_leaves src dst (moved_offset offset n) (drop n bytes) state
written_leaves src dst offset bytes (reply.Refused errno) state = (refl, refl)
written_leaves src dst offset bytes _ state = (refl, refl)

both_closed_leaves : (src dst : CopyEnd) (text : List ℕ) (reply : Reply) (state : ShellState) →
    Leaves (copy_closed dst.word text (close_source (file_of src)) reply) state (own_done (own_source src) reply)
both_closed_leaves src dst text reply.Done state = (refl, refl)
both_closed_leaves src dst text (reply.Refused errno) state = (refl, refl)
both_closed_leaves src dst text _ state = (refl, refl)

closed_leaves : (src : CopyEnd) (text : List ℕ) (reply : Reply) (state : ShellState) → Leaves (copy_closed src.word text shows reply) state []
closed_leaves src text reply.Done state = (refl, refl)
closed_leaves src text (reply.Refused errno) state = (refl, refl)
closed_leaves src text _ state = (refl, refl)

reply_leaves : (c : CopyCommand) (reply : Reply) (state : ShellState) →
    Leaves (λ now later. copy_talk c now (reply ∷ later)) state (own_behind c reply)
reply_leaves (command.Shown text) reply state = (refl, refl)
reply_leaves (command.Open word other) reply state = opened_leaves word other reply state
reply_leaves (command.OpenTo src word) reply state = both_opened_leaves src word reply state
reply_leaves (command.Cut src dst) reply state = cut_leaves src dst reply state
reply_leaves (command.Read src dst offset) reply state = read_leaves src dst offset reply state
reply_leaves (command.Write src dst offset bytes) reply state = written_leaves src dst offset bytes reply state
reply_leaves (command.CloseTo src dst text) reply state = both_closed_leaves src dst text reply state
reply_leaves (command.CloseFrom src text) reply state = closed_leaves src text reply state

pub reply_keeps : (c : CopyCommand) (reply : Reply) (state : ShellState) → (copy_talk c state (reply ∷ [])).state ≡ state
reply_keeps c reply state = (reply_leaves c reply state).0

pub reply_owns : (c : CopyCommand) (reply : Reply) (state : ShellState) → (copy_talk c state (reply ∷ [])).own ≡ own_behind c reply
reply_owns c reply state = (reply_leaves c reply state).1

pub copy_takes_asking : (c : CopyCommand) (reply : Reply) (state : ShellState) → TakesReply (copy_talk c state []).next reply → IsAsking c
copy_takes_asking (command.Shown text) reply state takes = takes
copy_takes_asking _ reply state takes = tt
