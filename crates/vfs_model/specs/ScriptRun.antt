-- Where a script stands after a schedule: each entry is taken, where it can be.
use Rattle.std.specs.Prelude.{◌≡◌, ℕ, ◌+◌, ◌-◌, Bool, true, false, is_none, unwrap_or, Option, Some, None, List, [], ◌∷◌, ◌++◌, length, map, replicate, slice_index_or, slice_set, if◌then◌else◌}
use Rattle.std.specs.List.{list_all, list_any, position, range_with_len}
use Rattle.std.specs.Option.{option_and_then, option_or}
use Rattle.std.specs.Result.{is_err, result_ok}
use Rattle.vfs_base.specs.declared.deck.Deck.{Deck}
use Rattle.vfs_base.specs.declared.deck.RomText.{RomText}
use Rattle.vfs_base.specs.declared.describe.Describe.{Describe}
use Rattle.vfs_base.specs.declared.entry.Entry.{Entry}
use Rattle.vfs_base.specs.declared.entry.Who.{Who}
use Rattle.vfs_base.specs.declared.entry.Who.TheVariants as who
use Rattle.vfs_base.specs.declared.limits.TheConstants.{SESSIONS}
use Rattle.vfs_base.specs.declared.reply.Reply.{Reply}
use Rattle.vfs_base.specs.declared.step.Step.{Step}
use Rattle.vfs_base.specs.declared.step.Step.TheVariants as step
use Rattle.vfs_model.specs.Deck.{session_lines}
use Rattle.vfs_model.specs.Homes.{opening_world}
use Rattle.vfs_model.specs.Manifest.{manifest_tree}
use Rattle.vfs_model.specs.Schedule.{is_end}
use Rattle.vfs_model.specs.Session.{SessionRun, session_run, wanted_step}
use Rattle.vfs_model.specs.World.{WorldOutcome, fits_step, world_step}
use Rattle.vfs_model.specs.declared.namespace.RomImage.{RomImage}
use Rattle.vfs_model.specs.declared.namespace.RomNode.{RomNode}
use Rattle.vfs_model.specs.declared.namespace.RomNode.TheVariants as rom
use Rattle.vfs_model.specs.declared.world.WorldState.{WorldState}

-- what a rom has at a path: a folder has no bytes
abbrev pub rom_node : Option (List ℕ) → RomNode
rom_node None = rom.Dir
rom_node (Some bytes) = rom.File bytes

-- the rom that a text of a script describes; a text outside the form, which no script has, describes none
abbrev pub rom_image : RomText → RomImage
rom_image text = record {
  name = text.name;
  nodes = map (λ item. (item.0, rom_node item.1)) (unwrap_or (result_ok (manifest_tree text.manifest)) []);
}

-- the place of the first rom whose text is outside the form of manifests, counted from 0; a script that was read has none
abbrev pub first_bad_rom : Deck → Option ℕ
first_bad_rom deck = position (λ rom. is_err (manifest_tree rom.manifest)) deck.roms

-- a character device doesn't tell its input, so no text can be computed
abbrev pub has_untold : Describe → Bool
has_untold describe = list_any (λ shape. is_none shape.input) describe.chars

-- Where a script stands after a front of a schedule.
pub record RunState : Type 0 where
  pub world : WorldState
  -- what each session was replied so far, from the first one on
  pub heard : List (List Reply)
  -- the end was taken
  pub is_over : Bool

-- the start: the roms of the script are there, and no session has asked anything
abbrev pub opening_state : Deck → Describe → RunState
opening_state deck describe = record {
  world = opening_world (map rom_image deck.roms) describe;
  heard = replicate SESSIONS [];
  is_over = false;
}

-- the sessions, by number
abbrev pub sessions : List ℕ
sessions = range_with_len 1 SESSIONS

-- what a session was replied so far; sessions are counted from 1
abbrev pub heard_by : RunState → ℕ → List Reply
heard_by s k = slice_index_or s.heard (k - 1) []

-- how far a session's lines have come
abbrev pub run_of : Deck → RunState → ℕ → SessionRun
run_of deck s k = session_run (session_lines deck k) (heard_by s k)

-- the session is through with its lines and with its exit
abbrev pub is_done : Deck → RunState → ℕ → Bool
is_done deck s k = is_none (wanted_step (run_of deck s k))

-- the step that an entry stands for: a session's next one, a worker's of a row, or the last one of all
abbrev pub entry_step : Deck → RunState → Who → Option Step
entry_step deck s (who.Session k) = wanted_step (run_of deck s k)
entry_step deck s (who.Flush row) = Some (step.Flush row)
entry_step deck s (who.Reclaim row) = Some (step.Reclaim row)
entry_step deck s who.End = if list_all (is_done deck s) sessions then Some step.Shutdown else None

-- a session hears the reply to its step
abbrev pub heard_after : List (List Reply) → Who → Reply → List (List Reply)
heard_after heard (who.Session k) reply = slice_set heard (k - 1) (slice_index_or heard (k - 1) [] ++ reply ∷ [])
heard_after heard (who.Flush row) reply = heard
heard_after heard (who.Reclaim row) reply = heard
heard_after heard who.End reply = heard

-- the world goes on, the session hears the reply, and after the end nothing follows
abbrev pub state_after_step : RunState → Who → WorldOutcome → RunState
state_after_step s asker outcome =
    record { world = outcome.next; heard = heard_after s.heard asker outcome.reply; is_over = is_end asker }

-- the step is taken, where its mark fits
abbrev pub take_step : RunState → Entry → Option Step → Option RunState
take_step s entry None = None
take_step s entry (Some asked) =
    if fits_step s.world entry.who asked entry.mark
    then Some (state_after_step s entry.who (world_step s.world entry.who asked entry.mark)) else None

-- an entry is taken, where it can be: nothing is taken after the end
unfoldable pub take_entry : Deck → RunState → Entry → Option RunState
take_entry deck s entry = if s.is_over then None else take_step s entry (entry_step deck s entry.who)

-- the entries are taken one after the other, where each can be
abbrev pub take_entries : Deck → RunState → List Entry → Option RunState
take_entries deck s [] = Some s
take_entries deck s (entry ∷ entries) = option_and_then (λ next. take_entries deck next entries) (take_entry deck s entry)

-- where a script stands after a schedule, if each entry can be taken
abbrev pub state_after : Deck → Describe → List Entry → Option RunState
state_after deck describe schedule = take_entries deck (opening_state deck describe) schedule

-- the place of the first entry that can't be taken, where the first one has this place
abbrev pub untaken_from : ℕ → Deck → RunState → List Entry → Option ℕ
untaken_from at deck s [] = None
untaken_from at deck s (entry ∷ entries) = by_state (take_entry deck s entry) (λ next. untaken_from (at + 1) deck next entries)
  where
    by_state : Option RunState → (RunState → Option ℕ) → Option ℕ
    by_state None later = Some at
    by_state (Some next) later = later next

-- the place of the first entry of a schedule that can't be taken, counted from 0
abbrev pub first_untaken : Deck → Describe → List Entry → Option ℕ
first_untaken deck describe schedule = untaken_from 0 deck (opening_state deck describe) schedule

-- the end was taken
abbrev pub has_ended : Option RunState → Bool
has_ended None = false
has_ended (Some s) = s.is_over

-- each entry can be taken, and the end was: so all lines and all exits are done, and the end is last
abbrev pub IsWhole : Deck → Describe → List Entry → Type 0
IsWhole deck describe schedule = has_ended (state_after deck describe schedule) ≡ true

-- the first place at which a schedule isn't one of the script: an entry that can't be taken, or what is missing behind
-- the last
abbrev pub no_schedule_at : Deck → Describe → List Entry → Option ℕ
no_schedule_at deck describe schedule =
    option_or (first_untaken deck describe schedule)
    (if has_ended (state_after deck describe schedule) then None else Some (length schedule))
