-- Worked examples of scripts, schedules and the generator.
use Rattle.std.specs.Prelude.{◌≡◌, ℕ, true, false, Ok, Err, Result, List, [], ◌∷◌, ◌++◌, codes, refl, replicate}
use Rattle.std.specs.Fmt.{digits}
use Rattle.std.specs.List.{flat_map}
use Rattle.hex.specs.Hex.{decode_pairs}
use Rattle.vfs_base.specs.declared.deck.Act.{Act}
use Rattle.vfs_base.specs.declared.deck.Act.TheVariants as act
use Rattle.vfs_base.specs.declared.deck.Deck.{Deck}
use Rattle.vfs_base.specs.declared.entry.Entry.{Entry}
use Rattle.vfs_base.specs.declared.entry.Mark.{Mark}
use Rattle.vfs_base.specs.declared.entry.Mark.TheVariants as mark
use Rattle.vfs_base.specs.declared.entry.Who.{Who}
use Rattle.vfs_base.specs.declared.entry.Who.TheVariants as who
use Rattle.vfs_model.specs.Deck.{deck_of}
use Rattle.vfs_model.specs.Schedule.{schedule_entries}
use Rattle.vfs_model.specs.Soak.{soak_deck}

-- the bytes of lines that line feeds end
abbrev pub ended : List (List ℕ) → List ℕ
ended lines = flat_map (λ line. line ++ 10 ∷ []) lines

abbrev pub acts : List Act → Result Deck ℕ
acts asked = Ok (record { roms = []; acts = asked })

pub posts_with_and_without_a_text : deck_of (ended (
    codes "1 mkdir /a"
    ∷ codes "# a remark"
    ∷ codes "@2 ls"
    ∷ codes ""
    ∷ codes "   "
    ∷ codes "3"
    ∷ codes "@4"
    ∷ codes "8 "
    ∷ codes "1  ls"
    ∷ []
    )) ≡ acts (act.Post 1 (codes "mkdir /a") true ∷ act.Post 2 (codes "ls") false ∷ act.Post 3 [] true ∷ act.Post 4 [] false
    ∷ act.Post 8 [] true ∷ act.Post 1 (codes " ls") true ∷ [])
unfolding deck_of
posts_with_and_without_a_text = refl

pub no_other_session_is_posted_to :
    (deck_of (codes "9 ls") ≡ Err 1)
    × (deck_of (codes "0 ls") ≡ Err 1)
    × (deck_of (ended (codes "1" ∷ codes "12 ls" ∷ [])) ≡ Err 2)
    × (deck_of (codes "@") ≡ Err 1)
    × (deck_of (codes " 1 ls") ≡ Err 1)
    × (deck_of (codes " # ls") ≡ Err 1)
    × (deck_of (49 ∷ 9 ∷ codes "ls") ≡ Err 1)
    × (deck_of (9 ∷ 10 ∷ []) ≡ Err 1)
unfolding deck_of
no_other_session_is_posted_to = (refl, refl, refl, refl, refl, refl, refl, refl)

pub events_stand_behind_spaces : deck_of (ended (codes "! 1  2" ∷ codes "!  f1024 r9" ∷ [])) ≡ acts (
    act.Events (who.Session 1 ∷ who.Session 2 ∷ [])
    ∷ act.Events (who.Flush 1024 ∷ who.Reclaim 9 ∷ [])
    ∷ [])
unfolding deck_of
events_stand_behind_spaces = refl

pub no_other_event_is_in_the_form :
    (deck_of (codes "!1") ≡ Err 1)
    × (deck_of (codes "!") ≡ Err 1)
    × (deck_of (codes "! ") ≡ Err 1)
    × (deck_of (codes "! 1 ") ≡ Err 1)
    × (deck_of (codes "! z") ≡ Err 1)
    × (deck_of (codes "! f01") ≡ Err 1)
    × (deck_of (codes "! f1025") ≡ Err 1)
    × (deck_of (codes "! r0") ≡ Err 1)
    × (deck_of (codes "! 9") ≡ Err 1)
unfolding deck_of
no_other_event_is_in_the_form = (refl, refl, refl, refl, refl, refl, refl, refl, refl)

pub a_rom_stands_between_its_lines : deck_of (ended (
    codes "rom boot"
    ∷ codes "d /etc"
    ∷ codes "f /etc/id 5254"
    ∷ codes "end"
    ∷ codes "1 ls /etc"
    ∷ []
    )) ≡ Ok (record {
      roms = record { name = codes "boot"; manifest = ended (codes "d /etc" ∷ codes "f /etc/id 5254" ∷ []) } ∷ [];
      acts = act.Post 1 (codes "ls /etc") true ∷ [];
    })
unfolding deck_of decode_pairs
a_rom_stands_between_its_lines = refl

pub faults_of_roms :
    (deck_of (ended (codes "rom b" ∷ codes "f /x/y 00" ∷ codes "end" ∷ [])) ≡ Err 2)
    × (deck_of (codes "rom b") ≡ Err 2)
    × (deck_of (ended (codes "rom b" ∷ codes "d /a" ∷ [])) ≡ Err 3)
    × (deck_of (ended (codes "rom b" ∷ codes "d a" ∷ [])) ≡ Err 2)
    × (deck_of (ended (codes "rom b" ∷ codes "" ∷ codes "end" ∷ [])) ≡ Err 2)
    × (deck_of (ended (codes "rom b" ∷ codes "# x" ∷ codes "end" ∷ [])) ≡ Err 2)
    × (deck_of (ended (codes "rom b" ∷ codes "end" ∷ codes "rom b" ∷ codes "end" ∷ [])) ≡ Err 3)
    × (deck_of (ended (codes "rom a b" ∷ codes "end" ∷ [])) ≡ Err 1)
    × (deck_of (ended (codes "rom " ∷ codes "end" ∷ [])) ≡ Err 1)
    × (deck_of (ended (codes "end" ∷ [])) ≡ Err 1)
    × (deck_of (ended (codes "rom end" ∷ codes "end" ∷ [])) ≡ Ok (record { roms = record { name = codes "end"; manifest = [] } ∷ []; acts = [] }))
unfolding deck_of decode_pairs
faults_of_roms = (refl, refl, refl, refl, refl, refl, refl, refl, refl, refl, refl)

pub a_return_stands_before_a_line_feed :
    (deck_of (codes "1 pwd" ++ 13 ∷ 10 ∷ codes "1 pwd") ≡ acts (act.Post 1 (codes "pwd") true ∷ act.Post 1 (codes "pwd") true ∷ []))
    × (deck_of (codes "1 pwd" ++ 13 ∷ []) ≡ acts (act.Post 1 (codes "pwd" ++ 13 ∷ []) true ∷ []))
    × (deck_of [] ≡ acts [])
unfolding deck_of
a_return_stands_before_a_line_feed = (refl, refl, refl)

pub a_line_has_at_most_1024_bytes :
    (deck_of (replicate 1024 32 ++ 13 ∷ 10 ∷ codes "9") ≡ Err 2)
    × (deck_of (replicate 1025 32 ++ 10 ∷ []) ≡ Err 1)
    × (deck_of (replicate 1024 32 ++ 13 ∷ []) ≡ Err 1)
unfolding deck_of
a_line_has_at_most_1024_bytes = (refl, refl, refl)

abbrev by : Who → Mark → Entry
by asker m = record { who = asker; mark = m }

pub a_printed_schedule_is_read :
    (schedule_entries (codes "# 1 8!0 2m12 f3 r1024!18446744073709551615 z!0" ++ 10 ∷ []) ≡ Ok (
    by (who.Session 1) mark.Clear
    ∷ by (who.Session 8) (mark.Fault 0)
    ∷ by (who.Session 2) (mark.NoMem 12)
    ∷ by (who.Flush 3) mark.Clear
    ∷ by (who.Reclaim 1024) (mark.Fault 18446744073709551615)
    ∷ by who.End (mark.Fault 0)
    ∷ []))
    × (schedule_entries (codes "#") ≡ Ok [])
unfolding schedule_entries
a_printed_schedule_is_read = (refl, refl)

pub the_first_bad_entry_is_told :
    (schedule_entries (codes "# 1 x z") ≡ Err 1)
    × (schedule_entries [] ≡ Err 0)
    × (schedule_entries (codes "1 z") ≡ Err 0)
    × (schedule_entries (codes "#1 z") ≡ Err 0)
    × (schedule_entries (codes "# ") ≡ Err 0)
    × (schedule_entries (codes "#  1") ≡ Err 0)
    × (schedule_entries (codes "# 1 ") ≡ Err 1)
    × (schedule_entries (codes "# 9") ≡ Err 0)
    × (schedule_entries (codes "# 1 12") ≡ Err 1)
    × (schedule_entries (codes "# f01") ≡ Err 0)
    × (schedule_entries (codes "# 1 2 z1") ≡ Err 2)
    × (schedule_entries (codes "# 1!") ≡ Err 0)
    × (schedule_entries (codes "# 1!00") ≡ Err 0)
    × (schedule_entries (codes "# 1!18446744073709551616") ≡ Err 0)
    × (schedule_entries (codes "# 1" ++ 13 ∷ 10 ∷ []) ≡ Err 0)
    × (schedule_entries (codes "# 1" ++ 10 ∷ 10 ∷ []) ≡ Err 0)
unfolding schedule_entries
the_first_bad_entry_is_told = (refl, refl, refl, refl, refl, refl, refl, refl, refl, refl, refl, refl, refl, refl, refl, refl)

pub the_first_draws_list_the_volume :
    (soak_deck 1 0 ≡ record { roms = []; acts = act.Post 1 (codes "mkdir /v") true ∷ act.Post 1 (codes "mount sd0 /v cell") true ∷ [] })
    × (soak_deck 1 1 ≡ record {
      roms = [];
      acts = act.Post 1 (codes "mkdir /v") true ∷ act.Post 1 (codes "mount sd0 /v cell") true
          ∷ act.Post 7 (codes "ls /v") true ∷ [];
    })
unfolding soak_deck
the_first_draws_list_the_volume = (refl, refl)

-- a script that has a line of each kind
pub a_soak_is_a_script : deck_of (ended (
    codes "1 mkdir /v"
    ∷ codes "1 mount sd0 /v cell"
    ∷ codes "6 ls /v"
    ∷ codes "3 read 3 7799"
    ∷ codes "3 open /v/f12 rw,creat"
    ∷ codes "5 write 3 x 1018"
    ∷ codes "7 rm /v/f3"
    ∷ codes "3 cat /v/f3"
    ∷ codes "8 echo t7 /v/f10"
    ∷ codes "4 close 3"
    ∷ codes "7 open /v/f9 rw,creat"
    ∷ codes "1 read 3 3913"
    ∷ codes "! f13 r13"
    ∷ codes "7 mv /v/f12 /v/f7"
    ∷ []
    )) ≡ Ok (soak_deck 167 12)
unfolding deck_of soak_deck digits
a_soak_is_a_script = refl
