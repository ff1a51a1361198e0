-- The script that a number makes: a mix of commands of eight sessions on the files of one volume.
use Rattle.std.specs.Prelude.{ℕ, zero, suc, ◌+◌, ◌*◌, ◌/◌, ◌%◌, ◌^◌, ◌==◌, true, List, [], ◌∷◌, ◌++◌, codes, if◌then◌else◌}
use Rattle.std.specs.Fmt.{decimal}
use Rattle.vfs_base.specs.declared.deck.Act.{Act}
use Rattle.vfs_base.specs.declared.deck.Act.TheVariants as act
use Rattle.vfs_base.specs.declared.deck.Deck.{Deck}
use Rattle.vfs_base.specs.declared.entry.Who.TheVariants as who

-- the generator's state after a draw
abbrev pub drawn : ℕ → ℕ
drawn state = (1103515245 * state + 12345) % 2 ^ 31

-- the number that a draw gives, by the state after it
abbrev pub draw : ℕ → ℕ
draw state = state / 65536

-- the path of one of the files of the volume
abbrev pub soak_file : ℕ → List ℕ
soak_file f = codes "/v/f" ++ decimal f

-- a line, and the generator's state after it
pub record SoakLine : Type 0 where
  pub line : Act
  pub state : ℕ

-- a command that needs no further draw
abbrev pub plain_line : ℕ → ℕ → List ℕ → SoakLine
plain_line state k text = record { line = act.Post k text true; state = state }

-- a command with a count of 1 to 8192, by the next draw
abbrev pub counted_line : ℕ → ℕ → List ℕ → SoakLine
counted_line state k front =
    record { line = act.Post k (front ++ decimal (1 + draw (drawn state) % 8192)) true; state = drawn state }

-- the renaming of a file, to a path by the next draw
abbrev pub rename_line : ℕ → ℕ → ℕ → SoakLine
rename_line state k f =
    record { line = act.Post k (codes "mv " ++ soak_file f ++ codes " " ++ soak_file (draw (drawn state) % 16)) true; state = drawn state }

-- the worker's two steps of a row
abbrev pub worker_line : ℕ → ℕ → SoakLine
worker_line state row = record { line = act.Events (who.Flush row ∷ who.Reclaim row ∷ []); state = state }

-- line number i, of session k, by the choice c, on file f
abbrev pub chosen_line : ℕ → ℕ → ℕ → ℕ → ℕ → SoakLine
chosen_line state i k c f =
    if c == 0 then plain_line state k (codes "echo t" ++ decimal i ++ codes " " ++ soak_file f)
    else if c == 1 then plain_line state k (codes "cat " ++ soak_file f)
    else if c == 2 then plain_line state k (codes "rm " ++ soak_file f)
    else if c == 3 then rename_line state k f
    else if c == 4 then plain_line state k (codes "open " ++ soak_file f ++ codes " rw,creat")
    else if c == 5 then counted_line state k (codes "write 3 x ")
    else if c == 6 then counted_line state k (codes "read 3 ")
    else if c == 7 then plain_line state k (codes "close 3")
    else if c == 8 then plain_line state k (codes "ls /v")
    else worker_line state (1 + f)

-- line number i: three draws give the session, the choice and the file, in this order
abbrev pub soak_line : ℕ → ℕ → SoakLine
soak_line state i =
    let first = drawn state in
    let second = drawn first in
    let third = drawn second in
    chosen_line third i (1 + draw first % 8) (draw second % 10) (draw third % 16)

-- so many lines, the first of which has the number i
abbrev pub soak_lines : ℕ → ℕ → ℕ → List Act
soak_lines zero i state = []
soak_lines (suc count) i state = let next = soak_line state i in next.line ∷ soak_lines count (i + 1) next.state

-- the script of a seed, with so many lines behind those that mount the volume
unfoldable pub soak_deck : ℕ → ℕ → Deck
soak_deck seed count = record {
  roms = [];
  acts = act.Post 1 (codes "mkdir /v") true ∷ act.Post 1 (codes "mount sd0 /v cell") true ∷ soak_lines count 1 seed;
}
