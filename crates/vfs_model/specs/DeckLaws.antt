-- The laws of scripts.
use Rattle.std.specs.Prelude.{◌≡◌, ℕ, ◌≤◌, All, true, Ok, List}
use Rattle.std.specs.List.{AllPairs}
use Rattle.std.specs.Prelude.{◌≢◌}
use Rattle.std.specs.Result.{is_ok}
use Rattle.vfs_base.specs.Name.{IsName}
use Rattle.vfs_base.specs.declared.deck.Act.{Act}
use Rattle.vfs_base.specs.declared.deck.Act.TheVariants as act
use Rattle.vfs_base.specs.declared.deck.Deck.{Deck}
use Rattle.vfs_base.specs.declared.deck.RomText.{RomText}
use Rattle.vfs_base.specs.declared.entry.Who.{Who}
use Rattle.vfs_base.specs.declared.entry.Who.TheVariants as who
use Rattle.vfs_base.specs.declared.limits.TheConstants.{ROWS, SESSIONS}
use Rattle.vfs_model.specs.Deck.{deck_of}
use Rattle.vfs_model.specs.Manifest.{manifest_tree}

-- an event is a step of a session or of the worker
abbrev pub IsEvent : Who → Type 0
IsEvent (who.Session k) = (1 ≤ k) × (k ≤ SESSIONS)
IsEvent (who.Flush row) = (1 ≤ row) × (row ≤ ROWS)
IsEvent (who.Reclaim row) = (1 ≤ row) × (row ≤ ROWS)
IsEvent who.End = ⊥

-- a line is posted to one of the sessions
abbrev pub IsAct : Act → Type 0
IsAct (act.Post k text go) = (1 ≤ k) × (k ≤ SESSIONS)
IsAct (act.Events askers) = All IsEvent askers

-- a rom has a name and a manifest
pub record IsRomText (rom : RomText) : Type 0 where
  pub name : IsName rom.name
  pub manifest : is_ok (manifest_tree rom.manifest) ≡ true

-- A script's numbers are in their ranges, each of its roms has a manifest, and no two roms have one name.
pub record IsScript (deck : Deck) : Type 0 where
  pub acts : All IsAct deck.acts
  pub roms : All IsRomText deck.roms
  pub apart : AllPairs (λ one other. one.name ≢ other.name) deck.roms

-- bytes that are in the form are a script
abbrev pub ReadScriptIsInForm : Type 0
ReadScriptIsInForm = (bytes : List ℕ) (deck : Deck) → deck_of bytes ≡ Ok deck → IsScript deck
