-- What a run begins with.
use Rattle.std.proofs.Common.{◌≡◌, ℕ, true, Some, Ok, Err, [], get_or, refl, sym, subst, arith}
use Rattle.std.proofs.lemmas.List.Elements.{All-nil}
use Rattle.std.proofs.lemmas.List.Quantifiers.{position-Some}
use Rattle.std.specs.Prelude.{Result}
use Rattle.std.specs.Result.{is_err, is_ok}
use Rattle.vfs_base.specs.declared.deck.Deck.{Deck}
use Rattle.vfs_base.specs.declared.deck.RomText.{RomText}
use Rattle.vfs_base.specs.declared.describe.Describe.{Describe}
use Rattle.vfs_model.specs.DeckLaws.{IsAct, IsRomText, IsScript}
use Rattle.vfs_model.specs.Manifest.{manifest_tree}
use Rattle.vfs_model.specs.Rom.{RomItems}
use Rattle.vfs_model.specs.ScriptRun.{first_bad_rom}
use Rattle.dfs_run.specs.Opening.{IsTold}

not_both : (r : Result RomItems ℕ) → is_ok r ≡ true → is_err r ≡ true → ⊥
not_both (Ok items) ok err = cc
not_both (Err line) ok err = cc

-- each rom of a script has a manifest
pub no_bad_rom : (deck : Deck) (index : ℕ) → IsScript deck → first_bad_rom deck ≡ Some index → ⊥
no_bad_rom deck index script e =
    let none : RomText = record { name = []; manifest = [] } in
    let at = position-Some (λ rom. is_err (manifest_tree rom.manifest)) deck.roms index none e in
    not_both (manifest_tree (get_or deck.roms index none).manifest) (script.roms index none at.0).manifest at.1

-- where there is no device all is told
pub told_empty : (describe : Describe) → describe ≡ record { volumes = []; chars = [] } → IsTold describe
told_empty describe e = subst IsTold (sym e) (record { told = refl; few = tt })

-- a script without lines and roms
pub empty_script : (deck : Deck) → deck ≡ record { roms = []; acts = [] } → IsScript deck
empty_script deck e = subst IsScript (sym e) (record {
  acts = All-nil IsAct;
  roms = All-nil IsRomText;
  apart = λ i j d first within. absurd (omega (arith, within));
})
