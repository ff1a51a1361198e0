use Rattle.std.proofs.Common.{◌≡◌, ℕ, false, Result, rules, sym, subst}
use Rattle.std.proofs.lemmas.Result.{err_from_is_err_and}
use Rattle.vfs_base.specs.declared.deck.Deck.{Deck}
use Rattle.deck_form.specs.Draft.{AddsName, has_name}
use Rattle.deck_form.specs.Reading.{StopsReadingDeck}
use Rattle.deck_form.proofs.DraftLemmas.{rom_opens, roms_known}
use Rattle.deck_form.proofs.deck.DeckDraft.take_rom.Goals as goal

pub returns-in_err-rom-clause-fault : goal.returns-in_err-rom-clause-fault
returns-in_err-rom-clause-fault c =
    let p = err_from_is_err_and c.from_residual-in_err-rom.result c.from_residual-in_err-rom.ensures.1 in
    let fault = c.in_err-rom.field-0.0 in
    let old = c.args.self.now in
    let new : has_name old.names.keys c.args.name ≡ false = search rules in
    rw (p.1, p.2) (subst (λ (r : Result Deck ℕ). StopsReadingDeck r fault) (sym (rom_opens old.names.keys old.deck c.args.name c.args.lines.now c.requires new)) (c.in_err-rom.ensures.fault old.deck))

pub returns-clause-known : goal.returns-clause-known
returns-clause-known c =
    let old = c.args.self.now in
    let adds : AddsName old.names.keys c.insert_name.new.names.keys c.in_ok-rom.rom.name = rw c.in_ok-rom.ensures.name c.in_ok-insert_name.ensures.names in
    rw c.in_ok-push.ensures.ok (roms_known old.names.keys c.insert_name.new.names.keys old.deck c.in_ok-rom.rom c.requires adds)
