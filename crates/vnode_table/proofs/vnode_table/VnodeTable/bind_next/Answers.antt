use Rattle.std.proofs.Common.{◌≡◌, ◌∷◌, refl, sym, ap, ◌∙◌, arith, rules}
use Rattle.vnode_table.specs.SlotTable.{SlotTable, bound_slot, free_files, with_slot}
use Rattle.vnode_table.proofs.FreeFiles.{least, none-least, taken}
use Rattle.vnode_table.proofs.vnode_table.VnodeTable.bind_next.Goals as goal

pub returns-in_default-clause-full : goal.returns-in_default-clause-full
returns-in_default-clause-full c =
    let none = none-least 1 c.args.self.now (sym c.in_default.ensures.file) in
    let size = c.free_row.ensures.sound.size in
    (λ yes. omega (arith, none, size), λ is. refl)

pub returns-clause-least : goal.returns-clause-least
returns-clause-least c = least 1 c.args.self.now c.in-Some.file (sym c.in-Some.ensures.file)

pub returns-clause-left : goal.returns-clause-left
returns-clause-left c =
    let table : c.replace.new.self ≡ with_slot c.args.self.now c.in-Some.file.row bound_slot = search rules in
    taken 1 c.args.self.now c.in-Some.file (sym c.in-Some.ensures.file)
    ∙ ap (λ (slots : SlotTable). c.in-Some.file ∷ free_files slots) (sym table)

pub returns-clause-full : goal.returns-clause-full
returns-clause-full c =
    let is = least 1 c.args.self.now c.in-Some.file (sym c.in-Some.ensures.file) in
    let within = c.in-Some.ensures.free.within in
    let size = c.free_row.ensures.sound.size in
    (λ no. absurd (cc no), λ full. absurd (omega (arith, is, within, size, full)))
