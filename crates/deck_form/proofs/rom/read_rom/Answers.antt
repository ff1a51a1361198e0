use Rattle.std.proofs.Common.{◌≡◌, ◌+◌, true, false, Some, None, Err, Result, ℕ, [], subst, rules, codes, length, take, ap, sym, ◌∙◌, arith, length-append, length-drop}
use Rattle.std.proofs.lemmas.Result.{err_from_is_err_and}
use Rattle.vfs_model.specs.Manifest.{with_line}
use Rattle.vfs_model.specs.Namespace.{same_bytes}
use Rattle.vfs_model.specs.Script.{line_text}
use Rattle.vfs_base.specs.declared.deck.Deck.{Deck}
use Rattle.deck_form.specs.Lines.{IsNextLine, LinesState, deck_with}
use Rattle.deck_form.specs.Reading.{StopsReadingDeck}
use Rattle.deck_form.proofs.RomLemmas.{with_open, rom_goes_on, rom_ends, rom_is_bad, rom_is_open, line_bad, part_grows}
use Rattle.deck_form.proofs.rom.read_rom.Goals as goal

pub loop-draft-preserved : goal.loop-draft-preserved
loop-draft-preserved c =
    let raw = c.in-Some.raw.now in
    let size = c.loop-draft.size in
    let text = c.rest-text.result.now in
    let old = c.loop-draft.lines in
    let new = c.next_line.new.self in
    let next : IsNextLine old new raw = rw c.in-Some.is at c.in_ok-raw.ensures.line in
    let grown = part_grows text raw new.rest size (c.loop-draft.invariant.rest ∙ next.bytes) in
    let other : same_bytes (line_text raw) (codes "end") ≡ false = search rules in
    let line : with_line c.loop-draft.draft (line_text raw) ≡ Some c.take_line.new.self = search rules in
    record {
      rest = grown.1;
      within = omega (arith, ap length (c.loop-draft.invariant.rest ∙ next.bytes), length-drop size text, length-append raw new.rest, next.some);
      shorter = omega (arith, c.loop-draft.invariant.shorter, ap length next.bytes, length-append raw new.rest);
      name = c.loop-draft.invariant.name;
      read = λ deck.
          c.loop-draft.invariant.read deck ∙ rom_goes_on old new raw c.args.name (take size text) c.loop-draft.draft c.take_line.new.self deck next other line
          ∙ ap (λ t. deck_with new (with_open deck c.args.name t c.take_line.new.self)) (sym grown.0);
    }

pub returns-in_err-raw-clause-fault : goal.returns-in_err-raw-clause-fault
returns-in_err-raw-clause-fault c =
    let p = err_from_is_err_and c.from_residual.result c.from_residual.ensures.1 in
    let fault = c.in_err-raw.field-0.0 in
    let old = c.loop-draft.lines in
    let text = take c.loop-draft.size c.rest-text.result.now in
    rw (p.1, p.2) (λ (deck : Deck). subst (λ (r : Result Deck ℕ). StopsReadingDeck r fault) (sym (c.loop-draft.invariant.read deck))
    (line_bad old (with_open deck c.args.name text c.loop-draft.draft) fault c.in_err-raw.ensures.fault))

pub returns-then-eq-clause-rom : goal.returns-then-eq-clause-rom
returns-then-eq-clause-rom c = λ deck.
    let raw = c.in-Some.raw.now in
    let size = c.loop-draft.size in
    let text = c.rest-text.result.now in
    let old = c.loop-draft.lines in
    let new = c.next_line.new.self in
    let next : IsNextLine old new raw = rw c.in-Some.is at c.in_ok-raw.ensures.line in
    let end : same_bytes (line_text raw) (codes "end") ≡ true = search rules in
    rw (c.loop-draft.invariant.name, c.in_ok-manifest.ensures) (c.loop-draft.invariant.read deck ∙ rom_ends old new raw c.args.name (take size text) c.loop-draft.draft deck next end)

pub returns-then-not-branch-clause-fault : goal.returns-then-not-branch-clause-fault
returns-then-not-branch-clause-fault c = λ deck.
    let raw = c.in-Some.raw.now in
    let size = c.loop-draft.size in
    let text = c.rest-text.result.now in
    let old = c.loop-draft.lines in
    let new = c.next_line.new.self in
    let next : IsNextLine old new raw = rw c.in-Some.is at c.in_ok-raw.ensures.line in
    let other : same_bytes (line_text raw) (codes "end") ≡ false = search rules in
    let line : with_line c.loop-draft.draft (line_text raw) ≡ None = search rules in
    c.loop-draft.invariant.read deck ∙ rom_is_bad old new raw c.args.name (take size text) c.loop-draft.draft deck next other line ∙ ap Err (sym c.number.ensures.value)

pub returns-clause-fault : goal.returns-clause-fault
returns-clause-fault c = λ deck.
    let old = c.loop-draft.lines in
    let text = take c.loop-draft.size c.rest-text.result.now in
    let none : c.in_ok-raw.field-0 ≡ None = search rules in
    let ended : (old.rest ≡ []) × (c.next_line.new.self ≡ old) = rw none at c.in_ok-raw.ensures.end in
    c.loop-draft.invariant.read deck ∙ rom_is_open old c.args.name text c.loop-draft.draft deck ended.0
    ∙ ap (λ n. Err (n + 1)) (sym (c.number-2.ensures.value ∙ ap (λ (s : LinesState). s.number) ended.1))
