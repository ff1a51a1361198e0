-- Bytes that are in the form of a script are one.
use Rattle.std.proofs.Common.{◌≡◌, ◌≢◌, ℕ, zero, suc, ◌+◌, ◌<◌, ◌==◌, Bool, true, false, cond, ◌||◌, Option, Some, None, IfSome, option_map, Ok, Err, List, [], ◌∷◌, ◌++◌, length, get_or, map, refl, sym, ap, ap₂, ◌∙◌, subst, arith, append_assoc, append-nil, length-append}
use Rattle.std.specs.List.{concat, list_any}
use Rattle.std.specs.Prelude.{is_none, codes}
use Rattle.std.specs.Result.{is_ok}
use Rattle.std.proofs.lemmas.List.Elements.{All-push}
use Rattle.std.proofs.lemmas.List.Folds.{concat-append}
use Rattle.std.proofs.lemmas.List.Quantifiers.{all_pairs_push}
use Rattle.std.specs.Cmp.Lexicographic.{bytes_decides}
use Rattle.vfs_base.specs.Name.{IsName}
use Rattle.vfs_base.specs.declared.deck.Deck.{Deck}
use Rattle.vfs_base.specs.declared.deck.RomText.{RomText}
use Rattle.vfs_model.proofs.DeckLineLemmas.{HasRange, line-range}
use Rattle.vfs_model.proofs.ScheduleExactness.{mapped}
use Rattle.vfs_model.specs.Deck.{DeckDraft, OpenRom, deck_from, deck_of, empty_deck, has_rom, new_rom, or_bad_line, with_deck_line, with_line_at, with_raw_line, with_rom, with_rom_line}
use Rattle.vfs_model.specs.DeckLaws.{IsAct, IsRomText, IsScript, ReadScriptIsInForm}
use Rattle.vfs_model.specs.DeckLine.{Asks, Blank, DeckLine, Opens, deck_line}
use Rattle.vfs_model.specs.Manifest.{Draft, items_from, manifest_tree, with_line, or_bad_line as or_bad_item}
use Rattle.vfs_model.specs.Namespace.{same_bytes}
use Rattle.vfs_model.specs.Script.{is_bad_line, line_text, onto_first, raw_lines}

-- bytes that are one line, whatever stands behind them
abbrev IsWholeLine : List ℕ → Type 0
IsWholeLine raw = (rest : List ℕ) → raw_lines (raw ++ rest) ≡ raw ∷ raw_lines rest

-- each line but the last is a whole one
abbrev AreRaw : List (List ℕ) → Type 0
AreRaw [] = Unit {0}
AreRaw (raw ∷ []) = Unit {0}
AreRaw (raw ∷ next ∷ raws) = IsWholeLine raw × AreRaw (next ∷ raws)

raw-before : (raw : List ℕ) (raws : List (List ℕ)) → IsWholeLine raw → AreRaw raws → AreRaw (raw ∷ raws)
raw-before raw [] h k = tt
raw-before raw (next ∷ raws) h k = (h, k)

onto-whole : (byte : ℕ) (raw : List ℕ) → (byte == 10) ≡ false → IsWholeLine raw → IsWholeLine (byte ∷ raw)
onto-whole byte raw e h rest = rw (e, h rest) refl

raw-onto : (byte : ℕ) (raws : List (List ℕ)) → (byte == 10) ≡ false → AreRaw raws → AreRaw (onto_first byte raws)
raw-onto byte [] e h = tt
raw-onto byte (raw ∷ []) e h = tt
raw-onto byte (raw ∷ next ∷ raws) e h = (onto-whole byte raw e h.0, h.1)

lines-raw : (bytes : List ℕ) → AreRaw (raw_lines bytes)
lines-raw [] = tt
lines-raw (byte ∷ bytes) = by_feed (byte == 10) refl (lines-raw bytes)
  where
    by_feed : (b : Bool) → (byte == 10) ≡ b → AreRaw (raw_lines bytes) → AreRaw (cond b ((byte ∷ []) ∷ raw_lines bytes) (onto_first byte (raw_lines bytes)))
    by_feed true e h = raw-before (byte ∷ []) (raw_lines bytes) (λ rest. rw e refl) h
    by_feed false e h = raw-onto byte (raw_lines bytes) e h

abbrev start : Draft
start = record { items = []; last_file = None }

-- An open rom: its name is new, and its lines so far are those of a manifest.
record IsOpen (deck : Deck) (rom : OpenRom) : Type 0 where
  name : IsName rom.name
  fresh : has_rom deck rom.name ≡ false
  raws : List (List ℕ)
  text : rom.text ≡ concat raws
  lines : (rest : List ℕ) → raw_lines (concat raws ++ rest) ≡ raws ++ raw_lines rest
  items : (rest : List (List ℕ)) → items_from 1 start (map line_text raws ++ rest) ≡ items_from (1 + length raws) rom.draft rest

map-append : (a b : List (List ℕ)) → map line_text (a ++ b) ≡ map line_text a ++ map line_text b
map-append [] b = refl
map-append (x ∷ a) b = ap (λ l. line_text x ∷ l) (map-append a b)

opened : (deck : Deck) (name : List ℕ) → IsName name → has_rom deck name ≡ false → IsOpen deck (new_rom name)
opened deck name h e = record { name = h; fresh = e; raws = []; text = refl; lines = λ rest. refl; items = λ rest. refl }

-- a rom that is whole has a manifest
whole-manifest : (deck : Deck) (rom : OpenRom) → IsOpen deck rom → is_ok (manifest_tree rom.text) ≡ true
whole-manifest deck rom h =
    let lines : raw_lines rom.text ≡ h.raws = ap raw_lines (h.text ∙ sym (append-nil (concat h.raws))) ∙ h.lines [] ∙ append-nil h.raws in
    let items : manifest_tree rom.text ≡ Ok rom.draft.items =
    ap (λ raws. items_from 1 start (map line_text raws)) lines ∙ ap (items_from 1 start) (sym (append-nil (map line_text h.raws))) ∙ h.items [] in
    ap is_ok items

-- a line more of a rom
grown : (deck : Deck) (rom : OpenRom) (raw : List ℕ) (draft : Draft) → IsOpen deck rom → IsWholeLine raw → with_line rom.draft (line_text raw) ≡ Some draft →
    IsOpen deck (record rom { text = rom.text ++ raw; draft = draft })
grown deck rom raw draft h whole e =
    let text : rom.text ++ raw ≡ concat (h.raws ++ raw ∷ []) =
    ap₂ (λ a b. a ++ b) h.text (sym (append-nil raw)) ∙ sym (concat-append h.raws (raw ∷ [])) in
    record {
      name = h.name;
      fresh = h.fresh;
      raws = h.raws ++ raw ∷ [];
      text = text;
      lines = λ rest.
          ap (λ bytes. raw_lines (bytes ++ rest)) (concat-append h.raws (raw ∷ []) ∙ ap (λ bytes. concat h.raws ++ bytes) (append-nil raw))
          ∙ ap raw_lines (append_assoc (concat h.raws) raw rest) ∙ h.lines (raw ++ rest) ∙ ap (λ raws. h.raws ++ raws) (whole rest)
          ∙ sym (append_assoc h.raws (raw ∷ []) (raw_lines rest));
      items = λ rest.
          ap (λ texts. items_from 1 start (texts ++ rest)) (map-append h.raws (raw ∷ []))
          ∙ ap (items_from 1 start) (append_assoc (map line_text h.raws) (line_text raw ∷ []) rest)
          ∙ h.items (line_text raw ∷ rest)
          ∙ ap (λ x. or_bad_item (1 + length h.raws) x (λ next. items_from (1 + length h.raws + 1) next rest)) e
          ∙ ap (λ n. items_from n draft rest) (omega (arith, length-append h.raws (raw ∷ [])));
    }

either-false : (x y : Bool) → (x || y) ≡ false → (x ≡ false) × (y ≡ false)
either-false true y h = absurd (cc)
either-false false y h = (refl, h)

other-name : (one other : List ℕ) → same_bytes one other ≡ false → one ≢ other
other-name one other e same = let yes : same_bytes one other ≡ true = (bytes_decides one other).1 same in absurd (cc)

fresh-name : (roms : List RomText) (name : List ℕ) → list_any (λ rom. same_bytes rom.name name) roms ≡ false →
    (k : ℕ) (d : RomText) → k < length roms → (get_or roms k d).name ≢ name
fresh-name [] name e k d h = absurd (omega arith)
fresh-name (rom ∷ roms) name e zero d h = other-name rom.name name (either-false (same_bytes rom.name name) (list_any (λ rom. same_bytes rom.name name) roms) e).0
fresh-name (rom ∷ roms) name e (suc k) d h =
    fresh-name roms name (either-false (same_bytes rom.name name) (list_any (λ rom. same_bytes rom.name name) roms) e).1 k d (omega arith)

-- a rom that is whole is one of the script's
closed : (deck : Deck) (rom : OpenRom) → IsScript deck → IsOpen deck rom → IsScript (with_rom deck rom)
closed deck rom s h = record {
  acts = s.acts;
  roms = All-push IsRomText deck.roms _ s.roms (record { name = h.name; manifest = whole-manifest deck rom h });
  apart = all_pairs_push (λ one other. one.name ≢ other.name) deck.roms _ s.apart (fresh-name deck.roms rom.name h.fresh);
}

-- what a draft means is a script, and its open rom is one
record IsDraft (draft : DeckDraft) : Type 0 where
  deck : IsScript draft.deck
  rom : IfSome draft.rom (IsOpen draft.deck)

-- a line outside a rom
outside : (deck : Deck) (x : Option DeckLine) (next : DeckDraft) → IsScript deck → ((line : DeckLine) → x ≡ Some line → HasRange line) →
    with_deck_line deck x ≡ Some next → IsDraft next
outside deck None next s h e = absurd (cc)
outside deck (Some Blank) next s h e =
    let made : DeckDraft = record { deck = deck; rom = None } in
    let same : made ≡ next = cc in
    subst IsDraft same (record { deck = s; rom = tt })
outside deck (Some (Asks asked)) next s h e =
    let made : DeckDraft = record { deck = record deck { acts = deck.acts ++ asked ∷ [] }; rom = None } in
    let same : made ≡ next = cc in
    subst IsDraft same (record { deck = record { acts = All-push IsAct deck.acts asked s.acts (h (Asks asked) refl); roms = s.roms; apart = s.apart }; rom = tt })
outside deck (Some (Opens name)) next s h e = by_name (has_rom deck name) refl e
  where
    by_name : (b : Bool) → has_rom deck name ≡ b → cond b None (Some (record { deck = deck; rom = Some (new_rom name) })) ≡ Some next → IsDraft next
    by_name true f e = absurd (cc)
    by_name false f e =
        let made : DeckDraft = record { deck = deck; rom = Some (new_rom name) } in
        let same : made ≡ next = cc in
        subst IsDraft same (record { deck = s; rom = opened deck name (h (Opens name) refl) f })

-- a line of a rom: the script stays one, and where more lines follow the rom too
inside : (deck : Deck) (rom : OpenRom) (raw : List ℕ) (next : DeckDraft) → IsScript deck → IsOpen deck rom → with_rom_line deck rom raw ≡ Some next →
    IsScript next.deck × (IsWholeLine raw → IsDraft next)
inside deck rom raw next s h e = by_end (same_bytes (line_text raw) (codes "end")) e
  where
    by_end : (b : Bool) → cond b (Some (record { deck = with_rom deck rom; rom = None })) (option_map (λ draft. record { deck = deck; rom = Some (record rom { text = rom.text ++ raw; draft = draft }) }) (with_line rom.draft (line_text raw))) ≡ Some next →
        IsScript next.deck × (IsWholeLine raw → IsDraft next)
    by_end true e =
        let made : DeckDraft = record { deck = with_rom deck rom; rom = None } in
        let same : made ≡ next = cc in
        let whole = closed deck rom s h in
        (subst (λ d. IsScript d.deck) same whole, λ w. subst IsDraft same (record { deck = whole; rom = tt }))
    by_end false e =
        let found = mapped (λ draft. record { deck = deck; rom = Some (record rom { text = rom.text ++ raw; draft = draft }) }) (with_line rom.draft (line_text raw)) next e in
        (subst (λ d. IsScript d.deck) found.2 s, λ w. subst IsDraft found.2 (record { deck = s; rom = grown deck rom raw found.0 h w found.1 }))

-- one line more
stepped : (draft next : DeckDraft) (raw : List ℕ) → IsDraft draft → with_raw_line draft raw ≡ Some next → IsScript next.deck × (IsWholeLine raw → IsDraft next)
stepped draft next raw d e = by_rom draft.rom d.rom e
  where
    by_rom : (x : Option OpenRom) → IfSome x (IsOpen draft.deck) → with_line_at draft.deck x raw ≡ Some next → IsScript next.deck × (IsWholeLine raw → IsDraft next)
    by_rom None h e = let found = outside draft.deck (deck_line (line_text raw)) next d.deck (line-range (line_text raw)) e in (found.deck, λ w. found)
    by_rom (Some rom) h e = inside draft.deck rom raw next d.deck h e

-- the lines from a draft on
from-draft : (number size : ℕ) (draft : DeckDraft) (raws : List (List ℕ)) (deck : Deck) → AreRaw raws → IsDraft draft →
    deck_from number size draft raws ≡ Ok deck → IsScript deck
from-draft number size draft [] deck w d e = by_rom (is_none draft.rom) e
  where
    by_rom : (b : Bool) → cond b (Ok draft.deck) (Err number) ≡ Ok deck → IsScript deck
    by_rom true e = let same : draft.deck ≡ deck = cc in subst IsScript same d.deck
    by_rom false e = absurd (cc)
from-draft number size draft (raw ∷ []) deck w d e = by_size (is_bad_line size raw) e
  where
    by_rom : (next : DeckDraft) (b : Bool) → IsScript next.deck → cond b (Ok next.deck) (Err (number + 1)) ≡ Ok deck → IsScript deck
    by_rom next true h e = let same : next.deck ≡ deck = cc in subst IsScript same h
    by_rom next false h e = absurd (cc)

    by_line : (x : Option DeckDraft) → with_raw_line draft raw ≡ x → or_bad_line number x (λ next. deck_from (number + 1) (size + length raw) next []) ≡ Ok deck → IsScript deck
    by_line None f e = absurd (cc)
    by_line (Some next) f e = by_rom next (is_none next.rom) (stepped draft next raw d f).0 e

    by_size : (b : Bool) → cond b (Err number) (or_bad_line number (with_raw_line draft raw) (λ next. deck_from (number + 1) (size + length raw) next [])) ≡ Ok deck → IsScript deck
    by_size true e = absurd (cc)
    by_size false e = by_line (with_raw_line draft raw) refl e
from-draft number size draft (raw ∷ more ∷ raws) deck w d e =
    by_size (is_bad_line size raw) e (λ next h. from-draft (number + 1) (size + length raw) next (more ∷ raws) deck w.1 h)
  where
    by_line : (x : Option DeckDraft) → with_raw_line draft raw ≡ x → or_bad_line number x (λ next. deck_from (number + 1) (size + length raw) next (more ∷ raws)) ≡ Ok deck →
        ((next : DeckDraft) → IsDraft next → deck_from (number + 1) (size + length raw) next (more ∷ raws) ≡ Ok deck → IsScript deck) → IsScript deck
    by_line None f e h = absurd (cc)
    by_line (Some next) f e h = h next ((stepped draft next raw d f).1 w.0) e

    by_size : (b : Bool) → cond b (Err number) (or_bad_line number (with_raw_line draft raw) (λ next. deck_from (number + 1) (size + length raw) next (more ∷ raws))) ≡ Ok deck →
        ((next : DeckDraft) → IsDraft next → deck_from (number + 1) (size + length raw) next (more ∷ raws) ≡ Ok deck → IsScript deck) → IsScript deck
    by_size true e h = absurd (cc)
    by_size false e h = by_line (with_raw_line draft raw) refl e h

empty-script : IsScript empty_deck
empty-script = record { acts = λ i d h. absurd (omega arith); roms = λ i d h. absurd (omega arith); apart = λ i j d h k. absurd (omega arith) }

pub script-form : ReadScriptIsInForm
unfolding deck_of
script-form bytes deck e = from-draft 1 0 _ (raw_lines bytes) deck (lines-raw bytes) (record { deck = empty-script; rom = tt }) e
