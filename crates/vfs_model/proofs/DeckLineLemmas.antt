-- What a line of a script means has its numbers in their ranges.
use Rattle.std.proofs.Common.{◌≡◌, ℕ, ◌+◌, ◌-◌, ◌≤◌, ◌==◌, All, Bool, true, false, not, cond, ◌&&◌, nat_le, Option, Some, None, option_map, List, [], ◌∷◌, refl, sym, ap, subst, arith}
use Rattle.std.specs.List.{list_any, slice_split}
use Rattle.std.specs.Prelude.{codes, filter, take, drop}
use Rattle.std.proofs.lemmas.Bool.Decides.{nat_tests}
use Rattle.std.proofs.lemmas.List.Elements.{All-cons}
use Rattle.vfs_base.specs.Name.{IsName, is_name}
use Rattle.vfs_base.specs.declared.deck.Act.{Act}
use Rattle.vfs_base.specs.declared.deck.Act.TheVariants as act
use Rattle.vfs_base.specs.declared.entry.Who.{Who}
use Rattle.vfs_base.specs.declared.entry.Who.TheVariants as who
use Rattle.vfs_base.specs.declared.limits.TheConstants.{SESSIONS}
use Rattle.vfs_model.proofs.ScheduleExactness.{mapped, tested, who-printed}
use Rattle.vfs_model.specs.DeckLaws.{IsAct, IsEvent}
use Rattle.vfs_model.specs.DeckLine.{Asks, Blank, DeckLine, Opens, asked_of, deck_line, event_before, event_line, event_of, events_of, has_bytes, is_blank_line, post_of, rom_of, session_digit, unless_end}
use Rattle.vfs_model.specs.Manifest.{is_space}
use Rattle.vfs_model.specs.Namespace.{same_bytes}
use Rattle.vfs_model.specs.Schedule.{is_end, who_of}
use Rattle.vfs_model.specs.Script.{last_byte}
use Rattle.vfs_model.specs.TranscriptLaws.{IsWho}

digit-range : (byte k : ℕ) → session_digit byte ≡ Some k → (1 ≤ k) × (k ≤ SESSIONS)
digit-range byte k e =
    let found = tested (nat_le 49 byte && nat_le byte (48 + SESSIONS)) (byte - 48) k e in
    let low : 49 ≤ byte = grind (arith, nat_tests) in
    let high : byte ≤ 48 + SESSIONS = grind (arith, nat_tests) in
    (omega (arith, found.1, low), omega (arith, found.1, high))

post-act : (go : Bool) (bytes : List ℕ) (a : Act) → post_of go bytes ≡ Some a → IsAct a
post-act go [] a e = absurd (cc)
post-act go (byte ∷ []) a e =
    let found = mapped (λ k. act.Post k [] go) (session_digit byte) a e in
    subst IsAct found.2 (digit-range byte found.0 found.1)
post-act go (byte ∷ space ∷ text) a e = by_space (space == 32) e
  where
    by_space : (b : Bool) → cond b (option_map (λ k. act.Post k text go) (session_digit byte)) None ≡ Some a → IsAct a
    by_space true e = let found = mapped (λ k. act.Post k text go) (session_digit byte) a e in subst IsAct found.2 (digit-range byte found.0 found.1)
    by_space false e = absurd (cc)

kept : (x : Option Who) (w : Who) → unless_end x ≡ Some w → (x ≡ Some w) × (is_end w ≡ false)
kept None w e = absurd (cc)
kept (Some (who.Session k)) w e = (e, let same : who.Session k ≡ w = cc in sym (ap is_end same))
kept (Some (who.Flush row)) w e = (e, let same : who.Flush row ≡ w = cc in sym (ap is_end same))
kept (Some (who.Reclaim row)) w e = (e, let same : who.Reclaim row ≡ w = cc in sym (ap is_end same))
kept (Some who.End) w e = absurd (cc)

event-of : (w : Who) → IsWho w → is_end w ≡ false → IsEvent w
event-of (who.Session k) h e = h
event-of (who.Flush row) h e = h
event-of (who.Reclaim row) h e = h
event-of who.End h e = absurd (cc)

event-is : (text : List ℕ) (w : Who) → event_of text ≡ Some w → IsEvent w
event-is text w e =
    let found = kept (who_of text) w e in
    event-of w (who-printed text w found.0).1 found.1

events-are : (texts : List (List ℕ)) (askers : List Who) → events_of texts ≡ Some askers → All IsEvent askers
events-are [] askers e = let same : [] ≡ askers = cc in subst (All IsEvent) same (λ i d h. absurd (omega arith))
events-are (text ∷ texts) askers e = joined (event_of text) (events_of texts) refl e (events-are texts)
  where
    joined : (x : Option Who) (y : Option (List Who)) → event_of text ≡ x → event_before x y ≡ Some askers →
        ((later : List Who) → y ≡ Some later → All IsEvent later) → All IsEvent askers
    joined None y f e h = absurd (cc)
    joined (Some asker) None f e h = absurd (cc)
    joined (Some asker) (Some later) f e h = let same : (asker ∷ later) ≡ askers = cc in
        subst (All IsEvent) same (All-cons IsEvent asker later (event-is text asker f) (h later refl))

event-act : (bytes : List ℕ) (a : Act) → event_line bytes ≡ Some a → IsAct a
event-act bytes a e = by_form (same_bytes (take 1 bytes) (codes " ") && not (is_space (last_byte bytes))) e
  where
    by_form : (b : Bool) → cond b (option_map act.Events (events_of (filter has_bytes (slice_split is_space bytes)))) None ≡ Some a → IsAct a
    by_form true e =
        let found = mapped act.Events (events_of (filter has_bytes (slice_split is_space bytes))) a e in
        subst IsAct found.2 (events-are (filter has_bytes (slice_split is_space bytes)) found.0 found.1)
    by_form false e = absurd (cc)

-- what a line asks for, and the name that it opens a rom by
abbrev pub HasRange : DeckLine → Type 0
HasRange Blank = Unit {0}
HasRange (Asks a) = IsAct a
HasRange (Opens name) = IsName name

asks-range : (x : Option Act) (line : DeckLine) → ((a : Act) → x ≡ Some a → IsAct a) → option_map (λ a. Asks a) x ≡ Some line → HasRange line
asks-range None line h e = absurd (cc)
asks-range (Some a) line h e = let same : Asks a ≡ line = cc in subst HasRange same (h a refl)

rom-range : (name : List ℕ) (line : DeckLine) → rom_of name ≡ Some line → HasRange line
rom-range name line e =
    let found = tested (is_name name && not (list_any is_space name)) (Opens name) line e in
    subst HasRange found.1 (first-true (is_name name) (not (list_any is_space name)) found.0)
  where
    first-true : (x y : Bool) → (x && y) ≡ true → x ≡ true
    first-true true y h = refl
    first-true false y h = absurd (cc)

asked-range : (byte : ℕ) (bytes : List ℕ) (line : DeckLine) → asked_of byte bytes ≡ Some line → HasRange line
asked-range byte bytes line e = by_post (byte == 64) e
  where
    by_name : (b : Bool) → cond b (rom_of (drop 3 bytes)) None ≡ Some line → HasRange line
    by_name true e = rom-range (drop 3 bytes) line e
    by_name false e = absurd (cc)

    by_rom : (b : Bool) → cond b (cond (same_bytes (take 3 bytes) (codes "om ")) (rom_of (drop 3 bytes)) None) (option_map (λ a. Asks a) (post_of true (byte ∷ bytes))) ≡ Some line → HasRange line
    by_rom true e = by_name (same_bytes (take 3 bytes) (codes "om ")) e
    by_rom false e = asks-range (post_of true (byte ∷ bytes)) line (post-act true (byte ∷ bytes)) e

    by_event : (b : Bool) → cond b (option_map (λ a. Asks a) (event_line bytes)) (cond (byte == 114) (cond (same_bytes (take 3 bytes) (codes "om ")) (rom_of (drop 3 bytes)) None) (option_map (λ a. Asks a) (post_of true (byte ∷ bytes)))) ≡ Some line → HasRange line
    by_event true e = asks-range (event_line bytes) line (event-act bytes) e
    by_event false e = by_rom (byte == 114) e

    by_post : (b : Bool) → cond b (option_map (λ a. Asks a) (post_of false bytes)) (cond (byte == 33) (option_map (λ a. Asks a) (event_line bytes)) (cond (byte == 114) (cond (same_bytes (take 3 bytes) (codes "om ")) (rom_of (drop 3 bytes)) None) (option_map (λ a. Asks a) (post_of true (byte ∷ bytes))))) ≡ Some line → HasRange line
    by_post true e = asks-range (post_of false bytes) line (post-act false bytes) e
    by_post false e = by_event (byte == 33) e

pub line-range : (text : List ℕ) (line : DeckLine) → deck_line text ≡ Some line → HasRange line
line-range [] line e = let same : Blank ≡ line = cc in subst HasRange same tt
line-range (byte ∷ bytes) line e = by_blank (is_blank_line (byte ∷ bytes)) e
  where
    by_blank : (b : Bool) → cond b (Some Blank) (asked_of byte bytes) ≡ Some line → HasRange line
    by_blank true e = let same : Blank ≡ line = cc in subst HasRange same tt
    by_blank false e = asked-range byte bytes line e
