-- What keeps a table as it has to be: a new one, one more device, one less, and a device that goes or comes home.
use Rattle.std.proofs.Common.{◌≡◌, ◌≢◌, ℕ, zero, suc, ◌+◌, ◌<◌, ◌≤◌, Bool, true, false, cond, not, nat_eq, nat_lt, Option, Some, None, option_map, List, [], ◌∷◌, ◌++◌, length, map, get_or, set, refl, sym, ap, subst, ◌∙◌, arith}
use Rattle.std.proofs.lemmas.Bool.{ltb-false}
use Rattle.std.proofs.lemmas.List.{get_or_append_left, length-append, length-set, map-append, map-set, set-get_or}
use Rattle.std.proofs.lemmas.List.Quantifiers.{all_pairs_push}
use Rattle.std.specs.Cmp.Lexicographic.{pointwise, bytes_decides}
use Rattle.std.specs.List.{AllPairs, position_or_len}
use Rattle.vfs_outside.specs.Volume.{CharsState}
use Rattle.vfs_outside.specs.Chars.{CharsContents}
use Rattle.devfs.proofs.EntryLemmas.{entries-with_device}
use Rattle.devfs.specs.DeviceTable.{DeviceEntry, DeviceShown, DeviceTable, IsKept, home_entry, place_named, shown, with_device, with_device_at}
use Rattle.devfs.specs.Slots as slot
use Rattle.devfs.specs.Slots.{entries_of, entry_of}
use Rattle.devfs.specs.declared.slots.Slot.{Slot}

-- the names of devices
abbrev names_of : List DeviceEntry → List (List ℕ)
names_of devices = map (λ entry. entry.name) devices

-- where no device has the name, it is that of none
absent : (devices : List DeviceEntry) (name : List ℕ) → length devices ≤ position_or_len (λ entry. pointwise nat_eq entry.name name) devices →
    (place : ℕ) (d : List ℕ) → place < length (names_of devices) → get_or (names_of devices) place d ≢ name
absent [] name h place d l = absurd (omega arith)
absent (entry ∷ devices) name h place d l =
    by (pointwise nat_eq entry.name name) refl h place l (λ m k n. absent devices name m k d n)
  where
    first : ℕ
    first = position_or_len (λ entry. pointwise nat_eq entry.name name) devices

    by : (b : Bool) → pointwise nat_eq entry.name name ≡ b → length (entry ∷ devices) ≤ cond (not b) (1 + first) 0 →
        (place : ℕ) → place < length (names_of (entry ∷ devices)) →
        (length devices ≤ first → (k : ℕ) → k < length (names_of devices) → get_or (names_of devices) k d ≢ name) → get_or (names_of (entry ∷ devices)) place d ≢ name
    by true e h place l later = absurd (omega arith)
    by false e h zero l later = λ same. let t : pointwise nat_eq entry.name name ≡ true = (bytes_decides entry.name name).1 same in absurd (cc)
    by false e h (suc place) l later = later (omega arith) place (omega arith)

no_place : (n len : ℕ) → cond (nat_lt n len) (Some n) None ≡ None → len ≤ n
no_place n len e = by (nat_lt n len) refl e
  where
    by : (b : Bool) → nat_lt n len ≡ b → cond b (Some n) None ≡ None → len ≤ n
    by true t e = absurd (cc)
    by false t e = ltb-false n len t

-- no device, in memory for so many
pub kept_new : (room memory : ℕ) → room ≤ memory → IsKept (record { room = room; devices = [] }) memory
kept_new room memory l = record { within = omega arith; reserved = l; differ = λ i j d a b. absurd (omega arith) }

-- one more device, whose name is none of the others'
pub kept_add : (table : DeviceTable) (part : CharsState) (memory more : ℕ) → IsKept table memory → length table.devices < table.room →
    place_named table part.name ≡ None → memory ≤ more → IsKept (with_device table part) more
kept_add table part memory more kept room free l = record {
  within = simp length-append (omega arith);
  reserved = let r = kept.reserved in omega arith;
  differ = subst (AllPairs ◌≢◌) (sym (map-append (λ (entry : DeviceEntry). entry.name) table.devices (home_entry part ∷ [])))
      (all_pairs_push ◌≢◌ (names_of table.devices) part.name kept.differ
      (absent table.devices part.name (no_place _ _ free)));
}

-- the front of a list whose items differ in pairs
pairs_front : {X : Type 0} (xs ys : List X) → AllPairs ◌≢◌ (xs ++ ys) → AllPairs ◌≢◌ xs
pairs_front xs ys differ = λ i j d a b same.
    differ i j d a (simp length-append (omega arith)) (get_or_append_left xs ys d i (omega arith) ∙ same ∙ sym (get_or_append_left xs ys d j b))

-- without the last device
pub kept_pop : (room memory : ℕ) (devices : List DeviceEntry) (last : DeviceEntry) → IsKept (record { room = room; devices = devices ++ last ∷ [] }) memory →
    IsKept (record { room = room; devices = devices }) memory
kept_pop room memory devices last kept = record {
  within = let l = kept.within in omega (arith, length-append devices (last ∷ []));
  reserved = kept.reserved;
  differ = pairs_front (names_of devices) (last.name ∷ []) (subst (AllPairs ◌≢◌) (map-append (λ (entry : DeviceEntry). entry.name) devices (last ∷ [])) kept.differ);
}

-- a device at a place goes, or comes home
pub kept_set : (table : DeviceTable) (place memory : ℕ) (device : Option DeviceShown) → IsKept table memory → IsKept (with_device_at table place device) memory
kept_set table place memory device kept =
    let none : DeviceEntry = record { name = []; device = None } in
    let entry = get_or table.devices place none in
    let same : set (names_of table.devices) place entry.name ≡ names_of table.devices =
    sym (map-set (λ (e : DeviceEntry). e.name) table.devices place entry) ∙ ap names_of (set-get_or table.devices place none) in
    record {
      within = simp length-set kept.within;
      reserved = kept.reserved;
      differ = subst (AllPairs ◌≢◌) (sym (map-set (λ (e : DeviceEntry). e.name) table.devices place (record { name = entry.name; device = device }) ∙ same)) kept.differ;
    }

module _ {C : Type 0} (contents : C → Option CharsContents) (faults : C → ℕ) (room : ℕ) (slots : List (Slot C)) where
  -- the table that slots show
  abbrev pub table : DeviceTable
  table = record { room = room; devices = entries_of contents faults slots }

  -- the same of the slots: one more, one less, and a device that goes or comes home
  pub slots_push : (name : List ℕ) (device : C) (memory more : ℕ) → IsKept table memory → length (entries_of contents faults slots) < room →
      place_named table name ≡ None → memory ≤ more →
      IsKept (record { room = room; devices = entries_of contents faults (slots ++ record { name = name; device = Some device } ∷ []) }) more
  slots_push name device memory more kept l free m =
      let part : CharsState = record { name = name; contents = contents device; faults = faults device } in
      rw (map-append (entry_of contents faults) slots (record { name = name; device = Some device } ∷ []))
      (kept_add table part memory more kept l free m)

  pub slots_pop : (last : Slot C) (before : List (Slot C)) (memory more : ℕ) → IsKept (record { room = room; devices = entries_of contents faults before }) memory →
      before ≡ slots ++ last ∷ [] → memory ≡ more → IsKept table more
  slots_pop last before memory more kept is e =
      let P : ℕ → Type 0 = λ n. IsKept table n in
      let Q : List DeviceEntry → Type 0 = λ devices. IsKept (record { room = room; devices = devices }) memory in
      subst P e (kept_pop room memory (entries_of contents faults slots) (entry_of contents faults last)
      (subst Q (ap (entries_of contents faults) is ∙ map-append (entry_of contents faults) slots (last ∷ [])) kept))

  pub slots_set : (place : ℕ) (device : Option C) (memory more : ℕ) → IsKept table memory → memory ≡ more →
      IsKept (record { room = room; devices = entries_of contents faults (slot.with_device slots place device) }) more
  slots_set place device memory more kept e =
      let P : ℕ → Type 0 = λ n. IsKept table n in
      let Q : List DeviceEntry → Type 0 = λ devices. IsKept (record { room = room; devices = devices }) more in
      subst Q (sym (entries-with_device contents faults room slots place device))
      (kept_set table place more (option_map (shown contents faults) device) (subst P e kept))
