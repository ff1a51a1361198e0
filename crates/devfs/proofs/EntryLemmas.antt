-- How slots show as entries: one more of them, one with another device, and the place of a name.
use Rattle.std.proofs.Common.{◌≡◌, ℕ, zero, suc, Bool, nat_eq, Option, Some, None, List, [], ◌∷◌, map, option_map, option_and_then, slice_get, slice_set, get_or, refl, sym, ap, ◌∙◌}
use Rattle.std.proofs.lemmas.List.{length-map, map-set}
use Rattle.std.proofs.lemmas.Option.{slice_get-map}
use Rattle.std.specs.Cmp.Lexicographic.{pointwise}
use Rattle.std.specs.List.{position, position_or_len}
use Rattle.vfs_outside.specs.Chars.{CharsContents}
use Rattle.devfs.specs.DeviceTable.{DeviceEntry, device_at, place_named, shown, with_device_at}
use Rattle.devfs.specs.Slots.{entries_of, entry_of, with_device}
use Rattle.devfs.specs.declared.slots.Slot.{Slot}

-- the first place that passes a test is that of the images that pass it
position_or_len-map : {X Y : Type 0} (f : X → Y) (test : Y → Bool) (xs : List X) → position_or_len test (map f xs) ≡ position_or_len (λ x. test (f x)) xs
position_or_len-map f test [] = refl
position_or_len-map f test (x ∷ xs) = rw (position_or_len-map f test xs) refl

position-map : {X Y : Type 0} (f : X → Y) (test : Y → Bool) (xs : List X) → position test (map f xs) ≡ position (λ x. test (f x)) xs
position-map f test xs = rw (position_or_len-map f test xs, length-map xs f) refl

-- the element at a place, or the default past the end, and its image
get_or-mapped : {X Y : Type 0} (f : X → Y) (xs : List X) (place : ℕ) (d : X) → get_or (map f xs) place (f d) ≡ f (get_or xs place d)
get_or-mapped f [] place d = refl
get_or-mapped f (x ∷ xs) zero d = refl
get_or-mapped f (x ∷ xs) (suc place) d = get_or-mapped f xs place d

module _ {C : Type 0} (contents : C → Option CharsContents) (faults : C → ℕ) where
  -- the place of a name
  pub place_named-entries : (room : ℕ) (slots : List (Slot C)) (name : List ℕ) →
      place_named (record { room = room; devices = entries_of contents faults slots }) name ≡ position (λ slot. pointwise nat_eq slot.name name) slots
  place_named-entries room slots name = position-map (entry_of contents faults) (λ entry. pointwise nat_eq entry.name name) slots

  shown_in : (slot : Option (Slot C)) →
      option_and_then (λ entry. entry.device) (option_map (entry_of contents faults) slot) ≡ option_map (shown contents faults) (option_and_then (λ slot. slot.device) slot)
  shown_in None = refl
  shown_in (Some slot) = refl

  -- what the device at a place shows
  pub device_at-entries : (room : ℕ) (slots : List (Slot C)) (place : ℕ) →
      device_at (record { room = room; devices = entries_of contents faults slots }) place
      ≡ option_map (shown contents faults) (option_and_then (λ slot. slot.device) (slice_get slots place))
  device_at-entries room slots place =
      ap (λ (found : Option DeviceEntry). option_and_then (λ entry. entry.device) found) (slice_get-map (entry_of contents faults) slots place) ∙ shown_in (slice_get slots place)

  -- another device at a place
  pub entries-with_device : (room : ℕ) (slots : List (Slot C)) (place : ℕ) (device : Option C) →
      entries_of contents faults (with_device slots place device)
      ≡ (with_device_at (record { room = room; devices = entries_of contents faults slots }) place (option_map (shown contents faults) device)).devices
  entries-with_device room slots place device =
      let none : Slot C = record { name = []; device = None } in
      let name = (get_or slots place none).name in
      let same = ap (λ (entry : DeviceEntry). entry.name) (get_or-mapped (entry_of contents faults) slots place none) in
      map-set (entry_of contents faults) slots place (record { name = name; device = device })
      ∙ ap (λ name. slice_set (entries_of contents faults slots) place (record { name = name; device = option_map (shown contents faults) device })) (sym same)

  -- the names
  pub names-entries : (slots : List (Slot C)) → map (λ (entry : DeviceEntry). entry.name) (entries_of contents faults slots) ≡ map (λ (slot : Slot C). slot.name) slots
  names-entries [] = refl
  names-entries (slot ∷ slots) = ap (λ names. slot.name ∷ names) (names-entries slots)
