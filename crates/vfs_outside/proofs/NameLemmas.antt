-- What keeps the names of the parts that are home different.
use Rattle.std.proofs.Common.{◌≡◌, ℕ, ◌<◌, ◌≤◌, Bool, true, false, ◌||◌, List, [], ◌∷◌, ◌++◌, length, sym, ap, ◌∙◌, refl, inl, inr, arith}
use Rattle.std.specs.Prelude.{Option, Some, None, ◌⊎◌, option_map, slice_index_or, slice_set}
use Rattle.std.specs.Cmp.Lexicographic.{bytes_decides}
use Rattle.std.specs.List.{list_any}
use Rattle.std.proofs.lemmas.Bool.{cases_lt, cases_eq}
use Rattle.std.proofs.lemmas.List.{get_or_append_left, get_or_push, get_or_past, length_push, get_or-set_same, get_or-set_other, set_past}
use Rattle.std.proofs.lemmas.List.Folds.{list_any_at}
use Rattle.vfs_outside.specs.Devices.{DevicesState, NamesDiffer, name_at, is_named, is_taken, is_volume_named, is_chars_named}
use Rattle.vfs_outside.specs.Volume.{CharsState, VolumeState}

module _ {P : Type 0} (name_of : P → List ℕ) where
  named-part : (name : List ℕ) (part : Option P) → option_map name_of part ≡ Some name → is_named name_of name part ≡ true
  named-part name None e = absurd (cc)
  named-part name (Some part) e = (bytes_decides (name_of part) name).1 (cc)

  -- a name that no part has is at no place
  pub unnamed : (name : List ℕ) (parts : List (Option P)) (place : ℕ) →
      list_any (is_named name_of name) parts ≡ false → name_at name_of parts place ≡ Some name → ⊥
  unnamed name parts place none at = elim (cases_lt place (length parts)) [
    | inl below ↦ let found : list_any (is_named name_of name) parts ≡ true
        = list_any_at (is_named name_of name) parts place None below (named-part name (slice_index_or parts place None) at) in
        cc
    | inr past ↦ let gone : name_at name_of parts place ≡ None = ap (option_map name_of) (get_or_past parts place None past) in
        cc
  ]

  -- the new parts have the names of the old ones in their places, and at most this one more, at this place
  pub record AddsName (old new : List (Option P)) (place : ℕ) (name : List ℕ) : Type 0 where
    pub names : (at : ℕ) (n : List ℕ) → name_at name_of new at ≡ Some n → (name_at name_of old at ≡ Some n) ⊎ ((at ≡ place) × (n ≡ name))

  behind-push : (parts : List (Option P)) (part : P) (at : ℕ) (n : List ℕ) → length parts ≤ at →
      name_at name_of (parts ++ Some part ∷ []) at ≡ Some n → (at ≡ length parts) × (n ≡ name_of part)
  behind-push parts part at n past e = elim (cases_eq at (length parts)) [
    | inl same ↦ let here : name_at name_of (parts ++ Some part ∷ []) at ≡ Some (name_of part)
        = ap (option_map name_of) (get_or_push parts (Some part) None at (sym same)) in
        (same, cc)
    | inr other ↦ let gone : name_at name_of (parts ++ Some part ∷ []) at ≡ None
        = ap (option_map name_of) (get_or_past (parts ++ Some part ∷ []) at None (omega (arith, length_push parts (Some part)))) in
        absurd (cc)
  ]

  pub adds-push : (parts : List (Option P)) (part : P) → AddsName parts (parts ++ Some part ∷ []) (length parts) (name_of part)
  adds-push parts part = record {
    names = λ at n e. elim (cases_lt at (length parts)) [
      | inl below ↦ inl (sym (ap (option_map name_of) (get_or_append_left parts (Some part ∷ []) None at below)) ∙ e)
      | inr past ↦ inr (behind-push parts part at n past e)
    ];
  }

  at-set : (parts : List (Option P)) (place : ℕ) (part : P) (n : List ℕ) → place < length parts →
      name_at name_of (slice_set parts place (Some part)) place ≡ Some n → n ≡ name_of part
  at-set parts place part n below e =
      let here : name_at name_of (slice_set parts place (Some part)) place ≡ Some (name_of part)
      = ap (option_map name_of) (get_or-set_same parts place (Some part) None below) in
      cc

  pub adds-set : (parts : List (Option P)) (place : ℕ) (part : P) → place < length parts →
      AddsName parts (slice_set parts place (Some part)) place (name_of part)
  adds-set parts place part below = record {
    names = λ at n e. elim (cases_eq at place) [
      | inl same ↦ inr (same, at-set parts place part n below (ap (name_at name_of (slice_set parts place (Some part))) (sym same) ∙ e))
      | inr other ↦ inl (sym (ap (option_map name_of) (get_or-set_other parts place at (Some part) None other)) ∙ e)
    ];
  }

  -- what is left where a part is taken out has the names that it had
  pub name_at-set_none : (parts : List (Option P)) (place at : ℕ) (n : List ℕ) →
      name_at name_of (slice_set parts place None) at ≡ Some n → name_at name_of parts at ≡ Some n
  name_at-set_none parts place at n e = elim (cases_eq at place) [
    | inl same ↦ elim (cases_lt place (length parts)) [
      | inl below ↦ let gone : name_at name_of (slice_set parts place None) place ≡ None
          = ap (option_map name_of) (get_or-set_same parts place None None below) in
          let there : name_at name_of (slice_set parts place None) place ≡ Some n = ap (name_at name_of (slice_set parts place None)) (sym same) ∙ e in
          absurd (cc)
      | inr past ↦ sym (ap (λ left. name_at name_of left at) (set_past parts place None past)) ∙ e
    ]
    | inr other ↦ sym (ap (option_map name_of) (get_or-set_other parts place at None None other)) ∙ e
  ]

  -- the parts that are home have different names
  abbrev pub Differ : List (Option P) → Type 0
  Differ parts = (place other : ℕ) (n : List ℕ) → name_at name_of parts place ≡ Some n → name_at name_of parts other ≡ Some n → place ≡ other

  pub Differ-adds : (old new : List (Option P)) (place : ℕ) (name : List ℕ) → AddsName old new place name →
      list_any (is_named name_of name) old ≡ false → Differ old → Differ new
  Differ-adds old new place name adds none differ = λ at other n a b. elim (adds.names at n a) [
    | inl old-at ↦ elim (adds.names other n b) [
      | inl old-other ↦ differ at other n old-at old-other
      | inr new-other ↦ absurd (unnamed name old at none (old-at ∙ ap Some new-other.1))
    ]
    | inr new-at ↦ elim (adds.names other n b) [
      | inl old-other ↦ absurd (unnamed name old other none (old-other ∙ ap Some new-at.1))
      | inr new-other ↦ new-at.0 ∙ sym new-other.0
    ]
  ]

-- neither a volume nor a character device has a name that is not taken
or-false : (a b : Bool) → (a || b) ≡ false → (a ≡ false) × (b ≡ false)
or-false true b e = absurd (cc)
or-false false b e = (refl, e)

untaken : (devices : DevicesState) (name : List ℕ) → is_taken devices name ≡ false →
    (list_any (is_volume_named name) devices.volumes ≡ false) × (list_any (is_chars_named name) devices.chars ≡ false)
untaken devices name e = or-false (list_any (is_volume_named name) devices.volumes) (list_any (is_chars_named name) devices.chars) e

-- volumes that add a name that was free
NamesDiffer-volumes : (devices : DevicesState) (volumes : List (Option VolumeState)) (place : ℕ) (name : List ℕ) →
    AddsName (λ (volume : VolumeState). volume.name) devices.volumes volumes place name → is_taken devices name ≡ false → NamesDiffer devices →
    NamesDiffer (record { volumes = volumes; chars = devices.chars })
NamesDiffer-volumes devices volumes place name adds free differ = record {
  volumes = Differ-adds (λ (volume : VolumeState). volume.name) devices.volumes volumes place name adds (untaken devices name free).0 differ.volumes;
  chars = differ.chars;
  apart = λ at other n a b. elim (adds.names at n a) [
    | inl old ↦ differ.apart at other n old b
    | inr new ↦ unnamed (λ (device : CharsState). device.name) name devices.chars other (untaken devices name free).1 (b ∙ ap Some new.1)
  ];
}

-- character devices that add a name that was free
NamesDiffer-chars : (devices : DevicesState) (chars : List (Option CharsState)) (place : ℕ) (name : List ℕ) →
    AddsName (λ (device : CharsState). device.name) devices.chars chars place name → is_taken devices name ≡ false → NamesDiffer devices →
    NamesDiffer (record { volumes = devices.volumes; chars = chars })
NamesDiffer-chars devices chars place name adds free differ = record {
  volumes = differ.volumes;
  chars = Differ-adds (λ (device : CharsState). device.name) devices.chars chars place name adds (untaken devices name free).1 differ.chars;
  apart = λ at other n a b. elim (adds.names other n b) [
    | inl old ↦ differ.apart at other n a old
    | inr new ↦ unnamed (λ (volume : VolumeState). volume.name) name devices.volumes at (untaken devices name free).0 (a ∙ ap Some new.1)
  ];
}

-- No two have one name: of none; where a volume or a character device comes behind the others or to a free place; where one goes.
pub none_differ : NamesDiffer (record { volumes = []; chars = [] })
none_differ = record {
  volumes = λ place other n a b. absurd (cc);
  chars = λ place other n a b. absurd (cc);
  apart = λ place other n a b. cc;
}

pub differ_push_volume : (devices : DevicesState) (volume : VolumeState) → is_taken devices volume.name ≡ false → NamesDiffer devices →
    NamesDiffer (record { volumes = devices.volumes ++ Some volume ∷ []; chars = devices.chars })
differ_push_volume devices volume free differ =
    NamesDiffer-volumes devices (devices.volumes ++ Some volume ∷ []) (length devices.volumes) volume.name
    (adds-push (λ (v : VolumeState). v.name) devices.volumes volume) free differ

pub differ_push_chars : (devices : DevicesState) (device : CharsState) → is_taken devices device.name ≡ false → NamesDiffer devices →
    NamesDiffer (record { volumes = devices.volumes; chars = devices.chars ++ Some device ∷ [] })
differ_push_chars devices device free differ =
    NamesDiffer-chars devices (devices.chars ++ Some device ∷ []) (length devices.chars) device.name
    (adds-push (λ (c : CharsState). c.name) devices.chars device) free differ

pub differ_put_volume : (devices : DevicesState) (volume : VolumeState) (place : ℕ) → place < length devices.volumes →
    is_taken devices volume.name ≡ false → NamesDiffer devices →
    NamesDiffer (record { volumes = slice_set devices.volumes place (Some volume); chars = devices.chars })
differ_put_volume devices volume place below free differ =
    NamesDiffer-volumes devices (slice_set devices.volumes place (Some volume)) place volume.name
    (adds-set (λ (v : VolumeState). v.name) devices.volumes place volume below) free differ

pub differ_put_chars : (devices : DevicesState) (device : CharsState) (place : ℕ) → place < length devices.chars →
    is_taken devices device.name ≡ false → NamesDiffer devices →
    NamesDiffer (record { volumes = devices.volumes; chars = slice_set devices.chars place (Some device) })
differ_put_chars devices device place below free differ =
    NamesDiffer-chars devices (slice_set devices.chars place (Some device)) place device.name
    (adds-set (λ (c : CharsState). c.name) devices.chars place device below) free differ

pub differ_take_volume : (devices : DevicesState) (place : ℕ) → NamesDiffer devices →
    NamesDiffer (record { volumes = slice_set devices.volumes place None; chars = devices.chars })
differ_take_volume devices place differ = record {
  volumes = λ at other n a b. differ.volumes at other n
      (name_at-set_none (λ (v : VolumeState). v.name) devices.volumes place at n a) (name_at-set_none (λ (v : VolumeState). v.name) devices.volumes place other n b);
  chars = differ.chars;
  apart = λ at other n a b. differ.apart at other n (name_at-set_none (λ (v : VolumeState). v.name) devices.volumes place at n a) b;
}

pub differ_take_chars : (devices : DevicesState) (place : ℕ) → NamesDiffer devices →
    NamesDiffer (record { volumes = devices.volumes; chars = slice_set devices.chars place None })
differ_take_chars devices place differ = record {
  volumes = differ.volumes;
  chars = λ at other n a b. differ.chars at other n
      (name_at-set_none (λ (c : CharsState). c.name) devices.chars place at n a) (name_at-set_none (λ (c : CharsState). c.name) devices.chars place other n b);
  apart = λ at other n a b. differ.apart at other n a (name_at-set_none (λ (c : CharsState). c.name) devices.chars place other n b);
}
