-- Descriptors and mappings that are added and taken away.
use Rattle.std.proofs.Common.{◌≡◌, ◌≢◌, ℕ, zero, suc, ◌+◌, ◌-◌, ◌<◌, Bool, true, false, not, ◌==◌, nat_lt, is_none, Option, Some, None, Ok, List, [], ◌∷◌, ◌++◌, length, slice_index_or, slice_set, if◌then◌else◌, ◌⊎◌, inl, inr, eqb, refl, sym, ap, subst, ◌∙◌, arith}
use Rattle.std.specs.List.{list_any, position_or_len, last_or}
use Rattle.std.proofs.lemmas.List.{get_or-set_same, get_or-set_other}
use Rattle.std.proofs.lemmas.Bool.{le-ltb, ltb-false}
use Rattle.std.proofs.lemmas.Bool.Decides.{eqb_tells, nat_tests}
use Rattle.vfs_base.specs.declared.errno.Errno.TheVariants as errno
use Rattle.vfs_base.specs.declared.limits.TheConstants.{FIRST_DESCRIPTOR}
use Rattle.vfs_model.specs.Chain.{◌>>=◌, ◌>>◌, refuse◌when◌, wanted}
use Rattle.vfs_model.specs.CommandText.{is_other_byte}
use Rattle.vfs_model.specs.Mappings.{NewMapping, add_mapping, has_all_mappings, least_free_mapping, mapping_at, remove_mapping, with_mapping}
use Rattle.vfs_model.specs.OpenFiles.{NewDescriptor, dup_file, file_number, has_all_descriptors, new_descriptor, with_descriptor}
use Rattle.vfs_model.specs.ShellLaws.{AddsMapping, AddedMappingGoesBack, DupSharesFile, EndsItsLine, LeadsAnew, SharesFile, WholeLinesEnd}
use Rattle.vfs_model.specs.declared.shell_state.OpenFiles.{OpenFiles}
use Rattle.vfs_model.specs.declared.shell_state.Window.{Window}
use Rattle.vfs_model.proofs.FreePlaces.{free-lt, free-none, not-full, ok-same}

-- the last byte of a line
last-line : (last : Option ℕ) (text : List ℕ) → last_or last (text ++ 10 ∷ []) ≡ Some 10
last-line last [] = refl
last-line last (byte ∷ text) = last-line (Some byte) text

last-there : (byte : ℕ) (text : List ℕ) → last_or (Some byte) text ≢ None
last-there byte [] e = absurd (cc)
last-there byte (next ∷ text) e = last-there next text e

ends-if : (byte : ℕ) (text : List ℕ) (last : Option ℕ) → last_or None (byte ∷ text) ≡ last →
    EndsItsLine (if is_other_byte last then (byte ∷ text) ++ 10 ∷ [] else byte ∷ text)
ends-if byte text None e = absurd (last-there byte text e)
ends-if byte text (Some last) e = ends-by (eqb_tells last 10)
  where
    ends-by : ((eqb last 10 ≡ true) × (last ≡ 10)) ⊎ ((eqb last 10 ≡ false) × (last ≢ 10)) →
        EndsItsLine (if is_other_byte (Some last) then (byte ∷ text) ++ 10 ∷ [] else byte ∷ text)
    ends-by (inl same) = subst (λ t. EndsItsLine (if not t then (byte ∷ text) ++ 10 ∷ [] else byte ∷ text)) (sym same.0) (e ∙ ap Some same.1)
    ends-by (inr other) =
        subst (λ t. EndsItsLine (if not t then (byte ∷ text) ++ 10 ∷ [] else byte ∷ text)) (sym other.0) (last-line (Some byte) text)

pub lines-end : WholeLinesEnd
lines-end [] = tt
lines-end (byte ∷ text) = ends-if byte text (last_or None (byte ∷ text)) refl

-- the number that a descriptor leads to
number-at : (f : OpenFiles) (place : ℕ) → file_number f (place + FIRST_DESCRIPTOR) ≡ slice_index_or f.descriptors place None
number-at f place =
    let low : nat_lt (place + 3) 3 ≡ false = le-ltb (place + 3) 3 (omega arith) in
    let back : place + 3 - 3 ≡ place = omega arith in
    ap (λ t. if t then None else slice_index_or f.descriptors (place + 3 - 3) None) low
    ∙ ap (λ k. slice_index_or f.descriptors k None) back

-- a descriptor below the first, or the place of a descriptor
place-of : (fd : ℕ) → (nat_lt fd 3 ≡ true) ⊎ (fd ≡ fd - 3 + 3)
place-of fd = place-by (nat_lt fd 3) refl
  where
    place-by : (low : Bool) → nat_lt fd 3 ≡ low → (nat_lt fd 3 ≡ true) ⊎ (fd ≡ fd - 3 + 3)
    place-by true e = inl e
    place-by false e = let high = ltb-false fd 3 e in inr (omega arith)

-- the descriptor at a free place leads to a number now
with-descriptor : (f : OpenFiles) (place : ℕ) (number : ℕ) → place < length f.descriptors → slice_index_or f.descriptors place None ≡ None →
    LeadsAnew f (with_descriptor (place + FIRST_DESCRIPTOR) (Some number) f) (place + FIRST_DESCRIPTOR) (Some number)
with-descriptor f place number l free =
    let back : place + 3 - 3 ≡ place = omega arith in
    let after = with_descriptor (place + FIRST_DESCRIPTOR) (Some number) f in
    let there : slice_index_or after.descriptors place None ≡ Some number =
    ap (λ k. slice_index_or (slice_set f.descriptors k (Some number)) place None) back ∙ get_or-set_same f.descriptors place (Some number) None l in
    record {
      free = number-at f place ∙ free;
      leads = number-at after place ∙ there;
      others = λ other ne. others-by other ne (place-of other);
    }
  where
    others-by : (other : ℕ) → other ≢ place + FIRST_DESCRIPTOR → (nat_lt other 3 ≡ true) ⊎ (other ≡ other - 3 + 3) →
        file_number (with_descriptor (place + FIRST_DESCRIPTOR) (Some number) f) other ≡ file_number f other
    others-by other ne (inl low) =
        ap (λ t. if t then None else slice_index_or (slice_set f.descriptors (place + 3 - 3) (Some number)) (other - 3) None) low
        ∙ sym (ap (λ t. if t then None else slice_index_or f.descriptors (other - 3) None) low)
    others-by other ne (inr high) =
        let apart : other - 3 ≢ place + 3 - 3 = λ e. ne (omega arith) in
        ap (λ d. if nat_lt other 3 then None else d)
        (get_or-set_other f.descriptors (place + 3 - 3) (other - 3) (Some number) None apart)

dup-of : (f : OpenFiles) (fd : ℕ) (new : NewDescriptor) (found : Option ℕ) (full : Bool) → file_number f fd ≡ found → has_all_descriptors f ≡ full →
    (wanted errno.EBADF found >>= λ number. (refuse errno.EMFILE when full) >> Ok (new_descriptor f number)) ≡ Ok new →
    SharesFile f fd new
dup-of f fd new None full e h r = absurd (cc)
dup-of f fd new (Some number) true e h r = absurd (cc)
dup-of f fd new (Some number) false e h r =
    let free = not-full (list_any is_none f.descriptors) h in
    let place = position_or_len is_none f.descriptors in
    let same : new_descriptor f number ≡ new = ok-same (new_descriptor f number) new (Ok (new_descriptor f number)) refl r in
    let leads = with-descriptor f place number (free-lt f.descriptors free) (free-none f.descriptors) in
    subst (SharesFile f fd) same (record {
      leads = record { free = leads.free; leads = leads.leads ∙ sym e; others = leads.others };
      files = refl;
    })

pub dup-shares : DupSharesFile
unfolding dup_file
dup-shares f fd new r = dup-of f fd new (file_number f fd) (has_all_descriptors f) refl refl r

mapping-at-place : (mappings : List (Option Window)) (place : ℕ) → mapping_at mappings (place + 1) ≡ slice_index_or mappings place None
mapping-at-place mappings place =
    let later : (place + 1 == 0) ≡ false = grind (arith, nat_tests) in
    let back : place + 1 - 1 ≡ place = omega arith in
    ap (λ t. if t then None else slice_index_or mappings (place + 1 - 1) None) later
    ∙ ap (λ k. slice_index_or mappings k None) back

other-mapping : (mappings : List (Option Window)) (place : ℕ) (window : Option Window) (other : ℕ) → other ≢ place + 1 →
    mapping_at (with_mapping mappings (place + 1) window) other ≡ mapping_at mappings other
other-mapping mappings place window zero ne = refl
other-mapping mappings place window (suc k) ne =
    let apart : suc k - 1 ≢ place + 1 - 1 = λ e. ne (omega arith) in
    ap (λ d. if suc k == 0 then None else d) (get_or-set_other mappings (place + 1 - 1) (suc k - 1) window None apart)

set-back : {X : Type 0} (xs : List (Option X)) (place : ℕ) (x : Option X) → slice_index_or xs place None ≡ None →
    slice_set (slice_set xs place x) place None ≡ xs
set-back [] zero x e = refl
set-back [] (suc place) x e = refl
set-back (y ∷ xs) zero x e = ap (λ z. z ∷ xs) (sym e)
set-back (y ∷ xs) (suc place) x e = ap (λ zs. y ∷ zs) (set-back xs place x e)

-- the mapping at a free place
with-mapping : (mappings : List (Option Window)) (place : ℕ) (window : Window) → place < length mappings → slice_index_or mappings place None ≡ None →
    AddsMapping mappings window (record { number = place + 1; mappings = with_mapping mappings (place + 1) (Some window) })
unfolding remove_mapping
with-mapping mappings place window l free =
    let back : place + 1 - 1 ≡ place = omega arith in
    let after = with_mapping mappings (place + 1) (Some window) in
    let there : mapping_at after (place + 1) ≡ Some window =
    mapping-at-place after place
    ∙ ap (λ k. slice_index_or (slice_set mappings k (Some window)) place None) back
    ∙ get_or-set_same mappings place (Some window) None l in
    let before : slice_set (slice_set mappings (place + 1 - 1) (Some window)) (place + 1 - 1) None ≡ mappings =
    set-back mappings (place + 1 - 1) (Some window) (ap (λ k. slice_index_or mappings k None) back ∙ free) in
    record {
      free = mapping-at-place mappings place ∙ free;
      there = there;
      others = λ other ne. other-mapping mappings place (Some window) other ne;
      back =
          ap (λ found. wanted errno.EINVAL found >>= λ w. Ok (record { window = w; mappings = with_mapping after (place + 1) None })) there
          ∙ ap (λ ms. Ok (record { window = window; mappings = ms })) before;
    }

add-of : (mappings : List (Option Window)) (window : Window) (new : NewMapping) (full : Bool) → has_all_mappings mappings ≡ full →
    ((refuse errno.EMFILE when full)
    >> Ok (record { number = least_free_mapping mappings; mappings = with_mapping mappings (least_free_mapping mappings) (Some window) }))
    ≡ Ok new →
    AddsMapping mappings window new
add-of mappings window new true h r = absurd (cc)
add-of mappings window new false h r =
    let free = not-full (list_any is_none mappings) h in
    let found : NewMapping =
    record { number = least_free_mapping mappings; mappings = with_mapping mappings (least_free_mapping mappings) (Some window) } in
    subst (AddsMapping mappings window) (ok-same found new (Ok found) refl r)
    (with-mapping mappings (position_or_len is_none mappings) window (free-lt mappings free) (free-none mappings))

pub adds-mapping : AddedMappingGoesBack
unfolding add_mapping
adds-mapping mappings window new r = add-of mappings window new (has_all_mappings mappings) refl r
