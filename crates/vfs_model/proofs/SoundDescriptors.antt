-- The open files of a shell stay sound.
use Rattle.std.proofs.Common.{◌≡◌, ◌≢◌, ℕ, zero, suc, ◌+◌, ◌-◌, ◌<◌, ◌≤◌, Bool, true, false, ◌==◌, nat_lt, is_none, is_some, Option, Some, None, Ok, List, length, slice_index_or, slice_set, if◌then◌else◌, ◌⊎◌, inl, inr, eqb, refl, sym, ap, subst, ◌∙◌, arith, replicate}
use Rattle.std.specs.List.{list_any, position_or_len}
use Rattle.std.proofs.lemmas.Bool.{eq-eqb, eqb-true, le-ltb, lt-ltb}
use Rattle.std.proofs.lemmas.Bool.Decides.{eqb_tells}
use Rattle.std.proofs.lemmas.List.{get_or-set_same, get_or-set_other, length-set}
use Rattle.vfs_base.specs.declared.errno.Errno.TheVariants as errno
use Rattle.vfs_base.specs.declared.limits.TheConstants.{FIRST_DESCRIPTOR}
use Rattle.vfs_model.specs.Chain.{◌>>=◌, ◌>>◌, refuse◌when◌, wanted}
use Rattle.vfs_model.specs.DescriptorLaws.{IsSound, StaysSound}
use Rattle.vfs_model.specs.OpenFiles.{Closed, NewDescriptor, add_file, at_place, close_file, dup_file, file_number, file_numbered, has_all_descriptors, is_last, is_last_of, least_free_file, new_descriptor, opening_files, placed, set_place, with_descriptor, with_file}
use Rattle.vfs_model.specs.declared.shell_state.OpenFile.{OpenFile}
use Rattle.vfs_model.specs.declared.shell_state.OpenFiles.{OpenFiles}
use Rattle.vfs_model.proofs.FreePlaces.{not-full, free-first, lt-from, lt-by, get-in, some-in, ok-same, free-none, free-lt, not-both}
use Rattle.vfs_model.proofs.LeadCounts.{leads, leads-below, all-below, one-free, leads-one, one-same, one-other, leads-more, leads-less}

has-room : (f : OpenFiles) → IsSound f → has_all_descriptors f ≡ false → least_free_file f < length f.files
unfolding leads
has-room f sound e = room-by (lt-by (least_free_file f) (length f.files) (nat_lt (least_free_file f) (length f.files)) refl)
  where
    room-by : (least_free_file f < length f.files) ⊎ (length f.files ≤ least_free_file f) → least_free_file f < length f.files
    room-by (inl l) = l
    room-by (inr l) =
        let each : (k : ℕ) → k < length f.files → 0 < leads f.descriptors k =
        λ k lt. lt-from (leads f.descriptors k) (sym (sound.led k) ∙ free-first f.files k (omega arith)) in
        let all = all-below (leads f.descriptors) (length f.files) each in
        let most = leads-below f.descriptors (length f.files) in
        let free = one-free f.descriptors (not-full (list_any is_none f.descriptors) e) in
        let a = sound.descriptors in
        let b = sound.files in
        absurd (omega arith)

-- a file is open exactly where a descriptor leads to it
IsLed : OpenFiles → ℕ → Type 0
IsLed f number = is_some (file_numbered f number) ≡ nat_lt 0 (leads f.descriptors number)

led-there : (f : OpenFiles) (number : ℕ) → is_some (file_numbered f number) ≡ true → 0 < leads f.descriptors number → IsLed f number
unfolding IsLed
led-there f number e l = e ∙ sym (lt-ltb 0 (leads f.descriptors number) l)

led-gone : (f : OpenFiles) (number : ℕ) → is_some (file_numbered f number) ≡ false → leads f.descriptors number ≡ 0 → IsLed f number
unfolding IsLed
led-gone f number e l = e ∙ sym (le-ltb 0 (leads f.descriptors number) (omega arith))

led-same : (f g : OpenFiles) (number : ℕ) → IsSound f → file_numbered g number ≡ file_numbered f number →
    leads g.descriptors number ≡ leads f.descriptors number → IsLed g number
unfolding IsLed leads
led-same f g number sound e l = ap is_some e ∙ sound.led number ∙ sym (ap (λ n. nat_lt 0 n) l)

sound-from : (f g : OpenFiles) → IsSound f → length g.descriptors ≡ length f.descriptors → length g.files ≡ length f.files →
    ((number : ℕ) → IsLed g number) → IsSound g
unfolding IsLed leads
sound-from f g sound d e led = record { descriptors = d ∙ sound.descriptors; files = e ∙ sound.files; led = led }

-- the file of this number is open now, and a descriptor more leads to it
with-led : (f g : OpenFiles) (place n : ℕ) → IsSound f → place < length f.descriptors → slice_index_or f.descriptors place None ≡ None →
    g.descriptors ≡ slice_set f.descriptors place (Some n) → is_some (file_numbered g n) ≡ true →
    ((number : ℕ) → number ≢ n → file_numbered g number ≡ file_numbered f number) →
    (number : ℕ) → ((eqb n number ≡ true) × (n ≡ number)) ⊎ ((eqb n number ≡ false) × (n ≢ number)) → IsLed g number
with-led f g place n sound l free e there others number (inl same) =
    let more = ap (λ d. leads d n) e ∙ leads-more f.descriptors place n l free n in
    let one = one-same n in
    subst (IsLed g) same.1 (led-there g n there (omega arith))
with-led f g place n sound l free e there others number (inr other) =
    let more = ap (λ d. leads d number) e ∙ leads-more f.descriptors place n l free number in
    let none = one-other n number other.0 in
    led-same f g number sound (others number (λ same. other.1 (sym same))) (omega arith)

add-of : (f : OpenFiles) (file : OpenFile) (new : NewDescriptor) (full : Bool) → has_all_descriptors f ≡ full → IsSound f →
    ((refuse errno.EMFILE when full) >> Ok (new_descriptor (with_file (least_free_file f) (Some file) f) (least_free_file f))) ≡ Ok new →
    IsSound new.open_files
add-of f file new true h sound r = absurd (cc)
add-of f file new false h sound r =
    let free = not-full (list_any is_none f.descriptors) h in
    let place = position_or_len is_none f.descriptors in
    let n = least_free_file f in
    let l = free-lt f.descriptors free in
    let back : place + 3 - 3 ≡ place = omega arith in
    let found = new_descriptor (with_file n (Some file) f) n in
    let g = found.open_files in
    let descriptors : g.descriptors ≡ slice_set f.descriptors place (Some n) = ap (λ k. slice_set f.descriptors k (Some n)) back in
    let there : is_some (file_numbered g n) ≡ true = ap is_some (get_or-set_same f.files n (Some file) None (has-room f sound h)) in
    let others : (number : ℕ) → number ≢ n → file_numbered g number ≡ file_numbered f number =
    λ number ne. get_or-set_other f.files n number (Some file) None ne in
    subst (λ d. IsSound d.open_files) (ok-same found new (Ok found) refl r)
    (sound-from f g sound (ap length descriptors ∙ length-set f.descriptors place (Some n)) (length-set f.files n (Some file))
    (λ number. with-led f g place n sound l (free-none f.descriptors) descriptors there others number (eqb_tells n number)))

-- the place at which a descriptor leads to an open file
place-at : (f : OpenFiles) (fd n : ℕ) (low : Bool) → nat_lt fd FIRST_DESCRIPTOR ≡ low →
    (if low then None else slice_index_or f.descriptors (fd - FIRST_DESCRIPTOR) None) ≡ Some n →
    slice_index_or f.descriptors (fd - FIRST_DESCRIPTOR) None ≡ Some n
place-at f fd n true e h = absurd (cc)
place-at f fd n false e h = h

led-file : (f : OpenFiles) (fd n : ℕ) → IsSound f → slice_index_or f.descriptors (fd - FIRST_DESCRIPTOR) None ≡ Some n →
    is_some (file_numbered f n) ≡ true
unfolding leads
led-file f fd n sound at =
    sound.led n ∙ lt-ltb 0 (leads f.descriptors n)
    (leads-one f.descriptors (fd - FIRST_DESCRIPTOR) n (get-in f.descriptors (fd - FIRST_DESCRIPTOR) n at) at)

dup-of : (f : OpenFiles) (fd : ℕ) (new : NewDescriptor) (found : Option ℕ) (full : Bool) → file_number f fd ≡ found → has_all_descriptors f ≡ full →
    IsSound f → (wanted errno.EBADF found >>= λ number. (refuse errno.EMFILE when full) >> Ok (new_descriptor f number)) ≡ Ok new →
    IsSound new.open_files
dup-of f fd new None full e h sound r = absurd (cc)
dup-of f fd new (Some n) true e h sound r = absurd (cc)
dup-of f fd new (Some n) false e h sound r =
    let free = not-full (list_any is_none f.descriptors) h in
    let place = position_or_len is_none f.descriptors in
    let l = free-lt f.descriptors free in
    let back : place + 3 - 3 ≡ place = omega arith in
    let found = new_descriptor f n in
    let g = found.open_files in
    let descriptors : g.descriptors ≡ slice_set f.descriptors place (Some n) = ap (λ k. slice_set f.descriptors k (Some n)) back in
    let at = place-at f fd n (nat_lt fd FIRST_DESCRIPTOR) refl e in
    subst (λ d. IsSound d.open_files) (ok-same found new (Ok found) refl r)
    (sound-from f g sound (ap length descriptors ∙ length-set f.descriptors place (Some n)) refl
    (λ number. with-led f g place n sound l (free-none f.descriptors) descriptors (led-file f fd n sound at) (λ k ne. refl) number (eqb_tells n number)))

-- the file of a number changes, and is open as before
changed-led : (f : OpenFiles) (n : ℕ) (file new : OpenFile) → IsSound f → file_numbered f n ≡ Some file → (number : ℕ) →
    ((eqb n number ≡ true) × (n ≡ number)) ⊎ ((eqb n number ≡ false) × (n ≢ number)) → IsLed (with_file n (Some new) f) number
unfolding IsLed leads
changed-led f n file new sound e number (inl same) =
    let there : is_some (file_numbered (with_file n (Some new) f) n) ≡ true =
    ap is_some (get_or-set_same f.files n (Some new) None (get-in f.files n file e)) in
    let before : is_some (file_numbered f n) ≡ true = ap is_some e in
    subst (IsLed (with_file n (Some new) f)) same.1 (there ∙ sym before ∙ sound.led n)
changed-led f n file new sound e number (inr other) =
    led-same f (with_file n (Some new) f) number sound (get_or-set_other f.files n number (Some new) None (λ same. other.1 (sym same))) refl

place-of : (f : OpenFiles) (place : ℕ) (moved : OpenFiles) (found : Option ℕ) → IsSound f →
    (wanted errno.EBADF found >>= λ number. wanted errno.EBADF (file_numbered f number) >>= λ file. Ok (at_place f number place file)) ≡ Ok moved →
    IsSound moved
place-of f place moved None sound r = absurd (cc)
place-of f place moved (Some n) sound r = place-by (file_numbered f n) refl r
  where
    place-by : (file : Option OpenFile) → file_numbered f n ≡ file →
        (wanted errno.EBADF file >>= λ file. Ok (at_place f n place file)) ≡ Ok moved → IsSound moved
    place-by None e r = absurd (cc)
    place-by (Some file) e r =
        subst IsSound (ok-same (at_place f n place file) moved (Ok (at_place f n place file)) refl r)
        (sound-from f (at_place f n place file) sound refl (length-set f.files n (Some (placed place file)))
        (λ number. changed-led f n file (placed place file) sound e number (eqb_tells n number)))

-- a descriptor goes, and its file with it where it was the last
less-led : (f : OpenFiles) (place n : ℕ) → IsSound f → slice_index_or f.descriptors place None ≡ Some n → leads f.descriptors n ≢ 1 →
    (number : ℕ) → ((eqb n number ≡ true) × (n ≡ number)) ⊎ ((eqb n number ≡ false) × (n ≢ number)) →
    IsLed (record f { descriptors = slice_set f.descriptors place None }) number
unfolding leads
less-led f place n sound at many number (inl same) =
    let g : OpenFiles = record f { descriptors = slice_set f.descriptors place None } in
    let less = leads-less f.descriptors place n at n in
    let one = one-same n in
    let some = leads-one f.descriptors place n (get-in f.descriptors place n at) at in
    let there : is_some (file_numbered g n) ≡ true = sound.led n ∙ lt-ltb 0 (leads f.descriptors n) some in
    subst (IsLed g) same.1 (led-there g n there (omega arith))
less-led f place n sound at many number (inr other) =
    let g : OpenFiles = record f { descriptors = slice_set f.descriptors place None } in
    let less = leads-less f.descriptors place n at number in
    let none = one-other n number other.0 in
    led-same f g number sound refl (omega arith)

gone-led : (f : OpenFiles) (place n : ℕ) → IsSound f → slice_index_or f.descriptors place None ≡ Some n → leads f.descriptors n ≡ 1 →
    n < length f.files →
    (number : ℕ) → ((eqb n number ≡ true) × (n ≡ number)) ⊎ ((eqb n number ≡ false) × (n ≢ number)) →
    IsLed (record { descriptors = slice_set f.descriptors place None; files = slice_set f.files n None }) number
unfolding leads
gone-led f place n sound at last l number (inl same) =
    let g : OpenFiles = record { descriptors = slice_set f.descriptors place None; files = slice_set f.files n None } in
    let less = leads-less f.descriptors place n at n in
    let one = one-same n in
    let gone : is_some (file_numbered g n) ≡ false = ap is_some (get_or-set_same f.files n None None l) in
    subst (IsLed g) same.1 (led-gone g n gone (omega arith))
gone-led f place n sound at last l number (inr other) =
    let g : OpenFiles = record { descriptors = slice_set f.descriptors place None; files = slice_set f.files n None } in
    let less = leads-less f.descriptors place n at number in
    let none = one-other n number other.0 in
    led-same f g number sound (get_or-set_other f.files n number None None (λ same. other.1 (sym same))) (omega arith)

close-of : (f : OpenFiles) (fd : ℕ) (closed : Closed) (found : Option ℕ) (last : Bool) → file_number f fd ≡ found → is_last f fd ≡ last →
    IsSound f →
    (wanted errno.EBADF found >>= λ number. Ok (
    if last
    then record { last = file_numbered f number; open_files = with_file number None (with_descriptor fd None f) }
    else record { last = None; open_files = with_descriptor fd None f })) ≡ Ok closed →
    IsSound closed.open_files
unfolding leads
close-of f fd closed None last e h sound r = absurd (cc)
close-of f fd closed (Some n) true e h sound r =
    let at = place-at f fd n (nat_lt fd FIRST_DESCRIPTOR) refl e in
    let only : leads f.descriptors n ≡ 1 = eqb-true (leads f.descriptors n) 1 (sym (ap (is_last_of f) e) ∙ h) in
    let inside = some-in f.files n (led-file f fd n sound at) in
    let found : Closed = record { last = file_numbered f n; open_files = with_file n None (with_descriptor fd None f) } in
    subst (λ d. IsSound d.open_files) (ok-same found closed (Ok found) refl r)
    (sound-from f found.open_files sound (length-set f.descriptors (fd - FIRST_DESCRIPTOR) None) (length-set f.files n None)
    (λ number. gone-led f (fd - FIRST_DESCRIPTOR) n sound at only inside number (eqb_tells n number)))
close-of f fd closed (Some n) false e h sound r =
    let at = place-at f fd n (nat_lt fd FIRST_DESCRIPTOR) refl e in
    let test : (leads f.descriptors n == 1) ≡ false = sym (ap (is_last_of f) e) ∙ h in
    let many : leads f.descriptors n ≢ 1 = λ same. not-both (leads f.descriptors n == 1) (eq-eqb (leads f.descriptors n) 1 same) test in
    let found : Closed = record { last = None; open_files = with_descriptor fd None f } in
    subst (λ d. IsSound d.open_files) (ok-same found closed (Ok found) refl r)
    (sound-from f found.open_files sound (length-set f.descriptors (fd - FIRST_DESCRIPTOR) None) refl
    (λ number. less-led f (fd - FIRST_DESCRIPTOR) n sound at many number (eqb_tells n number)))

nothing : ℕ → List (Option OpenFile)
nothing n = replicate n None

none-in : (n k : ℕ) → is_some (slice_index_or (nothing n) k None) ≡ false
unfolding nothing
none-in zero k = refl
none-in (suc n) zero = refl
none-in (suc n) (suc k) = none-in n k

opening-sound : IsSound opening_files
unfolding nothing
opening-sound = record { descriptors = refl; files = refl; led = λ number. none-in 16 number }

pub stays-sound : StaysSound
unfolding add_file dup_file close_file set_place
stays-sound = record {
  opening = opening-sound;
  room = has-room;
  add = λ f file new sound r. add-of f file new (has_all_descriptors f) refl sound r;
  dup = λ f fd new sound r. dup-of f fd new (file_number f fd) (has_all_descriptors f) refl refl sound r;
  close = λ f fd closed sound r. close-of f fd closed (file_number f fd) (is_last f fd) refl refl sound r;
  place = λ f fd place moved sound r. place-of f place moved (file_number f fd) sound r;
}
