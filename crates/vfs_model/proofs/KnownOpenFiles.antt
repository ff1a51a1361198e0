-- A session knows its references where they were as its open files change, or where they are now.
use Rattle.std.proofs.Common.{◌≡◌, ◌≢◌, ◌⊎◌, inl, inr, ℕ, zero, suc, ◌<◌, length, Bool, true, false, Option, Some, None, option_map, Result, Ok, Err, List, [], ◌∷◌, slice_index_or, slice_set, if◌then◌else◌, refl, sym, ap, subst, ◌∙◌}
use Rattle.std.proofs.lemmas.Bool.Decides.{eqb_tells}
use Rattle.std.proofs.lemmas.List.{get_or-set_same, get_or-set_other}
use Rattle.std.specs.Option.{option_and_then}
use Rattle.std.specs.List.{list_any}
use Rattle.std.specs.Prelude.{ℤ}
use Rattle.vfs_base.specs.declared.errno.Errno.{Errno}
use Rattle.vfs_base.specs.declared.errno.Errno.TheVariants as errno
use Rattle.vfs_model.proofs.KnownFiles.{Keeper, Knows, OfFile, OfFirst, OfMapping, OfSecond, Place, default-there, fewer-kept, keeps_open, known-kept, known_at, moved-kept}
use Rattle.vfs_model.proofs.FreePlaces.{free-none, get-in}
use Rattle.vfs_model.proofs.SoundDescriptors.{stays-sound}
use Rattle.vfs_model.specs.Chain.{◌>>=◌, ◌>>◌, refuse◌when◌, wanted}
use Rattle.vfs_model.specs.DescriptorLaws.{IsSound}
use Rattle.vfs_model.specs.FileCommands.{changed_or_same}
use Rattle.vfs_model.specs.HeldFiles.{Held, file_held, keeps_file}
use Rattle.vfs_model.specs.OpenCommands.{with_open_files}
use Rattle.vfs_model.specs.OpenFiles.{Closed, NewDescriptor, Sought, add_file, at_place, close_file, dup_file, file_number, file_numbered, has_all_descriptors, is_last, least_free_file, new_descriptor, open_file, placed, seek, set_place, sought_offset, whence_offset, with_descriptor, with_file}
use Rattle.vfs_model.specs.declared.shell_state.OpenFile.{OpenFile}
use Rattle.vfs_model.specs.declared.shell_state.OpenFiles.{OpenFiles}
use Rattle.vfs_model.specs.declared.shell_state.ShellState.{ShellState}
use Rattle.vfs_model.specs.declared.shell_state.Whence.{Whence}

-- what stands in a table after a write: what was written, or at another place what stood there
pub set-cases : {X : Type 0} (xs : List (Option X)) (place other : ℕ) (x : Option X) (y : X) → slice_index_or (slice_set xs place x) other None ≡ Some y →
    ((other ≡ place) × (x ≡ Some y)) ⊎ ((other ≢ place) × (slice_index_or xs other None ≡ Some y))
set-cases [] place other x y e = absurd (cc)
set-cases (z ∷ xs) zero zero x y e = inl (refl, e)
set-cases (z ∷ xs) zero (suc other) x y e = inr (λ same. cc, e)
set-cases (z ∷ xs) (suc place) zero x y e = inr (λ same. cc, e)
set-cases (z ∷ xs) (suc place) (suc other) x y e = elim (set-cases xs place other x y e) [
  | inl h ↦ inl (ap suc h.0, h.1)
  | inr h ↦ inr (λ same. h.0 (cc), h.1)
]

-- what a table of open files or mappings tells at a place
pub map-some : {X Y : Type 0} (f : X → Y) (found : Option X) (y : Y) → option_map f found ≡ Some y → (x : X) × (found ≡ Some x) × (y ≡ f x)
map-some f None y e = absurd (cc)
map-some f (Some x) y e = (x, refl, cc)

-- the open file of a descriptor has a number
pub opened-number : (f : OpenFiles) (fd : ℕ) (file : OpenFile) → open_file f fd ≡ Ok file → (number : ℕ) × (file_numbered f number ≡ Some file)
opened-number f fd file e = by-number (file_number f fd) e
  where
    wanted-some : (found : Option OpenFile) → wanted errno.EBADF found ≡ Ok file → found ≡ Some file
    wanted-some None e = absurd (cc)
    wanted-some (Some x) e = cc

    by-number : (found : Option ℕ) → wanted errno.EBADF (option_and_then (file_numbered f) found) ≡ Ok file → (number : ℕ) × (file_numbered f number ≡ Some file)
    by-number None e = absurd (cc)
    by-number (Some number) e = (number, wanted-some (file_numbered f number) e)

pub then-ok : {Y : Type 0} (passed : Result (Unit {0}) Errno) (rest : Result Y Errno) (y : Y) → (passed >> rest) ≡ Ok y → rest ≡ Ok y
then-ok (Ok passed) rest y e = e
then-ok (Err errno) rest y e = absurd (cc)

-- checks that leave the open file that was found
pub found-ok : (found : Result OpenFile Errno) (rest : OpenFile → Result OpenFile Errno) (file : OpenFile) →
    ((x : OpenFile) → rest x ≡ Ok file → x ≡ file) → (found >>= rest) ≡ Ok file → found ≡ Ok file
found-ok (Ok x) rest file same e = ap Ok (same x e)
found-ok (Err errno) rest file same e = absurd (cc)

-- an open file's reference keeps its file
pub open-held : (k : ℕ) (held : Held) (state : ShellState) (first second : Option Keeper) (fd : ℕ) (file : OpenFile) →
    Knows k held state first second → open_file state.open_files fd ≡ Ok file → file_held held.files k file.hold ≡ Some file.file
open-held k held state first second fd file knows e =
    let found = opened-number state.open_files fd file e in
    knows.are.kept (OfFile found.0) (keeps_open file) (ap (option_map keeps_open) found.1)

-- and so its steps may be asked
pub open-kept : (k : ℕ) (held : Held) (state : ShellState) (first second : Option Keeper) (fd : ℕ) (file : OpenFile) →
    Knows k held state first second → open_file state.open_files fd ≡ Ok file → list_any (keeps_file file.file) held.files ≡ true
open-kept k held state first second fd file knows e =
    let found = opened-number state.open_files fd file e in
    known-kept k held (known_at state first second) (OfFile found.0) (keeps_open file) knows.are (ap (option_map keeps_open) found.1)

-- each open file is open as before, with the same reference and file, and the open files stay sound
pub record SameFiles (before after : OpenFiles) : Type 0 where
  pub each : (number : ℕ) → option_map keeps_open (file_numbered after number) ≡ option_map keeps_open (file_numbered before number)
  pub sound : IsSound before → IsSound after

pub same-files-kept : (k : ℕ) (held : Held) (state : ShellState) (first second : Option Keeper) (after : OpenFiles) →
    SameFiles state.open_files after → Knows k held state first second → Knows k held (with_open_files after state) first second
same-files-kept k held state first second after same knows = record {
  are = fewer-kept k held (known_at state first second) (known_at (with_open_files after state) first second) knows.are still (λ whole place one e. more place one e);
  sound = same.sound knows.sound;
  shown = knows.shown;
}
  where
    still : (place : Place) (one : Keeper) → known_at (with_open_files after state) first second place ≡ Some one → known_at state first second place ≡ Some one
    still (OfFile number) one e = sym (same.each number) ∙ e
    still (OfMapping place) one e = e
    still OfFirst one e = e
    still OfSecond one e = e

    more : (place : Place) (one : Keeper) → known_at state first second place ≡ Some one → known_at (with_open_files after state) first second place ≡ Some one
    more (OfFile number) one e = same.each number ∙ e
    more (OfMapping place) one e = e
    more OfFirst one e = e
    more OfSecond one e = e

ok-same : {X : Type 0} (a b : X) → (let found : Result X Errno = Ok a in found ≡ Ok b) → a ≡ b
ok-same a b e = cc

placed-same : (f : OpenFiles) (n place : ℕ) (file : OpenFile) → file_numbered f n ≡ Some file → (number : ℕ) →
    option_map keeps_open (file_numbered (at_place f n place file) number) ≡ option_map keeps_open (file_numbered f number)
placed-same f n place file at number = elim (eqb_tells number n) [
  | inl h ↦
      ap (λ x. option_map keeps_open (file_numbered (at_place f n place file) x)) h.1
      ∙ ap (option_map keeps_open) (get_or-set_same f.files n (Some (placed place file)) None (get-in f.files n file at))
      ∙ ap (option_map keeps_open) (sym at) ∙ ap (λ x. option_map keeps_open (file_numbered f x)) (sym h.1)
  | inr h ↦ ap (option_map keeps_open) (get_or-set_other f.files n number (Some (placed place file)) None h.1)
]

abbrev KeepsEach : OpenFiles → OpenFiles → Type 0
KeepsEach before after = (number : ℕ) → option_map keeps_open (file_numbered after number) ≡ option_map keeps_open (file_numbered before number)

place-by : (f : OpenFiles) (place n : ℕ) (moved : OpenFiles) (file : Option OpenFile) → file_numbered f n ≡ file →
    (wanted errno.EBADF file >>= λ file. Ok (at_place f n place file)) ≡ Ok moved → KeepsEach f moved
place-by f place n moved None e r = absurd (cc)
place-by f place n moved (Some file) e r = subst (KeepsEach f) (ok-same (at_place f n place file) moved r) (placed-same f n place file e)

place-of : (f : OpenFiles) (place : ℕ) (moved : OpenFiles) (found : Option ℕ) →
    (wanted errno.EBADF found >>= λ number. wanted errno.EBADF (file_numbered f number) >>= λ file. Ok (at_place f number place file)) ≡ Ok moved →
    KeepsEach f moved
place-of f place moved None r = absurd (cc)
place-of f place moved (Some n) r = place-by f place n moved (file_numbered f n) refl r

place-each : (f : OpenFiles) (fd place : ℕ) (moved : OpenFiles) → set_place f fd place ≡ Ok moved → KeepsEach f moved
unfolding set_place
place-each f fd place moved r = place-of f place moved (file_number f fd) r

-- a place that changes leaves references and files
pub place-same : (f : OpenFiles) (fd place : ℕ) (moved : OpenFiles) → set_place f fd place ≡ Ok moved → SameFiles f moved
place-same f fd place moved r = record { each = place-each f fd place moved r; sound = λ sound. stays-sound.place f fd place moved sound r }

pub changed-same : (f : OpenFiles) (changed : Result OpenFiles Errno) → ((moved : OpenFiles) → changed ≡ Ok moved → SameFiles f moved) →
    SameFiles f (changed_or_same f changed)
changed-same f (Ok moved) same = same moved refl
changed-same f (Err errno) same = record { each = λ number. refl; sound = λ sound. sound }

seek-by : (f : OpenFiles) (fd : ℕ) (sought : Sought) (place : ℕ) (moved : Result OpenFiles Errno) → ((after : OpenFiles) → moved ≡ Ok after → SameFiles f after) →
    (moved >>= λ after. Ok (let s : Sought = record { place = place; open_files = after } in s)) ≡ Ok sought → SameFiles f sought.open_files
seek-by f fd sought place (Err errno) same r = absurd (cc)
seek-by f fd sought place (Ok after) same r =
    let s : Sought = record { place = place; open_files = after } in
    subst (λ t. SameFiles f t.open_files) (ok-same s sought r) (same after refl)

seek-on : (f : OpenFiles) (fd : ℕ) (sought : Sought) (place : Result ℕ Errno) →
    (place >>= λ place. set_place f fd place >>= λ after. Ok (let s : Sought = record { place = place; open_files = after } in s)) ≡ Ok sought →
    SameFiles f sought.open_files
seek-on f fd sought (Err errno) r = absurd (cc)
seek-on f fd sought (Ok place) r = seek-by f fd sought place (set_place f fd place) (place-same f fd place) r

seek-of : (f : OpenFiles) (fd : ℕ) (off : ℤ) (whence : Whence) (sought : Sought) (file : Result OpenFile Errno) →
    (file >>= λ file. sought_offset (whence_offset file whence) off >>= λ place. set_place f fd place
    >>= λ after. Ok (let s : Sought = record { place = place; open_files = after } in s)) ≡ Ok sought →
    SameFiles f sought.open_files
seek-of f fd off whence sought (Err errno) r = absurd (cc)
seek-of f fd off whence sought (Ok file) r = seek-on f fd sought (sought_offset (whence_offset file whence) off) r

pub seek-same : (f : OpenFiles) (fd : ℕ) (off : ℤ) (whence : Whence) (sought : Sought) → seek f fd off whence ≡ Ok sought → SameFiles f sought.open_files
unfolding seek
seek-same f fd off whence sought r = seek-of f fd off whence sought (open_file f fd) r

pub no-more : {X : Type 0} (found : Option X) (x : X) → found ≡ Some x → found ≡ None → ⊥
no-more found x e n = let no : Some x ≡ None = sym e ∙ n in cc

-- a new open file's reference was the command's
added-open : (k : ℕ) (held : Held) (state : ShellState) (file : OpenFile) (n : ℕ) (after : OpenFiles) →
    after.files ≡ slice_set state.open_files.files n (Some file) → n < length state.open_files.files →
    file_numbered state.open_files n ≡ None → IsSound after → Knows k held state (Some (keeps_open file)) None →
    Knows k held (with_open_files after state) None None
added-open k held state file n after files small free = λ sound knows. record {
  are = moved-kept k held (known_at state (Some (keeps_open file)) None) (known_at (with_open_files after state) None None) OfFirst (OfFile n)
      (keeps_open file) knows.are refl change arrives stays;
  sound = sound;
  shown = knows.shown;
}
  where
    change : (place : Place) (one : Keeper) → known_at (with_open_files after state) None None place ≡ Some one →
        ((place ≡ OfFile n) × (one ≡ keeps_open file)) ⊎ ((place ≢ OfFirst) × (known_at state (Some (keeps_open file)) None place ≡ Some one))
    change (OfFile number) one e =
        let found = map-some keeps_open (file_numbered after number) one e in
        let at : slice_index_or (slice_set state.open_files.files n (Some file)) number None ≡ Some found.0 =
        ap (λ xs. slice_index_or xs number None) (sym files) ∙ found.1 in
        elim (set-cases state.open_files.files n number (Some file) found.0 at) [
          | inl h ↦ let is : file ≡ found.0 = cc in inl (ap OfFile h.0, found.2 ∙ ap keeps_open (sym is))
          | inr h ↦ inr (λ same. cc, ap (option_map keeps_open) h.1 ∙ ap Some (sym found.2))
        ]
    change (OfMapping place) one e = inr (λ same. cc, e)
    change OfFirst one e = absurd (cc)
    change OfSecond one e = absurd (cc)

    arrives : option_map keeps_open (file_numbered after n) ≡ Some (keeps_open file)
    arrives =
        ap (λ xs. option_map keeps_open (slice_index_or xs n None)) files
        ∙ ap (option_map keeps_open) (get_or-set_same state.open_files.files n (Some file) None small)

    stays : (place : Place) (one : Keeper) → known_at state (Some (keeps_open file)) None place ≡ Some one →
        (place ≡ OfFirst) ⊎ (known_at (with_open_files after state) None None place ≡ Some one)
    stays (OfFile number) one e =
        let found = map-some keeps_open (file_numbered state.open_files number) one e in
        elim (eqb_tells number n) [
          | inl h ↦ absurd (no-more (file_numbered state.open_files number) found.0 found.1 (ap (file_numbered state.open_files) h.1 ∙ free))
          | inr h ↦ inr (ap (λ xs. option_map keeps_open (slice_index_or xs number None)) files
              ∙ ap (option_map keeps_open) (get_or-set_other state.open_files.files n number (Some file) None h.1) ∙ e)
        ]
    stays (OfMapping place) one e = inr e
    stays OfFirst one e = inl refl
    stays OfSecond one e = absurd (cc)

-- an open file is added exactly where a descriptor is free
record AddsFile (f : OpenFiles) (file : OpenFile) (new : NewDescriptor) : Type 0 where
  files : new.open_files.files ≡ slice_set f.files (least_free_file f) (Some file)
  room : has_all_descriptors f ≡ false

add-of : (f : OpenFiles) (file : OpenFile) (new : NewDescriptor) (full : Bool) → has_all_descriptors f ≡ full →
    ((refuse errno.EMFILE when full) >> Ok (new_descriptor (with_file (least_free_file f) (Some file) f) (least_free_file f))) ≡ Ok new →
    AddsFile f file new
add-of f file new true e r = absurd (cc)
add-of f file new false e r = record {
  files = ap (λ d. d.open_files.files) (sym (ok-same (new_descriptor (with_file (least_free_file f) (Some file) f) (least_free_file f)) new r));
  room = e;
}

adds-file : (f : OpenFiles) (file : OpenFile) (new : NewDescriptor) → add_file f file ≡ Ok new → AddsFile f file new
unfolding add_file
adds-file f file new r = add-of f file new (has_all_descriptors f) refl r

pub add-known : (k : ℕ) (held : Held) (state : ShellState) (file : OpenFile) (new : NewDescriptor) →
    add_file state.open_files file ≡ Ok new → Knows k held state (Some (keeps_open file)) None → Knows k held (with_open_files new.open_files state) None None
add-known k held state file new r knows =
    let adds = adds-file state.open_files file new r in
    added-open k held state file (least_free_file state.open_files) new.open_files adds.files
    (stays-sound.room state.open_files knows.sound adds.room) (free-none state.open_files.files)
    (stays-sound.add state.open_files file new knows.sound r) knows

-- where a descriptor is free, no open file is refused
pub add-passes : (f : OpenFiles) (file : OpenFile) (fault : Errno) → has_all_descriptors f ≡ false → add_file f file ≡ Err fault → ⊥
unfolding add_file
add-passes f file fault room r = by (has_all_descriptors f) room r
  where
    by : (full : Bool) → full ≡ false →
        ((refuse errno.EMFILE when full) >> Ok (new_descriptor (with_file (least_free_file f) (Some file) f) (least_free_file f))) ≡ Err fault → ⊥
    by true e r = cc
    by false e r = cc

dup-of : (f : OpenFiles) (new : NewDescriptor) (found : Option ℕ) (full : Bool) →
    (wanted errno.EBADF found >>= λ number. (refuse errno.EMFILE when full) >> Ok (new_descriptor f number)) ≡ Ok new → new.open_files.files ≡ f.files
dup-of f new None full r = absurd (cc)
dup-of f new (Some n) true r = absurd (cc)
dup-of f new (Some n) false r = ap (λ d. d.open_files.files) (sym (ok-same (new_descriptor f n) new r))

files-same : (f after : OpenFiles) → after.files ≡ f.files → KeepsEach f after
files-same f after same = λ number. ap (λ xs. option_map keeps_open (slice_index_or xs number None)) same

dup-each : (f : OpenFiles) (fd : ℕ) (new : NewDescriptor) → dup_file f fd ≡ Ok new → KeepsEach f new.open_files
unfolding dup_file
dup-each f fd new r = files-same f new.open_files (dup-of f new (file_number f fd) (has_all_descriptors f) r)

pub dup-same : (f : OpenFiles) (fd : ℕ) (new : NewDescriptor) → dup_file f fd ≡ Ok new → SameFiles f new.open_files
dup-same f fd new r = record { each = dup-each f fd new r; sound = λ sound. stays-sound.dup f fd new sound r }

-- how the open files come out of a close: the last descriptor's file is the command's now
record ClosesOne (f : OpenFiles) (closed : Closed) : Type 0 where
  number : ℕ
  last : closed.last ≡ file_numbered f number
  files : closed.open_files.files ≡ slice_set f.files number None

close-of : (f : OpenFiles) (fd : ℕ) (closed : Closed) (found : Option ℕ) (last : Bool) →
    (wanted errno.EBADF found >>= λ number. Ok (
    if last
    then record { last = file_numbered f number; open_files = with_file number None (with_descriptor fd None f) }
    else record { last = None; open_files = with_descriptor fd None f })) ≡ Ok closed →
    ClosesOne f closed ⊎ ((closed.last ≡ None) × (closed.open_files.files ≡ f.files))
close-of f fd closed None last r = absurd (cc)
close-of f fd closed (Some n) true r =
    let found : Closed = record { last = file_numbered f n; open_files = with_file n None (with_descriptor fd None f) } in
    let same : found ≡ closed = ok-same found closed r in
    inl (record { number = n; last = ap (λ c. c.last) (sym same); files = ap (λ c. c.open_files.files) (sym same) })
close-of f fd closed (Some n) false r =
    let found : Closed = record { last = None; open_files = with_descriptor fd None f } in
    let same : found ≡ closed = ok-same found closed r in
    inr (ap (λ c. c.last) (sym same), ap (λ c. c.open_files.files) (sym same))

-- no open file of that number is left
gone-files : (f after : OpenFiles) (n number : ℕ) (one : Keeper) → after.files ≡ slice_set f.files n None →
    option_map keeps_open (file_numbered after number) ≡ Some one → (number ≢ n) × (option_map keeps_open (file_numbered f number) ≡ Some one)
gone-files f after n number one files e =
    let found = map-some keeps_open (file_numbered after number) one e in
    let at : slice_index_or (slice_set f.files n None) number None ≡ Some found.0 = ap (λ xs. slice_index_or xs number None) (sym files) ∙ found.1 in
    elim (set-cases f.files n number None found.0 at) [
      | inl h ↦ absurd (cc)
      | inr h ↦ (h.0, ap (option_map keeps_open) h.1 ∙ ap Some (sym found.2))
    ]

closed-one : (k : ℕ) (held : Held) (state : ShellState) (closed : Closed) (one : ClosesOne state.open_files closed) (last : Option OpenFile) →
    file_numbered state.open_files one.number ≡ last → IsSound closed.open_files → Knows k held state None None →
    Knows k held (with_open_files closed.open_files state) (option_map keeps_open last) None
closed-one k held state closed one (Some file) at sound knows = record {
  are = moved-kept k held (known_at state None None) (known_at (with_open_files closed.open_files state) (Some (keeps_open file)) None) (OfFile one.number) OfFirst
      (keeps_open file) knows.are (ap (option_map keeps_open) at) change refl stays;
  sound = sound;
  shown = knows.shown;
}
  where
    change : (place : Place) (x : Keeper) → known_at (with_open_files closed.open_files state) (Some (keeps_open file)) None place ≡ Some x →
        ((place ≡ OfFirst) × (x ≡ keeps_open file)) ⊎ ((place ≢ OfFile one.number) × (known_at state None None place ≡ Some x))
    change (OfFile number) x e =
        let h = gone-files state.open_files closed.open_files one.number number x one.files e in
        inr (λ same. h.0 (cc), h.1)
    change (OfMapping place) x e = inr (λ same. cc, e)
    change OfFirst x e = inl (refl, cc)
    change OfSecond x e = absurd (cc)

    stays : (place : Place) (x : Keeper) → known_at state None None place ≡ Some x →
        (place ≡ OfFile one.number) ⊎ (known_at (with_open_files closed.open_files state) (Some (keeps_open file)) None place ≡ Some x)
    stays (OfFile number) x e = elim (eqb_tells number one.number) [
      | inl h ↦ inl (ap OfFile h.1)
      | inr h ↦ inr (ap (λ xs. option_map keeps_open (slice_index_or xs number None)) one.files
          ∙ ap (option_map keeps_open) (get_or-set_other state.open_files.files one.number number None None h.1) ∙ e)
    ]
    stays (OfMapping place) x e = inr e
    stays OfFirst x e = absurd (cc)
    stays OfSecond x e = absurd (cc)
closed-one k held state closed one None at sound knows =
    same-files-kept k held state None None closed.open_files (record { each = same; sound = λ before. sound }) knows
  where
    same : KeepsEach state.open_files closed.open_files
    same number = elim (eqb_tells number one.number) [
      | inl h ↦
          ap (λ x. option_map keeps_open (file_numbered closed.open_files x)) h.1
          ∙ ap (λ xs. option_map keeps_open (slice_index_or xs one.number None)) one.files
          ∙ ap (option_map keeps_open) (default-there state.open_files.files one.number)
          ∙ ap (option_map keeps_open) (sym at) ∙ ap (λ x. option_map keeps_open (file_numbered state.open_files x)) (sym h.1)
      | inr h ↦
          ap (λ xs. option_map keeps_open (slice_index_or xs number None)) one.files
          ∙ ap (option_map keeps_open) (get_or-set_other state.open_files.files one.number number None None h.1)
    ]

closed-by : (k : ℕ) (held : Held) (state : ShellState) (closed : Closed) →
    ClosesOne state.open_files closed ⊎ ((closed.last ≡ None) × (closed.open_files.files ≡ state.open_files.files)) → IsSound closed.open_files → Knows k held state None None →
    Knows k held (with_open_files closed.open_files state) (option_map keeps_open closed.last) None
closed-by k held state closed (inl one) sound knows =
    subst (λ last. Knows k held (with_open_files closed.open_files state) (option_map keeps_open last) None) (sym one.last)
    (closed-one k held state closed one (file_numbered state.open_files one.number) refl sound knows)
closed-by k held state closed (inr h) sound knows =
    subst (λ last. Knows k held (with_open_files closed.open_files state) (option_map keeps_open last) None) (sym h.0)
    (same-files-kept k held state None None closed.open_files
    (record { each = files-same state.open_files closed.open_files h.1; sound = λ before. sound }) knows)

closes-file : (f : OpenFiles) (fd : ℕ) (closed : Closed) → close_file f fd ≡ Ok closed →
    ClosesOne f closed ⊎ ((closed.last ≡ None) × (closed.open_files.files ≡ f.files))
unfolding close_file
closes-file f fd closed r = close-of f fd closed (file_number f fd) (is_last f fd) r

pub close-known : (k : ℕ) (held : Held) (state : ShellState) (fd : ℕ) (closed : Closed) →
    close_file state.open_files fd ≡ Ok closed → Knows k held state None None →
    Knows k held (with_open_files closed.open_files state) (option_map keeps_open closed.last) None
close-known k held state fd closed r knows =
    closed-by k held state closed (closes-file state.open_files fd closed r) (stays-sound.close state.open_files fd closed knows.sound r) knows
