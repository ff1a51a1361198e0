-- Each change of a shell's open files keeps what holds of them.
use Rattle.std.proofs.Common.{◌≡◌, ℕ, zero, suc, ◌+◌, ◌-◌, ◌<◌, ◌≤◌, Bool, true, false, not, nat_lt, is_none, Option, Some, None, Ok, List, [], ◌∷◌, length, slice_index_or, slice_set, if◌then◌else◌, IfSome, refl, ap, subst, ◌∙◌, arith}
use Rattle.std.specs.List.{list_any, position_or_len}
use Rattle.std.proofs.lemmas.Bool.{lt-ltb}
use Rattle.vfs_base.specs.declared.errno.Errno.TheVariants as errno
use Rattle.vfs_model.specs.Chain.{◌>>=◌, ◌>>◌, refuse◌when◌, wanted}
use Rattle.vfs_model.specs.DescriptorLaws.{IsSound}
use Rattle.vfs_model.specs.OpenFiles.{NewDescriptor, Closed, add_file, close_file, dup_file, file_number, file_numbered, is_last}
use Rattle.vfs_model.specs.declared.shell_state.OpenFile.{OpenFile}
use Rattle.vfs_model.specs.declared.shell_state.OpenFiles.{OpenFiles}
use Rattle.vfs_model.proofs.FreePlaces.{free-lt, get-in, some-in}
use Rattle.vfs_model.proofs.LeadCounts.{leads, leads-one}
use Rattle.vfs_model.proofs.SoundDescriptors.{stays-sound}

-- where a descriptor is free, the least one is among the sixteen
pub free-within : (f : OpenFiles) → IsSound f → list_any is_none f.descriptors ≡ true → position_or_len is_none f.descriptors < 16
free-within f table free =
    let l = free-lt f.descriptors free in
    let n = table.descriptors in
    omega arith

-- and an open file has room
pub has-room : (f : OpenFiles) → IsSound f → list_any is_none f.descriptors ≡ true → position_or_len is_none f.files < length f.files
has-room f table free = stays-sound.room f table (ap not free)

-- the place of a descriptor that leads to an open file
number-place : (f : OpenFiles) (fd n : ℕ) (low : Bool) → nat_lt fd 3 ≡ low → (if low then None else slice_index_or f.descriptors (fd - 3) None) ≡ Some n →
    slice_index_or f.descriptors (fd - 3) None ≡ Some n
number-place f fd n true e h = absurd (cc)
number-place f fd n false e h = h

-- a descriptor leads to an open file that is there
pub led-within : (f : OpenFiles) (fd n : ℕ) → IsSound f → file_number f fd ≡ Some n → n < length f.files
unfolding leads
led-within f fd n table is =
    let at = number-place f fd n (nat_lt fd 3) refl is in
    let count = leads-one f.descriptors (fd - 3) n (get-in f.descriptors (fd - 3) n at) at in
    some-in f.files n (table.led n ∙ lt-ltb 0 (leads f.descriptors n) count)

pub add-kept : (f : OpenFiles) (file : OpenFile) → IsSound f → list_any is_none f.descriptors ≡ true →
    IsSound (record {
      descriptors = slice_set f.descriptors (position_or_len is_none f.descriptors) (Some (position_or_len is_none f.files));
      files = slice_set f.files (position_or_len is_none f.files) (Some file);
    })
unfolding add_file
add-kept f file table free =
    let at = position_or_len is_none f.descriptors in
    let n = position_or_len is_none f.files in
    let back : at + 3 - 3 ≡ at = omega arith in
    let grown : ℕ → OpenFiles = λ k. record { descriptors = slice_set f.descriptors k (Some n); files = slice_set f.files n (Some file) } in
    let new : NewDescriptor = record { fd = at + 3; open_files = grown (at + 3 - 3) } in
    let added : add_file f file ≡ Ok new = ap (λ t. (refuse errno.EMFILE when not t) >> Ok new) free in
    let sound = stays-sound.add f file new table added in
    subst (λ k. IsSound (grown k)) back sound

pub dup-kept : (f : OpenFiles) (fd n : ℕ) → IsSound f → file_number f fd ≡ Some n → list_any is_none f.descriptors ≡ true →
    IsSound (record { descriptors = slice_set f.descriptors (position_or_len is_none f.descriptors) (Some n); files = f.files })
unfolding dup_file
dup-kept f fd n table is free =
    let at = position_or_len is_none f.descriptors in
    let back : at + 3 - 3 ≡ at = omega arith in
    let grown : ℕ → OpenFiles = λ k. record { descriptors = slice_set f.descriptors k (Some n); files = f.files } in
    let new : NewDescriptor = record { fd = at + 3; open_files = grown (at + 3 - 3) } in
    let number : dup_file f fd ≡ ((refuse errno.EMFILE when not (list_any is_none f.descriptors)) >> Ok new) =
    ap (λ found. wanted errno.EBADF found >>= λ n.
    (refuse errno.EMFILE when not (list_any is_none f.descriptors))
    >> Ok (record { fd = at + 3; open_files = record f { descriptors = slice_set f.descriptors (at + 3 - 3) (Some n) } }))
    is in
    let sound = stays-sound.dup f fd new table (number ∙ ap (λ t. (refuse errno.EMFILE when not t) >> Ok new) free) in
    subst (λ k. IsSound (grown k)) back sound

pub close-kept : (f : OpenFiles) (fd n : ℕ) → IsSound f → file_number f fd ≡ Some n → is_last f fd ≡ true →
    IsSound (record { descriptors = slice_set f.descriptors (fd - 3) None; files = slice_set f.files n None })
unfolding close_file
close-kept f fd n table is last =
    let left : OpenFiles = record { descriptors = slice_set f.descriptors (fd - 3) None; files = slice_set f.files n None } in
    let some : OpenFiles = record f { descriptors = slice_set f.descriptors (fd - 3) None } in
    let closed : Closed = record { last = file_numbered f n; open_files = left } in
    let by : Bool → Closed = λ t. if t then closed else record { last = None; open_files = some } in
    let number : close_file f fd ≡ Ok (by (is_last f fd)) =
    ap (λ found. wanted errno.EBADF found >>= λ n. Ok (
    if is_last f fd
    then record { last = file_numbered f n; open_files = record some { files = slice_set f.files n None } }
    else record { last = None; open_files = some }))
    is in
    stays-sound.close f fd closed table (number ∙ ap (λ t. Ok (by t)) last)
