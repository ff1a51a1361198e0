-- What holds of the open files of every shell, and that each change of them keeps it.
use Rattle.std.specs.Prelude.{◌≡◌, ℕ, ◌<◌, false, nat_lt, is_some, Ok, count_by, length}
use Rattle.vfs_base.specs.declared.limits.TheConstants.{DESCRIPTORS}
use Rattle.vfs_model.specs.OpenFiles.{Closed, NewDescriptor, add_file, close_file, dup_file, file_numbered, has_all_descriptors, leads_to, least_free_file, opening_files, set_place}
use Rattle.vfs_model.specs.declared.shell_state.OpenFile.{OpenFile}
use Rattle.vfs_model.specs.declared.shell_state.OpenFiles.{OpenFiles}

-- There is a place for each descriptor, and as many for open files. A file is open exactly where a descriptor leads to it.
pub record IsSound (open_files : OpenFiles) : Type 0 where
  pub descriptors : length open_files.descriptors ≡ DESCRIPTORS
  pub files : length open_files.files ≡ DESCRIPTORS
  pub led : (number : ℕ) →
      is_some (file_numbered open_files number) ≡ nat_lt 0 (count_by (leads_to number) open_files.descriptors)

-- so holds of a shell at the start, and each change keeps it; where a descriptor is free there is room for an open file
pub record StaysSound : Type 0 where
  pub opening : IsSound opening_files
  pub room : (open_files : OpenFiles) → IsSound open_files → has_all_descriptors open_files ≡ false →
      least_free_file open_files < length open_files.files
  pub add : (open_files : OpenFiles) (file : OpenFile) (new : NewDescriptor) → IsSound open_files →
      add_file open_files file ≡ Ok new → IsSound new.open_files
  pub dup : (open_files : OpenFiles) (fd : ℕ) (new : NewDescriptor) → IsSound open_files →
      dup_file open_files fd ≡ Ok new → IsSound new.open_files
  pub close : (open_files : OpenFiles) (fd : ℕ) (closed : Closed) → IsSound open_files →
      close_file open_files fd ≡ Ok closed → IsSound closed.open_files
  pub place : (open_files : OpenFiles) (fd place : ℕ) (placed : OpenFiles) → IsSound open_files →
      set_place open_files fd place ≡ Ok placed → IsSound placed
