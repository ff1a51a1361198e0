-- A step of one file leaves the namespace as it was, so the world stays consistent where the file agrees.
use Rattle.std.proofs.Common.{◌≡◌, ◌≢◌, ℕ, ◌-◌, ◌<◌, ◌≤◌, true, length, slice_index_or, slice_set, ◌⊎◌, inl, inr, sym, ap, subst, ◌∙◌}
use Rattle.std.proofs.lemmas.List.{get_or-set_other, get_or-set_same, length-set, set_past}
use Rattle.vfs_base.specs.declared.entry.Mark.{Mark}
use Rattle.vfs_base.specs.declared.step.Step.{Step}
use Rattle.vfs_model.specs.Boxes.{CellsFit, IsConsistent, file_capacity}
use Rattle.vfs_model.specs.Consistency.{agrees}
use Rattle.vfs_model.specs.FileMoves.{file_step, fits_file}
use Rattle.vfs_model.specs.Homes.{file_at, with_file}
use Rattle.vfs_model.specs.Namespace.{generation_at, life_at}
use Rattle.vfs_model.specs.declared.world.FileState.{FileState}
use Rattle.vfs_model.specs.declared.world.FileState.TheVariants as file
use Rattle.vfs_model.specs.declared.world.WorldState.{WorldState}
use Rattle.world_laws.proofs.parts.FileKeeping.{KeepsAgreeing, file_step-agrees, file_step-capacity}
use Rattle.world_laws.proofs.lists.Lists.{below-or-past, same-or-other}

-- the file of a row, after the file of a row was set
file-set : (w : WorldState) (row other : ℕ) (f : FileState) → other - 1 ≢ row - 1 → file_at (with_file w row f) other ≡ file_at w other
file-set w row other f h = get_or-set_other w.files (row - 1) (other - 1) f (file.Unbound 0) h

set-files : (w : WorldState) (row : ℕ) (f : FileState) → length (with_file w row f).files ≡ length w.files
set-files w row f = length-set w.files (row - 1) f

-- the row itself: where the list has its place the new file stands there, else all is as before
own-agrees : (w : WorldState) (row other : ℕ) (f : FileState) → KeepsAgreeing (file_at w row) f → other - 1 ≡ row - 1 → row - 1 < length w.files →
    agrees (life_at w.namespace other) (generation_at w.namespace other) (file_at w other) ≡ true →
    agrees (life_at w.namespace other) (generation_at w.namespace other) (file_at (with_file w row f) other) ≡ true
own-agrees w row other f keeps e l h =
    let there : file_at (with_file w row f) other ≡ f =
    ap (λ place. slice_index_or (slice_set w.files (row - 1) f) place (file.Unbound 0)) e ∙ get_or-set_same w.files (row - 1) f (file.Unbound 0) l in
    let before : file_at w other ≡ file_at w row = ap (λ place. slice_index_or w.files place (file.Unbound 0)) e in
    subst (λ g. agrees (life_at w.namespace other) (generation_at w.namespace other) g ≡ true) (sym there)
    (keeps (life_at w.namespace other) (generation_at w.namespace other)
    (subst (λ g. agrees (life_at w.namespace other) (generation_at w.namespace other) g ≡ true) before h))

-- one row of the list, at its place or past its end
row-agrees : (w : WorldState) (row other : ℕ) (f : FileState) → KeepsAgreeing (file_at w row) f → (other - 1 ≡ row - 1) ⊎ (other - 1 ≢ row - 1) →
    (row - 1 < length w.files) ⊎ (length w.files ≤ row - 1) →
    agrees (life_at w.namespace other) (generation_at w.namespace other) (file_at w other) ≡ true →
    agrees (life_at w.namespace other) (generation_at w.namespace other) (file_at (with_file w row f) other) ≡ true
row-agrees w row other f keeps (inl e) (inl l) h = own-agrees w row other f keeps e l h
row-agrees w row other f keeps (inl e) (inr l) h =
    subst (λ files. agrees (life_at w.namespace other) (generation_at w.namespace other) (slice_index_or files (other - 1) (file.Unbound 0)) ≡ true)
    (sym (set_past w.files (row - 1) f l)) h
row-agrees w row other f keeps (inr e) l h =
    subst (λ g. agrees (life_at w.namespace other) (generation_at w.namespace other) g ≡ true) (sym (file-set w row other f e)) h

capacity-set : (w : WorldState) (row other : ℕ) (f : FileState) → file_capacity f ≡ file_capacity (file_at w row) → (other - 1 ≡ row - 1) ⊎ (other - 1 ≢ row - 1) →
    (row - 1 < length w.files) ⊎ (length w.files ≤ row - 1) → file_capacity (file_at (with_file w row f) other) ≡ file_capacity (file_at w other)
capacity-set w row other f same (inl e) (inl l) =
    ap (λ place. file_capacity (slice_index_or (slice_set w.files (row - 1) f) place (file.Unbound 0))) e
    ∙ ap file_capacity (get_or-set_same w.files (row - 1) f (file.Unbound 0) l) ∙ same
    ∙ ap (λ place. file_capacity (slice_index_or w.files place (file.Unbound 0))) (sym e)
capacity-set w row other f same (inl e) (inr l) =
    ap (λ files. file_capacity (slice_index_or files (other - 1) (file.Unbound 0))) (set_past w.files (row - 1) f l)
capacity-set w row other f same (inr e) l = ap file_capacity (file-set w row other f e)

cells-fit : (w : WorldState) (row : ℕ) (f : FileState) → file_capacity f ≡ file_capacity (file_at w row) → CellsFit w → CellsFit (with_file w row f)
cells-fit w row f same fit = record {
  live = λ other volume cell h.
      rw (capacity-set w row other f same (same-or-other (other - 1) (row - 1)) (below-or-past (row - 1) (length w.files))) (fit.live other volume cell h);
  home = fit.home;
}

-- a file that agrees with its row's life as the one before did leaves the world consistent
pub with_file-consistent : (w : WorldState) (row : ℕ) (f : FileState) → KeepsAgreeing (file_at w row) f → file_capacity f ≡ file_capacity (file_at w row) →
    IsConsistent w → IsConsistent (with_file w row f)
with_file-consistent w row f keeps same c = record {
  rows_agree = λ other. row-agrees w row other f keeps (same-or-other (other - 1) (row - 1)) (below-or-past (row - 1) (length w.files)) (c.rows_agree other);
  references_live = c.references_live;
  rows_used = c.rows_used;
  references_bounded = c.references_bounded;
  folders_stand = c.folders_stand;
  trees_closed = c.trees_closed;
  boxes_placed = c.boxes_placed;
  live_files_fit = c.live_files_fit;
  cells_fit = cells-fit w row f same c.cells_fit;
  homes_fit = record { volumes = c.homes_fit.volumes; cells = c.homes_fit.cells; devices = c.homes_fit.devices; kept = c.homes_fit.kept; out = c.homes_fit.out };
  roms_closed = c.roms_closed;
  sizes = record {
    files = set-files w row f ∙ c.sizes.files;
    live_files = c.sizes.live_files;
    generations = c.sizes.generations;
    trees = c.sizes.trees;
    working_directories = c.sizes.working_directories;
    mounts = c.sizes.mounts;
  };
}

pub file-consistent : (w : WorldState) (row : ℕ) (asked : Step) (m : Mark) → IsConsistent w → fits_file (file_at w row) asked m ≡ true →
    IsConsistent (with_file w row (file_step (file_at w row) asked m).next)
file-consistent w row asked m c h = with_file-consistent w row _ (file_step-agrees (file_at w row) asked m h) (file_step-capacity (file_at w row) asked m) c
