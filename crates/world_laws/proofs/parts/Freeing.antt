-- A live file that nothing names is freed.
use Rattle.std.proofs.Common.{◌≡◌, ◌≢◌, ℕ, ◌+◌, ◌-◌, ◌<◌, ◌≤◌, Bool, true, false, ◌||◌, Option, Some, None, is_some, IsSomeAnd, [], length, slice_index_or, slice_set, ◌⊎◌, inl, inr, refl, sym, ap, subst, ◌∙◌, arith, if◌then◌else◌}
use Rattle.std.proofs.lemmas.List.{length-set}
use Rattle.std.specs.Prelude.{count_by}
use Rattle.vfs_base.specs.declared.ids.FileId.{FileId}
use Rattle.vfs_base.specs.declared.kinds.Kind.{Kind}
use Rattle.vfs_model.specs.Boxes.{BoxesPlaced, cell_files, is_backed_by, lies_on_cell, lies_on_device, one_if}
use Rattle.vfs_model.specs.Consistency.{IsLive, LivesFit, ReferencesLive}
use Rattle.vfs_model.specs.FileLife.{after_end, backing_of, end_of_dropped, free_if_unused, free_row, is_held, is_linked, no_device, volume_at, with_cell, with_device}
use Rattle.vfs_model.specs.Namespace.{life_at}
use Rattle.vfs_model.specs.declared.namespace.Backing.{Backing}
use Rattle.vfs_model.specs.declared.namespace.Backing.TheVariants as backing
use Rattle.vfs_model.specs.declared.namespace.LiveFile.{LiveFile}
use Rattle.vfs_model.specs.declared.namespace.Namespace.{Namespace}
use Rattle.world_laws.proofs.parts.Beside.{working_directories-beside}
use Rattle.world_laws.proofs.parts.Binding.{Rest, rest-beside, rest-stands, apart-cell, live_files-cell, live_files-set, out-here, out-other, own-cell, this-or-other}
use Rattle.world_laws.proofs.lists.Lists.{number-itself, other-number, same-or-other, set-here, set-there}
use Rattle.world_laws.proofs.parts.Standing.{Held, IsUsed, Linked, Nothing, Only, Stands, unused-not, used-again}
use Rattle.world_laws.proofs.parts.Taking.{BoxesBut, CellsPlaced, DevicesPlaced, boxes-all, boxes-but, but-cell, but-device, but-life, cell-files, cell-pages, count-set, spare-here, spare-other, with_life}

-- the row is free, and its generation is as before
abbrev pub without_life : Namespace → ℕ → Namespace
without_life n row = with_life n row None n.generations

-- a file of another row lives on
pub alive-freed : (n : Namespace) (row : ℕ) (id : FileId) (kind : Kind) (number : ℕ) → id.row - 1 ≢ row - 1 →
    IsLive n id kind number → IsLive (without_life n row) id kind number
alive-freed n row id kind number other live = record {
  row = live.row;
  generation = live.generation;
  life = subst (λ x. IsSomeAnd x (λ life. (life.kind ≡ kind) × (life.mount ≡ number))) (sym (set-there n.live_files (row - 1) (id.row - 1) None None other)) live.life;
}

rows-differ : (row other : ℕ) → 0 < row → 0 < other → other ≢ row → other - 1 ≢ row - 1
rows-differ row other l m h = λ e. h (omega (arith, e))

pub live-freed : (n : Namespace) (row : ℕ) → 0 < row → (Linked n row → Unit {0} → ⊥) → (Held n row → Unit {0} → ⊥) → ReferencesLive n → ReferencesLive (without_life n row)
live-freed n row l unlinked unheld live = record {
  linked = λ number path id kind h.
      let alive = live.linked number path id kind h in
      alive-freed n row id kind number (rows-differ row id.row l alive.row
      (λ e. unlinked (record { number = number; path = path; id = id; kind = kind; there = h; is = e }) tt)) alive;
  held = λ place reference h.
      let good = live.held place reference h in (
        alive-freed n row reference.file reference.kind reference.mount (rows-differ row reference.file.row l good.0.row
            (λ e. unheld (record { place = place; reference = reference; there = h; is = e }) tt)) good.0,
        good.1,
      );
}

used-freed : (n : Namespace) (row other : ℕ) → row - 1 < length n.live_files → 0 < row → 0 < other → (other - 1 ≡ row - 1) ⊎ (other - 1 ≢ row - 1) →
    ((at : ℕ) → 0 < at → is_some (life_at n at) ≡ true → IsUsed (Only row) n at) →
    is_some (slice_index_or (slice_set n.live_files (row - 1) None) (other - 1) None) ≡ true → IsUsed Nothing n other
used-freed n row other within l m (inl e) used h =
    let none : slice_index_or (slice_set n.live_files (row - 1) None) (other - 1) None ≡ None =
    ap (λ k. slice_index_or (slice_set n.live_files (row - 1) None) k None) e ∙ set-here n.live_files (row - 1) None None within in
    let no : is_some (slice_index_or (slice_set n.live_files (row - 1) None) (other - 1) None) ≡ false = ap is_some none in
    absurd (cc)
used-freed n row other within l m (inr e) used h =
    without (used other m (ap is_some (sym (set-there n.live_files (row - 1) (other - 1) None None e)) ∙ h))
  where
    without : IsUsed (Only row) n other → IsUsed Nothing n other
    without (inl linked) = inl linked
    without (inr (inl held)) = inr (inl held)
    without (inr (inr same)) = absurd (e (ap (λ x. x - 1) same))

-- a live file's backing, or nothing of a free row
pub backed-by : (test : Backing → Bool) (found : Option LiveFile) → test backing.Memory ≡ false → is_backed_by test found ≡ test (backing_of found)
backed-by test None h = sym h
backed-by test (Some life) h = refl

pub cells-freed : (n : Namespace) (row volume cell : ℕ) → row - 1 < length n.live_files →
    cell_files (without_life n row) volume cell + one_if (lies_on_cell volume cell (backing_of (life_at n row))) ≡ cell_files n volume cell
cells-freed n row volume cell l =
    let counted = count-set (is_backed_by (lies_on_cell volume cell)) n.live_files (row - 1) None None l in
    let was : one_if (is_backed_by (lies_on_cell volume cell) (life_at n row)) ≡ one_if (lies_on_cell volume cell (backing_of (life_at n row))) =
    ap one_if (backed-by (lies_on_cell volume cell) (life_at n row) refl) in
    omega (arith, counted, was)

pub devices-freed : (n : Namespace) (row device : ℕ) → row - 1 < length n.live_files →
    count_by (is_backed_by (lies_on_device device)) (slice_set n.live_files (row - 1) None) + one_if (lies_on_device device (backing_of (life_at n row))) ≡
    count_by (is_backed_by (lies_on_device device)) n.live_files
devices-freed n row device l =
    let counted = count-set (is_backed_by (lies_on_device device)) n.live_files (row - 1) None None l in
    let was : one_if (is_backed_by (lies_on_device device) (life_at n row)) ≡ one_if (lies_on_device device (backing_of (life_at n row))) =
    ap one_if (backed-by (lies_on_device device) (life_at n row) refl) in
    omega (arith, counted, was)

cells-dropped : (n : Namespace) (row : ℕ) → row - 1 < length n.live_files → ((volume : ℕ) → length (volume_at n volume).spare ≡ length (volume_at n volume).pages) → CellsPlaced n →
    (b : Backing) → backing_of (life_at n row) ≡ b → CellsPlaced (after_end (without_life n row) (end_of_dropped b))
cells-dropped n row l spares cells backing.Memory e volume cell v c =
    let freed = cells-freed n row volume cell l in
    let none : one_if (lies_on_cell volume cell (backing_of (life_at n row))) ≡ 0 = ap (λ x. one_if (lies_on_cell volume cell x)) e in
    let before = cells volume cell v c in
    omega (arith, freed, none, before)
cells-dropped n row l spares cells (backing.Device device) e volume cell v c =
    let freed = cells-freed n row volume cell l in
    let none : one_if (lies_on_cell volume cell (backing_of (life_at n row))) ≡ 0 = ap (λ x. one_if (lies_on_cell volume cell x)) e in
    let before = cells volume cell v c in
    omega (arith, freed, none, before)
cells-dropped n row l spares cells (backing.Cell w d) e volume cell v c =
    let m = without_life n row in
    let freed = cells-freed n row volume cell l in
    let same = cell-files true m w d volume cell in
    let within : volume < length n.volumes = subst (λ x. volume < x) (length-set n.volumes w _) v in
    let in_pages : cell < length (volume_at n volume).pages = subst (λ xs. cell < length xs) (cell-pages true m w d volume) c in
    let before = cells volume cell within in_pages in
    elim (this-or-other volume cell w d) [
      | inl h ↦
          let one : one_if (lies_on_cell volume cell (backing_of (life_at n row))) ≡ 1 =
          ap (λ x. one_if (lies_on_cell volume cell x)) (e ∙ ap (λ x. backing.Cell x d) (sym h.0) ∙ ap (λ x. backing.Cell volume x) (sym h.1)) ∙ ap one_if (own-cell volume cell) in
          let spare : cell < length (volume_at n volume).spare = subst (λ x. cell < x) (sym (spares volume)) in_pages in
          let is : one_if (slice_index_or (volume_at (with_cell true m w d) volume).spare cell false) ≡ 1 =
          ap (λ x. one_if (slice_index_or (volume_at (with_cell true m w x) volume).spare cell false)) (sym h.1)
          ∙ ap (λ x. one_if (slice_index_or (volume_at (with_cell true m x cell) volume).spare cell false)) (sym h.0) ∙ ap one_if (spare-here true m volume cell within spare) in
          omega (arith, freed, same, before, one, is)
      | inr h ↦
          let none : one_if (lies_on_cell volume cell (backing_of (life_at n row))) ≡ 0 = ap (λ x. one_if (lies_on_cell volume cell x)) e ∙ ap one_if (apart-cell volume cell w d h) in
          let is : one_if (slice_index_or (volume_at (with_cell true m w d) volume).spare cell false) ≡ one_if (slice_index_or (volume_at n volume).spare cell false) =
          ap one_if (spare-other true m w d volume cell h) in
          omega (arith, freed, same, before, none, is)
    ]

devices-dropped : (n : Namespace) (row : ℕ) → row - 1 < length n.live_files → DevicesPlaced n →
    (b : Backing) → backing_of (life_at n row) ≡ b → DevicesPlaced (after_end (without_life n row) (end_of_dropped b))
devices-dropped n row l devices backing.Memory e device d =
    let freed = devices-freed n row device l in
    let none : one_if (lies_on_device device (backing_of (life_at n row))) ≡ 0 = ap (λ x. one_if (lies_on_device device x)) e in
    let before = devices device d in
    omega (arith, freed, none, before)
devices-dropped n row l devices (backing.Cell v c) e device d =
    let freed = devices-freed n row device l in
    let none : one_if (lies_on_device device (backing_of (life_at n row))) ≡ 0 = ap (λ x. one_if (lies_on_device device x)) e in
    let before = devices device d in
    omega (arith, freed, none, before)
devices-dropped n row l devices (backing.Device one) e device d =
    let m = without_life n row in
    let within : device < length n.devices = subst (λ x. device < x) (length-set n.devices one _) d in
    let freed = devices-freed n row device l in
    let before = devices device within in
    elim (same-or-other device one) [
      | inr h ↦
          let none : one_if (lies_on_device device (backing_of (life_at n row))) ≡ 0 = ap (λ x. one_if (lies_on_device device x)) e ∙ ap one_if (other-number one device (λ f. h (sym f))) in
          let same = ap one_if (out-other false m one device h) in
          omega (arith, freed, none, before, same)
      | inl h ↦
          let counts : one_if (lies_on_device device (backing_of (life_at n row))) ≡ 1 =
          ap (λ x. one_if (lies_on_device device x)) (e ∙ ap backing.Device (sym h)) ∙ ap one_if (number-itself device) in
          let is : one_if (slice_index_or (with_device false m one).devices device no_device).is_out ≡ 0 =
          ap (λ x. one_if (slice_index_or (with_device false m x).devices device no_device).is_out) (sym h) ∙ ap one_if (out-here false m device within) in
          let most : one_if (slice_index_or n.devices device no_device).is_out ≤ 1 = at-most (slice_index_or n.devices device no_device).is_out in
          omega (arith, freed, counts, is, before, most)
    ]
  where
    at-most : (b : Bool) → one_if b ≤ 1
    at-most true = omega arith
    at-most false = omega arith

but-dropped : (m : Namespace) (b : Backing) → BoxesBut m → BoxesBut (after_end m (end_of_dropped b))
but-dropped m backing.Memory boxes = boxes
but-dropped m (backing.Cell volume cell) boxes = but-cell true m volume cell boxes
but-dropped m (backing.Device device) boxes = but-device false m device boxes

pub live_files-dropped : (m : Namespace) (b : Backing) → LivesFit m → LivesFit (after_end m (end_of_dropped b))
live_files-dropped m backing.Memory fit = fit
live_files-dropped m (backing.Cell volume cell) fit = live_files-cell true m volume cell fit
live_files-dropped m (backing.Device device) fit = fit

pub boxes-dropped : (n : Namespace) (row : ℕ) → row - 1 < length n.live_files → BoxesPlaced n →
    BoxesPlaced (after_end (without_life n row) (end_of_dropped (backing_of (life_at n row))))
boxes-dropped n row l boxes =
    boxes-all _
    (cells-dropped n row l boxes.spares boxes.cells (backing_of (life_at n row)) refl)
    (devices-dropped n row l boxes.devices (backing_of (life_at n row)) refl)
    (but-dropped (without_life n row) (backing_of (life_at n row)) (but-life n row None n.generations refl (boxes-but n boxes)))

pub rest-dropped : (Excused : ℕ → Type 0) (m : Namespace) (b : Backing) → Rest Excused m → Rest Excused (after_end m (end_of_dropped b))
rest-dropped Excused m backing.Memory s = s
rest-dropped Excused m (backing.Cell volume cell) s = rest-beside Excused m (with_cell true m volume cell).volumes m.devices s
rest-dropped Excused m (backing.Device device) s = rest-beside Excused m m.volumes (with_device false m device).devices s

-- a row that nothing names is freed
pub free-stands : (n : Namespace) (row : ℕ) → 0 < row → row - 1 < 1024 → (is_linked n row || is_held n row) ≡ false → Stands (Only row) n →
    Stands Nothing (after_end (without_life n row) (end_of_dropped (backing_of (life_at n row))))
free-stands n row l small unused s =
    let within : row - 1 < length n.live_files = subst (λ x. row - 1 < x) (sym s.sizes.live_files) small in
    rest-stands Nothing _
    (rest-dropped Nothing (without_life n row) (backing_of (life_at n row)) (record {
      live = live-freed n row l (λ linked u. unused-not Nothing n row unused (inl linked)) (λ held u. unused-not Nothing n row unused (inr (inl held))) s.live;
      used = λ other m h. used-freed n row other within l m (same-or-other (other - 1) (row - 1)) s.used h;
      alone = s.alone;
      working_directories = working_directories-beside n (slice_set n.live_files (row - 1) None) n.generations n.references n.volumes n.devices s.working_directories;
      trees = s.trees;
      roms = s.roms;
      sizes = record {
        live_files = length-set n.live_files (row - 1) None ∙ s.sizes.live_files;
        generations = s.sizes.generations;
        trees = s.sizes.trees;
        working_directories = s.sizes.working_directories;
        mounts = s.sizes.mounts;
        references = s.sizes.references;
      };
    }))
    (boxes-dropped n row within s.boxes)
    (live_files-dropped (without_life n row) (backing_of (life_at n row)) (live_files-set n row None n.generations (λ life e. absurd (cc)) s.live_files))

unused-by : (n : Namespace) (row : ℕ) (named : Bool) → (is_linked n row || is_held n row) ≡ named → 0 < row → row - 1 < 1024 → Stands (Only row) n →
    Stands Nothing (if named then record { next = n; changes = [] } else free_row end_of_dropped (record { next = n; changes = [] }) row).next
unfolding free_row
unused-by n row true e l small s = record {
  live = s.live;
  used = λ other m h. used-again n s.trees other row e (s.used other m h);
  alone = s.alone;
  working_directories = s.working_directories;
  trees = s.trees;
  boxes = s.boxes;
  live_files = s.live_files;
  roms = s.roms;
  sizes = s.sizes;
}
unused-by n row false e l small s = free-stands n row l small e s

-- a file that has lost a name or a reference is freed where nothing names it any more
pub unused-stands : (n : Namespace) (row : ℕ) → 0 < row → row - 1 < 1024 → Stands (Only row) n → Stands Nothing (free_if_unused n row).next
unfolding free_if_unused
unused-stands n row l small s = unused-by n row (is_linked n row || is_held n row) refl l small s
