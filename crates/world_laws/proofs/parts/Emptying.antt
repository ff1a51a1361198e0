-- The files of a mount are freed, one row after the other.
use Rattle.std.proofs.Common.{◌≡◌, ◌≢◌, ℕ, ◌+◌, ◌-◌, ◌<◌, ◌≤◌, Bool, true, false, Option, Some, None, is_some, IsSomeAnd, List, [], ◌∷◌, ◌++◌, length, fold, slice_index_or, slice_set, ◌⊎◌, inl, inr, refl, sym, ap, subst, ◌∙◌, arith}
use Rattle.std.proofs.lemmas.List.{length-set}
use Rattle.std.proofs.lemmas.List.Sums.{fold-append, sum_by-cons}
use Rattle.std.specs.Prelude.{count_by}
use Rattle.vfs_model.specs.Boxes.{cell_files, is_backed_by, lies_on_cell, lies_on_device, one_if}
use Rattle.vfs_model.specs.Consistency.{fits_mount, mount_numbered}
use Rattle.vfs_model.specs.FileLife.{after_end, backing_of, end_of_unmounted, free_row, no_device, no_volume, volume_at, with_device}
use Rattle.vfs_model.specs.Homes.{cell_capacity, change_row}
use Rattle.vfs_model.specs.Namespace.{file_of, life_at}
use Rattle.vfs_model.specs.UmountSteps.{is_of_mount}
use Rattle.vfs_model.specs.declared.namespace.Backing.{Backing}
use Rattle.vfs_model.specs.declared.namespace.Backing.TheVariants as backing
use Rattle.vfs_model.specs.declared.namespace.LiveFile.{LiveFile}
use Rattle.vfs_model.specs.declared.namespace.Namespace.{Namespace}
use Rattle.vfs_model.specs.declared.namespace.RowChange.{RowChange}
use Rattle.vfs_model.specs.declared.namespace.RowChange.TheVariants as change
use Rattle.vfs_model.specs.declared.world.WorldState.{WorldState}
use Rattle.world_laws.proofs.parts.Agreeing.{Agrees, free-agrees}
use Rattle.world_laws.proofs.parts.AtHome.{IsAlone, MayEnd, no-cell}
use Rattle.world_laws.proofs.parts.Beside.{working_directories-beside}
use Rattle.world_laws.proofs.parts.Binding.{Rest, out-here, out-other, own-cell, rest-beside}
use Rattle.world_laws.proofs.lists.Counting.{count-place}
use Rattle.world_laws.proofs.parts.Freeing.{alive-freed, backed-by, cells-freed, devices-freed, without_life}
use Rattle.world_laws.proofs.lists.Lists.{number-itself, other-number, same-number, same-or-other, set-here, set-there, some-within}
use Rattle.world_laws.proofs.parts.Standing.{Held, IsUsed, Linked, LinkedIn}
use Rattle.world_laws.proofs.parts.Taking.{BoxesBut, DevicesPlaced, but-device, but-life, count-set}

-- a row is one of the list
abbrev pub InRows : List ℕ → ℕ → Type 0
InRows [] row = ⊥
InRows (r ∷ rows) row = (row ≡ r) ⊎ InRows rows row

-- each row of the list is above the one
abbrev pub AllAbove : ℕ → List ℕ → Type 0
AllAbove row [] = Unit {0}
AllAbove row (r ∷ rows) = (row < r) × AllAbove row rows

-- rising rows of live files of the mount
abbrev pub RowsLeft : ℕ → Namespace → List ℕ → Type 0
RowsLeft number m [] = Unit {0}
RowsLeft number m (r ∷ rows) = (0 < r) × (r - 1 < 1024) × (is_of_mount number (life_at m r) ≡ true) × AllAbove r rows × RowsLeft number m rows

-- how many of these rows have a cell
abbrev pub twice : Namespace → ℕ → ℕ → List ℕ → ℕ
twice m volume cell rows = count_by (λ row. is_backed_by (lies_on_cell volume cell) (life_at m row)) rows

-- a mount's files on the way to be freed
pub record Empty (number : ℕ) (m : Namespace) (left : List ℕ) : Type 0 where
  pub rest : Rest (InRows left) m
  pub boxes : BoxesBut m
  pub devices : DevicesPlaced m
  -- its volume keeps the files already, so the cells of those that are left are counted twice
  pub cells : (volume cell : ℕ) → volume < length m.volumes → cell < length (volume_at m volume).pages →
      cell_files m volume cell + one_if (slice_index_or (volume_at m volume).spare cell false) ≡ 1 + twice m volume cell left
  -- but by one live file at most
  pub lone : (volume cell : ℕ) → volume < length m.volumes → cell < length (volume_at m volume).pages →
      count_by (is_backed_by (lies_on_cell volume cell)) m.live_files + one_if (slice_index_or (volume_at m volume).spare cell false) ≤ 1
  pub live_files : (row : ℕ) (life : LiveFile) → life_at m row ≡ Some life → life.mount ≢ number → IsSomeAnd (mount_numbered m life.mount) (λ mount. fits_mount m life mount ≡ true)
  -- each live file of the mount is left, and nothing names it
  pub whole : (row : ℕ) (life : LiveFile) → 0 < row → life_at m row ≡ Some life → life.mount ≡ number → InRows left row
  pub rows : RowsLeft number m left
  pub unlinked : (row : ℕ) → InRows left row → Linked m row → Unit {0} → ⊥
  pub unheld : (row : ℕ) → InRows left row → Held m row → Unit {0} → ⊥

pub above-apart : (row other : ℕ) (rows : List ℕ) → AllAbove row rows → InRows rows other → other ≢ row
above-apart row other [] above i e = absurd i
above-apart row other (r ∷ rows) above (inl same) e = let l = above.0 in absurd (omega (arith, l, same, e))
above-apart row other (r ∷ rows) above (inr i) e = above-apart row other rows above.1 i e

-- other rows' lives after one was freed
pub still-life : (m : Namespace) (row other : ℕ) → other - 1 ≢ row - 1 → life_at (without_life m row) other ≡ life_at m other
still-life m row other h = set-there m.live_files (row - 1) (other - 1) None None h

pub rows-differ : (row other : ℕ) → 0 < row → row < other → other - 1 ≢ row - 1
rows-differ row other l m e = omega (arith, l, m, e)

still-left : (number : ℕ) (m : Namespace) (row : ℕ) (rows : List ℕ) → 0 < row → AllAbove row rows → RowsLeft number m rows → RowsLeft number (without_life m row) rows
still-left number m row [] l above left = tt
still-left number m row (r ∷ rows) l above left =
    (left.0, left.1, ap (is_of_mount number) (still-life m row r (rows-differ row r l above.0)) ∙ left.2, left.3, still-left number m row rows l above.1 left.4)

still-twice : (m : Namespace) (row volume cell : ℕ) (rows : List ℕ) → 0 < row → AllAbove row rows → twice (without_life m row) volume cell rows ≡ twice m volume cell rows
still-twice m row volume cell [] l above = refl
still-twice m row volume cell (r ∷ rows) l above =
    let now : twice (without_life m row) volume cell (r ∷ rows) ≡ one_if (is_backed_by (lies_on_cell volume cell) (life_at (without_life m row) r)) + twice (without_life m row) volume cell rows =
    sum_by-cons (λ x. one_if (is_backed_by (lies_on_cell volume cell) (life_at (without_life m row) x))) r rows in
    let before : twice m volume cell (r ∷ rows) ≡ one_if (is_backed_by (lies_on_cell volume cell) (life_at m r)) + twice m volume cell rows =
    sum_by-cons (λ x. one_if (is_backed_by (lies_on_cell volume cell) (life_at m x))) r rows in
    let same = ap (λ x. one_if (is_backed_by (lies_on_cell volume cell) x)) (still-life m row r (rows-differ row r l above.0)) in
    let later = still-twice m row volume cell rows l above.1 in
    omega (arith, now, before, same, later)

ended-twice : (m : Namespace) (b : Backing) (volume cell : ℕ) (rows : List ℕ) → twice (after_end m (end_of_unmounted b)) volume cell rows ≡ twice m volume cell rows
ended-twice m backing.Memory volume cell rows = refl
ended-twice m (backing.Cell v c) volume cell rows = refl
ended-twice m (backing.Device device) volume cell rows = refl

ended-cells : (m : Namespace) (b : Backing) (volume cell : ℕ) →
    (cell_files (after_end m (end_of_unmounted b)) volume cell ≡ cell_files m volume cell) × ((after_end m (end_of_unmounted b)).volumes ≡ m.volumes)
ended-cells m backing.Memory volume cell = (refl, refl)
ended-cells m (backing.Cell v c) volume cell = (refl, refl)
ended-cells m (backing.Device device) volume cell = (refl, refl)

rest-ended : (Excused : ℕ → Type 0) (m : Namespace) (b : Backing) → Rest Excused m → Rest Excused (after_end m (end_of_unmounted b))
rest-ended Excused m backing.Memory s = s
rest-ended Excused m (backing.Cell v c) s = s
rest-ended Excused m (backing.Device device) s = rest-beside Excused m m.volumes (with_device false m device).devices s

but-ended : (m : Namespace) (b : Backing) → BoxesBut m → BoxesBut (after_end m (end_of_unmounted b))
but-ended m backing.Memory boxes = boxes
but-ended m (backing.Cell v c) boxes = boxes
but-ended m (backing.Device device) boxes = but-device false m device boxes

at-most : (b : Bool) → one_if b ≤ 1
at-most true = omega arith
at-most false = omega arith

devices-ended : (n : Namespace) (row : ℕ) → row - 1 < length n.live_files → DevicesPlaced n → (b : Backing) → backing_of (life_at n row) ≡ b → DevicesPlaced (after_end (without_life n row) (end_of_unmounted b))
devices-ended n row l devices backing.Memory e device d =
    let freed = devices-freed n row device l in
    let none : one_if (lies_on_device device (backing_of (life_at n row))) ≡ 0 = ap (λ x. one_if (lies_on_device device x)) e in
    let before = devices device d in
    omega (arith, freed, none, before)
devices-ended n row l devices (backing.Cell v c) e device d =
    let freed = devices-freed n row device l in
    let none : one_if (lies_on_device device (backing_of (life_at n row))) ≡ 0 = ap (λ x. one_if (lies_on_device device x)) e in
    let before = devices device d in
    omega (arith, freed, none, before)
devices-ended n row l devices (backing.Device one) e device d =
    let m = without_life n row in
    let within : device < length n.devices = subst (λ x. device < x) (length-set n.devices one _) d in
    let freed = devices-freed n row device l in
    let before = devices device within in
    elim (same-or-other device one) [
      | inr h ↦
          let none : one_if (lies_on_device device (backing_of (life_at n row))) ≡ 0 = ap (λ x. one_if (lies_on_device device x)) e ∙ ap one_if (other-number one device (λ f. h (sym f))) in
          let same = ap one_if (out-other false m one device h) in
          omega (arith, freed, none, before, same)
      | inl h ↦
          let counts : one_if (lies_on_device device (backing_of (life_at n row))) ≡ 1 =
          ap (λ x. one_if (lies_on_device device x)) (e ∙ ap backing.Device (sym h)) ∙ ap one_if (number-itself device) in
          let is : one_if (slice_index_or (with_device false m one).devices device no_device).is_out ≡ 0 =
          ap (λ x. one_if (slice_index_or (with_device false m x).devices device no_device).is_out) (sym h) ∙ ap one_if (out-here false m device within) in
          let most : one_if (slice_index_or n.devices device no_device).is_out ≤ 1 = at-most (slice_index_or n.devices device no_device).is_out in
          omega (arith, freed, counts, is, before, most)
    ]

ended-same : (m : Namespace) (b : Backing) → ((after_end m (end_of_unmounted b)).live_files ≡ m.live_files) × ((after_end m (end_of_unmounted b)).trees ≡ m.trees)
    × ((after_end m (end_of_unmounted b)).references ≡ m.references) × ((after_end m (end_of_unmounted b)).root ≡ m.root) × ((after_end m (end_of_unmounted b)).mounts ≡ m.mounts)
ended-same m backing.Memory = (refl, refl, refl, refl, refl)
ended-same m (backing.Cell v c) = (refl, refl, refl, refl, refl)
ended-same m (backing.Device device) = (refl, refl, refl, refl, refl)

pub used-left : (m : Namespace) (row other : ℕ) (rows : List ℕ) → row - 1 < length m.live_files → 0 < row → 0 < other → (other - 1 ≡ row - 1) ⊎ (other - 1 ≢ row - 1) →
    ((at : ℕ) → 0 < at → is_some (life_at m at) ≡ true → IsUsed (InRows (row ∷ rows)) m at) →
    is_some (slice_index_or (slice_set m.live_files (row - 1) None) (other - 1) None) ≡ true → IsUsed (InRows rows) (without_life m row) other
used-left m row other rows within l k (inl e) used h =
    let none : is_some (slice_index_or (slice_set m.live_files (row - 1) None) (other - 1) None) ≡ false =
    ap (λ x. is_some (slice_index_or (slice_set m.live_files (row - 1) None) x None)) e ∙ ap is_some (set-here m.live_files (row - 1) None None within) in
    absurd (cc)
used-left m row other rows within l k (inr e) used h = fewer (used other k (ap is_some (sym (set-there m.live_files (row - 1) (other - 1) None None e)) ∙ h))
  where
    fewer : IsUsed (InRows (row ∷ rows)) m other → IsUsed (InRows rows) (without_life m row) other
    fewer (inl linked) = inl linked
    fewer (inr (inl held)) = inr (inl held)
    fewer (inr (inr (inl same))) = absurd (e (ap (λ x. x - 1) same))
    fewer (inr (inr (inr later))) = inr (inr later)

pub of-mount : (number : ℕ) (found : Option LiveFile) → is_of_mount number found ≡ true → (life : LiveFile) × (found ≡ Some life) × (life.mount ≡ number)
of-mount number None h = absurd (cc)
of-mount number (Some life) h = (life, refl, same-number life.mount number h)

live_files-beside-end : (m : Namespace) (number : ℕ) (b : Backing) →
    ((row : ℕ) (life : LiveFile) → life_at m row ≡ Some life → life.mount ≢ number → IsSomeAnd (mount_numbered m life.mount) (λ mount. fits_mount m life mount ≡ true)) →
    (row : ℕ) (life : LiveFile) → life_at (after_end m (end_of_unmounted b)) row ≡ Some life → life.mount ≢ number →
    IsSomeAnd (mount_numbered (after_end m (end_of_unmounted b)) life.mount) (λ mount. fits_mount (after_end m (end_of_unmounted b)) life mount ≡ true)
live_files-beside-end m number backing.Memory fit = fit
live_files-beside-end m number (backing.Cell v c) fit = fit
live_files-beside-end m number (backing.Device device) fit = fit

rows-left-beside : (number : ℕ) (m : Namespace) (b : Backing) (rows : List ℕ) → RowsLeft number m rows → RowsLeft number (after_end m (end_of_unmounted b)) rows
rows-left-beside number m b [] left = tt
rows-left-beside number m b (r ∷ rows) left =
    (left.0, left.1, ap (λ live_files. is_of_mount number (slice_index_or live_files (r - 1) None)) (ended-same m b).0 ∙ left.2, left.3, rows-left-beside number m b rows left.4)

-- one row is freed
pub empty-one : (number : ℕ) (m : Namespace) (row : ℕ) (rows : List ℕ) (changes : List RowChange) → Empty number m (row ∷ rows) →
    Empty number (free_row end_of_unmounted (record { next = m; changes = changes }) row).next rows
unfolding free_row
empty-one number m row rows changes f =
    let left = f.rows in
    let b = backing_of (life_at m row) in
    let t = without_life m row in
    let within : row - 1 < length m.live_files = subst (λ x. row - 1 < x) (sym f.rest.sizes.live_files) left.1 in
    let same = ended-same t b in
    record {
      rest = rest-ended (InRows rows) t b (record {
        live = record {
          linked = λ at path id kind h.
              let alive = f.rest.live.linked at path id kind h in
              alive-freed m row id kind at (apart row id.row left.0 alive.row (λ e. f.unlinked row (inl refl) (record { number = at; path = path; id = id; kind = kind; there = h; is = e }) tt)) alive;
          held = λ place reference h.
              let good = f.rest.live.held place reference h in (
                alive-freed m row reference.file reference.kind reference.mount
                    (apart row reference.file.row left.0 good.0.row (λ e. f.unheld row (inl refl) (record { place = place; reference = reference; there = h; is = e }) tt)) good.0,
                good.1,
              );
        };
        used = λ other l h. used-left m row other rows within left.0 l (same-or-other (other - 1) (row - 1)) f.rest.used h;
        alone = f.rest.alone;
        working_directories = working_directories-beside m (slice_set m.live_files (row - 1) None) m.generations m.references m.volumes m.devices f.rest.working_directories;
        trees = f.rest.trees;
        roms = f.rest.roms;
        sizes = record {
          live_files = length-set m.live_files (row - 1) None ∙ f.rest.sizes.live_files;
          generations = f.rest.sizes.generations;
          trees = f.rest.sizes.trees;
          working_directories = f.rest.sizes.working_directories;
          mounts = f.rest.sizes.mounts;
          references = f.rest.sizes.references;
        };
      });
      boxes = but-ended t b (but-life m row None m.generations refl f.boxes);
      devices = devices-ended m row within f.devices b refl;
      cells = λ volume cell v c.
          let alike = ended-cells t b volume cell in
          let before = f.cells volume cell (subst (λ vs. volume < length vs) alike.1 v) (subst (λ vs. cell < length (slice_index_or vs volume no_volume).pages) alike.1 c) in
          let freed = cells-freed m row volume cell within in
          let one : twice m volume cell (row ∷ rows) ≡ one_if (is_backed_by (lies_on_cell volume cell) (life_at m row)) + twice m volume cell rows =
          sum_by-cons (λ x. one_if (is_backed_by (lies_on_cell volume cell) (life_at m x))) row rows in
          let backed = ap one_if (backed-by (lies_on_cell volume cell) (life_at m row) refl) in
          let later = ended-twice t b volume cell rows in
          let still = still-twice m row volume cell rows left.0 left.3 in
          let spare = ap (λ vs. one_if (slice_index_or (slice_index_or vs volume no_volume).spare cell false)) alike.1 in
          let files = alike.0 in
          omega (arith, before, freed, one, backed, later, still, spare, files);
      lone = λ volume cell v c.
          let alike = ended-cells t b volume cell in
          let before = f.lone volume cell (subst (λ vs. volume < length vs) alike.1 v) (subst (λ vs. cell < length (slice_index_or vs volume no_volume).pages) alike.1 c) in
          let counted = count-set (is_backed_by (lies_on_cell volume cell)) m.live_files (row - 1) None None within in
          let spare = ap (λ vs. one_if (slice_index_or (slice_index_or vs volume no_volume).spare cell false)) alike.1 in
          let lives = ap (λ all. count_by (is_backed_by (lies_on_cell volume cell)) all) same.0 in
          omega (arith, before, counted, spare, lives);
      live_files = live_files-beside-end t number b (λ other life h apart. live_files-before other life h apart (same-or-other (other - 1) (row - 1)));
      whole = λ other life l h e. whole-left other life l (subst (λ live_files. slice_index_or live_files (other - 1) None ≡ Some life) same.0 h) e (same-or-other (other - 1) (row - 1));
      rows = rows-left-beside number t b rows (still-left number m row rows left.0 left.3 left.4);
      unlinked = λ other i linked u. f.unlinked other (inr i) (subst (λ trees. LinkedIn trees other) same.1 linked) tt;
      unheld = λ other i held u. f.unheld other (inr i) (record { place = held.place; reference = held.reference; there = subst (λ references. slice_index_or references held.place None ≡ Some held.reference) same.2 held.there; is = held.is }) tt;
    }
  where
    apart : (row other : ℕ) → 0 < row → 0 < other → (other ≡ row → ⊥) → other - 1 ≢ row - 1
    apart row other l k h e = h (omega (arith, l, k, e))

    gone : (other : ℕ) (life : LiveFile) → other - 1 ≡ row - 1 → slice_index_or (slice_set m.live_files (row - 1) None) (other - 1) None ≢ Some life
    gone other life e h =
        let none : slice_index_or (slice_set m.live_files (row - 1) None) (other - 1) None ≡ None =
        ap (λ x. slice_index_or (slice_set m.live_files (row - 1) None) x None) e ∙ set-here m.live_files (row - 1) None None (subst (λ x. row - 1 < x) (sym f.rest.sizes.live_files) f.rows.1) in
        absurd (cc)

    live_files-before : (other : ℕ) (life : LiveFile) → slice_index_or (slice_set m.live_files (row - 1) None) (other - 1) None ≡ Some life → life.mount ≢ number → (other - 1 ≡ row - 1) ⊎ (other - 1 ≢ row - 1) →
        IsSomeAnd (mount_numbered m life.mount) (λ mount. fits_mount m life mount ≡ true)
    live_files-before other life h away (inl e) = absurd (gone other life e h)
    live_files-before other life h away (inr e) = f.live_files other life (sym (set-there m.live_files (row - 1) (other - 1) None None e) ∙ h) away

    whole-left : (other : ℕ) (life : LiveFile) → 0 < other → slice_index_or (slice_set m.live_files (row - 1) None) (other - 1) None ≡ Some life → life.mount ≡ number → (other - 1 ≡ row - 1) ⊎ (other - 1 ≢ row - 1) → InRows rows other
    whole-left other life l h e (inl k) = absurd (gone other life k h)
    whole-left other life l h e (inr k) = later (f.whole other life l (sym (set-there m.live_files (row - 1) (other - 1) None None k) ∙ h) e)
      where
        later : InRows (row ∷ rows) other → InRows rows other
        later (inl same) = absurd (k (ap (λ x. x - 1) same))
        later (inr i) = i

-- a file on a cell is the only one there
pub backed : (volume cell : ℕ) (found : Option LiveFile) → backing_of found ≡ backing.Cell volume cell → is_backed_by (lies_on_cell volume cell) found ≡ true
backed volume cell None h = absurd (no-cell volume cell h)
backed volume cell (Some life) h = ap (lies_on_cell volume cell) h ∙ own-cell volume cell

pub live-within : (lives : List (Option LiveFile)) (place volume cell : ℕ) → backing_of (slice_index_or lives place None) ≡ backing.Cell volume cell → place < length lives
live-within lives place volume cell h = by (slice_index_or lives place None) refl h
  where
    by : (found : Option LiveFile) → slice_index_or lives place None ≡ found → backing_of (slice_index_or lives place None) ≡ backing.Cell volume cell → place < length lives
    by None e k = absurd (no-cell volume cell (sym (ap backing_of e) ∙ k))
    by (Some life) e k = some-within lives place life e

pub not-one : (b : Bool) → one_if b ≡ 0 → b ≡ false
not-one true h = absurd (omega (arith, h))
not-one false h = refl

alone-of : (number : ℕ) (m : Namespace) (row : ℕ) (rows : List ℕ) (volume cell : ℕ) → Empty number m (row ∷ rows) → backing_of (life_at m row) ≡ backing.Cell volume cell → IsAlone m row volume cell
alone-of number m row rows volume cell f e = λ v c.
    let within : row - 1 < length m.live_files = live-within m.live_files (row - 1) volume cell e in
    let most = f.lone volume cell v c in
    let counted = count-set (is_backed_by (lies_on_cell volume cell)) m.live_files (row - 1) None None within in
    let was : one_if (is_backed_by (lies_on_cell volume cell) (life_at m row)) ≡ 1 = ap one_if (backed volume cell (life_at m row) e) in (
      λ other apart h.
          let inside : other - 1 < length (slice_set m.live_files (row - 1) None) =
          subst (λ x. other - 1 < x) (sym (length-set m.live_files (row - 1) None)) (live-within m.live_files (other - 1) volume cell h) in
          let still : is_backed_by (lies_on_cell volume cell) (slice_index_or (slice_set m.live_files (row - 1) None) (other - 1) None) ≡ true =
          ap (is_backed_by (lies_on_cell volume cell)) (set-there m.live_files (row - 1) (other - 1) None None apart) ∙ backed volume cell (life_at m other) h in
          let more = count-place (is_backed_by (lies_on_cell volume cell)) (slice_set m.live_files (row - 1) None) (other - 1) None inside still in
          omega (arith, most, counted, was, more),
      not-one (slice_index_or (volume_at m volume).spare cell false) (omega (arith, most, counted, was)),
    )

unmounted-ends : (number : ℕ) (m : Namespace) (row : ℕ) (rows : List ℕ) → Empty number m (row ∷ rows) → (b : Backing) → backing_of (life_at m row) ≡ b → MayEnd m row (end_of_unmounted b)
unmounted-ends number m row rows f backing.Memory e = tt
unmounted-ends number m row rows f (backing.Cell volume cell) e = (e, alone-of number m row rows volume cell f e)
unmounted-ends number m row rows f (backing.Device device) e = tt

ended-pages : (m : Namespace) (b : Backing) (volume cell : ℕ) → cell_capacity (after_end m (end_of_unmounted b)) volume cell ≡ cell_capacity m volume cell
ended-pages m backing.Memory volume cell = refl
ended-pages m (backing.Cell v c) volume cell = refl
ended-pages m (backing.Device device) volume cell = refl

-- all rows are freed
pub record Emptied (number : ℕ) (m : Namespace) (left : List ℕ) (changes : List RowChange) : Type 0 where
  pub empty : Empty number (fold (free_row end_of_unmounted) (record { next = m; changes = changes }) left).next []
  pub pages : (volume cell : ℕ) → cell_capacity (fold (free_row end_of_unmounted) (record { next = m; changes = changes }) left).next volume cell ≡ cell_capacity m volume cell
  pub files : (v : WorldState) → Agrees (fold change_row v changes) m → Agrees (fold change_row v (fold (free_row end_of_unmounted) (record { next = m; changes = changes }) left).changes)
      (fold (free_row end_of_unmounted) (record { next = m; changes = changes }) left).next

pub empty-all : (left : List ℕ) (number : ℕ) (m : Namespace) (changes : List RowChange) → Empty number m left → Emptied number m left changes
unfolding free_row
empty-all [] number m changes f = record { empty = f; pages = λ volume cell. refl; files = λ v a. a }
empty-all (row ∷ rows) number m changes f =
    let b = backing_of (life_at m row) in
    let next = after_end (without_life m row) (end_of_unmounted b) in
    let freed = changes ++ change.Free (file_of m row) (end_of_unmounted b) ∷ [] in
    let later = empty-all rows number next freed (empty-one number m row rows changes f) in
    record {
      empty = later.empty;
      pages = λ volume cell. later.pages volume cell ∙ ended-pages (without_life m row) b volume cell;
      files = λ v a. later.files v (subst (λ w. Agrees w next) (sym (fold-append change_row v changes (change.Free (file_of m row) (end_of_unmounted b) ∷ [])))
          (free-agrees (fold change_row v changes) m row (end_of_unmounted b) f.rows.1 f.rest.sizes.live_files (unmounted-ends number m row rows f b refl) a));
    }
