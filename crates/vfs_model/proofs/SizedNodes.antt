-- A node that is put or taken away, and a row that is bound or freed, make no namespace larger than it may be.
use Rattle.std.proofs.Common.{◌≡◌, ℕ, zero, suc, ◌+◌, ◌-◌, ◌≤◌, List, [], ◌∷◌, length, nat_lt, ◌==◌, refl, ap, sym, subst, ◌∙◌, arith}
use Rattle.std.specs.Prelude.{Bool, true, false, cond, not, ◌&&◌, ◌||◌, Option, Some, None, filter, slice_index_or, slice_set}
use Rattle.std.specs.FinMap.Entries.{put, by_order}
use Rattle.std.specs.List.{list_any}
use Rattle.std.specs.declared.cmp.Ordering.TheVariants.{Less, Equal, Greater}
use Rattle.std.proofs.lemmas.Bool.Decides.{nat_tests}
use Rattle.std.proofs.lemmas.List.{length-set}
use Rattle.vfs_base.specs.Path.{Path, path_cmp}
use Rattle.vfs_base.specs.declared.kinds.NodeKind.{NodeKind}
use Rattle.vfs_model.specs.Consistency.{is_number}
use Rattle.vfs_model.specs.FileLife.{after_end, after_taking, bind_row, no_volume, volume_at, with_cell, with_device, with_spare_cell}
use Rattle.vfs_model.specs.Lookup.{covering_mount, is_full, is_prefix, nearest, rest_of, with_node, with_tree}
use Rattle.vfs_model.specs.NameSteps.{without_node}
use Rattle.vfs_model.specs.Namespace.{Tree, generation_at, same_path, tree_of}
use Rattle.vfs_model.specs.declared.namespace.Backing.{Backing}
use Rattle.vfs_model.specs.declared.namespace.Backing.TheVariants as backing
use Rattle.vfs_model.specs.declared.namespace.End.{End}
use Rattle.vfs_model.specs.declared.namespace.End.TheVariants as end
use Rattle.vfs_model.specs.declared.namespace.LiveFile.{LiveFile}
use Rattle.vfs_model.specs.declared.namespace.Mount.{Mount}
use Rattle.vfs_model.specs.declared.namespace.Namespace.{Namespace}
use Rattle.vfs_model.specs.Sizes.{IsSized}

-- what holds of an item at each place holds after a write of an item of which it holds
pub item_kept : {X : Type 0} (P : X → Type 0) (xs : List X) (i j : ℕ) (y d : X) → P y →
    P (slice_index_or xs j d) → P (slice_index_or (slice_set xs i y) j d)
item_kept P [] i j y d p q = q
item_kept P (x ∷ xs) zero zero y d p q = p
item_kept P (x ∷ xs) zero (suc j) y d p q = q
item_kept P (x ∷ xs) (suc i) zero y d p q = q
item_kept P (x ∷ xs) (suc i) (suc j) y d p q = item_kept P xs i j y d p q

-- the same, where the write is of another place or of an item of which it holds
pub item_kept_at : {X : Type 0} (P : X → Type 0) (xs : List X) (i j : ℕ) (y d : X) → (i ≡ j → P y) →
    P (slice_index_or xs j d) → P (slice_index_or (slice_set xs i y) j d)
item_kept_at P [] i j y d p q = q
item_kept_at P (x ∷ xs) zero zero y d p q = p refl
item_kept_at P (x ∷ xs) zero (suc j) y d p q = q
item_kept_at P (x ∷ xs) (suc i) zero y d p q = q
item_kept_at P (x ∷ xs) (suc i) (suc j) y d p q = item_kept_at P xs i j y d (λ e. p (ap suc e)) q

pub sized_tree : (n : Namespace) (number : ℕ) (tree : Tree) → IsSized n → length tree ≤ 4096 →
    (is_number n number ≡ false → tree ≡ []) → IsSized (with_tree n number tree)
sized_tree n number tree s l empty = record {
  live_files = s.live_files;
  generations = s.generations;
  references = s.references;
  working_directories = s.working_directories;
  short = λ k. s.short k;
  mounts = s.mounts;
  places = length-set n.trees number tree ∙ s.places;
  trees = λ j. item_kept (λ t. length t ≤ 4096) n.trees number j tree [] l (s.trees j);
  spares = λ v. s.spares v;
  pages = λ v. s.pages v;
  kept = λ v. s.kept v;
  roms = λ place. s.roms place;
  unused = λ other h. item_kept_at (λ t. t ≡ []) n.trees number other tree []
      (λ e. empty (subst (λ k. is_number n k ≡ false) (sym e) h)) (s.unused other h);
}

pub or_second : (a b : Bool) → b ≡ true → (a || b) ≡ true
or_second true b e = refl
or_second false b e = e

or_beside : (a b c : Bool) → (a || c) ≡ true → (a || (b || c)) ≡ true
or_beside true b c e = refl
or_beside false b c e = or_second b c e

-- the mount that is nearest is the first one or one of the others
nearest_numbered : (path : Path) (found : Mount) (mounts : List Mount) →
    list_any (λ mount. mount.number == (nearest path found mounts).number) (found ∷ mounts) ≡ true
nearest_numbered path found [] = grind (arith, nat_tests)
nearest_numbered path found (mount ∷ mounts) =
    elim (is_prefix mount.point path && nat_lt (length found.point) (length mount.point)) as (λ b.
    list_any (λ other. other.number == (nearest path (cond b mount found) mounts).number) (found ∷ mount ∷ mounts) ≡ true) [
      | true ↦ or_second (found.number == (nearest path mount mounts).number) _ (nearest_numbered path mount mounts)
      | false ↦ or_beside (found.number == (nearest path found mounts).number) (mount.number == (nearest path found mounts).number) _
          (nearest_numbered path found mounts)
    ]

-- the mount that covers a path is a mount
pub covering_numbered : (n : Namespace) (path : Path) → is_number n (covering_mount n path).number ≡ true
unfolding covering_mount
covering_numbered n path = nearest_numbered path n.root n.mounts

-- so its tree may have nodes
pub covered_tree : (n : Namespace) (path : Path) (tree : Tree) → is_number n (covering_mount n path).number ≡ false → tree ≡ []
covered_tree n path tree h = let yes = covering_numbered n path in absurd (cc (yes, h))

pub put_grows : {X : Type 0} (path : Path) (value : X) (entries : List (Path × X)) →
    length (put path_cmp path value entries) ≤ length entries + 1
put_grows path value [] = omega arith
put_grows path value (entry ∷ entries) =
    elim (path_cmp path entry.0) as (λ o.
    length (by_order o ((path, value) ∷ entry ∷ entries) ((entry.0, value) ∷ entries) (entry ∷ put path_cmp path value entries))
    ≤ length (entry ∷ entries) + 1) [
      | Less ↦ omega arith
      | Equal ↦ omega arith
      | Greater ↦ omega (arith, put_grows path value entries)
    ]

pub filter_shrinks : {X : Type 0} (test : X → Bool) (xs : List X) → length (filter test xs) ≤ length xs
filter_shrinks test [] = omega arith
filter_shrinks test (x ∷ xs) =
    let rest = filter_shrinks test xs in
    elim (test x) as (λ b. length (cond b (x ∷ filter test xs) (filter test xs)) ≤ length (x ∷ xs)) [
      | true ↦ omega (arith, rest)
      | false ↦ omega (arith, rest)
    ]

pub sized_put : (n : Namespace) (path : Path) (new : NodeKind) → IsSized n → is_full n path ≡ false → IsSized (with_node n path new)
unfolding with_node
sized_put n path new s f =
    let number = (covering_mount n path).number in
    let tree = tree_of n number in
    let room : length tree + 1 ≤ 4096 = grind (arith, f) in
    let grown = put_grows (rest_of n path) new tree in
    sized_tree n number (put path_cmp (rest_of n path) new tree) s (omega (arith, room, grown))
    (covered_tree n path (put path_cmp (rest_of n path) new tree))

pub sized_without : (n : Namespace) (path : Path) → IsSized n → IsSized (without_node n path)
unfolding without_node
sized_without n path s =
    let number = (covering_mount n path).number in
    let tree = tree_of n number in
    let other : Path × NodeKind → Bool = λ entry. not (same_path entry.0 (rest_of n path)) in
    let fewer = filter_shrinks other tree in
    sized_tree n number (filter other tree) s (omega (arith, fewer, s.trees number)) (covered_tree n path (filter other tree))

sized_cell : (is_spare : Bool) (n : Namespace) (volume cell : ℕ) → IsSized n → IsSized (with_cell is_spare n volume cell)
sized_cell is_spare n volume cell s =
    let same = length-set (volume_at n volume).spare cell is_spare in
    record {
      live_files = s.live_files;
      generations = s.generations;
      references = s.references;
      working_directories = s.working_directories;
      short = λ k. s.short k;
      mounts = s.mounts;
      places = s.places;
      trees = λ j. s.trees j;
      spares = λ v. item_kept (λ one. length one.spare ≤ 1024) n.volumes volume v (with_spare_cell is_spare cell (volume_at n volume)) no_volume
          (omega (arith, same, s.spares volume)) (s.spares v);
      pages = λ v. item_kept (λ one. length one.pages ≤ 1024) n.volumes volume v (with_spare_cell is_spare cell (volume_at n volume)) no_volume
          (s.pages volume) (s.pages v);
      kept = λ v. item_kept (λ one. length one.kept ≤ 4096) n.volumes volume v (with_spare_cell is_spare cell (volume_at n volume)) no_volume
          (s.kept volume) (s.kept v);
      roms = λ place. s.roms place;
      unused = λ number h. s.unused number h;
    }

sized_device : (is_out : Bool) (n : Namespace) (device : ℕ) → IsSized n → IsSized (with_device is_out n device)
sized_device is_out n device s = record {
  live_files = s.live_files;
  generations = s.generations;
  references = s.references;
  working_directories = s.working_directories;
  short = λ k. s.short k;
  mounts = s.mounts;
  places = s.places;
  trees = λ j. s.trees j;
  spares = λ v. s.spares v;
  pages = λ v. s.pages v;
  kept = λ v. s.kept v;
  roms = λ place. s.roms place;
  unused = λ number h. s.unused number h;
}

sized_taking : (n : Namespace) (b : Backing) → IsSized n → IsSized (after_taking n b)
sized_taking n backing.Memory s = s
sized_taking n (backing.Cell volume cell) s = sized_cell false n volume cell s
sized_taking n (backing.Device device) s = sized_device true n device s

sized_end : (n : Namespace) (e : End) → IsSized n → IsSized (after_end n e)
sized_end n end.Nothing s = s
sized_end n (end.Spare volume cell) s = sized_cell true n volume cell s
sized_end n (end.Kept volume cell) s = s
sized_end n (end.Device device) s = sized_device false n device s

sized_rows : (n : Namespace) (live_files : List (Option LiveFile)) (generations : List ℕ) → IsSized n →
    length live_files ≡ 1024 → length generations ≡ 1024 → IsSized (record n { live_files = live_files; generations = generations })
sized_rows n live_files generations s l g = record {
  live_files = l;
  generations = g;
  references = s.references;
  working_directories = s.working_directories;
  short = λ k. s.short k;
  mounts = s.mounts;
  places = s.places;
  trees = λ j. s.trees j;
  spares = λ v. s.spares v;
  pages = λ v. s.pages v;
  kept = λ v. s.kept v;
  roms = λ place. s.roms place;
  unused = λ number h. s.unused number h;
}

pub sized_bind : (n : Namespace) (row : ℕ) (life : LiveFile) → IsSized n → IsSized (bind_row n row life)
unfolding bind_row
sized_bind n row life s =
    sized_taking _ life.backing (sized_rows n _ _ s
    (length-set n.live_files (row - 1) (Some life) ∙ s.live_files)
    (length-set n.generations (row - 1) (generation_at n row + 1) ∙ s.generations))

-- the row has no file any more
abbrev pub freed : Namespace → ℕ → End → Namespace
freed n row e = after_end (record n { live_files = slice_set n.live_files (row - 1) None }) e

pub sized_freed : (n : Namespace) (row : ℕ) (e : End) → IsSized n → IsSized (freed n row e)
sized_freed n row e s =
    sized_end _ e (sized_rows n _ n.generations s (length-set n.live_files (row - 1) None ∙ s.live_files) s.generations)
