-- A node that is moved, a reference and a working directory make no namespace larger than it may be.
use Rattle.std.proofs.Common.{ℕ, zero, suc, List, ◌+◌, ◌-◌, ◌*◌, ◌≤◌, [], ◌∷◌, ◌++◌, length, drop, arith}
use Rattle.std.specs.Prelude.{true, false, cond, not, ◌&&◌, Option, fold, map, filter, slice_index_or, slice_set}
use Rattle.std.proofs.lemmas.List.{length-set}
use Rattle.vfs_base.specs.Path.{Path, printed}
use Rattle.vfs_base.specs.declared.kinds.NodeKind.{NodeKind}
use Rattle.vfs_model.specs.Lookup.{covering_mount, is_prefix, rest_of}
use Rattle.vfs_model.specs.Namespace.{Tree, same_path, tree_of, with_folder_of, with_reference}
use Rattle.vfs_model.specs.RenameStep.{carried, left_behind, moved, put_entry, with_moved}
use Rattle.vfs_model.specs.declared.namespace.Namespace.{Namespace}
use Rattle.vfs_model.specs.declared.namespace.Reference.{Reference}
use Rattle.vfs_model.specs.Sizes.{IsSized}
use Rattle.vfs_model.proofs.SizedNodes.{covered_tree, put_grows, sized_tree}

puts_grow : (entries tree : Tree) → length (fold put_entry tree entries) ≤ length tree + length entries
puts_grow [] tree = omega arith
puts_grow (entry ∷ entries) tree =
    let first = put_grows entry.0 entry.1 tree in
    let rest = puts_grow entries (put_entry tree entry) in
    omega (arith, first, rest)

parts_fit : (old new : Path) (tree : Tree) → length (left_behind old new tree) + length (carried old new tree) ≤ length tree
parts_fit old new [] = omega arith
parts_fit old new (entry ∷ tree) =
    let rest = parts_fit old new tree in
    let away : Tree = filter (λ entry. is_prefix old entry.0) tree in
    let carry : Path × NodeKind → Path × NodeKind = λ entry. (new ++ drop (length old) entry.0, entry.1) in
    elim (is_prefix old entry.0) as (λ b.
    length (cond (not b && not (same_path entry.0 new)) (entry ∷ left_behind old new tree) (left_behind old new tree))
    + length (map carry (cond b (entry ∷ away) away)) ≤ length (entry ∷ tree)) [
      | true ↦ omega (arith, rest)
      | false ↦ elim (same_path entry.0 new) as (λ b.
          length (cond (not b) (entry ∷ left_behind old new tree) (left_behind old new tree)) + length (carried old new tree) ≤ length (entry ∷ tree)) [
            | true ↦ omega (arith, rest)
            | false ↦ omega (arith, rest)
          ]
    ]

pub sized_moved : (n : Namespace) (old new : Path) → IsSized n → IsSized (with_moved n old new)
unfolding with_moved moved
sized_moved n old new s =
    let number = (covering_mount n old).number in
    let tree = tree_of n number in
    let parts = parts_fit (rest_of n old) (rest_of n new) tree in
    let grown = puts_grow (carried (rest_of n old) (rest_of n new) tree) (left_behind (rest_of n old) (rest_of n new) tree) in
    sized_tree n number (moved (rest_of n old) (rest_of n new) tree) s (omega (arith, parts, grown, s.trees number))
    (covered_tree n old (moved (rest_of n old) (rest_of n new) tree))

pub sized_reference : (n : Namespace) (k number : ℕ) (reference : Option Reference) → IsSized n → IsSized (with_reference n k number reference)
sized_reference n k number reference s =
    let place = 32 * (k - 1) + (number - 1) in
    let same = length-set n.references place reference in
    record {
      live_files = s.live_files;
      generations = s.generations;
      references = omega (arith, same, s.references);
      working_directories = s.working_directories;
      short = λ k. s.short k;
      mounts = s.mounts;
      places = s.places;
      trees = λ j. s.trees j;
      spares = λ v. s.spares v;
      pages = λ v. s.pages v;
      kept = λ v. s.kept v;
      roms = λ place. s.roms place;
      unused = λ number h. s.unused number h;
    }

short_at : (working_directories : List Path) (i : ℕ) (path : Path) (j : ℕ) → length (printed path) ≤ 1024 → length (printed (slice_index_or working_directories j [])) ≤ 1024 →
    length (printed (slice_index_or (slice_set working_directories i path) j [])) ≤ 1024
short_at [] i path j new old = old
short_at (folder ∷ working_directories) zero path zero new old = new
short_at (folder ∷ working_directories) zero path (suc j) new old = old
short_at (folder ∷ working_directories) (suc i) path zero new old = old
short_at (folder ∷ working_directories) (suc i) path (suc j) new old = short_at working_directories i path j new old

pub sized_folder : (n : Namespace) (k : ℕ) (path : Path) → length (printed path) ≤ 1024 → IsSized n → IsSized (with_folder_of n k path)
sized_folder n k path new s =
    let same = length-set n.working_directories (k - 1) path in
    record {
      live_files = s.live_files;
      generations = s.generations;
      references = s.references;
      working_directories = omega (arith, same, s.working_directories);
      short = λ j. short_at n.working_directories (k - 1) path (j - 1) new (s.short j);
      mounts = s.mounts;
      places = s.places;
      trees = λ j. s.trees j;
      spares = λ v. s.spares v;
      pages = λ v. s.pages v;
      kept = λ v. s.kept v;
      roms = λ place. s.roms place;
      unused = λ number h. s.unused number h;
    }
