-- The references that are left go, each session goes into `/`, and the files without a name are freed.
use Rattle.std.proofs.Common.{◌≡◌, ℕ, zero, suc, ◌+◌, ◌-◌, ◌<◌, ◌≤◌, Bool, true, false, not, ◌&&◌, if◌then◌else◌, Option, Some, None, is_some, List, [], ◌∷◌, ◌++◌, length, map, filter, fold, slice_index_or, slice_set, inl, inr, refl, sym, ap, subst, ◌∙◌, arith}
use Rattle.std.proofs.lemmas.List.{length-map, length-set}
use Rattle.std.proofs.lemmas.List.Sums.{fold-append}
use Rattle.std.specs.List.{enumerate_from}
use Rattle.vfs_base.specs.Path.{Path, printed}
use Rattle.vfs_model.specs.Consistency.{FoldersStand}
use Rattle.vfs_model.specs.FileLife.{Rows, after_end, backing_of, end_of_dropped, free_row, is_linked}
use Rattle.vfs_model.specs.Homes.{change_row}
use Rattle.vfs_model.specs.Lookup.{covering_mount, is_dir_node, is_folder, node_at}
use Rattle.vfs_model.specs.Namespace.{file_of, life_at}
use Rattle.vfs_model.specs.UmountSteps.{come_to_rest, unlinked_rows, unreferred}
use Rattle.vfs_model.specs.declared.namespace.Backing.{Backing}
use Rattle.vfs_model.specs.declared.namespace.Backing.TheVariants as backing
use Rattle.vfs_model.specs.declared.namespace.LiveFile.{LiveFile}
use Rattle.vfs_model.specs.declared.namespace.Namespace.{Namespace}
use Rattle.vfs_model.specs.declared.namespace.Reference.{Reference}
use Rattle.vfs_model.specs.declared.namespace.RowChange.{RowChange}
use Rattle.vfs_model.specs.declared.namespace.RowChange.TheVariants as change
use Rattle.world_laws.proofs.parts.Agreeing.{Agrees, agrees-beside, free-agrees}
use Rattle.world_laws.proofs.parts.Beside.{alive-beside, boxes-beside, working_directories-beside}
use Rattle.world_laws.proofs.parts.Binding.{live_files-set, rest-stands}
use Rattle.world_laws.proofs.parts.Emptying.{InRows, used-left}
use Rattle.world_laws.proofs.parts.Freeing.{boxes-dropped, live-freed, live_files-dropped, rest-dropped, without_life}
use Rattle.world_laws.proofs.steps.Keeping.{dropped-ends, end-pages}
use Rattle.world_laws.proofs.lists.Lists.{same-or-other, some-within, true-or-false}
use Rattle.world_laws.proofs.steps.NameKeeping.{root-folder}
use Rattle.world_laws.proofs.lists.Passing.{and-both, and-second}
use Rattle.world_laws.proofs.steps.RootRemoval.{AtRest, Ended}
use Rattle.world_laws.proofs.parts.Standing.{Held, IsUsed, Linked, LinkedIn, Nothing, Stands, linked-is, linked-of}

-- rows that pass a test, from a row on
abbrev passing_rows : (ℕ × Option LiveFile → Bool) → ℕ → List (Option LiveFile) → List ℕ
passing_rows test from live_files = map (λ row. row.0) (filter test (enumerate_from from live_files))

passing-cons : (test : ℕ × Option LiveFile → Bool) (from : ℕ) (life : Option LiveFile) (live_files : List (Option LiveFile)) (b : Bool) → test (from, life) ≡ b →
    passing_rows test from (life ∷ live_files) ≡ (if b then from ∷ passing_rows test (from + 1) live_files else passing_rows test (from + 1) live_files)
passing-cons test from life live_files true e =
    ap (λ b. map (λ row. row.0) (if b then (from, life) ∷ filter test (enumerate_from (from + 1) live_files) else filter test (enumerate_from (from + 1) live_files))) e
passing-cons test from life live_files false e =
    ap (λ b. map (λ row. row.0) (if b then (from, life) ∷ filter test (enumerate_from (from + 1) live_files) else filter test (enumerate_from (from + 1) live_files))) e

-- a row of them, and its place
record PassingRow (test : ℕ × Option LiveFile → Bool) (from : ℕ) (live_files : List (Option LiveFile)) (row : ℕ) : Type 0 where
  place : ℕ
  within : place < length live_files
  is : row ≡ from + place
  holds : test (row, slice_index_or live_files place None) ≡ true

passing-row : (test : ℕ × Option LiveFile → Bool) (from : ℕ) (live_files : List (Option LiveFile)) (row : ℕ) → InRows (passing_rows test from live_files) row → PassingRow test from live_files row
passing-row test from [] row i = absurd i
passing-row test from (life ∷ live_files) row i =
    at (test (from, life)) refl (subst (λ rows. InRows rows row) (passing-cons test from life live_files (test (from, life)) refl) i) (passing-row test (from + 1) live_files row)
  where
    later : PassingRow test (from + 1) live_files row → PassingRow test from (life ∷ live_files) row
    later r = record { place = suc r.place; within = let l = r.within in omega (arith, l); is = let e = r.is in omega (arith, e); holds = r.holds }

    at : (b : Bool) → test (from, life) ≡ b → InRows (if b then from ∷ passing_rows test (from + 1) live_files else passing_rows test (from + 1) live_files) row →
        (InRows (passing_rows test (from + 1) live_files) row → PassingRow test (from + 1) live_files row) → PassingRow test from (life ∷ live_files) row
    at true e (inl same) next = record { place = 0; within = omega arith; is = omega (arith, same); holds = ap (λ r. test (r, life)) same ∙ e }
    at true e (inr j) next = later (next j)
    at false e j next = later (next j)

row-passes : (test : ℕ × Option LiveFile → Bool) (from place : ℕ) (live_files : List (Option LiveFile)) → place < length live_files → test (from + place, slice_index_or live_files place None) ≡ true →
    InRows (passing_rows test from live_files) (from + place)
row-passes test from place [] l h = absurd (omega (arith, l))
row-passes test from zero (life ∷ live_files) l h =
    subst (λ rows. InRows rows (from + 0)) (sym (passing-cons test from life live_files true (ap (λ r. test (r, life)) (omega arith) ∙ h))) (inl (omega arith))
row-passes test from (suc place) (life ∷ live_files) l h =
    at (test (from, life)) refl (subst (InRows (passing_rows test (from + 1) live_files)) (omega arith)
    (row-passes test (from + 1) place live_files (omega (arith, l)) (ap (λ r. test (r, slice_index_or live_files place None)) (omega arith) ∙ h)))
  where
    at : (b : Bool) → test (from, life) ≡ b → InRows (passing_rows test (from + 1) live_files) (from + suc place) → InRows (passing_rows test from (life ∷ live_files)) (from + suc place)
    at true e later = subst (λ rows. InRows rows (from + suc place)) (sym (passing-cons test from life live_files true e)) (inr later)
    at false e later = subst (λ rows. InRows rows (from + suc place)) (sym (passing-cons test from life live_files false e)) later

-- files on the way to be freed: each live row is linked or one of them, and nothing names one of them
record Unnamed (m : Namespace) (left : List ℕ) : Type 0 where
  stands : Stands (InRows left) m
  rest : AtRest m
  rows : (row : ℕ) → InRows left row → (0 < row) × (row - 1 < 1024)
  unlinked : (row : ℕ) → InRows left row → Linked m row → ⊥

-- nothing is held where all is at rest
unheld-rest : (m : Namespace) (row : ℕ) → AtRest m → Held m row → ⊥
unheld-rest m row rest held = both (slice_index_or m.references held.place None) held.reference (rest.unheld held.place) held.there
  where
    both : {X : Type 0} (found : Option X) (x : X) → found ≡ None → found ≡ Some x → ⊥
    both found x h k = absurd (cc)

-- what the end of a file leaves
record Leaves (m next : Namespace) : Type 0 where
  trees : next.trees ≡ m.trees
  references : next.references ≡ m.references
  working_directories : next.working_directories ≡ m.working_directories
  mounts : next.mounts ≡ m.mounts
  root : next.root ≡ m.root

dropped-leaves : (m : Namespace) (b : Backing) → Leaves m (after_end m (end_of_dropped b))
dropped-leaves m backing.Memory = record { trees = refl; references = refl; working_directories = refl; mounts = refl; root = refl }
dropped-leaves m (backing.Cell volume cell) = record { trees = refl; references = refl; working_directories = refl; mounts = refl; root = refl }
dropped-leaves m (backing.Device device) = record { trees = refl; references = refl; working_directories = refl; mounts = refl; root = refl }

-- one of them is freed
unnamed-one : (m : Namespace) (row : ℕ) (rows : List ℕ) → Unnamed m (row ∷ rows) → Unnamed (after_end (without_life m row) (end_of_dropped (backing_of (life_at m row)))) rows
unnamed-one m row rows f =
    let s = f.stands in
    let b = backing_of (life_at m row) in
    let counted = f.rows row (inl refl) in
    let within : row - 1 < length m.live_files = subst (λ x. row - 1 < x) (sym s.sizes.live_files) counted.1 in
    let leaves = dropped-leaves (without_life m row) b in
    record {
      stands = rest-stands (InRows rows) _
          (rest-dropped (InRows rows) (without_life m row) b (record {
            live = live-freed m row counted.0 (λ linked u. f.unlinked row (inl refl) linked) (λ held u. unheld-rest m row f.rest held) s.live;
            used = λ other l h. used-left m row other rows within counted.0 l (same-or-other (other - 1) (row - 1)) s.used h;
            alone = s.alone;
            working_directories = working_directories-beside m (slice_set m.live_files (row - 1) None) m.generations m.references m.volumes m.devices s.working_directories;
            trees = s.trees;
            roms = s.roms;
            sizes = record {
              live_files = length-set m.live_files (row - 1) None ∙ s.sizes.live_files;
              generations = s.sizes.generations;
              trees = s.sizes.trees;
              working_directories = s.sizes.working_directories;
              mounts = s.sizes.mounts;
              references = s.sizes.references;
            };
          }))
          (boxes-dropped m row within s.boxes)
          (live_files-dropped (without_life m row) b (live_files-set m row None m.generations (λ life e. absurd (cc)) s.live_files));
      rest = record {
        unheld = λ place. ap (λ references. slice_index_or references place None) leaves.references ∙ f.rest.unheld place;
        home = λ k. ap (λ folders. slice_index_or folders (k - 1) []) leaves.working_directories ∙ f.rest.home k;
      };
      rows = λ other i. f.rows other (inr i);
      unlinked = λ other i linked. f.unlinked other (inr i) (subst (λ trees. LinkedIn trees other) leaves.trees linked);
    }

-- what is kept where everything comes to rest
pub record Rested (n : Namespace) (changes : List RowChange) (out : Rows) : Type 0 where
  pub ended : Ended n changes out
  pub rest : AtRest out.next
  pub mounts : out.next.mounts ≡ n.mounts
  pub root : out.next.root ≡ n.root

unnamed-all : (left : List ℕ) (m : Namespace) (changes : List RowChange) → Unnamed m left → Rested m changes (fold (free_row end_of_dropped) (record { next = m; changes = changes }) left)
unfolding free_row
unnamed-all [] m changes f =
    record { ended = record { stands = f.stands; pages = λ volume cell. refl; files = λ v a. a }; rest = f.rest; mounts = refl; root = refl }
unnamed-all (row ∷ rows) m changes f =
    let b = backing_of (life_at m row) in
    let next = after_end (without_life m row) (end_of_dropped b) in
    let freed = changes ++ change.Free (file_of m row) (end_of_dropped b) ∷ [] in
    let later = unnamed-all rows next freed (unnamed-one m row rows f) in
    let leaves = dropped-leaves (without_life m row) b in
    record {
      ended = record {
        stands = later.ended.stands;
        pages = λ volume cell. later.ended.pages volume cell ∙ end-pages (without_life m row) (end_of_dropped b) volume cell;
        files = λ v a. later.ended.files v (subst (λ w. Agrees w next) (sym (fold-append change_row v changes (change.Free (file_of m row) (end_of_dropped b) ∷ [])))
            (free-agrees (fold change_row v changes) m row (end_of_dropped b) (f.rows row (inl refl)).1 f.stands.sizes.live_files (dropped-ends m row b refl) a));
      };
      rest = later.rest;
      mounts = later.mounts ∙ leaves.mounts;
      root = later.root ∙ leaves.root;
    }

none-at : (references : List (Option Reference)) (place : ℕ) → let all : List (Option Reference) = map (λ reference. None) references in slice_index_or all place None ≡ None
none-at [] place = refl
none-at (reference ∷ references) zero = refl
none-at (reference ∷ references) (suc place) = none-at references place

root-at : (folders : List Path) (place : ℕ) → let all : List Path = map (λ folder. []) folders in slice_index_or all place [] ≡ []
root-at [] place = refl
root-at (folder ∷ folders) zero = refl
root-at (folder ∷ folders) (suc place) = root-at folders place

unreferred-rest : (n : Namespace) → AtRest (unreferred n)
unreferred-rest n = record { unheld = λ place. none-at n.references place; home = λ k. root-at n.working_directories (k - 1) }

module _ (n : Namespace) (s : Stands Nothing n) where
  unreferred-folders : FoldersStand (unreferred n)
  unfolding node_at covering_mount
  unreferred-folders = record {
    working_directories = λ k. ap (is_folder (unreferred n)) (root-at n.working_directories (k - 1)) ∙ ap is_dir_node (root-folder n s.working_directories);
    short = λ k. subst (λ p. length (printed p) ≤ 1024) (sym (root-at n.working_directories (k - 1))) (omega arith);
    root = s.working_directories.root;
    points = s.working_directories.points;
    points_differ = s.working_directories.points_differ;
    numbers_differ = s.working_directories.numbers_differ;
    numbers = s.working_directories.numbers;
    nested = s.working_directories.nested;
    unused = s.working_directories.unused;
  }

  unnamed-used : (row : ℕ) → 0 < row → is_some (life_at n row) ≡ true → IsUsed (InRows (unlinked_rows n)) (unreferred n) row
  unnamed-used row l h = elim (true-or-false (is_linked n row)) [
    | inl e ↦ inl (linked-of n s.trees row e)
    | inr e ↦
        let is : 1 + (row - 1) ≡ row = omega (arith, l) in
        inr (inr (subst (InRows (unlinked_rows n)) is (row-passes (λ row. is_some row.1 && not (is_linked n row.0)) 1 (row - 1) n.live_files
        (live-within (slice_index_or n.live_files (row - 1) None) refl h)
        (and-both (is_some (life_at n row)) (not (is_linked n (1 + (row - 1)))) h (ap (λ k. not (is_linked n k)) is ∙ ap not e)))))
  ]
    where
      live-within : (found : Option LiveFile) → slice_index_or n.live_files (row - 1) None ≡ found → is_some (life_at n row) ≡ true → row - 1 < length n.live_files
      live-within None e h = let none = ap is_some e in absurd (cc)
      live-within (Some life) e h = some-within n.live_files (row - 1) life e

  unnamed-first : Unnamed (unreferred n) (unlinked_rows n)
  unnamed-first = record {
    stands = record {
      live = record {
        linked = λ number path id kind h. alive-beside n (unreferred n) id kind number (s.live.linked number path id kind h);
        held = λ place reference h. let none = none-at n.references place in absurd (cc);
      };
      used = unnamed-used;
      alone = s.alone;
      working_directories = unreferred-folders;
      trees = s.trees;
      boxes = boxes-beside n n.trees (unreferred n).working_directories (unreferred n).references n.generations s.boxes;
      live_files = s.live_files;
      roms = s.roms;
      sizes = record {
        live_files = s.sizes.live_files;
        generations = s.sizes.generations;
        trees = s.sizes.trees;
        working_directories = length-map n.working_directories _ ∙ s.sizes.working_directories;
        mounts = s.sizes.mounts;
        references = length-map n.references _ ∙ s.sizes.references;
      };
    };
    rest = unreferred-rest n;
    rows = λ row i.
        let r = passing-row (λ row. is_some row.1 && not (is_linked n row.0)) 1 n.live_files row i in
        let l = r.within in let e = r.is in let all = s.sizes.live_files in
        (omega (arith, e), omega (arith, l, e, all));
    unlinked = λ row i linked.
        let r = passing-row (λ row. is_some row.1 && not (is_linked n row.0)) 1 n.live_files row i in
        let no = and-second (is_some (slice_index_or n.live_files r.place None)) (not (is_linked n row)) r.holds in
        let yes = ap not (linked-is n row linked) in
        absurd (cc);
  }

  pub rested : Rested n [] (come_to_rest n)
  unfolding come_to_rest
  rested =
      let out = unnamed-all (unlinked_rows n) (unreferred n) [] unnamed-first in
      record {
        ended = record {
          stands = out.ended.stands;
          pages = out.ended.pages;
          files = λ v a. out.ended.files v (agrees-beside v n (unreferred n) (refl, refl, refl, refl) a);
        };
        rest = out.rest;
        mounts = out.mounts;
        root = out.root;
      }
