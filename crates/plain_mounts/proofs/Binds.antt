-- Files that a mount binds to rows.
use Rattle.std.proofs.Common.{◌≡◌, ℕ, zero, suc, ◌+◌, ◌-◌, ◌<◌, ◌≤◌, Bool, true, false, cond, List, [], ◌∷◌, ◌++◌, length, map, refl, ap, sym, ◌∙◌, arith, slice_index_or, slice_set, nat_lt}
use Rattle.std.specs.Prelude.{Option, Some, count_by, zip, Vec, vec_len, vec_capacity, is_some}
use Rattle.std.specs.List.{position_or_len}
use Rattle.std.specs.FinMap.Entries.{put}
use Rattle.std.proofs.lemmas.Bool.Decides.{nat_tests}
use Rattle.std.proofs.lemmas.List.{get_or-set_same, length-set, map-append, set-set}
use Rattle.std.proofs.lemmas.List.Sums.{sum_by-cons}
use Rattle.vfs_base.specs.Path.{Path, path_cmp}
use Rattle.vfs_base.specs.declared.kinds.Kind.{Kind}
use Rattle.vfs_base.specs.declared.kinds.NodeKind.{NodeKind}
use Rattle.vfs_base.specs.declared.kinds.NodeKind.TheVariants as node
use Rattle.vfs_base.specs.declared.limits.TheConstants.{ROWS}
use Rattle.vfs_model.specs.Content.{Content, file_count}
use Rattle.vfs_model.specs.FileLife.{after_taking, bind_row, free_rows, is_free_row, least_free_row, next_file}
use Rattle.vfs_model.specs.Lookup.{with_tree}
use Rattle.vfs_model.specs.MountStep.{bind_content, origin_backing, with_entry}
use Rattle.vfs_model.specs.Namespace.{Tree, generation_at}
use Rattle.vfs_model.specs.OpenStep.{kind_of}
use Rattle.vfs_model.specs.declared.namespace.Backing.{Backing}
use Rattle.vfs_model.specs.declared.namespace.Backing.TheVariants as backing
use Rattle.vfs_model.specs.declared.namespace.LiveFile.{LiveFile}
use Rattle.vfs_model.specs.declared.namespace.Mount.{Mount}
use Rattle.vfs_model.specs.declared.namespace.Namespace.{Namespace}
use Rattle.vfs_model.specs.declared.namespace.Origin.{Origin}
use Rattle.vfs_model.specs.declared.namespace.RowChange.{RowChange}
use Rattle.vfs_model.specs.declared.namespace.RowChange.TheVariants as change
use Rattle.plain_nodes.specs.Changes.{row_change}
use Rattle.plain_mounts.specs.Leaving.{rows_so_far}
use Rattle.plain_mounts.specs.Mounting.{IsReady, free_count}
use Rattle.plain_nodes.specs.declared.changes.Change.{Change}
use Rattle.plain_nodes.specs.declared.changes.Change.TheVariants as told

-- where some pass, the first of them is found
first_true : (tests : List Bool) → 1 ≤ count_by (λ test. test) tests → position_or_len (λ test. test) tests < length tests
first_true [] some = absurd (omega (arith, some))
first_true (true ∷ tests) some = omega arith
first_true (false ∷ tests) some = omega (arith, first_true tests some)

pub free_length : (live_files : List (Option LiveFile)) (generations : List ℕ) →
    length (map (λ (row : Option LiveFile × ℕ). is_free_row row.0 row.1) (zip live_files generations)) ≤ length live_files
free_length [] generations = omega arith
free_length (life ∷ live_files) [] = omega arith
free_length (life ∷ live_files) (generation ∷ generations) = omega (arith, free_length live_files generations)

pub free_row_exists : (n : Namespace) → length n.live_files ≡ 1024 → 1 ≤ free_count n → nat_lt ROWS (least_free_row n) ≡ false
free_row_exists n live_files some =
    let first : position_or_len (λ test. test) (free_rows n) < length (free_rows n) = first_true (free_rows n) some in
    let most : length (free_rows n) ≤ length n.live_files = free_length n.live_files n.generations in
    let below : least_free_row n ≤ 1024 = omega (arith, first, most, live_files) in
    grind (arith, nat_tests, below)

count_on : (test : Bool) (tests : List Bool) → count_by (λ test. test) (test ∷ tests) ≡ cond test 1 0 + count_by (λ test. test) tests
count_on test tests = sum_by-cons (λ x. cond x 1 0) test tests

one_at_most : (test : Bool) → cond test 1 0 ≤ 1
one_at_most true = omega arith
one_at_most false = omega arith

-- one test that is set is one that passes less, at most
count_set : (tests : List Bool) (place : ℕ) (new : Bool) →
    count_by (λ test. test) tests ≤ count_by (λ test. test) (slice_set tests place new) + 1
count_set [] place new = omega arith
count_set (test ∷ tests) zero new =
    omega (arith, count_on test tests, count_on new tests, one_at_most test)
count_set (test ∷ tests) (suc place) new =
    omega (arith, count_on test tests, count_on test (slice_set tests place new), count_set tests place new)

free_set : (live_files : List (Option LiveFile)) (generations : List ℕ) (place : ℕ) (life : Option LiveFile) (generation : ℕ) →
    map (λ (row : Option LiveFile × ℕ). is_free_row row.0 row.1) (zip (slice_set live_files place life) (slice_set generations place generation))
    ≡ slice_set (map (λ (row : Option LiveFile × ℕ). is_free_row row.0 row.1) (zip live_files generations)) place (is_free_row life generation)
free_set [] generations place life generation = refl
free_set (one ∷ live_files) [] zero life generation = refl
free_set (one ∷ live_files) [] (suc place) life generation = refl
free_set (one ∷ live_files) (first ∷ generations) zero life generation = refl
free_set (one ∷ live_files) (first ∷ generations) (suc place) life generation =
    ap (λ later. is_free_row one first ∷ later) (free_set live_files generations place life generation)

-- a file that takes what it lies on changes no row
rows_stay : (n : Namespace) (taken : Backing) → free_rows (after_taking n taken) ≡ free_rows n
rows_stay n backing.Memory = refl
rows_stay n (backing.Cell volume cell) = refl
rows_stay n (backing.Device device) = refl

pub one_row_taken : (n : Namespace) (row : ℕ) (life : LiveFile) → free_count n ≤ free_count (bind_row n row life) + 1
unfolding bind_row
one_row_taken n row life =
    let stays = rows_stay (record n {
      live_files = slice_set n.live_files (row - 1) (Some life);
      generations = slice_set n.generations (row - 1) (slice_index_or n.generations (row - 1) 0 + 1);
    }) life.backing in
    rw stays (rw (free_set n.live_files n.generations (row - 1) (Some life) (slice_index_or n.generations (row - 1) 0 + 1))
    (count_set (free_rows n) (row - 1) (is_free_row (Some life) (slice_index_or n.generations (row - 1) 0 + 1))))

-- binding a row changes no tree
taken_beside_tree : (n : Namespace) (number : ℕ) (tree : Tree) (taken : Backing) →
    after_taking (with_tree n number tree) taken ≡ with_tree (after_taking n taken) number tree
taken_beside_tree n number tree backing.Memory = refl
taken_beside_tree n number tree (backing.Cell volume cell) = refl
taken_beside_tree n number tree (backing.Device device) = refl

bound_beside_tree : (n : Namespace) (number : ℕ) (tree : Tree) (row : ℕ) (life : LiveFile) →
    bind_row (with_tree n number tree) row life ≡ with_tree (bind_row n row life) number tree
unfolding bind_row
bound_beside_tree n number tree row life = taken_beside_tree _ number tree life.backing

pub entry_put : (n : Namespace) (number : ℕ) (tree : Tree) (path : Path) (new : NodeKind) → number < length n.trees →
    with_entry (with_tree n number tree) number path new ≡ with_tree n number (put path_cmp path new tree)
entry_put n number tree path new h =
    ap (λ (here : Tree). record n { trees = slice_set (slice_set n.trees number tree) number (put path_cmp path new here) }) (get_or-set_same n.trees number tree [] h)
    ∙ ap (λ (trees : List Tree). record n { trees = trees }) (set-set n.trees number tree (put path_cmp path new tree))

pub bound_so : (n : Namespace) (mount : Mount) (tree : Tree) (path : Path) (begins : Origin) (changes : List Change) → mount.number < length n.trees →
    bind_content mount path begins (rows_so_far (with_tree n mount.number tree) changes)
    ≡ record {
      next = with_tree
          (bind_row n (least_free_row n) (record { kind = kind_of mount.fs; mount = mount.number; backing = origin_backing begins }))
          mount.number (put path_cmp path (node.File (next_file n (least_free_row n)) (kind_of mount.fs)) tree);
      changes = map row_change changes ++ change.Bind (next_file n (least_free_row n)) begins ∷ [];
    }
bound_so n mount tree path begins changes h =
    let row = least_free_row n in
    let life : LiveFile = record { kind = kind_of mount.fs; mount = mount.number; backing = origin_backing begins } in
    let new : NodeKind = node.File (next_file n row) (kind_of mount.fs) in
    ap (λ (m : Namespace). record { next = bind_row m row life; changes = map row_change changes ++ change.Bind (next_file n row) begins ∷ [] })
    (entry_put n mount.number tree path new h)
    ∙ ap (λ (m : Namespace). record { next = m; changes = map row_change changes ++ change.Bind (next_file n row) begins ∷ [] })
    (bound_beside_tree n mount.number (put path_cmp path new tree) row life)

files_on : (path : Path) (origin : Option Origin) (later : Content) →
    file_count ((path, origin) ∷ later) ≡ cond (is_some origin) 1 0 + file_count later
files_on path origin later = sum_by-cons (λ (entry : Path × Option Origin). cond (is_some entry.1) 1 0) (path, origin) later

-- what is ready for an entry and those behind it is ready for the entry
pub ready_for_one : {Z Y : Type 0} (n : Namespace) (path : Path) (origin : Option Origin) (later : Content)
    (tree : Vec (Path × NodeKind) Z) (changes : Vec Change Y) →
    IsReady n ((path, origin) ∷ later) tree changes → IsReady n ((path, origin) ∷ []) tree changes
ready_for_one n path origin later tree changes h = record {
  live_files = h.live_files;
  generations = h.generations;
  places = h.places;
  free = omega (arith, h.free, files_on path origin later, files_on path origin []);
  tree_room = omega (arith, h.tree_room);
  change_room = omega (arith, h.change_room);
}

-- what has been put there was ready, and the rest is ready for those behind
pub ready_for_later : {Z Y : Type 0} (n m : Namespace) (path : Path) (origin : Option Origin) (later : Content)
    (tree grown : Vec (Path × NodeKind) Z) (changes told : Vec Change Y) →
    IsReady n ((path, origin) ∷ later) tree changes →
    length m.live_files ≡ 1024 → length m.generations ≡ 1024 → m.trees ≡ n.trees → free_count n ≤ free_count m + cond (is_some origin) 1 0 →
    vec_len grown ≤ vec_len tree + 1 → vec_capacity tree ≤ vec_capacity grown →
    vec_len told ≤ vec_len changes + 1 → vec_capacity changes ≤ vec_capacity told →
    IsReady m later grown told
ready_for_later n m path origin later tree grown changes told h live_files generations trees free len room told_len told_room = record {
  live_files = live_files;
  generations = generations;
  places = ap length trees ∙ h.places;
  free = omega (arith, h.free, free, files_on path origin later);
  tree_room = omega (arith, h.tree_room, len, room);
  change_room = omega (arith, h.change_room, told_len, told_room);
}

pub one_file : (path : Path) (begins : Origin) → file_count ((path, Some begins) ∷ []) ≡ 1
one_file path begins = files_on path (Some begins) []

same_live_files : (n : Namespace) (taken : Backing) → (after_taking n taken).live_files ≡ n.live_files
same_live_files n backing.Memory = refl
same_live_files n (backing.Cell volume cell) = refl
same_live_files n (backing.Device device) = refl

same_generations : (n : Namespace) (taken : Backing) → (after_taking n taken).generations ≡ n.generations
same_generations n backing.Memory = refl
same_generations n (backing.Cell volume cell) = refl
same_generations n (backing.Device device) = refl

same_trees : (n : Namespace) (taken : Backing) → (after_taking n taken).trees ≡ n.trees
same_trees n backing.Memory = refl
same_trees n (backing.Cell volume cell) = refl
same_trees n (backing.Device device) = refl

pub bound_live_files : (n m : Namespace) (row : ℕ) (life : LiveFile) → m ≡ bind_row n row life → length n.live_files ≡ 1024 → length m.live_files ≡ 1024
unfolding bind_row
bound_live_files n m row life e h =
    ap (λ (k : Namespace). length k.live_files) e ∙ ap length (same_live_files _ life.backing) ∙ length-set n.live_files (row - 1) (Some life) ∙ h

pub bound_generations : (n m : Namespace) (row : ℕ) (life : LiveFile) → m ≡ bind_row n row life → length n.generations ≡ 1024 → length m.generations ≡ 1024
unfolding bind_row
bound_generations n m row life e h =
    ap (λ (k : Namespace). length k.generations) e ∙ ap length (same_generations _ life.backing)
    ∙ length-set n.generations (row - 1) (slice_index_or n.generations (row - 1) 0 + 1) ∙ h

pub bound_trees : (n m : Namespace) (row : ℕ) (life : LiveFile) → m ≡ bind_row n row life → m.trees ≡ n.trees
unfolding bind_row
bound_trees n m row life e = ap (λ (k : Namespace). k.trees) e ∙ same_trees _ life.backing

-- what is told of a file that is bound
pub bind_told : (n m : Namespace) (mount : Mount) (tree grown : Tree) (path : Path) (begins : Origin) (changes now : List Change)
    (row generation : ℕ) (kind : Kind) (taken : Backing) → mount.number < length n.trees →
    row ≡ least_free_row n → generation ≡ generation_at n row + 1 → kind ≡ kind_of mount.fs → taken ≡ origin_backing begins →
    m ≡ bind_row n row (record { kind = kind; mount = mount.number; backing = taken }) →
    grown ≡ put path_cmp path (node.File (record { row = row; generation = generation }) kind) tree →
    now ≡ changes ++ told.Bind row generation begins ∷ [] →
    bind_content mount path begins (rows_so_far (with_tree n mount.number tree) changes) ≡ rows_so_far (with_tree m mount.number grown) now
bind_told n m mount tree grown path begins changes now row generation kind taken h row_is generation_is kind_is taken_is m_is grown_is now_is =
    rw (now_is, grown_is, m_is, taken_is, kind_is, generation_is, row_is)
    (bound_so n mount tree path begins changes h
    ∙ ap (λ (cs : List RowChange). record {
      next = with_tree
          (bind_row n (least_free_row n) (record { kind = kind_of mount.fs; mount = mount.number; backing = origin_backing begins }))
          mount.number (put path_cmp path (node.File (next_file n (least_free_row n)) (kind_of mount.fs)) tree);
      changes = cs;
    })
    (sym (map-append row_change changes (told.Bind (least_free_row n) (generation_at n (least_free_row n) + 1) begins ∷ []))))
