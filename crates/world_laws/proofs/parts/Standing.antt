-- What holds of the namespace between steps, and within one: then some rows may be live that nothing names.
use Rattle.std.proofs.Common.{◌≡◌, ℕ, ◌<◌, ◌≤◌, ◌==◌, true, false, ◌||◌, Option, Some, None, is_some, List, [], length, slice_index_or, ◌⊎◌, inl, inr, refl, sym, ap, subst, ◌∙◌}
use Rattle.std.specs.FinMap.Entries.{find as value_at}
use Rattle.vfs_base.specs.Path.{Path, path_cmp}
use Rattle.vfs_base.specs.declared.ids.FileId.{FileId}
use Rattle.vfs_base.specs.declared.kinds.Kind.{Kind}
use Rattle.vfs_base.specs.declared.kinds.NodeKind.{NodeKind}
use Rattle.vfs_base.specs.declared.kinds.NodeKind.TheVariants as node
use Rattle.vfs_model.specs.Boxes.{BoxesPlaced, CellsFit, HomesFit, IsConsistent, RomsClosed}
use Rattle.vfs_model.specs.Consistency.{FoldersStand, IsClosedTree, LivesFit, ReferencesLive, agrees}
use Rattle.vfs_model.specs.FileLife.{has_row, is_file_of_row, is_held, is_linked, refers_to}
use Rattle.vfs_model.specs.Homes.{file_at}
use Rattle.vfs_model.specs.Lookup.{is_dir_node}
use Rattle.vfs_model.specs.Namespace.{Tree, generation_at, life_at, tree_of}
use Rattle.vfs_model.specs.declared.namespace.Namespace.{Namespace}
use Rattle.vfs_model.specs.declared.namespace.Reference.{Reference}
use Rattle.vfs_model.specs.declared.world.WorldState.{WorldState}
use Rattle.world_laws.proofs.lists.Lists.{any-node, any-place, node-any, or-either, or-first, or-second, place-any, same-number, number-itself, some-within, below-or-past}
use Rattle.std.proofs.lemmas.List.{get_or_past}

-- the file of the row stands somewhere in these trees
pub record LinkedIn (trees : List Tree) (row : ℕ) : Type 0 where
  pub number : ℕ
  pub path : Path
  pub id : FileId
  pub kind : Kind
  pub there : value_at path_cmp path (slice_index_or trees number []) ≡ Some (node.File id kind)
  pub is : id.row ≡ row

-- one of these references names the file of the row
pub record HeldIn (references : List (Option Reference)) (row : ℕ) : Type 0 where
  pub place : ℕ
  pub reference : Reference
  pub there : slice_index_or references place None ≡ Some reference
  pub is : reference.file.row ≡ row

abbrev pub Linked : Namespace → ℕ → Type 0
Linked n row = LinkedIn n.trees row

abbrev pub Held : Namespace → ℕ → Type 0
Held n row = HeldIn n.references row

-- the lists of a namespace have their places
pub record NamespaceSizes (n : Namespace) : Type 0 where
  pub live_files : length n.live_files ≡ 1024
  pub generations : length n.generations ≡ 1024
  pub trees : length n.trees ≡ 16
  pub working_directories : length n.working_directories ≡ 8
  pub mounts : length n.mounts ≤ 15
  pub references : length n.references ≡ 256

-- a live row is named by a path or a reference, or it is this one, which a step is about to name or to free
abbrev pub IsUsed : (ℕ → Type 0) → Namespace → ℕ → Type 0
IsUsed Excused n row = Linked n row ⊎ (Held n row ⊎ Excused row)

pub record Stands (Excused : ℕ → Type 0) (n : Namespace) : Type 0 where
  pub live : ReferencesLive n
  pub used : (row : ℕ) → 0 < row → is_some (life_at n row) ≡ true → IsUsed Excused n row
  pub alone : (number other : ℕ) (p q : Path) (id same : FileId) (kind like : Kind) →
      value_at path_cmp p (tree_of n number) ≡ Some (node.File id kind) →
      value_at path_cmp q (tree_of n other) ≡ Some (node.File same like) →
      id.row ≡ same.row → (number ≡ other) × (p ≡ q)
  pub working_directories : FoldersStand n
  pub trees : (number : ℕ) → IsClosedTree is_dir_node (tree_of n number)
  pub boxes : BoxesPlaced n
  pub live_files : LivesFit n
  pub roms : RomsClosed n.roms
  pub sizes : NamespaceSizes n

-- no row is excused
abbrev pub Nothing : ℕ → Type 0
Nothing row = ⊥

abbrev pub Only : ℕ → ℕ → Type 0
Only one row = row ≡ one

file-of-row : (row : ℕ) (found : NodeKind) → is_file_of_row row found ≡ true → (id : FileId) × (kind : Kind) × (found ≡ node.File id kind) × (id.row ≡ row)
file-of-row row node.Dir h = absurd (cc)
file-of-row row (node.File id kind) h = (id, kind, refl, same-number id.row row h)

pub linked-of : (n : Namespace) → ((number : ℕ) → IsClosedTree is_dir_node (tree_of n number)) → (row : ℕ) → is_linked n row ≡ true → Linked n row
linked-of n trees row h =
    let found = any-place (has_row row) n.trees [] h in
    let there = any-node (is_file_of_row row) (tree_of n found.place) (trees found.place).sorted found.holds in
    let file = file-of-row row there.node there.holds in
    record { number = found.place; path = there.path; id = file.0; kind = file.1; there = there.there ∙ ap Some file.2; is = file.3 }

number-within : (n : Namespace) (number : ℕ) (path : Path) (found : NodeKind) → value_at path_cmp path (tree_of n number) ≡ Some found → number < length n.trees
number-within n number path found h = elim (below-or-past number (length n.trees)) [
  | inl l ↦ l
  | inr l ↦ let none : value_at path_cmp path (tree_of n number) ≡ None = ap (value_at path_cmp path) (get_or_past n.trees number [] l) in absurd (cc)
]

pub linked-is : (n : Namespace) (row : ℕ) → Linked n row → is_linked n row ≡ true
linked-is n row linked =
    place-any (has_row row) n.trees linked.number [] (number-within n linked.number linked.path _ linked.there)
    (node-any (is_file_of_row row) (tree_of n linked.number) linked.path _ linked.there (ap (λ x. x == row) linked.is ∙ number-itself row))

held-found : (n : Namespace) (row place : ℕ) (found : Option Reference) → slice_index_or n.references place None ≡ found → refers_to row found ≡ true → Held n row
held-found n row place None e h = absurd (cc)
held-found n row place (Some reference) e h = record { place = place; reference = reference; there = e; is = same-number reference.file.row row h }

held-of : (n : Namespace) (row : ℕ) → is_held n row ≡ true → Held n row
held-of n row h =
    let found = any-place (refers_to row) n.references None h in
    held-found n row found.place (slice_index_or n.references found.place None) refl found.holds

pub held-is : (n : Namespace) (row : ℕ) → Held n row → is_held n row ≡ true
held-is n row held =
    place-any (refers_to row) n.references held.place None (some-within n.references held.place held.reference held.there)
    (ap (refers_to row) held.there ∙ ap (λ x. x == row) held.is ∙ number-itself row)

used-of : (n : Namespace) → ((number : ℕ) → IsClosedTree is_dir_node (tree_of n number)) → (row : ℕ) → (is_linked n row || is_held n row) ≡ true → IsUsed Nothing n row
used-of n trees row h = elim (or-either (is_linked n row) (is_held n row) h) [ inl k ↦ inl (linked-of n trees row k) | inr k ↦ inr (inl (held-of n row k)) ]

used-is : (n : Namespace) (row : ℕ) → IsUsed Nothing n row → (is_linked n row || is_held n row) ≡ true
used-is n row (inl linked) = or-first (is_linked n row) (is_held n row) (linked-is n row linked)
used-is n row (inr (inl held)) = or-second (is_linked n row) (is_held n row) (held-is n row held)
used-is n row (inr (inr none)) = absurd none

-- a row that a test finds neither linked nor held is neither
pub unused-not : (Excused : ℕ → Type 0) (n : Namespace) (row : ℕ) → (is_linked n row || is_held n row) ≡ false → IsUsed Excused n row → Excused row
unused-not Excused n row h (inl linked) = let k = or-first (is_linked n row) (is_held n row) (linked-is n row linked) in absurd (cc)
unused-not Excused n row h (inr (inl held)) = let k = or-second (is_linked n row) (is_held n row) (held-is n row held) in absurd (cc)
unused-not Excused n row h (inr (inr excused)) = excused

-- a row that a test finds linked or held needs no excuse
pub used-again : (n : Namespace) → ((number : ℕ) → IsClosedTree is_dir_node (tree_of n number)) → (row one : ℕ) → (is_linked n one || is_held n one) ≡ true →
    IsUsed (Only one) n row → IsUsed Nothing n row
used-again n trees row one h (inl linked) = inl linked
used-again n trees row one h (inr (inl held)) = inr (inl held)
used-again n trees row one h (inr (inr e)) = subst (IsUsed Nothing n) (sym e) (used-of n trees one h)

pub stands-of : (w : WorldState) → IsConsistent w → Stands Nothing w.namespace
stands-of w c = record {
  live = c.references_live;
  used = λ row l h. used-of w.namespace c.trees_closed row (c.rows_used.used row l h);
  alone = c.rows_used.alone;
  working_directories = c.folders_stand;
  trees = c.trees_closed;
  boxes = c.boxes_placed;
  live_files = c.live_files_fit;
  roms = c.roms_closed;
  sizes = record {
    live_files = c.sizes.live_files;
    generations = c.sizes.generations;
    trees = c.sizes.trees;
    working_directories = c.sizes.working_directories;
    mounts = c.sizes.mounts;
    references = c.references_bounded;
  };
}

pub consistent-of : (w : WorldState) → Stands Nothing w.namespace →
    ((row : ℕ) → agrees (life_at w.namespace row) (generation_at w.namespace row) (file_at w row) ≡ true) → CellsFit w → HomesFit w → length w.files ≡ 1024 → IsConsistent w
consistent-of w s agree fit homes files = record {
  rows_agree = agree;
  references_live = s.live;
  rows_used = record { used = λ row l h. used-is w.namespace row (s.used row l h); alone = s.alone };
  references_bounded = s.sizes.references;
  folders_stand = s.working_directories;
  trees_closed = s.trees;
  boxes_placed = s.boxes;
  live_files_fit = s.live_files;
  cells_fit = fit;
  homes_fit = homes;
  roms_closed = s.roms;
  sizes = record {
    files = files;
    live_files = s.sizes.live_files;
    generations = s.sizes.generations;
    trees = s.sizes.trees;
    working_directories = s.sizes.working_directories;
    mounts = s.sizes.mounts;
  };
}
