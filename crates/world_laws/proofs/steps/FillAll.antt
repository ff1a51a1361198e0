-- A new mount is filled with all that it begins with.
use Rattle.std.proofs.Common.{◌≡◌, ℕ, zero, suc, ◌+◌, ◌<◌, Option, Some, None, List, [], ◌∷◌, ◌++◌, length, fold, slice_set, refl, sym, ap, subst, ◌∙◌, arith, append_assoc}
use Rattle.std.proofs.lemmas.List.{append-nil}
use Rattle.std.proofs.lemmas.List.Sums.{fold-append}
use Rattle.std.specs.FinMap.Entries.{put}
use Rattle.vfs_base.specs.Path.{Path, path_cmp}
use Rattle.vfs_base.specs.declared.kinds.NodeKind.{NodeKind}
use Rattle.vfs_base.specs.declared.kinds.NodeKind.TheVariants as node
use Rattle.vfs_model.specs.Content.{Content}
use Rattle.vfs_model.specs.FileLife.{Rows, after_taking, bind_row, least_free_row, next_file}
use Rattle.vfs_model.specs.Homes.{cell_capacity, change_row}
use Rattle.vfs_model.specs.Lookup.{with_tree}
use Rattle.vfs_model.specs.MountStep.{add_content, with_entry}
use Rattle.vfs_model.specs.Namespace.{Tree}
use Rattle.vfs_model.specs.OpenStep.{kind_of}
use Rattle.vfs_model.specs.declared.namespace.Backing.{Backing}
use Rattle.vfs_model.specs.declared.namespace.Backing.TheVariants as backing
use Rattle.vfs_model.specs.declared.namespace.LiveFile.{LiveFile}
use Rattle.vfs_model.specs.declared.namespace.Mount.{Mount}
use Rattle.vfs_model.specs.declared.namespace.Namespace.{Namespace}
use Rattle.vfs_model.specs.declared.namespace.Origin.{Origin}
use Rattle.vfs_model.specs.declared.namespace.Origin.TheVariants as origin
use Rattle.vfs_model.specs.declared.namespace.RowChange.{RowChange}
use Rattle.vfs_model.specs.declared.namespace.RowChange.TheVariants as change
use Rattle.vfs_model.specs.declared.world.WorldState.{WorldState}
use Rattle.world_laws.proofs.parts.Agreeing.{Agrees, IsNewSpare, bind-agrees}
use Rattle.world_laws.proofs.parts.Binding.{next_generations}
use Rattle.world_laws.proofs.steps.FillApart.{fill-apart}
use Rattle.world_laws.proofs.steps.Filling.{Fill, FitsOrigin, begins-fit, fill-file, fill-folder, life_of, not-behind}
use Rattle.world_laws.proofs.parts.FreeRows.{some-free}
use Rattle.world_laws.proofs.parts.Growing.{tree-own}
use Rattle.world_laws.proofs.steps.OpenKeeping.{taken-pages}
use Rattle.world_laws.proofs.steps.BoundFiles.{Coming, Shown, shown-file, shown-folder, still-coming}
use Rattle.world_laws.proofs.parts.Taking.{with_life}
use Rattle.std.proofs.lemmas.List.Sums.{sum_by-cons}
use Rattle.vfs_model.specs.Boxes.{one_if}
use Rattle.vfs_model.specs.Content.{file_count}
use Rattle.std.specs.Prelude.{is_some}

set-twice : {X : Type 0} (xs : List X) (i : ℕ) (a b : X) → slice_set (slice_set xs i a) i b ≡ slice_set xs i b
set-twice [] i a b = refl
set-twice (x ∷ xs) zero a b = refl
set-twice (x ∷ xs) (suc i) a b = ap (λ rest. x ∷ rest) (set-twice xs i a b)

-- an entry is put into a tree that was put there
entry-again : (m : Namespace) (number : ℕ) (tree : Tree) (p : Path) (new : NodeKind) → length m.trees ≡ 16 → number < 16 →
    with_entry (with_tree m number tree) number p new ≡ with_tree m number (put path_cmp p new tree)
entry-again m number tree p new e l =
    ap (λ t. with_tree (with_tree m number tree) number (put path_cmp p new t)) (tree-own m number tree e l)
    ∙ ap (λ trees. record m { trees = trees }) (set-twice m.trees number tree (put path_cmp p new tree))

tree-and-bind : (m : Namespace) (number : ℕ) (tree : Tree) (row : ℕ) (life : LiveFile) (b : Backing) →
    after_taking (with_life (with_tree m number tree) row (Some life) (next_generations m row)) b ≡ with_tree (after_taking (with_life m row (Some life) (next_generations m row)) b) number tree
tree-and-bind m number tree row life backing.Memory = refl
tree-and-bind m number tree row life (backing.Cell volume cell) = refl
tree-and-bind m number tree row life (backing.Device device) = refl

-- no file of a mount's content is made anew
begins-new : (mount : Mount) (m : Namespace) (p : Path) (begins : Origin) → FitsOrigin mount m p begins → IsNewSpare m begins
begins-new mount m p origin.Empty f = absurd f
begins-new mount m p (origin.NewCell volume cell) f = absurd f
begins-new mount m p (origin.Rom place path) f = tt
begins-new mount m p (origin.Cell volume cell) f = tt
begins-new mount m p (origin.Device device) f = tt

module _ (mount : Mount) where
  abbrev pub adds : Rows → (Path × Option Origin) → Rows
  adds rows entry = add_content mount rows entry.0 entry.1

  -- the mount is filled with what is left
  pub record Filled (base m : Namespace) (tree : Tree) (behind left : Content) (changes : List RowChange) : Type 0 where
    pub last : Namespace
    pub final : Tree
    pub fill : Fill mount base last final (behind ++ left) []
    pub is : (fold adds (record { next = with_tree m mount.number tree; changes = changes }) left).next ≡ with_tree last mount.number final
    pub pages : (volume cell : ℕ) → cell_capacity last volume cell ≡ cell_capacity m volume cell
    pub files : (v : WorldState) → Agrees (fold change_row v changes) m → Agrees (fold change_row v (fold adds (record { next = with_tree m mount.number tree; changes = changes }) left).changes) last
    pub shown : (start v : WorldState) → Agrees (fold change_row v changes) m → Coming start (fold change_row v changes) left →
        Shown start (fold change_row v changes) m tree (kind_of mount.fs) behind →
        Shown start (fold change_row v (fold adds (record { next = with_tree m mount.number tree; changes = changes }) left).changes) last final (kind_of mount.fs) (behind ++ left)

  folder-rows : (m : Namespace) (tree : Tree) (p : Path) (changes : List RowChange) → length m.trees ≡ 16 → mount.number < 16 →
      adds (record { next = with_tree m mount.number tree; changes = changes }) (p, None) ≡ record { next = with_tree m mount.number (put path_cmp p node.Dir tree); changes = changes }
  folder-rows m tree p changes e l = ap (λ n. record { next = n; changes = changes }) (entry-again m mount.number tree p node.Dir e l)

  file-rows : (m : Namespace) (tree : Tree) (p : Path) (begins : Origin) (changes : List RowChange) → length m.trees ≡ 16 → mount.number < 16 →
      adds (record { next = with_tree m mount.number tree; changes = changes }) (p, Some begins) ≡ record {
        next = with_tree (bind_row m (least_free_row m) (life_of mount begins)) mount.number (put path_cmp p (node.File (next_file m (least_free_row m)) (kind_of mount.fs)) tree);
        changes = changes ++ change.Bind (next_file m (least_free_row m)) begins ∷ [];
      }
  unfolding bind_row
  file-rows m tree p begins changes e l =
      let row = least_free_row m in
      let new = node.File (next_file m row) (kind_of mount.fs) in
      ap (λ n. record { next = bind_row n row (life_of mount begins); changes = changes ++ change.Bind (next_file m row) begins ∷ [] }) (entry-again m mount.number tree p new e l)
      ∙ ap (λ n. record { next = n; changes = changes ++ change.Bind (next_file m row) begins ∷ [] })
      (tree-and-bind m mount.number (put path_cmp p new tree) row (life_of mount begins) (life_of mount begins).backing)

  pub fill-all : (left : Content) (base m : Namespace) (tree : Tree) (behind : Content) (changes : List RowChange) → mount.number < 16 → Fill mount base m tree behind left → Filled base m tree behind left changes
  unfolding bind_row
  fill-all [] base m tree behind changes l f = record {
    last = m;
    final = tree;
    fill = subst (λ all. Fill mount base m tree all []) (sym (append-nil behind)) f;
    is = refl;
    pages = λ volume cell. refl;
    files = λ v a. a;
    shown = λ start v a coming s. subst (Shown start (fold change_row v changes) m tree (kind_of mount.fs)) (sym (append-nil behind)) s;
  }
  fill-all ((p, None) ∷ left) base m tree behind changes l f =
      let more = fill-folder mount base m tree behind left p f in
      let later = fill-all left base m (put path_cmp p node.Dir tree) (behind ++ (p, None) ∷ []) changes l more in
      let rows = folder-rows m tree p changes f.rest.sizes.trees l in
      record {
        last = later.last;
        final = later.final;
        fill = subst (λ all. Fill mount base later.last later.final all []) (append_assoc behind ((p, None) ∷ []) left) later.fill;
        is = ap (λ r. (fold adds r left).next) rows ∙ later.is;
        pages = later.pages;
        files = λ v a. subst (λ r. Agrees (fold change_row v (fold adds r left).changes) later.last) (sym rows) (later.files v a);
        shown = λ start v a coming s.
            let more = shown-folder start (fold change_row v changes) m tree (kind_of mount.fs) behind p (not-behind mount p None behind left f.order) s in
            rw (sym rows, append_assoc behind ((p, None) ∷ []) left) at later.shown start v a coming.1 more;
      }
  fill-all ((p, Some begins) ∷ left) base m tree behind changes l f =
      let row = least_free_row m in
      let more = fill-file mount base m tree behind left p begins f in
      let bound = bind_row m row (life_of mount begins) in
      let later = fill-all left base bound (put path_cmp p (node.File (next_file m row) (kind_of mount.fs)) tree) (behind ++ (p, Some begins) ∷ []) (changes ++ change.Bind (next_file m row) begins ∷ []) l more in
      let rows = file-rows m tree p begins changes f.rest.sizes.trees l in
      let counted : file_count ((p, Some begins) ∷ left) ≡ 1 + file_count left = sum_by-cons (λ entry. one_if (is_some entry.1)) (p, Some begins) left in
      let free = some-free m f.rest.sizes.live_files f.rest.sizes.generations (let room = f.room in omega (arith, counted, room)) in
      let agreed : (now : WorldState) → Agrees now m → Agrees (change_row now (change.Bind (next_file m row) begins)) bound = λ now a.
      bind-agrees now m row (life_of mount begins) begins free.small f.rest.sizes.live_files f.rest.sizes.generations (begins-fit mount m p begins f.fit.0) (begins-new mount m p begins f.fit.0) a in
      record {
        last = later.last;
        final = later.final;
        fill = subst (λ all. Fill mount base later.last later.final all []) (append_assoc behind ((p, Some begins) ∷ []) left) later.fill;
        is = ap (λ r. (fold adds r left).next) rows ∙ later.is;
        pages = λ volume cell. later.pages volume cell ∙ taken-pages (with_life m row (Some (life_of mount begins)) (next_generations m row)) (life_of mount begins).backing volume cell;
        files = λ v a. subst (λ r. Agrees (fold change_row v (fold adds r left).changes) later.last) (sym rows)
            (later.files v (subst (λ w. Agrees w bound) (sym (fold-append change_row v changes (change.Bind (next_file m row) begins ∷ []))) (agreed (fold change_row v changes) a)));
        shown = λ start v a coming s.
            let now = fold change_row v changes in
            let come = sym (fold-append change_row v changes (change.Bind (next_file m row) begins ∷ [])) in
            let more = shown-file start now m tree (kind_of mount.fs) behind p begins row (life_of mount begins) (not-behind mount p (Some begins) behind left f.order) free
            a.files.files f.rest.sizes.live_files coming.0 s in
            let still = still-coming start now (next_file m row) begins left (fill-apart mount base m tree behind left p begins f now.homes a.homes) coming.1 in
            let last = later.shown start v (subst (λ w. Agrees w bound) come (agreed now a)) (subst (λ w. Coming start w left) come still)
            (subst (λ w. Shown start w bound (put path_cmp p (node.File (next_file m row) (kind_of mount.fs)) tree) (kind_of mount.fs) (behind ++ (p, Some begins) ∷ [])) come more) in
            rw (sym rows, append_assoc behind ((p, Some begins) ∷ []) left) at last;
      }
