-- What a step keeps, and how chains of refusals tell it.
use Rattle.std.proofs.Common.{◌≡◌, ℕ, ◌-◌, ◌*◌, ◌<◌, Bool, true, false, not, ◌||◌, Option, Some, None, is_some, IsSomeAnd, List, [], length, fold, slice_index_or, Result, Ok, Err, if◌then◌else◌, refl, sym, ap, subst, ◌∙◌}
use Rattle.vfs_base.specs.declared.errno.Errno.{Errno}
use Rattle.vfs_base.specs.declared.ids.FileId.{FileId}
use Rattle.vfs_base.specs.declared.kinds.Kind.{Kind}
use Rattle.vfs_base.specs.declared.kinds.NodeKind.{NodeKind}
use Rattle.vfs_base.specs.declared.kinds.NodeKind.TheVariants as node
use Rattle.vfs_model.specs.Chain.{◌>>=◌, ◌>>◌, wanted}
use Rattle.vfs_model.specs.Consistency.{IsLive}
use Rattle.vfs_model.specs.FileLife.{after_end, backing_of, end_of_dropped, free_if_unused, free_row, is_held, is_linked}
use Rattle.vfs_model.specs.Homes.{cell_capacity, change_row}
use Rattle.vfs_model.specs.Lookup.{is_dir_node, is_file_node}
use Rattle.vfs_model.specs.Namespace.{life_at}
use Rattle.vfs_model.specs.NamespaceOutcome.{NamespaceOutcome}
use Rattle.vfs_model.specs.declared.namespace.Backing.{Backing}
use Rattle.vfs_model.specs.declared.namespace.Backing.TheVariants as backing
use Rattle.vfs_model.specs.declared.namespace.End.{End}
use Rattle.vfs_model.specs.declared.namespace.End.TheVariants as end
use Rattle.vfs_model.specs.declared.namespace.LiveFile.{LiveFile}
use Rattle.vfs_model.specs.declared.namespace.Namespace.{Namespace}
use Rattle.vfs_model.specs.declared.namespace.RowChange.{RowChange}
use Rattle.vfs_model.specs.declared.world.WorldState.{WorldState}
use Rattle.world_laws.proofs.parts.Agreeing.{Agrees, SameRows, agrees-beside, free-agrees}
use Rattle.world_laws.proofs.parts.AtHome.{MayEnd}
use Rattle.world_laws.proofs.parts.Freeing.{unused-stands, without_life}
use Rattle.world_laws.proofs.lists.Lists.{some-within}
use Rattle.world_laws.proofs.parts.Standing.{Nothing, Only, Stands}
use Rattle.world_laws.proofs.parts.Taking.{cell-pages}

-- a step keeps what holds between steps: the namespace stands, the cells are as large as before, and files that agreed
-- agree after the changes of rows
pub record Keeps (n next : Namespace) (changes : List RowChange) : Type 0 where
  pub stands : Stands Nothing next
  pub pages : (volume cell : ℕ) → cell_capacity next volume cell ≡ cell_capacity n volume cell
  pub files : (v : WorldState) → Agrees v n → Agrees (fold change_row v changes) next

abbrev pub Kept : Namespace → Result NamespaceOutcome Errno → Type 0
Kept n (Ok outcome) = Keeps n outcome.next outcome.changes
Kept n (Err errno) = Unit {0}

pub then-kept : (n : Namespace) (r : Result (Unit {0}) Errno) (rest : Result NamespaceOutcome Errno) → (r ≡ Ok tt → Kept n rest) → Kept n (r >> rest)
then-kept n (Ok tt) rest h = h refl
then-kept n (Err errno) rest h = tt

pub bind-kept : {X : Type 0} (n : Namespace) (r : Result X Errno) (f : X → Result NamespaceOutcome Errno) → ((x : X) → r ≡ Ok x → Kept n (f x)) → Kept n (r >>= f)
bind-kept n (Ok x) f h = h x refl
bind-kept n (Err errno) f h = tt

pub wanted-kept : {X : Type 0} (n : Namespace) (errno : Errno) (found : Option X) (f : X → Result NamespaceOutcome Errno) → ((x : X) → found ≡ Some x → Kept n (f x)) → Kept n (wanted errno found >>= f)
wanted-kept n errno (Some x) f h = h x refl
wanted-kept n errno None f h = tt

-- a step that only tells
pub same-kept : (n : Namespace) → Stands Nothing n → Keeps n n []
same-kept n s = record { stands = s; pages = λ volume cell. refl; files = λ v a. a }

-- a step that changes neither lives nor volumes nor devices
pub names-kept : (n next : Namespace) → Stands Nothing next → SameRows n next → Keeps n next []
names-kept n next s same = record {
  stands = s;
  pages = λ volume cell. ap (λ all. cell_capacity (record n { volumes = all }) volume cell) (sym same.2);
  files = λ v a. agrees-beside v n next same a;
}

-- the row of a live file is one of the list
pub live-row : (n : Namespace) (id : FileId) (kind : Kind) (number : ℕ) → length n.live_files ≡ 1024 → IsLive n id kind number → (0 < id.row) × (id.row - 1 < 1024)
live-row n id kind number e live = (live.row, subst (λ x. id.row - 1 < x) e (within (life_at n id.row) refl live.life))
  where
    within : (found : Option LiveFile) → life_at n id.row ≡ found → IsSomeAnd found (λ life. (life.kind ≡ kind) × (life.mount ≡ number)) → id.row - 1 < length n.live_files
    within None h x = absurd x
    within (Some life) h x = some-within n.live_files (id.row - 1) life h

pub end-pages : (m : Namespace) (e : End) (volume cell : ℕ) → cell_capacity (after_end m e) volume cell ≡ cell_capacity m volume cell
end-pages m end.Nothing volume cell = refl
end-pages m (end.Spare v c) volume cell = ap (λ pages. 4096 * slice_index_or pages cell 0) (cell-pages true m v c volume)
end-pages m (end.Kept v c) volume cell = refl
end-pages m (end.Device device) volume cell = refl

pub dropped-ends : (n : Namespace) (row : ℕ) (b : Backing) → backing_of (life_at n row) ≡ b → MayEnd n row (end_of_dropped b)
dropped-ends n row backing.Memory e = tt
dropped-ends n row (backing.Cell volume cell) e = e
dropped-ends n row (backing.Device device) e = tt

drop-files : (m : Namespace) (row : ℕ) (named : Bool) → row - 1 < 1024 → length m.live_files ≡ 1024 → (v : WorldState) → Agrees v m →
    let rows = if named then record { next = m; changes = [] } else free_row end_of_dropped (record { next = m; changes = [] }) row in
    Agrees (fold change_row v rows.changes) rows.next
unfolding free_row
drop-files m row true l e v a = a
drop-files m row false l e v a =
    free-agrees v m row (end_of_dropped (backing_of (life_at m row))) l e (dropped-ends m row (backing_of (life_at m row)) refl) a

drop-pages : (m : Namespace) (row : ℕ) (named : Bool) (volume cell : ℕ) →
    cell_capacity (if named then record { next = m; changes = [] } else free_row end_of_dropped (record { next = m; changes = [] }) row).next volume cell ≡ cell_capacity m volume cell
unfolding free_row
drop-pages m row true volume cell = refl
drop-pages m row false volume cell = end-pages (without_life m row) (end_of_dropped (backing_of (life_at m row))) volume cell

-- a name or a reference of a row's file has gone, and the file is freed where nothing names it any more
pub lost-kept : (n m : Namespace) (row : ℕ) → 0 < row → row - 1 < 1024 → Stands (Only row) m → SameRows n m →
    Keeps n (free_if_unused m row).next (free_if_unused m row).changes
unfolding free_if_unused
lost-kept n m row l small s same = record {
  stands = unused-stands m row l small s;
  pages = λ volume cell. drop-pages m row (is_linked m row || is_held m row) volume cell ∙ ap (λ all. cell_capacity (record n { volumes = all }) volume cell) (sym same.2);
  files = λ v a. drop-files m row (is_linked m row || is_held m row) small s.sizes.live_files v (agrees-beside v n m same a);
}

-- what is there and no file is a folder
pub there-folder : (found : Option NodeKind) → not (is_some found) ≡ false → is_file_node found ≡ false → found ≡ Some node.Dir
there-folder None h k = absurd (cc)
there-folder (Some node.Dir) h k = refl
there-folder (Some (node.File id kind)) h k = absurd (cc)

-- what is there and no folder is a file
pub there-file : (found : Option NodeKind) → not (is_some found) ≡ false → is_dir_node found ≡ false → (id : FileId) × (kind : Kind) × (found ≡ Some (node.File id kind))
there-file None h k = absurd (cc)
there-file (Some node.Dir) h k = absurd (cc)
there-file (Some (node.File id kind)) h k = (id, kind, refl)

pub absent-none : {X : Type 0} (found : Option X) → is_some found ≡ false → found ≡ None
absent-none None h = refl
absent-none (Some x) h = absurd (cc)
