-- Opening a file keeps what holds between steps, also where the file is made.
use Rattle.std.proofs.Common.{◌≡◌, ℕ, zero, suc, ◌+◌, ◌-◌, ◌*◌, ◌<◌, ◌≤◌, Bool, true, false, not, ◌||◌, ◌&&◌, ◌==◌, Option, Some, None, is_none, IsSomeAnd, List, [], ◌∷◌, length, map, zip, find, slice_index_or, inl, inr, Ok, if◌then◌else◌, refl, sym, ap, subst, ◌∙◌, arith}
use Rattle.std.proofs.lemmas.Bool.{ltb-false, leb-false}
use Rattle.std.proofs.lemmas.List.{get_or_past}
use Rattle.std.proofs.lemmas.List.Sums.{passes_at_first}
use Rattle.std.proofs.lemmas.Slice.Zip.{get_or-zip, length-zip}
use Rattle.std.proofs.Math.ListN.{get_or-map}
use Rattle.std.specs.FinMap.Entries.{find as value_at}
use Rattle.std.specs.List.{position_or_len}
use Rattle.std.specs.Prelude.{nat_lt, min, slice_range}
use Rattle.vfs_model.specs.declared.namespace.Role.TheVariants as role
use Rattle.vfs_base.specs.Path.{Path, path_cmp}
use Rattle.vfs_base.specs.declared.errno.Errno.TheVariants as errno
use Rattle.vfs_base.specs.declared.flags.OpenFlags.{OpenFlags}
use Rattle.vfs_base.specs.declared.kinds.FsType.{FsType}
use Rattle.vfs_base.specs.declared.kinds.FsType.TheVariants as fs
use Rattle.vfs_base.specs.declared.kinds.Kind.{Kind}
use Rattle.vfs_base.specs.declared.kinds.Kind.TheVariants as kind
use Rattle.vfs_base.specs.declared.kinds.NodeKind.{NodeKind}
use Rattle.vfs_base.specs.declared.kinds.NodeKind.TheVariants as node
use Rattle.vfs_model.specs.Boxes.{fits_kind}
use Rattle.vfs_model.specs.Chain.{refuse◌when◌, refuse_by}
use Rattle.vfs_model.specs.Consistency.{FoldersStand, IsLive, fits_mount, mount_numbered, same_kind}
use Rattle.vfs_model.specs.FileLife.{Rows, after_taking, bind_row, free_rows, is_free_row, least_free_row, next_file, no_volume, volume_at, volume_named}
use Rattle.vfs_model.specs.Homes.{cell_capacity, change_row}
use Rattle.vfs_model.specs.Lookup.{asked_path, covering_mount, is_file, is_folder, is_full, is_read_only, is_read_only_type, is_there, node_at, rest_of, walk_refusal, with_node}
use Rattle.vfs_model.specs.Namespace.{all_mounts, generation_at, life_at, with_reference}
use Rattle.vfs_model.specs.OpenStep.{creates, for_reading, for_writing, has_no_room, is_exclusive, is_rom_node, is_without_cell, kind_of, least_free_number, least_spare_cell, make_file, new_backing, new_life, new_origin, open_at, open_file, open_refusals, open_step, truncates}
use Rattle.vfs_model.specs.declared.namespace.Backing.{Backing}
use Rattle.vfs_model.specs.declared.namespace.Backing.TheVariants as backing
use Rattle.vfs_model.specs.declared.namespace.LiveFile.{LiveFile}
use Rattle.vfs_model.specs.declared.namespace.Mount.{Mount}
use Rattle.vfs_model.specs.declared.namespace.Namespace.{Namespace}
use Rattle.vfs_model.specs.declared.namespace.Reference.{Reference}
use Rattle.vfs_model.specs.declared.namespace.RowChange.TheVariants as change
use Rattle.vfs_model.specs.declared.world.WorldState.{WorldState}
use Rattle.world_laws.proofs.parts.Agreeing.{Agrees, Begins, IsNewSpare, agrees-beside, bind-agrees}
use Rattle.world_laws.proofs.parts.Binding.{IsFreeBacking, MayBind, some-life, bind-stands, next_generations}
use Rattle.world_laws.proofs.parts.Covering.{IsMount, covering-is}
use Rattle.world_laws.proofs.steps.FileKeepingSteps.{free-place, place_of}
use Rattle.world_laws.proofs.steps.Keeping.{Keeps, Kept, absent-none, bind-kept, same-kept, then-kept}
use Rattle.world_laws.proofs.lists.Lists.{below-or-past, nor-first, nor-second, number-itself, same-number, set-here}
use Rattle.world_laws.proofs.steps.NameKeeping.{file-below, node-there}
use Rattle.world_laws.proofs.parts.Nodes.{covering-number, file-comes, number_at}
use Rattle.world_laws.proofs.lists.Passing.{and-both, and-first, refuse-passed, refuse_by-passed, then-first, then-rest}
use Rattle.world_laws.proofs.parts.Referring.{refer-stands}
use Rattle.world_laws.proofs.parts.Standing.{Linked, Nothing, Stands}
use Rattle.world_laws.proofs.parts.Taking.{cell-pages, with_life}

-- a mount of the list is found by its number
found-later : (m x : Mount) (mounts : List Mount) (b : Bool) → (x.number == m.number) ≡ b → ((x.number == m.number) ≡ true → ⊥) → find (λ x. x.number == m.number) mounts ≡ Some m →
    (if b then Some x else find (λ x. x.number == m.number) mounts) ≡ Some m
found-later m x mounts true e other h = absurd (other e)
found-later m x mounts false e other h = h

none-is : {X : Type 0} (found : Option X) → is_none found ≡ true → found ≡ None
none-is None h = refl
none-is (Some x) h = absurd (cc)

found-by : (m : Mount) (mounts : List Mount) (place : ℕ) → place < length mounts → slice_index_or mounts place m ≡ m →
    ((other : ℕ) → other < length mounts → (slice_index_or mounts other m).number ≡ m.number → other ≡ place) → find (λ x. x.number == m.number) mounts ≡ Some m
found-by m [] place l e one = absurd (omega arith)
found-by m (x ∷ mounts) zero l e one = ap (λ b. if b then Some x else find (λ x. x.number == m.number) mounts) (ap (λ y. y.number == m.number) e ∙ number-itself m.number) ∙ ap Some e
found-by m (x ∷ mounts) (suc place) l e one =
    found-later m x mounts (x.number == m.number) refl (λ h. let first : 0 ≡ suc place = one 0 (omega arith) (same-number x.number m.number h) in omega (arith, first))
    (found-by m mounts place (omega (arith, l)) e (λ other k h. let same : suc other ≡ suc place = one (suc other) (omega (arith, k)) h in omega (arith, same)))

pub numbered : (n : Namespace) (m : Mount) → FoldersStand n → IsMount n m → mount_numbered n m.number ≡ Some m
numbered n m f x =
    found-by m (all_mounts n) x.place x.within x.is
    (λ other l h. f.numbers_differ other x.place m l x.within (h ∙ sym (ap (λ y. y.number) x.is)))

-- a free row, by its place in the list
pub free-at : (n : Namespace) → length n.live_files ≡ 1024 → length n.generations ≡ 1024 → position_or_len (λ free. free) (free_rows n) < 1024 →
    slice_index_or n.live_files (position_or_len (λ free. free) (free_rows n)) None ≡ None
free-at n live_files generations l =
    let at = position_or_len (λ free. free) (free_rows n) in
    let zipped : length (zip n.live_files n.generations) ≡ 1024 = length-zip n.live_files n.generations ∙ both live_files generations in
    let all : length (free_rows n) ≡ 1024 = length-mapped (zip n.live_files n.generations) ∙ zipped in
    let passes : slice_index_or (free_rows n) at false ≡ true = passes_at_first (λ free. free) (free_rows n) false (subst (λ x. at < x) (sym all) l) in
    let mapped : slice_index_or (free_rows n) at false ≡ is_free_row (slice_index_or (zip n.live_files n.generations) at (None, 18446744073709551615)).0 (slice_index_or (zip n.live_files n.generations) at (None, 18446744073709551615)).1 =
    get_or-map (λ row. is_free_row row.0 row.1) (zip n.live_files n.generations) at (None, 18446744073709551615) in
    let pair : slice_index_or (zip n.live_files n.generations) at (None, 18446744073709551615) ≡ (slice_index_or n.live_files at None, slice_index_or n.generations at 18446744073709551615) =
    get_or-zip n.live_files n.generations at (None, 18446744073709551615) (subst (λ x. at < x) (sym live_files) l) (subst (λ x. at < x) (sym generations) l) in
    let free : is_free_row (slice_index_or n.live_files at None) (slice_index_or n.generations at 18446744073709551615) ≡ true =
    sym (ap (λ row. is_free_row row.0 row.1) pair) ∙ sym mapped ∙ passes in
    none-is (slice_index_or n.live_files at None) (and-first (is_none (slice_index_or n.live_files at None)) _ free)
  where
    both : {a b : ℕ} → a ≡ 1024 → b ≡ 1024 → min a b ≡ 1024
    both e f = omega (arith, e, f)

    length-mapped : (xs : List (Option LiveFile × ℕ)) → length (map (λ row. is_free_row row.0 row.1) xs) ≡ length xs
    length-mapped [] = refl
    length-mapped (x ∷ xs) = ap suc (length-mapped xs)

-- the least free row, where one is free
pub record FreeRow (n : Namespace) (row : ℕ) : Type 0 where
  pub counted : 0 < row
  pub small : row - 1 < 1024
  pub free : life_at n row ≡ None

pub least-free : (n : Namespace) → length n.live_files ≡ 1024 → length n.generations ≡ 1024 → nat_lt 1024 (least_free_row n) ≡ false → FreeRow n (least_free_row n)
least-free n live_files generations h =
    let small : least_free_row n ≤ 1024 = ltb-false 1024 (least_free_row n) h in
    let at = position_or_len (λ free. free) (free_rows n) in
    let place : least_free_row n - 1 ≡ at = omega arith in
    record {
      counted = omega arith;
      small = omega (arith, small);
      free = ap (λ k. slice_index_or n.live_files k None) place ∙ free-at n live_files generations (omega (arith, small));
    }

-- what a bound row leaves as it was
taken-walk : (m : Namespace) (b : Backing) (p : Path) → walk_refusal (after_taking m b) p ≡ walk_refusal m p
unfolding walk_refusal node_at covering_mount
taken-walk m backing.Memory p = refl
taken-walk m (backing.Cell volume cell) p = refl
taken-walk m (backing.Device device) p = refl

taken-node : (m : Namespace) (b : Backing) (p : Path) → node_at (after_taking m b) p ≡ node_at m p
unfolding node_at covering_mount
taken-node m backing.Memory p = refl
taken-node m (backing.Cell volume cell) p = refl
taken-node m (backing.Device device) p = refl

taken-full : (m : Namespace) (b : Backing) (p : Path) → is_full (after_taking m b) p ≡ is_full m p
unfolding covering_mount
taken-full m backing.Memory p = refl
taken-full m (backing.Cell volume cell) p = refl
taken-full m (backing.Device device) p = refl

taken-number : (m : Namespace) (b : Backing) (p : Path) → number_at (after_taking m b) p ≡ number_at m p
unfolding covering_mount
taken-number m backing.Memory p = refl
taken-number m (backing.Cell volume cell) p = refl
taken-number m (backing.Device device) p = refl

pub taken-trees : (m : Namespace) (b : Backing) → (after_taking m b).trees ≡ m.trees
taken-trees m backing.Memory = refl
taken-trees m (backing.Cell volume cell) = refl
taken-trees m (backing.Device device) = refl

pub taken-live_files : (m : Namespace) (b : Backing) → ((after_taking m b).live_files ≡ m.live_files) × ((after_taking m b).generations ≡ m.generations)
taken-live_files m backing.Memory = (refl, refl)
taken-live_files m (backing.Cell volume cell) = (refl, refl)
taken-live_files m (backing.Device device) = (refl, refl)

pub taken-pages : (m : Namespace) (b : Backing) (volume cell : ℕ) → cell_capacity (after_taking m b) volume cell ≡ cell_capacity m volume cell
taken-pages m backing.Memory volume cell = refl
taken-pages m (backing.Cell v c) volume cell = ap (λ pages. 4096 * slice_index_or pages cell 0) (cell-pages false m v c volume)
taken-pages m (backing.Device device) volume cell = refl

-- a node that is put before a row is bound stands as one that is put after
put-and-bind : (n : Namespace) (p : Path) (new : NodeKind) (row : ℕ) (life : LiveFile) (b : Backing) →
    after_taking (with_life (with_node n p new) row (Some life) (next_generations n row)) b ≡ with_node (after_taking (with_life n row (Some life) (next_generations n row)) b) p new
unfolding with_node covering_mount
put-and-bind n p new row life backing.Memory = refl
put-and-bind n p new row life (backing.Cell volume cell) = refl
put-and-bind n p new row life (backing.Device device) = refl

-- a row that is bound to a live file of the mount of a path, and then stands there
pub make-stands : (n : Namespace) (p : Path) (row : ℕ) (life : LiveFile) → MayBind n row life → Stands Nothing n → walk_refusal n p ≡ None → node_at n p ≡ None → is_full n p ≡ false →
    life.mount ≡ number_at n p → Stands Nothing (bind_row (with_node n p (node.File (next_file n row) life.kind)) row life)
unfolding bind_row walk_refusal node_at covering_mount with_node
make-stands n p row life may s walk absent room mount =
    let m = with_life n row (Some life) (next_generations n row) in
    let b = life.backing in
    let bound = bind-stands n row life may s in
    subst (Stands Nothing) (sym (put-and-bind n p (node.File (next_file n row) life.kind) row life b))
    (file-comes (after_taking m b) p (next_file n row) life.kind bound (taken-walk m b p ∙ walk) (taken-node m b p ∙ absent) (taken-full m b p ∙ room) (alive b (taken-live_files m b)) (unlinked b))
  where
    alive : (b : Backing) → ((after_taking (with_life n row (Some life) (next_generations n row)) b).live_files ≡ (with_life n row (Some life) (next_generations n row)).live_files)
        × ((after_taking (with_life n row (Some life) (next_generations n row)) b).generations ≡ (with_life n row (Some life) (next_generations n row)).generations) →
        IsLive (after_taking (with_life n row (Some life) (next_generations n row)) b) (next_file n row) life.kind (number_at (after_taking (with_life n row (Some life) (next_generations n row)) b) p)
    alive b same = record {
      row = may.counted;
      generation = ap (λ generations. slice_index_or generations (row - 1) 0) same.1
          ∙ set-here n.generations (row - 1) (generation_at n row + 1) 0 (subst (λ x. row - 1 < x) (sym s.sizes.generations) may.within);
      life = subst (λ found. IsSomeAnd found (λ x. (x.kind ≡ life.kind) × (x.mount ≡ number_at (after_taking (with_life n row (Some life) (next_generations n row)) b) p)))
          (sym (ap (λ live_files. slice_index_or live_files (row - 1) None) same.0 ∙ set-here n.live_files (row - 1) (Some life) None (subst (λ x. row - 1 < x) (sym s.sizes.live_files) may.within)))
          (refl, mount ∙ sym (taken-number (with_life n row (Some life) (next_generations n row)) b p));
    }

    unlinked : (b : Backing) → Linked (after_taking (with_life n row (Some life) (next_generations n row)) b) row → Unit {0} → ⊥
    unlinked b linked u =
        let there = subst (λ trees. value_at path_cmp linked.path (slice_index_or trees linked.number []) ≡ Some (node.File linked.id linked.kind)) (taken-trees (with_life n row (Some life) (next_generations n row)) b) linked.there in
        let live = s.live.linked linked.number linked.path linked.id linked.kind there in
        some-life (life_at n linked.id.row) _ live.life (ap (life_at n) linked.is ∙ may.free)

-- a mount whose type is written holds files of its kind, on what they lie on
fresh-kind : (n : Namespace) (m : Mount) (f : FsType) → m.fs ≡ f → is_read_only_type f ≡ false → fits_kind (Some (record { kind = kind_of f; mount = m.number; backing = new_backing n m f })) ≡ true
fresh-kind n m fs.Tmp e h = refl
fresh-kind n m fs.Rom e h = absurd (cc)
fresh-kind n m fs.Cell e h = refl
fresh-kind n m fs.Dev e h = absurd (cc)

pub kind-itself : (k : Kind) → same_kind k k ≡ true
kind-itself kind.Tmp = refl
kind-itself kind.Rom = refl
kind-itself kind.Cell = refl
kind-itself kind.Chr = refl

fresh-mount : (n : Namespace) (m : Mount) (f : FsType) → m.fs ≡ f → fits_mount n (record { kind = kind_of f; mount = m.number; backing = new_backing n m f }) m ≡ true
fresh-mount n m fs.Tmp e = and-both _ true (ap (λ x. same_kind kind.Tmp (kind_of x)) e) refl
fresh-mount n m fs.Rom e = and-both _ true (ap (λ x. same_kind kind.Rom (kind_of x)) e) refl
fresh-mount n m fs.Dev e = and-both _ true (ap (λ x. same_kind kind.Chr (kind_of x)) e) refl
fresh-mount n m fs.Cell e = and-both _ (volume_named n m.source == volume_named n m.source) (ap (λ x. same_kind kind.Cell (kind_of x)) e) (number-itself (volume_named n m.source))

volume-within : (n : Namespace) (volume cell : ℕ) → cell < length (volume_at n volume).spare → volume < length n.volumes
volume-within n volume cell l = elim (below-or-past volume (length n.volumes)) [
  | inl m ↦ m
  | inr m ↦ let none : length (volume_at n volume).spare ≡ 0 = ap (λ v. length v.spare) (get_or_past n.volumes volume no_volume m) in absurd (omega (arith, l, none))
]

fresh-backing : (n : Namespace) (m : Mount) (f : FsType) → is_read_only_type f ≡ false → is_without_cell n m f ≡ false → IsFreeBacking n (new_backing n m f)
fresh-backing n m fs.Tmp h k = tt
fresh-backing n m fs.Rom h k = absurd (cc)
fresh-backing n m fs.Dev h k = absurd (cc)
fresh-backing n m fs.Cell h k =
    let volume = volume_named n m.source in
    let within : least_spare_cell n m < length (volume_at n volume).spare = leb-false (length (volume_at n volume).spare) (least_spare_cell n m) k in
    (volume-within n volume (least_spare_cell n m) within, within, passes_at_first (λ is_spare. is_spare) (volume_at n volume).spare false within)

fresh-begins : (n : Namespace) (m : Mount) (f : FsType) → is_read_only_type f ≡ false → Begins (record { kind = kind_of f; mount = m.number; backing = new_backing n m f }) (new_origin (new_backing n m f))
fresh-begins n m fs.Tmp h = (refl, refl)
fresh-begins n m fs.Rom h = absurd (cc)
fresh-begins n m fs.Dev h = absurd (cc)
fresh-begins n m fs.Cell h = (refl, refl)

fresh-spare : (n : Namespace) (m : Mount) (f : FsType) → is_read_only_type f ≡ false → is_without_cell n m f ≡ false → IsNewSpare n (new_origin (new_backing n m f))
fresh-spare n m fs.Tmp h k = tt
fresh-spare n m fs.Rom h k = absurd (cc)
fresh-spare n m fs.Dev h k = absurd (cc)
fresh-spare n m fs.Cell h k = (fresh-backing n m fs.Cell h k).2

some-found : {X : Type 0} (P : X → Type 0) (found : Option X) (x : X) → found ≡ Some x → P x → IsSomeAnd found P
some-found P found x e h = subst (λ f. IsSomeAnd f P) (sym e) h

-- what a chain of refusals before opening has told
pub record MayOpen (n : Namespace) (k : ℕ) (p : Path) : Type 0 where
  pub walk : walk_refusal n p ≡ None
  pub folder : is_folder n p ≡ false
  pub writable : (not (is_there n p) && is_read_only n p) ≡ false
  pub number : nat_lt 32 (least_free_number n k) ≡ false
  pub room : (not (is_there n p) && has_no_room n p) ≡ false

pub may-open : (n : Namespace) (k : ℕ) (p : Path) (flags : OpenFlags) → open_refusals n k p flags ≡ Ok tt → MayOpen n k p
unfolding open_refusals
may-open n k p flags h =
    let invalid = not (for_reading flags || for_writing flags) || (truncates flags && not (for_writing flags)) in
    let r1 = then-rest (refuse errno.EINVAL when invalid) _ tt h in
    let r2 = then-rest (refuse_by (walk_refusal n p)) _ tt r1 in
    let r3 = then-rest (refuse errno.EISDIR when (is_folder n p)) _ tt r2 in
    let r4 = then-rest (refuse errno.EEXIST when (is_file n p && creates flags && is_exclusive flags)) _ tt r3 in
    let r5 = then-rest (refuse errno.ENOENT when (not (is_there n p) && not (creates flags))) _ tt r4 in
    let rom = is_rom_node (node_at n p) && for_writing flags in
    let r6 = then-rest (refuse errno.EROFS when ((not (is_there n p) && is_read_only n p) || rom)) _ tt r5 in
    record {
      walk = refuse_by-passed (walk_refusal n p) (then-first (refuse_by (walk_refusal n p)) _ tt r1);
      folder = refuse-passed errno.EISDIR (is_folder n p) (then-first (refuse errno.EISDIR when (is_folder n p)) _ tt r2);
      writable = nor-first (not (is_there n p) && is_read_only n p) rom
          (refuse-passed errno.EROFS ((not (is_there n p) && is_read_only n p) || rom) (then-first (refuse errno.EROFS when ((not (is_there n p) && is_read_only n p) || rom)) _ tt r5));
      number = refuse-passed errno.EMFILE (nat_lt 32 (least_free_number n k)) (then-first (refuse errno.EMFILE when (nat_lt 32 (least_free_number n k))) _ tt r6);
      room = refuse-passed errno.ENOSPC (not (is_there n p) && has_no_room n p) (then-rest (refuse errno.EMFILE when (nat_lt 32 (least_free_number n k))) _ tt r6);
    }

second-false : (a b : Bool) → a ≡ true → (a && b) ≡ false → b ≡ false
second-false true b e h = h
second-false false b e h = absurd (cc)

-- the file that is made where none is
made-kept : (n : Namespace) (k : ℕ) (p : Path) → MayOpen n k p → is_there n p ≡ false → Stands Nothing n → Keeps n (make_file n p).next (make_file n p).changes
unfolding make_file bind_row with_node
made-kept n k p may absent s =
    let m = covering_mount n p in
    let row = least_free_row n in
    let life = new_life n p in
    let gone = ap not absent in
    let writable : is_read_only n p ≡ false = second-false (not (is_there n p)) (is_read_only n p) gone may.writable in
    let room : has_no_room n p ≡ false = second-false (not (is_there n p)) (has_no_room n p) gone may.room in
    let not_full : is_full n p ≡ false = nor-first (is_full n p) (nat_lt 1024 row) (nor-first (is_full n p || nat_lt 1024 row) (is_without_cell n m m.fs) room) in
    let some_row : nat_lt 1024 row ≡ false = nor-second (is_full n p) (nat_lt 1024 row) (nor-first (is_full n p || nat_lt 1024 row) (is_without_cell n m m.fs) room) in
    let some_cell : is_without_cell n m m.fs ≡ false = nor-second (is_full n p || nat_lt 1024 row) (is_without_cell n m m.fs) room in
    let free = least-free n s.sizes.live_files s.sizes.generations some_row in
    let bind : MayBind n row life = record {
      counted = free.counted;
      within = free.small;
      free = free.free;
      kind = fresh-kind n m m.fs refl writable;
      mount = some-found (λ x. fits_mount n life x ≡ true) (mount_numbered n m.number) m (numbered n m s.working_directories (covering-is n p s.working_directories)) (fresh-mount n m m.fs refl);
      backing = fresh-backing n m m.fs writable some_cell;
    } in
    record {
      stands = make-stands n p row life bind s may.walk (absent-none (node_at n p) absent) not_full refl;
      pages = λ volume cell. taken-pages (with_life (with_node n p (node.File (next_file n row) life.kind)) row (Some life) (next_generations n row)) life.backing volume cell;
      files = λ v a. made-files v a row life (fresh-begins n m m.fs writable) (fresh-spare n m m.fs writable some_cell) free.small;
    }
  where
    made-files : (v : WorldState) → Agrees v n → (row : ℕ) (life : LiveFile) → Begins life (new_origin life.backing) → IsNewSpare n (new_origin life.backing) → row - 1 < 1024 →
        Agrees (change_row v (change.Bind (next_file n row) (new_origin life.backing))) (bind_row (with_node n p (node.File (next_file n row) life.kind)) row life)
    made-files v a row life b new l =
        bind-agrees v (with_node n p (node.File (next_file n row) life.kind)) row life (new_origin life.backing) l s.sizes.live_files s.sizes.generations b
        new (agrees-beside v n (with_node n p (node.File (next_file n row) life.kind)) (refl, refl, refl, refl) a)

taken-references : (m : Namespace) (b : Backing) → (after_taking m b).references ≡ m.references
taken-references m backing.Memory = refl
taken-references m (backing.Cell volume cell) = refl
taken-references m (backing.Device device) = refl

made-references : (n : Namespace) (p : Path) → (make_file n p).next.references ≡ n.references
unfolding make_file bind_row with_node
made-references n p = taken-references _ (new_life n p).backing

at-references : (n : Namespace) (references : List (Option Reference)) (k : ℕ) → references ≡ n.references → least_free_number (record n { references = references }) k ≡ least_free_number n k
at-references n references k e = ap (λ x. least_free_number (record n { references = x }) k) e

-- the session refers to the file that stands at the path
opened-kept : (n : Namespace) (k : ℕ) (p : Path) (rows : Rows) → 0 < k → rows.next.references ≡ n.references → nat_lt 32 (least_free_number n k) ≡ false → Keeps n rows.next rows.changes →
    (found : Option NodeKind) → node_at rows.next p ≡ found → Kept n (open_file k p rows found)
opened-kept n k p rows l same h kept None e = tt
opened-kept n k p rows l same h kept (Some node.Dir) e = tt
opened-kept n k p rows l same h kept (Some (node.File id kind)) e =
    let m = rows.next in
    let number = least_free_number m k in
    let alike : number ≡ least_free_number n k = ap (λ x. position_or_len is_none (slice_range x (32 * (k - 1)) (32 * k)) + 1) same in
    let place = free-place m k l (ap (λ x. nat_lt 32 x) alike ∙ h) in
    let reference : Reference = record { role = role.Open; file = id; kind = kind; mount = (covering_mount m p).number } in
    let live = kept.stands.live.linked (number_at m p) (rest_of m p) id kind (node-there m p (node.File id kind) (file-below m p id kind e) e) in
    record {
      stands = refer-stands Nothing m (place_of k number) reference place (live, (covering-number m p kept.stands.working_directories).1) kept.stands;
      pages = kept.pages;
      files = λ v a. agrees-beside _ m (with_reference m k number (Some reference)) (refl, refl, refl, refl) (kept.files v a);
    }

at-path-kept : (n : Namespace) (k : ℕ) (p : Path) (b : Bool) → is_there n p ≡ b → 0 < k → MayOpen n k p → Stands Nothing n →
    let rows = if b then record { next = n; changes = [] } else make_file n p in Kept n (open_file k p rows (node_at rows.next p))
at-path-kept n k p true e l may s = opened-kept n k p (record { next = n; changes = [] }) l refl may.number (same-kept n s) (node_at n p) refl
at-path-kept n k p false e l may s = opened-kept n k p (make_file n p) l (made-references n p) may.number (made-kept n k p may e s) (node_at (make_file n p).next p) refl

pub open-kept : (n : Namespace) (k : ℕ) (text : List ℕ) (flags : OpenFlags) → 0 < k → Stands Nothing n → Kept n (open_step n k text flags)
unfolding open_at
open-kept n k text flags l s =
    bind-kept n (asked_path n k text) _ (λ path e.
    then-kept n (open_refusals n k path flags) _ (λ h.
    at-path-kept n k path (is_there n path) refl l (may-open n k path flags h) s))
