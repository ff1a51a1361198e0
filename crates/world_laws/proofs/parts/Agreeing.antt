-- The files of a world agree with a namespace, and go on doing so where both change.
use Rattle.std.proofs.Common.{◌≡◌, ◌≢◌, ℕ, ◌+◌, ◌-◌, ◌<◌, ◌≤◌, ◌==◌, true, false, not, Option, Some, None, List, [], length, slice_index_or, slice_set, ◌⊎◌, inl, inr, refl, sym, ap, subst, ◌∙◌, arith}
use Rattle.std.proofs.lemmas.Bool.{le-leb, leb-true}
use Rattle.std.proofs.lemmas.List.{length-set}
use Rattle.std.specs.Prelude.{nat_le}
use Rattle.vfs_base.specs.Path.{Path}
use Rattle.vfs_base.specs.declared.kinds.Kind.{Kind}
use Rattle.vfs_base.specs.declared.kinds.Kind.TheVariants as kind
use Rattle.vfs_base.specs.declared.limits.TheConstants.{TMP_FILE_MAX}
use Rattle.vfs_model.specs.Boxes.{file_capacity}
use Rattle.vfs_model.specs.Consistency.{agrees, same_kind}
use Rattle.vfs_model.specs.FileLife.{after_end, after_taking, backing_of, bind_row, next_file, volume_at, with_cell, with_device, with_kept}
use Rattle.vfs_model.specs.Homes.{bound_file, bytes_of, cell_bytes, cell_capacity, change_row, device_home, file_at, homes_after_bind, homes_after_end, no_home, rom_bytes, with_cell_bytes, with_device_home}
use Rattle.vfs_model.specs.Namespace.{file_of, generation_at, life_at}
use Rattle.vfs_model.specs.declared.namespace.Backing.{Backing}
use Rattle.vfs_model.specs.declared.namespace.Backing.TheVariants as backing
use Rattle.vfs_model.specs.declared.namespace.End.{End}
use Rattle.vfs_model.specs.declared.namespace.End.TheVariants as end
use Rattle.vfs_model.specs.declared.namespace.KeptNode.{KeptNode}
use Rattle.vfs_model.specs.declared.namespace.LiveFile.{LiveFile}
use Rattle.vfs_model.specs.declared.namespace.Namespace.{Namespace}
use Rattle.vfs_model.specs.declared.namespace.Origin.{Origin}
use Rattle.vfs_model.specs.declared.namespace.Origin.TheVariants as origin
use Rattle.vfs_model.specs.declared.namespace.RowChange.TheVariants as change
use Rattle.vfs_model.specs.declared.world.FileState.{FileState}
use Rattle.vfs_model.specs.declared.world.FileState.TheVariants as file
use Rattle.vfs_model.specs.declared.world.Homes.{Homes}
use Rattle.vfs_model.specs.declared.world.WorldState.{WorldState}
use Rattle.world_laws.proofs.parts.AtHome.{AtHome, MayEnd, cell-volume, empty-in, home-beside, home-emptied, home-ended, home-life, home-named, home-out, home-taken, no-cell, no-device, no-home-set}
use Rattle.world_laws.proofs.lists.Lists.{number-itself, same-or-other, set-here, set-there}
use Rattle.world_laws.proofs.lists.Passing.{and-both, and-second}
use Rattle.world_laws.proofs.parts.Taking.{set-at, with_life}

-- the files of a world are those that the namespace says, and its cells hold what lies on them
pub record FilesAgree (v : WorldState) (n : Namespace) : Type 0 where
  pub files : length v.files ≡ 1024
  pub agree : (row : ℕ) → agrees (life_at n row) (generation_at n row) (file_at v row) ≡ true
  pub live : (row volume cell : ℕ) → backing_of (life_at n row) ≡ backing.Cell volume cell → file_capacity (file_at v row) ≤ cell_capacity v.namespace volume cell
  pub home : (volume cell : ℕ) → length (cell_bytes v.homes volume cell) ≤ cell_capacity v.namespace volume cell

-- the files of a world are those that the namespace says, and what lies at home fits it
pub record Agrees (v : WorldState) (n : Namespace) : Type 0 where
  pub files : FilesAgree v n
  pub homes : AtHome v.homes n

-- lives and generations alone tell which files agree
files-beside : (v : WorldState) (n m : Namespace) → n.live_files ≡ m.live_files → n.generations ≡ m.generations → FilesAgree v n → FilesAgree v m
files-beside v n m e g a = record {
  files = a.files;
  agree = λ row. subst (λ live_files. agrees (slice_index_or live_files (row - 1) None) (generation_at m row) (file_at v row) ≡ true) e
      (subst (λ generations. agrees (life_at n row) (slice_index_or generations (row - 1) 0) (file_at v row) ≡ true) g (a.agree row));
  live = λ row volume cell h. a.live row volume cell (subst (λ live_files. backing_of (slice_index_or live_files (row - 1) None) ≡ backing.Cell volume cell) (sym e) h);
  home = a.home;
}

-- lives, generations, volumes and devices are the same
abbrev pub SameRows : Namespace → Namespace → Type 0
SameRows n m = (n.live_files ≡ m.live_files) × (n.generations ≡ m.generations) × (n.volumes ≡ m.volumes) × (n.devices ≡ m.devices)

-- they alone tell what agrees
pub agrees-beside : (v : WorldState) (n m : Namespace) → SameRows n m → Agrees v n → Agrees v m
agrees-beside v n m same a =
    record { files = files-beside v n m same.0 same.1 a.files; homes = home-beside v.homes n m same.0 same.2 same.3 a.homes }

-- and of a volume not the names that it keeps
pub agrees-named : (v : WorldState) (n : Namespace) (volume : ℕ) (names : List (Path × KeptNode)) → Agrees v n → Agrees v (with_kept n volume names)
agrees-named v n volume names a =
    record { files = files-beside v n (with_kept n volume names) refl refl a.files; homes = home-named v.homes n volume names a.homes }

-- what a file begins with is of its kind, and is what it lies on
abbrev pub Begins : LiveFile → Origin → Type 0
Begins life origin.Empty = (life.kind ≡ kind.Tmp) × (life.backing ≡ backing.Memory)
Begins life (origin.Rom place path) = (life.kind ≡ kind.Rom) × (life.backing ≡ backing.Memory)
Begins life (origin.Cell volume cell) = (life.kind ≡ kind.Cell) × (life.backing ≡ backing.Cell volume cell)
Begins life (origin.NewCell volume cell) = (life.kind ≡ kind.Cell) × (life.backing ≡ backing.Cell volume cell)
Begins life (origin.Device device) = (life.kind ≡ kind.Chr) × (life.backing ≡ backing.Device device)

bytes-agree : (life : LiveFile) (generation capacity : ℕ) (k : Kind) (bytes : List ℕ) → life.kind ≡ k → not (same_kind k kind.Chr) ≡ true → length bytes ≤ capacity →
    agrees (Some life) generation (file.Bytes generation k capacity bytes) ≡ true
bytes-agree life generation capacity k bytes e h l =
    and-both _ (nat_le (length bytes) capacity)
    (and-both _ (not (same_kind k kind.Chr)) (and-both (generation == generation) (same_kind life.kind k) (number-itself generation) (ap (λ x. same_kind x k) e ∙ itself k)) h)
    (le-leb (length bytes) capacity l)
  where
    itself : (k : Kind) → same_kind k k ≡ true
    itself kind.Tmp = refl
    itself kind.Rom = refl
    itself kind.Cell = refl
    itself kind.Chr = refl

bound-agrees : (v : WorldState) (generation : ℕ) (life : LiveFile) (begins : Origin) → Begins life begins → ((volume cell : ℕ) → length (cell_bytes v.homes volume cell) ≤ cell_capacity v.namespace volume cell) →
    agrees (Some life) generation (bound_file v generation begins) ≡ true
bound-agrees v generation life origin.Empty b home = bytes-agree life generation TMP_FILE_MAX kind.Tmp [] b.0 refl (omega arith)
bound-agrees v generation life (origin.Rom place path) b home =
    bytes-agree life generation (length (rom_bytes v.namespace place path)) kind.Rom (rom_bytes v.namespace place path) b.0 refl (omega arith)
bound-agrees v generation life (origin.Cell volume cell) b home =
    bytes-agree life generation (cell_capacity v.namespace volume cell) kind.Cell (cell_bytes v.homes volume cell) b.0 refl (home volume cell)
bound-agrees v generation life (origin.NewCell volume cell) b home =
    bytes-agree life generation (cell_capacity v.namespace volume cell) kind.Cell [] b.0 refl (omega arith)
bound-agrees v generation life (origin.Device device) b home =
    and-both (generation == generation) (same_kind life.kind kind.Chr) (number-itself generation) (ap (λ x. same_kind x kind.Chr) b.0)

bound-fits : (v : WorldState) (generation : ℕ) (life : LiveFile) (begins : Origin) (volume cell : ℕ) → Begins life begins → life.backing ≡ backing.Cell volume cell →
    file_capacity (bound_file v generation begins) ≤ cell_capacity v.namespace volume cell
bound-fits v generation life origin.Empty volume cell b e = absurd (no-cell volume cell (sym b.1 ∙ e))
bound-fits v generation life (origin.Rom place path) volume cell b e = absurd (no-cell volume cell (sym b.1 ∙ e))
bound-fits v generation life (origin.NewCell w d) volume cell b e =
    let same = cell-volume w d volume cell (sym b.1 ∙ e) in
    let equal : cell_capacity v.namespace w d ≡ cell_capacity v.namespace volume cell =
    ap (λ x. cell_capacity v.namespace x d) same.0 ∙ ap (λ x. cell_capacity v.namespace volume x) same.1 in
    omega (arith, equal)
bound-fits v generation life (origin.Device device) volume cell b e = absurd (no-device device volume cell (sym b.1 ∙ e))
bound-fits v generation life (origin.Cell w d) volume cell b e =
    let same = cell-volume w d volume cell (sym b.1 ∙ e) in
    let equal : cell_capacity v.namespace w d ≡ cell_capacity v.namespace volume cell =
    ap (λ x. cell_capacity v.namespace x d) same.0 ∙ ap (λ x. cell_capacity v.namespace volume x) same.1 in
    omega (arith, equal)

-- bytes put on a cell at home
home-set : (v : WorldState) (volume cell : ℕ) (bytes : List ℕ) → length bytes ≤ cell_capacity v.namespace volume cell →
    ((w d : ℕ) → length (cell_bytes v.homes w d) ≤ cell_capacity v.namespace w d) → (w d : ℕ) → length (cell_bytes (with_cell_bytes v.homes volume cell bytes) w d) ≤ cell_capacity v.namespace w d
home-set v volume cell bytes l home w d =
    set-at (λ cells. length (slice_index_or cells d []) ≤ cell_capacity v.namespace w d) v.homes.cells volume w (slice_set (slice_index_or v.homes.cells volume []) cell bytes) []
    (λ e. set-at (λ x. length x ≤ cell_capacity v.namespace w d) (slice_index_or v.homes.cells volume []) cell d bytes []
    (λ f. subst (λ x. length bytes ≤ cell_capacity v.namespace x d) (sym e) (subst (λ x. length bytes ≤ cell_capacity v.namespace volume x) (sym f) l))
    (subst (λ x. length (slice_index_or (slice_index_or v.homes.cells x []) d []) ≤ cell_capacity v.namespace w d) e (home w d)))
    (home w d)

bound-home : (v : WorldState) (begins : Origin) → ((w d : ℕ) → length (cell_bytes v.homes w d) ≤ cell_capacity v.namespace w d) →
    (w d : ℕ) → length (cell_bytes (homes_after_bind v.homes begins) w d) ≤ cell_capacity v.namespace w d
bound-home v origin.Empty home = home
bound-home v (origin.Rom place path) home = home
bound-home v (origin.Cell volume cell) home = home-set v volume cell [] (omega arith) home
bound-home v (origin.NewCell volume cell) home = home
bound-home v (origin.Device device) home = home

-- what agrees hangs on lives and generations, which taking and giving back cells and devices leaves
files-taken : (v : WorldState) (m : Namespace) (b : Backing) → FilesAgree v m → FilesAgree v (after_taking m b)
files-taken v m backing.Memory a = a
files-taken v m (backing.Cell volume cell) a = files-beside v m (with_cell false m volume cell) refl refl a
files-taken v m (backing.Device device) a = files-beside v m (with_device true m device) refl refl a

files-ended : (v : WorldState) (m : Namespace) (e : End) → FilesAgree v m → FilesAgree v (after_end m e)
files-ended v m end.Nothing a = a
files-ended v m (end.Spare volume cell) a = files-beside v m (with_cell true m volume cell) refl refl a
files-ended v m (end.Kept volume cell) a = a
files-ended v m (end.Device device) a = files-beside v m (with_device false m device) refl refl a

-- one row of both changes
row-agrees : (v : WorldState) (n : Namespace) (row other : ℕ) (found : Option LiveFile) (generation : ℕ) (f : FileState) → row - 1 < length v.files → row - 1 < length n.live_files → row - 1 < length n.generations →
    agrees found generation f ≡ true → agrees (life_at n other) (generation_at n other) (file_at v other) ≡ true →
    (other - 1 ≡ row - 1) ⊎ (other - 1 ≢ row - 1) →
    agrees (slice_index_or (slice_set n.live_files (row - 1) found) (other - 1) None) (slice_index_or (slice_set n.generations (row - 1) generation) (other - 1) 0)
    (slice_index_or (slice_set v.files (row - 1) f) (other - 1) (file.Unbound 0)) ≡ true
row-agrees v n row other found generation f l m g new old (inl e) =
    ap (λ x. agrees (slice_index_or (slice_set n.live_files (row - 1) found) x None) (slice_index_or (slice_set n.generations (row - 1) generation) x 0)
    (slice_index_or (slice_set v.files (row - 1) f) x (file.Unbound 0))) e
    ∙ ap (λ x. agrees x (slice_index_or (slice_set n.generations (row - 1) generation) (row - 1) 0) (slice_index_or (slice_set v.files (row - 1) f) (row - 1) (file.Unbound 0)))
    (set-here n.live_files (row - 1) found None m)
    ∙ ap (λ x. agrees found x (slice_index_or (slice_set v.files (row - 1) f) (row - 1) (file.Unbound 0))) (set-here n.generations (row - 1) generation 0 g)
    ∙ ap (agrees found generation) (set-here v.files (row - 1) f (file.Unbound 0) l) ∙ new
row-agrees v n row other found generation f l m g new old (inr e) =
    ap (λ x. agrees x (slice_index_or (slice_set n.generations (row - 1) generation) (other - 1) 0) (slice_index_or (slice_set v.files (row - 1) f) (other - 1) (file.Unbound 0)))
    (set-there n.live_files (row - 1) (other - 1) found None e)
    ∙ ap (λ x. agrees (life_at n other) x (slice_index_or (slice_set v.files (row - 1) f) (other - 1) (file.Unbound 0))) (set-there n.generations (row - 1) (other - 1) generation 0 e)
    ∙ ap (agrees (life_at n other) (generation_at n other)) (set-there v.files (row - 1) (other - 1) f (file.Unbound 0) e) ∙ old

row-fits : (v : WorldState) (n : Namespace) (row other volume cell : ℕ) (found : Option LiveFile) (f : FileState) → row - 1 < length v.files → row - 1 < length n.live_files →
    (backing_of found ≡ backing.Cell volume cell → file_capacity f ≤ cell_capacity v.namespace volume cell) →
    (backing_of (life_at n other) ≡ backing.Cell volume cell → file_capacity (file_at v other) ≤ cell_capacity v.namespace volume cell) →
    (other - 1 ≡ row - 1) ⊎ (other - 1 ≢ row - 1) →
    backing_of (slice_index_or (slice_set n.live_files (row - 1) found) (other - 1) None) ≡ backing.Cell volume cell →
    file_capacity (slice_index_or (slice_set v.files (row - 1) f) (other - 1) (file.Unbound 0)) ≤ cell_capacity v.namespace volume cell
row-fits v n row other volume cell found f l m new old (inl e) h =
    let here : slice_index_or (slice_set n.live_files (row - 1) found) (other - 1) None ≡ found =
    ap (λ x. slice_index_or (slice_set n.live_files (row - 1) found) x None) e ∙ set-here n.live_files (row - 1) found None m in
    subst (λ x. file_capacity x ≤ cell_capacity v.namespace volume cell)
    (sym (ap (λ x. slice_index_or (slice_set v.files (row - 1) f) x (file.Unbound 0)) e ∙ set-here v.files (row - 1) f (file.Unbound 0) l))
    (new (sym (ap backing_of here) ∙ h))
row-fits v n row other volume cell found f l m new old (inr e) h =
    subst (λ x. file_capacity x ≤ cell_capacity v.namespace volume cell) (sym (set-there v.files (row - 1) (other - 1) f (file.Unbound 0) e))
    (old (sym (ap backing_of (set-there n.live_files (row - 1) (other - 1) found None e)) ∙ h))

-- a row is bound in both
bind-files : (v : WorldState) (n : Namespace) (row : ℕ) (life : LiveFile) (begins : Origin) → row - 1 < 1024 → length n.live_files ≡ 1024 → length n.generations ≡ 1024 → Begins life begins →
    FilesAgree v n → FilesAgree (change_row v (change.Bind (next_file n row) begins)) (bind_row n row life)
unfolding bind_row
bind-files v n row life begins l live_files generations b = λ a.
    let f = bound_file v (generation_at n row + 1) begins in
    let in_files : row - 1 < length v.files = subst (λ x. row - 1 < x) (sym a.files) l in
    let in_live_files : row - 1 < length n.live_files = subst (λ x. row - 1 < x) (sym live_files) l in
    let in_generations : row - 1 < length n.generations = subst (λ x. row - 1 < x) (sym generations) l in
    files-taken (change_row v (change.Bind (next_file n row) begins)) (with_life n row (Some life) (slice_set n.generations (row - 1) (generation_at n row + 1))) life.backing (record {
      files = length-set v.files (row - 1) f ∙ a.files;
      agree = λ other. row-agrees v n row other (Some life) (generation_at n row + 1) f in_files in_live_files in_generations (bound-agrees v (generation_at n row + 1) life begins b a.home) (a.agree other)
          (same-or-other (other - 1) (row - 1));
      live = λ other volume cell h. row-fits v n row other volume cell (Some life) f in_files in_live_files (bound-fits v (generation_at n row + 1) life begins volume cell b) (a.live other volume cell)
          (same-or-other (other - 1) (row - 1)) h;
      home = bound-home v begins a.home;
    })

-- a cell on which a file is made is spare
abbrev pub IsNewSpare : Namespace → Origin → Type 0
IsNewSpare n (origin.NewCell volume cell) = slice_index_or (volume_at n volume).spare cell false ≡ true
IsNewSpare n _ = Unit {0}

no-cell-device : (volume cell device : ℕ) → backing.Cell volume cell ≢ backing.Device device
no-cell-device volume cell device e = absurd (cc)

no-memory-device : (device : ℕ) → backing.Memory ≢ backing.Device device
no-memory-device device e = absurd (cc)

device-is : (d e : ℕ) → backing.Device d ≡ backing.Device e → d ≡ e
device-is d e h = ap of h
  where
    of : Backing → ℕ
    of backing.Memory = d
    of (backing.Cell volume cell) = d
    of (backing.Device device) = device

bind-homes : (homes : Homes) (n : Namespace) (row : ℕ) (life : LiveFile) (generations : List ℕ) (begins : Origin) → Begins life begins → IsNewSpare n begins →
    AtHome homes n → AtHome (homes_after_bind homes begins) (after_taking (with_life n row (Some life) generations) life.backing)
bind-homes homes n row life generations origin.Empty b new a =
    home-taken homes (with_life n row (Some life) generations) life.backing (λ d e. absurd (no-memory-device d (sym b.1 ∙ e)))
    (home-life homes n row (Some life) generations (λ v c e. absurd (no-cell v c (sym b.1 ∙ e))) a)
bind-homes homes n row life generations (origin.Rom place path) b new a =
    home-taken homes (with_life n row (Some life) generations) life.backing (λ d e. absurd (no-memory-device d (sym b.1 ∙ e)))
    (home-life homes n row (Some life) generations (λ v c e. absurd (no-cell v c (sym b.1 ∙ e))) a)
bind-homes homes n row life generations (origin.Cell v c) b new a =
    let emptied = with_cell_bytes homes v c [] in
    home-taken emptied (with_life n row (Some life) generations) life.backing (λ d e. absurd (no-cell-device v c d (sym b.1 ∙ e)))
    (home-life emptied n row (Some life) generations (λ w d e.
    let same = cell-volume v c w d (sym b.1 ∙ e) in
    ap (λ x. cell_bytes emptied x d) (sym same.0) ∙ ap (λ x. cell_bytes emptied v x) (sym same.1) ∙ empty-in homes.cells v c)
    (home-emptied homes n v c a))
bind-homes homes n row life generations (origin.NewCell v c) b new a =
    home-taken homes (with_life n row (Some life) generations) life.backing (λ d e. absurd (no-cell-device v c d (sym b.1 ∙ e)))
    (home-life homes n row (Some life) generations (λ w d e.
    let same = cell-volume v c w d (sym b.1 ∙ e) in
    ap (λ x. cell_bytes homes x d) (sym same.0) ∙ ap (λ x. cell_bytes homes v x) (sym same.1) ∙ a.spare v c new) a)
bind-homes homes n row life generations (origin.Device d) b new a =
    let away = with_device_home homes d no_home in
    home-taken away (with_life n row (Some life) generations) life.backing (λ e h. ap (device_home away) (sym (device-is d e (sym b.1 ∙ h))) ∙ no-home-set homes.devices d)
    (home-life away n row (Some life) generations (λ v c e. absurd (no-device d v c (sym b.1 ∙ e))) (home-out homes n d a))

pub bind-agrees : (v : WorldState) (n : Namespace) (row : ℕ) (life : LiveFile) (begins : Origin) → row - 1 < 1024 → length n.live_files ≡ 1024 → length n.generations ≡ 1024 → Begins life begins →
    IsNewSpare n begins → Agrees v n → Agrees (change_row v (change.Bind (next_file n row) begins)) (bind_row n row life)
unfolding bind_row
bind-agrees v n row life begins l live_files generations b = λ new a. record {
  files = bind-files v n row life begins l live_files generations b a.files;
  homes = bind-homes v.homes n row life (slice_set n.generations (row - 1) (generation_at n row + 1)) begins b new a.homes;
}

-- the bytes of a live file are within its capacity
pub agreed-length : (found : Option LiveFile) (generation : ℕ) (f : FileState) → agrees found generation f ≡ true → length (bytes_of f) ≤ file_capacity f
agreed-length found generation (file.Unbound g) h = omega arith
agreed-length found generation (file.Device g input output) h = omega arith
agreed-length None generation (file.Bytes g k capacity bytes) h = absurd (cc)
agreed-length (Some life) generation (file.Bytes g k capacity bytes) h = leb-true (length bytes) capacity (and-second _ (nat_le (length bytes) capacity) h)

ended-home : (v : WorldState) (n : Namespace) (row : ℕ) (ending : End) → MayEnd n row ending → FilesAgree v n →
    (w d : ℕ) → length (cell_bytes (homes_after_end v.homes (file_at v row) ending) w d) ≤ cell_capacity v.namespace w d
ended-home v n row end.Nothing e a = a.home
ended-home v n row (end.Spare volume cell) e a = a.home
ended-home v n row (end.Device device) e a = a.home
ended-home v n row (end.Kept volume cell) e a =
    let fits = a.live row volume cell e.0 in
    let within = agreed-length (life_at n row) (generation_at n row) (file_at v row) (a.agree row) in
    home-set v volume cell (bytes_of (file_at v row)) (omega (arith, fits, within)) a.home

-- a row is freed in both
free-files : (v : WorldState) (n : Namespace) (row : ℕ) (ending : End) → row - 1 < 1024 → length n.live_files ≡ 1024 → MayEnd n row ending →
    FilesAgree v n → FilesAgree (change_row v (change.Free (file_of n row) ending)) (with_life n row None n.generations)
free-files v n row ending l live_files e a =
    let f = file.Unbound (generation_at n row) in
    let in_files : row - 1 < length v.files = subst (λ x. row - 1 < x) (sym a.files) l in
    let in_live_files : row - 1 < length n.live_files = subst (λ x. row - 1 < x) (sym live_files) l in
    record {
      files = length-set v.files (row - 1) f ∙ a.files;
      agree = λ other. freed-agrees other (same-or-other (other - 1) (row - 1));
      live = λ other volume cell h. row-fits v n row other volume cell None f in_files in_live_files (λ x. absurd (no-cell volume cell x)) (a.live other volume cell) (same-or-other (other - 1) (row - 1)) h;
      home = ended-home v n row ending e a;
    }
  where
    freed-agrees : (other : ℕ) → (other - 1 ≡ row - 1) ⊎ (other - 1 ≢ row - 1) →
        agrees (slice_index_or (slice_set n.live_files (row - 1) None) (other - 1) None) (generation_at n other) (slice_index_or (slice_set v.files (row - 1) (file.Unbound (generation_at n row))) (other - 1) (file.Unbound 0)) ≡ true
    freed-agrees other (inl x) =
        ap (λ y. agrees (slice_index_or (slice_set n.live_files (row - 1) None) y None) (slice_index_or n.generations y 0) (slice_index_or (slice_set v.files (row - 1) (file.Unbound (generation_at n row))) y (file.Unbound 0))) x
        ∙ ap (λ y. agrees y (generation_at n row) (slice_index_or (slice_set v.files (row - 1) (file.Unbound (generation_at n row))) (row - 1) (file.Unbound 0)))
        (set-here n.live_files (row - 1) None None (subst (λ y. row - 1 < y) (sym live_files) l))
        ∙ ap (agrees None (generation_at n row)) (set-here v.files (row - 1) (file.Unbound (generation_at n row)) (file.Unbound 0) (subst (λ y. row - 1 < y) (sym a.files) l))
        ∙ number-itself (generation_at n row)
    freed-agrees other (inr x) =
        ap (λ y. agrees y (generation_at n other) (slice_index_or (slice_set v.files (row - 1) (file.Unbound (generation_at n row))) (other - 1) (file.Unbound 0))) (set-there n.live_files (row - 1) (other - 1) None None x)
        ∙ ap (agrees (life_at n other) (generation_at n other)) (set-there v.files (row - 1) (other - 1) (file.Unbound (generation_at n row)) (file.Unbound 0) x) ∙ a.agree other

pub free-agrees : (v : WorldState) (n : Namespace) (row : ℕ) (ending : End) → row - 1 < 1024 → length n.live_files ≡ 1024 → MayEnd n row ending →
    Agrees v n → Agrees (change_row v (change.Free (file_of n row) ending)) (after_end (with_life n row None n.generations) ending)
free-agrees v n row ending l live_files e a = record {
  files = files-ended (change_row v (change.Free (file_of n row) ending)) (with_life n row None n.generations) ending (free-files v n row ending l live_files e a.files);
  homes = home-ended v.homes n row (file_at v row) ending (subst (λ x. row - 1 < x) (sym live_files) l) e a.homes;
}
