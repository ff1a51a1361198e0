-- A session's working directory changes.
use Rattle.std.proofs.Common.{◌≡◌, ◌≢◌, ℕ, ◌+◌, ◌-◌, ◌<◌, ◌≤◌, ◌==◌, Option, Some, None, List, [], length, ap, subst, ◌∙◌, arith, slice_set, slice_index_or}
use Rattle.std.proofs.lemmas.List.{length-set}
use Rattle.std.proofs.lemmas.List.Sums.{sum_by-cons, sum_by-set}
use Rattle.std.specs.List.{sum_by}
use Rattle.vfs_base.specs.Path.{Path}
use Rattle.vfs_model.proofs.CoveringMounts.{nearest-among}
use Rattle.vfs_model.proofs.Trees.{same_path-itself}
use Rattle.vfs_model.specs.Namespace.{same_path}
use Rattle.vfs_model.specs.FileLife.{refers_to}
use Rattle.vfs_model.specs.UmountSteps.{refers_to_mount}
use Rattle.node_maps.specs.NodeMap.{NodeMap}
use Rattle.dentry_table.specs.DentryTable.{Lowers, Raises, count_at, one_at}
use Rattle.mount_tree.specs.MountList.{AreMounts, MountList, covering, mounts_of}
use Rattle.session_holds.specs.SessionTable.{folder_of, with_folder_of}
use Rattle.vnode_table.specs.Layout.{one_if}
use Rattle.vnode_table.specs.SlotTable.{slot_at}
use Rattle.holders.proofs.Numbers.{lowered, lowered-at, one-most, raised, raised-at, same-number, sum-most, sum-one}
use Rattle.holders.specs.Counted.{IsCounted}
use Rattle.holders.specs.Holding.{Holding, holders_at, one_covered, one_referred, one_where, path_at, references_to, uses_of}

pub one-at-most : (q p : Path) → one_at q p ≤ 1
one-at-most q p = one-most (same_path q p)

pub one-at-itself : (p : Path) → one_at p p ≡ 1
one-at-itself p = ap one_if (same_path-itself p)

one-where-most : (q : Path) (p : Option Path) → one_where q p ≤ 1
one-where-most q None = omega arith
one-where-most q (Some p) = one-at-most q p

module _ {h : Holding} {counts : NodeMap ℕ} {used : List ℕ} (k : IsCounted h counts used) where
  -- no path has many holders
  pub few-holders : (q : Path) → count_at counts q ≤ 280
  unfolding holders_at
  few-holders q =
      let references : sum_by (one_referred h.paths q) h.sessions.references ≤ length h.sessions.references = sum-most (one_referred h.paths q) most h.sessions.references in
      let folders : sum_by (one_at q) h.sessions.folders ≤ length h.sessions.folders = sum-most (one_at q) (one-at-most q) h.sessions.folders in
      let points : sum_by (λ mount. one_at q mount.point) (mounts_of h.mounts) ≤ length (mounts_of h.mounts) = sum-most (λ mount. one_at q mount.point) (λ mount. one-at-most q mount.point) (mounts_of h.mounts) in
      let told = k.dentries q in
      let a = k.places.references in
      let b = k.places.folders in
      let c = k.places.mounts in
      omega (arith, references, folders, points, told, a, b, c)
    where
      most : (r : Option _) → one_referred h.paths q r ≤ 1
      most None = omega arith
      most (Some r) = one-where-most q (path_at h.paths r.file.row)

  -- nor has a mount many users
  pub few-uses : (number : ℕ) → number < 16 → slice_index_or used number 0 ≤ 264
  unfolding uses_of
  few-uses number l =
      let references : sum_by (λ r. one_if (refers_to_mount number r)) h.sessions.references ≤ length h.sessions.references = sum-most (λ r. one_if (refers_to_mount number r)) (λ r. one-most (refers_to_mount number r)) h.sessions.references in
      let folders : sum_by (one_covered h.mounts number) h.sessions.folders ≤ length h.sessions.folders = sum-most (one_covered h.mounts number) (λ f. one-most ((covering h.mounts f).number == number)) h.sessions.folders in
      let told = k.uses number l in
      let a = k.places.references in
      let b = k.places.folders in
      omega (arith, references, folders, told, a, b)

  -- nor has a file many references
  pub few-references : (row : ℕ) → 0 < row → (slot_at h.rows row).references ≤ 256
  few-references row some =
      let most : references_to h row ≤ length h.sessions.references = sum-most (λ r. one_if (refers_to row r)) (λ r. one-most (refers_to row r)) h.sessions.references in
      let told = k.references row some in
      let size = k.places.references in
      omega (arith, most, told, size)

  -- the mount of `/` holds `/`
  pub root-held : holders_at h [] ≡ 0 → ⊥
  unfolding holders_at
  root-held none =
      let first : sum_by (λ mount. one_at [] mount.point) (mounts_of h.mounts) ≡ one_at [] h.mounts.root.point + sum_by (λ mount. one_at [] mount.point) h.mounts.others = sum_by-cons (λ mount. one_at [] mount.point) h.mounts.root h.mounts.others in
      let one : one_at [] h.mounts.root.point ≡ 1 = ap (one_at []) k.places.root in
      absurd (omega (arith, none, first, one))

-- the number of a mount that covers a path
pub covering-number : {m : MountList} → AreMounts m → (path : Path) → (covering m path).number < 16
covering-number {m} are path =
    let among = nearest-among path m.root m.others in
    subst (λ mount. mount.number < 16) among.2 (are.numbers among.0 (covering m path) among.1)

module _ {h : Holding} {counts : NodeMap ℕ} {used : List ℕ} (k : IsCounted h counts used) (session : ℕ) (within : session - 1 < 8) where
  abbrev pub old : Path
  old = folder_of h.sessions session

  abbrev pub from : ℕ
  from = (covering h.mounts old).number

  inside : session - 1 < length h.sessions.folders
  inside = let size = k.places.folders in omega (arith, size, within)

  -- a working directory has a holder
  pub folder-held : {c1 : NodeMap ℕ} {folder : Path} → Raises counts c1 folder → count_at c1 old ≢ 0
  unfolding holders_at
  folder-held {c1} {folder} r e =
      let one : one_at old old ≤ sum_by (one_at old) h.sessions.folders = sum-one (one_at old) h.sessions.folders (session - 1) [] inside in
      let itself = one-at-itself old in
      let told = k.dentries old in
      let more = r.counts old in
      absurd (omega (arith, one, itself, told, more, e))

  -- and its mount a user
  pub mount-used : from < 16 → 0 < slice_index_or used from 0
  unfolding uses_of
  mount-used l =
      let one : one_covered h.mounts from old ≤ sum_by (one_covered h.mounts from) h.sessions.folders = sum-one (one_covered h.mounts from) h.sessions.folders (session - 1) [] inside in
      let itself : one_covered h.mounts from old ≡ 1 = ap one_if (same-number from) in
      let told = k.uses from l in
      omega (arith, one, itself, told)

  pub used-room : (to : ℕ) → from < 16 → to < 16 → slice_index_or (lowered used from) to 0 < 4294967295
  used-room to l m =
      let size = k.numbers in
      let low = lowered-at used from to (omega (arith, size, l)) (mount-used l) in
      let few = few-uses k to m in
      omega (arith, low, few)

  -- the counts when the session has gone to another folder
  pub counted-folder : (folder : Path) {c1 c2 : NodeMap ℕ} → from < 16 → (covering h.mounts folder).number < 16 → Raises counts c1 folder → Lowers c1 c2 old →
      IsCounted (record h { sessions = with_folder_of h.sessions session folder }) c2 (raised (lowered used from) (covering h.mounts folder).number)
  unfolding holders_at uses_of
  counted-folder folder {c1} {c2} l m r o =
      let to = (covering h.mounts folder).number in
      let size = k.numbers in
      let low : from < length used = omega (arith, size, l) in
      let high : to < length (lowered used from) = let same = length-set used from (slice_index_or used from 0 - 1) in omega (arith, same, size, m) in
      record {
        places = record { rows = k.places.rows; paths = k.places.paths; references = k.places.references; folders = length-set h.sessions.folders (session - 1) folder ∙ k.places.folders; mounts = k.places.mounts; root = k.places.root };
        numbers = length-set (lowered used from) to (slice_index_or (lowered used from) to 0 + 1) ∙ length-set used from (slice_index_or used from 0 - 1) ∙ k.numbers;
        numbered = k.numbered;
        live = k.live;
        references = k.references;
        told = k.told;
        differ = k.differ;
        dentries = λ q.
            let raises = r.counts q in
            let lowers = o.counts q in
            let told = k.dentries q in
            let moved : sum_by (one_at q) (slice_set h.sessions.folders (session - 1) folder) + one_at q old ≡ sum_by (one_at q) h.sessions.folders + one_at q folder =
            sum_by-set (one_at q) h.sessions.folders (session - 1) folder [] inside in
            omega (arith, raises, lowers, told, moved);
        uses = λ number w.
            let raises = raised-at (lowered used from) to number high in
            let lowers = lowered-at used from number low (mount-used l) in
            let told = k.uses number w in
            let moved : sum_by (one_covered h.mounts number) (slice_set h.sessions.folders (session - 1) folder) + one_covered h.mounts number old ≡ sum_by (one_covered h.mounts number) h.sessions.folders + one_covered h.mounts number folder =
            sum_by-set (one_covered h.mounts number) h.sessions.folders (session - 1) folder [] inside in
            omega (arith, raises, lowers, told, moved);
      }
