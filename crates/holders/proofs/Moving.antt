-- Files move with a folder, or with their own name.
use Rattle.std.proofs.Common.{◌≡◌, ◌≢◌, ℕ, suc, ◌+◌, ◌-◌, ◌&&◌, Bool, true, false, Option, Some, None, is_some, option_map, List, [], ◌∷◌, ◌++◌, length, drop, map, ◌⊎◌, inl, inr, refl, sym, ap, subst, ◌∙◌, arith, get_or, slice_index_or, if◌then◌else◌, length-append}
use Rattle.std.specs.Option.{option_or}
use Rattle.std.specs.Prelude.{nat_lt}
use Rattle.std.proofs.Math.ListN.{get_or-map}
use Rattle.std.proofs.lemmas.Bool.Decides.{nat_tests}
use Rattle.std.proofs.lemmas.List.{append-nil, ext_get_or, length-map}
use Rattle.std.specs.List.{list_any, sum_by}
use Rattle.vfs_base.specs.Path.{Path}
use Rattle.vfs_model.proofs.MovedLaws.{prefix-append}
use Rattle.vfs_model.proofs.Trees.{prefix-splits, same_path-itself, same_path-other}
use Rattle.vfs_model.specs.Lookup.{is_prefix}
use Rattle.vfs_model.specs.Namespace.{same_path}
use Rattle.vfs_model.specs.declared.namespace.Reference.{Reference}
use Rattle.node_maps.specs.NodeMap.{NodeMap}
use Rattle.mount_tree.specs.MountList.{mounts_of}
use Rattle.dentry_table.specs.DentryTable.{HoldsBelow, HoldsNothingBelow, Moves, SameCounts, count_at, one_at}
use Rattle.vnode_table.specs.Layout.{one_if}
use Rattle.holders.proofs.Mappings.{path-held}
use Rattle.holders.proofs.Mounting.{none-at}
use Rattle.holders.proofs.Numbers.{sum-same}
use Rattle.holders.proofs.Referring.{same-some}
use Rattle.holders.proofs.Unlinking.{same-or-other-path, zeros}
use Rattle.holders.specs.Counted.{IsCounted}
use Rattle.holders.specs.Holding.{Holding, HoldsFilesWithin, MayMove, Renames, Renaming, holders_at, moved_path, new_path, one_referred, one_where, path_at, uses_of, with_moved}

-- what comes behind a front
drop-front : (front rest : Path) → drop (length front) (front ++ rest) ≡ rest
drop-front [] rest = refl
drop-front (name ∷ front) rest = drop-front front rest

true-or-false : (b : Bool) → (b ≡ true) ⊎ (b ≡ false)
true-or-false true = inl refl
true-or-false false = inr refl

-- the paths after the move, place by place
moved-or : (from to : Path) (old : Option Path) → option_or (new_path from to old) old ≡ option_map (moved_path from to) old
moved-or from to None = refl
moved-or from to (Some path) = go (is_prefix from path)
  where
    go : (b : Bool) → option_or (if b then Some (to ++ drop (length from) path) else None) (Some path) ≡ Some (if b then to ++ drop (length from) path else path)
    go true = refl
    go false = refl

-- the paths that were taken over from a plan are those after the move
pub paths-moved : (plan : Renaming) (old new : List (Option Path)) → Renames plan old → length new ≡ length old →
    ((place : ℕ) → slice_index_or new place None ≡ option_or (slice_index_or plan.paths place None) (slice_index_or old place None)) → new ≡ map (option_map (moved_path plan.from plan.to)) old
paths-moved plan old new r size taken =
    ext_get_or None new (map (option_map (moved_path plan.from plan.to)) old) (size ∙ sym (length-map old (option_map (moved_path plan.from plan.to))))
    (λ place l.
    taken place ∙ ap (λ o. option_or o (slice_index_or old place None)) (r.places place) ∙ moved-or plan.from plan.to (slice_index_or old place None)
    ∙ sym (get_or-map (option_map (moved_path plan.from plan.to)) old place None))

longer-by : (from path rest : Path) → from ≢ path → path ≡ from ++ rest → nat_lt (length from) (length path) ≡ true
longer-by from path [] apart f = absurd (apart (sym (f ∙ append-nil from)))
longer-by from path (name ∷ rest) apart f = let size : length path ≡ length from + suc (length rest) = ap (λ p. length p) f ∙ length-append from (name ∷ rest) in grind (arith, nat_tests)

-- the plan has no path where nothing is held at and below the old one
pub none-moves : (from to : Path) (counts : NodeMap ℕ) (paths : List (Option Path)) → ((place : ℕ) (path : Path) → slice_index_or paths place None ≡ Some path → count_at counts path ≢ 0) →
    count_at counts from ≡ 0 → (HoldsBelow counts from → ⊥) → (place : ℕ) → None ≡ new_path from to (slice_index_or paths place None)
none-moves from to counts paths held none empty place = go (slice_index_or paths place None) refl
  where
    within : (path : Path) → slice_index_or paths place None ≡ Some path → is_prefix from path ≡ true → ⊥
    within path e inside = elim (same-or-other-path from path) [
      | inl same ↦ held place path e (ap (count_at counts) (sym same) ∙ none)
      | inr apart ↦
          let split : path ≡ from ++ drop (length from) path = prefix-splits from path inside in
          let longer : nat_lt (length from) (length path) ≡ true = longer-by from path (drop (length from) path) apart split in
          empty (record { place = path; below = ap (λ b. b && nat_lt (length from) (length path)) inside ∙ longer; held = held place path e })
    ]

    go : (o : Option Path) → slice_index_or paths place None ≡ o → None ≡ new_path from to o
    go None e = refl
    go (Some path) e = elim (true-or-false (is_prefix from path)) [
      | inl inside ↦ absurd (within path e inside)
      | inr outside ↦ sym (ap (λ b. if b then Some (to ++ drop (length from) path) else None) outside)
    ]

-- a plan of the new path of each
pub all-moves : (from to : Path) (paths : List (Option Path)) (place : ℕ) → slice_index_or (map (new_path from to) paths) place None ≡ new_path from to (slice_index_or paths place None)
all-moves from to paths place = get_or-map (new_path from to) paths place None

-- each path that a file has is held
pub held-place : {h : Holding} {counts : NodeMap ℕ} {used : List ℕ} → IsCounted h counts used → (place : ℕ) (path : Path) → slice_index_or h.paths place None ≡ Some path → count_at counts path ≢ 0
held-place {h} k place path e none =
    let back : (place + 1) - 1 ≡ place = omega arith in
    let held = path-held k {row = place + 1} (omega arith) path (ap (λ p. slice_index_or h.paths p None) back ∙ e) in
    absurd (omega (arith, held, none))

-- the room of a move changes no count
pub counted-room : {h : Holding} {counts c1 : NodeMap ℕ} {used : List ℕ} → IsCounted h counts used → SameCounts counts c1 → (room : Path) → IsCounted (record h { room = room }) c1 used
unfolding holders_at uses_of
counted-room k s room = record {
  places = record { rows = k.places.rows; paths = k.places.paths; references = k.places.references; folders = k.places.folders; mounts = k.places.mounts; root = k.places.root };
  numbers = k.numbers;
  numbered = k.numbered;
  live = k.live;
  references = k.references;
  told = k.told;
  differ = k.differ;
  dentries = λ q. s.counts q ∙ k.dentries q;
  uses = k.uses;
}

-- nothing of a list is at a path that is not within what none is within
none-at-path : {X : Type 0} (at : X → Path) (front q : Path) (xs : List X) → list_any (λ x. is_prefix front (at x)) xs ≡ false → is_prefix front q ≡ true → sum_by (λ x. one_at q (at x)) xs ≡ 0
none-at-path at front q xs none within = zeros (λ x. one_at q (at x)) xs (λ place d l. apart (at (get_or xs place d)) (none-at (λ x. is_prefix front (at x)) xs place d none l))
  where
    apart : (p : Path) → is_prefix front p ≡ false → one_at q p ≡ 0
    apart p outside = ap one_if (same_path-other q p (λ e. absurd (let yes : is_prefix front p ≡ true = ap (is_prefix front) (sym e) ∙ within in cc)))

-- how a path within the old one is within the new one
same-rests : (a b rest other : Path) → same_path (b ++ rest) (b ++ other) ≡ same_path (a ++ rest) (a ++ other)
same-rests a b rest other = elim (same-or-other-path rest other) [
  | inl same ↦
      ap (λ r. same_path (b ++ rest) (b ++ r)) (sym same) ∙ same_path-itself (b ++ rest)
      ∙ sym (ap (λ r. same_path (a ++ rest) (a ++ r)) (sym same) ∙ same_path-itself (a ++ rest))
  | inr apart ↦
      same_path-other (b ++ rest) (b ++ other) (λ e. apart (same-rest b rest other e))
      ∙ sym (same_path-other (a ++ rest) (a ++ other) (λ e. apart (same-rest a rest other e)))
]
  where
    same-rest : (front p q : Path) → front ++ p ≡ front ++ q → p ≡ q
    same-rest front p q e = sym (drop-front front p) ∙ ap (drop (length front)) e ∙ drop-front front q

module _ {h : Holding} {plan : Renaming} (m : MayMove h plan) where
  -- a file that moves stands at the rest of its path behind the new one
  moves : (path : Path) → is_prefix plan.from path ≡ true → moved_path plan.from plan.to path ≡ plan.to ++ drop (length plan.from) path
  moves path within = ap (λ b. if b then plan.to ++ drop (length plan.from) path else path) within

  stays : (path : Path) → is_prefix plan.from path ≡ false → moved_path plan.from plan.to path ≡ path
  stays path outside = ap (λ b. if b then plan.to ++ drop (length plan.from) path else path) outside

  -- what is held at a path behind the new one was held behind the old one
  one-moved : (rest : Path) (o : Option Path) → ((path : Path) → o ≡ Some path → is_prefix plan.to path ≡ false) → one_where (plan.to ++ rest) (option_map (moved_path plan.from plan.to) o) ≡ one_where (plan.from ++ rest) o
  one-moved rest None empty = refl
  one-moved rest (Some path) empty = elim (true-or-false (is_prefix plan.from path)) [
    | inl within ↦
        ap (one_at (plan.to ++ rest)) (moves path within) ∙ ap one_if (same-rests plan.from plan.to rest (drop (length plan.from) path))
        ∙ ap (one_at (plan.from ++ rest)) (sym (prefix-splits plan.from path within))
    | inr outside ↦
        ap (one_at (plan.to ++ rest)) (stays path outside)
        ∙ ap one_if (same_path-other (plan.to ++ rest) path (λ e. absurd (let yes : is_prefix plan.to path ≡ true = ap (is_prefix plan.to) (sym e) ∙ prefix-append plan.to rest in let no = empty path refl in cc)))
        ∙ sym (ap one_if (same_path-other (plan.from ++ rest) path (λ e. absurd (let yes : is_prefix plan.from path ≡ true = ap (is_prefix plan.from) (sym e) ∙ prefix-append plan.from rest in cc))))
  ]

  -- behind the old path nothing is held any more
  one-gone : (q : Path) (o : Option Path) → is_prefix plan.from q ≡ true → is_prefix plan.to q ≡ false → one_where q (option_map (moved_path plan.from plan.to) o) ≡ 0
  one-gone q None inside outside = refl
  one-gone q (Some path) inside outside = elim (true-or-false (is_prefix plan.from path)) [
    | inl within ↦
        ap (one_at q) (moves path within)
        ∙ ap one_if (same_path-other q (plan.to ++ drop (length plan.from) path) (λ e. absurd (let yes : is_prefix plan.to q ≡ true = ap (is_prefix plan.to) e ∙ prefix-append plan.to (drop (length plan.from) path) in cc)))
    | inr apart ↦
        ap (one_at q) (stays path apart)
        ∙ ap one_if (same_path-other q path (λ e. absurd (let yes : is_prefix plan.from path ≡ true = ap (is_prefix plan.from) (sym e) ∙ inside in cc)))
  ]

  -- elsewhere it stays
  one-stays : (q : Path) (o : Option Path) → is_prefix plan.from q ≡ false → is_prefix plan.to q ≡ false → one_where q (option_map (moved_path plan.from plan.to) o) ≡ one_where q o
  one-stays q None outside apart = refl
  one-stays q (Some path) outside apart = elim (true-or-false (is_prefix plan.from path)) [
    | inl within ↦
        ap (one_at q) (moves path within)
        ∙ ap one_if (same_path-other q (plan.to ++ drop (length plan.from) path) (λ e. absurd (let yes : is_prefix plan.to q ≡ true = ap (is_prefix plan.to) e ∙ prefix-append plan.to (drop (length plan.from) path) in cc)))
        ∙ sym (ap one_if (same_path-other q path (λ e. absurd (let yes : is_prefix plan.from q ≡ true = ap (is_prefix plan.from) e ∙ within in cc))))
    | inr beside ↦ ap (one_at q) (stays path beside)
  ]

  -- no file stands at or below the new path
  none-there : (row : ℕ) (path : Path) → path_at h.paths row ≡ Some path → is_prefix plan.to path ≡ false
  none-there row path e = m.empty (row - 1) path e

  -- the path of a row after the move
  path-moved : (row : ℕ) → path_at (map (option_map (moved_path plan.from plan.to)) h.paths) row ≡ option_map (moved_path plan.from plan.to) (path_at h.paths row)
  path-moved row = get_or-map (option_map (moved_path plan.from plan.to)) h.paths (row - 1) None

  -- a reference's number at one path, by that of its file's path at another
  referred : (p q : Path) → ((o : Option Path) → ((path : Path) → o ≡ Some path → is_prefix plan.to path ≡ false) → one_where p (option_map (moved_path plan.from plan.to) o) ≡ one_where q o) →
      sum_by (one_referred (with_moved h plan.from plan.to).paths p) h.sessions.references ≡ sum_by (one_referred h.paths q) h.sessions.references
  referred p q each = sum-same (one_referred (with_moved h plan.from plan.to).paths p) (one_referred h.paths q) h.sessions.references (λ place d l. go (get_or h.sessions.references place d))
    where
      go : (r : Option Reference) → one_referred (with_moved h plan.from plan.to).paths p r ≡ one_referred h.paths q r
      go None = refl
      go (Some r) = ap (one_where p) (path-moved r.file.row) ∙ each (path_at h.paths r.file.row) (λ path e. none-there r.file.row path e)

  unreferred : (p : Path) → ((o : Option Path) → one_where p (option_map (moved_path plan.from plan.to) o) ≡ 0) → sum_by (one_referred (with_moved h plan.from plan.to).paths p) h.sessions.references ≡ 0
  unreferred p each = zeros (one_referred (with_moved h plan.from plan.to).paths p) h.sessions.references (λ place d l. go (get_or h.sessions.references place d))
    where
      go : (r : Option Reference) → one_referred (with_moved h plan.from plan.to).paths p r ≡ 0
      go None = refl
      go (Some r) = ap (one_where p) (path-moved r.file.row) ∙ each (path_at h.paths r.file.row)

  folders-none : {front : Path} → HoldsFilesWithin h front → (q : Path) → is_prefix front q ≡ true → sum_by (one_at q) h.sessions.folders ≡ 0
  folders-none {front} f q within = none-at-path (λ p. p) front q h.sessions.folders f.folders within

  points-none : {front : Path} → HoldsFilesWithin h front → (q : Path) → is_prefix front q ≡ true → sum_by (λ mount. one_at q mount.point) (mounts_of h.mounts) ≡ 0
  points-none {front} f q within = none-at-path (λ mount. mount.point) front q (mounts_of h.mounts) f.points within

  holders-moved : {counts c1 : NodeMap ℕ} {used : List ℕ} → IsCounted h counts used → Moves counts c1 plan.from plan.to → (q : Path) → count_at c1 q ≡ holders_at (with_moved h plan.from plan.to) q
  unfolding holders_at
  holders-moved {counts} {c1} k moved q = elim (true-or-false (is_prefix plan.to q)) [
    | inl within ↦
        let rest = drop (length plan.to) q in
        let split : q ≡ plan.to ++ rest = prefix-splits plan.to q within in
        let old : Path = plan.from ++ rest in
        let count : count_at c1 q ≡ count_at counts old = ap (count_at c1) split ∙ moved.there rest in
        let told = k.dentries old in
        let references : sum_by (one_referred (with_moved h plan.from plan.to).paths q) h.sessions.references ≡ sum_by (one_referred h.paths old) h.sessions.references =
        ap (λ p. sum_by (one_referred (with_moved h plan.from plan.to).paths p) h.sessions.references) split ∙ referred (plan.to ++ rest) old (one-moved rest) in
        let f1 = folders-none m.target q within in
        let f2 = folders-none m.source old (prefix-append plan.from rest) in
        let p1 = points-none m.target q within in
        let p2 = points-none m.source old (prefix-append plan.from rest) in
        omega (arith, count, told, references, f1, f2, p1, p2)
    | inr outside ↦ elim (true-or-false (is_prefix plan.from q)) [
      | inl inside ↦
          let split : q ≡ plan.from ++ drop (length plan.from) q = prefix-splits plan.from q inside in
          let count : count_at c1 q ≡ 0 = ap (count_at c1) split ∙ moved.gone (drop (length plan.from) q) in
          let references = unreferred q (λ o. one-gone q o inside outside) in
          let f = folders-none m.source q inside in
          let p = points-none m.source q inside in
          omega (arith, count, references, f, p)
      | inr apart ↦
          let count = moved.others q apart outside in
          let told = k.dentries q in
          let references = referred q q (λ o empty. one-stays q o apart outside) in
          omega (arith, count, told, references)
    ]
  ]

  -- two files that stand at one path after the move stood at one before
  same-before : (a b : Option Path) (path : Path) → ((p : Path) → a ≡ Some p → is_prefix plan.to p ≡ false) → ((p : Path) → b ≡ Some p → is_prefix plan.to p ≡ false) →
      option_map (moved_path plan.from plan.to) a ≡ Some path → option_map (moved_path plan.from plan.to) b ≡ Some path → (p : Path) × (a ≡ Some p) × (b ≡ Some p)
  same-before None b path ea eb e f = absurd (cc)
  same-before (Some a) None path ea eb e f = absurd (cc)
  same-before (Some a) (Some b) path ea eb e f = (a, refl, ap Some (same (true-or-false (is_prefix plan.from a)) (true-or-false (is_prefix plan.from b))))
    where
      one : moved_path plan.from plan.to a ≡ moved_path plan.from plan.to b
      one = same-some _ _ (e ∙ sym f)

      same : (is_prefix plan.from a ≡ true) ⊎ (is_prefix plan.from a ≡ false) → (is_prefix plan.from b ≡ true) ⊎ (is_prefix plan.from b ≡ false) → b ≡ a
      same (inl x) (inl y) =
          let rests = sym (drop-front plan.to (drop (length plan.from) b)) ∙ ap (drop (length plan.to)) (sym (moves b y) ∙ sym one ∙ moves a x) ∙ drop-front plan.to (drop (length plan.from) a) in
          prefix-splits plan.from b y ∙ ap (λ r. plan.from ++ r) rests ∙ sym (prefix-splits plan.from a x)
      same (inl x) (inr y) =
          let whole : b ≡ plan.to ++ drop (length plan.from) a = sym (stays b y) ∙ sym one ∙ moves a x in
          absurd (let yes : is_prefix plan.to b ≡ true = ap (is_prefix plan.to) whole ∙ prefix-append plan.to (drop (length plan.from) a) in let no = eb b refl in cc)
      same (inr x) (inl y) =
          let whole : a ≡ plan.to ++ drop (length plan.from) b = sym (stays a x) ∙ one ∙ moves b y in
          absurd (let yes : is_prefix plan.to a ≡ true = ap (is_prefix plan.to) whole ∙ prefix-append plan.to (drop (length plan.from) b) in let no = ea a refl in cc)
      same (inr x) (inr y) = sym (stays b y) ∙ sym one ∙ stays a x

  -- the counts when the files have moved
  pub counted-moved : {counts c1 : NodeMap ℕ} {used : List ℕ} → IsCounted h counts used → Moves counts c1 plan.from plan.to → IsCounted (with_moved h plan.from plan.to) c1 used
  unfolding uses_of
  counted-moved k moved = record {
    places = record {
      rows = k.places.rows;
      paths = length-map h.paths (option_map (moved_path plan.from plan.to)) ∙ k.places.paths;
      references = k.places.references;
      folders = k.places.folders;
      mounts = k.places.mounts;
      root = k.places.root;
    };
    numbers = k.numbers;
    numbered = k.numbered;
    live = k.live;
    references = k.references;
    told = λ row. ap is_some (path-moved row) ∙ same-some-as (path_at h.paths row) ∙ k.told row;
    differ = λ place other path e f.
        let both = same-before (slice_index_or h.paths place None) (slice_index_or h.paths other None) path (m.empty place) (m.empty other)
        (sym (get_or-map (option_map (moved_path plan.from plan.to)) h.paths place None) ∙ e) (sym (get_or-map (option_map (moved_path plan.from plan.to)) h.paths other None) ∙ f) in
        k.differ place other both.0 both.1 both.2;
    dentries = holders-moved k moved;
    uses = k.uses;
  }
    where
      same-some-as : (o : Option Path) → is_some (option_map (moved_path plan.from plan.to) o) ≡ is_some o
      same-some-as None = refl
      same-some-as (Some p) = refl

  -- nothing is held below the new path before
  pub nothing-below : {counts : NodeMap ℕ} {used : List ℕ} → IsCounted h counts used → HoldsNothingBelow counts plan.to
  unfolding holders_at
  nothing-below {counts} k = record {
    counts = λ q below.
        let within : is_prefix plan.to q ≡ true = first (is_prefix plan.to q) (nat_lt (length plan.to) (length q)) below in
        let told = k.dentries q in
        let references = zeros (one_referred h.paths q) h.sessions.references (λ place d l. go q within (get_or h.sessions.references place d)) in
        let f = folders-none m.target q within in
        let p = points-none m.target q within in
        omega (arith, told, references, f, p);
  }
    where
      first : (a b : Bool) → (a && b) ≡ true → a ≡ true
      first true b e = refl
      first false b e = absurd (cc)

      go : (q : Path) → is_prefix plan.to q ≡ true → (r : Option Reference) → one_referred h.paths q r ≡ 0
      go q within None = refl
      go q within (Some r) = at (path_at h.paths r.file.row) refl
        where
          at : (o : Option Path) → path_at h.paths r.file.row ≡ o → one_where q o ≡ 0
          at None e = refl
          at (Some path) e = ap one_if (same_path-other q path (λ f. absurd (let yes : is_prefix plan.to path ≡ true = ap (is_prefix plan.to) (sym f) ∙ within in let no = none-there r.file.row path e in cc)))

-- what may be moved may be moved of what is the same
pub may-as : {h k : Holding} {p q : Renaming} → k ≡ h → q ≡ p → MayMove h p → MayMove k q
may-as {h} {k} {p} {q} e f m = subst (λ plan. MayMove k plan) (sym f) (subst (λ a. MayMove a p) (sym e) m)
