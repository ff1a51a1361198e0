-- What lies below a folder stands together in the order of paths, from the least path below it on.
use Rattle.std.proofs.Common.{◌≡◌, ℕ, ◌+◌, ◌<◌, Bool, true, false, cond, ◌&&◌, T, nat_lt, nat_le, Some, is_some, List, [], ◌∷◌, ◌++◌, length, drop, map, filter, if◌then◌else◌, ◌==◌, inl, inr, refl, sym, ap, subst, ◌∙◌, arith, append_assoc, length-append}
use Rattle.std.proofs.lemmas.Bool.Decides.{nat_tests}
use Rattle.std.proofs.lemmas.Cmp.{nat_cmp_total}
use Rattle.std.proofs.lemmas.List.{append-nil}
use Rattle.std.specs.BTreeMap.Range.{entries_between, range_contains}
use Rattle.std.specs.Cmp.{second_so}
use Rattle.std.specs.Cmp.Lexicographic.{slice_cmp}
use Rattle.std.specs.FinMap.{nat_cmp-IsAntisymmetric}
use Rattle.std.specs.FinMap.Entries.{below_all, find as value_at, is_sorted, is_sorted-where_key}
use Rattle.std.specs.List.{list_all}
use Rattle.std.specs.Ordering.{eq_by_cmp, is_le, is_lt, nat_cmp, ordering_reverse, ordering_then}
use Rattle.std.specs.declared.cmp.Ordering.{Ordering}
use Rattle.std.specs.declared.cmp.Ordering.TheVariants.{Less, Equal, Greater}
use Rattle.std.specs.declared.ops.Bound.TheVariants.{Included, Unbounded}
use Rattle.vfs_base.proofs.PathOrder.{by_slashed, path_cmp-append}
use Rattle.vfs_base.specs.Name.{IsName, is_name_byte, slash}
use Rattle.vfs_base.specs.declared.describe.CellNode.{CellNode}
use Rattle.vfs_base.specs.Path.{AllAre, IsPath, Path, names_cmp, path_cmp, slashed}
use Rattle.vfs_model.proofs.MovedLaws.{below-longer}
use Rattle.vfs_model.proofs.Trees.{prefix-splits}
use Rattle.vfs_model.specs.Lookup.{is_below, is_prefix}
use Rattle.vfs_model.specs.NameSteps.{is_entry_of, last_name}
use Rattle.node_maps.proofs.MovedNodes.{at-entry, at-later}
use Rattle.node_maps.specs.NodeMap.{NodeMap}
use Rattle.cell_volume.proofs.PathFronts.{same-or-other-path}
use Rattle.cell_volume.specs.Below.{below_in, least_below}
use Rattle.cell_volume.specs.MountedVolume.{entries_at}
use Rattle.cell_volume.specs.declared.cell_entry.CellEntry.{CellEntry}

and-parts : (a b : Bool) → (a && b) ≡ true → (a ≡ true) × (b ≡ true)
and-parts true b h = (refl, h)
and-parts false b h = absurd (cc)

t-parts : (a b : Bool) → T (a && b) → T a × T b
t-parts true b h = (tt, h)
t-parts false b h = absurd h

rest-behind : (rest : Path) (n : ℕ) → n < n + length rest → (next : List ℕ) × (more : Path) × (rest ≡ next ∷ more)
rest-behind [] n h = absurd (omega arith)
rest-behind (next ∷ more) n h = (next, more, refl)

-- a path below another goes on from it
pub below-splits : (path q : Path) → is_below path q ≡ true → (next : List ℕ) × (more : Path) × (q ≡ path ++ next ∷ more)
below-splits path q h =
    let parts = and-parts (is_prefix path q) (nat_lt (length path) (length q)) h in
    let split = prefix-splits path q parts.0 in
    let longer : length path < length q = grind (arith, nat_tests) in
    let sum : length path + length (drop (length path) q) ≡ length q = sym (length-append path (drop (length path) q)) ∙ sym (ap length split) in
    let rest = rest-behind (drop (length path) q) (length path) (omega arith) in
    (rest.0, rest.1, split ∙ ap (λ r. path ++ r) rest.2)

-- a path is one of names where its front and what comes behind it are
pub path-front : (front rest : Path) → IsPath (front ++ rest) → IsPath rest
path-front [] rest h = h
path-front (name ∷ front) rest h = path-front front rest h.1

pub path-append : (front rest : Path) → IsPath front → IsPath rest → IsPath (front ++ rest)
path-append [] rest h k = k
path-append (name ∷ front) rest h k = (h.0, path-append front rest h.1 k)

-- a fact of each item, and of one more
pub all-push : {X : Type 0} (P : X → Type 0) (xs : List X) (x : X) → AllAre P xs → P x → AllAre P (xs ++ x ∷ [])
all-push P [] x h k = (k, tt)
all-push P (y ∷ xs) x h k = (h.0, all-push P xs x h.1 k)

abbrev Plain : List ℕ → Type 0
Plain name = list_all is_name_byte name ≡ true

plain : (name : List ℕ) → IsName name → Plain name
plain name h = second_so (nat_lt 0 (length name) && nat_le (length name) 255) (list_all is_name_byte name) h

plain-rest : (byte : ℕ) (name : List ℕ) → Plain (byte ∷ name) → Plain name
plain-rest byte name h = second_so (is_name_byte byte) (list_all is_name_byte name) h

no-slash : (byte : ℕ) (name : List ℕ) → Plain (byte ∷ name) → slash ≡ byte → ⊥
no-slash byte name h e = let plain_slash : Plain (slash ∷ name) = subst (λ b. Plain (b ∷ name)) (sym e) h in absurd (cc)

-- a name ends at the first slash
name-ends : (n m : List ℕ) (p : Path) (rest : List ℕ) → Plain n → Plain m → n ++ slashed p ≡ m ++ slash ∷ rest → (n ≡ m) × (slashed p ≡ slash ∷ rest)
name-ends [] [] p rest a b e = (refl, e)
name-ends [] (y ∷ m) [] rest a b e = absurd (cc)
name-ends [] (y ∷ m) (z ∷ p) rest a b e = absurd (no-slash y m b (cc))
name-ends (x ∷ n) [] p rest a b e = absurd (no-slash x n a (cc))
name-ends (x ∷ n) (y ∷ m) p rest a b e =
    let later : (n ≡ m) × (slashed p ≡ slash ∷ rest) = name-ends n m p rest (plain-rest x n a) (plain-rest y m b) (cc) in
    let first : x ≡ y = cc in
    let name : n ≡ m = later.0 in
    (cc, later.1)

slashed-append : (p q : Path) → slashed (p ++ q) ≡ slashed p ++ slashed q
slashed-append [] q = refl
slashed-append (name ∷ p) q = rw (slashed-append p q, append_assoc) refl

begins : (p : Path) (bytes : List ℕ) → (rest : List ℕ) × (slashed p ++ slash ∷ bytes ≡ slash ∷ rest)
begins [] bytes = (bytes, refl)
begins (name ∷ p) bytes = ((name ++ slashed p) ++ slash ∷ bytes, refl)

-- a path whose bytes go on with a slash behind those of another goes on from it
goes-on : (front p : Path) (bytes : List ℕ) → IsPath front → IsPath p → slashed p ≡ slashed front ++ slash ∷ bytes → (next : List ℕ) × (more : Path) × (p ≡ front ++ next ∷ more)
goes-on [] [] bytes a b e = absurd (cc)
goes-on [] (n ∷ p) bytes a b e = (n, p, refl)
goes-on (m ∷ front) [] bytes a b e = absurd (cc)
goes-on (m ∷ front) (n ∷ p) bytes a b e =
    let behind = begins front bytes in
    let tails : n ++ slashed p ≡ (m ++ slashed front) ++ slash ∷ bytes = cc in
    let parts = name-ends n m p behind.0 (plain n b.0) (plain m a.0) (tails ∙ append_assoc m (slashed front) (slash ∷ bytes) ∙ ap (λ x. m ++ x) behind.1) in
    let rest = goes-on front p bytes a.1 b.1 (parts.1 ∙ sym behind.1) in
    (rest.0, rest.1, ap (λ x. x ∷ p) parts.0 ∙ ap (λ r. m ∷ r) rest.2)

-- bytes between two that have one front have that front
between-fronts : (front a b x : List ℕ) → is_le (slice_cmp nat_cmp (front ++ a) x) ≡ true → is_le (slice_cmp nat_cmp x (front ++ b)) ≡ true → (rest : List ℕ) × (x ≡ front ++ rest)
between-fronts [] a b x h k = (x, refl)
between-fronts (c ∷ front) a b [] h k = absurd (cc)
between-fronts (c ∷ front) a b (d ∷ x) h k = by (nat_cmp c d) refl (between-fronts front a b x)
  where
    by : (o : Ordering) → nat_cmp c d ≡ o →
        (is_le (slice_cmp nat_cmp (front ++ a) x) ≡ true → is_le (slice_cmp nat_cmp x (front ++ b)) ≡ true → (rest : List ℕ) × (x ≡ front ++ rest)) → (rest : List ℕ) × (d ∷ x ≡ (c ∷ front) ++ rest)
    by Less e later =
        let beside : is_le (ordering_then (nat_cmp d c) (slice_cmp nat_cmp x (front ++ b))) ≡ false =
        ap (λ o. is_le (ordering_then o (slice_cmp nat_cmp x (front ++ b)))) (nat_cmp_total.antisymm d c ∙ ap ordering_reverse e) in
        absurd (cc)
    by Equal e later =
        let same : c ≡ d = nat_cmp-IsAntisymmetric c d e in
        let back : nat_cmp d c ≡ Equal = nat_cmp_total.antisymm d c ∙ ap ordering_reverse e in
        let rest = later
        (ap (λ o. is_le (ordering_then o (slice_cmp nat_cmp (front ++ a) x))) (sym e) ∙ h)
        (ap (λ o. is_le (ordering_then o (slice_cmp nat_cmp x (front ++ b)))) (sym back) ∙ k) in
        (rest.0, ap (λ byte. byte ∷ x) (sym same) ∙ ap (λ bytes. c ∷ bytes) rest.1)
    by Greater e later =
        let beside : is_le (ordering_then (nat_cmp c d) (slice_cmp nat_cmp (front ++ a) x)) ≡ false =
        ap (λ o. is_le (ordering_then o (slice_cmp nat_cmp (front ++ a) x))) e in
        absurd (cc)

first-le : (a b : Ordering) → is_le (ordering_then a b) ≡ true → is_le a ≡ true
first-le Less b h = refl
first-le Equal b h = refl
first-le Greater b h = h

then-le : (a b : Ordering) → is_le a ≡ true → is_le b ≡ true → is_le (ordering_then a b) ≡ true
then-le Less b h k = refl
then-le Equal b h k = k
then-le Greater b h k = h

less-le : (o : Ordering) → T (is_lt o) → is_le o ≡ true
less-le Less h = refl
less-le Equal h = absurd h
less-le Greater h = absurd h

slashed-le : (p q : Path) → is_le (path_cmp p q) ≡ true → is_le (slice_cmp nat_cmp (slashed p) (slashed q)) ≡ true
slashed-le p q h = first-le (slice_cmp nat_cmp (slashed p) (slashed q)) (names_cmp p q) (ap is_le (by_slashed p q) ∙ h)

-- what stands between the least path below a folder and a path below it lies below it
convex : (folder p q : Path) → IsPath folder → IsPath p → is_le (path_cmp (least_below folder) p) ≡ true → is_le (path_cmp p q) ≡ true → is_below folder q ≡ true → is_below folder p ≡ true
convex folder p q a b from to below =
    let split = below-splits folder q below in
    let low : slashed (least_below folder) ≡ (slashed folder ++ slash ∷ []) ++ 1 ∷ [] =
    slashed-append folder ((1 ∷ []) ∷ []) ∙ sym (append_assoc (slashed folder) (slash ∷ []) (1 ∷ [])) in
    let high : slashed q ≡ (slashed folder ++ slash ∷ []) ++ (split.0 ++ slashed split.1) =
    ap slashed split.2 ∙ slashed-append folder (split.0 ∷ split.1) ∙ sym (append_assoc (slashed folder) (slash ∷ []) (split.0 ++ slashed split.1)) in
    let middle = between-fronts (slashed folder ++ slash ∷ []) (1 ∷ []) (split.0 ++ slashed split.1) (slashed p)
    (ap (λ bytes. is_le (slice_cmp nat_cmp bytes (slashed p))) (sym low) ∙ slashed-le (least_below folder) p from)
    (ap (λ bytes. is_le (slice_cmp nat_cmp (slashed p) bytes)) (sym high) ∙ slashed-le p q to) in
    let on = goes-on folder p middle.0 a b (middle.1 ∙ append_assoc (slashed folder) (slash ∷ []) middle.0) in
    ap (is_below folder) on.2 ∙ below-longer folder on.0 on.1

one-le : (byte : ℕ) → is_name_byte byte ≡ true → is_le (nat_cmp 1 byte) ≡ true
one-le byte h = grind (arith, nat_tests)

nothing-le : {X : Type 0} (R : X → X → Ordering) (xs : List X) → is_le (slice_cmp R [] xs) ≡ true
nothing-le R [] = refl
nothing-le R (x ∷ xs) = refl

-- no name comes before that of the one byte 1
least-name : (name : List ℕ) (more : Path) → IsName name → is_le (path_cmp ((1 ∷ []) ∷ []) (name ∷ more)) ≡ true
least-name [] more h = absurd (cc)
least-name (byte ∷ name) more h =
    let first = one-le byte (and-parts (is_name_byte byte) (list_all is_name_byte name) (plain (byte ∷ name) h)).0 in
    then-le (slice_cmp nat_cmp (slash ∷ 1 ∷ []) (slash ∷ byte ∷ name ++ slashed more)) (names_cmp ((1 ∷ []) ∷ []) ((byte ∷ name) ∷ more))
    (then-le (nat_cmp 1 byte) (slice_cmp nat_cmp [] (name ++ slashed more)) first (nothing-le nat_cmp (name ++ slashed more)))
    (then-le (slice_cmp nat_cmp (1 ∷ []) (byte ∷ name)) (slice_cmp (slice_cmp nat_cmp) [] more)
    (then-le (nat_cmp 1 byte) (slice_cmp nat_cmp [] name) first (nothing-le nat_cmp name)) (nothing-le (slice_cmp nat_cmp) more))

-- no path below a folder comes before the least one
least-from : (folder q : Path) → IsPath q → is_below folder q ≡ true → is_le (path_cmp (least_below folder) q) ≡ true
least-from folder q a below =
    let split = below-splits folder q below in
    let names = path-front folder (split.0 ∷ split.1) (subst (λ p. IsPath p) split.2 a) in
    ap (λ p. is_le (path_cmp (least_below folder) p)) split.2
    ∙ ap is_le (path_cmp-append folder ((1 ∷ []) ∷ []) (split.0 ∷ split.1)) ∙ least-name split.0 split.1 names.0

module _ {N : Type 0} where
  -- the entries from the least path below the folder on
  abbrev pub range_from : Path → NodeMap N → NodeMap N
  range_from folder tree = entries_between path_cmp (Included (least_below folder)) Unbounded tree

  -- Entries in order, of which none comes before what lies below the folder.
  pub record Rest (folder : Path) (tree : NodeMap N) : Type 0 where
    pub sorted : T (is_sorted path_cmp tree)
    pub paths : AllAre (λ entry. IsPath entry.0) tree
    pub from : AllAre (λ entry. is_le (path_cmp (least_below folder) entry.0) ≡ true) tree

  pub rest-later : (folder : Path) (entry : Path × N) (tree : NodeMap N) → Rest folder (entry ∷ tree) → Rest folder tree
  rest-later folder entry tree rest = record {
    sorted = (t-parts (below_all path_cmp entry.0 tree) (is_sorted path_cmp tree) rest.sorted).1;
    paths = rest.paths.1;
    from = rest.from.1;
  }

  -- an entry of a map is found at its path, and the other way round
  pub paths-all : (tree : NodeMap N) → ((q : Path) → is_some (value_at path_cmp q tree) ≡ true → IsPath q) → AllAre (λ entry. IsPath entry.0) tree
  paths-all [] h = tt
  paths-all (entry ∷ tree) h = (h entry.0 (ap is_some (at-entry entry.0 entry tree refl)), paths-all tree (λ q k. h q (later q k (eq_by_cmp path_cmp q entry.0))))
    where
      later : (q : Path) → is_some (value_at path_cmp q tree) ≡ true → (b : Bool) → is_some (cond b (Some entry.1) (value_at path_cmp q tree)) ≡ true
      later q k true = refl
      later q k false = k

  pub all-paths : (tree : NodeMap N) → AllAre (λ entry. IsPath entry.0) tree → (q : Path) → is_some (value_at path_cmp q tree) ≡ true → IsPath q
  all-paths [] h q k = absurd (cc)
  all-paths (entry ∷ tree) h q k = elim (same-or-other-path q entry.0) [
    | inl same ↦ subst (λ p. IsPath p) (sym same) h.0
    | inr other ↦ all-paths tree h.1 q (ap is_some (sym (at-later q entry tree other)) ∙ k)
  ]

  all-filter : (P : Path × N → Type 0) (test : Path → Bool) (tree : NodeMap N) → AllAre P tree → AllAre P (filter (λ entry. test entry.0) tree)
  all-filter P test [] h = tt
  all-filter P test (entry ∷ tree) h = elim (test entry.0) as (λ b. AllAre P (cond b (entry ∷ filter (λ e. test e.0) tree) (filter (λ e. test e.0) tree))) [
    | true ↦ (h.0, all-filter P test tree h.1)
    | false ↦ all-filter P test tree h.1
  ]

  from-least : (folder : Path) (tree : NodeMap N) → AllAre (λ entry. is_le (path_cmp (least_below folder) entry.0) ≡ true) (range_from folder tree)
  from-least folder [] = tt
  from-least folder (entry ∷ tree) = elim (is_le (path_cmp (least_below folder) entry.0)) as (λ b. is_le (path_cmp (least_below folder) entry.0) ≡ b →
      AllAre (λ e. is_le (path_cmp (least_below folder) e.0) ≡ true) (cond (b && true) (entry ∷ range_from folder tree) (range_from folder tree))) [
        | true ↦ λ e. (e, from-least folder tree)
        | false ↦ λ e. from-least folder tree
      ] refl

  pub range-rest : (folder : Path) (tree : NodeMap N) → T (is_sorted path_cmp tree) → AllAre (λ entry. IsPath entry.0) tree → Rest folder (range_from folder tree)
  range-rest folder tree s h = record {
    sorted = is_sorted-where_key path_cmp (range_contains path_cmp (Included (least_below folder)) Unbounded) tree s;
    paths = all-filter (λ entry. IsPath entry.0) (range_contains path_cmp (Included (least_below folder)) Unbounded) tree h;
    from = from-least folder tree;
  }

  -- behind an entry that does not lie below the folder, none does
  none-later : (folder first : Path) → IsPath folder → IsPath first → is_le (path_cmp (least_below folder) first) ≡ true → is_below folder first ≡ false →
      (tree : NodeMap N) → T (below_all path_cmp first tree) → AllAre (λ entry. is_below folder entry.0 ≡ false) tree
  none-later folder first a b from beside [] h = tt
  none-later folder first a b from beside (entry ∷ tree) h =
      let parts = t-parts (is_lt (path_cmp first entry.0)) (below_all path_cmp first tree) h in
      (by parts.0 (is_below folder entry.0) refl, none-later folder first a b from beside tree parts.1)
    where
      by : T (is_lt (path_cmp first entry.0)) → (r : Bool) → is_below folder entry.0 ≡ r → is_below folder entry.0 ≡ false
      by lt true e = let yes : is_below folder first ≡ true = convex folder first entry.0 a b from (less-le (path_cmp first entry.0) lt) e in absurd (cc)
      by lt false e = e

  -- a test that only paths below the folder pass
  module _ (test : Path → Bool) (folder : Path) (means : (q : Path) → test q ≡ true → is_below folder q ≡ true) where
    filter-none : (tree : NodeMap N) → AllAre (λ entry. is_below folder entry.0 ≡ false) tree → filter (λ entry. test entry.0) tree ≡ []
    filter-none [] h = refl
    filter-none (entry ∷ tree) h =
        ap (λ b. cond b (entry ∷ filter (λ e. test e.0) tree) (filter (λ e. test e.0) tree)) (by (test entry.0) refl) ∙ filter-none tree h.1
      where
        by : (b : Bool) → test entry.0 ≡ b → test entry.0 ≡ false
        by true e = let yes = means entry.0 e in let beside = h.0 in absurd (cc)
        by false e = e

    -- the walk stops at the first entry that does not lie below the folder
    pub walk-stops : IsPath folder → (entry : Path × N) (tree : NodeMap N) → Rest folder (entry ∷ tree) → is_below folder entry.0 ≡ false → filter (λ e. test e.0) (entry ∷ tree) ≡ []
    walk-stops a entry tree rest beside =
        filter-none (entry ∷ tree)
        (beside, none-later folder entry.0 a rest.paths.0 rest.from.0 beside tree (t-parts (below_all path_cmp entry.0 tree) (is_sorted path_cmp tree) rest.sorted).0)

    -- before the least path below the folder nothing lies below it
    pub walk-starts : (tree : NodeMap N) → AllAre (λ entry. IsPath entry.0) tree → filter (λ entry. test entry.0) (range_from folder tree) ≡ filter (λ entry. test entry.0) tree
    walk-starts [] h = refl
    walk-starts (entry ∷ tree) h = by (is_le (path_cmp (least_below folder) entry.0)) refl (walk-starts tree h.1)
      where
        past : is_le (path_cmp (least_below folder) entry.0) ≡ false → (b : Bool) → test entry.0 ≡ b → test entry.0 ≡ false
        past beside true e = let yes = least-from folder entry.0 h.0 (means entry.0 e) in absurd (cc)
        past beside false e = e

        by : (b : Bool) → is_le (path_cmp (least_below folder) entry.0) ≡ b → filter (λ e. test e.0) (range_from folder tree) ≡ filter (λ e. test e.0) tree →
            filter (λ e. test e.0) (range_from folder (entry ∷ tree)) ≡ filter (λ e. test e.0) (entry ∷ tree)
        by true e later =
            ap (λ b. filter (λ e. test e.0) (cond (b && true) (entry ∷ range_from folder tree) (range_from folder tree))) e
            ∙ ap (λ rest. cond (test entry.0) (entry ∷ rest) rest) later
        by false e later =
            ap (λ b. filter (λ e. test e.0) (cond (b && true) (entry ∷ range_from folder tree) (range_from folder tree))) e
            ∙ later
            ∙ sym (ap (λ b. cond b (entry ∷ filter (λ e. test e.0) tree) (filter (λ e. test e.0) tree)) (past e (test entry.0) refl))

module _ {N : Type 0} where
  rest-of : (folder : Path) (tree more : NodeMap N) (entry : Path × N) → tree ≡ entry ∷ more → Rest folder tree → Rest folder (entry ∷ more)
  rest-of folder tree more entry e rest = subst (λ t. Rest folder t) e rest

  -- one entry more of a walk
  pub rest-next : (folder : Path) (tree more : NodeMap N) (entry : Path × N) → tree ≡ entry ∷ more → Rest folder tree → Rest folder more
  rest-next folder tree more entry e rest = rest-later folder entry more (rest-of folder tree more entry e rest)

  pub below-next : (folder : Path) (so_far whole tree more : NodeMap N) (entry : Path × N) → tree ≡ entry ∷ more → is_below folder entry.0 ≡ true →
      so_far ++ below_in folder tree ≡ whole → (so_far ++ entry ∷ []) ++ below_in folder more ≡ whole
  below-next folder so_far whole tree more entry e below h =
      append_assoc so_far (entry ∷ []) (below_in folder more)
      ∙ ap (λ b. so_far ++ cond b (entry ∷ below_in folder more) (below_in folder more)) (sym below)
      ∙ ap (λ t. so_far ++ below_in folder t) (sym e) ∙ h

  -- a walk that is at an entry that does not lie below the folder
  pub below-done : (folder : Path) (so_far whole tree more : NodeMap N) (entry : Path × N) → IsPath folder → tree ≡ entry ∷ more → is_below folder entry.0 ≡ false →
      Rest folder tree → so_far ++ below_in folder tree ≡ whole → so_far ≡ whole
  below-done folder so_far whole tree more entry a e beside rest h =
      let none : below_in folder tree ≡ [] =
      ap (λ t. below_in folder t) e ∙ walk-stops (is_below folder) folder (λ q k. k) a entry more (rest-of folder tree more entry e rest) beside in
      sym (append-nil so_far) ∙ ap (λ t. so_far ++ t) (sym none) ∙ h

  -- where a walk begins
  pub below-begins : (folder : Path) (kept first : NodeMap N) → AllAre (λ entry. IsPath entry.0) kept → first ≡ range_from folder kept → below_in folder first ≡ below_in folder kept
  below-begins folder kept first h e = ap (λ t. below_in folder t) e ∙ walk-starts (is_below folder) folder (λ q k. k) kept h

  pub rest-begins : (folder : Path) (kept first : NodeMap N) → T (is_sorted path_cmp kept) → AllAre (λ entry. IsPath entry.0) kept → first ≡ range_from folder kept → Rest folder first
  rest-begins folder kept first s h e = subst (λ t. Rest folder t) (sym e) (range-rest folder kept s h)

-- the same walk for what is in the folder
module _ where
  entry-below : (folder q : Path) → is_entry_of folder q ≡ true → is_below folder q ≡ true
  entry-below folder q h = (and-parts (is_below folder q) (length q == length folder + 1) h).0

  pub entries-begin : (folder : Path) (kept first : List (Path × CellNode)) → AllAre (λ entry. IsPath entry.0) kept → first ≡ range_from folder kept → entries_at first folder ≡ entries_at kept folder
  entries-begin folder kept first h e =
      ap (λ t. entries_at t folder) e ∙ ap (map (λ entry. record { name = last_name entry.0; node = entry.1 })) (walk-starts (is_entry_of folder) folder (entry-below folder) kept h)

  pub entries-next : (folder : Path) (so_far whole now : List CellEntry) (tree more : List (Path × CellNode)) (entry : Path × CellNode) → tree ≡ entry ∷ more →
      now ≡ so_far ++ (if is_entry_of folder entry.0 then record { name = last_name entry.0; node = entry.1 } ∷ [] else []) →
      so_far ++ entries_at tree folder ≡ whole → now ++ entries_at more folder ≡ whole
  entries-next folder so_far whole now tree more entry e is h =
      ap (λ n. n ++ entries_at more folder) is ∙ by (is_entry_of folder entry.0) refl ∙ ap (λ t. so_far ++ entries_at t folder) (sym e) ∙ h
    where
      by : (b : Bool) → is_entry_of folder entry.0 ≡ b →
          (so_far ++ (if is_entry_of folder entry.0 then record { name = last_name entry.0; node = entry.1 } ∷ [] else [])) ++ entries_at more folder ≡ so_far ++ entries_at (entry ∷ more) folder
      by true k = rw k (append_assoc so_far (record { name = last_name entry.0; node = entry.1 } ∷ []) (entries_at more folder))
      by false k = rw k (ap (λ n. n ++ entries_at more folder) (append-nil so_far))

  pub entries-done : (folder : Path) (so_far whole : List CellEntry) (tree more : List (Path × CellNode)) (entry : Path × CellNode) → IsPath folder → tree ≡ entry ∷ more → is_below folder entry.0 ≡ false →
      Rest folder tree → so_far ++ entries_at tree folder ≡ whole → so_far ≡ whole
  entries-done folder so_far whole tree more entry a e beside rest h =
      let none : entries_at tree folder ≡ [] =
      ap (λ t. entries_at t folder) e
      ∙ ap (map (λ entry. record { name = last_name entry.0; node = entry.1 })) (walk-stops (is_entry_of folder) folder (entry-below folder) a entry more (rest-of folder tree more entry e rest) beside) in
      sym (append-nil so_far) ∙ ap (λ t. so_far ++ t) (sym none) ∙ h
