-- What the number at one path, set to another, is for the numbers at all paths.
use Rattle.std.proofs.Common.{◌≡◌, ◌≢◌, ℕ, ◌+◌, inl, inr, Option, Some, None, IsSome, if◌then◌else◌, refl, sym, ap, ◌∙◌, arith}
use Rattle.std.specs.FinMap.Entries.{find as value_at, put}
use Rattle.vfs_base.specs.Path.{Path, path_cmp}
use Rattle.vfs_model.proofs.Trees.{at-put-here, at-put-other, at-without-here, at-without-other, same_path-itself, same_path-other}
use Rattle.node_maps.proofs.MovedNodes.{same_or_other}
use Rattle.node_maps.specs.NodeMap.{NodeMap, without}
use Rattle.dentry_table.specs.DentryTable.{Lowers, Raises, SameCounts, Takes, count_at, one_at, told}

module _ (path : Path) (count : ℕ) (table : NodeMap ℕ) where
  here : count_at (put path_cmp path count table) path ≡ count
  here = ap told (at-put-here path count table)

  elsewhere : (q : Path) → q ≢ path → count_at (put path_cmp path count table) q ≡ count_at table q
  elsewhere q h = ap told (at-put-other path q count table h)

one-here : (path : Path) → one_at path path ≡ 1
one-here path = ap (λ b. if b then 1 else 0) (same_path-itself path)

one-elsewhere : (q path : Path) → q ≢ path → one_at q path ≡ 0
one-elsewhere q path h = ap (λ b. if b then 1 else 0) (same_path-other q path h)

pub put-raises : (old table : NodeMap ℕ) (path : Path) (count : ℕ) → SameCounts old table → count ≡ count_at old path + 1 → Raises old (put path_cmp path count table) path
put-raises old table path count same is = record {
  counts = λ q. elim (same_or_other q path) [
    | inl e ↦ rw e (here path count table ∙ is ∙ ap (λ n. count_at old path + n) (sym (one-here path)))
    | inr other ↦
        let a : count_at (put path_cmp path count table) q ≡ count_at old q = elsewhere path count table q other ∙ same.counts q in
        let b : one_at q path ≡ 0 = one-elsewhere q path other in
        omega (arith, a, b)
  ];
}

pub put-lowers : (old : NodeMap ℕ) (path : Path) (count : ℕ) → count + 1 ≡ count_at old path → Lowers old (put path_cmp path count old) path
put-lowers old path count is = record {
  counts = λ q. elim (same_or_other q path) [
    | inl e ↦ rw e (ap (λ n. n + one_at path path) (here path count old) ∙ ap (λ n. count + n) (one-here path) ∙ is)
    | inr other ↦
        let a : count_at (put path_cmp path count old) q ≡ count_at old q = elsewhere path count old q other in
        let b : one_at q path ≡ 0 = one-elsewhere q path other in
        omega (arith, a, b)
  ];
}

pub put-takes : (old : NodeMap ℕ) (path : Path) → Takes old (put path_cmp path 0 old) path
put-takes old path = record {
  counts = λ q. elim (same_or_other q path) [
    | inl e ↦ rw e (here path 0 old ∙ sym (ap (λ b. if b then 0 else count_at old path) (same_path-itself path)))
    | inr other ↦ elsewhere path 0 old q other ∙ sym (ap (λ b. if b then 0 else count_at old q) (same_path-other q path other))
  ];
}

-- where there is no holder, none is taken off
pub none-takes : (old : NodeMap ℕ) (path : Path) → count_at old path ≡ 0 → Takes old old path
none-takes old path none = record {
  counts = λ q. elim (same_or_other q path) [
    | inl e ↦ rw e (none ∙ sym (ap (λ b. if b then 0 else count_at old path) (same_path-itself path)))
    | inr other ↦ sym (ap (λ b. if b then 0 else count_at old q) (same_path-other q path other))
  ];
}

-- the counts stay, one time and another
pub same-same : (old mid new : NodeMap ℕ) → SameCounts old mid → SameCounts mid new → SameCounts old new
same-same old mid new a b = record { counts = λ q. b.counts q ∙ a.counts q }

pub lowers-same : (old mid new : NodeMap ℕ) (path : Path) → Lowers old mid path → SameCounts mid new → Lowers old new path
lowers-same old mid new path a b = record { counts = λ q. ap (λ n. n + one_at q path) (b.counts q) ∙ a.counts q }

pub takes-same : (old mid new : NodeMap ℕ) (path : Path) → Takes old mid path → SameCounts mid new → Takes old new path
takes-same old mid new path a b = record { counts = λ q. b.counts q ∙ a.counts q }

-- a path with a holder is there
pub held-there : (table : NodeMap ℕ) (path : Path) → count_at table path ≢ 0 → IsSome (value_at path_cmp path table)
held-there table path h = elim (value_at path_cmp path table) as (λ o. told o ≢ 0 → IsSome o) [ None ↦ λ k. absurd (k refl) | Some count ↦ λ k. refl ] h

-- a path without a holder that goes
pub without-same : (table : NodeMap ℕ) (path : Path) → count_at table path ≡ 0 → SameCounts table (without path table)
without-same table path none = record {
  counts = λ q. elim (same_or_other q path) [
    | inl e ↦ rw e (ap told (at-without-here path table) ∙ sym none)
    | inr other ↦ ap told (at-without-other path q table other)
  ];
}

pub put-held : (path : Path) (count : ℕ) (table : NodeMap ℕ) → count ≢ 0 → count_at (put path_cmp path count table) path ≢ 0
put-held path count table h e = h (sym (here path count table) ∙ e)

pub there-some : (o : Option ℕ) → o ≢ None → IsSome o
there-some None h = absurd (h refl)
there-some (Some count) h = refl

pub same-itself : (table : NodeMap ℕ) → SameCounts table table
same-itself table = record { counts = λ q. refl }
