-- One call of a device, or none.
use Rattle.std.specs.Prelude.{◌≡◌, ℕ, ◌+◌, ◌^◌, ◌-◌, ◌≤◌, ◌==◌, ◌||◌, min, Bool, true, false, Option, Some, None, is_some, List, [], ◌∷◌, option_map, slice_set, refl}
use Rattle.std.proofs.Common.{sym, ◌∙◌, ap, subst, arith}
use Rattle.std.proofs.lemmas.List.{get_or-set_other}
use Rattle.vfs_base.specs.declared.describe.Counts.{Counts}
use Rattle.vfs_model.specs.BlockDevice.{BlockDevice, Makes, told_page}
use Rattle.vfs_model.specs.declared.cache.DeviceCall.TheVariants as call
use Rattle.vfs_outside.specs.CallCount.{next_count}
use Rattle.page_cache.specs.Framed.{AreCounted}
use Rattle.page_cache.proofs.Found.{other-number}

one-more : (n m : ℕ) → m ≡ next_count n → m ≡ min (n + 1) (2 ^ 64 - 1)
one-more n m e = e

no-more : (n m : ℕ) → n ≤ 2 ^ 64 - 1 → m ≡ n → m ≡ min (n + 0) (2 ^ 64 - 1)
no-more n m small e = omega (arith, small, e)

-- no call at all
pub none-made : (x y : BlockDevice) → AreCounted x.counts → y ≡ x → Makes [] [] x y
none-made x y small e = subst (Makes [] [] x) (sym e) (record {
  reads = no-more x.counts.reads x.counts.reads small.reads refl;
  writes = no-more x.counts.writes x.counts.writes small.writes refl;
  faults = no-more x.counts.faults x.counts.faults small.faults refl;
  pages = refl;
  told = refl;
  kept = λ page none. refl;
})

pub read-made : (page : ℕ) (x y : BlockDevice) → AreCounted x.counts → y.contents ≡ x.contents → y.pages ≡ x.pages →
    y.counts ≡ record { reads = next_count x.counts.reads; writes = x.counts.writes; faults = x.counts.faults } → Makes (call.Read page ∷ []) [] x y
read-made page x y small contents pages counts = record {
  reads = one-more x.counts.reads y.counts.reads (ap (λ (c : Counts). c.reads) counts);
  writes = no-more x.counts.writes y.counts.writes small.writes (ap (λ (c : Counts). c.writes) counts);
  faults = no-more x.counts.faults y.counts.faults small.faults (ap (λ (c : Counts). c.faults) counts);
  pages = pages;
  told = ap is_some contents;
  kept = λ other none. ap (λ told. told_page told other) contents;
}

pub read-failed : (page : ℕ) (x y : BlockDevice) → AreCounted x.counts → y.contents ≡ x.contents → y.pages ≡ x.pages →
    y.counts ≡ record { reads = next_count x.counts.reads; writes = x.counts.writes; faults = next_count x.counts.faults } → Makes [] (call.Read page ∷ []) x y
read-failed page x y small contents pages counts = record {
  reads = one-more x.counts.reads y.counts.reads (ap (λ (c : Counts). c.reads) counts);
  writes = no-more x.counts.writes y.counts.writes small.writes (ap (λ (c : Counts). c.writes) counts);
  faults = one-more x.counts.faults y.counts.faults (ap (λ (c : Counts). c.faults) counts);
  pages = pages;
  told = ap is_some contents;
  kept = λ other none. ap (λ told. told_page told other) contents;
}

still-told : (page : ℕ) (bytes : List ℕ) (told : Option (List (List ℕ))) → is_some (option_map (λ pages. slice_set pages page bytes) told) ≡ is_some told
still-told page bytes None = refl
still-told page bytes (Some pages) = refl

other-kept : (page other : ℕ) (bytes : List ℕ) (told : Option (List (List ℕ))) → (page == other || false) ≡ false →
    told_page (option_map (λ pages. slice_set pages page bytes) told) other ≡ told_page told other
other-kept page other bytes None none = refl
other-kept page other bytes (Some pages) none = get_or-set_other pages page other bytes [] (λ e. other-number page other (sym (or-false (page == other)) ∙ none) (sym e))
  where
    or-false : (t : Bool) → (t || false) ≡ t
    or-false true = refl
    or-false false = refl

pub write-made : (page : ℕ) (bytes : List ℕ) (x y : BlockDevice) → AreCounted x.counts → y.contents ≡ option_map (λ pages. slice_set pages page bytes) x.contents → y.pages ≡ x.pages →
    y.counts ≡ record { reads = x.counts.reads; writes = next_count x.counts.writes; faults = x.counts.faults } → Makes (call.Write page ∷ []) [] x y
write-made page bytes x y small contents pages counts = record {
  reads = no-more x.counts.reads y.counts.reads small.reads (ap (λ (c : Counts). c.reads) counts);
  writes = one-more x.counts.writes y.counts.writes (ap (λ (c : Counts). c.writes) counts);
  faults = no-more x.counts.faults y.counts.faults small.faults (ap (λ (c : Counts). c.faults) counts);
  pages = pages;
  told = ap is_some contents ∙ still-told page bytes x.contents;
  kept = λ other none. ap (λ told. told_page told other) contents ∙ other-kept page other bytes x.contents none;
}

pub write-failed : (page : ℕ) (x y : BlockDevice) → AreCounted x.counts → y.contents ≡ x.contents → y.pages ≡ x.pages →
    y.counts ≡ record { reads = x.counts.reads; writes = next_count x.counts.writes; faults = next_count x.counts.faults } → Makes [] (call.Write page ∷ []) x y
write-failed page x y small contents pages counts = record {
  reads = no-more x.counts.reads y.counts.reads small.reads (ap (λ (c : Counts). c.reads) counts);
  writes = one-more x.counts.writes y.counts.writes (ap (λ (c : Counts). c.writes) counts);
  faults = one-more x.counts.faults y.counts.faults (ap (λ (c : Counts). c.faults) counts);
  pages = pages;
  told = ap is_some contents;
  kept = λ other none. ap (λ told. told_page told other) contents;
}
