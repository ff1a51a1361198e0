-- Calls of the page cache that come one after the other.
use Rattle.std.specs.Prelude.{◌≡◌, ℕ, ◌+◌, ◌||◌, Bool, true, false, cond, List, [], ◌∷◌, ◌++◌, length, count_by, Result, Ok, Err, refl}
use Rattle.std.proofs.Common.{sym, ◌∙◌, ap, ap₂, subst, arith}
use Rattle.std.proofs.lemmas.List.{append-nil, append_assoc, length-append}
use Rattle.std.proofs.lemmas.List.Folds.{list_any-append}
use Rattle.std.proofs.lemmas.List.Sums.{sum_by-append}
use Rattle.std.specs.List.{list_any}
use Rattle.vfs_model.specs.BlockDevice.{BlockDevice, Makes, counted, is_write_of}
use Rattle.vfs_model.specs.Cache.{CacheRun}
use Rattle.vfs_model.specs.FailedCalls.{◌>>=◌}
use Rattle.vfs_model.specs.IoTotals.{is_read, is_write}
use Rattle.vfs_model.specs.declared.cache.CacheState.{CacheState}
use Rattle.vfs_model.specs.declared.cache.DeviceCall.{DeviceCall}
use Rattle.page_cache.specs.AddressSpace.{Completes, Moment, RunsOut, StopsAt, Way, cache_in, run_behind}
use Rattle.page_cache.specs.Framed.{AreCounted, Rests, changing, then_way}
use Rattle.page_cache.proofs.Calls.{none-made}

count-append : {X : Type 0} (p : X → Bool) (xs ys : List X) → count_by p (xs ++ ys) ≡ count_by p xs + count_by p ys
count-append p xs ys = sum_by-append (λ x. cond (p x) 1 0) xs ys

counted-then : (n a b f m o : ℕ) → m ≡ counted n (a + 0) → o ≡ counted m (b + f) → o ≡ counted n (a + b + f)
counted-then n a b f m o first second = omega (arith, first, second)

faults-then : (n f m o : ℕ) → m ≡ counted n 0 → o ≡ counted m f → o ≡ counted n f
faults-then n f m o first second = omega (arith, first, second)

either-first : (a b : Bool) → (a || b) ≡ false → a ≡ false
either-first true b e = e
either-first false b e = refl

either-second : (a b : Bool) → (a || b) ≡ false → b ≡ false
either-second true b e = absurd (cc)
either-second false b e = e

-- calls that all succeed, and then others
pub made-then : (a b f : List DeviceCall) (x y z : BlockDevice) → Makes a [] x y → Makes b f y z → Makes (a ++ b) f x z
made-then a b f x y z first second = record {
  reads = counted-then x.counts.reads (count_by is_read a) (count_by is_read b) (count_by is_read f) y.counts.reads z.counts.reads first.reads second.reads
      ∙ ap (λ n. counted x.counts.reads (n + count_by is_read f)) (sym (count-append is_read a b));
  writes = counted-then x.counts.writes (count_by is_write a) (count_by is_write b) (count_by is_write f) y.counts.writes z.counts.writes first.writes second.writes
      ∙ ap (λ n. counted x.counts.writes (n + count_by is_write f)) (sym (count-append is_write a b));
  faults = faults-then x.counts.faults (length f) y.counts.faults z.counts.faults first.faults second.faults;
  pages = second.pages ∙ first.pages;
  told = second.told ∙ first.told;
  kept = λ page none.
      let apart = list_any-append (is_write_of page) a b in
      second.kept page (either-second (list_any (is_write_of page) a) (list_any (is_write_of page) b) (sym apart ∙ none))
      ∙ first.kept page (either-first (list_any (is_write_of page) a) (list_any (is_write_of page) b) (sym apart ∙ none));
}

-- the calls behind earlier ones, and the others behind those
lists : (e a b : List DeviceCall) → (e ++ a) ++ b ≡ e ++ (a ++ b)
lists e a b = append_assoc e a b

lengths : (e a b : List DeviceCall) → length (e ++ (a ++ b)) ≡ length (e ++ a) + length b
lengths e a b = ap length (sym (lists e a b)) ∙ length-append (e ++ a) b

-- the cache alone changes, or nothing
pub completes-change : (old new : Moment) (change : CacheState → CacheState) → AreCounted old.device.counts → new.device ≡ old.device → cache_in new.space ≡ change (cache_in old.space) →
    Completes (changing change) old new
completes-change old new change small device cache = record {
  made = [];
  calls = none-made old.device new.device small device;
  clear = λ e. same e;
  tried = λ n e low. ap (λ run. let r : Result CacheRun CacheRun = Ok run in r) (same e);
}
  where
    same : (e : List DeviceCall) → (let r : CacheRun = record { next = change (cache_in old.space); calls = e } in r) ≡ run_behind (e ++ []) new
    same e = ap₂ (λ next calls. let r : CacheRun = record { next = next; calls = calls } in r) (sym cache) (sym (append-nil e))

-- one way that nothing stops, and then another
pub completes-then : (w v : Way) (a b c : Moment) → Completes w a b → Completes v b c → Completes (then_way w v) a c
completes-then w v a b c h k = record {
  made = h.made ++ k.made;
  calls = made-then h.made k.made [] a.device b.device c.device h.calls k.calls;
  clear = λ e. ap v.clear (h.clear e) ∙ k.clear (e ++ h.made) ∙ ap (λ calls. run_behind calls c) (lists e h.made k.made);
  tried = λ n e low.
      let whole = lengths e h.made k.made in
      let both : length ((e ++ h.made) ++ k.made) ≡ length (e ++ h.made) + length k.made = length-append (e ++ h.made) k.made in
      ap (λ (t : Result CacheRun CacheRun). t >>= v.tried n) (h.tried n e (omega (arith, whole, low))) ∙ k.tried n (e ++ h.made) (omega (arith, whole, both, low))
      ∙ ap (λ calls. let r : Result CacheRun CacheRun = Ok (run_behind calls c) in r) (lists e h.made k.made);
}

-- a way that is stopped, whatever was to follow
pub stops-first : (w v : Way) (a b : Moment) → StopsAt w a b → StopsAt (then_way w v) a b
stops-first w v a b h = record {
  made = h.made;
  failed = h.failed;
  calls = h.calls;
  stopped = λ e. ap (λ (t : Result CacheRun CacheRun). t >>= v.tried (length (e ++ h.made) + 1)) (h.stopped e);
}

-- one way that nothing stops, and then one that is stopped
pub stops-then : (w v : Way) (a b c : Moment) → Completes w a b → StopsAt v b c → StopsAt (then_way w v) a c
stops-then w v a b c h k = record {
  made = h.made ++ k.made;
  failed = k.failed;
  calls = made-then h.made k.made (k.failed ∷ []) a.device b.device c.device h.calls k.calls;
  stopped = λ e.
      let n : ℕ = length (e ++ (h.made ++ k.made)) + 1 in
      let whole = lengths e h.made k.made in
      let P : List DeviceCall → Type 0 = λ calls. v.tried (length calls + 1) (run_behind (e ++ h.made) b) ≡ Err (run_behind (calls ++ k.failed ∷ []) c) in
      ap (λ (t : Result CacheRun CacheRun). t >>= v.tried n) (h.tried n e (omega (arith, whole))) ∙ subst P (lists e h.made k.made) (k.stopped (e ++ h.made));
}

-- memory is wanting behind a way whose calls are all of them
pub runs-out : (w : Way) (a b : Moment) → Completes w a b → RunsOut w a b
runs-out w a b h = record {
  made = h.made;
  later = [];
  calls = h.calls;
  front = λ e. ap (λ (run : CacheRun). run.calls) (h.clear e) ∙ sym (append-nil (e ++ h.made));
}

-- the same way, told otherwise
pub record Alike (w v : Way) (old : Moment) : Type 0 where
  pub clear : (e : List DeviceCall) → w.clear (run_behind e old) ≡ v.clear (run_behind e old)
  pub tried : (n : ℕ) (e : List DeviceCall) → w.tried n (run_behind e old) ≡ v.tried n (run_behind e old)

pub completes-as : (w v : Way) (a b : Moment) → Alike w v a → Completes v a b → Completes w a b
completes-as w v a b same h = record {
  made = h.made;
  calls = h.calls;
  clear = λ e. same.clear e ∙ h.clear e;
  tried = λ n e low. same.tried n e ∙ h.tried n e low;
}

pub stops-as : (w v : Way) (a b : Moment) → Alike w v a → StopsAt v a b → StopsAt w a b
stops-as w v a b same h = record {
  made = h.made;
  failed = h.failed;
  calls = h.calls;
  stopped = λ e. same.tried (length (e ++ h.made) + 1) e ∙ h.stopped e;
}

pub out-as : (w v : Way) (a b : Moment) → Alike w v a → RunsOut v a b → RunsOut w a b
out-as w v a b same h = record {
  made = h.made;
  later = h.later;
  calls = h.calls;
  front = λ e. ap (λ (run : CacheRun). run.calls) (same.clear e) ∙ h.front e;
}

-- nothing was done yet
pub rests-all : (w v : Way) (old : Moment) → Alike w v old → Rests w old v old
rests-all w v old same = record { completes = λ new h. completes-as w v old new same h; stops = λ new h. stops-as w v old new same h }

-- the rest, told otherwise
pub rests-as : (w rest v : Way) (old now : Moment) → Alike rest v now → Rests w old rest now → Rests w old v now
rests-as w rest v old now same left = record {
  completes = λ new h. left.completes new (completes-as rest v now new same h);
  stops = λ new h. left.stops new (stops-as rest v now new same h);
}

-- one way more was gone of the rest
pub rests-then : (w u v : Way) (old now next : Moment) → Rests w old (then_way u v) now → Completes u now next → Rests w old v next
rests-then w u v old now next left done = record {
  completes = λ new h. left.completes new (completes-then u v now next new done h);
  stops = λ new h. left.stops new (stops-then u v now next new done h);
}
