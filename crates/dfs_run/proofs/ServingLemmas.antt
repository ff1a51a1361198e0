-- Serving lines goes on from where it came to.
use Rattle.std.proofs.Common.{◌≡◌, ℕ, zero, suc, ◌+◌, ◌-◌, ◌≤◌, Bool, true, false, Option, Some, None, List, [], ◌∷◌, ◌++◌, length, take, map, filter, refl, sym, ap, ◌∙◌, subst, append_assoc, append-nil, arith, length-append}
use Rattle.std.specs.Prelude.{unwrap_or}
use Rattle.std.specs.List.{concat}
use Rattle.std.proofs.lemmas.List.Folds.{concat-append}
use Rattle.std.specs.Io.KnownBytes.{Appends}
use Rattle.std.proofs.KnownBytes.{Appends-trans, Appends-nil}
use Rattle.std.proofs.Math.Seq.{take-append-add}
use Rattle.vfs_model.specs.Deck.{shell_deck}
use Rattle.vfs_model.specs.Script.{first_bad_from, is_bad_line, is_ended, line_text, raw_lines}
use Rattle.vfs_model.specs.ScriptRun.{run_of}
use Rattle.dfs_input.specs.Known.{IsInput}
use Rattle.dfs_run.proofs.StandingLemmas.{here-bound}
use Rattle.dfs_run.specs.Serving.{AreWhole, ComeFirst, Moment, Posts, Serves, ShowsUpTo}
use Rattle.dfs_run.specs.Standing.{ComesBehind, StandsBehind}
use Rattle.dfs_run.specs.Stopping.{Stops}
use Rattle.dfs_run.specs.declared.line_stop.LineStop.{LineStop}
use Rattle.dfs_run.specs.declared.line_stop.LineStop.TheVariants as stop
use Rattle.script_stage.specs.Scenes.{Scene, Script}

pub map-append : {A B : Type 0} (f : A → B) (a b : List A) → map f (a ++ b) ≡ map f a ++ map f b
map-append f [] b = refl
map-append f (x ∷ a) b = ap (λ l. f x ∷ l) (map-append f a b)

pub length-mapped : (lines : List (List ℕ)) → length (map line_text lines) ≡ length lines
length-mapped [] = refl
length-mapped (line ∷ lines) = ap suc (length-mapped lines)

-- what may be to come, where it isn't told
pub supposed : Option (List ℕ) → List ℕ
supposed known = unwrap_or known []

pub is_supposed : (known : Option (List ℕ)) → IsInput known (supposed known)
unfolding supposed
is_supposed None = tt
is_supposed (Some bytes) = refl

-- lines that come first, and others after them
pub ComeFirst-then : (a b c : Option (List ℕ)) (r s : List (List ℕ)) → ComeFirst a b r → ComeFirst b c s → ComeFirst a c (r ++ s)
ComeFirst-then a b c r s p q = record {
  taken = λ rest known. subst (IsInput a) (sym (joined rest)) (p.taken (concat s ++ rest) (q.taken rest known));
  lines = λ rest known.
      ap raw_lines (joined rest) ∙ p.lines (concat s ++ rest) (q.taken rest known) ∙ ap (λ l. r ++ l) (q.lines rest known) ∙ sym (append_assoc r s (raw_lines rest));
}
  where
    joined : (rest : List ℕ) → concat (r ++ s) ++ rest ≡ concat r ++ (concat s ++ rest)
    joined rest = ap (λ l. l ++ rest) (concat-append r s) ∙ append_assoc (concat r) (concat s) rest

pub AreWhole-append : (r s : List (List ℕ)) → AreWhole r → AreWhole s → AreWhole (r ++ s)
AreWhole-append r s p q rest =
    ap (λ l. filter is_ended (raw_lines (l ++ rest))) (concat-append r s) ∙ ap (λ l. filter is_ended (raw_lines l)) (append_assoc (concat r) (concat s) rest)
    ∙ p (concat s ++ rest) ∙ ap (λ l. r ++ l) (q rest) ∙ sym (append_assoc r s (filter is_ended (raw_lines rest)))

-- lines in the form behind others that are
pub forms-append : (number size more : ℕ) (r s : List (List ℕ)) → more ≡ length r → first_bad_from number size r ≡ None →
    first_bad_from (number + more) (size + length (concat r)) s ≡ None → first_bad_from number size (r ++ s) ≡ None
forms-append number size more [] s e p q =
    subst (λ n. first_bad_from n size s ≡ None) (let f : number + more ≡ number = omega (arith, e) in f)
    (subst (λ n. first_bad_from (number + more) n s ≡ None) (let f : size + 0 ≡ size = omega arith in f) q)
forms-append number size more (raw ∷ r) s e p q = elim (is_bad_line size raw) as (λ b. is_bad_line size raw ≡ b → first_bad_from number size (raw ∷ r ++ s) ≡ None) [
  | true ↦ λ f. let bad : first_bad_from number size (raw ∷ r) ≡ Some number = rw f refl in absurd (cc)
  | false ↦ λ f.
      let p' : first_bad_from (number + 1) (size + length raw) r ≡ None = rw f at p in
      let n : number + more ≡ (number + 1) + length r = omega (arith, e) in
      let m : size + length (raw ++ concat r) ≡ (size + length raw) + length (concat r) = omega (arith, length-append raw (concat r)) in
      let q' : first_bad_from ((number + 1) + length r) ((size + length raw) + length (concat r)) s ≡ None =
      subst (λ k. first_bad_from k ((size + length raw) + length (concat r)) s ≡ None) n (subst (λ k. first_bad_from (number + more) k s ≡ None) m q) in
      rw f (forms-append (number + 1) (size + length raw) (length r) r s refl p' q')
] refl

-- the first line that is bad, behind lines in the form
pub bad-behind : (number size more : ℕ) (r s : List (List ℕ)) → more ≡ length r → first_bad_from number size r ≡ None →
    first_bad_from number size (r ++ s) ≡ first_bad_from (number + more) (size + length (concat r)) s
bad-behind number size more [] s e p =
    ap (λ n. first_bad_from n size s) (let f : number ≡ number + more = omega (arith, e) in f)
    ∙ ap (λ n. first_bad_from (number + more) n s) (let f : size ≡ size + 0 = omega arith in f)
bad-behind number size more (raw ∷ r) s e p = elim (is_bad_line size raw) as (λ b. is_bad_line size raw ≡ b → first_bad_from number size (raw ∷ r ++ s) ≡ first_bad_from (number + more) (size + length (concat (raw ∷ r))) s) [
  | true ↦ λ f. let bad : first_bad_from number size (raw ∷ r) ≡ Some number = rw f refl in absurd (cc)
  | false ↦ λ f.
      let p' : first_bad_from (number + 1) (size + length raw) r ≡ None = rw f at p in
      let n : (number + 1) + length r ≡ number + more = omega (arith, e) in
      let m : (size + length raw) + length (concat r) ≡ size + length (raw ++ concat r) = omega (arith, length-append raw (concat r)) in
      rw f (bad-behind (number + 1) (size + length raw) (length r) r s refl p')
      ∙ ap (λ k. first_bad_from k ((size + length raw) + length (concat r)) s) n ∙ ap (λ k. first_bad_from (number + more) k s) m
] refl

-- lines behind others, in one list
pub lines_joined : (lines r s : List (List ℕ)) → (lines ++ map line_text r) ++ map line_text s ≡ lines ++ map line_text (r ++ s)
lines_joined lines r s =
    append_assoc lines (map line_text r) (map line_text s) ∙ ap (λ l. lines ++ l) (sym (map-append line_text r s))

-- the same lines and the same text in another writing
pub ComesBehind-as : (done : Bool) (stage : Scene) (base : Script) (lines same : List (List ℕ)) (handed text : List ℕ)
    → lines ≡ same → handed ≡ text → ComesBehind done stage base lines handed → ComesBehind done stage base same text
ComesBehind-as done stage base lines same handed text l t p =
    subst (λ text. ComesBehind done stage base same text) t (subst (λ lines. ComesBehind done stage base lines handed) l p)

pub ShowsUpTo-as : (stage : Scene) (base : Script) (lines same : List (List ℕ)) (count n size m : ℕ) → lines ≡ same → count ≡ n → size ≡ m →
    ShowsUpTo stage base lines count size → ShowsUpTo stage base same n m
ShowsUpTo-as stage base lines same count n size m = λ l c s p.
    subst (λ x. ShowsUpTo stage base same n x) s (subst (λ x. ShowsUpTo stage base same x size) c (subst (λ x. ShowsUpTo stage base x count size) l p))

-- one run of lines, and another after it
pub Serves-then : (a b c : Moment) → Serves a b → Serves b c → Serves a c
Serves-then a b c p q = record {
  raws = p.raws ++ q.raws;
  text = p.text ++ q.text;
  number = let e = length-append p.raws q.raws in omega (arith, p.number, q.number);
  size =
      let e = ap length (concat-append p.raws q.raws) in
      let f = length-append (concat p.raws) (concat q.raws) in omega (arith, e, f, p.size, q.size);
  form = forms-append (a.number + 1) a.size (length p.raws) p.raws q.raws refl p.form
      (subst (λ n. first_bad_from n (a.size + length (concat p.raws)) q.raws ≡ None) (let e : b.number + 1 ≡ (a.number + 1) + length p.raws = omega (arith, p.number) in e)
      (subst (λ n. first_bad_from (b.number + 1) n q.raws ≡ None) p.size q.form));
  reads = ComeFirst-then a.ahead b.ahead c.ahead p.raws q.raws p.reads q.reads;
  started = λ h. p.started (q.started h);
  whole = λ h. AreWhole-append p.raws q.raws (p.whole (q.started h)) (q.whole h);
  written = Appends-trans a.written b.written c.written p.text q.text p.written q.written;
  stands = λ base lines handed h.
      ComesBehind-as true c.stage base _ _ _ _ (lines_joined lines p.raws q.raws) (append_assoc handed p.text q.text)
      (q.stands base (lines ++ map line_text p.raws) (handed ++ p.text) (p.stands base lines handed h));
}

-- no line at all
pub Serves-refl : (a : Moment) → Serves a a
Serves-refl a = record {
  raws = [];
  text = [];
  number = omega arith;
  size = omega arith;
  form = refl;
  reads = record { taken = λ rest known. known; lines = λ rest known. refl };
  started = λ h. h;
  whole = λ h rest. refl;
  written = Appends-nil a.written;
  stands = λ base lines handed h. ComesBehind-as true a.stage base _ _ _ _ (sym (append-nil lines)) (sym (append-nil handed)) h;
}

-- fewer lines show no more
fewer-show : (m n : ℕ) (blocks : List (List ℕ)) → m ≤ n → length (concat (take m blocks)) ≤ length (concat (take n blocks))
fewer-show zero n blocks h = omega arith
fewer-show (suc m) zero blocks h = absurd (omega (arith, h))
fewer-show (suc m) (suc n) [] h = omega arith
fewer-show (suc m) (suc n) (block ∷ blocks) h =
    let inner = fewer-show m n blocks (omega (arith, h)) in
    let e = length-append block (concat (take m blocks)) in let f = length-append block (concat (take n blocks)) in omega (arith, inner, e, f)

pub fewer-bound : (stage : Scene) (base : Script) (lines : List (List ℕ)) (m n size : ℕ) → m ≤ n → ShowsUpTo stage base lines n size → ShowsUpTo stage base lines m size
fewer-bound stage base lines m n size h = λ p more s taken.
    let bound = p more s taken in
    let less = fewer-show m n (run_of (shell_deck lines) s 1).blocks h in omega (arith, bound, less)

-- as many lines as were posted, but the last
all-but-last : (lines r s : List (List ℕ)) → length lines + (length (r ++ s) - 1) ≤ length (lines ++ map line_text r) + (length s - 1)
all-but-last lines r s =
    let e = length-append r s in let f = length-append lines (map line_text r) in let g = length-mapped r in omega (arith, e, f, g)

-- lines that were served, and then lines that were posted
pub Posts-after : (a b : Moment) (stage : Scene) (sink : Option (List ℕ)) (done : Bool)
    → Serves a b → Posts b stage sink done → Posts a stage sink done
Posts-after a b stage sink done p q = record {
  raws = p.raws ++ q.raws;
  text = p.text ++ q.text;
  count = length p.text + q.count;
  bytes = concat p.raws ++ q.bytes;
  later = q.later;
  reads = p.reads.taken q.bytes q.reads;
  lines = p.reads.lines q.bytes q.reads ∙ ap (λ l. p.raws ++ l) q.lines ∙ sym (append_assoc p.raws q.raws q.later);
  fits = let e = length-append p.text q.text in omega (arith, q.fits);
  written = subst (Appends a.written sink) (sym (take-append-add p.text q.text q.count))
      (Appends-trans a.written b.written sink p.text (take q.count q.text) p.written q.written);
  comes = λ base lines handed h.
      ComesBehind-as done stage base _ _ _ _ (lines_joined lines p.raws q.raws) (append_assoc handed p.text q.text)
      (q.comes base (lines ++ map line_text p.raws) (handed ++ p.text) (p.stands base lines handed h));
  prompt = λ base lines handed h.
      ShowsUpTo-as stage base _ _ _ _ _ _ (lines_joined lines p.raws q.raws) refl
      (let e = length-append handed p.text in let f : length (handed ++ p.text) + q.count ≡ length handed + (length p.text + q.count) = omega (arith, e) in f)
      (fewer-bound stage base ((lines ++ map line_text p.raws) ++ map line_text q.raws) (length lines + (length (p.raws ++ q.raws) - 1))
      (length (lines ++ map line_text p.raws) + (length q.raws - 1)) (length (handed ++ p.text) + q.count) (all-but-last lines p.raws q.raws)
      (q.prompt base (lines ++ map line_text p.raws) (handed ++ p.text) (p.stands base lines handed h)));
}

-- no line was posted
pub Posts-none : (a : Moment) (stage : Scene) (sink : Option (List ℕ)) (done : Bool) → sink ≡ a.written → stage ≡ a.stage →
    ((base : Script) (lines : List (List ℕ)) (handed : List ℕ) → StandsBehind a.stage base lines handed → ComesBehind done a.stage base lines handed) → Posts a stage sink done
Posts-none a stage sink done w e comes = record {
  raws = [];
  text = [];
  count = 0;
  bytes = supposed a.ahead;
  later = raw_lines (supposed a.ahead);
  reads = is_supposed a.ahead;
  lines = refl;
  fits = omega arith;
  written = subst (λ now. Appends a.written now []) (sym w) (Appends-nil a.written);
  comes = λ base lines handed h.
      ComesBehind-as done stage base _ _ _ _ (sym (append-nil lines)) (sym (append-nil handed)) (subst (λ s. ComesBehind done s base lines handed) (sym e) (comes base lines handed h));
  prompt = λ base lines handed h.
      subst (λ s. ShowsUpTo s base (lines ++ []) (length lines + 0) (length handed + 0)) (sym e)
      (ShowsUpTo-as a.stage base _ _ _ _ _ _ (sym (append-nil lines)) (let n : length lines ≡ length lines + 0 = omega arith in n)
      (let n : length handed ≡ length handed + 0 = omega arith in n) (here-bound a.stage base lines handed h));
}

-- lines that were served are posted, and all of their text was written
pub served_posts : (a b : Moment) (sink : Option (List ℕ)) (stage : Scene) → sink ≡ b.written → stage ≡ b.stage → Serves a b → Posts a stage sink true
served_posts a b sink stage w e p =
    let q = Posts-after a b stage sink true p (Posts-none b stage sink true w e (λ base lines handed h. h)) in q

-- serving stops for the same reason, seen from an earlier moment
pub Stops-after : (a b : Moment) (stage : Scene) (sink left : Option (List ℕ)) (why : LineStop)
    → Serves a b → Stops b stage sink left why → Stops a stage sink left why
Stops-after a b stage sink left stop.NoMemory p q = Posts-after a b stage sink false p q
Stops-after a b stage sink left (stop.BadLine line) p q =
    record { now = q.now; serves = Serves-then a b q.now p q.serves; stage = q.stage; written = q.written; line = q.line; bad = q.bad }
Stops-after a b stage sink left stop.ReadFault p q =
    record { now = q.now; serves = Serves-then a b q.now p q.serves; stage = q.stage; written = q.written; unended = q.unended; breaks = q.breaks }
Stops-after a b stage sink left stop.WriteFault p q = Posts-after a b stage sink true p q
