-- Turns, one longer: their entries, whose they are, and their stamps; and the calls of a pass, one more.
use Rattle.std.proofs.Common.{◌≡◌, ◌≢◌, ℕ, ◌<◌, ◌==◌, Bool, true, false, cond, Some, None, option_to_list, IfSome, List, [], ◌∷◌, ◌++◌, filter, All, AllPairs, sym, refl, ap, ◌∙◌, subst, append-nil, eq-eqb, ne_eqb}
use Rattle.std.proofs.lemmas.List.Elements.{filter-append, All-push}
use Rattle.std.proofs.lemmas.List.Quantifiers.{all_pairs_push}
use Rattle.histories.specs.declared.entry.HistoryEntry.{HistoryEntry}
use Rattle.histories.specs.Turns.{Turn, Call, entries, entries_by, calls_on, StampsRise}
use Rattle.turn_table.specs.Views.{call_of}

pub entries-append : (ts us : List Turn) → entries (ts ++ us) ≡ entries ts ++ entries us
entries-append [] us = refl
entries-append (None ∷ ts) us = entries-append ts us
entries-append (Some e ∷ ts) us = ap (λ (es : List HistoryEntry). e ∷ es) (entries-append ts us)

pub entries-push : (ts : List Turn) (turn : Turn) → entries (ts ++ turn ∷ []) ≡ entries ts ++ option_to_list turn
entries-push ts None = entries-append ts (None ∷ [])
entries-push ts (Some e) = entries-append ts (Some e ∷ [])

pub by-push : (p : ℕ) (ts : List Turn) (turn : Turn) → entries_by p (ts ++ turn ∷ []) ≡ entries_by p ts ++ filter (λ e. e.pass == p) (option_to_list turn)
by-push p ts turn = ap (filter (λ (e : HistoryEntry). e.pass == p)) (entries-push ts turn) ∙ filter-append (λ (e : HistoryEntry). e.pass == p) (entries ts) (option_to_list turn)

-- an entry of another pass is not among this one's
pub by-other : (p : ℕ) (ts : List Turn) (turn : Turn) → IfSome turn (λ e. e.pass ≢ p) → entries_by p (ts ++ turn ∷ []) ≡ entries_by p ts
by-other p ts None ne = by-push p ts None ∙ append-nil (entries_by p ts)
by-other p ts (Some e) ne = by-push p ts (Some e) ∙ (ap (λ (b : Bool). entries_by p ts ++ cond b (e ∷ []) []) (ne_eqb e.pass p ne) ∙ append-nil (entries_by p ts))

-- and one of its own is
pub by-own : (p : ℕ) (ts : List Turn) (turn : Turn) → IfSome turn (λ e. e.pass ≡ p) → entries_by p (ts ++ turn ∷ []) ≡ entries_by p ts ++ option_to_list turn
by-own p ts None is = by-push p ts None
by-own p ts (Some e) is = by-push p ts (Some e) ∙ ap (λ (b : Bool). entries_by p ts ++ cond b (e ∷ []) []) (eq-eqb e.pass p is)

pub on-append : (i : ℕ) (cs ds : List Call) → calls_on i (cs ++ ds) ≡ calls_on i cs ++ calls_on i ds
on-append i [] ds = refl
on-append i (c ∷ cs) ds = go (on-append i cs ds) (c.0 == i)
  where
    go : calls_on i (cs ++ ds) ≡ calls_on i cs ++ calls_on i ds → (b : Bool) → cond b (c.1 ∷ calls_on i (cs ++ ds)) (calls_on i (cs ++ ds)) ≡ cond b (c.1 ∷ calls_on i cs) (calls_on i cs) ++ calls_on i ds
    go rest true = ap (λ (es : List HistoryEntry). c.1 ∷ es) rest
    go rest false = rest

pub on-here : (i : ℕ) (cs : List Call) (turn : Turn) → calls_on i (cs ++ call_of i turn) ≡ calls_on i cs ++ option_to_list turn
on-here i cs None = on-append i cs []
on-here i cs (Some e) = on-append i cs ((i, e) ∷ []) ∙ ap (λ (b : Bool). calls_on i cs ++ cond b (e ∷ []) []) (eq-eqb i i refl)

pub on-other : (i j : ℕ) (cs : List Call) (turn : Turn) → j ≢ i → calls_on i (cs ++ call_of j turn) ≡ calls_on i cs
on-other i j cs None ne = on-append i cs [] ∙ append-nil (calls_on i cs)
on-other i j cs (Some e) ne = on-append i cs ((j, e) ∷ []) ∙ (ap (λ (b : Bool). calls_on i cs ++ cond b (e ∷ []) []) (ne_eqb j i ne) ∙ append-nil (calls_on i cs))

-- stamps rise with one later entry
pub rise-push : (ts : List Turn) (turn : Turn) → StampsRise ts → IfSome turn (λ e. All (λ d. d.stamp < e.stamp) (entries ts)) → StampsRise (ts ++ turn ∷ [])
rise-push ts None r later = let Up : HistoryEntry → HistoryEntry → Type 0 = λ d e. d.stamp < e.stamp in
    subst (AllPairs Up) (sym (entries-push ts None ∙ append-nil (entries ts))) r
rise-push ts (Some e) r later = let Up : HistoryEntry → HistoryEntry → Type 0 = λ d e. d.stamp < e.stamp in
    subst (AllPairs Up) (sym (entries-push ts (Some e))) (all_pairs_push Up (entries ts) e r later)

-- what holds of the entries, and of one more, holds of all
pub entries-more : (P : HistoryEntry → Type 0) (ts : List Turn) (turn : Turn) → All P (entries ts) → IfSome turn P → All P (entries (ts ++ turn ∷ []))
entries-more P ts None all here = subst (All P) (sym (entries-push ts None ∙ append-nil (entries ts))) all
entries-more P ts (Some e) all here = subst (All P) (sym (entries-push ts (Some e))) (All-push P (entries ts) e all here)
