-- All sessions run out and leave, by number, and the end is taken.
use Rattle.std.proofs.Common.{◌≡◌, ℕ, ◌+◌, ◌<◌, Some, None, List, [], ◌∷◌, ◌++◌, drop, take, length, map, true, refl, sym, ap, ap₂, ◌∙◌, subst, arith, append_assoc}
use Rattle.std.proofs.Math.Seq.{take-append_seam}
use Rattle.vfs_base.specs.declared.entry.Entry.{Entry}
use Rattle.vfs_base.specs.declared.entry.Who.TheVariants as who
use Rattle.vfs_model.specs.ScriptRun.{sessions}
use Rattle.vfs_model.specs.Turns.{Leaves, RunOut, Steps, Task}
use Rattle.script_stage.proofs.Ending.{begins-leaving, from_here}
use Rattle.script_stage.proofs.Leading.{each-more, each-stays, leads-all, leads-on, leads-stop, sessions-at}
use Rattle.script_stage.specs.Scenes.{GoesOn, Scene, Script, TellsMore, entries_before}
use Rattle.script_stage.specs.Sessions.{is_through}
use Rattle.script_stage.specs.Standing.{Breaks, ClosesAt, Does, EachUpTo, IsIdle, IsThrough, Leads, LeavesAt, OthersStay, StandsAt, Stops, StopsAt, closing_tasks, leaving_tasks}
use Rattle.script_stage.specs.declared.phase.Phase.TheVariants as phase
use Rattle.script_stage.specs.declared.stage_session.StageSession.{StageSession}

-- pending commands are run out up to this place
abbrev pub RanUpTo : Scene → Scene → ℕ → Type 0
RanUpTo now mid place = Leads StandsAt now mid (map RunOut sessions) (map RunOut (drop place sessions)) × EachUpTo place (IsIdle mid.sessions)

-- sessions have left up to this place
abbrev pub LeftUpTo : Scene → Scene → ℕ → Type 0
LeftUpTo now mid place =
    Leads LeavesAt now mid (map Leaves sessions) (map Leaves (drop place sessions)) × EachUpTo 8 (IsIdle mid.sessions) × EachUpTo place (IsThrough mid.sessions)

pub run_none : (now : Scene) → RanUpTo now now 0
run_none now = (λ script tasks handed at. at, λ k n within. absurd (omega (arith, n.0, within)))

pub run_more : (now mid new : Scene) (place k : ℕ) → place < 8 → k ≡ place + 1 → RanUpTo now mid place → Does mid new (RunOut k ∷ []) →
    IsIdle new.sessions k → OthersStay mid.sessions new.sessions k → RanUpTo now new (place + 1)
run_more now mid new place k h e ran does idle others = (
  leads-on StandsAt now mid new (map RunOut sessions) (map RunOut (drop place sessions)) (map RunOut (drop (place + 1) sessions)) (RunOut (place + 1))
      (sessions-at RunOut place h) ran.0 (subst (λ n. Does mid new (RunOut n ∷ [])) e does),
  each-more (λ p. p.phase ≡ phase.Idle) mid.sessions new.sessions place (subst (λ n. OthersStay mid.sessions new.sessions n) e others)
      (subst (λ n. IsIdle new.sessions n) e idle) ran.1,
)

pub run_stop : (now mid new : Scene) (place k : ℕ) → place < 8 → k ≡ place + 1 → RanUpTo now mid place → Breaks mid new (RunOut k ∷ []) → Breaks now new (map RunOut sessions)
run_stop now mid new place k h e ran breaks =
    leads-stop StandsAt now mid new (map RunOut sessions) (map RunOut (drop place sessions)) (map RunOut (drop (place + 1) sessions)) (RunOut (place + 1))
    (sessions-at RunOut place h) ran.0 (subst (λ n. Breaks mid new (RunOut n ∷ [])) e breaks)

pub run_whole : (now mid : Scene) (place : ℕ) → place ≡ 8 → RanUpTo now mid place → Does now mid (map RunOut sessions) × EachUpTo 8 (IsIdle mid.sessions)
run_whole now mid place e ran = (
  leads-all StandsAt now mid (map RunOut sessions) (map RunOut (drop place sessions)) (ap (λ n. map RunOut (drop n sessions)) e) ran.0,
  subst (λ n. EachUpTo n (IsIdle mid.sessions)) e ran.1,
)

pub leave_none : (now : Scene) → EachUpTo 8 (IsIdle now.sessions) → LeftUpTo now now 0
leave_none now idle = (λ script tasks handed at. at, idle, λ k n within. absurd (omega (arith, n.0, within)))

pub leave_more : (now mid new : Scene) (place k : ℕ) → place < 8 → k ≡ place + 1 → LeftUpTo now mid place → Leads LeavesAt mid new (Leaves k ∷ []) [] →
    IsThrough new.sessions k → IsIdle new.sessions k → OthersStay mid.sessions new.sessions k → LeftUpTo now new (place + 1)
leave_more now mid new place k h e left does through idle others = (
  leads-on LeavesAt now mid new (map Leaves sessions) (map Leaves (drop place sessions)) (map Leaves (drop (place + 1) sessions)) (Leaves (place + 1))
      (sessions-at Leaves place h) left.0 (subst (λ n. Leads LeavesAt mid new (Leaves n ∷ []) []) e does),
  each-stays (λ p. p.phase ≡ phase.Idle) mid.sessions new.sessions k 8 others idle left.1,
  each-more (λ p. is_through p ≡ true) mid.sessions new.sessions place (subst (λ n. OthersStay mid.sessions new.sessions n) e others)
      (subst (λ n. IsThrough new.sessions n) e through) left.2,
)

pub leave_stop : (now mid new : Scene) (place k : ℕ) → place < 8 → k ≡ place + 1 → LeftUpTo now mid place → Stops LeavesAt mid new (Leaves k ∷ []) →
    Stops LeavesAt now new (map Leaves sessions)
leave_stop now mid new place k h e left stops =
    leads-stop LeavesAt now mid new (map Leaves sessions) (map Leaves (drop place sessions)) (map Leaves (drop (place + 1) sessions)) (Leaves (place + 1))
    (sessions-at Leaves place h) left.0 (subst (λ n. Stops LeavesAt mid new (Leaves n ∷ [])) e stops)

pub leave_whole : (now mid : Scene) (place : ℕ) → place ≡ 8 → LeftUpTo now mid place → Leads LeavesAt now mid (map Leaves sessions) [] × EachUpTo 8 (IsThrough mid.sessions)
leave_whole now mid place e left = (
  leads-all LeavesAt now mid (map Leaves sessions) (map Leaves (drop place sessions)) (ap (λ n. map Leaves (drop n sessions)) e) left.0,
  subst (λ n. EachUpTo n (IsThrough mid.sessions)) e left.2,
)

-- the session that runs out or leaves now has nothing pending
pub idle_of : (all : List StageSession) (place k : ℕ) → place < 8 → k ≡ place + 1 → EachUpTo 8 (IsIdle all) → IsIdle all k
idle_of all place k h e idle = idle k (omega (arith, h, e), omega (arith, h, e)) (omega (arith, h, e))

-- the sessions begin to leave
pub leaves_from : (a new : Scene) → EachUpTo 8 (IsIdle a.sessions) → new ≡ from_here a →
    (script : Script) (handed : List ℕ) → StandsAt a script leaving_tasks handed → LeavesAt new script leaving_tasks handed
leaves_from a new idle is script handed at =
    subst (λ x. LeavesAt x script leaving_tasks handed) (sym is) (begins-leaving a script leaving_tasks handed (λ k n. idle k n n.1) (λ k. refl) at)

-- from the scene at which all commands are run out to the one at which the sessions begin to leave
abbrev pub BeginsLeaving : Scene → Scene → Type 0
BeginsLeaving a b = (script : Script) (handed : List ℕ) → StandsAt a script leaving_tasks handed → LeavesAt b script leaving_tasks handed

pub close_done : (now a b c new : Scene) → Does now a (map RunOut sessions) → BeginsLeaving a b → Leads LeavesAt b c (map Leaves sessions) [] →
    ((script : Script) (handed : List ℕ) → LeavesAt c script (Steps who.End ∷ []) handed → ClosesAt new script handed) →
    (script : Script) (handed : List ℕ) → StandsAt now script closing_tasks handed → ClosesAt new script handed
close_done now a b c new runs begins leaves ends script handed at =
    ends script handed (leaves script (Steps who.End ∷ []) handed (begins script handed (runs script leaving_tasks handed at)))

pub close_unrun : (now a : Scene) → Breaks now a (map RunOut sessions) →
    (script : Script) (handed : List ℕ) → StandsAt now script closing_tasks handed → StopsAt a script handed
close_unrun now a breaks script handed at = breaks script leaving_tasks handed at

pub close_unleft : (now a b c : Scene) → Does now a (map RunOut sessions) → BeginsLeaving a b → Stops LeavesAt b c (map Leaves sessions) →
    (script : Script) (handed : List ℕ) → StandsAt now script closing_tasks handed → StopsAt c script handed
close_unleft now a b c runs begins stops script handed at =
    stops script (Steps who.End ∷ []) handed (begins script handed (runs script leaving_tasks handed at))

pub close_unended : (now a b c new : Scene) → Does now a (map RunOut sessions) → BeginsLeaving a b → Leads LeavesAt b c (map Leaves sessions) [] → new ≡ c →
    (script : Script) (handed : List ℕ) → StandsAt now script closing_tasks handed → StopsAt new script handed
close_unended now a b c new runs begins leaves e script handed at =
    subst (λ s. StopsAt s script handed) (sym e) (leaves script (Steps who.End ∷ []) handed (begins script handed (runs script leaving_tasks handed at))).stops

-- the entries so far, where the sessions have begun to leave behind some of them
told-front : (now new : Scene) (front later more : List Entry) (count : ℕ) → new.leaves_at ≡ Some count → count ≡ length front → front ≡ now.schedule ++ later →
    new.schedule ≡ front ++ more → TellsMore now new
told-front now new front later more count leaves = λ e f g. record {
  later = later ++ more;
  schedule = g ∙ ap (λ l. l ++ more) f ∙ append_assoc now.schedule later more;
  more = later;
  told = ap (λ x. entries_before x new.schedule) leaves ∙ ap₂ take e g ∙ take-append_seam front more ∙ f;
}

pub tells_unrun : (now new : Scene) → now.leaves_at ≡ None → GoesOn now new → TellsMore now new
tells_unrun now new none on = record {
  later = on.later;
  schedule = on.schedule;
  more = on.later;
  told = ap (λ x. entries_before x new.schedule) (on.leaves_at ∙ none) ∙ on.schedule;
}

pub tells_behind : (now a b new : Scene) → GoesOn now a → b.schedule ≡ a.schedule → b.leaves_at ≡ Some (length a.schedule) → GoesOn b new → TellsMore now new
tells_behind now a b new first same leaves second =
    told-front now new a.schedule first.later second.later (length a.schedule) (second.leaves_at ∙ leaves) refl first.schedule
    (second.schedule ∙ ap (λ l. l ++ second.later) same)
