use Rattle.std.proofs.Common.{◌≡◌, ℕ, Bool, true, false, List, ◌∷◌, [], map, sym, ap, ◌∙◌, subst}
use Rattle.std.specs.Prelude.{OnErr, OnOk}
use Rattle.vfs_base.specs.declared.deck.Act.{Act}
use Rattle.vfs_base.specs.declared.deck.Act.TheVariants as act
use Rattle.vfs_model.specs.Turns.{Posts, RunOut, Steps, act_tasks}
use Rattle.script_stage.proofs.stage.Stage.play.Goals as goal
use Rattle.script_stage.specs.Standing.{Breaks, Does}

waits : (a : Act) (k : ℕ) (text line : List ℕ) (go : Bool) → a ≡ act.Post k text go → line ≡ text → go ≡ true →
    RunOut k ∷ Posts k line ∷ RunOut k ∷ [] ≡ act_tasks a
waits a k text line go is same e =
    ap (λ l. RunOut k ∷ Posts k l ∷ RunOut k ∷ []) same ∙ ap (λ b. act_tasks (act.Post k text b)) (sym e) ∙ ap act_tasks (sym is)

leaves_pending : (a : Act) (k : ℕ) (text line : List ℕ) (go : Bool) → a ≡ act.Post k text go → line ≡ text → go ≡ false →
    RunOut k ∷ Posts k line ∷ [] ≡ act_tasks a
leaves_pending a k text line go is same e =
    ap (λ l. RunOut k ∷ Posts k l ∷ []) same ∙ ap (λ b. act_tasks (act.Post k text b)) (sym e) ∙ ap act_tasks (sym is)

pub returns-in-Post-default-default-true-clause-err : goal.returns-in-Post-default-default-true-clause-err
returns-in-Post-default-default-true-clause-err g c =
    let go : c.in-Post-default-default-true.go ≡ true = rw (← c.in-Post-default-default-true.go-is) c.in-Post-default-default-true.go-test in
    subst (λ tasks. OnErr c.run_line.result (Breaks c.args.self.now c.run_line.new.self tasks))
    (waits c.args.act.now c.in-Post-default-default-true.k c.in-Post-default-default-true.text c.as_slice.result.now c.in-Post-default-default-true.go
    c.in-Post-default-default-true.is c.as_slice.ensures go) c.run_line.ensures.err

pub returns-in-Post-default-default-false-clause-err : goal.returns-in-Post-default-default-false-clause-err
returns-in-Post-default-default-false-clause-err g c =
    let go : c.in-Post-default-default-false.go ≡ false = rw (← c.in-Post-default-default-false.go-is) c.in-Post-default-default-false.go-test in
    subst (λ tasks. OnErr c.begin_line.result (Breaks c.args.self.now c.begin_line.new.self tasks))
    (leaves_pending c.args.act.now c.in-Post-default-default-false.k c.in-Post-default-default-false.text c.as_slice-in-Post-default-default-false.result.now
    c.in-Post-default-default-false.go c.in-Post-default-default-false.is c.as_slice-in-Post-default-default-false.ensures go) c.begin_line.ensures.err

pub returns-in-Events-clause-ok : goal.returns-in-Events-clause-ok
returns-in-Events-clause-ok g c =
    subst (λ tasks. OnOk c.play_events.result (Does c.args.self.now c.play_events.new.self tasks))
    (ap (map Steps) c.as_slice-in-Events.ensures ∙ ap act_tasks (sym c.in-Events.is)) c.play_events.ensures.ok

pub returns-in-Events-clause-err : goal.returns-in-Events-clause-err
returns-in-Events-clause-err g c =
    subst (λ tasks. OnErr c.play_events.result (Breaks c.args.self.now c.play_events.new.self tasks))
    (ap (map Steps) c.as_slice-in-Events.ensures ∙ ap act_tasks (sym c.in-Events.is)) c.play_events.ensures.err

pub returns-in-Post-default-default-true-clause-ok : goal.returns-in-Post-default-default-true-clause-ok
returns-in-Post-default-default-true-clause-ok g c =
    let go : c.in-Post-default-default-true.go ≡ true = rw (← c.in-Post-default-default-true.go-is) c.in-Post-default-default-true.go-test in
    subst (λ tasks. OnOk c.run_line.result (Does c.args.self.now c.run_line.new.self tasks))
    (waits c.args.act.now c.in-Post-default-default-true.k c.in-Post-default-default-true.text c.as_slice.result.now c.in-Post-default-default-true.go
    c.in-Post-default-default-true.is c.as_slice.ensures go) c.run_line.ensures.ok

pub returns-in-Post-default-default-false-clause-ok : goal.returns-in-Post-default-default-false-clause-ok
returns-in-Post-default-default-false-clause-ok g c =
    let go : c.in-Post-default-default-false.go ≡ false = rw (← c.in-Post-default-default-false.go-is) c.in-Post-default-default-false.go-test in
    subst (λ tasks. OnOk c.begin_line.result (Does c.args.self.now c.begin_line.new.self tasks))
    (leaves_pending c.args.act.now c.in-Post-default-default-false.k c.in-Post-default-default-false.text c.as_slice-in-Post-default-default-false.result.now
    c.in-Post-default-default-false.go c.in-Post-default-default-false.is c.as_slice-in-Post-default-default-false.ensures go) c.begin_line.ensures.ok
