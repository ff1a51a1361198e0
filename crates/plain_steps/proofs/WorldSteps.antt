-- The steps of the world that sessions ask, by what the namespace answers.
use Rattle.std.proofs.Common.{◌≡◌, ℕ, refl, ap, sym, ◌∙◌}
use Rattle.std.specs.Prelude.{Bool, true, false, ◌||◌, is_some, None, Result, Ok, Err}
use Rattle.vfs_base.specs.declared.entry.Mark.TheVariants as mark
use Rattle.vfs_base.specs.declared.entry.Who.{Who}
use Rattle.vfs_base.specs.declared.entry.Who.TheVariants as who
use Rattle.vfs_base.specs.declared.errno.Errno.{Errno}
use Rattle.vfs_base.specs.declared.errno.Errno.TheVariants as errno
use Rattle.vfs_base.specs.declared.reply.Reply.TheVariants as reply
use Rattle.vfs_base.specs.declared.step.Step.{Step}
use Rattle.vfs_base.specs.declared.step.Step.TheVariants as step
use Rattle.vfs_model.specs.NamespaceOutcome.{NamespaceOutcome, refused, settled}
use Rattle.vfs_model.specs.NamespaceStep.{is_shutdown, namespace_answer, namespace_step, shutdown_step, under_mark}
use Rattle.vfs_model.specs.StepForms.{MayTake}
use Rattle.vfs_model.specs.World.{WorldOutcome, namespace_part, step_row}
use Rattle.vfs_model.specs.declared.namespace.Namespace.{Namespace}
use Rattle.vfs_model.specs.declared.world.WorldState.{WorldState}
use Rattle.vfs_base.specs.declared.entry.Mark.{Mark}
use Rattle.plain_nodes.specs.WorldAnswer.{leaving, with_rows, world_answer}

-- but for Shutdown, the mark is looked at behind the answer
marked : (n : Namespace) (k : ℕ) (asked : Step) (m : Mark) → is_shutdown asked ≡ false →
    namespace_step n k asked m ≡ under_mark n (namespace_answer n k asked) m
unfolding namespace_step
marked n k step.Shutdown m e = absurd (cc (e))
marked n k _ m e = refl

-- a refusal leaves the world as it is
stays : (w : WorldState) (errno : Errno) (asked : Step) → namespace_part w (refused w.namespace errno) asked ≡ leaving w (reply.Refused errno)
stays w errno (step.Mkfs name) = refl
stays w errno _ = refl

outcome_or : WorldOutcome → Result WorldOutcome Errno → WorldOutcome
outcome_or other (Ok outcome) = outcome
outcome_or other (Err errno) = other

settles : (w : WorldState) (asked : Step) (answer : Result NamespaceOutcome Errno) (outcome : WorldOutcome) →
    with_rows w asked answer ≡ Ok outcome → namespace_part w (settled w.namespace answer) asked ≡ outcome
unfolding outcome_or
settles w asked (Ok told) outcome e = ap (outcome_or (namespace_part w told asked)) e
settles w asked (Err errno) outcome e = absurd (cc (e))

refuses : (w : WorldState) (asked : Step) (answer : Result NamespaceOutcome Errno) (errno : Errno) →
    with_rows w asked answer ≡ Err errno → answer ≡ Err errno
refuses w asked (Ok told) errno e = absurd (cc (e))
refuses w asked (Err other) errno e = cc (e)

pub clear_done : (w : WorldState) (k : ℕ) (asked : Step) (outcome : WorldOutcome) → is_shutdown asked ≡ false →
    world_answer w k asked ≡ Ok outcome → namespace_part w (namespace_step w.namespace k asked mark.Clear) asked ≡ outcome
clear_done w k asked outcome s e =
    ap (λ told. namespace_part w told asked) (marked w.namespace k asked mark.Clear s)
    ∙ settles w asked (namespace_answer w.namespace k asked) outcome e

pub clear_refused : (w : WorldState) (k : ℕ) (asked : Step) (errno : Errno) → is_shutdown asked ≡ false →
    world_answer w k asked ≡ Err errno →
    namespace_part w (namespace_step w.namespace k asked mark.Clear) asked ≡ leaving w (reply.Refused errno)
clear_refused w k asked errno s e =
    ap (λ told. namespace_part w told asked) (marked w.namespace k asked mark.Clear s)
    ∙ ap (λ answer. namespace_part w (settled w.namespace answer) asked) (refuses w asked (namespace_answer w.namespace k asked) errno e)
    ∙ stays w errno asked

pub fault_refused : (w : WorldState) (k moved : ℕ) (asked : Step) → is_shutdown asked ≡ false →
    namespace_part w (namespace_step w.namespace k asked (mark.Fault moved)) asked ≡ leaving w (reply.Refused errno.EIO)
fault_refused w k moved asked s =
    ap (λ told. namespace_part w told asked) (marked w.namespace k asked (mark.Fault moved) s) ∙ stays w errno.EIO asked

pub want_refused : (w : WorldState) (k moved : ℕ) (asked : Step) → is_shutdown asked ≡ false →
    namespace_part w (namespace_step w.namespace k asked (mark.NoMem moved)) asked ≡ leaving w (reply.Refused errno.ENOMEM)
want_refused w k moved asked s =
    ap (λ told. namespace_part w told asked) (marked w.namespace k asked (mark.NoMem moved) s) ∙ stays w errno.ENOMEM asked

-- whoever takes a step of the namespace, but for Shutdown, is a session
abbrev pub is_session : Who → Bool
is_session (who.Session k) = true
is_session (who.Flush row) = false
is_session (who.Reclaim row) = false
is_session who.End = false

-- a step of the namespace is not taken by others, but for Shutdown
taken_by_session : (asked : Step) → (is_some (step_row asked) || is_shutdown asked) ≡ true → step_row asked ≡ None → is_shutdown asked ≡ false → true ≡ false
taken_by_session asked e n s = sym e ∙ (ap (λ row. is_some row || is_shutdown asked) n ∙ s)

pub asked_by_session : (asker : Who) (asked : Step) → MayTake asker asked → step_row asked ≡ None → is_shutdown asked ≡ false → is_session asker ≡ true
asked_by_session (who.Session k) asked e n s = refl
asked_by_session (who.Flush row) asked e n s = absurd (cc (taken_by_session asked e n s))
asked_by_session (who.Reclaim row) asked e n s = absurd (cc (taken_by_session asked e n s))
asked_by_session who.End asked e n s = absurd (cc (taken_by_session asked e n s))

-- at the end it is Shutdown that is asked, whoever asks
pub shuts : (w : WorldState) (k : ℕ) (asked : Step) (m : Mark) → is_shutdown asked ≡ true →
    namespace_part w (namespace_step w.namespace k asked m) asked ≡ namespace_part w (shutdown_step w.namespace m) step.Shutdown
unfolding namespace_step
shuts w k step.Shutdown m e = refl
shuts w k _ m e = absurd (cc (e))
