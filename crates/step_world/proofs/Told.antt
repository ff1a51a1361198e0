-- The steps of a world that tells all and has no device.
use Rattle.std.proofs.Common.{◌≡◌, ℕ, Bool, true, false, ◌&&◌, Option, Some, None, refl, sym, ap, ◌∙◌, subst, arith}
use Rattle.vfs_base.specs.declared.entry.Mark.{Mark}
use Rattle.vfs_base.specs.declared.entry.Who.{Who}
use Rattle.vfs_base.specs.declared.reply.Reply.{Reply}
use Rattle.vfs_base.specs.declared.reply.Reply.TheVariants as reply
use Rattle.vfs_base.specs.declared.step.Step.{Step}
use Rattle.vfs_base.specs.declared.step.Step.TheVariants as step
use Rattle.vfs_model.proofs.Rests.{changed-namespace}
use Rattle.vfs_model.specs.Homes.{change_row}
use Rattle.vfs_model.specs.Leaving.{is_starved}
use Rattle.vfs_model.specs.NamespaceOutcome.{NamespaceOutcome}
use Rattle.vfs_model.specs.NamespaceStep.{is_shutdown, namespace_step}
use Rattle.vfs_model.specs.StepForms.{TellsFolder}
use Rattle.vfs_model.specs.Tally.{is_fault, needs_no_memory}
use Rattle.vfs_model.specs.World.{FitsStep, after_format, namespace_part, session_of, step_on, step_row, world_step}
use Rattle.vfs_model.specs.declared.world.WorldState.{WorldState}
use Rattle.std.specs.Prelude.{fold}
use Rattle.step_world.specs.Taking.{Takes, TakesNames, IsLeft}
use Rattle.step_world.specs.WorldView.{view_of}

format-names : (w : WorldState) (asked : Step) (answer : Reply) → (after_format w asked answer).namespace ≡ w.namespace
format-names w (step.Mkfs name) reply.Done = refl
format-names w (step.Mkfs name) _ = refl
format-names w _ answer = refl

-- a step of the namespace leaves the names of its outcome, and a step of a file leaves them as they were
module _ (w : WorldState) (asker : Who) (asked : Step) (m : Mark) where
  part-names : (outcome : NamespaceOutcome) → (namespace_part w outcome asked).next.namespace ≡ outcome.next
  part-names outcome =
      let begun : WorldState = record w { namespace = outcome.next } in
      format-names (fold change_row begun outcome.changes) asked outcome.reply ∙ changed-namespace outcome.changes begun

  names-on : (row : Option ℕ) → TakesNames row w.namespace (step_on w (session_of asker) asked m row).next.namespace (session_of asker) asked
      ((step_on w (session_of asker) asked m row).reply, m)
  names-on None = (refl, sym (part-names (namespace_step w.namespace (session_of asker) asked m)))
  names-on (Some row) = refl

-- A step without a device's fault, in which memory was wanting only where the step needs some.
pub told_takes : (w next : WorldState) (asker : Who) (asked : Step) (answer : Reply) (m : Mark) → FitsStep w asker asked m →
    world_step w asker asked m ≡ record { reply = answer; next = next } → is_fault m ≡ false →
    (needs_no_memory w.namespace (session_of asker) asked ≡ true → is_starved m ≡ false) → TellsFolder answer →
    Takes (view_of w) (view_of next) asker asked (answer, m)
unfolding world_step
told_takes w next asker asked answer m fits is = λ clear sure folder. record {
  names = subst (λ o. TakesNames (step_row asked) w.namespace o.next.namespace (session_of asker) asked (o.reply, m)) is (names-on w asker asked m (step_row asked));
  world = record {
    fits = fits;
    reply = ap (λ o. o.reply) is;
    next = left-same asked clear (ap (λ o. o.next) is);
  };
  cause = λ fault. absurd (cc);
  rising = record { volumes = λ volume. omega arith; chars = λ device. omega arith };
  sure = sure;
  folder = folder;
}
  where
    left-by : (b c : Bool) (defined new : WorldState) → c ≡ false → defined ≡ new → IsLeft (b && c) defined new
    left-by true false defined new e same = same
    left-by false c defined new e same = same
    left-by true true defined new e same = absurd (cc)

    left-same : (asked : Step) → is_fault m ≡ false → {defined : WorldState} → defined ≡ next → IsLeft (is_shutdown asked && is_fault m) defined next
    left-same asked clear {defined} same = left-by (is_shutdown asked) (is_fault m) defined next clear same
