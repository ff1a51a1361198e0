-- A step of the namespace keeps its sizes, and tells a short folder at most.
use Rattle.std.proofs.Common.{◌≡◌, ℕ, List, [], ◌∷◌, Result, Ok, Err, IfOk, refl, ap, subst, sym, ◌∙◌}
use Rattle.std.specs.Prelude.{Bool, true, false, OnErr, fold, if◌then◌else◌}
use Rattle.vfs_base.specs.declared.entry.Mark.{Mark}
use Rattle.vfs_base.specs.declared.no_memory.NoMemory.{NoMemory}
use Rattle.vfs_base.specs.declared.reply.Reply.{Reply}
use Rattle.vfs_base.specs.declared.step.Step.{Step}
use Rattle.vfs_base.specs.declared.step.Step.TheVariants as step
use Rattle.vfs_model.proofs.SizedSteps.{step-sized, tells-short}
use Rattle.vfs_model.specs.Homes.{change_row, with_empty_cells}
use Rattle.vfs_model.specs.FileLife.{volume_named}
use Rattle.vfs_model.specs.NamespaceOutcome.{NamespaceOutcome}
use Rattle.vfs_model.specs.NamespaceStep.{namespace_step}
use Rattle.vfs_model.specs.Sizes.{IsSized, tells_folder}
use Rattle.vfs_model.specs.StepForms.{TellsFolder}
use Rattle.vfs_model.specs.World.{WorldOutcome, after_format, is_done, namespace_part}
use Rattle.vfs_model.specs.declared.namespace.RowChange.{RowChange}
use Rattle.vfs_model.specs.declared.namespace.RowChange.TheVariants as change
use Rattle.vfs_model.specs.declared.world.WorldState.{WorldState}
use Rattle.plain_nodes.specs.WorldAnswer.{leaving}

changed_namespace : (changes : List RowChange) (w : WorldState) → (fold change_row w changes).namespace ≡ w.namespace
changed_namespace [] w = refl
changed_namespace (change.Bind bound begins ∷ changes) w = changed_namespace changes (change_row w (change.Bind bound begins))
changed_namespace (change.Free freed ending ∷ changes) w = changed_namespace changes (change_row w (change.Free freed ending))

formatted : (w : WorldState) (name : List ℕ) (test : Bool) →
    (if test then record w { homes = with_empty_cells w.homes (volume_named w.namespace name) } else w).namespace ≡ w.namespace
formatted w name true = refl
formatted w name false = refl

formatted_namespace : (w : WorldState) (asked : Step) (answer : Reply) → (after_format w asked answer).namespace ≡ w.namespace
formatted_namespace w (step.Mkfs name) answer = formatted w name (is_done answer)
formatted_namespace w _ answer = refl

-- the namespace that a step of it leaves
part_namespace : (w : WorldState) (outcome : NamespaceOutcome) (asked : Step) → (namespace_part w outcome asked).next.namespace ≡ outcome.next
part_namespace w outcome asked =
    formatted_namespace (fold change_row (record w { namespace = outcome.next }) outcome.changes) asked outcome.reply
    ∙ changed_namespace outcome.changes (record w { namespace = outcome.next })

-- a step that code took, or for which it got no memory
module _ (w new : WorldState) (k : ℕ) (asked : Step) (m : Mark) (s : IsSized w.namespace) where
  abbrev Took : Reply → Type 0
  Took answer = namespace_part w (namespace_step w.namespace k asked m) asked ≡ leaving new answer

  pub sized_after : (taken : Result Reply NoMemory) → IfOk taken Took → OnErr taken (new ≡ w) → IsSized new.namespace
  sized_after (Ok answer) took err =
      let next : (namespace_step w.namespace k asked m).next ≡ new.namespace =
      sym (part_namespace w (namespace_step w.namespace k asked m) asked) ∙ ap (λ (outcome : WorldOutcome). outcome.next.namespace) took in
      subst IsSized next (step-sized w.namespace k asked m s)
  sized_after (Err fault) took err = subst (λ (v : WorldState). IsSized v.namespace) (sym err) s

  pub folder_after : (taken : Result Reply NoMemory) → IfOk taken Took → IfOk taken TellsFolder
  folder_after (Ok answer) took =
      subst TellsFolder (ap (λ (outcome : WorldOutcome). outcome.reply) took) (tells-short w.namespace k asked m (tells_folder asked) refl s).short
  folder_after (Err fault) took = tt
