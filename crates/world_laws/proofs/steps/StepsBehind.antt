-- Every step, and every list of steps, goes on behind what devices had at entry.
use Rattle.std.proofs.Common.{◌≡◌, ℕ, ◌-◌, ◌==◌, Bool, true, false, not, Option, Some, None, List, [], ◌∷◌, fold, length, slice_index_or, inl, inr, if◌then◌else◌, refl, sym, ap, subst, ◌∙◌, arith}
use Rattle.std.proofs.lemmas.List.{get_or_past, length-set}
use Rattle.std.specs.Prelude.{nat_le}
use Rattle.vfs_base.specs.declared.entry.Mark.{Mark}
use Rattle.vfs_base.specs.declared.entry.Who.{Who}
use Rattle.vfs_base.specs.declared.kinds.Kind.{Kind}
use Rattle.vfs_base.specs.declared.kinds.Kind.TheVariants as kind
use Rattle.vfs_base.specs.declared.reply.Reply.{Reply}
use Rattle.vfs_base.specs.declared.step.Step.{Step}
use Rattle.vfs_base.specs.declared.step.Step.TheVariants as step
use Rattle.vfs_model.proofs.Rests.{changed-namespace}
use Rattle.vfs_model.specs.Asking.{Asked, run_steps}
use Rattle.vfs_model.specs.Boxes.{IsConsistent, fits_kind, lies_on_device}
use Rattle.vfs_model.specs.Consistency.{agrees, same_kind}
use Rattle.vfs_model.specs.FileLife.{backing_of, no_device, volume_named}
use Rattle.vfs_model.specs.FileMoves.{file_step, fits_file}
use Rattle.vfs_model.specs.Homes.{change_row, file_at, with_empty_cells, with_file}
use Rattle.vfs_model.specs.Namespace.{generation_at, life_at}
use Rattle.vfs_model.specs.NamespaceStep.{fits_namespace, namespace_step}
use Rattle.vfs_model.specs.World.{after_format, fits_on, fits_step, is_done, namespace_part, session_of, step_on, step_row, world_step}
use Rattle.vfs_model.specs.declared.namespace.Backing.TheVariants as backing
use Rattle.vfs_model.specs.declared.namespace.LiveFile.{LiveFile}
use Rattle.vfs_model.specs.declared.namespace.Namespace.{Namespace}
use Rattle.vfs_model.specs.declared.world.FileState.{FileState}
use Rattle.vfs_model.specs.declared.world.FileState.TheVariants as file
use Rattle.vfs_model.specs.declared.world.WorldState.{WorldState}
use Rattle.world_laws.proofs.lists.Lists.{below-or-past, number-itself}
use Rattle.world_laws.proofs.lists.Passing.{and-first, and-second}
use Rattle.world_laws.proofs.parts.FilesBehind.{fits-behind, step-behind}
use Rattle.world_laws.proofs.parts.RowsBehind.{Behind, is_chars, set-three}
use Rattle.world_laws.proofs.parts.Standing.{stands-of}
use Rattle.world_laws.proofs.steps.GoingOnBehind.{step-goes}
use Rattle.world_laws.proofs.steps.MountKeeping.{device-life}
use Rattle.world_laws.proofs.steps.WorldSteps.{step-consistent}
use Rattle.world_laws.specs.Behind.{GoesOnBehind, IsBehind, RunsBehind, file_behind, output_in_front}
use Rattle.world_laws.specs.Keeping.{MayRun}

-- what lies on a device is a character device's file
chars-of : (found : Option LiveFile) (generation : ℕ) (f : FileState) (device : ℕ) → backing_of found ≡ backing.Device device → fits_kind found ≡ true → agrees found generation f ≡ true → is_chars f ≡ true
chars-of None generation f device e fits h = absurd (cc)
chars-of (Some life) generation (file.Unbound other) device e fits h = absurd (cc)
chars-of (Some life) generation (file.Device other input output) device e fits h = refl
chars-of (Some life) generation (file.Bytes other shape capacity bytes) device e fits h =
    let chr = device-life device life (ap (lies_on_device device) e ∙ number-itself device) fits in
    let front = and-first _ (nat_le (length bytes) capacity) h in
    let same = and-second (other == generation) (same_kind life.kind shape) (and-first _ (not (same_kind shape kind.Chr)) front) in
    absurd (neither shape (sym (ap (λ k. same_kind k shape) chr) ∙ same) (and-second _ (not (same_kind shape kind.Chr)) front))
  where
    neither : (shape : Kind) → same_kind kind.Chr shape ≡ true → not (same_kind shape kind.Chr) ≡ true → ⊥
    neither kind.Tmp h k = absurd (cc)
    neither kind.Rom h k = absurd (cc)
    neither kind.Cell h k = absurd (cc)
    neither kind.Chr h k = absurd (cc)

-- between steps, also where the next namespace stands already
behind-of : (before : List (List ℕ)) (w v : WorldState) (next : Namespace) → IsConsistent w → IsBehind before w v →
    Behind before w.namespace.live_files w.namespace.devices (record w { namespace = next }) (record v { namespace = next })
behind-of before w v next c b = record {
  namespace = refl;
  rows = b.rows;
  each_row = c.sizes.files ∙ sym c.sizes.live_files;
  files = λ row. (b.files row, λ device e. chars-of (life_at w.namespace row) (generation_at w.namespace row) (file_at w row) device e (c.boxes_placed.kinds row) (c.rows_agree row));
  cells = b.cells;
  devices = b.devices;
  each_device = c.homes_fit.devices;
  homes = λ device l. (b.at_home device (let e = c.homes_fit.devices in omega (arith, e, l)), b.out device);
}

is-behind : (before : List (List ℕ)) (n : Namespace) (w v : WorldState) → w.namespace ≡ n → Behind before n.live_files n.devices w v → IsBehind before w v
is-behind before n w v e h =
    let b = subst (λ m. Behind before m.live_files m.devices w v) (sym e) h in
    record {
      namespace = b.namespace;
      rows = b.rows;
      files = λ row. (b.files row).0;
      cells = b.cells;
      devices = b.devices;
      at_home = λ device l. (b.homes device (let k = b.each_device in omega (arith, k, l))).0;
      out = λ device out. elim (below-or-past device (length w.namespace.devices)) [
        | inl l ↦ (b.homes device l).1 out
        | inr l ↦ let no = ap (λ d. d.is_out) (get_or_past w.namespace.devices device no_device l) in absurd (cc)
      ];
    }

format-behind : (before : List (List ℕ)) (w v : WorldState) (asked : Step) (answer : Reply) → IsBehind before w v → IsBehind before (after_format w asked answer) (after_format v asked answer)
format-behind before w v (step.Mkfs name) answer b = by (is_done answer)
  where
    by : (done : Bool) → IsBehind before (if done then record w { homes = with_empty_cells w.homes (volume_named w.namespace name) } else w)
        (if done then record v { homes = with_empty_cells v.homes (volume_named v.namespace name) } else v)
    by false = b
    by true = record {
      namespace = b.namespace;
      rows = b.rows;
      files = b.files;
      cells = ap (λ n. (with_empty_cells v.homes (volume_named n name)).cells) b.namespace
          ∙ ap (λ cells. (with_empty_cells (record w.homes { cells = cells }) (volume_named w.namespace name)).cells) b.cells;
      devices = b.devices;
      at_home = b.at_home;
      out = b.out;
    }
format-behind before w v _ answer b = b

-- one file is set in both worlds
set-behind : (before : List (List ℕ)) (w v : WorldState) (row : ℕ) (f g : FileState) → IsBehind before w v →
    g ≡ file_behind (output_in_front before (backing_of (life_at w.namespace row))) f → IsBehind before (with_file w row f) (with_file v row g)
set-behind before w v row f g b e = record {
  namespace = b.namespace;
  rows = length-set v.files (row - 1) g ∙ b.rows ∙ sym (length-set w.files (row - 1) f);
  files = λ other. set-three (λ y x z. y ≡ file_behind (output_in_front before (backing_of (life_at w.namespace other))) x) v.files w.files w.files (row - 1) (other - 1)
      g (file.Unbound 0) f (file.Unbound 0) f (file.Unbound 0) b.rows refl
      (λ same within. e ∙ ap (λ k. file_behind (output_in_front before (backing_of (slice_index_or w.namespace.live_files k None))) f) (sym same)) (b.files other);
  cells = b.cells;
  devices = b.devices;
  at_home = b.at_home;
  out = b.out;
}

abbrev OnBehind : List (List ℕ) → WorldState → WorldState → ℕ → Step → Mark → Option ℕ → Type 0
OnBehind before w v k asked m found = (fits_on v k asked m found ≡ fits_on w k asked m found) × ((step_on v k asked m found).reply ≡ (step_on w k asked m found).reply)
    × IsBehind before (step_on w k asked m found).next (step_on v k asked m found).next

on-behind : (before : List (List ℕ)) (w v : WorldState) (k : ℕ) (asked : Step) (m : Mark) (found : Option ℕ) → IsConsistent w → IsBehind before w v → OnBehind before w v k asked m found
on-behind before w v k asked m (Some row) c b =
    let f = file_at w row in
    let front = output_in_front before (backing_of (life_at w.namespace row)) in
    let stepped = ap (λ g. file_step g asked m) (b.files row) ∙ step-behind front f asked m in (
      ap (λ g. fits_file g asked m) (b.files row) ∙ fits-behind front f asked m,
      ap (λ outcome. outcome.reply) stepped,
      set-behind before w v row (file_step f asked m).next (file_step (file_at v row) asked m).next b (ap (λ outcome. outcome.next) stepped),
    )
on-behind before w v k asked m None c b =
    let outcome = namespace_step w.namespace k asked m in
    let begun : WorldState = record w { namespace = outcome.next } in
    let other : WorldState = record v { namespace = outcome.next } in
    let moved = step-goes before w.namespace k asked m (stands-of w c) begun other (behind-of before w v outcome.next c b) in
    let last = is-behind before outcome.next (fold change_row begun outcome.changes) (fold change_row other outcome.changes) (changed-namespace outcome.changes begun) moved in (
      ap (λ n. fits_namespace n k asked m) b.namespace,
      ap (λ n. (namespace_step n k asked m).reply) b.namespace,
      subst (λ n. IsBehind before (namespace_part w outcome asked).next (namespace_part v (namespace_step n k asked m) asked).next) (sym b.namespace)
          (format-behind before (fold change_row begun outcome.changes) (fold change_row other outcome.changes) asked outcome.reply last),
    )

pub step-goes-on : (before : List (List ℕ)) (w v : WorldState) (asker : Who) (asked : Step) (m : Mark) → IsConsistent w → IsBehind before w v → GoesOnBehind before w v asker asked m
unfolding world_step fits_step
step-goes-on before w v asker asked m c b =
    let all = on-behind before w v (session_of asker) asked m (step_row asked) c b in
    record { fits = all.0; reply = all.1; next = all.2 }

pub run-goes-on : (before : List (List ℕ)) (run : List Asked) (w v : WorldState) → IsConsistent w → MayRun w run → IsBehind before w v → RunsBehind before w v run
run-goes-on before [] w v c may b = record { may = tt; replies = refl; next = b }
run-goes-on before (asked ∷ later) w v c may b =
    let one = step-goes-on before w v asked.who asked.step asked.mark c b in
    let rest = run-goes-on before later (world_step w asked.who asked.step asked.mark).next (world_step v asked.who asked.step asked.mark).next
    (step-consistent w asked.who asked.step asked.mark c may.0 may.1 may.2) may.3 one.next in
    record {
      may = (may.0, may.1, one.fits ∙ may.2, rest.may);
      replies = ap (λ reply. reply ∷ (run_steps (world_step v asked.who asked.step asked.mark).next later).replies) one.reply
          ∙ ap (λ replies. (world_step w asked.who asked.step asked.mark).reply ∷ replies) rest.replies;
      next = rest.next;
    }
