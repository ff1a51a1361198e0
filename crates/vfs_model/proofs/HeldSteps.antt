-- What the sessions' references keep after each step of a session, and what a step replies of them.
use Rattle.std.proofs.Common.{◌≡◌, ◌≢◌, ℕ, ◌+◌, ◌-◌, ◌*◌, ◌==◌, ◌<◌, ◌≤◌, Bool, true, false, not, ◌&&◌, ◌||◌, nat_lt, is_some, Option, Some, None, is_none, List, [], length, slice_index_or, slice_set, Result, Ok, Err, if◌then◌else◌, refl, sym, ap, subst, ◌∙◌, arith}
use Rattle.std.proofs.lemmas.Bool.{ltb-false}
use Rattle.std.proofs.lemmas.List.{get_or-set_other, get_or-set_same, length-map}
use Rattle.std.specs.List.{position_or_len}
use Rattle.std.specs.Prelude.{slice_range}
use Rattle.vfs_base.specs.Path.{Path}
use Rattle.vfs_base.specs.declared.entry.Mark.{Mark}
use Rattle.vfs_base.specs.declared.errno.Errno.{Errno}
use Rattle.vfs_base.specs.declared.errno.Errno.TheVariants as errno
use Rattle.vfs_base.specs.declared.flags.OpenFlags.{OpenFlags}
use Rattle.vfs_base.specs.declared.ids.HoldId.{HoldId}
use Rattle.vfs_base.specs.declared.kinds.NodeKind.{NodeKind}
use Rattle.vfs_base.specs.declared.kinds.NodeKind.TheVariants as node
use Rattle.vfs_base.specs.declared.limits.TheConstants.{HOLDS}
use Rattle.vfs_base.specs.declared.reply.Reply.TheVariants as reply
use Rattle.vfs_base.specs.declared.step.Step.{Step}
use Rattle.vfs_base.specs.declared.step.Step.TheVariants as step
use Rattle.vfs_model.specs.Chain.{refuse◌when◌, refuse_by, wanted}
use Rattle.vfs_model.specs.FileLife.{Rows, free_if_unused}
use Rattle.vfs_model.specs.HeldFiles.{CanReply, IsNew, file_held, held_after, held_by, own_by}
use Rattle.vfs_model.specs.Lookup.{asked_path, is_file, is_folder, is_read_only, is_there, node_at, walk_refusal}
use Rattle.vfs_model.specs.NameSteps.{folder_refusals}
use Rattle.vfs_model.specs.Namespace.{folder_of, references_of, with_folder_of, with_reference}
use Rattle.vfs_model.specs.NamespaceOutcome.{NamespaceOutcome, refused}
use Rattle.vfs_model.specs.NamespaceStep.{is_shutdown, namespace_answer, namespace_step}
use Rattle.vfs_model.specs.OpenStep.{creates, for_reading, for_writing, is_exclusive, is_rom_node, least_free_number, make_file, open_at, open_file, open_refusals, truncates, with_file_at}
use Rattle.vfs_model.specs.ReferenceSteps.{give_up_step, in_role, is_device_kind, map_step, reference_at, same_role}
use Rattle.vfs_model.specs.declared.namespace.Namespace.{Namespace}
use Rattle.vfs_model.specs.declared.namespace.Reference.{Reference}
use Rattle.vfs_model.specs.declared.namespace.Role.{Role}
use Rattle.vfs_model.specs.declared.namespace.Role.TheVariants as role
use Rattle.vfs_model.proofs.FreePlaces.{get-in}
use Rattle.vfs_model.proofs.HeldReferences.{file_kept, held-at, held-set, held_in, length-held, number-new, others-stay}
use Rattle.vfs_model.proofs.KeptUsers.{KeepsUsers, answer-keeps, made-users, unused-users, users}
use Rattle.vfs_model.proofs.StepAnswers.{Holds, bind-holds, marked-holds, refuse-passed, then-first, then-holds, then-rest}

-- what a session's step leaves: its references keep what its reply tells, and it stands where its reply tells, the reply is one
-- that it can have, and the references of the others keep what they kept, and they stand where they stood
pub record LeavesHeld (intact : Bool) (n : Namespace) (k : ℕ) (asked : Step) (outcome : NamespaceOutcome) : Type 0 where
  pub own : held_by outcome.next k ≡ (held_after k (own_by intact n k) asked outcome.reply).files
  pub can : CanReply k (held_by n k) asked outcome.reply
  pub others : (other : ℕ) → 0 < other → other ≢ k → held_by outcome.next other ≡ held_by n other
  pub folder : folder_of outcome.next k ≡ (held_after k (own_by intact n k) asked outcome.reply).folder
  pub elsewhere : (other : ℕ) → 0 < other → other ≢ k → folder_of outcome.next other ≡ folder_of n other

same-held : (n m : Namespace) (k : ℕ) → m.references ≡ n.references → held_by m k ≡ held_by n k
same-held n m k e = ap (λ references. held_in references k) e

same-folder : (n m : Namespace) (k : ℕ) → users m ≡ users n → folder_of m k ≡ folder_of n k
same-folder n m k e = ap (λ used. slice_index_or used.1 (k - 1) []) e

-- the fact follows for the outcome of what isn't refused
holds-by : (P Q : NamespaceOutcome → Type 0) → ((outcome : NamespaceOutcome) → P outcome → Q outcome) → (r : Result NamespaceOutcome Errno) → Holds P r → Holds Q r
holds-by P Q f (Ok outcome) h = f outcome h
holds-by P Q f (Err errno) h = tt

refused-leaves : (intact : Bool) (n : Namespace) (k : ℕ) (asked : Step) (errno : Errno) → LeavesHeld intact n k asked (refused n errno)
refused-leaves intact n k (step.Open path flags) errno = record { own = refl; can = tt; others = λ other l d. refl; folder = refl; elsewhere = λ other l d. refl }
refused-leaves intact n k (step.Map hold) errno = record { own = refl; can = tt; others = λ other l d. refl; folder = refl; elsewhere = λ other l d. refl }
refused-leaves intact n k _ errno = record { own = refl; can = tt; others = λ other l d. refl; folder = refl; elsewhere = λ other l d. refl }

kept-leaves : (intact : Bool) (n : Namespace) (k : ℕ) (asked : Step) (outcome : NamespaceOutcome) → CanReply k (held_by n k) asked outcome.reply →
    own_by intact n k ≡ held_after k (own_by intact n k) asked outcome.reply → KeepsUsers n outcome → LeavesHeld intact n k asked outcome
kept-leaves intact n k asked outcome can same e =
    let references = ap (λ used. used.0) e in
    record {
      own = same-held n outcome.next k references ∙ ap (λ held. held.files) same;
      can = can;
      others = λ other l d. same-held n outcome.next other references;
      folder = same-folder n outcome.next k e ∙ ap (λ held. held.folder) same;
      elsewhere = λ other l d. same-folder n outcome.next other e;
    }

read-wanted : (found : Option Reference) (reference : Reference) → wanted errno.EBADF found ≡ Ok reference → found ≡ Some reference
read-wanted None reference e = absurd (cc)
read-wanted (Some other) reference e = let same : other ≡ reference = cc in ap Some same

in-role : (as_role : Role) (found : Option Reference) (reference : Reference) → in_role as_role found ≡ Some reference → found ≡ Some reference
in-role as_role None reference h = absurd (cc)
in-role as_role (Some other) reference h = same (same_role as_role other.role) h
  where
    same : (b : Bool) → (if b then Some other else None) ≡ Some reference → Some other ≡ Some reference
    same true e = e
    same false e = absurd (cc)

-- the reference that a session has by a name: its number is one of its part, and the name's file is its file
record IsNamed (n : Namespace) (k : ℕ) (hold : HoldId) (reference : Reference) : Type 0 where
  within : hold.number - 1 < length (references_of n k)
  file : file_held (held_by n k) k hold ≡ Some reference.file

named : (n : Namespace) (k : ℕ) (hold : HoldId) (as_role : Role) (reference : Reference) → reference_at n k hold as_role ≡ Some reference → IsNamed n k hold reference
named n k hold as_role reference h = by (hold.session == k && nat_lt 0 hold.number) refl h
  where
    by : (b : Bool) → (hold.session == k && nat_lt 0 hold.number) ≡ b →
        (if b then in_role as_role (slice_index_or (references_of n k) (hold.number - 1) None) else None) ≡ Some reference → IsNamed n k hold reference
    by false same e = absurd (cc)
    by true same e =
        let found = in-role as_role (slice_index_or (references_of n k) (hold.number - 1) None) reference e in
        record {
          within = get-in (references_of n k) (hold.number - 1) reference found;
          file =
              ap (λ b. if b then slice_index_or (held_by n k) (hold.number - 1) None else None) same
              ∙ held-at (references_of n k) (hold.number - 1) ∙ ap file_kept found;
        }

module _ (intact : Bool) (n : Namespace) (k : ℕ) (above : 0 < k) (within : k ≤ 8) (whole : length n.references ≡ 256)
    (folders : length n.working_directories ≡ 8) where
  -- opening

  found-leaves : (text : List ℕ) (flags : OpenFlags) (path : Path) (rows : Rows) (found : Option NodeKind) → users rows.next ≡ users n →
      least_free_number rows.next k ≤ 32 → Holds (LeavesHeld intact n k (step.Open text flags)) (open_file k path rows found)
  found-leaves text flags path rows None same small = tt
  found-leaves text flags path rows (Some node.Dir) same small = tt
  found-leaves text flags path rows (Some (node.File file kind)) used small =
      let same = ap (λ u. u.0) used in
      let number = least_free_number rows.next k in
      let hold : HoldId = record { session = k; number = number } in
      let new = number-new rows.next k above within (ap length same ∙ whole) small in
      let low : number - 1 < 32 = omega (arith, small) in
      record {
        own =
            held-set rows.next k number (Some _) above low
            ∙ ap (λ held. slice_set held (number - 1) (Some file)) (same-held n rows.next k same);
        can = subst (λ held. IsNew k held hold) (same-held n rows.next k same) new;
        others = λ other l d. others-stay rows.next k number (Some _) other above low l d ∙ same-held n rows.next other same;
        folder = same-folder n rows.next k used;
        elsewhere = λ other l d. same-folder n rows.next other used;
      }

  there-users : (path : Path) (there : Bool) → users (if there then record { next = n; changes = [] } else make_file n path).next ≡ users n
  there-users path true = refl
  there-users path false = made-users n path

  passed-number : (path : Path) (flags : OpenFlags) → open_refusals n k path flags ≡ Ok tt → least_free_number n k ≤ 32
  unfolding open_refusals
  passed-number path flags h =
      let invalid = not (for_reading flags || for_writing flags) || (truncates flags && not (for_writing flags)) in
      let r1 = then-rest (refuse errno.EINVAL when invalid) _ tt h in
      let r2 = then-rest (refuse_by (walk_refusal n path)) _ tt r1 in
      let r3 = then-rest (refuse errno.EISDIR when (is_folder n path)) _ tt r2 in
      let r4 = then-rest (refuse errno.EEXIST when (is_file n path && creates flags && is_exclusive flags)) _ tt r3 in
      let r5 = then-rest (refuse errno.ENOENT when (not (is_there n path) && not (creates flags))) _ tt r4 in
      let rom = is_rom_node (node_at n path) && for_writing flags in
      let r6 = then-rest (refuse errno.EROFS when ((not (is_there n path) && is_read_only n path) || rom)) _ tt r5 in
      ltb-false 32 (least_free_number n k) (refuse-passed errno.EMFILE (nat_lt 32 (least_free_number n k)) (then-first _ _ tt r6))

  open-leaves : (text : List ℕ) (flags : OpenFlags) (path : Path) → Holds (LeavesHeld intact n k (step.Open text flags)) (open_at n k path flags)
  unfolding open_at
  open-leaves text flags path =
      then-holds (LeavesHeld intact n k (step.Open text flags)) (open_refusals n k path flags) _ (λ h.
      let used = there-users path (is_there n path) in
      let same = ap (λ u. u.0) used in
      let numbers : least_free_number (with_file_at n path).next k ≡ least_free_number n k = ap (λ references. position_or_len is_none (slice_range references (32 * (k - 1)) (32 * k)) + 1) same in
      let small = passed-number path flags h in
      found-leaves text flags path (with_file_at n path) (node_at (with_file_at n path).next path) used (omega (arith, numbers, small)))

  -- mapping

  map-leaves : (hold : HoldId) → Holds (LeavesHeld intact n k (step.Map hold)) (map_step n k hold)
  unfolding map_step
  map-leaves hold =
      bind-holds (LeavesHeld intact n k (step.Map hold)) (wanted errno.EBADF (reference_at n k hold role.Open)) _ (λ opened e.
      then-holds (LeavesHeld intact n k (step.Map hold)) (refuse errno.ENODEV when (is_device_kind opened.kind)) _ (λ h.
      then-holds (LeavesHeld intact n k (step.Map hold)) (refuse errno.EMFILE when (nat_lt HOLDS (least_free_number n k))) _ (λ l.
      let number = least_free_number n k in
      let small = ltb-false 32 number (refuse-passed errno.EMFILE (nat_lt 32 number) l) in
      let low : number - 1 < 32 = omega (arith, small) in
      let there = (named n k hold role.Open opened (read-wanted (reference_at n k hold role.Open) opened e)).file in
      record {
        own =
            held-set n k number (Some _) above low
            ∙ ap (λ file. slice_set (held_by n k) (number - 1) file) (sym there);
        can = (number-new n k above within whole small, ap is_some there);
        others = λ other l d. others-stay n k number (Some _) other above low l d;
        folder = refl;
        elsewhere = λ other l d. refl;
      })))

  -- giving up

  gone-leaves : (asked : Step) (hold : HoldId) (row : ℕ) → (held_after k (own_by intact n k) asked reply.Done).files ≡ slice_set (held_by n k) (hold.number - 1) None →
      folder_of n k ≡ (held_after k (own_by intact n k) asked reply.Done).folder → CanReply k (held_by n k) asked reply.Done → hold.number - 1 < length (references_of n k) →
      LeavesHeld intact n k asked (record { reply = reply.Done; next = (free_if_unused (with_reference n k hold.number None) row).next; changes = (free_if_unused (with_reference n k hold.number None) row).changes })
  gone-leaves asked hold row after stands can inside =
      let m = with_reference n k hold.number None in
      let used = unused-users m row in
      let same = ap (λ u. u.0) used in
      let mapped = length-map (references_of n k) file_kept in
      let e = length-held n k above within whole in
      let low : hold.number - 1 < 32 = omega (arith, inside, e, mapped) in
      record {
        own = same-held m (free_if_unused m row).next k same ∙ held-set n k hold.number None above low ∙ sym after;
        can = can;
        others = λ other l d. same-held m (free_if_unused m row).next other same ∙ others-stay n k hold.number None other above low l d;
        folder = same-folder m (free_if_unused m row).next k used ∙ stands;
        elsewhere = λ other l d. same-folder m (free_if_unused m row).next other used;
      }

  close-leaves : (hold : HoldId) → Holds (LeavesHeld intact n k (step.Close hold)) (give_up_step role.Open n k hold)
  unfolding give_up_step
  close-leaves hold =
      bind-holds (LeavesHeld intact n k (step.Close hold)) (wanted errno.EBADF (reference_at n k hold role.Open)) _ (λ reference e.
      gone-leaves (step.Close hold) hold reference.file.row refl refl tt
      (named n k hold role.Open reference (read-wanted (reference_at n k hold role.Open) reference e)).within)

  unmap-leaves : (hold : HoldId) → Holds (LeavesHeld intact n k (step.Unmap hold)) (give_up_step role.Map n k hold)
  unfolding give_up_step
  unmap-leaves hold =
      bind-holds (LeavesHeld intact n k (step.Unmap hold)) (wanted errno.EBADF (reference_at n k hold role.Map)) _ (λ reference e.
      gone-leaves (step.Unmap hold) hold reference.file.row refl refl tt
      (named n k hold role.Map reference (read-wanted (reference_at n k hold role.Map) reference e)).within)

  -- moving

  folder-place : k - 1 < length n.working_directories
  folder-place = omega (arith, folders, above, within)

  stands-in : (path : Path) → folder_of (with_folder_of n k path) k ≡ path
  stands-in path = get_or-set_same n.working_directories (k - 1) path [] folder-place

  stands-elsewhere : (path : Path) (other : ℕ) → 0 < other → other ≢ k → folder_of (with_folder_of n k path) other ≡ folder_of n other
  stands-elsewhere path other l d = get_or-set_other n.working_directories (k - 1) (other - 1) path [] (λ e. d (omega (arith, e, l, above)))

  -- every step but the end's

  answer-leaves : (asked : Step) → is_shutdown asked ≡ false → Holds (LeavesHeld intact n k asked) (namespace_answer n k asked)
  answer-leaves (step.Open path flags) s = bind-holds (LeavesHeld intact n k (step.Open path flags)) (asked_path n k path) _ (λ p e. open-leaves path flags p)
  answer-leaves (step.Close hold) s = close-leaves hold
  answer-leaves (step.Map hold) s = map-leaves hold
  answer-leaves (step.Unmap hold) s = unmap-leaves hold
  answer-leaves (step.Chdir path) s =
      bind-holds (LeavesHeld intact n k (step.Chdir path)) (asked_path n k path) _ (λ p e.
      then-holds (LeavesHeld intact n k (step.Chdir path)) (folder_refusals n p) _ (λ h.
      record { own = refl; can = tt; others = λ other l d. refl; folder = stands-in p; elsewhere = stands-elsewhere p }))
  answer-leaves step.Home s =
      record { own = refl; can = tt; others = λ other l d. refl; folder = stands-in []; elsewhere = stands-elsewhere [] }
  answer-leaves step.Cwd s =
      record { own = refl; can = tt; others = λ other l d. refl; folder = refl; elsewhere = λ other l d. refl }
  answer-leaves step.Shutdown s = absurd (cc)
  answer-leaves (step.Read id off len) s = tt
  answer-leaves (step.Write id off piece) s = tt
  answer-leaves (step.Append id piece) s = tt
  answer-leaves (step.Trunc id len) s = tt
  answer-leaves asked s =
      holds-by (KeepsUsers n) (LeavesHeld intact n k asked) (λ outcome e. kept-leaves intact n k asked outcome tt refl e) (namespace_answer n k asked) (answer-keeps n k asked refl)

  pub step-leaves : (asked : Step) (m : Mark) → is_shutdown asked ≡ false → LeavesHeld intact n k asked (namespace_step n k asked m)
  unfolding namespace_step
  step-leaves step.Shutdown m s = absurd (cc)
  step-leaves asked m s = marked-holds (LeavesHeld intact n k asked) n (namespace_answer n k asked) m (refused-leaves intact n k asked) (answer-leaves asked s)
