-- The exit steps of a session name all that it has.
use Rattle.std.proofs.Common.{◌≡◌, ◌≢◌, inl, inr, ℕ, zero, suc, ◌+◌, ◌<◌, ◌==◌, Bool, true, false, cond, ◌||◌, nat_lt, Option, Some, None, is_some, option_map, List, [], ◌∷◌, ◌++◌, slice_index_or, if◌then◌else◌, refl, sym, ap, ◌∙◌, arith}
use Rattle.std.proofs.lemmas.Bool.Decides.{nat_tests}
use Rattle.std.proofs.lemmas.List.Sums.{sum_by-cons}
use Rattle.std.specs.List.{cons_option, filter_map, list_any}
use Rattle.std.specs.Prelude.{count_by}
use Rattle.vfs_base.specs.Path.{Path}
use Rattle.vfs_base.specs.declared.step.Step.{Step}
use Rattle.vfs_base.specs.declared.step.Step.TheVariants as step
use Rattle.vfs_model.specs.DescriptorLaws.{IsSound}
use Rattle.vfs_model.specs.ExitLaws.{GivesUpAll, IsOneOf}
use Rattle.vfs_model.specs.OpenFiles.{file_numbered, leads_to}
use Rattle.vfs_model.specs.Session.{SessionRun, close_step, files_to_close, home_steps, unmap_step}
use Rattle.vfs_model.specs.declared.shell_state.OpenFile.{OpenFile}
use Rattle.vfs_model.specs.declared.shell_state.OpenFiles.{OpenFiles}

one-before : {X : Type 0} (x : X) (xs ys : List X) → IsOneOf x xs → IsOneOf x (xs ++ ys)
one-before x [] ys h = absurd h
one-before x (z ∷ xs) ys (inl e) = inl e
one-before x (z ∷ xs) ys (inr h) = inr (one-before x xs ys h)

one-behind : {X : Type 0} (x : X) (xs ys : List X) → IsOneOf x ys → IsOneOf x (xs ++ ys)
one-behind x [] ys h = h
one-behind x (z ∷ xs) ys h = inr (one-behind x xs ys h)

one-later : {X : Type 0} (y : X) (first : Option X) (rest : List X) → IsOneOf y rest → IsOneOf y (cons_option first rest)
one-later y None rest h = h
one-later y (Some x) rest h = inr h

one-first : {X : Type 0} (y : X) (first : Option X) (rest : List X) → first ≡ Some y → IsOneOf y (cons_option first rest)
one-first y None rest e = absurd (cc)
one-first y (Some x) rest e = let same : y ≡ x = cc in inl same

-- what is made of one of a list is one of what is made of all
one-made : {X Y : Type 0} (f : X → Option Y) (x : X) (y : Y) (xs : List X) → IsOneOf x xs → f x ≡ Some y → IsOneOf y (filter_map f xs)
one-made f x y [] h e = absurd h
one-made f x y (z ∷ xs) (inl same) e = one-first y (f z) (filter_map f xs) (ap f (sym same) ∙ e)
one-made f x y (z ∷ xs) (inr h) e = one-later y (f z) (filter_map f xs) (one-made f x y xs h e)

one-at : {X : Type 0} (x : X) (xs : List (Option X)) (place : ℕ) → slice_index_or xs place None ≡ Some x → IsOneOf (Some x) xs
one-at x [] place e = absurd (cc)
one-at x (y ∷ xs) zero e = inl (sym e)
one-at x (y ∷ xs) (suc place) e = inr (one-at x xs place e)

-- where a test counts any it holds of one
any-on : (test : Bool) (any : Bool) (count : ℕ) → (0 < count → any ≡ true) → 0 < cond test 1 0 + count → (test || any) ≡ true
any-on true any count h l = refl
any-on false any count h l = h (omega (arith, l))

any-counted : (p : Option ℕ → Bool) (xs : List (Option ℕ)) → 0 < count_by p xs → list_any p xs ≡ true
any-counted p [] l = absurd (omega (arith, l))
any-counted p (x ∷ xs) l =
    let sum : count_by p (x ∷ xs) ≡ cond (p x) 1 0 + count_by p xs = sum_by-cons (λ y. cond (p y) 1 0) x xs in
    any-on (p x) (list_any p xs) (count_by p xs) (any-counted p xs) (omega (arith, sum, l))

-- an open file that a descriptor leads to is closed
closed-on : (number other : ℕ) (later : List (Option ℕ)) (behind is : Bool) → list_any (leads_to other) later ≡ behind → (other == number) ≡ is →
    (is || list_any (leads_to number) later) ≡ true → (list_any (leads_to number) later ≡ true → IsOneOf number (files_to_close later)) →
    IsOneOf number (if behind then files_to_close later else other ∷ files_to_close later)
closed-on number other later true true b e h rest =
    let same : other ≡ number = grind (arith, nat_tests, e) in
    rest (ap (λ k. list_any (leads_to k) later) (sym same) ∙ b)
closed-on number other later true false b e h rest = rest h
closed-on number other later false true b e h rest =
    let same : other ≡ number = grind (arith, nat_tests, e) in
    inl (sym same)
closed-on number other later false false b e h rest = inr (rest h)

closed-one : (number : ℕ) (descriptors : List (Option ℕ)) → list_any (leads_to number) descriptors ≡ true → IsOneOf number (files_to_close descriptors)
closed-one number [] h = absurd (cc)
closed-one number (None ∷ later) h = closed-one number later h
closed-one number (Some other ∷ later) h =
    closed-on number other later (list_any (leads_to other) later) (other == number) refl refl h (closed-one number later)

led-to : (open_files : OpenFiles) (number : ℕ) (file : OpenFile) → IsSound open_files → file_numbered open_files number ≡ Some file →
    list_any (leads_to number) open_files.descriptors ≡ true
led-to open_files number file sound e =
    let led : nat_lt 0 (count_by (leads_to number) open_files.descriptors) ≡ true = sym (sound.led number) ∙ ap is_some e in
    let some : 0 < count_by (leads_to number) open_files.descriptors = grind (arith, nat_tests, led) in
    any-counted (leads_to number) open_files.descriptors some

home-one : (shown : Path) → shown ≢ [] → IsOneOf step.Home (home_steps shown)
home-one [] h = absurd (h refl)
home-one (name ∷ names) h = inl refl

close-made : (open_files : OpenFiles) (number : ℕ) (file : OpenFile) → file_numbered open_files number ≡ Some file →
    close_step open_files number ≡ Some (step.Close file.hold)
close-made open_files number file e = ap (λ found. option_map (λ (f : OpenFile). step.Close f.hold) found) e

pub gives-up-all : (run : SessionRun) → IsSound run.state.open_files → GivesUpAll run
gives-up-all run sound =
    let unmaps : List Step = filter_map unmap_step run.state.mappings in
    let closes : List Step = filter_map (close_step run.state.open_files) (files_to_close run.state.open_files.descriptors) in
    let homes : List Step = home_steps run.state.shown in
    let owned : List Step = run.own ++ unmaps in
    record {
      own = λ given h. one-before given (owned ++ closes) homes (one-before given owned closes (one-before given run.own unmaps h));
      files = λ number file e.
          one-before (step.Close file.hold) (owned ++ closes) homes
          (one-behind (step.Close file.hold) owned closes
          (one-made (close_step run.state.open_files) number (step.Close file.hold) (files_to_close run.state.open_files.descriptors)
          (closed-one number run.state.open_files.descriptors (led-to run.state.open_files number file sound e))
          (close-made run.state.open_files number file e)));
      mappings = λ place window e.
          one-before (step.Unmap window.hold) (owned ++ closes) homes
          (one-before (step.Unmap window.hold) owned closes
          (one-behind (step.Unmap window.hold) run.own unmaps
          (one-made unmap_step (Some window) (step.Unmap window.hold) run.state.mappings (one-at window run.state.mappings place e) refl)));
      home = λ h. one-behind step.Home (owned ++ closes) homes (home-one run.state.shown h);
    }
