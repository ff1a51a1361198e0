-- What the parser makes of words by the grammar.
use Rattle.std.proofs.Common.{◌≡◌, ℕ, ◌==◌, ◌||◌, Bool, true, false, Option, Some, None, List, [], ◌∷◌, codes, refl, sym, ap, ◌∙◌, ◌⊎◌, inl, inr, slice_get, bytes_eq, chars, subst, eqb-true, map, option_map, Bor}
use Rattle.std.specs.List.{list_any}
use Rattle.std.proofs.lemmas.Bool.{cases_Bool, or_parts}
use Rattle.std.proofs.lemmas.Slice.Eq.{bytes_eq-Decides}
use Rattle.clap.specs.Walk.{Held, Text, bundle_met, first_of, idle, value, walked, word_met}
use Rattle.clap.specs.Simple.{Shape, built, is_simple, matches_of}
use Rattle.clap.specs.Faults.{defaults_fault, fault_of, flags_fault, walk_fault, word_fault}
use Rattle.clap.specs.declared.error.kind.ErrorKind.TheVariants.{OutOfMemory, UnknownArgument}
use Rattle.clap.specs.Words.{App, HasKind, HasMatchesOf, IsAmong, first_value, found_of, is_simple_and_free, kind_of, rows_of}
use Rattle.clap.specs.declared.error.Error.{Error}
use Rattle.clap.specs.declared.parser.matches.ArgMatches.{ArgMatches}
use Rattle.clap.proofs.OnLiterals.{clap_on_literals}
use Rattle.clap.proofs.WalkLemmas.{first_value-rows}
use Rattle.dfs_words.specs.Grammar.{grammar, has_escape, is_escape}
use Rattle.dfs_words.specs.Words.{job_named, job_of}

abbrev top : Shape
top = (built grammar).top

abbrev held : Option (Text × List Text) → Held
held pending = record { rows = []; pending = pending; skip = 0 }

-- the word is refused as a flag, or is a value for the next position
abbrev Goes : ℕ → Option (Text × List Text) → Text → Type 0
Goes position pending word =
    (word_fault top [] false idle word (held pending) ≡ UnknownArgument ∷ [])
    ⊎ ((word_fault top [] false idle word (held pending) ≡ []) × (word_met top.rules [] false idle position word (held pending) ≡ (held pending, value)))

-- a word of short flags
goes_short : (position : ℕ) (pending : Option (Text × List Text)) (y : ℕ) (ys : Text) → y == 45 ≡ false
    → (o : Option ℕ) → slice_get (chars (y ∷ ys)) 0 ≡ o → Goes position pending (45 ∷ y ∷ ys)
unfolding flags_fault bundle_met
goes_short position pending y ys other None e = inr (simp (other, e), simp (other, e))
goes_short position pending y ys other (Some c) e = inl (simp (other, e))

-- a word of a long flag
goes_long : (position : ℕ) (pending : Option (Text × List Text)) (y z : ℕ) (zs : Text) → y == 45 ≡ true → Goes position pending (45 ∷ y ∷ z ∷ zs)
goes_long position pending y z zs dash = subst (λ n. Goes position pending (45 ∷ n ∷ z ∷ zs)) (sym (eqb-true y 45 dash)) (inl refl)

-- a word that begins with a hyphen
goes_dashed : (position : ℕ) (pending : Option (Text × List Text)) (xs : Text) → is_escape (45 ∷ xs) ≡ false → Goes position pending (45 ∷ xs)
goes_dashed position pending [] not = inr (refl, refl)
goes_dashed position pending (y ∷ []) not =
    elim (cases_Bool (y == 45)) [
      | inl dash ↦ let no : true ≡ false = rw dash at not in cc
      | inr other ↦ goes_short position pending y [] other (slice_get (chars (y ∷ [])) 0) refl
    ]
goes_dashed position pending (y ∷ z ∷ zs) not =
    elim (cases_Bool (y == 45)) [
      | inl dash ↦ goes_long position pending y z zs dash
      | inr other ↦ goes_short position pending y (z ∷ zs) other (slice_get (chars (y ∷ z ∷ zs)) 0) refl
    ]

goes : (position : ℕ) (pending : Option (Text × List Text)) (word : Text) → is_escape word ≡ false → Goes position pending word
goes position pending [] not = inr (refl, refl)
goes position pending (x ∷ xs) not =
    elim (cases_Bool (x == 45)) [
      | inl dash ↦ subst (λ n. is_escape (n ∷ xs) ≡ false → Goes position pending (n ∷ xs)) (sym (eqb-true x 45 dash)) (goes_dashed position pending xs) not
      | inr other ↦ inr (simp other, simp other)
    ]

-- one word that is taken is the mode's
sole_value : (word : Text) → is_escape word ≡ false → fault_of grammar (word ∷ []) ≡ [] → first_of (codes "MODE") (matches_of grammar (word ∷ [])) ≡ Some word
unfolding walked walk_fault defaults_fault
sole_value word not none =
    elim (goes 1 None word not) [
      | inl flag ↦ let no : UnknownArgument ∷ [] ≡ [] = rw flag at none in cc
      | inr (taken, met) ↦ rw met refl
    ]

-- two words are not taken
two_words : (word next : Text) (words : List Text) → is_escape word ≡ false → is_escape next ≡ false → fault_of grammar (word ∷ next ∷ words) ≡ [] → ⊥
unfolding walked walk_fault defaults_fault
two_words word next words not not' none =
    elim (goes 1 None word not) [
      | inl flag ↦ let no : UnknownArgument ∷ [] ≡ [] = rw flag at none in cc
      | inr (taken, met) ↦
          elim (goes 2 (Some (codes "MODE", word ∷ [])) next not') [
            | inl flag ↦ let no : UnknownArgument ∷ [] ≡ [] = rw (taken, met, flag) at none in cc
            | inr (taken', met') ↦ let no : UnknownArgument ∷ [] ≡ [] = rw (taken, met, taken', met') at none in cc
          ]
    ]

no_words : fault_of grammar [] ≡ [] → ⊥
unfolding clap_on_literals
no_words none = cc

shell_is_taken : fault_of grammar (codes "shell" ∷ []) ≡ []
unfolding clap_on_literals
shell_is_taken = refl

replay_is_taken : fault_of grammar (codes "replay" ∷ []) ≡ []
unfolding clap_on_literals
replay_is_taken = refl

list_any-map : {X : Type 0} (p : Text → Bool) (f : X → Text) (xs : List X) → list_any (λ x. p (f x)) xs ≡ list_any p (map f xs)
list_any-map p f [] = refl
list_any-map p f (x ∷ xs) = ap (λ b. p (f x) || b) (list_any-map p f xs)

-- the search for `--` in the words, as one in their texts
pub has_escape-map : {X : Type 0} (f : X → Text) (xs : List X) (found : Bool) → found ≡ list_any (λ x. is_escape (f x)) xs → has_escape (map f xs) ≡ found
has_escape-map f xs found is = sym (list_any-map is_escape f xs) ∙ sym is

-- The words are one word, which is the mode's.
pub record IsSole (words : List Text) : Type 0 where
  pub word : Text
  pub is : words ≡ word ∷ []
  pub value : first_of (codes "MODE") (matches_of grammar words) ≡ Some word

-- words that the parser takes, and no `--` among them
pub sole_word : (words : List Text) → has_escape words ≡ false → fault_of grammar words ≡ [] → IsSole words
sole_word [] not none = absurd (no_words none)
sole_word (word ∷ []) not none =
    record { word = word; is = refl; value = sole_value word (or_parts (is_escape word) false not).0 none }
sole_word (word ∷ next ∷ words) not none =
    let both = or_parts (is_escape word) (has_escape (next ∷ words)) not in
    absurd (two_words word next words both.0 (or_parts (is_escape next) (has_escape words) both.1).0 none)

-- a word that is no mode's name
no_job : (word : Text) → (word ≡ codes "shell" → ⊥) → (word ≡ codes "replay" → ⊥) → job_named word ≡ None
no_job word shell replay =
    elim (cases_Bool (bytes_eq word (codes "shell"))) [
      | inl is ↦ absurd (shell ((bytes_eq-Decides word (codes "shell")).0 is))
      | inr other ↦
          elim (cases_Bool (bytes_eq word (codes "replay"))) [
            | inl is ↦ absurd (replay ((bytes_eq-Decides word (codes "replay")).0 is))
            | inr other' ↦ rw (other, other') refl
          ]
    ]

-- words that the parser refuses name no job
pub refused_words : (words : List Text) → (fault_of grammar words ≡ [] → ⊥) → job_of words ≡ None
refused_words [] refused = refl
refused_words (word ∷ []) refused =
    no_job word (λ is. refused (ap (λ w. fault_of grammar (w ∷ [])) is ∙ shell_is_taken)) (λ is. refused (ap (λ w. fault_of grammar (w ∷ [])) is ∙ replay_is_taken))
refused_words (word ∷ next ∷ words) refused = refl

-- nor do words with `--` among them
pub escaped_words : (words : List Text) → has_escape words ≡ true → job_of words ≡ None
escaped_words [] escaped = refl
escaped_words (word ∷ []) escaped =
    no_job word (λ is. let no : false ≡ true = rw is at escaped in cc) (λ is. let no : false ≡ true = rw is at escaped in cc)
escaped_words (word ∷ next ∷ words) escaped = refl

grammar_is_simple : (app : App) → app ≡ grammar → is_simple_and_free app ≡ true
grammar_is_simple app is = rw is refl

-- The word that the parser gives, of words that are it alone.
pub record GivesWord (words : List Text) (found : Option (Bor Text)) : Type 0 where
  pub word : Bor Text
  pub found_is : found ≡ Some word
  pub sole : words ≡ word.now ∷ []

pub gives_word : (app : App) (words : List Text) (m : ArgMatches) (found : Option (Bor Text)) → app ≡ grammar → has_escape words ≡ false
    → (is_simple_and_free app ≡ true → fault_of app words ≡ []) → HasMatchesOf app words m → option_map (λ s. s.now) found ≡ first_value (found_of m) (codes "MODE")
    → GivesWord words found
gives_word app words m found is not kinds matches got =
    let free = grammar_is_simple app is in
    let sole = sole_word words not (subst (λ a. fault_of a words ≡ []) is (kinds free)) in
    let rows : rows_of (found_of m) ≡ matches_of grammar words = (matches (ap is_simple is)).0 ∙ ap (λ a. matches_of a words) is in
    by_found found sole (got ∙ first_value-rows (found_of m) (codes "MODE") ∙ ap (first_of (codes "MODE")) rows ∙ sole.value)
  where
    by_found : (o : Option (Bor Text)) (s : IsSole words) → option_map (λ b. b.now) o ≡ Some s.word → GivesWord words o
    by_found None s e = cc
    by_found (Some b) s e = record { word = b; found_is = refl; sole = let same : b.now ≡ s.word = cc in s.is ∙ ap (λ w. w ∷ []) (sym same) }

-- the parser refused the words, and not for want of memory
pub refuses_words : (app : App) (words : List Text) (e : Error) → app ≡ grammar → (is_simple_and_free app ≡ true → HasKind (fault_of app words) e)
    → (kind_of e ≡ OutOfMemory → ⊥) → job_of words ≡ None
refuses_words app words e is kinds not =
    refused_words words (λ none.
    elim (kinds (grammar_is_simple app is)) [
      | inl out ↦ not out
      | inr among ↦ subst (λ k. IsAmong (kind_of e) k) (ap (λ a. fault_of a words) is ∙ none) among
    ])
