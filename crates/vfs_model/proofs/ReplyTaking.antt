-- What talks are made of takes replies as it should.
use Rattle.std.specs.Prelude.{ℕ, Bool, true, false, Option, Some, None, Result, Ok, Err, List, [], ◌∷◌, ◌++◌, if◌then◌else◌, refl}
use Rattle.vfs_base.specs.declared.errno.Errno.{Errno}
use Rattle.vfs_base.specs.declared.reply.Reply.{Reply}
use Rattle.vfs_base.specs.declared.step.Step.{Step}
use Rattle.vfs_model.specs.CommandWords.{four_words, meaning, no_word, one_word, three_words, two_words}
use Rattle.vfs_model.specs.ShellLaws.{TakesReplies, TalkTakesReplies}
use Rattle.vfs_model.specs.Talk.{After, Again, Answer, Round, Talk, ask_holding, ask_in_turn, changing, checked, round_talk, shows}
use Rattle.vfs_model.specs.declared.shell_state.ShellState.{ShellState}

pub showing : (text : List ℕ) → TalkTakesReplies (shows text)
showing text state replies = record { asked = λ e. absurd (cc); finished = λ e more. refl; given = λ e. refl }

pub asking : (own : List Step) (step : Step) (go : Reply → Talk) →
    ((reply : Reply) → TalkTakesReplies (go reply)) → TalkTakesReplies (ask_holding own step go)
asking own step go each state [] = record { asked = λ e. refl; finished = λ e more. absurd (cc); given = λ e. absurd (cc) }
asking own step go each state (reply ∷ replies) =
    let p = each reply state replies in
    record { asked = p.asked; finished = p.finished; given = p.given }

pub changing-takes : (change : ShellState → ShellState) (go : Talk) → TalkTakesReplies go → TalkTakesReplies (changing change go)
changing-takes change go takes state replies =
    let p = takes (change state) replies in
    record { asked = p.asked; finished = p.finished; given = p.given }

pub checked-takes : {X : Type 0} (refused : Errno → Talk) (found : Result X Errno) (go : X → Talk) →
    ((errno : Errno) → TalkTakesReplies (refused errno)) → ((x : X) → TalkTakesReplies (go x)) →
    TalkTakesReplies (checked refused found go)
checked-takes refused (Ok x) go fails each = each x
checked-takes refused (Err errno) go fails each = fails errno

pub if-takes : (test : Bool) (a b : Talk) → TalkTakesReplies a → TalkTakesReplies b → TalkTakesReplies (if test then a else b)
if-takes true a b p q = p
if-takes false a b p q = q

abbrev pub RoundTakes : {S : Type 0} → Round S → Type 0
RoundTakes (Again stage) = Unit {0}
RoundTakes (After go) = TalkTakesReplies go

pub if-round : {S : Type 0} (test : Bool) (a b : Round S) → RoundTakes a → RoundTakes b → RoundTakes (if test then a else b)
if-round true a b p q = p
if-round false a b p q = q

round-takes : {S : Type 0} (again : S → List Reply → Answer) (found : Round S) (state : ShellState) (replies : List Reply) →
    RoundTakes found → ((stage : S) → TakesReplies (again stage replies) (λ more. again stage (replies ++ more))) →
    TakesReplies
    (round_talk (λ later now behind. again later replies) found state replies)
    (λ more. round_talk (λ later now behind. again later (replies ++ more)) found state (replies ++ more))
round-takes again (Again stage) state replies takes each = each stage
round-takes again (After go) state replies takes each = takes state replies

pub turning : {S : Type 0} (own : List Step) (step : S → Step) (round : S → Reply → Round S) →
    ((stage : S) (reply : Reply) → RoundTakes (round stage reply)) → (stage : S) → TalkTakesReplies (ask_in_turn own step round stage)
turning own step round each stage state [] =
    record { asked = λ e. refl; finished = λ e more. absurd (cc); given = λ e. absurd (cc) }
turning own step round each stage state (reply ∷ replies) =
    let p = round-takes (λ later behind. ask_in_turn own step round later state behind) (round stage reply) state replies
    (each stage reply) (λ later. turning own step round each later state replies) in
    record { asked = p.asked; finished = p.finished; given = p.given }

pub meaning-takes : {X : Type 0} (form : List ℕ) (found : Option X) (go : X → Talk) →
    ((x : X) → TalkTakesReplies (go x)) → TalkTakesReplies (meaning form found go)
meaning-takes form (Some x) go each = each x
meaning-takes form None go each = showing _

pub none-takes : (form : List ℕ) (go : Talk) → TalkTakesReplies go → (words : List (List ℕ)) → TalkTakesReplies (no_word form go words)
none-takes form go takes [] = takes
none-takes form go takes (a ∷ words) = showing _

pub one-takes : (form : List ℕ) (go : List ℕ → Talk) → ((a : List ℕ) → TalkTakesReplies (go a)) →
    (words : List (List ℕ)) → TalkTakesReplies (one_word form go words)
one-takes form go each [] = showing _
one-takes form go each (a ∷ []) = each a
one-takes form go each (a ∷ b ∷ words) = showing _

pub two-take : (form : List ℕ) (go : List ℕ → List ℕ → Talk) → ((a b : List ℕ) → TalkTakesReplies (go a b)) →
    (words : List (List ℕ)) → TalkTakesReplies (two_words form go words)
two-take form go each [] = showing _
two-take form go each (a ∷ []) = showing _
two-take form go each (a ∷ b ∷ []) = each a b
two-take form go each (a ∷ b ∷ c ∷ words) = showing _

pub three-take : (form : List ℕ) (go : List ℕ → List ℕ → List ℕ → Talk) → ((a b c : List ℕ) → TalkTakesReplies (go a b c)) →
    (words : List (List ℕ)) → TalkTakesReplies (three_words form go words)
three-take form go each [] = showing _
three-take form go each (a ∷ []) = showing _
three-take form go each (a ∷ b ∷ []) = showing _
three-take form go each (a ∷ b ∷ c ∷ []) = each a b c
three-take form go each (a ∷ b ∷ c ∷ d ∷ words) = showing _

pub four-take : (form : List ℕ) (go : List ℕ → List ℕ → List ℕ → List ℕ → Talk) → ((a b c d : List ℕ) → TalkTakesReplies (go a b c d)) →
    (words : List (List ℕ)) → TalkTakesReplies (four_words form go words)
four-take form go each [] = showing _
four-take form go each (a ∷ []) = showing _
four-take form go each (a ∷ b ∷ []) = showing _
four-take form go each (a ∷ b ∷ c ∷ []) = showing _
four-take form go each (a ∷ b ∷ c ∷ d ∷ []) = each a b c d
four-take form go each (a ∷ b ∷ c ∷ d ∷ e ∷ words) = showing _

abbrev pub OptionTakes : Option Talk → Type 0
OptionTakes None = Unit {0}
OptionTakes (Some talk) = TalkTakesReplies talk

-- one command more of a family
pub known : (test : Bool) (talk : Talk) (other : Option Talk) → TalkTakesReplies talk → OptionTakes other →
    OptionTakes (if test then Some talk else other)
known true talk other takes rest = takes
known false talk other takes rest = rest
