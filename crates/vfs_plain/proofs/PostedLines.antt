-- The lines of a script for one session, from a place on.
use Rattle.std.proofs.Common.{◌≡◌, ◌∙◌, ℕ, suc, ◌+◌, ◌<◌, ◌≤◌, List, [], ◌++◌, drop, length, get_or, sym, ap, add-one}
use Rattle.std.proofs.Math.Seq.{drop-cons}
use Rattle.std.proofs.lemmas.List.{drop_all}
use Rattle.std.specs.List.{flat_map}
use Rattle.vfs_base.specs.declared.deck.Act.{Act}
use Rattle.vfs_model.specs.Deck.{posted_to}
use Rattle.vfs_plain.specs.ScriptSessions.{lines_from}

-- what the act at a place posts to the session comes first
pub lines-at : (k : ℕ) (acts : List Act) (place : ℕ) (act : Act) → place < length acts → act ≡ get_or acts place act →
    lines_from k acts place ≡ posted_to k act ++ lines_from k acts (place + 1)
lines-at k acts place act within is =
    ap (flat_map (posted_to k)) (drop-cons acts place act within)
    ∙ ap (λ a. posted_to k a ++ flat_map (posted_to k) (drop (suc place) acts)) (sym is)
    ∙ ap (λ n. posted_to k act ++ flat_map (posted_to k) (drop n acts)) (sym (add-one place))

-- no line is left behind the last act
pub lines-past : (k : ℕ) (acts : List Act) (place : ℕ) → length acts ≤ place → lines_from k acts place ≡ []
lines-past k acts place past = ap (flat_map (posted_to k)) (drop_all place acts past)
