-- The command line as `clap` reads it.
use Rattle.std.specs.Prelude.{ℕ, Bool, true, List, [], ◌∷◌, codes}
use Rattle.std.specs.List.{list_any}
use Rattle.std.specs.Str.{bytes_eq}
use Rattle.clap.specs.Walk.{Rule}
use Rattle.clap.specs.Simple.{App, new_app, new_rule, on_top, with_rule}

-- the word is `--`
abbrev pub is_escape : List ℕ → Bool
is_escape word = bytes_eq word (45 ∷ 45 ∷ [])

-- one of the words is `--`
abbrev pub has_escape : List (List ℕ) → Bool
has_escape words = list_any is_escape words

-- the mode's argument: it has no flag, and must be there
abbrev pub mode_rule : Rule
mode_rule = record (new_rule (codes "MODE")) { required = true }

-- one command with the one argument: no program's name before it, no help and no version
abbrev pub grammar : App
grammar = with_rule (on_top (λ top. record top { no_binary_name = true; disable_help_flag = true }) (new_app (codes "dfs"))) mode_rule
