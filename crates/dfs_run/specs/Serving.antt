-- How lines are served one after the other: read, run, and shown.
use Rattle.std.specs.Prelude.{◌≡◌, ℕ, ◌+◌, ◌-◌, ◌≤◌, Bool, true, false, Option, Some, None, List, [], ◌∷◌, ◌++◌, length, take, map, filter}
use Rattle.std.specs.List.{concat}
use Rattle.std.specs.Io.KnownBytes.{Appends, IsAtEnd, prepend_known}
use Rattle.vfs_base.specs.declared.entry.Entry.{Entry}
use Rattle.vfs_model.specs.Deck.{shell_deck}
use Rattle.vfs_model.specs.Script.{first_bad_from, is_ended, line_text, raw_lines}
use Rattle.vfs_model.specs.ScriptRun.{RunState, run_of, state_after}
use Rattle.dfs_input.specs.Known.{IsInput}
use Rattle.dfs_input.specs.LineReader.{ReaderState, ahead}
use Rattle.script_stage.specs.Scenes.{Scene, Script}
use Rattle.dfs_run.specs.Standing.{ComesBehind, StandsBehind, StopsBehind}

-- So many first lines show no more than so many bytes, by any steps that go on behind those of the scene.
abbrev pub ShowsUpTo : Scene → Script → List (List ℕ) → ℕ → ℕ → Type 0
ShowsUpTo scene base lines count size =
    (more : List Entry) (s : RunState) → state_after (shell_deck lines) base.describe (scene.schedule ++ more) ≡ Some s →
    length (concat (take count (run_of (shell_deck lines) s 1).blocks)) ≤ size

-- the line was run to its end, whatever lines come behind it, and its block was handed out
pub record RunsLine (old new : Scene) (line text : List ℕ) : Type 0 where
  pub stands : (base : Script) (lines : List (List ℕ)) (handed : List ℕ) →
      StandsBehind old base lines handed → StandsBehind new base (lines ++ line ∷ []) (handed ++ text)
  pub prompt : (base : Script) (lines : List (List ℕ)) (handed : List ℕ) →
      StandsBehind old base lines handed → ShowsUpTo new base (lines ++ line ∷ []) (length lines) (length handed)

-- memory was wanting in the line's command
pub record GivesUp (old new : Scene) (line : List ℕ) : Type 0 where
  pub stops : (base : Script) (lines : List (List ℕ)) (handed : List ℕ) →
      StandsBehind old base lines handed → StopsBehind new base (lines ++ line ∷ []) handed
  pub prompt : (base : Script) (lines : List (List ℕ)) (handed : List ℕ) →
      StandsBehind old base lines handed → ShowsUpTo new base (lines ++ line ∷ []) (length lines) (length handed)

-- All that a moment between two lines is told by: what was read, what is still to come (where that is known),
-- the stage, and what was written (where that is known).
pub record Moment : Type 0 where
  pub number : ℕ
  pub size : ℕ
  pub at_end : Bool
  pub ahead : Option (List ℕ)
  pub stage : Scene
  pub written : Option (List ℕ)

-- the moment of a reader and a stage, where the source has these bytes left and the sink holds those
abbrev pub moment_of : ReaderState → Scene → Option (List ℕ) → Option (List ℕ) → Moment
moment_of reader stage left written = record {
  number = reader.number;
  size = reader.size;
  at_end = reader.at_end;
  ahead = ahead reader left;
  stage = stage;
  written = written;
}

-- before the first line
abbrev pub opening_moment : Scene → Option (List ℕ) → Option (List ℕ) → Moment
opening_moment stage left written = record {
  number = 0;
  size = 0;
  at_end = false;
  ahead = prepend_known [] left;
  stage = stage;
  written = written;
}

-- a reader that saw the end of the input has a source with nothing left
abbrev pub KnowsEnd : ReaderState → Option (List ℕ) → Type 0
KnowsEnd reader left = reader.at_end ≡ true → IsAtEnd left

-- whatever comes, these lines stood in front of it
pub record ComeFirst (before after : Option (List ℕ)) (raws : List (List ℕ)) : Type 0 where
  pub taken : (rest : List ℕ) → IsInput after rest → IsInput before (concat raws ++ rest)
  pub lines : (rest : List ℕ) → IsInput after rest → raw_lines (concat raws ++ rest) ≡ raws ++ raw_lines rest

-- the lines are whole, whatever follows them
abbrev pub AreWhole : List (List ℕ) → Type 0
AreWhole raws = (rest : List ℕ) → filter is_ended (raw_lines (concat raws ++ rest)) ≡ raws ++ filter is_ended (raw_lines rest)

-- From one moment to another lines were read, run and shown, one after the other.
pub record Serves (old new : Moment) : Type 0 where
  pub raws : List (List ℕ)
  pub text : List ℕ
  pub number : new.number ≡ old.number + length raws
  pub size : new.size ≡ old.size + length (concat raws)
  pub form : first_bad_from (old.number + 1) old.size raws ≡ None
  pub reads : ComeFirst old.ahead new.ahead raws
  pub started : new.at_end ≡ false → old.at_end ≡ false
  pub whole : new.at_end ≡ false → AreWhole raws
  pub written : Appends old.written new.written text
  pub stands : (base : Script) (lines : List (List ℕ)) (handed : List ℕ) →
      StandsBehind old.stage base lines handed → StandsBehind new.stage base (lines ++ map line_text raws) (handed ++ text)

-- Lines were posted, and a front of their text was written, with the blocks of all lines but the last. Where it is done, all of them
-- were finished.
pub record Posts (old : Moment) (stage : Scene) (sink : Option (List ℕ)) (done : Bool) : Type 0 where
  pub raws : List (List ℕ)
  pub text : List ℕ
  pub count : ℕ
  pub bytes : List ℕ
  pub later : List (List ℕ)
  pub reads : IsInput old.ahead bytes
  pub lines : raw_lines bytes ≡ raws ++ later
  pub fits : count ≤ length text
  pub written : Appends old.written sink (take count text)
  pub comes : (base : Script) (lines : List (List ℕ)) (handed : List ℕ) →
      StandsBehind old.stage base lines handed → ComesBehind done stage base (lines ++ map line_text raws) (handed ++ text)
  pub prompt : (base : Script) (lines : List (List ℕ)) (handed : List ℕ) → StandsBehind old.stage base lines handed →
      ShowsUpTo stage base (lines ++ map line_text raws) (length lines + (length raws - 1)) (length handed + count)
