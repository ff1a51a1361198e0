-- What a reader of lines holds between two lines, and what the reading of a line does.
use Rattle.std.specs.Prelude.{◌≡◌, ◌≢◌, ℕ, ◌+◌, ◌<◌, ◌≤◌, ◌||◌, Bool, true, false, nat_lt, List, [], ◌∷◌, ◌++◌, length, take, drop, Option, Some, Result, Ok, Err, ⊤, if◌then◌else◌}
use Rattle.std.specs.List.{All}
use Rattle.std.specs.Io.KnownBytes.{prepend_known, Consumes, Keeps, IsAtEnd}
use Rattle.vfs_model.specs.Script.{raw_lines, without_return, is_ended, line_text, whole_lines, is_bad_line}
use Rattle.vfs_outside.specs.Causes.{Rose}
use Rattle.dfs_input.specs.declared.line_reader.ReadStop.{ReadStop}
use Rattle.dfs_input.specs.declared.line_reader.ReadStop.TheVariants.{NoMemory, BadLine, Failed}
use Rattle.dfs_input.specs.Known.{IsInput}

-- the lines read whole so far, the bytes of these with their ends, the bytes that came and belong to later lines, and whether the end was seen
pub record ReaderState : Type 0 where
  pub number : ℕ
  pub size : ℕ
  pub buffered : List ℕ
  pub at_end : Bool

-- the bytes still to come, where they are known: of a source whose end was seen none come any more
abbrev pub ahead : ReaderState → Option (List ℕ) → Option (List ℕ)
ahead reader left = prepend_known reader.buffered (if reader.at_end then Some [] else left)

-- whatever comes behind, this is the first line of what was to come, and the later ones are the lines of what comes
abbrev pub TakesLine : Option (List ℕ) → Option (List ℕ) → List ℕ → Type 0
TakesLine before after raw =
    (rest : List ℕ) → IsInput after rest → IsInput before (raw ++ rest) × (raw_lines (raw ++ rest) ≡ raw ∷ raw_lines rest)

-- a line in the form was read whole, and this is its text; the source had `before` left, and has `after`
pub record ReadsLine (old new : ReaderState) (before after : Option (List ℕ)) (line : List ℕ) : Type 0 where
  pub raw : List ℕ
  pub some : 0 < length raw
  pub single : raw_lines raw ≡ raw ∷ []
  pub text : line ≡ line_text raw
  pub form : is_bad_line old.size raw ≡ false
  pub takes : TakesLine (ahead old before) (ahead new after) raw
  pub ended : new.at_end ≡ false → is_ended raw ≡ true
  pub number : new.number ≡ old.number + 1
  pub size : new.size ≡ old.size + length raw
  pub within : new.size ≤ 16777216

-- the end was reached, and no byte came before it
pub record ReadsEnd (old new : ReaderState) (before : Option (List ℕ)) : Type 0 where
  pub nothing : IsAtEnd (ahead old before)
  pub buffered : old.buffered ≡ []
  pub reader : new ≡ record old { at_end = true }

-- the first line of these bytes, which come after that many, is outside the form
pub record BeginsBad (size : ℕ) (bytes : List ℕ) : Type 0 where
  pub raw : List ℕ
  pub raws : List (List ℕ)
  pub lines : raw_lines bytes ≡ raw ∷ raws
  pub bad : is_bad_line size raw ≡ true

-- bytes that may have been to come, after that many others, begin with a line outside the form: those that were told, where they were
pub record BeginsBadLine (size : ℕ) (told : Option (List ℕ)) : Type 0 where
  pub bytes : List ℕ
  pub input : IsInput told bytes
  pub begins : BeginsBad size bytes

-- these first bytes of a line put it outside the form, whatever follows them
abbrev pub is_past_form : ℕ → List ℕ → Bool
is_past_form size held = nat_lt 1024 (length (without_return held)) || nat_lt 16777216 (size + length held)

-- the source failed inside a line, whose first bytes were read
pub record StopsInLine (old new : ReaderState) (before after : Option (List ℕ)) : Type 0 where
  pub partial : List ℕ
  pub consumes : Consumes (ahead old before) after partial
  pub unended : whole_lines partial ≡ []
  pub form : is_past_form old.size partial ≡ false
  pub buffered : new.buffered ≡ []
  pub at_end : new.at_end ≡ false

-- why no line was read: the next one is outside the form, or the source failed before it came whole
abbrev pub StopsReading : ReaderState → ReaderState → Option (List ℕ) → Option (List ℕ) → ReadStop → Type 0
StopsReading old new before after NoMemory = ⊤
StopsReading old new before after BadLine = BeginsBadLine old.size (ahead old before)
StopsReading old new before after Failed = StopsInLine old new before after

-- the source's count of faults rose exactly where the source failed
abbrev pub HasReadCause : {T : Type 0} → ℕ → ℕ → Result T ReadStop → Type 0
HasReadCause before now (Ok line) = now ≡ before
HasReadCause before now (Err NoMemory) = now ≡ before
HasReadCause before now (Err BadLine) = now ≡ before
HasReadCause before now (Err Failed) = (before ≤ now) × Rose before now

-- no line feed is among the bytes
abbrev pub HasNoFeed : List ℕ → Type 0
HasNoFeed bytes = All (λ byte. byte ≢ 10) bytes

-- the first line feed is at that place
pub record SplitsAtFeed (bytes : List ℕ) (at : ℕ) : Type 0 where
  pub within : at < length bytes
  pub unended : HasNoFeed (take at bytes)
  pub feed : bytes ≡ take at bytes ++ 10 ∷ drop (at + 1) bytes

-- bytes may have been read, and those to come are the same
pub record Fills (old new : ReaderState) (before after : Option (List ℕ)) : Type 0 where
  pub keeps : Keeps (ahead old before) (ahead new after)
  pub number : new.number ≡ old.number
  pub size : new.size ≡ old.size

-- all that was buffered went on the line, and no line feed was among it
pub record HoldsAll (old new : ReaderState) (held now : List ℕ) : Type 0 where
  pub unended : HasNoFeed old.buffered
  pub line : now ≡ held ++ old.buffered
  pub form : is_past_form old.size now ≡ false
  pub reader : new ≡ record old { buffered = [] }

-- a line feed that was buffered ended the line
pub record EndsLine (old new : ReaderState) (held line : List ℕ) : Type 0 where
  pub part : List ℕ
  pub feed : old.buffered ≡ part ++ 10 ∷ new.buffered
  pub unended : HasNoFeed part
  pub text : line ≡ without_return (held ++ part)
  pub form : is_bad_line old.size ((held ++ part) ++ 10 ∷ []) ≡ false
  pub number : new.number ≡ old.number + 1
  pub size : new.size ≡ old.size + length ((held ++ part) ++ 10 ∷ [])
  pub within : new.size ≤ 16777216

-- it stops at want of memory, or since the line that begins with these bytes is past the form
abbrev pub StopsPastForm : ℕ → List ℕ → ReadStop → Type 0
StopsPastForm size held NoMemory = ⊤
StopsPastForm size held BadLine = is_past_form size held ≡ true
StopsPastForm size held Failed = ⊥

-- it stops since the input would have that many bytes, more than it may
abbrev pub StopsPastSize : ℕ → ReadStop → Type 0
StopsPastSize size NoMemory = ⊥
StopsPastSize size BadLine = 16777216 < size
StopsPastSize size Failed = ⊥

-- it stops at want of memory, or since the line is bad, whatever follows
abbrev pub StopsAtBadLine : ℕ → List ℕ → ReadStop → Type 0
StopsAtBadLine size bytes NoMemory = ⊤
StopsAtBadLine size bytes BadLine = (more : List ℕ) → BeginsBad size (bytes ++ more)
StopsAtBadLine size bytes Failed = ⊥

-- what is held at the end of the input is a line in the form
pub record LastLine (old new : ReaderState) (held line : List ℕ) : Type 0 where
  pub some : 0 < length held
  pub text : line ≡ held
  pub form : is_bad_line old.size held ≡ false
  pub reader : new ≡ record old { number = old.number + 1; size = old.size + length held }
  pub within : new.size ≤ 16777216

-- it stops since what is held at the end of the input is a line outside the form
abbrev pub StopsAtLastLine : ℕ → List ℕ → ReadStop → Type 0
StopsAtLastLine size held NoMemory = ⊥
StopsAtLastLine size held BadLine = BeginsBad size held
StopsAtLastLine size held Failed = ⊥
