use Rattle.std.proofs.Common.{◌∙◌}
use Rattle.vfs_model.specs.ScriptRun.{opening_state}
use Rattle.vfs_model.proofs.TranscriptLemmas.{transcript-defined}
use Rattle.vfs_model.proofs.UntakenLemmas.{first-untaken, untaken-first, untaken-none}
use Rattle.vfs_model.proofs.laws.undefined_transcript_has_place.Goals as goal

pub returns : goal.returns
returns c shape deck describe schedule = (
  transcript-defined shape deck describe schedule ∙ untaken-none 0 deck (opening_state deck describe) schedule,
  first-untaken deck describe schedule,
  untaken-first deck describe schedule,
)
