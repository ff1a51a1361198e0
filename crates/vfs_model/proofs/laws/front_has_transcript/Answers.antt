use Rattle.std.proofs.Common.{◌++◌}
use Rattle.vfs_model.proofs.TranscriptLemmas.{defined, defined-state, front-taken}
use Rattle.vfs_model.proofs.laws.front_has_transcript.Goals as goal

pub returns : goal.returns
returns c shape deck describe front rest d = defined shape deck describe front (front-taken deck describe front rest (defined-state shape deck describe (front ++ rest) d))
