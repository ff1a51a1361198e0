use Rattle.vfs_model.proofs.TranscriptLemmas.{all-taken, defined, defined-state, each-taken}
use Rattle.vfs_model.proofs.laws.transcript_needs_each_entry.Goals as goal

pub returns : goal.returns
returns c shape deck describe schedule = (
  λ d. each-taken deck describe schedule (defined-state shape deck describe schedule d),
  λ h. defined shape deck describe schedule (all-taken deck describe schedule h),
)
