use Rattle.slot_cli.proofs.VerifiedRuns.{replayed-is_verified}
use Rattle.slot_cli.proofs.laws.a_replayed_trace_is_verified.Goals as goal

pub returns : goal.returns
returns c = replayed-is_verified
