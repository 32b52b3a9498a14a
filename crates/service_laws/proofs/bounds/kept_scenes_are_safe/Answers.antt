use Rattle.slot_facts.proofs.Bounds.Safe.{kept_scenes_are_safe}
use Rattle.service_laws.proofs.bounds.kept_scenes_are_safe.Goals as goal

pub returns : goal.returns
returns c = kept_scenes_are_safe
