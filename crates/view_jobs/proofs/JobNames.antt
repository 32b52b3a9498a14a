-- A name is that of a job exactly where the set has its key by this name.
use Rattle.std.proofs.Common.{◌≡◌, true, false, Option, Some, None, ap}
use Rattle.std.specs.Prelude.{◌↔◌}
use Rattle.std.specs.Option.{option_map_or}
use Rattle.slot_core.specs.declared.jobs.Key.{Key}
use Rattle.slot_core.specs.Offline.Keys.{same_key}
use Rattle.slot_facts.proofs.Choice.Earliest.{same_from_key}
use Rattle.slot_facts.proofs.Lists.ApartKeys.{same_key-itself}

pub named-by : (key : Key) (o : Option Key) → (option_map_or (λ k. same_key k key) o false ≡ true) ↔ (o ≡ Some key)
named-by key None = ((λ no. absurd (cc no)), (λ no. absurd (cc no)))
named-by key (Some k) =
    ((λ same. ap Some (same_from_key k key same)), (λ is. same_key-itself k key (cc is)))
