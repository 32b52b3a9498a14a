use Rattle.std.proofs.Common.{◌≡◌, ℕ, ◌^◌, ◌<◌, ◌≤◌, true, [], Option, Some, None, refl, ap, arith}
use Rattle.std.specs.Prelude.{MatchOption, IsSome, sum_by}
use Rattle.std.proofs.lemmas.Option.{MatchOption-at_some}
use Rattle.std.proofs.lemmas.List.Elements.{All-same}
use Rattle.slot_core.specs.Sets.Ranges.{graph_in_range}
use Rattle.slot_core.specs.Feasibility.Sporadics.{sporadic_demand}
use Rattle.demand_test.specs.Totals.{graph_work}
use Rattle.demand_test.proofs.CycleTotals.{demand-cycle}
use Rattle.slot_facts.proofs.Sets.Ranges.{SetRanges-from_sound}
use Rattle.slot_facts.proofs.Sets.Sizes.{graphs-from_sound, sporadic_demand-small}
use Rattle.demand_test.proofs.total.Goals as goal

-- a number below the limit is there
IsSome-from_small : (o : Option ℕ) (needed : ℕ) → MatchOption o (2 ^ 63 ≤ needed) (λ n. (n ≡ needed) × (n < 2 ^ 63)) → needed < 2 ^ 63 → IsSome o
IsSome-from_small None needed h small = absurd (omega arith)
IsSome-from_small (Some n) needed h small = refl

pub unwrap-arriving-requires : goal.unwrap-arriving-requires
unwrap-arriving-requires c =
    let set = c.args.tasks.now in
    let needed = sporadic_demand c.items.result.now [] 0 c.args.cycle in
    let small : needed < 2 ^ 63 = rw c.items.ensures (sporadic_demand-small set c.args.cycle c.requires.sound (omega arith)) in
    IsSome-from_small c.needed_by.result needed c.needed_by.ensures small

pub offline_slots-requires-clause-few : goal.offline_slots-requires-clause-few
offline_slots-requires-clause-few c =
    rw c.items-2.ensures (SetRanges-from_sound c.args.tasks.now c.requires.sound).count.1

pub offline_slots-requires-clause-in_range : goal.offline_slots-requires-clause-in_range
offline_slots-requires-clause-in_range c =
    All-same
    (λ graph. graph_in_range graph ≡ true)
    _
    _
    c.items-2.ensures
    (graphs-from_sound c.args.tasks.now c.requires.sound)

pub returns : goal.returns
returns c =
    let set = c.args.tasks.now in
    let cycle = c.args.cycle in
    let offline : sum_by (graph_work cycle) c.items-2.result.now ≡ sum_by (graph_work cycle) set.graphs = ap (sum_by (graph_work cycle)) c.items-2.ensures in
    let arriving = MatchOption-at_some (2 ^ 63 ≤ sporadic_demand c.items.result.now [] 0 cycle) (λ n. (n ≡ sporadic_demand c.items.result.now [] 0 cycle) × (n < 2 ^ 63)) c.unwrap-arriving.result c.unwrap-arriving.ensures c.needed_by.ensures in
    let same : sporadic_demand c.items.result.now [] 0 cycle ≡ sporadic_demand set.sporadics [] 0 cycle = ap (λ ss. sporadic_demand ss [] 0 cycle) c.items.ensures in
    let whole = demand-cycle set cycle c.requires.sound in
    omega arith
