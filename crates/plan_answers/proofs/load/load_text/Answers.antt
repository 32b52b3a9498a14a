use Rattle.std.proofs.Common.{◌≡◌, true}
use Rattle.std.proofs.lemmas.Bool.{and_parts}
use Rattle.std.proofs.lemmas.List.Elements.{All-same}
use Rattle.slot_core.specs.Sets.Ranges.{graph_in_range, sporadic_in_range}
use Rattle.std.proofs.lemmas.List.Sums.{AllPass-from_list_all}
use Rattle.slot_facts.proofs.Sets.Ranges.{SetRanges-from_sound}
use Rattle.slot_facts.proofs.Sets.Sizes.{graphs-from_sound}
use Rattle.graph_unroll.proofs.RangeLemmas.{lengths_in_range}
use Rattle.plan_answers.proofs.load.load_text.Goals as goal

pub cycle_of-requires : goal.cycle_of-requires
cycle_of-requires c = lengths_in_range c.args.tasks.now (and_parts _ _ c.requires).0

pub push_graphs-requires : goal.push_graphs-requires
push_graphs-requires c =
    All-same (λ graph. graph_in_range graph ≡ true) _ _ c.items.ensures (graphs-from_sound c.args.tasks.now c.requires)

pub push_sporadics-requires-clause-in_range : goal.push_sporadics-requires-clause-in_range
push_sporadics-requires-clause-in_range c =
    let set = c.args.tasks.now in
    All-same (λ s. sporadic_in_range s ≡ true) _ _ c.items-2.ensures (AllPass-from_list_all sporadic_in_range set.sporadics (SetRanges-from_sound set c.requires).sporadics)
