-- The plan of the pair: its binary tables and its text. Each holds by computing the definitions.
use Rattle.std.specs.Prelude.{◌≡◌, ℕ, List, [], ◌∷◌, ◌++◌, codes, length, reverse, refl}
use Rattle.std.specs.Fmt.{digits}
use Rattle.std.proofs.lemmas.Bool.{false≢true}
use Rattle.std.proofs.lemmas.List.Sorted.{IsPermutation-refl}
use Rattle.slot_core.specs.Offline.OfflineJobs.{cycle_jobs}
use Rattle.slot_core.specs.Keeping.Plans.{PlanParts, IsPlan, plan_spans}
use Rattle.slot_core.specs.Output.Reports.{show_text}
use Rattle.table_codec.specs.Grammar.{first_spelling, spelling}
use Rattle.slot_facts.proofs.Demand.Feasible.{IsFeasible-from_none}
use Rattle.sample_sets.specs.Sets.{pair_set}
use Rattle.slot_examples.specs.Lines.{lines}

-- its jobs already stand in deadline order
abbrev pub pair_plan : PlanParts
pair_plan = record {
  tasks = pair_set;
  cycle = 8;
  jobs = cycle_jobs pair_set 8 0;
  spans = plan_spans pair_set 8;
}

-- it is a plan
pub pair_plan_is_a_plan : IsPlan pair_plan
pair_plan_is_a_plan =
    record {
      sound = refl;
      cycle = refl;
      feasible = IsFeasible-from_none pair_set 8 refl;
      jobs = IsPermutation-refl pair_plan.jobs;
      ordered = ((refl, tt), (tt, tt));
      spans = refl;
    }

-- with its jobs in reverse it is none
pub jobs_in_reverse : IsPlan (record pair_plan { jobs = reverse pair_plan.jobs }) → ⊥
jobs_in_reverse plan = false≢true (plan.ordered.0.0)

-- SLOT, version 1, soft limit 64
abbrev head : List ℕ
head = 0x53 ∷ 0x4C ∷ 0x4F ∷ 0x54 ∷ 0x01 ∷ 0x00 ∷ 0x40 ∷ 0x00 ∷ []

-- one graph: g, period 8, offset 0, deadline 8, two tasks
abbrev graph : List ℕ
graph =
    0x01 ∷ 0x00
    ∷ 0x01 ∷ 0x67 ∷ 0x08 ∷ 0x00 ∷ 0x00 ∷ 0x00 ∷ 0x08 ∷ 0x00 ∷ 0x02 ∷ 0x00
    ∷ []

-- a, wcet 2, after nothing; b, wcet 1, after task 0; and no sporadic task
abbrev tasks : List ℕ
tasks =
    0x01 ∷ 0x61 ∷ 0x02 ∷ 0x00 ∷ 0x00 ∷ 0x00
    ∷ 0x01 ∷ 0x62 ∷ 0x01 ∷ 0x00 ∷ 0x01 ∷ 0x00 ∷ 0x00 ∷ 0x00
    ∷ 0x00 ∷ 0x00
    ∷ []

-- two jobs: g.a#0 from 0 to 7, 2 slots, and g.b#0 from 2 to 8, 1 slot
abbrev jobs : List ℕ
jobs =
    0x02 ∷ 0x00 ∷ 0x00 ∷ 0x00
    ∷ 0x00 ∷ 0x00 ∷ 0x00 ∷ 0x00 ∷ 0x00 ∷ 0x00 ∷ 0x00 ∷ 0x00 ∷ 0x07 ∷ 0x00 ∷ 0x02 ∷ 0x00
    ∷ 0x00 ∷ 0x00 ∷ 0x01 ∷ 0x00 ∷ 0x00 ∷ 0x00 ∷ 0x02 ∷ 0x00 ∷ 0x08 ∷ 0x00 ∷ 0x01 ∷ 0x00
    ∷ []

-- two spans: 0 to 7, work 2, spare 5, and 7 to 8, work 1, spare 0
abbrev spans : List ℕ
spans =
    0x02 ∷ 0x00 ∷ 0x00 ∷ 0x00
    ∷ 0x00 ∷ 0x00 ∷ 0x07 ∷ 0x00 ∷ 0x02 ∷ 0x00 ∷ 0x05 ∷ 0x00 ∷ 0x00 ∷ 0x00
    ∷ 0x07 ∷ 0x00 ∷ 0x08 ∷ 0x00 ∷ 0x01 ∷ 0x00 ∷ 0x00 ∷ 0x00 ∷ 0x00 ∷ 0x00
    ∷ []

-- its first version has these bytes, which are 88
pub first_table_of_the_pair : first_spelling pair_plan ≡ head ++ graph ++ tasks ++ jobs ++ spans
first_table_of_the_pair = refl

pub length_of_the_first_table : length (first_spelling pair_plan) ≡ 88
length_of_the_first_table = refl

-- SLOT, version 2, soft limit 64
abbrev second_head : List ℕ
second_head = 0x53 ∷ 0x4C ∷ 0x4F ∷ 0x54 ∷ 0x02 ∷ 0x00 ∷ 0x40 ∷ 0x00 ∷ 0x00 ∷ 0x00 ∷ []

-- one graph: g, period 8, offset 0, deadline 8, two tasks
abbrev second_graph : List ℕ
second_graph =
    0x01 ∷ 0x00
    ∷ 0x01 ∷ 0x67 ∷ 0x08 ∷ 0x00 ∷ 0x00 ∷ 0x00 ∷ 0x00 ∷ 0x00 ∷ 0x00 ∷ 0x00
    ∷ 0x08 ∷ 0x00 ∷ 0x00 ∷ 0x00 ∷ 0x02 ∷ 0x00
    ∷ []

-- a, wcet 2, after nothing; b, wcet 1, after task 0; and no sporadic task
abbrev second_tasks : List ℕ
second_tasks =
    0x01 ∷ 0x61 ∷ 0x02 ∷ 0x00 ∷ 0x00 ∷ 0x00 ∷ 0x00 ∷ 0x00
    ∷ 0x01 ∷ 0x62 ∷ 0x01 ∷ 0x00 ∷ 0x00 ∷ 0x00 ∷ 0x01 ∷ 0x00 ∷ 0x00 ∷ 0x00
    ∷ 0x00 ∷ 0x00
    ∷ []

-- two jobs: g.a#0 from 0 to 7, 2 slots, and g.b#0 from 2 to 8, 1 slot
abbrev second_jobs : List ℕ
second_jobs =
    0x02 ∷ 0x00 ∷ 0x00 ∷ 0x00
    ∷ 0x00 ∷ 0x00 ∷ 0x00 ∷ 0x00 ∷ 0x00 ∷ 0x00 ∷ 0x00 ∷ 0x00
    ∷ 0x00 ∷ 0x00 ∷ 0x00 ∷ 0x00 ∷ 0x07 ∷ 0x00 ∷ 0x00 ∷ 0x00 ∷ 0x02 ∷ 0x00 ∷ 0x00 ∷ 0x00
    ∷ 0x00 ∷ 0x00 ∷ 0x01 ∷ 0x00 ∷ 0x00 ∷ 0x00 ∷ 0x00 ∷ 0x00
    ∷ 0x02 ∷ 0x00 ∷ 0x00 ∷ 0x00 ∷ 0x08 ∷ 0x00 ∷ 0x00 ∷ 0x00 ∷ 0x01 ∷ 0x00 ∷ 0x00 ∷ 0x00
    ∷ []

-- two spans: 0 to 7, work 2, spare 5, and 7 to 8, work 1, spare 0
abbrev second_spans : List ℕ
second_spans =
    0x02 ∷ 0x00 ∷ 0x00 ∷ 0x00
    ∷ 0x00 ∷ 0x00 ∷ 0x00 ∷ 0x00 ∷ 0x07 ∷ 0x00 ∷ 0x00 ∷ 0x00 ∷ 0x02 ∷ 0x00 ∷ 0x00 ∷ 0x00
    ∷ 0x05 ∷ 0x00 ∷ 0x00 ∷ 0x00 ∷ 0x00 ∷ 0x00 ∷ 0x00 ∷ 0x00
    ∷ 0x07 ∷ 0x00 ∷ 0x00 ∷ 0x00 ∷ 0x08 ∷ 0x00 ∷ 0x00 ∷ 0x00 ∷ 0x01 ∷ 0x00 ∷ 0x00 ∷ 0x00
    ∷ 0x00 ∷ 0x00 ∷ 0x00 ∷ 0x00 ∷ 0x00 ∷ 0x00 ∷ 0x00 ∷ 0x00
    ∷ []

-- its second version has these bytes, which are 136
pub table_of_the_pair :
    spelling pair_plan
    ≡ second_head ++ second_graph ++ second_tasks ++ second_jobs ++ second_spans
table_of_the_pair = refl

pub length_of_the_table : length (spelling pair_plan) ≡ 136
length_of_the_table = refl

-- what is shown of the plan
pub shown_plan_of_the_pair :
    show_text pair_plan
    ≡ lines
    (codes "plan cycle 8 soft 64 graphs 1 sporadics 0 jobs 2 spans 2"
    ∷ codes "job g.a#0 0 7 2"
    ∷ codes "job g.b#0 2 8 1"
    ∷ codes "span 0 7 2 5"
    ∷ codes "span 7 8 1 0"
    ∷ [])
unfolding digits
shown_plan_of_the_pair = refl
