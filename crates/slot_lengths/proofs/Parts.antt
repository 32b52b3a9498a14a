-- What ranges say of the cycle of the graphs of a set.
use Rattle.std.proofs.Common.{◌≡◌, ℕ, ◌≤◌, true, ap, ◌∙◌, append-nil}
use Rattle.std.specs.List.{list_all}
use Rattle.std.proofs.lemmas.Bool.{and_from, le-leb}
use Rattle.slot_core.specs.declared.TheConstants.{SLOT_LIMIT}
use Rattle.slot_core.specs.declared.tasks.TaskSet.{TaskSet}
use Rattle.slot_core.specs.Sets.Cycles.{cycle_lengths, cycle_of}
use Rattle.slot_core.specs.Sets.Ranges.{is_between, is_in_range}
use Rattle.graph_unroll.specs.Multiples.{periods_of, separations_of}
use Rattle.graph_unroll.proofs.MultipleLemmas.{all-append, le-fold}
use Rattle.graph_unroll.proofs.RangeLemmas.{lengths_in_range}
use Rattle.slot_lengths.specs.Shorter.{graphs_alone}

pub between : (low high n : ℕ) → low ≤ n → n ≤ high → is_between low high n ≡ true
between low high n h k = and_from _ _ (le-leb low n h) (le-leb n high k)

-- the periods are in their range, and the separations
pub periods-separations : (set : TaskSet) → is_in_range set ≡ true → (list_all (is_between 1 SLOT_LIMIT) (periods_of set.graphs) ≡ true) × (list_all (is_between 1 SLOT_LIMIT) (separations_of set.sporadics) ≡ true)
periods-separations set h =
    all-append (is_between 1 SLOT_LIMIT) (periods_of set.graphs) (separations_of set.sporadics) (lengths_in_range set h)

-- so are the lengths of the graphs alone
pub alone-lengths : (set : TaskSet) → is_in_range set ≡ true → list_all (is_between 1 SLOT_LIMIT) (cycle_lengths (graphs_alone set)) ≡ true
alone-lengths set h =
    ap (list_all (is_between 1 SLOT_LIMIT)) (append-nil (periods_of set.graphs)) ∙ (periods-separations set h).0

-- and their cycle is at least one slot
pub alone-positive : (set : TaskSet) → is_in_range set ≡ true → 1 ≤ cycle_of (graphs_alone set)
alone-positive set h = le-fold 1 (cycle_lengths (graphs_alone set)) (alone-lengths set h)
