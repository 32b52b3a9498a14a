-- The set of a load is sound and feasible.
use Rattle.std.proofs.Common.{◌≡◌, List, [], ◌∷◌, sym, ap, ap₂, subst, ◌∙◌, rules}
use Rattle.slot_core.specs.declared.tasks.Graph.{Graph}
use Rattle.slot_core.specs.declared.tasks.Sporadic.{Sporadic}
use Rattle.slot_core.specs.declared.tasks.TaskSet.{TaskSet}
use Rattle.slot_core.specs.Sets.Cycles.{cycle_of}
use Rattle.slot_core.specs.Feasibility.Feasible.{IsFeasible}
use Rattle.slot_core.specs.Sets.Ranges.{is_sound}
use Rattle.load_gen.specs.Loads.{load_sporadic}
use Rattle.load_gen.proofs.Sound.{load_set-sound}
use Rattle.load_gen.proofs.Feasible.{load_set-feasible}
use Rattle.load_gen.proofs.sets.tasks_of.Goals as goal

pub returns-clause-sound : goal.returns-clause-sound
returns-clause-sound c =
    let sporadics : c.push.new.self ≡ load_sporadic ∷ [] = search rules in
    let whole = ap₂ (λ (graphs : List Graph) (sporadics : List Sporadic). let set : TaskSet = record { soft_limit = 8; graphs = graphs; sporadics = sporadics } in set) c.in_ok-graphs.ensures sporadics in
    ap is_sound whole ∙ load_set-sound c.args.n c.requires.some c.requires.few

pub returns-clause-feasible : goal.returns-clause-feasible
returns-clause-feasible c =
    let sporadics : c.push.new.self ≡ load_sporadic ∷ [] = search rules in
    let whole = ap₂ (λ (graphs : List Graph) (sporadics : List Sporadic). let set : TaskSet = record { soft_limit = 8; graphs = graphs; sporadics = sporadics } in set) c.in_ok-graphs.ensures sporadics in
    subst (λ (set : TaskSet). IsFeasible set (cycle_of set)) (sym whole) (load_set-feasible c.args.n c.requires.some c.requires.few)
