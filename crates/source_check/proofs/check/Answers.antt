-- What the ranges say of the sizes and of the lengths of the cycle.
use Rattle.std.proofs.Common.{rules, ◌≡◌, ◌≤◌, [], length, map, None, Some, Err, sym, subst}
use Rattle.slot_core.specs.declared.TheConstants.{SPORADIC_LIMIT}
use Rattle.slot_core.specs.declared.faults.Part.TheVariants.{Sporadic as SporadicPart}
use Rattle.slot_core.specs.declared.tasks.Sporadic.{Sporadic}
use Rattle.slot_core.specs.Sets.Faults.{after_fault, first_fault, graph_names_fault, loop_fault, names_fault, set_fault}
use Rattle.slot_facts.proofs.Sets.Ranges.{few_sporadics}
use Rattle.graph_unroll.proofs.RangeLemmas.{lengths_in_range}
use Rattle.source_check.specs.Checks.{AreFew}
use Rattle.source_check.proofs.RangeLemmas.{AreFew-from_range}
use Rattle.source_check.proofs.FaultSteps.{fault_of_second, fault_of_third, fault_of_fourth, fault_of_fifth, tells-whole}
use Rattle.source_check.proofs.check.Goals as goal

pub check_graph_names-requires : goal.check_graph_names-requires
check_graph_names-requires c =
    subst AreFew (sym c.items-graphs.ensures) (AreFew-from_range c.args.tasks.now c.requires)

pub check_sporadic_names-requires : goal.check_sporadic_names-requires
check_sporadic_names-requires c =
    subst (λ s. length s ≤ SPORADIC_LIMIT) (sym c.items.ensures) (few_sporadics c.args.tasks.now c.requires)

pub check_entries-requires : goal.check_entries-requires
check_entries-requires c =
    subst AreFew (sym c.items-graphs.ensures) (AreFew-from_range c.args.tasks.now c.requires)

pub check_loops-requires-clause-few : goal.check_loops-requires-clause-few
check_loops-requires-clause-few c =
    subst AreFew (sym c.items-graphs.ensures) (AreFew-from_range c.args.tasks.now c.requires)

pub check_cycle-requires : goal.check_cycle-requires
check_cycle-requires c = lengths_in_range c.args.tasks.now c.requires

pub returns-in_err-check_sporadic_names-clause-fault : goal.returns-in_err-check_sporadic_names-clause-fault
returns-in_err-check_sporadic_names-clause-fault c =
    let graphs : graph_names_fault [] 0 c.args.tasks.now.graphs ≡ None = search rules in
    let fault : names_fault SporadicPart [] 0 (map (λ (s : Sporadic). s.name) c.args.tasks.now.sporadics) ≡ Some c.in_err-check_sporadic_names.field-0.0 = search rules in
    let same : c.from_residual-in_err-check_sporadic_names.result ≡ Err c.in_err-check_sporadic_names.field-0.0 = search rules in
    rw same (λ other. fault_of_second _ _ _ _ graphs fault)

pub returns-in_err-check_entries-clause-fault : goal.returns-in_err-check_entries-clause-fault
returns-in_err-check_entries-clause-fault c =
    let graphs : graph_names_fault [] 0 c.args.tasks.now.graphs ≡ None = search rules in
    let sporadics : names_fault SporadicPart [] 0 (map (λ (s : Sporadic). s.name) c.args.tasks.now.sporadics) ≡ None = search rules in
    let fault : first_fault after_fault 0 c.args.tasks.now.graphs ≡ Some c.in_err-check_entries.field-0.0 = search rules in
    let same : c.from_residual-in_err-check_entries.result ≡ Err c.in_err-check_entries.field-0.0 = search rules in
    rw same (λ other. fault_of_third _ _ _ _ _ graphs sporadics fault)

pub returns-in_err-check_loops-clause-fault : goal.returns-in_err-check_loops-clause-fault
returns-in_err-check_loops-clause-fault c =
    let graphs : graph_names_fault [] 0 c.args.tasks.now.graphs ≡ None = search rules in
    let sporadics : names_fault SporadicPart [] 0 (map (λ (s : Sporadic). s.name) c.args.tasks.now.sporadics) ≡ None = search rules in
    let entries : first_fault after_fault 0 c.args.tasks.now.graphs ≡ None = search rules in
    let same : c.from_residual-in_err-check_loops.result ≡ Err c.in_err-check_loops.field-0.0 = search rules in
    rw same (λ other.
    let fault : first_fault loop_fault 0 c.args.tasks.now.graphs ≡ Some c.in_err-check_loops.field-0.0 = search rules in
    fault_of_fourth _ _ _ _ _ _ graphs sporadics entries fault)

pub returns-clause-fault : goal.returns-clause-fault
returns-clause-fault c =
    let graphs : graph_names_fault [] 0 c.args.tasks.now.graphs ≡ None = search rules in
    let sporadics : names_fault SporadicPart [] 0 (map (λ (s : Sporadic). s.name) c.args.tasks.now.sporadics) ≡ None = search rules in
    let entries : first_fault after_fault 0 c.args.tasks.now.graphs ≡ None = search rules in
    let loops : first_fault loop_fault 0 c.args.tasks.now.graphs ≡ None = search rules in
    tells-whole c.check_cycle.result _ (set_fault c.args.tasks.now) c.check_cycle.ensures (fault_of_fifth _ _ _ _ _ graphs sporadics entries loops)
