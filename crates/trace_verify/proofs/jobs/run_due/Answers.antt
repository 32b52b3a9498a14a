use Rattle.std.proofs.Common.{◌≤◌, get_or, sym, ◌∙◌, subst}
use Rattle.std.proofs.lemmas.List.{get_or_default}
use Rattle.std.proofs.lemmas.List.Elements.{recursion_from_All}
use Rattle.std.proofs.lemmas.List.Quantifiers.{position-Some}
use Rattle.std.proofs.lemmas.Option.{slice_get-get_or}
use Rattle.slot_core.specs.declared.jobs.Job.{Job}
use Rattle.slot_core.specs.declared.jobs.Key.TheVariants.{Offline}
use Rattle.slot_core.specs.Offline.Keys.{same_key}
use Rattle.slot_facts.proofs.Lists.ApartKeys.{IsApart-from_count}
use Rattle.key_texts.proofs.PlaceLemmas.{position-None}
use Rattle.trace_verify.specs.Dues.{AreDues}
use Rattle.trace_verify.proofs.JobDues.{due-at_run, AreDues-run}
use Rattle.trace_verify.proofs.JobEdits.{after_run-none}
use Rattle.trace_verify.proofs.jobs.run_due.Goals as goal

-- a job that stands for one past the list
abbrev none : Job
none = record { key = Offline 0 0 0; est = 0; dl = 0; left = 0; declared = 0 }

pub take-requires : goal.take-requires
take-requires c =
    let jobs = c.args.jobs.now in
    let i = c.in-Some.place in
    let at = λ (d : Job). position-Some (λ (j : Job). same_key j.key c.args.key) jobs i d (sym c.requires.place ∙ c.in-Some.is) in
    let inside = (at none).0 in
    let x = get_or jobs i none in
    record {
      due = due-at_run c.args.dues.now jobs i x inside (get_or_default jobs i none x inside) (c.requires.some i none inside) c.requires.dues;
    }

pub returns-in-Some : goal.returns-in-Some
returns-in-Some c =
    let jobs = c.args.jobs.now in
    let i = c.in-Some.place in
    let at = λ (d : Job). position-Some (λ (j : Job). same_key j.key c.args.key) jobs i d (sym c.requires.place ∙ c.in-Some.is) in
    let inside = (at none).0 in
    let x = get_or jobs i none in
    let left = recursion_from_All (λ (j : Job). 1 ≤ j.left) jobs c.requires.some in
    AreDues-run c.args.dues.now c.take.new.self c.args.key jobs i x (IsApart-from_count jobs c.requires.apart) left inside (get_or_default jobs i none x inside) (c.requires.some i none inside) (at none).1 (λ k d low. (at d).2 k low) c.requires.dues c.take.ensures

pub returns-in_default : goal.returns-in_default
returns-in_default c =
    let jobs = c.args.jobs.now in
    let found = sym c.requires.place ∙ c.in_default.is in
    let left = recursion_from_All (λ (j : Job). 1 ≤ j.left) jobs c.requires.some in
    subst
    (AreDues c.args.dues.now)
    (after_run-none c.args.key jobs left (λ k d low. position-None (λ (j : Job). same_key j.key c.args.key) jobs found k (get_or jobs k d) (slice_get-get_or jobs k d low)))
    c.requires.dues
