use Rattle.std.proofs.Common.{◌≡◌, ◌-◌, ◌<◌, ◌≤◌, List, get_or, set, ap, sym, ◌∙◌, subst}
use Rattle.std.proofs.lemmas.List.{get_or_default}
use Rattle.std.proofs.lemmas.List.Elements.{recursion_from_All}
use Rattle.std.proofs.lemmas.List.Quantifiers.{position-Some}
use Rattle.std.proofs.lemmas.Option.{slice_get-get_or}
use Rattle.slot_core.specs.declared.jobs.Job.{Job}
use Rattle.slot_core.specs.declared.jobs.Key.TheVariants.{Offline}
use Rattle.slot_core.specs.Offline.Keys.{same_key}
use Rattle.slot_facts.proofs.Lists.ApartKeys.{IsApart-from_count}
use Rattle.key_texts.proofs.PlaceLemmas.{position-None}
use Rattle.trace_verify.proofs.JobEdits.{after_run-last, after_run-more, after_run-none}
use Rattle.trace_verify.proofs.jobs.run_job.Goals as goal

-- a job that stands for one past the list
abbrev none : Job
none = record { key = Offline 0 0 0; est = 0; dl = 0; left = 0; declared = 0 }

pub returns-then-job-gt1 : goal.returns-then-job-gt1
returns-then-job-gt1 c =
    let jobs = c.args.jobs.now in
    let i = c.in-Some.place in
    let x = get_or jobs i none in
    let place = sym c.requires.place ∙ c.in-Some.is in
    let at = λ (d : Job). position-Some (λ (j : Job). same_key j.key c.args.key) jobs i d place in
    let left = recursion_from_All (λ (j : Job). 1 ≤ j.left) jobs c.requires.some in
    let read : get_or c.items.result.now i none ≡ x = ap (λ (js : List Job). get_or js i none) c.items.ensures in
    let more : 1 < x.left = subst (λ (j : Job). 1 < j.left) read c.if-job-gt1.true in
    c.set.ensures
    ∙ ap (set jobs i) (c.one_less.ensures ∙ ap (λ (j : Job). record j { left = j.left - 1 }) read)
    ∙ after_run-more c.args.key jobs i x (IsApart-from_count jobs c.requires.apart) left (at x).0 (get_or_default jobs i none x (at x).0) (at none).1 (λ k d low. (at d).2 k low) more

pub returns-else-job-gt1 : goal.returns-else-job-gt1
returns-else-job-gt1 c =
    let jobs = c.args.jobs.now in
    let i = c.in-Some.place in
    let x = get_or jobs i none in
    let place = sym c.requires.place ∙ c.in-Some.is in
    let at = λ (d : Job). position-Some (λ (j : Job). same_key j.key c.args.key) jobs i d place in
    let left = recursion_from_All (λ (j : Job). 1 ≤ j.left) jobs c.requires.some in
    let read : get_or c.items.result.now i none ≡ x = ap (λ (js : List Job). get_or js i none) c.items.ensures in
    let last : x.left ≤ 1 = subst (λ (j : Job). j.left ≤ 1) read c.if-job-gt1.false in
    c.remove-ended.ensures.rest
    ∙ after_run-last c.args.key jobs i x (IsApart-from_count jobs c.requires.apart) left (at x).0 (get_or_default jobs i none x (at x).0) (at none).1 (λ k d low. (at d).2 k low) last

pub returns-in_default : goal.returns-in_default
returns-in_default c =
    let jobs = c.args.jobs.now in
    let none = sym c.requires.place ∙ c.in_default.is in
    let left = recursion_from_All (λ (j : Job). 1 ≤ j.left) jobs c.requires.some in
    after_run-none c.args.key jobs left (λ k d low. position-None (λ (j : Job). same_key j.key c.args.key) jobs none k (get_or jobs k d) (slice_get-get_or jobs k d low))
