use Rattle.std.proofs.Common.{◌≡◌, ◌<◌, ℕ, false, not, length, get_or, ap, sym, subst, ◌∙◌}
use Rattle.std.specs.Prelude.{position}
use Rattle.std.proofs.lemmas.List.Quantifiers.{position-Some}
use Rattle.std.proofs.lemmas.Option.{slice_get-get_or}
use Rattle.slot_core.specs.declared.jobs.Job.{Job}
use Rattle.slot_core.specs.Offline.Keys.{same_key}
use Rattle.slot_facts.proofs.Lists.ApartKeys.{IsApart-from_count}
use Rattle.key_texts.proofs.PlaceLemmas.{position-None}
use Rattle.trace_verify.specs.Dues.{AreDues}
use Rattle.trace_verify.proofs.JobDues.{due-at_read, filter-all, filter-remove, removed-apart, AreDues-remove}
use Rattle.trace_verify.proofs.jobs.remove_job.Goals as goal

pub take-requires : goal.take-requires
take-requires c =
    let items = c.args.jobs.now in
    let i = c.in-Some.place in
    let x = c.remove-job.result in
    let found = ap (position (λ (j : Job). same_key j.key c.args.key)) (sym c.items.ensures) ∙ sym c.place_of.ensures ∙ c.in-Some.is in
    let at = position-Some (λ (j : Job). same_key j.key c.args.key) items i x found in
    record { due = due-at_read c.args.dues.now items i x at.0 c.remove-job.ensures.value c.requires.dues }

pub returns-in-Some : goal.returns-in-Some
returns-in-Some c =
    let items = c.args.jobs.now in
    let i = c.in-Some.place in
    let x = c.remove-job.result in
    let other = λ (j : Job). not (same_key j.key c.args.key) in
    let found = ap (position (λ (j : Job). same_key j.key c.args.key)) (sym c.items.ensures) ∙ sym c.place_of.ensures ∙ c.in-Some.is in
    let at = position-Some (λ (j : Job). same_key j.key c.args.key) items i x found in
    let fails : other (get_or items i x) ≡ false = ap not at.1 in
    record {
      dues = subst (AreDues c.take.new.self) (sym c.remove-job.ensures.rest) (AreDues-remove c.args.dues.now c.take.new.self items i x at.0 c.remove-job.ensures.value c.requires.dues c.take.ensures);
      jobs = c.remove-job.ensures.rest ∙ sym (removed-apart c.args.key items i x (IsApart-from_count items c.requires.apart) at.0 at.1) ∙ filter-remove other items i x at.0 fails;
    }

pub returns-in_default-clause-jobs : goal.returns-in_default-clause-jobs
returns-in_default-clause-jobs c =
    let items = c.args.jobs.now in
    let other = λ (j : Job). not (same_key j.key c.args.key) in
    let found = ap (position (λ (j : Job). same_key j.key c.args.key)) (sym c.items.ensures) ∙ sym c.place_of.ensures ∙ c.in_default.is in
    let none = λ (k : ℕ) (d : Job) (low : k < length items). position-None (λ (j : Job). same_key j.key c.args.key) items found k (get_or items k d) (slice_get-get_or items k d low) in
    sym (filter-all other items (λ k d low. ap not (none k d low)))
