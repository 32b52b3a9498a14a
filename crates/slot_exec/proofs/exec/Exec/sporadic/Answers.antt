use Rattle.std.proofs.Common.{◌∙◌, ap₂}
use Rattle.slot_core.specs.Runs.Histories.{sporadic_job}
use Rattle.slot_exec.proofs.TakenArrivals.{answer-arrived, due-arrival, next-arrived, parts-arrived, place-arrival}
use Rattle.slot_exec.proofs.exec.Exec.sporadic.Goals as goal

pub take_arrival-answer-requires-clause-place : goal.take_arrival-answer-requires-clause-place
take_arrival-answer-requires-clause-place g c =
    let made = c.arriving_job-job.ensures ∙ ap₂ (λ ss t. sporadic_job ss c.args.index c.args.row t) c.sporadics.ensures.sporadics c.time.ensures in
    place-arrival _ _ _ _ _ _ _ c.args.row c.args.index c.self.invariant c.self.view_is c.requires.later c.requires.known c.arriving_job-job.result made

pub invariant_of-self : goal.invariant_of-self
invariant_of-self g c =
    let made = c.arriving_job-job.ensures ∙ ap₂ (λ ss t. sporadic_job ss c.args.index c.args.row t) c.sporadics.ensures.sporadics c.time.ensures in
    let came = c.take_arrival-answer.ensures in
    (parts-arrived _ _ _ _ _ _ _ c.args.row c.args.index c.self.invariant c.self.view_is c.requires.later c.requires.known _ _ _ _ _ _ _ _ _ _ made came.answer came.spans came.time came.places came.nexts came.tasks came.jobs came.capacity c.due_told-self-inside.ensures).1

pub returns-clause-does : goal.returns-clause-does
returns-clause-does g c =
    let made = c.arriving_job-job.ensures ∙ ap₂ (λ ss t. sporadic_job ss c.args.index c.args.row t) c.sporadics.ensures.sporadics c.time.ensures in
    let came = c.take_arrival-answer.ensures in
    (parts-arrived _ _ _ _ _ _ _ c.args.row c.args.index c.self.invariant c.self.view_is c.requires.later c.requires.known _ _ _ _ _ _ _ _ _ _ made came.answer came.spans came.time came.places came.nexts came.tasks came.jobs came.capacity c.due_told-self-inside.ensures).0

pub returns-clause-answer : goal.returns-clause-answer
returns-clause-answer g c =
    answer-arrived _ _ _ _ _ _ _ c.args.row c.args.index c.self.invariant c.self.view_is c.requires.later c.requires.known c.take_arrival-answer.result c.take_arrival-answer.ensures.answer

pub returns-clause-next : goal.returns-clause-next
returns-clause-next g c =
    next-arrived _ _ _ _ _ _ _ c.args.row c.args.index c.self.invariant c.self.view_is c.requires.later c.requires.known c.take_arrival-answer.result c.take_arrival-answer.new.reserve.nexts c.take_arrival-answer.ensures.answer c.take_arrival-answer.ensures.nexts

pub due_told-self-inside-requires : goal.due_told-self-inside-requires
due_told-self-inside-requires g c =
    let made = c.arriving_job-job.ensures ∙ ap₂ (λ ss t. sporadic_job ss c.args.index c.args.row t) c.sporadics.ensures.sporadics c.time.ensures in
    due-arrival _ _ _ _ _ _ _ c.args.row c.args.index c.self.invariant c.self.view_is c.requires.later c.requires.known c.take_arrival-answer.result c.arriving_job-job.result made c.take_arrival-answer.ensures.answer
