-- An offer: the answer is that of the scene, and where it is accepted its job finds a place.
use Rattle.std.proofs.Common.{rules, ◌≡◌, ◌≢◌}
use Rattle.slot_core.specs.declared.events.Firm.TheVariants.{Accepted}
use Rattle.slot_exec.proofs.FirmOffers.{offer-first, offer-near, offer-reach, answer-seen, exact-seen, Does-refused_offer, IsExecutive-refused_offer, due-offer, later-offer, HavePlace-offer, Does-accepted_offer, IsExecutive-accepted_offer}
use Rattle.slot_exec.proofs.OfferReasons.{no_room-told, evidence-told}
use Rattle.slot_exec.proofs.StepBounds.{few_steps-offer}
use Rattle.slot_exec.proofs.exec.Exec.firm.Goals as goal

pub answer_offer-answer-requires-clause-first : goal.answer_offer-answer-requires-clause-first
answer_offer-answer-requires-clause-first g c =
    offer-first c.self.inside.reserve c.self.invariant

pub answer_offer-answer-requires-clause-reach : goal.answer_offer-answer-requires-clause-reach
answer_offer-answer-requires-clause-reach g c =
    offer-reach c.self.inside.reserve c.self.invariant c.cycle-cycle.result c.cycle-cycle.ensures.cycle

pub answer_offer-answer-requires-clause-near : goal.answer_offer-answer-requires-clause-near
answer_offer-answer-requires-clause-near g c = offer-near c.self.inside.reserve c.self.invariant

pub returns-then-ne-clause-answer : goal.returns-then-ne-clause-answer
returns-then-ne-clause-answer g c =
    answer-seen c.self.inside.reserve c.self.invariant c.self.view_is c.requires.later c.requires.some c.requires.few c.requires.near c.cycle-cycle.ensures.cycle c.answer_offer-answer.ensures.answer

pub returns-then-ne-clause-exact : goal.returns-then-ne-clause-exact
returns-then-ne-clause-exact g c =
    exact-seen c.self.inside.reserve c.self.invariant c.self.view_is c.requires.later c.requires.some c.requires.few c.requires.near c.cycle-cycle.ensures.cycle c.answer_offer-answer.ensures.answer

pub returns-then-ne-clause-does : goal.returns-then-ne-clause-does
returns-then-ne-clause-does g c =
    let refused : c.answer_offer-answer.result ≢ Accepted = search rules in
    Does-refused_offer c.self.inside.reserve c.self.invariant c.self.view_is c.requires.later c.requires.some c.requires.few c.requires.near c.cycle-cycle.ensures.cycle c.answer_offer-answer.ensures.answer refused

pub invariant_of-self : goal.invariant_of-self
invariant_of-self g c =
    let refused : c.answer_offer-answer.result ≢ Accepted = search rules in
    IsExecutive-refused_offer c.self.inside.reserve c.self.invariant c.self.view_is c.requires.later c.requires.some c.requires.few c.requires.near c.cycle-cycle.ensures.cycle c.answer_offer-answer.ensures.answer refused

pub returns-clause-answer : goal.returns-clause-answer
returns-clause-answer g c =
    answer-seen c.self.inside.reserve c.self.invariant c.self.view_is c.requires.later c.requires.some c.requires.few c.requires.near c.cycle-cycle.ensures.cycle c.answer_offer-answer.ensures.answer

pub returns-clause-exact : goal.returns-clause-exact
returns-clause-exact g c =
    exact-seen c.self.inside.reserve c.self.invariant c.self.view_is c.requires.later c.requires.some c.requires.few c.requires.near c.cycle-cycle.ensures.cycle c.answer_offer-answer.ensures.answer

pub admit-requires : goal.admit-requires
admit-requires g c =
    let accepted : c.answer_offer-answer.result ≡ Accepted = search rules in
    HavePlace-offer c.self.inside.reserve c.self.invariant c.self.view_is c.requires.later c.requires.some c.requires.few c.requires.near c.cycle-cycle.ensures.cycle c.answer_offer-answer.ensures.answer accepted c.time.ensures c.offered-job.ensures

pub free_beside-self-inside-requires : goal.free_beside-self-inside-requires
free_beside-self-inside-requires g c =
    let accepted : c.answer_offer-answer.result ≡ Accepted = search rules in
    later-offer c.self.inside.reserve c.self.invariant c.self.view_is c.requires.later c.requires.some c.requires.few c.requires.near c.cycle-cycle.ensures.cycle c.answer_offer-answer.ensures.answer accepted c.time.ensures c.offered-job.ensures

pub due_with-self-inside-requires : goal.due_with-self-inside-requires
due_with-self-inside-requires g c =
    let accepted : c.answer_offer-answer.result ≡ Accepted = search rules in
    due-offer c.self.inside.reserve c.self.invariant c.self.view_is c.requires.later c.requires.some c.requires.few c.requires.near c.cycle-cycle.ensures.cycle c.answer_offer-answer.ensures.answer accepted c.time.ensures c.offered-job.ensures

pub returns-clause-does : goal.returns-clause-does
returns-clause-does g c =
    let accepted : c.answer_offer-answer.result ≡ Accepted = search rules in
    let joins = c.admit.ensures in
    Does-accepted_offer c.self.inside.reserve c.self.invariant c.self.view_is c.requires.later c.requires.some c.requires.few c.requires.near c.cycle-cycle.ensures.cycle c.answer_offer-answer.ensures.answer accepted c.time.ensures c.offered-job.ensures c.admit.new.queue.jobs joins.time joins.spans joins.jobs joins.places joins.capacity

pub invariant_of-self-2 : goal.invariant_of-self-2
invariant_of-self-2 g c =
    let accepted : c.answer_offer-answer.result ≡ Accepted = search rules in
    let joins = c.admit.ensures in
    rw (c.free_beside-self-inside.ensures, c.due_with-self-inside.ensures)
    (IsExecutive-accepted_offer c.self.inside.reserve c.self.invariant c.self.view_is c.requires.later c.requires.some c.requires.few c.requires.near c.cycle-cycle.ensures.cycle c.answer_offer-answer.ensures.answer accepted c.time.ensures c.offered-job.ensures c.admit.new.queue.jobs joins.time joins.spans joins.jobs joins.places joins.capacity)

pub returns-clause-few_steps : goal.returns-clause-few_steps
returns-clause-few_steps g c counted none accepted =
    few_steps-offer _ _ _ _ _ _ _ c.self.invariant c.self.view_is _ _ _ _ _ _ _ _ c.time.ensures c.offered-job.ensures none (λ empty. c.answer_offer-answer.ensures.accepts_soon empty accepted) (c.admit.ensures.few_steps counted)

pub returns-then-ne-clause-no_room : goal.returns-then-ne-clause-no_room
returns-then-ne-clause-no_room g c =
    no_room-told c.args.self.now.plan.tasks.sporadics c.args.self.now.plan.cycle c.args.self.now.scene c.args.c c.args.d _ (answer-seen c.self.inside.reserve c.self.invariant c.self.view_is c.requires.later c.requires.some c.requires.few c.requires.near c.cycle-cycle.ensures.cycle c.answer_offer-answer.ensures.answer)

pub returns-then-ne-clause-evidence : goal.returns-then-ne-clause-evidence
returns-then-ne-clause-evidence g c =
    evidence-told _ _ _ _ _ _ (answer-seen c.self.inside.reserve c.self.invariant c.self.view_is c.requires.later c.requires.some c.requires.few c.requires.near c.cycle-cycle.ensures.cycle c.answer_offer-answer.ensures.answer)

pub returns-clause-no_room : goal.returns-clause-no_room
returns-clause-no_room g c =
    no_room-told c.args.self.now.plan.tasks.sporadics c.args.self.now.plan.cycle c.args.self.now.scene c.args.c c.args.d _ (answer-seen c.self.inside.reserve c.self.invariant c.self.view_is c.requires.later c.requires.some c.requires.few c.requires.near c.cycle-cycle.ensures.cycle c.answer_offer-answer.ensures.answer)

pub returns-clause-evidence : goal.returns-clause-evidence
returns-clause-evidence g c =
    evidence-told _ _ _ _ _ _ (answer-seen c.self.inside.reserve c.self.invariant c.self.view_is c.requires.later c.requires.some c.requires.few c.requires.near c.cycle-cycle.ensures.cycle c.answer_offer-answer.ensures.answer)
