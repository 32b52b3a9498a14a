-- One offer after the other is accepted, with the soft jobs among them, until one has no room.
use Rattle.std.proofs.Common.{ℕ, ◌+◌, ◌≤◌, [], ap, drop, List, refl, subst, sym, take, arith}
use Rattle.std.proofs.lemmas.List.{drop_all, length-take-le}
use Rattle.slot_core.specs.Keeping.Plans.{PlanParts}
use Rattle.slot_facts.proofs.Plans.Items.{plan_cycle-bounds}
use Rattle.plan_change.specs.declared.offers.Offer.{Offer}
use Rattle.plan_change.specs.Carrying.{offers_of}
use Rattle.plan_change.specs.Offers.{MayBeOffered, MayFollow}
use Rattle.plan_change.specs.SoftWork.{AreTaken}
use Rattle.plan_change.proofs.OneMore.{next_row-low, offers-end, offers-next}
use Rattle.plan_change.proofs.SoftRows.{waits-length}
use Rattle.plan_change.proofs.SoftWay.{IsChanged-going, IsCutOff-going, IsGoing, IsGoing-next, IsGoing-reached, IsGoing-taken, none_stop, refused-going, room-going, waits-above}
use Rattle.plan_change.proofs.moves.move_all.Goals as goal

pub take_soft-passed-requires-clause-room : goal.take_soft-passed-requires-clause-room
take_soft-passed-requires-clause-room g c =
    let jobs = c.args.jobs.now in
    let some = take c.args.soft c.args.from.now.scene.soft in
    let all = offers_of c.args.at c.args.cycle c.args.first jobs in
    let room = room-going c.args.into.now.plan all some c.loop-job.into (offers_of c.args.at c.args.cycle c.loop-job.next (drop c.loop-job.job-index jobs)) (drop c.loop-job.passed some) c.loop-job.invariant.way c.requires.waits in
    omega (
      arith,
      room,
      waits-length c.args.soft c.loop-job.passed c.args.from.now.scene.soft c.requires.there c.loop-job.invariant.few,
      length-take-le c.args.soft c.args.from.now.scene.soft c.requires.there,
      c.requires.limit,
      ap (λ (p : PlanParts). p.tasks.soft_limit) c.loop-job.invariant.way.plan_of,
    )

pub offer_one-requires-clause-may : goal.offer_one-requires-clause-may
offer_one-requires-clause-may g c =
    let jobs = c.args.jobs.now in
    let some = take c.args.soft c.args.from.now.scene.soft in
    let all = offers_of c.args.at c.args.cycle c.args.first jobs in
    let next = offers-next c.args.at c.args.cycle c.loop-job.next jobs c.loop-job.job-index _ c.row_in.result c.offer_of-offer.result c.loop-job-test.true c.row_in.ensures c.offer_of-offer.ensures in
    let before = subst (λ (os : List Offer). IsGoing c.args.into.now.plan all some c.loop-job.into os (drop c.loop-job.passed some)) next c.loop-job.invariant.way in
    let above = c.take_soft-passed.ensures.below c.offer_of-offer.result.row refl before.may.0.above in
    let way = IsGoing-reached c.args.into.now.plan all some c.loop-job.into c.take_soft-passed.new.into c.offer_of-offer.result _ (drop c.loop-job.passed some) (drop c.take_soft-passed.result some) before c.take_soft-passed.ensures.taken above in
    subst (λ (p : PlanParts). MayFollow p.cycle c.take_soft-passed.new.into.last_row c.offer_of-offer.result) (sym way.plan_of) way.may.0

pub offer_one-requires-clause-short : goal.offer_one-requires-clause-short
offer_one-requires-clause-short g c =
    let jobs = c.args.jobs.now in
    let some = take c.args.soft c.args.from.now.scene.soft in
    let all = offers_of c.args.at c.args.cycle c.args.first jobs in
    let next = offers-next c.args.at c.args.cycle c.loop-job.next jobs c.loop-job.job-index _ c.row_in.result c.offer_of-offer.result c.loop-job-test.true c.row_in.ensures c.offer_of-offer.ensures in
    let before = subst (λ (os : List Offer). IsGoing c.args.into.now.plan all some c.loop-job.into os (drop c.loop-job.passed some)) next c.loop-job.invariant.way in
    let above = c.take_soft-passed.ensures.below c.offer_of-offer.result.row refl before.may.0.above in
    let way = IsGoing-reached c.args.into.now.plan all some c.loop-job.into c.take_soft-passed.new.into c.offer_of-offer.result _ (drop c.loop-job.passed some) (drop c.take_soft-passed.result some) before c.take_soft-passed.ensures.taken above in
    omega (arith, ap (λ (p : PlanParts). p.cycle) way.plan_of, plan_cycle-bounds c.args.into.now.plan c.requires.plan)

pub returns-in-Some-clause-refused : goal.returns-in-Some-clause-refused
returns-in-Some-clause-refused g c =
    let jobs = c.args.jobs.now in
    let some = take c.args.soft c.args.from.now.scene.soft in
    let all = offers_of c.args.at c.args.cycle c.args.first jobs in
    let next = offers-next c.args.at c.args.cycle c.loop-job.next jobs c.loop-job.job-index _ c.row_in.result c.offer_of-offer.result c.loop-job-test.true c.row_in.ensures c.offer_of-offer.ensures in
    let before = subst (λ (os : List Offer). IsGoing c.args.into.now.plan all some c.loop-job.into os (drop c.loop-job.passed some)) next c.loop-job.invariant.way in
    let above = c.take_soft-passed.ensures.below c.offer_of-offer.result.row refl before.may.0.above in
    let way = IsGoing-reached c.args.into.now.plan all some c.loop-job.into c.take_soft-passed.new.into c.offer_of-offer.result _ (drop c.loop-job.passed some) (drop c.take_soft-passed.result some) before c.take_soft-passed.ensures.taken above in
    let may = subst (λ (n : ℕ). MayBeOffered n 0 all) c.requires.cycle c.requires.offers in
    (refused-going c.args.into.now.plan all some c.take_soft-passed.new.into _ c.offer_of-offer.result (drop c.take_soft-passed.result some) way c.in-Some.evidence c.requires.plan may (λ h stands. (c.in-Some.ensures.refused c.in-Some.evidence refl h stands).0)).0

pub returns-in-Some-clause-no_room : goal.returns-in-Some-clause-no_room
returns-in-Some-clause-no_room g c =
    let jobs = c.args.jobs.now in
    let some = take c.args.soft c.args.from.now.scene.soft in
    let all = offers_of c.args.at c.args.cycle c.args.first jobs in
    let next = offers-next c.args.at c.args.cycle c.loop-job.next jobs c.loop-job.job-index _ c.row_in.result c.offer_of-offer.result c.loop-job-test.true c.row_in.ensures c.offer_of-offer.ensures in
    let before = subst (λ (os : List Offer). IsGoing c.args.into.now.plan all some c.loop-job.into os (drop c.loop-job.passed some)) next c.loop-job.invariant.way in
    let above = c.take_soft-passed.ensures.below c.offer_of-offer.result.row refl before.may.0.above in
    let way = IsGoing-reached c.args.into.now.plan all some c.loop-job.into c.take_soft-passed.new.into c.offer_of-offer.result _ (drop c.loop-job.passed some) (drop c.take_soft-passed.result some) before c.take_soft-passed.ensures.taken above in
    let may = subst (λ (n : ℕ). MayBeOffered n 0 all) c.requires.cycle c.requires.offers in
    (refused-going c.args.into.now.plan all some c.take_soft-passed.new.into _ c.offer_of-offer.result (drop c.take_soft-passed.result some) way c.in-Some.evidence c.requires.plan may (λ h stands. (c.in-Some.ensures.refused c.in-Some.evidence refl h stands).0)).1

pub returns-in-Some-clause-cut_off : goal.returns-in-Some-clause-cut_off
returns-in-Some-clause-cut_off g c =
    let jobs = c.args.jobs.now in
    let some = take c.args.soft c.args.from.now.scene.soft in
    let all = offers_of c.args.at c.args.cycle c.args.first jobs in
    let next = offers-next c.args.at c.args.cycle c.loop-job.next jobs c.loop-job.job-index _ c.row_in.result c.offer_of-offer.result c.loop-job-test.true c.row_in.ensures c.offer_of-offer.ensures in
    let before = subst (λ (os : List Offer). IsGoing c.args.into.now.plan all some c.loop-job.into os (drop c.loop-job.passed some)) next c.loop-job.invariant.way in
    let above = c.take_soft-passed.ensures.below c.offer_of-offer.result.row refl before.may.0.above in
    let way = IsGoing-reached c.args.into.now.plan all some c.loop-job.into c.take_soft-passed.new.into c.offer_of-offer.result _ (drop c.loop-job.passed some) (drop c.take_soft-passed.result some) before c.take_soft-passed.ensures.taken above in
    IsCutOff-going c.args.into.now.plan all some c.take_soft-passed.new.into _ c.offer_of-offer.result (drop c.take_soft-passed.result some) way c.offer_one.new.into c.in-Some.evidence c.offer_one.ensures.plan (λ h stands. (c.in-Some.ensures.refused c.in-Some.evidence refl h stands).1)

pub loop-job-preserved : goal.loop-job-preserved
loop-job-preserved g c =
    let jobs = c.args.jobs.now in
    let some = take c.args.soft c.args.from.now.scene.soft in
    let all = offers_of c.args.at c.args.cycle c.args.first jobs in
    let next = offers-next c.args.at c.args.cycle c.loop-job.next jobs c.loop-job.job-index _ c.row_in.result c.offer_of-offer.result c.loop-job-test.true c.row_in.ensures c.offer_of-offer.ensures in
    let before = subst (λ (os : List Offer). IsGoing c.args.into.now.plan all some c.loop-job.into os (drop c.loop-job.passed some)) next c.loop-job.invariant.way in
    let above = c.take_soft-passed.ensures.below c.offer_of-offer.result.row refl before.may.0.above in
    let way = IsGoing-reached c.args.into.now.plan all some c.loop-job.into c.take_soft-passed.new.into c.offer_of-offer.result _ (drop c.loop-job.passed some) (drop c.take_soft-passed.result some) before c.take_soft-passed.ensures.taken above in
    let answers = c.in_default.ensures.accepted refl in
    let count = length-take-le c.args.soft c.args.from.now.scene.soft c.requires.there in
    let wait = waits-above c.args.into.now.plan all some c.take_soft-passed.new.into c.offer_of-offer.result _ c.take_soft-passed.result c.args.soft way c.requires.apart (omega (arith, count)) c.take_soft-passed.ensures.stops in
    let step = IsGoing-next c.args.into.now.plan all some c.take_soft-passed.new.into _ c.offer_of-offer.result (drop c.take_soft-passed.result some) way c.offer_one.new.into c.offer_one.ensures.plan c.offer_one.ensures.row (λ h stands. (answers h stands).0) (λ h stands. (answers h stands).1) wait in
    let low : c.next_row-next.result ≤ c.loop-job.next + 1 = next_row-low c.loop-job.next c.next_row-next.result _ c.next_row-next.ensures in
    record {
      way = subst (λ (n : ℕ). IsGoing c.args.into.now.plan all some c.offer_one.new.into (offers_of c.args.at c.args.cycle n (drop (c.loop-job.job-index + 1) jobs)) (drop c.take_soft-passed.result some)) (sym c.next_row-next.ensures) step;
      low = omega (arith, low, c.loop-job.invariant.low);
      few = c.take_soft-passed.ensures.few;
    }

pub take_soft-requires-clause-room : goal.take_soft-requires-clause-room
take_soft-requires-clause-room g c =
    let jobs = c.args.jobs.now in
    let some = take c.args.soft c.args.from.now.scene.soft in
    let all = offers_of c.args.at c.args.cycle c.args.first jobs in
    let room = room-going c.args.into.now.plan all some c.loop-job.into (offers_of c.args.at c.args.cycle c.loop-job.next (drop c.loop-job.job-index jobs)) (drop c.loop-job.passed some) c.loop-job.invariant.way c.requires.waits in
    omega (
      arith,
      room,
      waits-length c.args.soft c.loop-job.passed c.args.from.now.scene.soft c.requires.there c.loop-job.invariant.few,
      length-take-le c.args.soft c.args.from.now.scene.soft c.requires.there,
      c.requires.limit,
      ap (λ (p : PlanParts). p.tasks.soft_limit) c.loop-job.invariant.way.plan_of,
    )

pub returns-clause-granted : goal.returns-clause-granted
returns-clause-granted g c =
    let jobs = c.args.jobs.now in
    let some = take c.args.soft c.args.from.now.scene.soft in
    let all = offers_of c.args.at c.args.cycle c.args.first jobs in
    let none = offers-end c.args.at c.args.cycle c.loop-job.next jobs c.loop-job.job-index c.loop-job-test.false in
    let before = subst (λ (os : List Offer). IsGoing c.args.into.now.plan all some c.loop-job.into os (drop c.loop-job.passed some)) none c.loop-job.invariant.way in
    let end = none_stop c.take_soft.result c.args.soft some c.take_soft.ensures.few c.take_soft.ensures.stops in
    let count = length-take-le c.args.soft c.args.from.now.scene.soft c.requires.there in
    let over = drop_all c.take_soft.result some (omega (arith, count, end)) in
    let taken = subst (AreTaken c.loop-job.into c.take_soft.new.into (drop c.loop-job.passed some)) over c.take_soft.ensures.taken in
    let way = IsGoing-taken c.args.into.now.plan all some c.loop-job.into c.take_soft.new.into [] (drop c.loop-job.passed some) [] before taken tt in
    let may = subst (λ (n : ℕ). MayBeOffered n 0 all) c.requires.cycle c.requires.offers in
    IsChanged-going c.args.into.now.plan all some c.take_soft.new.into c.requires.plan may c.requires.waits way
