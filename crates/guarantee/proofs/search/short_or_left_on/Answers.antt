use Rattle.std.proofs.Common.{◌≡◌, ℕ, ◌+◌, ◌-◌, ◌≤◌, pos, ◌+ℤ◌, ◌≤ℤ◌, [], max, min, take, refl, sym, ap, ◌∙◌, arith}
use Rattle.std.specs.Option.{option_map}
use Rattle.std.proofs.lemmas.Bool.{false≢true}
use Rattle.std.proofs.lemmas.Int.{ints}
use Rattle.spare_capacity.specs.Recurrence.{last_end}
use Rattle.interval_row.specs.Tables.{works}
use Rattle.guarantee.specs.Offers.{evidence_at, first_short, need_until}
use Rattle.guarantee.specs.Stretches.{NeedsNone}
use Rattle.guarantee.proofs.Segments.{covered, covered-leaves, leaves-end, IsLevelFrom-later, Leaves-all, Leaves-join, Leaves-part, LeavesAll-later, Looks-found, Looks-last, Looks-later-on, Looks-leaves-on, Looks-most, most-end}
use Rattle.guarantee.proofs.Tables.{last-ends, later-after, IsSeen-place, Looks-over, Looks-place}
use Rattle.guarantee.proofs.search.short_or_left_on.Goals as goal
use Rattle.guarantee.proofs.search.short_or_left_on.Goals.{else-most-eq0-via-then-most-eq0+else-not-covers, else-most-eq0-via-else-most-eq0}

pub untried-tried-requires : goal.untried-tried-requires
untried-tried-requires g c =
    let seen = IsSeen-place c.requires.table c.requires.place in
    omega (arith, seen.stands.after, seen.stands.rising, seen.stands.within, c.requires.now, c.last_end-last.ensures)

pub short_between-requires-clause-from : goal.short_between-requires-clause-from
short_between-requires-clause-from g c =
    let seen = IsSeen-place c.requires.table c.loop-evidence.invariant.place in
    omega (arith, seen.stands.after, c.requires.now, c.max-first.ensures)

pub short_between-requires-clause-near : goal.short_between-requires-clause-near
short_between-requires-clause-near g c =
    let seen = IsSeen-place c.requires.table c.loop-evidence.invariant.place in
    omega (arith, seen.stands.within, c.requires.near)

pub short_between-requires-clause-few : goal.short_between-requires-clause-few
short_between-requires-clause-few g c =
    let seen = IsSeen-place c.requires.table c.loop-evidence.invariant.place in
    omega (arith, seen.small, c.requires.few)

pub returns-in-Some-clause-first : goal.returns-in-Some-clause-first
returns-in-Some-clause-first g c =
    let a = c.args in
    let t = g.T.SpareTable.time a.table.now in
    let spans = g.T.SpareTable.spans a.table.now in
    let table = c.requires.table in
    let inv = c.loop-evidence.invariant in
    let place = c.loop-evidence.place in
    let needed = a.ask.slots + place.due in
    let looks = Looks-place a.ask.slots a.ask.now c.max-first.result table inv.place c.requires.now (omega (arith, c.max-first.ensures)) in
    let same = inv.same ∙ ap (first_short spans a.reserve.now t a.ask.arrivals a.ask.slots) (sym c.max-first.ensures) in
    Looks-found spans a.reserve.now t a.ask.arrivals a.ask.slots a.ask.now needed c.max-first.result place.span.end c.in-Some.evidence looks c.in-Some.ensures.short
    ∙ sym (ap (option_map (evidence_at spans a.reserve.now t a.ask.arrivals a.ask.slots)) same)

pub overflow_add-due : goal.overflow_add-due
overflow_add-due g c =
    let seen = IsSeen-place c.requires.table c.loop-evidence.invariant.place in
    omega (arith, seen.small, c.requires.few)

pub overflow_add-due-in-loop-evidence : goal.overflow_add-due-in-loop-evidence
overflow_add-due-in-loop-evidence g c =
    let inv = c.loop-evidence.invariant in
    let seen = IsSeen-place c.requires.table inv.place in
    omega (arith, seen.small, c.requires.few, c.demand-most.ensures.small, inv.small, c.short_between.ensures.least)

pub overflow_add-due-in-loop-evidence-2 : goal.overflow_add-due-in-loop-evidence-2
overflow_add-due-in-loop-evidence-2 g c =
    let inv = c.loop-evidence.invariant in
    let seen = IsSeen-place c.requires.table inv.place in
    omega (arith, seen.small, c.requires.few, c.demand-most.ensures.small, inv.small, c.short_between.ensures.least)

pub covers-requires-clause-after : goal.covers-requires-clause-after
covers-requires-clause-after g c =
    let seen = IsSeen-place c.requires.table c.loop-evidence.invariant.place in
    omega (arith, seen.stands.after, c.requires.now)

pub covers-requires-clause-near : goal.covers-requires-clause-near
covers-requires-clause-near g c =
    let seen = IsSeen-place c.requires.table c.loop-evidence.invariant.place in
    omega (arith, seen.stands.rising, seen.stands.within, c.requires.near)

pub covers-requires-clause-few : goal.covers-requires-clause-few
covers-requires-clause-few g c =
    let inv = c.loop-evidence.invariant in
    let seen = IsSeen-place c.requires.table inv.place in
    omega (arith, seen.small, c.requires.few, c.demand-most.ensures.small, inv.small, c.short_between.ensures.least)

pub covers-requires-clause-short : goal.covers-requires-clause-short
covers-requires-clause-short g c =
    let seen = IsSeen-place c.requires.table c.loop-evidence.invariant.place in
    seen.short

pub covers-requires-then-most-eq0-clause-after : goal.covers-requires-then-most-eq0-clause-after
covers-requires-then-most-eq0-clause-after g c =
    let seen = IsSeen-place c.requires.table c.loop-evidence.invariant.place in
    omega (arith, seen.stands.after, c.requires.now)

pub covers-requires-then-most-eq0-clause-near : goal.covers-requires-then-most-eq0-clause-near
covers-requires-then-most-eq0-clause-near g c =
    let seen = IsSeen-place c.requires.table c.loop-evidence.invariant.place in
    omega (arith, seen.stands.rising, seen.stands.within, c.requires.near)

pub covers-requires-then-most-eq0-clause-few : goal.covers-requires-then-most-eq0-clause-few
covers-requires-then-most-eq0-clause-few g c =
    let seen = IsSeen-place c.requires.table c.loop-evidence.invariant.place in
    omega (arith, seen.small, c.requires.few)

pub covers-requires-then-most-eq0-clause-short : goal.covers-requires-then-most-eq0-clause-short
covers-requires-then-most-eq0-clause-short g c =
    let seen = IsSeen-place c.requires.table c.loop-evidence.invariant.place in
    seen.short

pub returns-then-covers-clause-first : goal.returns-then-covers-clause-first
returns-then-covers-clause-first g c =
    let a = c.args in
    let t = g.T.SpareTable.time a.table.now in
    let spans = g.T.SpareTable.spans a.table.now in
    let table = c.requires.table in
    let inv = c.loop-evidence.invariant in
    let place = c.loop-evidence.place in
    let seen = IsSeen-place table inv.place in
    let needed = a.ask.slots + place.due in
    let due : needed ≡ a.ask.slots + works (take place.index spans) = omega (arith, seen.due) in
    let looks = Looks-place a.ask.slots a.ask.now c.max-first.result table inv.place c.requires.now (omega (arith, c.max-first.ensures)) in
    let told = sym c.in_default.is ∙ c.short_between.ensures.short in
    let onward = Looks-later-on spans a.reserve.now t a.ask.arrivals a.ask.slots a.ask.now needed a.from place.span.start c.max-first.result place.span.end (max c.max-first.result place.span.end) looks inv.same c.max-first.ensures refl told in
    let none = covered spans a.reserve.now t a.ask.arrivals a.ask.slots a.ask.now needed (max c.max-first.result place.span.end) c.demand-most.result c.short_between.new.tried.left place.index place.span table.consecutive table.filled seen.at c.requires.now due (omega arith) (λ z most. c.demand-most.ensures.most z (omega (arith, most, c.last_end-last.ensures))) (c.covers.ensures.0 c.if-covers.true) in
    sym (ap (option_map (evidence_at spans a.reserve.now t a.ask.arrivals a.ask.slots)) (onward ∙ none))

pub returns-then-covers-clause-left : goal.returns-then-covers-clause-left
returns-then-covers-clause-left g c =
    let a = c.args in
    let t = g.T.SpareTable.time a.table.now in
    let spans = g.T.SpareTable.spans a.table.now in
    let table = c.requires.table in
    let inv = c.loop-evidence.invariant in
    let place = c.loop-evidence.place in
    let seen = IsSeen-place table inv.place in
    let needed = a.ask.slots + place.due in
    let due : needed ≡ a.ask.slots + works (take place.index spans) = omega (arith, seen.due) in
    let looks = Looks-place a.ask.slots a.ask.now c.max-first.result table inv.place c.requires.now (omega (arith, c.max-first.ensures)) in
    let need : ℕ → ℕ = need_until spans a.reserve.now a.ask.arrivals in
    let left = c.short_between.new.tried.left in
    let so_far = Looks-leaves-on spans a.reserve.now a.ask t place.due c.loop-evidence.tried.left left a.from place.span.start c.max-first.result place.span.end looks c.max-first.ensures c.short_between.ensures.least inv.left (c.short_between.ensures.left c.in_default.is) in
    let rest = covered-leaves spans a.reserve.now t a.ask.arrivals a.ask.slots a.ask.now needed c.demand-most.result left place.index place.span table.consecutive table.filled seen.at c.requires.now due (λ z most. c.demand-most.ensures.most z (omega (arith, most, c.last_end-last.ensures))) (c.covers.ensures.0 c.if-covers.true) in
    Leaves-join need t a.ask.slots left a.from place.span.end (last_end t spans + 1) so_far rest

pub returns-then-covers-clause-greatest : goal.returns-then-covers-clause-greatest
returns-then-covers-clause-greatest g c =
    let a = c.args in
    let t = g.T.SpareTable.time a.table.now in
    let spans = g.T.SpareTable.spans a.table.now in
    let table = c.requires.table in
    let inv = c.loop-evidence.invariant in
    let place = c.loop-evidence.place in
    let looks = Looks-place a.ask.slots a.ask.now c.max-first.result table inv.place c.requires.now (omega (arith, c.max-first.ensures)) in
    let start : a.from ≤ c.max-first.result = omega (arith, c.max-first.ensures) in
    let most = min a.told (last_end t spans - t - a.ask.slots) in
    let greatest = Looks-most spans a.reserve.now a.ask t place.due most c.loop-evidence.tried.left c.short_between.new.tried.left a.from c.max-first.result place.span.end looks start inv.greatest (c.short_between.ensures.greatest c.in_default.is) in
    greatest

pub returns-then-not-covers-clause-first : goal.returns-then-not-covers-clause-first
returns-then-not-covers-clause-first g c =
    let a = c.args in
    let t = g.T.SpareTable.time a.table.now in
    let spans = g.T.SpareTable.spans a.table.now in
    let table = c.requires.table in
    let inv = c.loop-evidence.invariant in
    let place = c.loop-evidence.place in
    let seen = IsSeen-place table inv.place in
    let needed = a.ask.slots + place.due in
    let looks = Looks-place a.ask.slots a.ask.now c.max-first.result table inv.place c.requires.now (omega (arith, c.max-first.ensures)) in
    let told = sym c.in_default.is ∙ c.short_between.ensures.short in
    let end : place.span.end ≡ max c.max-first.result place.span.end = omega (arith, inv.reached, seen.stands.rising, c.max-first.ensures) in
    let onward = Looks-later-on spans a.reserve.now t a.ask.arrivals a.ask.slots a.ask.now needed a.from place.span.start c.max-first.result place.span.end place.span.end looks inv.same c.max-first.ensures end told in
    let quiet : NeedsNone a.reserve.now a.ask.arrivals (last_end t spans) = λ z most.
    omega (arith, c.demand-most.ensures.most z (omega (arith, most, c.last_end-last.ensures)), c.if-most-eq0.true) in
    c.first_short_start.ensures.first a.reserve.now quiet
    ∙ sym (ap (option_map (evidence_at spans a.reserve.now t a.ask.arrivals a.ask.slots)) onward)

pub loop-evidence-preserved : goal.loop-evidence-preserved
loop-evidence-preserved g c =
    let a = c.args in
    let t = g.T.SpareTable.time a.table.now in
    let spans = g.T.SpareTable.spans a.table.now in
    let table = c.requires.table in
    let inv = c.loop-evidence.invariant in
    let place = c.loop-evidence.place in
    let seen = IsSeen-place table inv.place in
    let needed = a.ask.slots + place.due in
    let looks = Looks-place a.ask.slots a.ask.now c.max-first.result table inv.place c.requires.now (omega (arith, c.max-first.ensures)) in
    let told = sym c.in_default.is ∙ c.short_between.ensures.short in
    let need : ℕ → ℕ = need_until spans a.reserve.now a.ask.arrivals in
    let left = c.short_between.new.tried.left in
    let so_far = Looks-leaves-on spans a.reserve.now a.ask t place.due c.loop-evidence.tried.left left a.from place.span.start c.max-first.result place.span.end looks c.max-first.ensures c.short_between.ensures.least inv.left (c.short_between.ensures.left c.in_default.is) in
    let start : a.from ≤ c.max-first.result = omega (arith, c.max-first.ensures) in
    let most = min a.told (last_end t spans - t - a.ask.slots) in
    let greatest = Looks-most spans a.reserve.now a.ask t place.due most c.loop-evidence.tried.left c.short_between.new.tried.left a.from c.max-first.result place.span.end looks start inv.greatest (c.short_between.ensures.greatest c.in_default.is) in
    let stays : a.told ≡ 0 → a.reserve.now.sporadics ≡ [] → ⊥ = λ untold none.
    let nothing : c.demand-most.result ≡ 0 = c.demand-most.ensures.demand ∙ rw none refl in
    let least : c.short_between.new.tried.left ≡ 0 = omega (arith, untold, inv.told, c.short_between.ensures.least) in
    elim c.else-most-eq0.branch [
      | else-most-eq0-via-then-most-eq0+else-not-covers w ↦
          let enough = w.covers-then-most-eq0.ensures.0 w.if-not-covers.false in
          let all : pos (a.ask.slots + place.due + c.demand-most.result + c.short_between.new.tried.left) ≤ℤ (pos (place.span.start - a.ask.now) +ℤ place.span.spare) = omega (arith, ints, enough, nothing, least) in
          false≢true (sym c.if-covers.false ∙ c.covers.ensures.1 all)
      | else-most-eq0-via-else-most-eq0 w ↦ omega (arith, nothing, w.if-most-eq0.false)
    ] in
    let next = c.in-Some-onward.next in
    let is = c.in-Some-onward.ensures in
    let after = later-after t spans place next table.consecutive inv.place is.place is.last in
    let there = IsSeen-place table is.place in
    let end : place.span.end ≡ max c.max-first.result place.span.end = omega (arith, inv.reached, seen.stands.rising, c.max-first.ensures) in
    let here : next.span.start ≡ max a.from next.span.start = omega (arith, inv.reached, after) in
    let passed = Leaves-join need t a.ask.slots left a.from place.span.end next.span.start so_far (Leaves-all need t a.ask.slots left place.span.end next.span.start is.left) in
    record {
      place = is.place;
      passed = omega (arith, inv.passed, is.last);
      reached = omega (arith, there.stands.rising, inv.reached, after);
      same =
          Looks-later-on spans a.reserve.now t a.ask.arrivals a.ask.slots a.ask.now needed a.from place.span.start c.max-first.result place.span.end place.span.end looks inv.same c.max-first.ensures end told
          ∙ LeavesAll-later spans a.reserve.now t a.ask.arrivals a.ask.slots left place.span.end next.span.start after is.left
          ∙ ap (first_short spans a.reserve.now t a.ask.arrivals a.ask.slots) here;
      level = IsLevelFrom-later a.reserve.now a.ask.arrivals (max c.max-first.result place.span.end) (max a.from next.span.start) _ (omega (arith, after, c.max-first.ensures, seen.stands.rising)) c.short_between.ensures.level;
      left = Leaves-part need t a.ask.slots left left a.from next.span.start a.from (max a.from next.span.start) (omega arith) (omega arith) (omega (arith, here)) passed;
      small = omega (arith, inv.small, c.short_between.ensures.least);
      told = omega (arith, inv.told, c.short_between.ensures.least);
      greatest = greatest;
      stays = λ untold none. absurd (stays untold none);
      rose = omega (arith, inv.rose, is.steps);
      steps = omega (arith, inv.steps, is.steps, is.last);
    }

pub overflow_add-all : goal.overflow_add-all
overflow_add-all g c =
    let seen = IsSeen-place c.requires.table c.loop-evidence.invariant.place in
    omega (arith, seen.small, seen.stands.work)

pub left_between-requires-clause-from : goal.left_between-requires-clause-from
left_between-requires-clause-from g c =
    let seen = IsSeen-place c.requires.table c.loop-evidence.invariant.place in
    omega (arith, seen.stands.after, seen.stands.rising, seen.stands.within, c.requires.now, c.last_end-last.ensures, c.max.ensures)

pub left_between-requires-clause-few : goal.left_between-requires-clause-few
left_between-requires-clause-few g c =
    let seen = IsSeen-place c.requires.table c.loop-evidence.invariant.place in
    omega (arith, seen.small, seen.stands.work, c.requires.few)

pub left_between-requires-clause-level : goal.left_between-requires-clause-level
left_between-requires-clause-level g c =
    let a = c.args in
    let place = c.loop-evidence.place in
    let seen = IsSeen-place c.requires.table c.loop-evidence.invariant.place in
    IsLevelFrom-later a.reserve.now a.ask.arrivals (max c.max-first.result place.span.end) c.max.result _ (omega (arith, seen.stands.rising, seen.stands.within, c.last_end-last.ensures, c.max.ensures, c.max-first.ensures)) c.short_between.ensures.level

pub returns-in_default-onward-clause-first : goal.returns-in_default-onward-clause-first
returns-in_default-onward-clause-first g c =
    let a = c.args in
    let t = g.T.SpareTable.time a.table.now in
    let spans = g.T.SpareTable.spans a.table.now in
    let table = c.requires.table in
    let inv = c.loop-evidence.invariant in
    let place = c.loop-evidence.place in
    let seen = IsSeen-place table inv.place in
    let needed = a.ask.slots + place.due in
    let looks = Looks-place a.ask.slots a.ask.now c.max-first.result table inv.place c.requires.now (omega (arith, c.max-first.ensures)) in
    let told = sym c.in_default.is ∙ c.short_between.ensures.short in
    let over = c.in_default-onward.ensures.last in
    let end = last-ends t spans place inv.place over in
    let first : c.max.result ≡ max c.max-first.result place.span.end = omega (arith, c.max.ensures, c.max-first.ensures, c.last_end-last.ensures, seen.stands.rising) in
    let all = place.due + place.span.work in
    let until : c.last_end-last.result + 1 ≡ last_end t spans + 1 = omega (arith, c.last_end-last.ensures) in
    let whole = Looks-over a.ask.slots a.ask.now c.max.result (c.last_end-last.result + 1) table inv.place over c.requires.now (omega (arith, c.max.ensures, c.last_end-last.ensures)) until in
    let onward = Looks-later-on spans a.reserve.now t a.ask.arrivals a.ask.slots a.ask.now needed a.from place.span.start c.max-first.result place.span.end c.max.result looks inv.same c.max-first.ensures first told in
    c.left_between.ensures.short
    ∙ Looks-last spans a.reserve.now t a.ask.arrivals a.ask.slots a.ask.now (a.ask.slots + all) c.max.result (c.last_end-last.result + 1) whole until
    ∙ sym (ap (option_map (evidence_at spans a.reserve.now t a.ask.arrivals a.ask.slots)) onward)

pub returns-in_default-onward-clause-left : goal.returns-in_default-onward-clause-left
returns-in_default-onward-clause-left g c =
    let a = c.args in
    let t = g.T.SpareTable.time a.table.now in
    let spans = g.T.SpareTable.spans a.table.now in
    let table = c.requires.table in
    let inv = c.loop-evidence.invariant in
    let place = c.loop-evidence.place in
    let seen = IsSeen-place table inv.place in
    let looks = Looks-place a.ask.slots a.ask.now c.max-first.result table inv.place c.requires.now (omega (arith, c.max-first.ensures)) in
    let need : ℕ → ℕ = need_until spans a.reserve.now a.ask.arrivals in
    let left = c.short_between.new.tried.left in
    let so_far = Looks-leaves-on spans a.reserve.now a.ask t place.due c.loop-evidence.tried.left left a.from place.span.start c.max-first.result place.span.end looks c.max-first.ensures c.short_between.ensures.least inv.left (c.short_between.ensures.left c.in_default.is) in
    let over = c.in_default-onward.ensures.last in
    let end = last-ends t spans place inv.place over in
    let first : c.max.result ≡ max c.max-first.result place.span.end = omega (arith, c.max.ensures, c.max-first.ensures, c.last_end-last.ensures, seen.stands.rising) in
    let all = place.due + place.span.work in
    let until : c.last_end-last.result + 1 ≡ last_end t spans + 1 = omega (arith, c.last_end-last.ensures) in
    let whole = Looks-over a.ask.slots a.ask.now c.max.result (c.last_end-last.result + 1) table inv.place over c.requires.now (omega (arith, c.max.ensures, c.last_end-last.ensures)) until in
    let up_to = Leaves-part need t a.ask.slots left left a.from place.span.end a.from c.max.result (omega arith) (omega arith) (omega (arith, end, inv.reached, c.max.ensures, c.last_end-last.ensures)) so_far in
    leaves-end spans a.reserve.now a.ask t all left a.from c.max.result (c.last_end-last.result + 1) c.left_between.result whole until up_to c.left_between.ensures.left c.left_between.ensures.least

pub returns-in_default-onward-clause-none_soon : goal.returns-in_default-onward-clause-none_soon
returns-in_default-onward-clause-none_soon g c untold none =
    let a = c.args in
    let inv = c.loop-evidence.invariant in
    let place = c.loop-evidence.place in
    let stays : a.told ≡ 0 → a.reserve.now.sporadics ≡ [] → ⊥ = λ untold none.
    let nothing : c.demand-most.result ≡ 0 = c.demand-most.ensures.demand ∙ rw none refl in
    let least : c.short_between.new.tried.left ≡ 0 = omega (arith, untold, inv.told, c.short_between.ensures.least) in
    elim c.else-most-eq0.branch [
      | else-most-eq0-via-then-most-eq0+else-not-covers w ↦
          let enough = w.covers-then-most-eq0.ensures.0 w.if-not-covers.false in
          let all : pos (a.ask.slots + place.due + c.demand-most.result + c.short_between.new.tried.left) ≤ℤ (pos (place.span.start - a.ask.now) +ℤ place.span.spare) = omega (arith, ints, enough, nothing, least) in
          false≢true (sym c.if-covers.false ∙ c.covers.ensures.1 all)
      | else-most-eq0-via-else-most-eq0 w ↦ omega (arith, nothing, w.if-most-eq0.false)
    ] in
    absurd (stays untold none)

pub returns-in_default-onward-clause-greatest : goal.returns-in_default-onward-clause-greatest
returns-in_default-onward-clause-greatest g c =
    let a = c.args in
    let t = g.T.SpareTable.time a.table.now in
    let spans = g.T.SpareTable.spans a.table.now in
    let table = c.requires.table in
    let inv = c.loop-evidence.invariant in
    let place = c.loop-evidence.place in
    let looks = Looks-place a.ask.slots a.ask.now c.max-first.result table inv.place c.requires.now (omega (arith, c.max-first.ensures)) in
    let start : a.from ≤ c.max-first.result = omega (arith, c.max-first.ensures) in
    let most = min a.told (last_end t spans - t - a.ask.slots) in
    let greatest = Looks-most spans a.reserve.now a.ask t place.due most c.loop-evidence.tried.left c.short_between.new.tried.left a.from c.max-first.result place.span.end looks start inv.greatest (c.short_between.ensures.greatest c.in_default.is) in
    let over = c.in_default-onward.ensures.last in
    let end = last-ends t spans place inv.place over in
    let all = place.due + place.span.work in
    let until : c.last_end-last.result + 1 ≡ last_end t spans + 1 = omega (arith, c.last_end-last.ensures) in
    let whole = Looks-over a.ask.slots a.ask.now c.max.result (c.last_end-last.result + 1) table inv.place over c.requires.now (omega (arith, c.max.ensures, c.last_end-last.ensures)) until in
    most-end spans a.reserve.now a.ask t all most c.short_between.new.tried.left a.from c.max.result (c.last_end-last.result + 1) c.left_between.result whole (omega (arith, c.max.ensures)) greatest c.left_between.ensures.greatest
