use Rattle.std.proofs.Common.{◌≡◌, ◌+◌, ◌*◌, ◌≤◌, ◌∙◌, IsSomeAnd, drop, get_or, take, ap, sym, subst}
use Rattle.std.proofs.lemmas.Bool.{leb-true}
use Rattle.slot_core.specs.declared.TheConstants.{SHOWN_LIMIT}
use Rattle.slot_core.specs.declared.jobs.Span.{Span}
use Rattle.spare_capacity.specs.Recurrence.{filled, first_start}
use Rattle.spare_capacity.proofs.Steps.{no_row}
use Rattle.interval_row.specs.Changes.{ends_before, span_ending, with_work}
use Rattle.interval_row.specs.Spans.{with_work_at}
use Rattle.interval_row.specs.Stores.{Stored}
use Rattle.interval_row.specs.Works.{changed_by, MayChangeBy}
use Rattle.interval_row.proofs.Places.{IsDueAt, IsDueAt-span_ending}
use Rattle.interval_row.proofs.RunWalks.{take-fewer}
use Rattle.interval_row.proofs.Works.{drop-first_work}
use Rattle.interval_row.proofs.Rooms.{seen_of, AreKept-changed_by, IsTable-AreKept, AreKept, kept_of, marked_of}
use Rattle.interval_row.proofs.span_table.Table.change_work.Given.{Over}
use Rattle.interval_row.proofs.span_table.Table.change_work.Goals as goal
use Rattle.interval_row.proofs.span_table.Table.change_work.Goals.{else-changed-eq0, then-changed-eq0, After-change_work-changed}

pub change_work-changed-requires-clause-due : goal.change_work-changed-requires-clause-due
change_work-changed-requires-clause-due g c =
    subst (λ (v : Stored). IsSomeAnd (span_ending c.args.deadline v.spans) (λ (s : Span). MayChangeBy c.args.change s.work)) (sym c.self.view_is) c.requires

-- the new spans are kept
kept : (g : Over) (c : After-change_work-changed g) → AreKept (g.S.Store.spans c.change_work-changed.new.store) (g.S.Store.room c.change_work-changed.new.store) c.self.inside.times.start c.self.inside.times.end
kept g c =
    let due = subst (λ (v : Stored). IsSomeAnd (span_ending c.args.deadline v.spans) (λ (s : Span). MayChangeBy c.args.change s.work)) (sym c.self.view_is) c.requires in
    rw (c.change_work-changed.ensures.spans, c.change_work-changed.ensures.room) (AreKept-changed_by c.args.change c.args.deadline (g.S.Store.spans c.self.inside.chain) (g.S.Store.room c.self.inside.chain) c.self.inside.times.start c.self.inside.times.end (kept_of c.self.invariant) due)

pub change_work-changed-requires-clause-timed : goal.change_work-changed-requires-clause-timed
change_work-changed-requires-clause-timed g c = c.self.invariant.timed

pub invariant_of-self : goal.invariant_of-self
invariant_of-self g c =
    marked_of (kept g (goal.at.invariant_of-self g c).After-change_work-changed) c.change_work-changed.ensures.marked

pub returns-clause-table : goal.returns-clause-table
returns-clause-table g c = IsTable-AreKept _ _ _ _ (kept g (goal.at.returns-clause-table g c).After-change_work-changed)

pub returns-clause-time : goal.returns-clause-time
returns-clause-time g c =
    sym (kept g (goal.at.returns-clause-time g c).After-change_work-changed).starts ∙ c.self.invariant.timed.starts ∙ sym (seen_of c.self.view_is (kept_of c.self.invariant)).start

pub returns-clause-spans : goal.returns-clause-spans
returns-clause-spans g c =
    c.change_work-changed.ensures.spans ∙ ap (λ (v : Stored). filled (with_work (changed_by c.args.change) c.args.deadline v.spans)) c.self.view_is

pub returns-clause-few_steps : goal.returns-clause-few_steps
returns-clause-few_steps g c =
    subst (λ (v : Stored). c.change_work-changed.new.steps ≤ c.args.steps.now + 3 * ends_before c.args.deadline v.spans + 3) c.self.view_is c.change_work-changed.ensures.few_steps

-- where the first span has changed, all others stay
others-first : (g : Over) (c : After-change_work-changed g) → c.change_work-changed.result.index ≡ 0 → drop 1 (take SHOWN_LIMIT (g.S.Store.spans c.change_work-changed.new.store)) ≡ drop 1 (take SHOWN_LIMIT (g.S.Store.spans c.self.inside.chain))
others-first g c first =
    let rows = g.S.Store.spans c.self.inside.chain in
    let filled_rows = c.self.invariant.timed.filled in
    let may : Span → Type 0 = λ (s : Span). MayChangeBy c.args.change s.work in
    let some = subst (λ (v : Stored). IsSomeAnd (span_ending c.args.deadline v.spans) may) (sym c.self.view_is) c.requires in
    let due = IsDueAt-span_ending (first_start rows) rows c.args.deadline may filled_rows.consecutive some in
    let here = subst (IsDueAt c.args.deadline may rows) (sym c.change_work-changed.ensures.place ∙ first) due in
    let work = changed_by c.args.change (get_or rows 0 no_row).work in
    let now : g.S.Store.spans c.change_work-changed.new.store ≡ filled (with_work_at 0 work rows) = c.change_work-changed.ensures.spans ∙ ap filled (here.changed (changed_by c.args.change)) in
    ap (λ xs. drop 1 (take SHOWN_LIMIT xs)) now ∙ drop-first_work SHOWN_LIMIT work rows filled_rows.filled

-- where so many stay, these do
others-stay : (g : Over) (c : After-change_work-changed g) → SHOWN_LIMIT ≤ c.change_work-changed.result.stay → drop 1 (take SHOWN_LIMIT (g.S.Store.spans c.change_work-changed.new.store)) ≡ drop 1 (take SHOWN_LIMIT (g.S.Store.spans c.self.inside.chain))
others-stay g c l =
    ap (drop 1) (take-fewer SHOWN_LIMIT c.change_work-changed.result.stay (g.S.Store.spans c.change_work-changed.new.store) (g.S.Store.spans c.self.inside.chain) c.change_work-changed.ensures.front l)

pub returns-clause-others : goal.returns-clause-others
returns-clause-others g c =
    let w = (goal.at.returns-clause-others g c).After-change_work-changed in
    λ stays.
    elim c.if-changed-eq0.branch [
      | then-changed-eq0 t ↦ others-first g w t.if-changed-eq0.true
      | else-changed-eq0 e ↦ others-stay g w (leb-true SHOWN_LIMIT c.change_work-changed.result.stay (sym e.result-is ∙ stays))
    ]
    ∙ ap (λ (v : Stored). drop 1 (take SHOWN_LIMIT v.spans)) c.self.view_is
