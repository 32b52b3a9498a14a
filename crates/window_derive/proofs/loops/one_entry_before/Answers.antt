-- What the tasks so far are marked by.
use Rattle.std.proofs.Common.{◌≡◌, ◌<◌, ◌≤◌, false, length, replicate, refl, sym, ap, ◌∙◌, arith, length-set, below_more, ⊎_elim}
use Rattle.std.specs.List.{list_any}
use Rattle.std.proofs.lemmas.Bool.{cases_lt}
use Rattle.slot_core.specs.declared.TheConstants.{TASK_LIMIT}
use Rattle.slot_core.specs.declared.tasks.Task.{Task}
use Rattle.window_derive.specs.Marks.{is_marked}
use Rattle.window_derive.proofs.LoopLemmas.{unmarked, marked_same, marked_other, after_of-at, after_of-past, entries_below}
use Rattle.window_derive.proofs.loops.one_entry_before.Goals as goal

pub loop-place-init : goal.loop-place-init
loop-place-init c = record {
  long = refl;
  done = λ t h. absurd (omega arith);
  left = λ t h. unmarked (replicate TASK_LIMIT false) t refl;
}

pub leads_to_one-requires : goal.leads_to_one-requires
leads_to_one-requires c =
    let tasks = c.args.tasks.now in
    let at = c.loop-place.place in
    entries_below tasks at TASK_LIMIT c.items.result.now c.requires.named c.requires.count (c.items.ensures ∙ ap (λ (t : Task). t.after) c.index-tasks-place.is ∙ sym (after_of-at tasks at c.index-tasks-place.result c.loop-place-test.true))

pub loop-place-preserved : goal.loop-place-preserved
loop-place-preserved c =
    let place = c.loop-place.place in
    let before = c.loop-place.before in
    let long : place < length before = omega (arith, c.loop-place.invariant.long) in
    record {
      long = length-set before place c.leads_to_one.result ∙ c.loop-place.invariant.long;
      done = below_more _ _
          (λ t h. let apart : t ≡ place → ⊥ = omega arith in marked_other before place t c.leads_to_one.result apart ∙ c.loop-place.invariant.done t h)
          (marked_same before place c.leads_to_one.result long ∙ c.leads_to_one.ensures ∙ ap (list_any (is_marked c.args.leading.now)) (c.items.ensures ∙ ap (λ (t : Task). t.after) c.index-tasks-place.is ∙ sym (after_of-at c.args.tasks.now place c.index-tasks-place.result c.loop-place-test.true)));
      left = λ t h. marked_other before place t c.leads_to_one.result (omega arith) ∙ c.loop-place.invariant.left t (omega arith);
    }

pub returns : goal.returns
returns c = λ t.
    let past = λ (h : length c.args.tasks.now ≤ t). c.loop-place.invariant.left t (omega arith) ∙ sym (ap (list_any (is_marked c.args.leading.now)) (after_of-past c.args.tasks.now t h)) in
    ⊎_elim (λ h. c.loop-place.invariant.done t (omega arith)) past (cases_lt t (length c.args.tasks.now))
