-- The window is the counterexample, so it is short.
use Rattle.std.proofs.Common.{◌≡◌, ◌+◌, ◌-◌, ◌++◌, ℕ, List, true, ap, sym, ◌∙◌, arith}
use Rattle.std.specs.Prelude.{flat_map}
use Rattle.std.proofs.lemmas.Bool.{and_parts}
use Rattle.std.proofs.lemmas.List.Elements.{All-same}
use Rattle.std.proofs.lemmas.List.Sums.{AllPass-from_list_all}
use Rattle.slot_core.specs.Sets.Cycles.{cycle_of}
use Rattle.slot_core.specs.Sets.Ranges.{sporadic_in_range}
use Rattle.slot_core.specs.Offline.OfflineJobs.{cycle_jobs}
use Rattle.slot_facts.proofs.Demand.Feasible.{counterexample-fails}
use Rattle.slot_facts.proofs.Offline.Jobs.{cycle-at_most, cycle-positive}
use Rattle.slot_facts.proofs.Sets.Ranges.{SetRanges-from_sound}
use Rattle.graph_unroll.proofs.RangeLemmas.{lengths_in_range}
use Rattle.slot_core.specs.Output.Reports.{job_line}
use Rattle.plan_answers.specs.Who.{arrival_line, arrivals_inside, arrived_lines, jobs_inside, window_line}
use Rattle.plan_answers.proofs.Insides.{arrivals-lines}
use Rattle.plan_answers.proofs.who.window_text.Goals as goal

pub cycle_of-requires : goal.cycle_of-requires
cycle_of-requires c = lengths_in_range c.args.tasks.now (and_parts _ _ c.requires.sound).0

pub overflow_sub-slots : goal.overflow_sub-slots
overflow_sub-slots c =
    let set = c.args.tasks.now in
    let (start, low, high, needs, short) = counterexample-fails (cycle_jobs set (cycle_of set) 0) set.sporadics (cycle_of set) c.args.window (cycle-positive set c.requires.sound) c.requires.failing in
    omega arith

pub overflow_cast-slots : goal.overflow_cast-slots
overflow_cast-slots c =
    let set = c.args.tasks.now in
    let (start, low, high, needs, short) = counterexample-fails (cycle_jobs set (cycle_of set) 0) set.sporadics (cycle_of set) c.args.window (cycle-positive set c.requires.sound) c.requires.failing in
    omega (arith, cycle-at_most set c.requires.sound)

pub push_arrivals-requires-clause-from : goal.push_arrivals-requires-clause-from
push_arrivals-requires-clause-from c =
    let set = c.args.tasks.now in
    let (start, low, high, needs, short) = counterexample-fails (cycle_jobs set (cycle_of set) 0) set.sporadics (cycle_of set) c.args.window (cycle-positive set c.requires.sound) c.requires.failing in
    omega (arith, cycle-at_most set c.requires.sound)

pub push_arrivals-requires-clause-slots : goal.push_arrivals-requires-clause-slots
push_arrivals-requires-clause-slots c =
    let set = c.args.tasks.now in
    let (start, low, high, needs, short) = counterexample-fails (cycle_jobs set (cycle_of set) 0) set.sporadics (cycle_of set) c.args.window (cycle-positive set c.requires.sound) c.requires.failing in
    omega (arith, cycle-at_most set c.requires.sound)

pub push_arrivals-requires-clause-in_range : goal.push_arrivals-requires-clause-in_range
push_arrivals-requires-clause-in_range c =
    let set = c.args.tasks.now in
    All-same (λ s. sporadic_in_range s ≡ true) _ _ c.items.ensures (AllPass-from_list_all sporadic_in_range set.sporadics (SetRanges-from_sound set c.requires.sound).sporadics)

pub returns : goal.returns
returns c =
    let set = c.args.tasks.now in
    let w = c.args.window in
    let (start, low, high, needs, short) = counterexample-fails (cycle_jobs set (cycle_of set) 0) set.sporadics (cycle_of set) w (cycle-positive set c.requires.sound) c.requires.failing in
    let ends : w.from + (w.until - w.from) ≡ w.until = omega arith in
    let arrivals : flat_map (arrived_lines w.from (w.from + (w.until - w.from))) c.items.result.now ≡ flat_map (arrival_line set) (arrivals_inside set w) = ap (λ x. flat_map (arrived_lines w.from x) c.items.result.now) ends ∙ ap (flat_map (arrived_lines w.from w.until)) c.items.ensures ∙ sym (arrivals-lines set w.from w.until) in
    let jobs = flat_map (job_line set) (jobs_inside set w) in
    c.in_ok-push_arrivals.ensures
    ∙ ap (λ (l : List ℕ). c.push_jobs.new.text.items ++ l) arrivals
    ∙ ap (λ (l : List ℕ). l ++ flat_map (arrival_line set) (arrivals_inside set w)) (c.in_ok-push_jobs.ensures ∙ ap (λ (l : List ℕ). l ++ jobs) (c.in_ok-push_window.ensures ∙ ap (λ (l : List ℕ). l ++ window_line w) c.new-text.ensures.items))
