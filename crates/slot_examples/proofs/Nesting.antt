-- Jobs that nest, soft work that shares no stack with guaranteed jobs, and a history that does not
-- nest.
use Rattle.std.specs.Prelude.{◌≡◌, ℕ, false, true, [], ◌∷◌, codes, nat_lt, refl}
use Rattle.std.proofs.Common.{arith, inl, inr}
use Rattle.std.proofs.lemmas.Bool.{false≢true}
use Rattle.slot_core.specs.declared.jobs.Key.{Key}
use Rattle.slot_core.specs.declared.jobs.Key.TheVariants.{Offline, Soft as SoftKey}
use Rattle.slot_core.specs.declared.jobs.Job.{Job}
use Rattle.slot_core.specs.declared.tasks.TaskSet.{TaskSet}
use Rattle.slot_core.specs.declared.events.Event.TheVariants.{Soft, Firm, Withdraw}
use Rattle.slot_core.specs.declared.events.Ran.TheVariants.{Key as RanKey}
use Rattle.slot_core.specs.declared.events.What.TheVariants.{Soft as SoftEntry, Firm as FirmEntry, Withdraw as WithdrawEntry, Run}
use Rattle.slot_core.specs.declared.events.Soft.TheVariants.{Taken}
use Rattle.slot_core.specs.declared.events.Firm.TheVariants.{Accepted}
use Rattle.slot_core.specs.declared.events.Gone.TheVariants.{Freed}
use Rattle.slot_core.specs.Claims.Lawful.{IsLawful}
use Rattle.slot_core.specs.Runs.Histories.{History, Follows, executed, is_over}
use Rattle.slot_core.specs.Runs.Scenes.{guaranteed, has_ended}
use Rattle.slot_core.specs.Runs.Traces.{arrive, slot, started, IsLegal}
use Rattle.service_laws.specs.Nesting.{pushed, HasFrame, AreTwo, IsWithin, IsNested}
use Rattle.slot_facts.proofs.Lists.Members.{Contains-from_Has}
use Rattle.sample_sets.specs.Sets.{lone_task, set_of}

-- three tasks of two slots, each with its window within that of the one before
abbrev pub windows_set : TaskSet
windows_set =
    set_of
    1
    (lone_task (codes "f") 8 0 8 2
    ∷ lone_task (codes "g") 8 1 6 2
    ∷ lone_task (codes "h") 8 2 3 2
    ∷ [])
    []

-- their jobs of the first cycle
abbrev pub outer : Job
outer = record { key = Offline 0 0 0; est = 0; dl = 8; left = 2; declared = 2 }

abbrev pub middle : Job
middle = record { key = Offline 1 0 0; est = 1; dl = 7; left = 2; declared = 2 }

abbrev pub inner : Job
inner = record { key = Offline 2 0 0; est = 2; dl = 5; left = 2; declared = 2 }

-- after three slots each of them has started over the one before
abbrev pub all_started : History
all_started = Run inner.key ∷ Run middle.key ∷ Run outer.key ∷ started

pub all_started_is_legal : IsLegal windows_set 8 all_started
all_started_is_legal = ((slot, tt, refl), ((slot, tt, refl), ((slot, tt, refl), tt)))

pub three_pushed : pushed all_started ≡ inner.key ∷ middle.key ∷ outer.key ∷ []
three_pushed = refl

-- none of them has ended: there are as many frames as windows that lie within one another, so that
-- the bound is sharp
pub all_have_frames :
    HasFrame all_started outer × HasFrame all_started middle × HasFrame all_started inner
all_have_frames = ((refl, refl), (refl, refl), (refl, refl))

pub windows_are_within : IsWithin outer middle × IsWithin middle inner
windows_are_within = ((omega arith, omega arith), (omega arith, omega arith))

-- the frames go in turn: the middle job goes on when the inner one has ended, and the outer job
-- when both have
abbrev pub inner_ended : History
inner_ended = Run inner.key ∷ all_started

abbrev pub middle_ended : History
middle_ended = Run middle.key ∷ inner_ended

pub each_goes_on : IsLegal windows_set 8 (Run outer.key ∷ middle_ended)
each_goes_on =
    ((slot, tt, refl), ((slot, tt, refl), ((slot, tt, refl), all_started_is_legal)))

pub ended_in_turn :
    (has_ended inner_ended inner ≡ true)
    × (has_ended inner_ended middle ≡ false)
    × (has_ended middle_ended middle ≡ true)
    × (has_ended middle_ended outer ≡ false)
ended_in_turn = (refl, refl, refl, refl)

-- two slots of work in every four
abbrev pub two_in_four_set : TaskSet
two_in_four_set = set_of 1 (lone_task (codes "g") 4 0 4 2 ∷ []) []

-- after the history the first key is covered: its job had started when the job of the other key
-- ran, which has not ended
pub record IsCovered (h : History) (key other : Key) (declared : ℕ) : Type 0 where
  pub between : History
  pub ran : Follows h (Run other) between
  pub begun : nat_lt 0 (executed key between) ≡ true
  pub unended : is_over h other declared ≡ false

-- three slots of soft work come when the job of the set has started, and two of them run over it
abbrev pub soft_above : History
soft_above =
    Run (SoftKey 1)
    ∷ Run (SoftKey 1)
    ∷ SoftEntry 1 3 Taken
    ∷ Run (Offline 0 0 0)
    ∷ started

-- then the job goes on, though the soft work that covers it has not ended
pub guaranteed_goes_on : IsLegal two_in_four_set 4 (Run (Offline 0 0 0) ∷ soft_above)
guaranteed_goes_on =
    ((slot, tt, refl), ((slot, tt, refl), ((slot, tt, refl), ((arrive 1 (Soft 3), (omega arith, refl), refl), ((slot, tt, refl), tt)))))

pub guaranteed_is_covered : IsCovered soft_above (Offline 0 0 0) (SoftKey 1) 3
guaranteed_is_covered =
    record {
      between = SoftEntry 1 3 Taken ∷ Run (Offline 0 0 0) ∷ started;
      ran = (Run (SoftKey 1) ∷ [], refl);
      begun = refl;
      unended = refl;
    }

-- soft work starts, an accepted request leaves it no slot, the job of the set runs over it, and the
-- request is withdrawn
abbrev pub soft_below : History
soft_below =
    WithdrawEntry 3 2 (Freed 1)
    ∷ Run (Offline 0 0 0)
    ∷ FirmEntry 2 1 3 Accepted
    ∷ Run (SoftKey 1)
    ∷ SoftEntry 1 2 Taken
    ∷ started

-- then the soft work goes on, though the job that covers it has not ended: one stack serves neither
-- kind beside the other
pub soft_goes_on : IsLegal two_in_four_set 4 (Run (SoftKey 1) ∷ soft_below)
soft_goes_on =
    ((slot, tt, refl), ((arrive 3 (Withdraw 2), (omega arith, refl), refl), ((slot, tt, refl), ((arrive 2 (Firm 1 3), (omega arith, refl), refl), ((slot, tt, refl), ((arrive 1 (Soft 2), (omega arith, refl), refl), tt))))))

pub soft_is_covered : IsCovered soft_below (SoftKey 1) (Offline 0 0 0) 2
soft_is_covered =
    record {
      between = FirmEntry 2 1 3 Accepted ∷ Run (SoftKey 1) ∷ SoftEntry 1 2 Taken ∷ started;
      ran = (WithdrawEntry 3 2 (Freed 1) ∷ [], refl);
      begun = refl;
      unended = refl;
    }

-- two tasks of two slots each in every four
abbrev pub two_tasks_set : TaskSet
two_tasks_set = set_of 1 (lone_task (codes "g") 4 0 4 2 ∷ lone_task (codes "h") 4 0 4 2 ∷ []) []

abbrev first : Job
first = record { key = Offline 0 0 0; est = 0; dl = 4; left = 2; declared = 2 }

abbrev second : Job
second = record { key = Offline 1 0 0; est = 0; dl = 4; left = 2; declared = 2 }

-- their jobs run in turn: that is lawful
abbrev pub in_turn : History
in_turn = Run first.key ∷ Run second.key ∷ Run first.key ∷ started

pub in_turn_is_lawful : IsLawful two_tasks_set 4 in_turn
in_turn_is_lawful =
    ((slot, tt, (RanKey first.key, refl, refl, refl)), ((slot, tt, (RanKey second.key, refl, refl, refl)), ((slot, tt, (RanKey first.key, refl, refl, refl)), tt)))

-- but not nested: the first job goes on over the second, so a history has to be legal
differ : first.key ≡ second.key → ⊥
differ e = cc

pub two_jobs : AreTwo two_tasks_set 4 in_turn first second
two_jobs =
    let jobs = guaranteed two_tasks_set 4 in_turn in
    record {
      one_listed = Contains-from_Has jobs first (inl refl);
      other_listed = Contains-from_Has jobs second (inr (inl refl));
      apart = differ;
    }

pub in_turn_is_not_nested : IsNested two_tasks_set 4 in_turn → ⊥
in_turn_is_not_nested nested =
    false≢true (nested.goes_on first second (Run second.key ∷ Run first.key ∷ started) (Run first.key ∷ started) two_jobs ([], refl) ([], refl) refl)
