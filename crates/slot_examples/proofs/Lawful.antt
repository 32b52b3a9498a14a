-- Histories and traces that are lawful, and others.
use Rattle.std.specs.Prelude.{◌≡◌, ℤ, pos, ◌+ℤ◌, true, List, [], ◌∷◌, ◌++◌, codes, refl}
use Rattle.std.specs.Fmt.{digits}
use Rattle.std.proofs.Common.{arith, ap, sym, subst, inl}
use Rattle.std.proofs.lemmas.Bool.{false≢true}
use Rattle.slot_core.specs.declared.jobs.Key.TheVariants.{Offline, Soft as SoftKey}
use Rattle.slot_core.specs.declared.jobs.Job.{Job}
use Rattle.slot_core.specs.declared.jobs.Span.{Span}
use Rattle.slot_core.specs.declared.events.Entry.{Entry}
use Rattle.slot_core.specs.declared.events.Event.TheVariants.{Soft}
use Rattle.slot_core.specs.declared.events.Ran.TheVariants.{Idle as RanIdle, Key as RanKey}
use Rattle.slot_core.specs.declared.events.Soft.TheVariants.{Taken as SoftTaken}
use Rattle.slot_core.specs.declared.events.What.TheVariants.{Start, Soft as SoftEntry, Run, Idle}
use Rattle.slot_core.specs.Claims.Lawful.{IsLawful, AreLawful, IsLawfulTrace}
use Rattle.slot_core.specs.Claims.Service.{IsServed}
use Rattle.slot_core.specs.Output.Texts.{trace_text}
use Rattle.slot_core.specs.Runs.Histories.{History}
use Rattle.slot_core.specs.Runs.Scenes.{guaranteed}
use Rattle.slot_core.specs.Runs.Traces.{arrive, slot, started, shown_entry, end_entry}
use Rattle.slot_core.specs.Sets.Ranges.{is_sound}
use Rattle.slot_facts.proofs.Lawful.Data.{lawful-as_data}
use Rattle.slot_facts.proofs.Legal.Rows.{run-says, idle-says}
use Rattle.slot_facts.proofs.Lists.Members.{Contains-from_Has}
use Rattle.sample_sets.specs.Sets.{half_set, pair_set, cut_deadline_set, two_periods_set}
use Rattle.slot_examples.specs.Lines.{lines}

-- of two jobs that are ready the second may run first
pub another_order :
    IsLawful (two_periods_set 2 2) 2 (Run (Offline 0 0 0) ∷ Run (Offline 1 0 0) ∷ started)
another_order =
    ((slot, tt, (RanKey (Offline 0 0 0), refl, refl, refl)), ((slot, tt, (RanKey (Offline 1 0 0), refl, refl, refl)), tt))

-- a slot may be idle beside work that still has room
pub idle_with_room : IsLawful half_set 2 (Run (Offline 0 0 0) ∷ Idle ∷ started)
idle_with_room =
    ((slot, tt, (RanKey (Offline 0 0 0), refl, refl, refl)), ((slot, tt, (RanIdle, refl, refl, refl)), tt))

-- a second idle slot is one too many: the job is late by one
pub late_by_one : IsLawful half_set 2 (Idle ∷ Idle ∷ started) → ⊥
late_by_one lawful =
    false≢true (idle-says (lawful-as_data half_set 2 (Idle ∷ Idle ∷ started) lawful)).in_time

-- of two soft jobs the one that came later may run first
pub another_soft_job :
    IsLawful
    pair_set
    8
    (Run (SoftKey 2) ∷ SoftEntry 2 1 SoftTaken ∷ SoftEntry 1 1 SoftTaken ∷ started)
another_soft_job =
    ((slot, tt, (RanKey (SoftKey 2), refl, refl, refl)), ((arrive 2 (Soft 1), (omega arith, refl), refl), ((arrive 1 (Soft 1), (omega arith, refl), refl), tt)))

-- one that has not come may not
pub no_soft_job : IsLawful pair_set 8 (Run (SoftKey 2) ∷ SoftEntry 1 1 SoftTaken ∷ started) → ⊥
no_soft_job lawful =
    false≢true (run-says (lawful-as_data pair_set 8 (Run (SoftKey 2) ∷ SoftEntry 1 1 SoftTaken ∷ started) lawful)).may

-- six idle slots: no deadline has passed yet, though the first can be met no more
abbrev idle_for_six : History
idle_for_six = Idle ∷ Idle ∷ Idle ∷ Idle ∷ Idle ∷ Idle ∷ started

pub borrowed_too_much : IsLawful pair_set 8 idle_for_six
borrowed_too_much =
    ((slot, tt, (RanIdle, refl, refl, refl)), ((slot, tt, (RanIdle, refl, refl, refl)), ((slot, tt, (RanIdle, refl, refl, refl)), ((slot, tt, (RanIdle, refl, refl, refl)), ((slot, tt, (RanIdle, refl, refl, refl)), ((slot, tt, (RanIdle, refl, refl, refl)), tt))))))

-- once a task has run its two slots, the next in the row may run
pub in_a_row :
    IsLawful pair_set 8 (Run (Offline 0 1 0) ∷ Run (Offline 0 0 0) ∷ Run (Offline 0 0 0) ∷ started)
in_a_row =
    ((slot, tt, (RanKey (Offline 0 1 0), refl, refl, refl)), ((slot, tt, (RanKey (Offline 0 0 0), refl, refl, refl)), ((slot, tt, (RanKey (Offline 0 0 0), refl, refl, refl)), tt)))

-- a job may not run before its predecessor has ended, though its window has begun
pub before_its_predecessor :
    IsLawful pair_set 8 (Run (Offline 0 1 0) ∷ Run (Offline 0 0 0) ∷ Idle ∷ started) → ⊥
before_its_predecessor lawful =
    false≢true (run-says (lawful-as_data pair_set 8 (Run (Offline 0 1 0) ∷ Run (Offline 0 0 0) ∷ Idle ∷ started) lawful)).may

-- nor before its window
pub before_its_window : IsLawful pair_set 8 (Run (Offline 0 0 1) ∷ started) → ⊥
before_its_window lawful =
    false≢true (run-says (lawful-as_data pair_set 8 (Run (Offline 0 0 1) ∷ started) lawful)).may

-- a trace of one slot that is idle beside work
abbrev idle_entry : Entry
idle_entry = shown_entry pair_set 8 0 Idle (Idle ∷ started)

abbrev trace_of : Entry → List Entry
trace_of entry = shown_entry pair_set 8 0 Start started ∷ entry ∷ end_entry 1 ∷ []

-- it is lawful, with the capacities that are left
pub idle_trace : IsLawfulTrace pair_set [] 1 (trace_of idle_entry)
idle_trace = (idle_entry ∷ [], refl, ((RanIdle, refl, refl, refl), refl, refl))

pub text_of_idle_trace :
    trace_text pair_set (trace_of idle_entry)
    ≡ lines
    (codes "0 start | 0-7:5 7-8:0 8-15:5 15-16:0 16-23:5 23-24:0"
    ∷ codes "0 idle | 1-7:4 7-8:0 8-15:5 15-16:0 16-23:5 23-24:0"
    ∷ codes "1 end"
    ∷ [])
unfolding digits
text_of_idle_trace = refl

-- the same with the first capacity one higher
abbrev raised : List Span → List Span
raised [] = []
raised (s ∷ spans) = record s { spare = s.spare +ℤ pos 1 } ∷ spans

abbrev raised_entry : Entry
raised_entry =
    record idle_entry { shown = record idle_entry.shown { spans = raised idle_entry.shown.spans } }

pub text_of_raised_trace :
    trace_text pair_set (trace_of raised_entry)
    ≡ lines
    (codes "0 start | 0-7:5 7-8:0 8-15:5 15-16:0 16-23:5 23-24:0"
    ∷ codes "0 idle | 1-7:5 7-8:0 8-15:5 15-16:0 16-23:5 23-24:0"
    ∷ codes "1 end"
    ∷ [])
unfolding digits
text_of_raised_trace = refl

-- that is none
abbrev second : List Entry → Entry
second (first ∷ entry ∷ later) = entry
second _ = end_entry 0

abbrev first_spare : List Span → ℤ
first_spare [] = pos 0
first_spare (s ∷ spans) = s.spare

raised_trace_told :
    (told : List Entry)
    → trace_of raised_entry ≡ shown_entry pair_set 8 0 Start started ∷ (told ++ end_entry 1 ∷ [])
    → AreLawful pair_set 8 started (slot ∷ []) told → ⊥
raised_trace_told [] is are = are
raised_trace_told (entry ∷ told) is (tells, shows, rest) =
    let same : raised_entry ≡ entry = ap second is in
    let own = subst (λ (e : Entry). e ≡ shown_entry pair_set 8 0 e.what (e.what ∷ started)) (sym same) shows in
    let spare : pos 5 ≡ pos 4 = ap (λ (e : Entry). first_spare e.shown.spans) own in
    cc

pub raised_trace : IsLawfulTrace pair_set [] 1 (trace_of raised_entry) → ⊥
raised_trace (told, is, are) = raised_trace_told told is are

-- a set with a deadline cut to 0 may be sound, and then its task may run in slot 0
pub cut_deadline : is_sound cut_deadline_set ≡ true
cut_deadline = refl

pub lawful_outside_its_window : IsLawful cut_deadline_set 4 (Run (Offline 0 0 0) ∷ started)
lawful_outside_its_window = ((slot, tt, (RanKey (Offline 0 0 0), refl, refl, refl)), tt)

-- but that lies outside its window
abbrev cut_job : Job
cut_job = record { key = Offline 0 0 0; est = 0; dl = 0; left = 1; declared = 1 }

pub not_served_outside_its_window :
    IsServed cut_deadline_set 4 (Run (Offline 0 0 0) ∷ started) → ⊥
not_served_outside_its_window served =
    let jobs = guaranteed cut_deadline_set 4 (Run (Offline 0 0 0) ∷ started) in
    let inside = served.inside cut_job started (Contains-from_Has jobs cut_job (inl refl)) ([], refl) in
    omega (arith, inside.2)
