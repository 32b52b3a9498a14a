-- What each line of a trace does to a job of the set.
use Rattle.std.specs.Prelude.{ℕ, ◌+◌, List, slice_get, Option, Some, None, option_map}
use Rattle.std.specs.List.{filter_map}
use Rattle.std.specs.Option.{option_map_or}
use Rattle.slot_core.specs.declared.jobs.Key.{Key}
use Rattle.slot_core.specs.declared.jobs.Key.TheVariants.{Sporadic as SporadicKey, Firm as FirmKey, Soft as SoftKey}
use Rattle.slot_core.specs.declared.tasks.Sporadic.{Sporadic}
use Rattle.slot_core.specs.declared.tasks.TaskSet.{TaskSet}
use Rattle.slot_core.specs.declared.events.Soft.{Soft as SoftAnswer}
use Rattle.slot_core.specs.declared.events.Soft.TheVariants.{Taken as SoftTaken, Full}
use Rattle.slot_core.specs.declared.events.Firm.{Firm as FirmAnswer}
use Rattle.slot_core.specs.declared.events.Firm.TheVariants.{Accepted}
use Rattle.slot_core.specs.declared.events.Spo.{Spo}
use Rattle.slot_core.specs.declared.events.Spo.TheVariants.{Taken as SporadicTaken, Soon}
use Rattle.slot_core.specs.declared.events.Done.{Done as DoneAnswer}
use Rattle.slot_core.specs.declared.events.Done.TheVariants.{Freed, NotRunning}
use Rattle.slot_core.specs.declared.events.Gone.{Gone}
use Rattle.slot_core.specs.declared.events.Gone.TheVariants.{Freed as GoneFreed, NoJob}
use Rattle.key_texts.specs.KeyTexts.{key_of_text, sporadic_named}
use Rattle.trace_lines.specs.declared.line.KeyName.{KeyName}
use Rattle.trace_lines.specs.declared.line.Words.{Words}
use Rattle.trace_lines.specs.declared.line.Words.TheVariants.{Start, Soft, Firm, Sporadic as SporadicWords, Done, Withdraw, Run, Idle, End}
use Rattle.trace_lines.specs.declared.line.TraceLine.{TraceLine}
use Rattle.trace_lines.specs.Texts.{key_text}
use Rattle.view_jobs.specs.declared.deeds.Deed.{Deed}
use Rattle.view_jobs.specs.declared.deeds.Does.{Does}
use Rattle.view_jobs.specs.declared.deeds.Does.TheVariants.{Nothing, Brings, Runs, Ends}

-- the key of the set that has the text of a key by names
abbrev pub key_in : TaskSet → KeyName → Option Key
key_in set key = key_of_text set (key_text key)

-- soft work that is taken
abbrev pub brought_soft : ℕ → ℕ → SoftAnswer → Does
brought_soft row slots SoftTaken =
    Brings (record { key = SoftKey row; deadline = None; declared = slots })
brought_soft row slots (Full waiting) = Nothing

-- a firm task that is accepted
abbrev pub brought_firm : ℕ → ℕ → ℕ → FirmAnswer → Does
brought_firm row slots deadline Accepted =
    Brings (record { key = FirmKey row; deadline = Some deadline; declared = slots })
brought_firm row slots deadline _ = Nothing

-- a job of the sporadic task of this index that is taken
abbrev pub brought_job : TaskSet → ℕ → ℕ → Spo → Does
brought_job set row index (SporadicTaken deadline) =
    Brings (record {
      key = SporadicKey index row;
      deadline = Some deadline;
      declared = option_map_or (λ (s : Sporadic). s.wcet) (slice_get set.sporadics index) 0;
    })
brought_job set row index (Soon next) = Nothing

-- an early end
abbrev pub ended : DoneAnswer → Key → Does
ended (Freed slots) key = Ends key slots
ended NotRunning key = Nothing

-- a withdrawal
abbrev pub taken_back : ℕ → Gone → Does
taken_back firm (GoneFreed slots) = Ends (FirmKey firm) slots
taken_back firm NoJob = Nothing

-- what the words of a line at this time do, or none where they name a task that the set has not
abbrev pub done_by : TaskSet → ℕ → Words → Option Does
done_by set time Start = Some Nothing
done_by set time Idle = Some Nothing
done_by set time End = Some Nothing
done_by set time (Soft row slots a) = Some (brought_soft row slots a)
done_by set time (Firm row slots within a) = Some (brought_firm row slots (time + within) a)
done_by set time (SporadicWords row name a) =
    option_map (λ index. brought_job set row index a) (sporadic_named set.sporadics name)
done_by set time (Done row key a) = option_map (ended a) (key_in set key)
done_by set time (Withdraw row firm a) = Some (taken_back firm a)
done_by set time (Run key) = option_map Runs (key_in set key)

-- what a line does, and when
abbrev pub deed_of : TaskSet → TraceLine → Option Deed
deed_of set line =
    option_map (λ does. record { time = line.time; does = does }) (done_by set line.time line.words)

-- what lines do
abbrev pub deeds_of : TaskSet → List TraceLine → List Deed
deeds_of set lines = filter_map (deed_of set) lines
