-- The words write no call.
use Rattle.std.proofs.Common.{◌≡◌, ◌∙◌, ℕ, Bool, List, [], None, Some, Option, Err, inl, inr, refl, sym, ap, subst}
use Rattle.std.proofs.lemmas.Bool.{cases_Bool}
use Rattle.std.specs.Option.{option_map_or}
use Rattle.live_run.specs.Streams.{seen}
use Rattle.live_run.specs.declared.call.LiveCall.{LiveCall}
use Rattle.live_run.specs.declared.refusal.LiveRefusal.TheVariants.{Usage}
use Rattle.live_run.specs.Calls.{live_call_of, plan_name, plan_words, record_name, record_names}
use Rattle.live_run.specs.Records.{made_by}
use Rattle.live_run.specs.Runs.{IsRunOf}
use Rattle.live_run.proofs.RecordLemmas.{asked-names, recorded-asks}
use Rattle.live_run.proofs.RunLemmas.{usage-told}
use Rattle.live_run.proofs.runs.run_call_of.Goals as goal

pub returns-in-None-clause-whole : goal.returns-in-None-clause-whole
returns-in-None-clause-whole g c =
    let s = c.args.streams.now in
    let words = c.args.words.now in
    let see = seen g.K.Sink.written g.K.Sink.faults g.R.RecordFile.written g.R.RecordFile.faults g.E.Sink.written g.E.Sink.faults in
    let none : None ≡ live_call_of words = sym c.in-None.is ∙ c.live_call_of.ensures.call in
    subst
    (λ (call : Option LiveCall). IsRunOf g.F.Files.held g.F.Files.faults g.F.Files.blamed g.F.Files.given g.S.LineSource.gave g.S.LineSource.broke g.S.LineSource.faults c.args.files.now c.args.files.now words call (option_map_or (plan_words words) call []) c.args.source.now c.args.source.now (see s) (see (record s { faults = c.tell_unnamed.new.err })) c.tell_unnamed.result)
    none
    (record {
      outcome = Err Usage;
      ended = see s;
      works = (refl, refl, refl, refl);
      ends = (c.tell_unnamed.ensures.told, refl);
    })

pub returns-in-None-clause-usage_line : goal.returns-in-None-clause-usage_line
returns-in-None-clause-usage_line g c _ =
    let s = c.args.streams.now in
    let e = g.E.Sink in
    usage-told c.args.words.now [] (e.written s.faults) (e.written c.tell_unnamed.new.err) (e.faults s.faults) (e.faults c.tell_unnamed.new.err) c.tell_unnamed.result c.tell_unnamed.ensures.told

pub returns-in-Some-clause-record : goal.returns-in-Some-clause-record
returns-in-Some-clause-record g c plan name asks =
    let words = c.args.words.now in
    let call = c.in-Some.call in
    let (recorded, names) = asked-names words plan name call asks (sym c.live_call_of.ensures.call ∙ c.in-Some.is) in
    elim c.run_call.ensures.record [
      | inl made ↦ inl (made ∙ ap (λ b. made_by b (record_names words call) (g.R.RecordFile.made c.args.streams.now.rows)) recorded ∙ ap Some names)
      | inr refused ↦ inr refused
    ]

pub returns-in-Some-clause-no_other_record : goal.returns-in-Some-clause-no_other_record
returns-in-Some-clause-no_other_record g c =
    let words = c.args.words.now in
    let call = c.in-Some.call in
    let is = sym c.live_call_of.ensures.call ∙ c.in-Some.is in
    let by : Bool → Option (List ℕ × List ℕ) = λ b. made_by b (record_names words call) (g.R.RecordFile.made c.args.streams.now.rows) in
    elim c.run_call.ensures.record [
      | inl made ↦ elim (cases_Bool call.is_recorded) [
        | inl recorded ↦ inr (plan_name words call, record_name words, recorded-asks words call is recorded, made ∙ ap by recorded)
        | inr unrecorded ↦ inl (made ∙ ap by unrecorded)
      ]
      | inr refused ↦ inl refused.2
    ]
