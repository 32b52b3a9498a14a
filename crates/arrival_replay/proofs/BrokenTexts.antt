-- What is written of a trace that breaks off is a part of its text.
use Rattle.std.proofs.Common.{◌≡◌, ℕ, List, [], ◌∷◌, ◌++◌, take, drop, append_assoc, append-nil, Option, OnErr, Result, sym, ap, ◌∙◌}
use Rattle.std.proofs.lemmas.Grind.{flat_map-append}
use Rattle.std.proofs.lemmas.List.{take-append-drop}
use Rattle.std.proofs.lemmas.Result.{on_err_weaker}
use Rattle.std.proofs.KnownBytes.{Keeps-refl}
use Rattle.slot_core.specs.declared.events.Entry.{Entry}
use Rattle.slot_core.specs.declared.tasks.TaskSet.{TaskSet}
use Rattle.slot_core.specs.Keeping.Executives.{Executive}
use Rattle.slot_core.specs.Output.Texts.{entry_line, trace_text}
use Rattle.slot_io.specs.Sinks.{AppendsPart}
use Rattle.slot_io.proofs.SinkParts.{AppendsPart-kept}
use Rattle.trace_text.specs.Takers.{AppendsBroken}
use Rattle.arrival_replay.specs.Replays.{BreaksOff}

-- the text of entries is that of the first ones and a part of the next line, and then the rest
text-split : (set : TaskSet) (trace front : List Entry) (last : Entry) (told part : ℕ) → take told trace ≡ front ++ last ∷ [] → trace_text set trace ≡ (trace_text set front ++ take part (entry_line set last)) ++ (drop part (entry_line set last) ++ trace_text set (drop told trace))
text-split set trace front last told part is =
    let f = trace_text set front in
    let line = entry_line set last in
    let rest = trace_text set (drop told trace) in
    let split = sym (take-append-drop told trace) ∙ ap (λ es. es ++ drop told trace) is in
    let texts = flat_map-append (entry_line set) (front ++ last ∷ []) (drop told trace) ∙ ap (λ xs. xs ++ rest) (flat_map-append (entry_line set) front (last ∷ [])) in
    let whole : trace_text set trace ≡ (f ++ line) ++ rest = ap (trace_text set) split ∙ (texts ∙ ap (λ xs. (f ++ xs) ++ rest) (append-nil line)) in
    let parts = ap (λ xs. (f ++ xs) ++ rest) (sym (take-append-drop part line)) in
    whole ∙ (parts ∙ ap (λ xs. xs ++ rest) (sym (append_assoc f (take part line) (drop part line))) ∙ append_assoc (f ++ take part line) (drop part line) rest)

-- so a part of the text of all is written where a trace breaks off
pub AppendsPart-from_broken : (set : TaskSet) (before after : Option (List ℕ)) (exec : Executive) (trace : List Entry) → BreaksOff (AppendsBroken before after set) exec trace → AppendsPart before after (trace_text set trace)
AppendsPart-from_broken set before after exec trace breaks =
    let b = breaks.broke in
    let line = entry_line set b.last in
    AppendsPart-kept before after after (trace_text set b.front ++ take b.part line) (drop b.part line ++ trace_text set (drop breaks.told trace)) (trace_text set trace) (text-split set trace b.front b.last breaks.told b.part b.all) b.written (Keeps-refl after)

-- where a call fails that breaks off so, a part of the text is written
pub OnErr-part : {X E : Type 0} (r : Result X E) (set : TaskSet) (before after : Option (List ℕ)) (exec : Executive) (trace : List Entry) → OnErr r (BreaksOff (AppendsBroken before after set) exec trace) → OnErr r (AppendsPart before after (trace_text set trace))
OnErr-part r set before after exec trace = on_err_weaker r (AppendsPart-from_broken set before after exec trace)
