-- The one put is of the capacity and of the end.
use Rattle.std.proofs.Common.{◌≡◌, ℕ, ◌++◌, List, [], codes, ap, subst, ◌∙◌}
use Rattle.std.specs.Io.KnownBytes.{Appends}
use Rattle.std.proofs.lemmas.Result.{on_ok_weaker, on_err_weaker}
use Rattle.slot_io.specs.Sinks.{AppendsPart}
use Rattle.view_waves.specs.WaveTexts.{capacity_text}
use Rattle.view_waves.proofs.head.put_first_capacity.Goals as goal

-- a line that was empty, and two pieces
two : (old mid new bytes piece last : List ℕ) → bytes ≡ new → new ≡ mid ++ last → mid ≡ old ++ piece → old ≡ [] → bytes ≡ piece ++ last
two old mid new bytes piece last is then_ first empty =
    is ∙ then_ ∙ ap (λ (l : List ℕ). l ++ last) (first ∙ ap (λ (l : List ℕ). l ++ piece) empty)

pub returns-clause-text : goal.returns-clause-text
returns-clause-text g c =
    let text : c.bytes.result.now ≡ capacity_text c.args.bits ++ codes "$end\n" =
    two c.new-line.result c.push_capacity.new.line c.push.new.self c.bytes.result.now (capacity_text c.args.bits) (codes "$end\n") c.bytes.ensures c.push.ensures c.push_capacity.ensures.text c.new-line.ensures in
    on_ok_weaker c.put.result
    (λ (h : Appends (g.K.Sink.written c.args.out.now) (g.K.Sink.written c.put.new.self) c.bytes.result.now).
    subst (Appends (g.K.Sink.written c.args.out.now) (g.K.Sink.written c.put.new.self)) text h)
    c.put.ensures.ok

pub returns-clause-part : goal.returns-clause-part
returns-clause-part g c =
    let text : c.bytes.result.now ≡ capacity_text c.args.bits ++ codes "$end\n" =
    two c.new-line.result c.push_capacity.new.line c.push.new.self c.bytes.result.now (capacity_text c.args.bits) (codes "$end\n") c.bytes.ensures c.push.ensures c.push_capacity.ensures.text c.new-line.ensures in
    on_err_weaker c.put.result
    (λ (h : AppendsPart (g.K.Sink.written c.args.out.now) (g.K.Sink.written c.put.new.self) c.bytes.result.now).
    subst (AppendsPart (g.K.Sink.written c.args.out.now) (g.K.Sink.written c.put.new.self)) text h)
    c.put.ensures.part
