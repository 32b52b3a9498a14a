-- The value of one more wire is written, or a part of it.
use Rattle.std.proofs.Common.{◌≡◌, ◌<◌, ◌≤◌, ℕ, ◌==◌, ◌++◌, List, length, get_or, zero-add, sym, ap, subst, ◌∙◌, arith}
use Rattle.std.specs.Prelude.{flat_map}
use Rattle.std.specs.List.{range_with_len}
use Rattle.std.specs.Io.KnownBytes.{Appends}
use Rattle.std.proofs.lemmas.List.{take_all}
use Rattle.std.proofs.lemmas.List.FromFn.{get_or-range_with_len, length-range_with_len}
use Rattle.view_waves.specs.WaveTexts.{level_text}
use Rattle.slot_io.proofs.SinkParts.{OnErr-anyhow}
use Rattle.view_waves.proofs.ItemTexts.{item-broken, item-written}
use Rattle.view_waves.proofs.head.put_levels.Goals as goal

-- the value of a wire, of which one is on
abbrev level : ℕ → ℕ → List ℕ
level on wire = level_text wire (wire == on)

-- the wire at its place
wire-at : (on n i : ℕ) → i < n → level on i ≡ level on (get_or (range_with_len 0 n) i 0)
wire-at on n i low = ap (level on) (sym (get_or-range_with_len 0 n i 0 low ∙ zero-add i))

-- each place has a wire
place-below : (n i : ℕ) → i < n → i < length (range_with_len 0 n)
place-below n i low = omega (arith, low, length-range_with_len 0 n)

pub returns-in_err-put-clause-part : goal.returns-in_err-put-clause-part
returns-in_err-put-clause-part g c =
    let i = c.loop-wire.wire in
    let low = c.loop-wire-test.true in
    let text : c.bytes.result.now ≡ level c.args.on i =
    c.bytes.ensures ∙ c.push_level.ensures.text ∙ ap (λ (l : List ℕ). l ++ level c.args.on i) c.clear.ensures in
    OnErr-anyhow c.from_residual.result
    (item-broken (g.K.Sink.written c.args.out.now) (g.K.Sink.written c.loop-wire.out) (g.K.Sink.written c.put.new.self) (level c.args.on) (range_with_len 0 c.args.wires) i 0 c.bytes.result.now (place-below c.args.wires i low) (text ∙ wire-at c.args.on c.args.wires i low) c.loop-wire.invariant.text c.in_err-put.ensures.part)

pub loop-wire-preserved : goal.loop-wire-preserved
loop-wire-preserved g c =
    let i = c.loop-wire.wire in
    let low = c.loop-wire-test.true in
    let text : c.bytes.result.now ≡ level c.args.on i =
    c.bytes.ensures ∙ c.push_level.ensures.text ∙ ap (λ (l : List ℕ). l ++ level c.args.on i) c.clear.ensures in
    record {
      text =
          item-written (g.K.Sink.written c.args.out.now) (g.K.Sink.written c.loop-wire.out) (g.K.Sink.written c.put.new.self) (level c.args.on) (range_with_len 0 c.args.wires) i 0 c.bytes.result.now (place-below c.args.wires i low) (text ∙ wire-at c.args.on c.args.wires i low) c.loop-wire.invariant.text c.in_ok-put.ensures.ok;
      counted = omega (arith, c.put.ensures.counted, c.loop-wire.invariant.counted);
    }

pub returns-clause-text : goal.returns-clause-text
returns-clause-text g c =
    let wires = range_with_len 0 c.args.wires in
    let all : length wires ≤ c.loop-wire.wire = omega (arith, length-range_with_len 0 c.args.wires, c.loop-wire-test.false) in
    subst (λ (ws : List ℕ). Appends (g.K.Sink.written c.args.out.now) (g.K.Sink.written c.loop-wire.out) (flat_map (level c.args.on) ws)) (take_all c.loop-wire.wire wires all) c.loop-wire.invariant.text
