-- The wire of one more row is written, or a part of it.
use Rattle.std.proofs.Common.{◌≡◌, ◌<◌, ◌≤◌, ℕ, List, length, get_or, zero-add, sym, ap, ap₂, subst, ◌∙◌, arith}
use Rattle.std.specs.Prelude.{flat_map}
use Rattle.std.specs.List.{enumerate_from}
use Rattle.std.specs.Io.KnownBytes.{Appends}
use Rattle.std.proofs.lemmas.List.{take_all}
use Rattle.std.proofs.lemmas.List.FromFn.{get_or-enumerate_from, length-enumerate_from}
use Rattle.run_blocks.specs.declared.rows.Row.{Row}
use Rattle.view_waves.specs.WaveTexts.{row_text}
use Rattle.slot_io.proofs.SinkParts.{OnErr-anyhow}
use Rattle.view_waves.proofs.ItemTexts.{item-broken, item-written}
use Rattle.view_waves.proofs.head.put_row_wires.Goals as goal

-- the row at its place
row-at : (rows : List Row) (i : ℕ) (row : Row) → i < length rows → row ≡ get_or rows i row → row_text (i, row) ≡ row_text (get_or (enumerate_from 0 rows) i (0, row))
row-at rows i row low is =
    ap₂ (λ (k : ℕ) (r : Row). row_text (k, r)) (sym (zero-add i)) is ∙ ap row_text (sym (get_or-enumerate_from 0 rows i (0, row) low))

-- each place has a row
place-below : (rows : List Row) (i : ℕ) → i < length rows → i < length (enumerate_from 0 rows)
place-below rows i low = omega (arith, low, length-enumerate_from 0 rows)

pub returns-in_err-put-clause-part : goal.returns-in_err-put-clause-part
returns-in_err-put-clause-part g c =
    let i = c.loop-wire.wire in
    let rows : List Row = c.args.rows.now in
    let row : Row = c.index-rows-wire.result in
    let low = c.loop-wire-test.true in
    let text : c.bytes.result.now ≡ row_text (i, row) = c.bytes.ensures ∙ c.push_row.ensures in
    OnErr-anyhow c.from_residual.result
    (item-broken (g.K.Sink.written c.args.out.now) (g.K.Sink.written c.loop-wire.out) (g.K.Sink.written c.put.new.self) row_text (enumerate_from 0 rows) i (0, row) c.bytes.result.now (place-below rows i low) (text ∙ row-at rows i row low c.index-rows-wire.is) c.loop-wire.invariant.text c.in_err-put.ensures.part)

pub loop-wire-preserved : goal.loop-wire-preserved
loop-wire-preserved g c =
    let i = c.loop-wire.wire in
    let rows : List Row = c.args.rows.now in
    let row : Row = c.index-rows-wire.result in
    let low = c.loop-wire-test.true in
    let text : c.bytes.result.now ≡ row_text (i, row) = c.bytes.ensures ∙ c.push_row.ensures in
    record {
      text =
          item-written (g.K.Sink.written c.args.out.now) (g.K.Sink.written c.loop-wire.out) (g.K.Sink.written c.put.new.self) row_text (enumerate_from 0 rows) i (0, row) c.bytes.result.now (place-below rows i low) (text ∙ row-at rows i row low c.index-rows-wire.is) c.loop-wire.invariant.text c.in_ok-put.ensures.ok;
      counted = omega (arith, c.put.ensures.counted, c.loop-wire.invariant.counted);
    }

pub returns-clause-text : goal.returns-clause-text
returns-clause-text g c =
    let rows : List Row = c.args.rows.now in
    let all : length (enumerate_from 0 rows) ≤ c.loop-wire.wire = omega (arith, length-enumerate_from 0 rows, c.loop-wire-test.false) in
    subst (λ (rs : List (ℕ × Row)). Appends (g.K.Sink.written c.args.out.now) (g.K.Sink.written c.loop-wire.out) (flat_map row_text rs)) (take_all c.loop-wire.wire (enumerate_from 0 rows) all) c.loop-wire.invariant.text
