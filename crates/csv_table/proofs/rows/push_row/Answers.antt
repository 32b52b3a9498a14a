-- One more field is written, and what tells a blank row is known of those so far.
use Rattle.std.proofs.Common.{◌≡◌, ◌+◌, ◌≤◌, ◌-◌, ◌^◌, List, ℕ, [], get_or, refl, sym, ◌∙◌, arith, rules}
use Rattle.csv.specs.Writing.{has_written, is_blank}
use Rattle.csv.proofs.WriteFacts.{appends-more, appends-none, blank-step, row-step}
use Rattle.csv_table.specs.Tables.{comma_separated}
use Rattle.std.proofs.lemmas.List.{get_or_default}
use Rattle.csv_table.proofs.rows.push_row.Goals as goal

pub loop-cell-init : goal.loop-cell-init
unfolding is_blank
loop-cell-init g c = record {
  setup = c.requires.setup;
  text = appends-none _;
  fields = c.requires.fields;
  blank = rw c.requires.wrote refl;
}

pub loop-cell-preserved : goal.loop-cell-preserved
loop-cell-preserved g c =
    let cells : List (List ℕ) = c.args.cells.now in
    let i = c.loop-cell.cell-index in
    let e = c.in_ok-push_field.ensures in
    let inv = c.loop-cell.invariant in
    let field : List ℕ = c.bytes.result.now in
    let at : get_or cells i [] ≡ field = get_or_default cells i [] c.cell-item.result c.loop-cell-test.true ∙ sym c.cell-item.is ∙ sym c.bytes.ensures in
    let few : i + 1 ≤ 2 ^ 64 - 1 = search rules in
    record {
      setup = e.setup;
      text =
          rw (row-step comma_separated cells i c.loop-cell-test.true, at)
          (appends-more _ _ _ _ _ inv.text (rw inv.fields at e.text));
      fields = e.count ∙ rw inv.fields (omega (arith, few));
      blank =
          blank-step comma_separated cells i (has_written c.loop-cell.writer) (has_written c.push_field.new.writer) c.loop-cell-test.true inv.blank
          (λ w. rw at (e.wrote w)) e.stays;
    }
