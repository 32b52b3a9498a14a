use Rattle.std.proofs.Common.{rules, ◌≡◌, ◌≢◌, ◌+◌, [], ◌∷◌, ◌++◌, Some, None, Err, ap, arith, length, length-append}
use Rattle.std.proofs.lemmas.Grind.{common_steps}
use Rattle.key_texts.specs.KeyTexts.{cut_at}
use Rattle.key_texts.proofs.CutLemmas.{cut_at-Some}
use Rattle.trace_lines.specs.declared.trace.TraceFault.TheVariants.{NoLine, TooMany}
use Rattle.trace_lines.proofs.PartReads.{IsKept-part, IsLong-more}
use Rattle.trace_lines.proofs.TraceReads.{Breaks-line, Breaks-unended, IsRead-more, IsRead-start}
use Rattle.trace_lines.proofs.trace.push_lines.Goals as goal

pub loop-rest-init : goal.loop-rest-init
loop-rest-init c = record {
  read = ([], IsRead-start c.args.text.now, c.requires);
  room = omega (arith, c.requires.count_all);
}

pub returns-in_default-clause-fault : goal.returns-in_default-clause-fault
returns-in_default-clause-fault c = λ n is.
    let (lines, read, kept) = c.loop-rest.invariant.read in
    let nowhere : cut_at 10 c.loop-rest.rest.now ≡ None = search rules in
    let some : c.loop-rest.rest.now ≢ [] = (λ empty. grind (arith, common_steps, empty, c.is_empty.ensures, c.loop-rest-test.true)) in
    let told : c.loop-rest.kept.count + 1 ≡ n = cc in
    let count : length lines + 1 ≡ n = omega (arith, told, kept.count_all) in
    Breaks-unended c.args.text.now c.loop-rest.rest.now lines c.loop-rest.reached n read nowhere some count

pub returns-in_err-reached-clause-fault : goal.returns-in_err-reached-clause-fault
returns-in_err-reached-clause-fault c = λ n is.
    let (lines, read, kept) = c.loop-rest.invariant.read in
    let cut : cut_at 10 c.loop-rest.rest.now ≡ Some (c.in-Some.line.now, c.in-Some.after.now) = search rules in
    let was : c.push_line.result ≡ Err (NoLine n) = search (rules, is) in
    let (count, none) = c.push_line.ensures.fault n was in
    Breaks-line c.args.text.now c.loop-rest.rest.now c.in-Some.line.now c.in-Some.after.now lines c.loop-rest.reached n read cut none (omega (arith, count, kept.count_all))

pub returns-in_err-reached-clause-too_many : goal.returns-in_err-reached-clause-too_many
returns-in_err-reached-clause-too_many c = λ is.
    let (lines, read, kept) = c.loop-rest.invariant.read in
    let cut : cut_at 10 c.loop-rest.rest.now ≡ Some (c.in-Some.line.now, c.in-Some.after.now) = search rules in
    let was : c.push_line.result ≡ Err TooMany = search (rules, is) in
    let (line, (next, found, step, pass, many)) = c.push_line.ensures.too_many was in
    IsLong-more c.args.slots c.args.text.now c.loop-rest.rest.now c.in-Some.after.now c.in-Some.line.now lines line c.loop-rest.reached next c.loop-rest.kept.within.items read cut found step kept.within_all pass many

pub loop-rest-preserved : goal.loop-rest-preserved
loop-rest-preserved c =
    let (lines, read, kept) = c.loop-rest.invariant.read in
    let cut : cut_at 10 c.loop-rest.rest.now ≡ Some (c.in-Some.line.now, c.in-Some.after.now) = search rules in
    let (line, found, step, more) = c.in_ok-reached.ensures.ok in
    record {
      read = (lines ++ line ∷ [], IsRead-more c.args.text.now c.loop-rest.rest.now c.in-Some.after.now c.in-Some.line.now lines line c.loop-rest.reached c.in_ok-reached.reached read cut found step, more lines kept);
      room = omega (arith, c.loop-rest.invariant.room, c.in_ok-reached.ensures.count, length-append c.in-Some.line.now (10 ∷ c.in-Some.after.now), ap length (cut_at-Some 10 c.loop-rest.rest.now (c.in-Some.line.now, c.in-Some.after.now) cut));
    }

pub returns-then-eq-clause-number : goal.returns-then-eq-clause-number
returns-then-eq-clause-number c =
    let (lines, read, kept) = c.loop-rest.invariant.read in
    let few = IsKept-part _ _ _ _ _ _ _ kept in
    omega (arith, few, c.loop-rest.invariant.room)
