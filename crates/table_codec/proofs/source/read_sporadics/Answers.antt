use Rattle.std.proofs.Common.{◌≡◌, ◌+◌, ◌-◌, ◌++◌, ◌∷◌, [], ap, ◌∙◌}
use Rattle.std.proofs.lemmas.Result.{err_from_is_err_and}
use Rattle.table_codec.specs.Grammar.{sporadic_form}
use Rattle.table_codec.specs.Readers.{each_at}
use Rattle.table_codec.proofs.EachSteps.{with_front, goes_on, ends}
use Rattle.table_codec.proofs.source.read_sporadics.Goals as goal

pub returns-in_err-sporadic : goal.returns-in_err-sporadic
returns-in_err-sporadic c =
    let p = err_from_is_err_and c.from_residual.result c.from_residual.ensures.1 in
    rw (p.1, p.2) (ends (λ i. (sporadic_form c.args.layout i).read) c.in_err-sporadic.field-0.0 c.loop-s.sporadics c.args.count c.loop-s.s c.loop-s.input (each_at (λ i. (sporadic_form c.args.layout i).read) 0 c.args.count c.args.input.now) c.loop-s-test.true c.in_err-sporadic.ensures c.loop-s.invariant)

pub loop-s-preserved : goal.loop-s-preserved
loop-s-preserved c =
    let pushed : c.push.new.self ≡ c.loop-s.sporadics ++ c.in_ok-sporadic.sporadic ∷ [] = c.in_ok-push.ensures.ok in
    let next = goes_on (λ i. (sporadic_form c.args.layout i).read) c.loop-s.sporadics c.args.count c.loop-s.s c.loop-s.input c.read_sporadic.new.input c.in_ok-sporadic.sporadic (each_at (λ i. (sporadic_form c.args.layout i).read) 0 c.args.count c.args.input.now) c.loop-s-test.true c.in_ok-sporadic.ensures c.loop-s.invariant in
    ap (λ front. with_front front (each_at (λ i. (sporadic_form c.args.layout i).read) (c.loop-s.s + 1) (c.args.count - (c.loop-s.s + 1)) c.read_sporadic.new.input)) pushed ∙ next
