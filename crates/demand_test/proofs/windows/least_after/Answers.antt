use Rattle.std.proofs.Common.{inl, inr, arith}
use Rattle.std.proofs.lemmas.Bool.{cases_lt}
use Rattle.demand_test.proofs.windows.least_after.Goals as goal

pub returns-clause-within : goal.returns-clause-within
returns-clause-within c = λ need from last known. omega (arith, known.sought.after)

pub returns-clause-known : goal.returns-clause-known
returns-clause-known c =
    let bounds = c.args.bounds.now in
    λ need from last known b past low high.
    elim (cases_lt bounds.sought.after b) [
      | inl beyond ↦ let fits = known.sought.spare b beyond low high in omega arith
      | inr within ↦ let fits = known.before.spare b (omega arith) low high in omega arith
    ]
