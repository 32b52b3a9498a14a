use Rattle.std.proofs.Common.{◌≡◌, ℕ, ◌+◌, ◌≤◌, [], List, map, get_or, ap, ◌∙◌, arith}
use Rattle.std.specs.List.{range_with_len}
use Rattle.std.proofs.lemmas.List.FromFn.{get_or-map-range_with_len}
use Rattle.std.proofs.lemmas.Result.{IfOk-weaker}
use Rattle.slot_core.specs.Feasibility.Sporadics.{sporadic_demand}
use Rattle.demand_test.proofs.arrivals.needed_table.Goals as goal

pub returns-clause-values : goal.returns-clause-values
returns-clause-values c =
    let f : ℕ → ℕ = λ x. sporadic_demand c.args.sporadics.now [] 0 x in
    let last = c.args.last in
    let at : (table : List ℕ) → table ≡ map f (range_with_len 0 (last + 1)) → (x : ℕ) → x ≤ last → get_or table x 0 ≡ f x = λ table is x low. ap (λ xs. get_or xs x 0) is ∙ get_or-map-range_with_len f 0 (last + 1) x x 0 (omega arith) (omega arith) in
    IfOk-weaker c.each_needed.result (λ table. table ≡ map f (range_with_len 0 (last + 1))) (λ table. (x : ℕ) → x ≤ last → get_or table x 0 ≡ f x) at c.each_needed.ensures.values
