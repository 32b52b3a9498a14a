use Rattle.std.proofs.Common.{◌≡◌, ℕ, ◌+◌, ◌^◌, ◌<◌, List, [], ◌∷◌, ◌++◌, map, sym, ap, ◌∙◌, zero-add}
use Rattle.std.specs.List.{range_with_len}
use Rattle.std.proofs.lemmas.List.Elements.{All-push, All-same}
use Rattle.std.proofs.lemmas.List.FromFn.{map-range_with_len_more}
use Rattle.demand_test.proofs.arrivals.each_needed.Goals as goal

-- the table and its next value
pushed : (f : ℕ → ℕ) (table longer : List ℕ) (end needed : ℕ) → table ≡ map f (range_with_len 0 end) → longer ≡ table ++ needed ∷ [] → needed ≡ f end → longer ≡ map f (range_with_len 0 (end + 1))
pushed f table longer end needed so_far push value =
    let more = map-range_with_len_more f 0 end end (zero-add end) in
    let last : map f (range_with_len 0 end) ++ needed ∷ [] ≡ map f (range_with_len 0 end) ++ f end ∷ [] = ap (λ n. map f (range_with_len 0 end) ++ n ∷ []) value in
    push ∙ ap (λ t. t ++ needed ∷ []) so_far ∙ last ∙ sym more

pub loop-end-preserved : goal.loop-end-preserved
loop-end-preserved c =
    let longer = c.in_ok-push.ensures.ok in
    let small = c.loop-end.invariant.1 in
    (pushed _ c.loop-end.table _ c.loop-end.end c.in-Some.needed c.loop-end.invariant.0 longer c.in-Some.ensures.0, All-same (λ n. n < 2 ^ 63) _ _ longer (All-push (λ n. n < 2 ^ 63) c.loop-end.table c.in-Some.needed small c.in-Some.ensures.1))
