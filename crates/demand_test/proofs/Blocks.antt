-- Jobs that are passed: their slots by blocks of ends.
use Rattle.std.proofs.Common.{◌≡◌, ℕ, ◌+◌, ◌*◌, ◌/◌, ◌<◌, ◌≤◌, min, List, length, take, get_or, ap, ◌∙◌, arith}
use Rattle.std.specs.Prelude.{nat_le, nat_lt, ◌&&◌, if◌then◌else◌}
use Rattle.std.proofs.lemmas.Bool.Decides.{nat_tests}
use Rattle.demand_test.specs.declared.ends.Ends.{Ends}
use Rattle.demand_test.specs.declared.ends.TheConstants.{BLOCK}
use Rattle.slot_core.specs.declared.jobs.Job.{Job}
use Rattle.demand_test.specs.EndTables.{ending_by, first_end, passed_by, ArePassed}
use Rattle.demand_test.proofs.EndSums.{ending_by-one_more}

-- what is raised from an end on to the end of its block, and at each later block, is raised once at each end from it on
raised_once : (end b last d qe qb ql : ℕ) → qe * 128 ≤ end → end < (qe + 1) * 128 → qb * 128 ≤ b → b < (qb + 1) * 128 → ql * 128 ≤ last → last < (ql + 1) * 128 → b ≤ last → (if nat_le (qe + 1) qb && nat_lt qb (ql + 1) then d else 0) + (if nat_le end b && nat_lt b (min ((qe + 1) * 128) (last + 1)) then d else 0) ≡ (if nat_le end b then d else 0)
raised_once end b last d qe qb ql e_low e_high b_low b_high l_low l_high within = grind (arith, nat_tests)

pub raised_blocks : (inner blocks new_inner new_blocks : List ℕ) (end last d : ℕ) → ((k : ℕ) → get_or new_inner k 0 ≡ get_or inner k 0 + (if nat_le end k && nat_lt k (min ((end / BLOCK + 1) * BLOCK) (last + 1)) then d else 0)) → ((k : ℕ) → get_or new_blocks k 0 ≡ get_or blocks k 0 + (if nat_le (end / BLOCK + 1) k && nat_lt k (last / BLOCK + 1) then d else 0)) → (b : ℕ) → b ≤ last → get_or new_blocks (b / BLOCK) 0 + get_or new_inner b 0 ≡ get_or blocks (b / BLOCK) 0 + get_or inner b 0 + (if nat_le end b then d else 0)
raised_blocks inner blocks new_inner new_blocks end last d at_inner at_blocks b within =
    let once = raised_once end b last d (end / 128) (b / 128) (last / 128) (omega arith) (omega arith) (omega arith) (omega arith) (omega arith) (omega arith) within in
    omega (arith, at_inner b, at_blocks (b / BLOCK), once)

-- what stands at an end and at its block is at most what is passed by it
pub small-blocks : (ends : Ends) (last k m : ℕ) → ((b : ℕ) → b ≤ last → passed_by ends b < m) → k < last / BLOCK + 1 → get_or ends.blocks.items k 0 < m
small-blocks ends last k m few low =
    let first : k * 128 ≤ last = omega arith in
    let same : (k * 128) / 128 ≡ k = omega arith in
    let at = ap (λ i. get_or ends.blocks.items i 0) same in
    omega (arith, few (k * 128) first)

-- one job more is passed
pub ArePassed-more : (old mid new : Ends) (jobs : List Job) (i : ℕ) (d : Job) → i < length jobs → ArePassed old mid (ending_by first_end (take i jobs)) → ArePassed mid new (λ b. if nat_le (first_end (get_or jobs i d)) b then (get_or jobs i d).declared else 0) → ArePassed old new (ending_by first_end (take (i + 1) jobs))
ArePassed-more old mid new jobs i d low before one =
    record {
      sums = one.sums ∙ before.sums;
      inner = one.inner ∙ before.inner;
      blocks = one.blocks ∙ before.blocks;
      more = λ b within.
          omega (
            arith,
            before.more b within,
            one.more b (omega (arith, before.inner)),
            ending_by-one_more first_end jobs i b d low,
          );
    }
