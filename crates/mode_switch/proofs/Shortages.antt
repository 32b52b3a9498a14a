-- What the table and the reserve tell is why a change is refused.
use Rattle.std.proofs.Common.{◌≡◌, ℕ, ◌+◌, ◌-◌, ◌*◌, ◌≤◌, ◌^◌, List, length, map, mul-le-mul_left, Option, Some, None, ap, ap₂, ◌∙◌, arith}
use Rattle.std.specs.Prelude.{MatchOption}
use Rattle.slot_core.specs.declared.jobs.Job.{Job}
use Rattle.slot_core.specs.declared.jobs.Evidence.{Evidence}
use Rattle.slot_core.specs.declared.tasks.Sporadic.{Sporadic}
use Rattle.slot_core.specs.declared.tasks.TaskSet.{TaskSet}
use Rattle.slot_core.specs.Feasibility.Sporadics.{sporadic_demand}
use Rattle.slot_core.specs.Sets.Cycles.{cycle_of}
use Rattle.sporadic_reserve.specs.Reserves.{Reserved, without_name}
use Rattle.sporadic_reserve.proofs.Demands.{sporadic_demand-without_name}
use Rattle.change_laws.specs.Carried.{cycles_of_change, jobs_after}
use Rattle.change_laws.specs.Demand.{due_after, FitsFor, ShowsNoRoom}
use Rattle.mode_switch.specs.DueTables.{FitsBy, IsDueTable, IsFirstShort, needed_by}
use Rattle.mode_switch.proofs.DueSums.{sporadic_demand-zeros}

-- the reserve of the sporadic tasks of a set, which may all arrive from slot 0 on
abbrev pub first_reserve : List Sporadic → Reserved
first_reserve sporadics = record {
  sporadics = map without_name sporadics;
  nexts = map (λ (s : Sporadic). 0) sporadics;
}

module _ (set : TaskSet) (c : ℕ) (carried : List Job) (due : List ℕ) (reserve : Reserved) (table : IsDueTable (jobs_after set c carried (cycles_of_change (cycle_of set) c carried)) (cycles_of_change (cycle_of set) c carried * cycle_of set) due) (all : reserve ≡ first_reserve set.sporadics) where
  -- so much is needed by each time
  needed-is : (x : ℕ) → x ≤ cycles_of_change (cycle_of set) c carried * cycle_of set → needed_by due reserve x ≡ due_after set c carried (cycles_of_change (cycle_of set) c carried) x
  needed-is x within =
      let own : sporadic_demand reserve.sporadics reserve.nexts 0 x ≡ sporadic_demand (map without_name set.sporadics) (map (λ (s : Sporadic). 0) set.sporadics) 0 x = ap (λ (r : Reserved). sporadic_demand r.sporadics r.nexts 0 x) all in
      let named = sporadic_demand-without_name set.sporadics (map (λ (s : Sporadic). 0) set.sporadics) 0 x in
      ap₂ (λ a b. a + b) (table.sums x within) (own ∙ named ∙ sporadic_demand-zeros set.sporadics 0 x)

  -- none is short, so all fits
  fits-all : FitsBy (needed_by due reserve) (length due - 1) → FitsFor set c carried (cycles_of_change (cycle_of set) c carried)
  fits-all fits x some within =
      omega (arith, needed-is x within, fits x some (omega (arith, table.len)))

  -- the first short one is that of the evidence
  short-first : (e : Evidence) → IsFirstShort (needed_by due reserve) (length due - 1) c e → ShowsNoRoom set c carried e
  short-first e first =
      let within : e.room ≤ cycles_of_change (cycle_of set) c carried * cycle_of set = omega (arith, first.within, table.len) in
      let away : e.room ≡ e.until - c = omega (arith, first.until) in
      record {
        after = omega (arith, first.until, first.after);
        within = omega (arith, first.until, within);
        need = first.need ∙ needed-is e.room within ∙ ap (due_after set c carried (cycles_of_change (cycle_of set) c carried)) away;
        room = away;
        more = first.more;
        least = λ x some low.
            omega (arith, needed-is x (omega (arith, first.until, within)), first.least x some (omega (arith, first.until)));
      }

  -- why the change is refused, or none where it fits
  pub refusal-from_short : (r : Option Evidence) → MatchOption r (FitsBy (needed_by due reserve) (length due - 1)) (IsFirstShort (needed_by due reserve) (length due - 1) c) → MatchOption r (FitsFor set c carried (cycles_of_change (cycle_of set) c carried)) (ShowsNoRoom set c carried)
  refusal-from_short None fits = fits-all fits
  refusal-from_short (Some e) first = short-first e first

-- a table of so many cycles has no more places than this
pub few_places : (cycles cycle : ℕ) → cycles ≤ 2 ^ 14 → cycle ≤ 2 ^ 13 → cycles * cycle ≤ 2 ^ 27
few_places cycles cycle few short =
    omega (arith, mul-le-mul_left cycles short)
