-- The counts of a tally.
use Rattle.std.specs.Prelude.{ℕ, ◌+◌, ◌-◌, ◌^◌, max, min, Bool, if◌then◌else◌}
use Rattle.slot_core.specs.declared.events.What.{What}
use Rattle.slot_core.specs.Output.Charts.{Kind, is_of_kind, soft_taken, soft_full, firm_accepted, firm_late, firm_far, firm_no_room, sporadic_taken, sporadic_soon, ran_offline, ran_sporadic, ran_firm, ran_soft, idle}
use Rattle.load_gen.specs.declared.tally.Tally.{Tally}

-- how many entries of a kind are counted
abbrev pub count_of : Tally → Kind → ℕ
count_of t soft_taken = t.soft_taken
count_of t soft_full = t.soft_full
count_of t firm_accepted = t.firm_accepted
count_of t firm_late = t.firm_late
count_of t firm_far = t.firm_far
count_of t firm_no_room = t.firm_no_room
count_of t sporadic_taken = t.sporadic_taken
count_of t sporadic_soon = t.sporadic_soon
count_of t ran_offline = t.ran_offline
count_of t ran_sporadic = t.ran_sporadic
count_of t ran_firm = t.ran_firm
count_of t ran_soft = t.ran_soft
count_of t idle = t.idle

-- a count after k more, up to the last value of a counter
abbrev pub grown : ℕ → ℕ → ℕ
grown n k = max n (min (n + k) (2 ^ 64 - 1))

-- one more, where the test holds
abbrev pub counted : Bool → ℕ → ℕ
counted test n = if test then grown n 1 else n

-- the counts after one entry
abbrev pub with_entry : What → Tally → Tally
with_entry what t =
    record {
      soft_taken = counted (is_of_kind soft_taken what) t.soft_taken;
      soft_full = counted (is_of_kind soft_full what) t.soft_full;
      firm_accepted = counted (is_of_kind firm_accepted what) t.firm_accepted;
      firm_late = counted (is_of_kind firm_late what) t.firm_late;
      firm_far = counted (is_of_kind firm_far what) t.firm_far;
      firm_no_room = counted (is_of_kind firm_no_room what) t.firm_no_room;
      sporadic_taken = counted (is_of_kind sporadic_taken what) t.sporadic_taken;
      sporadic_soon = counted (is_of_kind sporadic_soon what) t.sporadic_soon;
      ran_offline = counted (is_of_kind ran_offline what) t.ran_offline;
      ran_sporadic = counted (is_of_kind ran_sporadic what) t.ran_sporadic;
      ran_firm = counted (is_of_kind ran_firm what) t.ran_firm;
      ran_soft = counted (is_of_kind ran_soft what) t.ran_soft;
      idle = counted (is_of_kind idle what) t.idle;
    }
