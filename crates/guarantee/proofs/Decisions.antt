-- What capacities decide where no sporadic task may come.
use Rattle.std.proofs.Common.{◌≡◌, ℕ, ◌+◌, ◌-◌, ◌<◌, ◌≤◌, ℤ, pos, ◌+ℤ◌, ◌≤ℤ◌, Bool, true, false, List, [], ◌∷◌, length, Option, Some, None, refl, sym, ap, ◌∙◌, subst, inl, inr, arith}
use Rattle.std.specs.Prelude.{find, min, not, Err, Ok, OnOk, Result}
use Rattle.std.specs.Int.{int_min}
use Rattle.std.specs.Option.{is_none, option_map}
use Rattle.std.specs.List.{list_all, range_with_len}
use Rattle.std.proofs.lemmas.Bool.{cases_Bool, cases_lt, le-ltb, ltb-false, ltb-true}
use Rattle.std.proofs.lemmas.Int.{ints, clamps}
use Rattle.slot_core.specs.declared.jobs.Evidence.{Evidence}
use Rattle.slot_core.specs.declared.jobs.Span.{Span}
use Rattle.slot_core.specs.Feasibility.Sporadics.{sporadic_demand}
use Rattle.slot_facts.proofs.Sets.Faults.{None-from_is_none}
use Rattle.spare_capacity.specs.Recurrence.{filled, first_spare, last_end, FollowOn}
use Rattle.spare_capacity.proofs.Free.{free, free-ended, free-holds, rest-filled}
use Rattle.spare_capacity.proofs.Slack.{slack, free-least, free-start, IsLeastFrom}
use Rattle.spare_capacity.specs.Laws.{work_until}
use Rattle.spare_capacity.specs.PlanSpans.{AreProper}
use Rattle.sporadic_reserve.specs.Reserves.{Reserved}
use Rattle.guarantee.specs.Offers.{evidence_at, first_short, is_short, need_until, soft_fits, IsShortAfter, LeavesFree, LeavesSlots}
use Rattle.guarantee.specs.declared.SoftRoom.TheVariants.{Free, Short}
use Rattle.guarantee.specs.Stretches.{LeavesFrom, MostFrom}
use Rattle.guarantee.proofs.Searches.{fails-from_none, find-none, find-passes}

-- without sporadic tasks a time is short exactly where the slack is below the slots
fits-slack : (spans : List Span) (reserve : Reserved) (t r slots x : ℕ) → reserve.sporadics ≡ [] → pos slots ≤ℤ slack t spans x → is_short spans reserve t r slots x ≡ false
fits-slack spans reserve t r slots x none fits =
    let nothing : sporadic_demand reserve.sporadics reserve.nexts r x ≡ 0 = rw none refl in
    le-ltb (x - t) (slots + need_until spans reserve r x) (omega (arith, ints))

short-slack : (spans : List Span) (reserve : Reserved) (t r slots x : ℕ) → reserve.sporadics ≡ [] → is_short spans reserve t r slots x ≡ false → pos slots ≤ℤ slack t spans x
short-slack spans reserve t r slots x none fits =
    let nothing : sporadic_demand reserve.sporadics reserve.nexts r x ≡ 0 = rw none refl in
    let room : slots + need_until spans reserve r x ≤ x - t = ltb-false (x - t) (slots + need_until spans reserve r x) fits in
    omega (arith, ints)

-- so none is short exactly where the least slack is not
none_short : (spans : List Span) (reserve : Reserved) (t r slots from : ℕ) (least : ℤ) → reserve.sporadics ≡ [] → IsLeastFrom t spans from least → pos slots ≤ℤ least → first_short spans reserve t r slots from ≡ None
none_short spans reserve t r slots from least none slackest fits =
    find-none (is_short spans reserve t r slots) from (last_end t spans + 1) (λ x low high.
    let within : x ≤ last_end t spans = omega arith in
    let enough = slackest.bound x low within in
    fits-slack spans reserve t r slots x none (omega (arith, ints)))

least_fits : (spans : List Span) (reserve : Reserved) (t r slots from : ℕ) (least : ℤ) → reserve.sporadics ≡ [] → IsLeastFrom t spans from least → first_short spans reserve t r slots from ≡ None → pos slots ≤ℤ least
least_fits spans reserve t r slots from least none slackest found =
    let (x, low, high, is) = slackest.reached in
    let fails = fails-from_none (is_short spans reserve t r slots) from (last_end t spans + 1 - from) found x low (omega arith) in
    let enough = short-slack spans reserve t r slots x none fails in
    omega (arith, ints)

-- soft work fits exactly where no time is short with one slot more
not-found : (p : ℕ → Bool) (xs : List ℕ) → list_all (λ x. not (p x)) xs ≡ is_none (find p xs)
not-found p [] = refl
not-found p (x ∷ xs) =
    elim (cases_Bool (p x)) [
      | inl passes ↦ rw passes refl
      | inr fails ↦ rw fails (not-found p xs)
    ]

soft_fits-none : (spans : List Span) (reserve : Reserved) (t : ℕ) → soft_fits spans reserve t ≡ is_none (first_short spans reserve t (t + 1) 1 (t + 1))
soft_fits-none spans reserve t =
    let same : last_end t spans - t ≡ last_end t spans + 1 - (t + 1) = omega arith in
    not-found (is_short spans reserve t (t + 1) 1) (range_with_len (t + 1) (last_end t spans - t))
    ∙ ap (λ n. is_none (find (is_short spans reserve t (t + 1) 1) (range_with_len (t + 1) n))) same

-- the least slack after this slot, where a slot of the first span is left
slack-next : (t : ℕ) (spans : List Span) → FollowOn t spans → AreProper spans → spans ≡ filled spans → 1 ≤ length spans → ((pos 1 ≤ℤ first_spare spans) → (pos 1 ≤ℤ (int_min (pos 0) (first_spare spans) +ℤ free (t + 1) spans))) × ((pos 1 ≤ℤ (int_min (pos 0) (first_spare spans) +ℤ free (t + 1) spans)) → (pos 1 ≤ℤ first_spare spans))
slack-next t [] follow proper full some = absurd (omega arith)
slack-next t (s ∷ ss) follow proper full some =
    let at : s.start ≡ t = follow.0 in
    elim (cases_lt (t + 1) s.end) [
      | inl holds ↦
          let is = free-holds (t + 1) s ss holds in
          (λ h. omega (arith, ints, clamps), λ h. omega (arith, ints, clamps))
      | inr ends ↦
          let is = free-ended (t + 1) s ss ends in
          let here : s.end ≡ t + 1 = omega (arith, proper.0) in
          let rest = subst (λ n. free n ss ≡ pos 0) here (free-start s.end ss follow.4 (rest-filled s ss full)) in
          (λ h. omega (arith, ints, clamps), λ h. omega (arith, ints, clamps))
    ]

-- without sporadic tasks it fits exactly where the first span has a slot to spare
pub spare-fits : (t : ℕ) (spans : List Span) (reserve : Reserved) → FollowOn t spans → AreProper spans → spans ≡ filled spans → 1 ≤ length spans → t < last_end t spans → reserve.sporadics ≡ [] → pos 1 ≤ℤ first_spare spans → soft_fits spans reserve t ≡ true
spare-fits t spans reserve follow proper full some after none spare =
    let least = free-least t spans (t + 1) follow full (omega arith) (omega arith) in
    let found = none_short spans reserve t (t + 1) 1 (t + 1) _ none least ((slack-next t spans follow proper full some).0 spare) in
    soft_fits-none spans reserve t ∙ ap is_none found

pub fits-spare : (t : ℕ) (spans : List Span) (reserve : Reserved) → FollowOn t spans → AreProper spans → spans ≡ filled spans → 1 ≤ length spans → t < last_end t spans → reserve.sporadics ≡ [] → soft_fits spans reserve t ≡ true → pos 1 ≤ℤ first_spare spans
fits-spare t spans reserve follow proper full some after none fits =
    let least = free-least t spans (t + 1) follow full (omega arith) (omega arith) in
    let found = None-from_is_none (first_short spans reserve t (t + 1) 1 (t + 1)) (sym (soft_fits-none spans reserve t) ∙ fits) in
    (slack-next t spans follow proper full some).1 (least_fits spans reserve t (t + 1) 1 (t + 1) _ none least found)

-- the room tells it, and is told by the search
is_none-map : {X Y : Type 0} (f : X → Y) (o : Option X) → is_none (option_map f o) ≡ is_none o
is_none-map f None = refl
is_none-map f (Some x) = refl

pub told-fits : (spans : List Span) (reserve : Reserved) (t now : ℕ) (found : Option Evidence) → now ≡ t → found ≡ option_map (evidence_at spans reserve t (now + 1) 1) (first_short spans reserve t (now + 1) 1 (now + 1)) → is_none found ≡ soft_fits spans reserve t
told-fits spans reserve t now found is searched =
    ap is_none (rw is at searched)
    ∙ is_none-map (evidence_at spans reserve t (t + 1) 1) (first_short spans reserve t (t + 1) 1 (t + 1))
    ∙ sym (soft_fits-none spans reserve t)

-- the evidence of a time that was found
pub record IsTold (spans : List Span) (reserve : Reserved) (t : ℕ) (e : Evidence) : Type 0 where
  pub first : first_short spans reserve t (t + 1) 1 (t + 1) ≡ Some e.until
  pub after : t < e.until
  pub within : e.until ≤ last_end t spans
  pub need : e.need ≡ 1 + (work_until spans e.until + sporadic_demand reserve.sporadics reserve.nexts (t + 1) e.until)

IsTold-found : (spans : List Span) (reserve : Reserved) (t : ℕ) (e : Evidence) (o : Option ℕ) → o ≡ first_short spans reserve t (t + 1) 1 (t + 1) → Some e ≡ option_map (evidence_at spans reserve t (t + 1) 1) o → t < last_end t spans → IsTold spans reserve t e
IsTold-found spans reserve t e None is found some = cc found
IsTold-found spans reserve t e (Some x) is found some =
    let same : e ≡ evidence_at spans reserve t (t + 1) 1 x = cc found in
    let passes = find-passes (is_short spans reserve t (t + 1) 1) (t + 1) (last_end t spans + 1 - (t + 1)) x (sym is) in
    rw same (record {
      first = sym is;
      after = omega (arith, passes.0);
      within = omega (arith, passes.1);
      need = refl;
    })

pub IsTold-search : (spans : List Span) (reserve : Reserved) (t now : ℕ) (e : Evidence) → now ≡ t → Some e ≡ option_map (evidence_at spans reserve t (now + 1) 1) (first_short spans reserve t (now + 1) 1 (now + 1)) → t < last_end t spans → IsTold spans reserve t e
IsTold-search spans reserve t now e is found some =
    IsTold-found spans reserve t e (first_short spans reserve t (t + 1) 1 (t + 1)) refl (rw is at found) some

-- what the room for soft work tells of it
pub IsTold-short : (spans : List Span) (reserve : Reserved) (t spo until due : ℕ) (e : Evidence) → IsTold spans reserve t e → spo ≡ sporadic_demand reserve.sporadics reserve.nexts (t + 1) e.until → Short e.until (e.need - 1 - spo) ≡ Short until due → (first_short spans reserve t (t + 1) 1 (t + 1) ≡ Some until) × (t < until) × (until ≤ last_end t spans) × (due ≡ work_until spans until)
IsTold-short spans reserve t spo until due e told is same =
    let here : e.until ≡ until = cc same in
    let work : e.need - 1 - spo ≡ due = cc same in
    subst (λ u. (first_short spans reserve t (t + 1) 1 (t + 1) ≡ Some u) × (t < u) × (u ≤ last_end t spans) × (due ≡ work_until spans u)) here (told.first, told.after, told.within, omega (arith, told.need))

-- the free slots that are told: no greater number leaves free where something is needed by the last
-- end, and all are free where nothing is
pub free-greatest : (spans : List Span) (reserve : Reserved) (t now told left free more : ℕ) → now ≡ t → MostFrom spans reserve t (now + 1) 1 (min told (last_end t spans - t - 1)) left (now + 1) → last_end t spans ≤ told → t < last_end t spans → Free (left + 1) ≡ Free free → 1 ≤ need_until spans reserve (t + 1) (last_end t spans) → LeavesFree spans reserve t more → more ≤ free
free-greatest spans reserve t now told left free more is greatest small after same needed leaves =
    let here : left + 1 ≡ free = cc same in
    let last = leaves (last_end t spans) after (omega arith) needed in
    let most = rw is at greatest in
    elim (cases_lt 0 more) [
      | inl some ↦
          let fewer = most (more - 1) (omega arith) (record {
            at = λ x low high need.
                let room = leaves x (omega arith) (omega arith) need in
                omega arith;
          }) in
          omega arith
      | inr none ↦ omega arith
    ]

pub free-all : (spans : List Span) (reserve : Reserved) (t now told left free : ℕ) → now ≡ t → MostFrom spans reserve t (now + 1) 1 (min told (last_end t spans - t - 1)) left (now + 1) → left ≤ min told (last_end t spans - t - 1) → last_end t spans ≤ told → t < last_end t spans → Free (left + 1) ≡ Free free → ((x : ℕ) → t < x → x ≤ last_end t spans → need_until spans reserve (t + 1) x ≡ 0) → free ≡ last_end t spans - t
free-all spans reserve t now told left free is greatest fewer small after same nothing =
    let here : left + 1 ≡ free = cc same in
    let most = rw is at greatest in
    let all = most (last_end t spans - t - 1) (omega arith) (record {
      at = λ x low high need. let none = nothing x (omega arith) (omega arith) in absurd (omega arith);
    }) in
    omega arith

-- what holds where there is an answer
pub OnOk-map : {X E : Type 0} (r : Result X E) (P Q : Type 0) → OnOk r P → (P → Q) → OnOk r Q
OnOk-map (Ok x) P Q holds then = then holds
OnOk-map (Err e) P Q holds then = tt

-- what the search tells once some slots are taken: so many more are left, or a time is short
pub slots-left : (spans : List Span) (reserve : Reserved) (t taken from left : ℕ) → from ≡ t + taken + 1 → LeavesFrom spans reserve t from (taken + 1) left from → LeavesSlots spans reserve t taken (left + 1)
slots-left spans reserve t taken from left is leaves =
    let all : LeavesFrom spans reserve t (t + taken + 1) (taken + 1) left (t + taken + 1) = rw is at leaves in
    λ x after within needed. omega (arith, all.at x (omega arith) (omega arith) needed)

pub slots-short : (spans : List Span) (reserve : Reserved) (t taken from : ℕ) (e : Evidence) → from ≡ t + taken + 1 → Some e ≡ option_map (evidence_at spans reserve t from (taken + 1)) (first_short spans reserve t from (taken + 1) from) → IsShortAfter spans reserve t taken
slots-short spans reserve t taken from e is found =
    by_found (first_short spans reserve t (t + taken + 1) (taken + 1) (t + taken + 1)) refl (rw is at found)
  where
    by_found : (o : Option ℕ) → first_short spans reserve t (t + taken + 1) (taken + 1) (t + taken + 1) ≡ o → Some e ≡ option_map (evidence_at spans reserve t (t + taken + 1) (taken + 1)) o → IsShortAfter spans reserve t taken
    by_found None none same = absurd (cc same)
    by_found (Some x) at same =
        let (low, high, short) = find-passes (is_short spans reserve t (t + taken + 1) (taken + 1)) (t + taken + 1) (last_end t spans + 1 - (t + taken + 1)) x at in
        (x, omega (arith, low), omega (arith, high), omega (arith, ltb-true (x - t) (taken + 1 + need_until spans reserve (t + taken + 1) x) short))
