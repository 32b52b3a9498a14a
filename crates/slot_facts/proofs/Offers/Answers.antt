-- The answer to a firm offer in reach is Accepted exactly where there is room, else NoRoom with the least time
-- that is too short.
use Rattle.std.proofs.Common.{◌≡◌, ◌↔◌, ◌⊎◌, ℕ, ◌+◌, ◌-◌, ◌<◌, ◌≤◌, Bool, true, false, cond, ◌==◌, List, Option, Some, None, refl, ap, ◌∙◌, subst, inl, inr, arith}
use Rattle.std.specs.Prelude.{nat_lt}
use Rattle.std.specs.Option.{option_map_or}
use Rattle.std.specs.List.{range_with_len}
use Rattle.std.proofs.lemmas.Bool.{ltb-true, ltb-false, le-ltb}
use Rattle.std.proofs.lemmas.Bool.Decides.{nat_tests}
use Rattle.slot_core.specs.declared.jobs.Evidence.{Evidence}
use Rattle.slot_core.specs.declared.tasks.Sporadic.{Sporadic}
use Rattle.slot_core.specs.declared.events.Firm.{Firm as FirmAnswer}
use Rattle.slot_core.specs.declared.events.Firm.TheVariants.{Accepted, Late, Far, NoRoom}
use Rattle.slot_core.specs.Runs.Scenes.{Scene, horizon}
use Rattle.slot_core.specs.Runs.Demand.{need_by, is_overloaded, HasRoom}
use Rattle.slot_core.specs.Runs.Answers.{first_overload, evidence_at, firm_answer}
use Rattle.slot_facts.proofs.Lists.Members.{Has-range_with_len, Has-range_with_len_bounds}
use Rattle.slot_facts.proofs.Lists.Tests.{find-Some, None-from_fails}
use Rattle.slot_facts.proofs.Lists.RangeSearch.{least-from_find}
use Rattle.slot_facts.proofs.Sets.Faults.{find-None}

module _ (sporadics : List Sporadic) (cycle : ℕ) (scene : Scene) (slots within : ℕ) where
  abbrev from : ℕ
  from = scene.time + within

  abbrev count : ℕ
  count = horizon cycle scene.time + 1 - from

  abbrev test : ℕ → Bool
  test = is_overloaded sporadics scene slots scene.time

  abbrev overload : Option ℕ
  overload = first_overload sporadics cycle scene slots from

  abbrev answer : FirmAnswer
  answer = firm_answer sporadics cycle scene slots within

  -- the least time at which the offer has no room, and the evidence of it
  pub record IsShortAt (e : Evidence) : Type 0 where
    pub after : from ≤ e.until
    pub before : e.until ≤ horizon cycle scene.time
    pub short : e.until - scene.time < slots + need_by sporadics scene scene.time e.until
    pub least : (y : ℕ) → from ≤ y → y < e.until → slots + need_by sporadics scene scene.time y ≤ y - scene.time
    pub exact : e ≡ evidence_at sporadics scene slots e.until

  -- no time is too short exactly where there is room
  room-from_none : overload ≡ None → HasRoom sporadics cycle scene slots within
  room-from_none none = λ x low high.
      ltb-false (x - scene.time) (slots + need_by sporadics scene scene.time x) (find-None test (range_with_len from count) x none (Has-range_with_len from count x low (omega arith)))

  -- and with room none is
  none-from_room : HasRoom sporadics cycle scene slots within → overload ≡ None
  none-from_room room =
      None-from_fails test (range_with_len from count) λ x at.
      let b = Has-range_with_len_bounds from count x at in
      le-ltb (x - scene.time) (slots + need_by sporadics scene scene.time x) (room x b.0 (omega (arith, b)))

  -- a time that is found is the least one
  short-from_some : (x : ℕ) → overload ≡ Some x → IsShortAt (evidence_at sporadics scene slots x)
  short-from_some x found =
      let f = find-Some test (range_with_len from count) x found in
      let b = Has-range_with_len_bounds from count x f.0 in
      record {
        after = b.0;
        before = omega (arith, b);
        short = ltb-true (x - scene.time) (slots + need_by sporadics scene scene.time x) f.1;
        least = λ y low high. ltb-false (y - scene.time) (slots + need_by sporadics scene scene.time y) (least-from_find test from count x found y low high);
        exact = refl;
      }

  -- a time that is too short leaves no room
  pub no_room-from_short : (e : Evidence) → IsShortAt e → HasRoom sporadics cycle scene slots within → ⊥
  no_room-from_short e short room = absurd (omega (arith, room e.until short.after short.before, short.short))

  -- the answer in reach
  in_reach : 1 ≤ within → within ≤ cycle → answer ≡ option_map_or (λ x. NoRoom (evidence_at sporadics scene slots x)) overload Accepted
  in_reach some near = reached (within == 0) (nat_lt cycle within) _ (not_late within some) (le-ltb cycle within near)
    where
      not_late : (n : ℕ) → 1 ≤ n → (n == 0) ≡ false
      not_late n some = grind (arith, nat_tests)

      reached : (late far : Bool) (a : FirmAnswer) → late ≡ false → far ≡ false → cond late Late (cond far Far a) ≡ a
      reached late far a l f = rw (l, f) refl

  -- so it is one of two
  pub accepted_or_no_room : 1 ≤ within → within ≤ cycle → (answer ≡ Accepted) ⊎ ((e : Evidence) × (answer ≡ NoRoom e))
  accepted_or_no_room some near = by_overload overload (in_reach some near)
    where
      by_overload : (o : Option ℕ) → answer ≡ option_map_or (λ x. NoRoom (evidence_at sporadics scene slots x)) o Accepted → (answer ≡ Accepted) ⊎ ((e : Evidence) × (answer ≡ NoRoom e))
      by_overload None e = inl e
      by_overload (Some x) e = inr (evidence_at sporadics scene slots x, e)

  -- the parts of an answer that accepts
  accepted_parts : (late far : Bool) (o : Option ℕ) → cond late Late (cond far Far (option_map_or (λ x. NoRoom (evidence_at sporadics scene slots x)) o Accepted)) ≡ Accepted → o ≡ None
  accepted_parts true far o e = absurd (cc e)
  accepted_parts false true o e = absurd (cc e)
  accepted_parts false false None e = refl
  accepted_parts false false (Some x) e = absurd (cc e)

  -- the parts of an answer that refuses
  refused_parts : (e : Evidence) (late far : Bool) (o : Option ℕ) → cond late Late (cond far Far (option_map_or (λ x. NoRoom (evidence_at sporadics scene slots x)) o Accepted)) ≡ NoRoom e → (x : ℕ) × (o ≡ Some x) × (evidence_at sporadics scene slots x ≡ e)
  refused_parts e true far o h = absurd (cc h)
  refused_parts e false true o h = absurd (cc h)
  refused_parts e false false None h = absurd (cc h)
  refused_parts e false false (Some x) h = (x, refl, cc h)

  -- whatever is in reach: an accepted offer has room
  pub room-from_accepted : answer ≡ Accepted → HasRoom sporadics cycle scene slots within
  room-from_accepted e = room-from_none (accepted_parts (within == 0) (nat_lt cycle within) overload e)

  -- and one that is refused for want of room has a least time that is too short
  pub short-from_no_room : (e : Evidence) → answer ≡ NoRoom e → IsShortAt e
  short-from_no_room e h =
      let r = refused_parts e (within == 0) (nat_lt cycle within) overload h in
      subst IsShortAt r.2 (short-from_some r.0 r.1)

  -- in reach, Accepted comes exactly where there is room
  pub accepted_exactly : 1 ≤ within → within ≤ cycle → answer ≡ Accepted ↔ HasRoom sporadics cycle scene slots within
  accepted_exactly some near = (
    room-from_accepted,
    λ room. in_reach some near ∙ ap (λ o. option_map_or (λ x. NoRoom (evidence_at sporadics scene slots x)) o Accepted) (none-from_room room),
  )

  -- and NoRoom, with the least time that is too short, exactly where there is none
  pub no_room_exactly : 1 ≤ within → within ≤ cycle → ((e : Evidence) × (answer ≡ NoRoom e) × IsShortAt e) ↔ ¬ (HasRoom sporadics cycle scene slots within)
  no_room_exactly some near = (
    λ r. no_room-from_short r.0 r.2,
    λ none. go overload refl none,
  )
    where
      go : (o : Option ℕ) → overload ≡ o → ¬ (HasRoom sporadics cycle scene slots within) → (e : Evidence) × (answer ≡ NoRoom e) × IsShortAt e
      go None e none = absurd (none (room-from_none e))
      go (Some x) e none =
          let said = in_reach some near ∙ ap (λ o. option_map_or (λ x. NoRoom (evidence_at sporadics scene slots x)) o Accepted) e in
          (evidence_at sporadics scene slots x, said, short-from_some x e)
