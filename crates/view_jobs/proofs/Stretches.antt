-- The gaps of rising times are one less than their stretches.
use Rattle.std.proofs.Common.{◌≡◌, ℕ, ◌+◌, ◌-◌, ◌^◌, ◌<◌, ◌≤◌, ◌==◌, ◌||◌, Bool, true, false, List, [], ◌∷◌, length, Some, refl, ap, ◌∙◌, inl, inr, arith}
use Rattle.std.specs.Prelude.{filter, if◌then◌else◌}
use Rattle.std.specs.List.{list_any}
use Rattle.std.proofs.lemmas.Bool.{cases_Bool}
use Rattle.std.proofs.lemmas.Bool.Decides.{nat_tests}
use Rattle.slot_core.specs.Runs.Rising.{AreRising}
use Rattle.view_jobs.specs.declared.tallies.Tally.{Tally}
use Rattle.view_jobs.specs.JobTimes.{begins_stretch, stretches}
use Rattle.view_jobs.specs.Tallies.{after_run, gaps_at, one_more}
use Rattle.view_jobs.proofs.ToldTimes.{after_times}

-- how many times are not the one after the time before
abbrev pub gaps_after : ℕ → List ℕ → ℕ
gaps_after last [] = 0
gaps_after last (time ∷ times) =
    if last + 1 == time then gaps_after time times else gaps_after time times + 1

-- whether one of the times is the one before this
abbrev pub is_after_one : List ℕ → ℕ → Bool
is_after_one times time = list_any (λ before. before + 1 == time) times

-- none of the later times is
none-later : (last time : ℕ) (times : List ℕ) → AreRising last times → time ≤ last + 1 → is_after_one times time ≡ false
none-later last time [] rise low = refl
none-later last time (next ∷ times) rise low =
    let not_next : (next + 1 == time) ≡ false = grind (arith, nat_tests, rise.0, low) in
    rw not_next (none-later next time times rise.1 (omega (arith, rise.0, low)))

-- the times that begin a stretch, of those after this one, where earlier times do not matter
begins-after : (all : List ℕ) (last : ℕ) (times : List ℕ) → AreRising last times → ((time : ℕ) → last < time → is_after_one all time ≡ is_after_one (last ∷ times) time) → length (filter (begins_stretch all) times) ≡ gaps_after last times
begins-after all last [] rise since = refl
begins-after all last (time ∷ times) rise since =
    let own : (time + 1 == time) ≡ false = grind (arith, nat_tests) in
    let none : is_after_one (time ∷ times) time ≡ false = rw own (none-later time time times rise.1 (omega arith)) in
    let rest = begins-after all time times rise.1 (λ next later. since next (omega (arith, rise.0, later)) ∙ skip next later) in
    let at = since time rise.0 in
    elim (cases_Bool (last + 1 == time)) [
      | inl follows ↦
          let met : is_after_one all time ≡ true = at ∙ rw follows refl in
          rw (met, follows) rest
      | inr apart ↦
          let unmet : is_after_one all time ≡ false = at ∙ ap (λ b. b || is_after_one (time ∷ times) time) apart ∙ none in
          rw (unmet, apart) (let same = rest in omega (arith, same))
    ]
  where
    skip : (next : ℕ) → time < next → is_after_one (last ∷ time ∷ times) next ≡ is_after_one (time ∷ times) next
    skip next later =
        let past : (last + 1 == next) ≡ false = grind (arith, nat_tests, rise.0, later) in
        rw past refl

-- the first time begins one
pub stretches-after : (first : ℕ) (times : List ℕ) → AreRising first times → stretches (first ∷ times) ≡ gaps_after first times + 1
stretches-after first times rise =
    let own : (first + 1 == first) ≡ false = grind (arith, nat_tests) in
    let none : is_after_one (first ∷ times) first ≡ false = rw own (none-later first first times rise (omega arith)) in
    let rest = begins-after (first ∷ times) first times rise (λ time later. refl) in
    rw none (omega (arith, rest))

-- a counter that is not at its end
pub one_more-below : (n : ℕ) → n + 1 ≤ 2 ^ 64 - 1 → one_more n ≡ n + 1
one_more-below n below = omega (arith, below)

-- as many slots more as there are times
pub ran-after : (tally : Tally) (times : List ℕ) → tally.ran + length times ≤ 2 ^ 64 - 1 → (after_times tally times).ran ≡ tally.ran + length times
ran-after tally [] below = omega arith
ran-after tally (time ∷ times) below =
    let one = one_more-below tally.ran (omega (arith, below)) in
    let rest = ran-after (after_run tally time) times (omega (arith, below, one)) in
    omega (arith, rest, one)

-- and as many gaps more
pub gaps-after : (tally : Tally) (last : ℕ) (times : List ℕ) → tally.last ≡ Some last → tally.gaps + length times ≤ 2 ^ 64 - 1 → (after_times tally times).gaps ≡ tally.gaps + gaps_after last times
gaps-after tally last [] at below = omega arith
gaps-after tally last (time ∷ times) at below =
    let now = ap (λ o. gaps_at o time tally.gaps) at in
    let one = one_more-below tally.gaps (omega (arith, below)) in
    elim (cases_Bool (last + 1 == time)) [
      | inl follows ↦
          let same : gaps_at tally.last time tally.gaps ≡ tally.gaps = now ∙ rw follows refl in
          let rest = gaps-after (after_run tally time) time times refl (omega (arith, below, same)) in
          rw follows (omega (arith, rest, same))
      | inr apart ↦
          let more : gaps_at tally.last time tally.gaps ≡ tally.gaps + 1 = now ∙ rw apart one in
          let rest = gaps-after (after_run tally time) time times refl (omega (arith, below, more)) in
          rw apart (omega (arith, rest, more))
    ]
