-- What runs in a slot after a change: a ready job that is due no later than any other, or none where none is ready.
use Rattle.std.proofs.Common.{◌≡◌, ℕ, ◌<◌, ◌≤◌, ◌⊎◌, Bool, true, false, List, ◌++◌, Option, Some, None, refl, inl, inr, arith}
use Rattle.std.specs.Prelude.{nat_le, if◌then◌else◌}
use Rattle.std.proofs.lemmas.Bool.{cases_lt, leb-true, leb-false, le-leb}
use Rattle.slot_core.specs.declared.jobs.Job.{Job}
use Rattle.slot_core.specs.declared.events.Ran.{Ran}
use Rattle.slot_core.specs.declared.events.Ran.TheVariants.{Idle as RanIdle, Key as RanKey}
use Rattle.slot_core.specs.Runs.Choice.{earliest, ready}
use Rattle.slot_facts.proofs.Lists.Members.{Has, Has-filter, Has-filter_passes, Has-append_left, Has-append_right, Has-append_cases}
use Rattle.slot_facts.proofs.Choice.Earliest.{IsEarliest-from_earliest, least_due}
use Rattle.slot_facts.proofs.Choice.SameEarliest.{earliest_of}
use Rattle.mode_switch.specs.declared.turns.Turn.TheVariants.{Old, New}
use Rattle.mode_switch.specs.Runs.{turn_between, ran_in}
use Rattle.slot_facts.proofs.Demand.OneSlot.{none_is_ready}

-- the job may start by t, and is due no later than any other that may
pub record IsFirst (jobs : List Job) (t : ℕ) (job : Job) : Type 0 where
  pub among : Has jobs job
  pub started : job.est ≤ t
  pub first : (other : Job) → Has jobs other → other.est ≤ t → job.dl ≤ other.dl

-- so is the earliest of the ready jobs
IsFirst-from_earliest : (t : ℕ) (jobs : List Job) (job : Job) → earliest (ready t jobs) ≡ Some job → IsFirst jobs t job
IsFirst-from_earliest t jobs job e =
    let come = λ (j : Job). nat_le j.est t in
    let most = IsEarliest-from_earliest (ready t jobs) job e in
    let own = Has-filter_passes come jobs job most.among in
    record {
      among = own.0;
      started = leb-true job.est t own.1;
      first = λ other at early. least_due (ready t jobs) job other most (Has-filter come jobs other at (le-leb other.est t early));
    }

-- it is the first of two lists where it is due no later than those of the other that are ready
IsFirst-append_left : (t : ℕ) (xs ys : List Job) (job : Job) → IsFirst xs t job → ((other : Job) → Has ys other → other.est ≤ t → job.dl ≤ other.dl) → IsFirst (xs ++ ys) t job
IsFirst-append_left t xs ys job own others =
    record {
      among = Has-append_left xs ys job own.among;
      started = own.started;
      first = λ other at early.
          elim (Has-append_cases xs ys other at) [ inl x ↦ own.first other x early | inr y ↦ others other y early ];
    }

IsFirst-append_right : (t : ℕ) (xs ys : List Job) (job : Job) → IsFirst ys t job → ((other : Job) → Has xs other → other.est ≤ t → job.dl ≤ other.dl) → IsFirst (xs ++ ys) t job
IsFirst-append_right t xs ys job own others =
    record {
      among = Has-append_right xs ys job own.among;
      started = own.started;
      first = λ other at early.
          elim (Has-append_cases xs ys other at) [ inl x ↦ others other x early | inr y ↦ own.first other y early ];
    }

-- in the turn a first job of the list runs, or none, and each starts later
abbrev pub RunsFirst : List Job → ℕ → Ran → Type 0
RunsFirst jobs t ran =
    ((ran ≡ RanIdle) × ((job : Job) → Has jobs job → t < job.est))
    ⊎ ((job : Job) × IsFirst jobs t job × (ran ≡ RanKey job.key))

-- of two that are first in their lists the one that is due earlier is first in both, the left one where they are level
first-of_two : (t : ℕ) (xs ys : List Job) (a b : Job) → IsFirst xs t a → IsFirst ys t b → RunsFirst (xs ++ ys) t (ran_in (turn_between (Some a) (Some b)))
first-of_two t xs ys a b left right = by_due (nat_le a.dl b.dl) refl
  where
    by_due : (c : Bool) → nat_le a.dl b.dl ≡ c → RunsFirst (xs ++ ys) t (ran_in (if c then Old a.key else New b.key))
    by_due true e =
        inr (a, IsFirst-append_left t xs ys a left (λ other at early. omega (arith, leb-true a.dl b.dl e, right.first other at early)), refl)
    by_due false e =
        inr (b, IsFirst-append_right t xs ys b right (λ other at early. omega (arith, leb-false a.dl b.dl e, left.first other at early)), refl)

-- so a turn between the earliest ready jobs of two lists runs a first job of both
pub turn-runs_first : (t : ℕ) (xs ys : List Job) → RunsFirst (xs ++ ys) t (ran_in (turn_between (earliest (ready t xs)) (earliest (ready t ys))))
turn-runs_first t xs ys = go (earliest (ready t xs)) (earliest (ready t ys)) refl refl
  where
    none : (jobs : List Job) → earliest (ready t jobs) ≡ None → (bound : ℕ) (job : Job) → Has jobs job → job.est ≤ t → bound ≤ job.dl
    none jobs e bound job at early = absurd (omega (arith, none_is_ready t jobs job e at))

    go : (a b : Option Job) → earliest (ready t xs) ≡ a → earliest (ready t ys) ≡ b → RunsFirst (xs ++ ys) t (ran_in (turn_between a b))
    go None None e f =
        inl (refl, λ job at. elim (Has-append_cases xs ys job at) [ inl x ↦ none_is_ready t xs job e x | inr y ↦ none_is_ready t ys job f y ])
    go (Some a) None e f =
        inr (a, IsFirst-append_left t xs ys a (IsFirst-from_earliest t xs a e) (none ys f a.dl), refl)
    go None (Some b) e f =
        inr (b, IsFirst-append_right t xs ys b (IsFirst-from_earliest t ys b f) (none xs e b.dl), refl)
    go (Some a) (Some b) e f =
        first-of_two t xs ys a b (IsFirst-from_earliest t xs a e) (IsFirst-from_earliest t ys b f)
