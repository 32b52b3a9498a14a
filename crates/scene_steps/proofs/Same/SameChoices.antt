-- In scenes that are the same the same runs.
use Rattle.std.proofs.Common.{◌≡◌, ℕ, List, Option, Some, None, cond, refl, ap, ◌∙◌}
use Rattle.std.specs.Prelude.{nat_le}
use Rattle.std.specs.Option.{option_map_or}
use Rattle.slot_core.specs.declared.jobs.Key.{Key}
use Rattle.slot_core.specs.declared.jobs.Key.TheVariants.{Soft}
use Rattle.slot_core.specs.declared.jobs.Job.{Job}
use Rattle.slot_core.specs.declared.jobs.SoftJob.{SoftJob}
use Rattle.slot_core.specs.declared.tasks.Sporadic.{Sporadic}
use Rattle.slot_core.specs.declared.events.Ran.TheVariants.{Idle, Key as RanKey}
use Rattle.slot_core.specs.Runs.Choice.{earliest, ready, first_soft, earliest_ready, choice}
use Rattle.slot_core.specs.Runs.Matches.{HaveSameItems, IsSameScene}
use Rattle.slot_core.specs.Runs.Scenes.{Scene}
use Rattle.slot_facts.proofs.Choice.Earliest.{IsEarliest-from_earliest}
use Rattle.slot_facts.proofs.Choice.SameEarliest.{one_key-earliest, earliest_of}
use Rattle.slot_facts.proofs.Lists.SameItems.{same-sym, same-filter}
use Rattle.scene_steps.proofs.Same.SameNeeds.{soft_may_run-same}
use Rattle.scene_steps.proofs.Same.SameSearches.{Has-same}

-- the earliest of the same jobs have one key, or there is none
pub earliest-same : {X : Type 0} (f : Key → X) (none : X) (xs ys : List Job) → HaveSameItems xs ys → option_map_or (λ (j : Job). f j.key) (earliest xs) none ≡ option_map_or (λ (j : Job). f j.key) (earliest ys) none
earliest-same f none xs ys same = by_found (earliest xs) (earliest ys) refl refl
  where
    by_found : (o r : Option Job) → earliest xs ≡ o → earliest ys ≡ r → option_map_or (λ (j : Job). f j.key) o none ≡ option_map_or (λ (j : Job). f j.key) r none
    by_found None None e g = refl
    by_found (Some x) None e g =
        absurd (earliest_of ys x (Has-same xs ys x same (IsEarliest-from_earliest xs x e).among) g)
    by_found None (Some y) e g =
        absurd (earliest_of xs y (Has-same ys xs y (same-sym xs ys same) (IsEarliest-from_earliest ys y g).among) e)
    by_found (Some x) (Some y) e g =
        ap f (one_key-earliest xs ys x y same (IsEarliest-from_earliest xs x e) (IsEarliest-from_earliest ys y g))

-- the guaranteed job that is ready and earliest has the same key, or none is ready
pub earliest_ready-same : (a b : Scene) → IsSameScene a b → earliest_ready a ≡ earliest_ready b
earliest_ready-same a b same =
    let begun = same-filter (λ (j : Job). nat_le j.est a.time) a.jobs b.jobs same.jobs in
    earliest-same RanKey Idle (ready a.time a.jobs) (ready a.time b.jobs) begun ∙ λ i. option_map_or (λ (j : Job). RanKey j.key) (earliest (ready (same.time i) b.jobs)) Idle

-- the same runs
pub choice-same : (sporadics : List Sporadic) (cycle : ℕ) (a b : Scene) → IsSameScene a b → choice sporadics cycle a ≡ choice sporadics cycle b
choice-same sporadics cycle a b same =
    let other = earliest_ready-same a b same in
    let may = soft_may_run-same sporadics cycle a b same in
    λ i. option_map_or (λ (s : SoftJob). cond (may i) (RanKey (Soft s.row)) (other i)) (first_soft (same.soft i)) (other i)
