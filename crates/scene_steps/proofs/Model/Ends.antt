-- An early end and a withdrawal take the job of their key out of those that have not ended.
use Rattle.std.proofs.Common.{◌≡◌, ℕ, Bool, true, false, not, ◌&&◌, ◌||◌, cond, List, [], ◌∷◌, map, filter, refl, sym, ap, ap₂, ◌∙◌}
use Rattle.std.specs.Prelude.{nat_le}
use Rattle.slot_core.specs.declared.jobs.Key.{Key}
use Rattle.slot_core.specs.declared.jobs.Key.TheVariants.{Soft as SoftKey, Firm as FirmKey}
use Rattle.slot_core.specs.declared.jobs.Job.{Job}
use Rattle.slot_core.specs.declared.jobs.SoftJob.{SoftJob}
use Rattle.slot_core.specs.declared.tasks.TaskSet.{TaskSet}
use Rattle.slot_core.specs.declared.events.What.TheVariants.{Done, Withdraw}
use Rattle.slot_core.specs.declared.events.Done.TheVariants.{Freed}
use Rattle.slot_core.specs.declared.events.Gone.TheVariants.{Freed as GoneFreed}
use Rattle.slot_core.specs.Offline.Keys.{same_key}
use Rattle.slot_core.specs.Runs.Histories.{History, executed, is_freed, soft_jobs}
use Rattle.slot_core.specs.Runs.Scenes.{has_ended, with_left, guaranteed, unended, soft_has_ended, soft_with_left, waiting_soft, scene_of}
use Rattle.scene_steps.specs.Steps.{without}

-- what passes two tests, the second on its image
map-filter_twice : {X Y : Type 0} (f : X → Y) (p r : X → Bool) (q : Y → Bool) (xs : List X) → ((x : X) → r x ≡ (p x && q (f x))) → map f (filter r xs) ≡ filter q (map f (filter p xs))
map-filter_twice f p r q [] both = refl
map-filter_twice f p r q (x ∷ xs) both =
    ap (λ b. map f (cond b (x ∷ filter r xs) (filter r xs))) (both x) ∙ by_tests (p x) (q (f x)) refl (map-filter_twice f p r q xs both)
  where
    by_tests : (a b : Bool) → q (f x) ≡ b → map f (filter r xs) ≡ filter q (map f (filter p xs)) → map f (cond (a && b) (x ∷ filter r xs) (filter r xs)) ≡ filter q (map f (cond a (x ∷ filter p xs) (filter p xs)))
    by_tests true true e rest = rw e (ap (λ ys. f x ∷ ys) rest)
    by_tests true false e rest = rw e rest
    by_tests false b e rest = rest

-- one reason more to have ended
ended-also : (ran ends freed : Bool) → not (ran || (ends || freed)) ≡ (not (ran || freed) && not ends)
ended-also true ends freed = refl
ended-also false true true = refl
ended-also false true false = refl
ended-also false false freed = by_test freed
  where
    by_test : (b : Bool) → not b ≡ (not b && true)
    by_test true = refl
    by_test false = refl

-- after an early end the jobs that have not ended are those before it without the job of its key
pub unended-done : (row n : ℕ) (key : Key) (h : History) (jobs : List Job) → unended (Done row key (Freed n) ∷ h) jobs ≡ filter (λ (j : Job). not (same_key j.key key)) (unended h jobs)
unended-done row n key h jobs =
    map-filter_twice
    (with_left h)
    (λ (j : Job). not (has_ended h j))
    (λ (j : Job). not (has_ended (Done row key (Freed n) ∷ h) j))
    (λ (j : Job). not (same_key j.key key))
    jobs
    (λ j. ended-also (nat_le j.declared (executed j.key h)) (same_key j.key key) (is_freed j.key h))

-- and the soft jobs that wait those before it without the soft job of its key
pub waiting-done : (row n : ℕ) (key : Key) (h : History) → waiting_soft (Done row key (Freed n) ∷ h) ≡ filter (λ (s : SoftJob). not (same_key (SoftKey s.row) key)) (waiting_soft h)
waiting-done row n key h =
    map-filter_twice
    (soft_with_left h)
    (λ (s : SoftJob). not (soft_has_ended h s))
    (λ (s : SoftJob). not (soft_has_ended (Done row key (Freed n) ∷ h) s))
    (λ (s : SoftJob). not (same_key (SoftKey s.row) key))
    (soft_jobs h)
    (λ s. ended-also (nat_le s.declared (executed (SoftKey s.row) h)) (same_key (SoftKey s.row) key) (is_freed (SoftKey s.row) h))

-- so the scene after it is the step's
pub done-follows : (set : TaskSet) (cycle row n : ℕ) (key : Key) (h : History) → without key (scene_of set cycle h) ≡ scene_of set cycle (Done row key (Freed n) ∷ h)
done-follows set cycle row n key h =
    ap₂
    (λ (jobs : List Job) (soft : List SoftJob). record (scene_of set cycle h) { jobs = jobs; soft = soft })
    (sym (unended-done row n key h (guaranteed set cycle h)))
    (sym (waiting-done row n key h))

-- a withdrawal changes the scene as an early end of the firm job would
pub withdraw-follows : (set : TaskSet) (cycle row firm n : ℕ) (h : History) → without (FirmKey firm) (scene_of set cycle h) ≡ scene_of set cycle (Withdraw row firm (GoneFreed n) ∷ h)
withdraw-follows set cycle row firm n h = done-follows set cycle row n (FirmKey firm) h
