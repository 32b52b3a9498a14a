-- Scenes and executives that match a history, and others.
use Rattle.std.specs.Prelude.{◌≡◌, ℕ, [], ◌∷◌, reverse, refl}
use Rattle.std.proofs.Common.{arith}
use Rattle.std.proofs.lemmas.List.Sums.{sum_by-cons}
use Rattle.slot_core.specs.Offline.OfflineJobs.{cycle_jobs}
use Rattle.slot_core.specs.Runs.Scenes.{Scene, scene_of}
use Rattle.slot_core.specs.Runs.Traces.{started}
use Rattle.slot_core.specs.Runs.Matches.{HaveSameItems, MatchesHistory}
use Rattle.slot_core.specs.Keeping.Plans.{plan_spans}
use Rattle.slot_core.specs.Keeping.Executives.{Executive, StandsFor}
use Rattle.sample_sets.specs.Sets.{half_set}

-- a list of three has the same items in reverse
same_in_reverse : {X : Type 0} (a b c : X) → HaveSameItems (c ∷ b ∷ a ∷ []) (a ∷ b ∷ c ∷ [])
same_in_reverse a b c f =
    omega (arith, sum_by-cons f c (b ∷ a ∷ []), sum_by-cons f b (a ∷ []), sum_by-cons f a [], sum_by-cons f a (b ∷ c ∷ []), sum_by-cons f b (c ∷ []), sum_by-cons f c [])

-- the first scene, its three jobs listed in reverse
abbrev reversed_scene : Scene
reversed_scene =
    let scene = scene_of half_set 2 started in
    record scene { jobs = reverse scene.jobs }

pub reversed_scene_matches : MatchesHistory half_set 2 reversed_scene 0 started
reversed_scene_matches =
    record {
      legal = tt;
      same = record {
        time = refl;
        jobs = same_in_reverse _ _ _;
        nexts = refl;
        soft = refl;
        points = refl;
      };
      last = refl;
    }

-- so an executive in that scene stands for the start
abbrev half_exec : ℕ → Executive
half_exec row =
    record {
      plan = record {
        tasks = half_set;
        cycle = 2;
        jobs = cycle_jobs half_set 2 0;
        spans = plan_spans half_set 2;
      };
      scene = reversed_scene;
      last_row = row;
    }

pub executive_at_the_start : StandsFor (half_exec 0) started
executive_at_the_start = reversed_scene_matches

-- nothing has come yet, so no row 1
pub no_row_has_come : MatchesHistory half_set 2 reversed_scene 1 started → ⊥
no_row_has_come matches =
    let none : ◌≡◌ {A = ℕ} 1 0 = matches.last in
    omega arith

pub executive_of_a_later_row : StandsFor (half_exec 1) started → ⊥
executive_of_a_later_row = no_row_has_come

-- a scene without its jobs is another one
pub no_job_is_missing :
    MatchesHistory half_set 2 (record (scene_of half_set 2 started) { jobs = [] }) 0 started → ⊥
no_job_is_missing matches =
    let none : ◌≡◌ {A = ℕ} 0 3 = matches.same.jobs (λ job. 1) in
    omega arith
