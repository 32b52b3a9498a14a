-- That scenes are the same is an equivalence.
use Rattle.std.proofs.Common.{List, refl, sym, ◌∙◌}
use Rattle.slot_core.specs.Runs.Scenes.{Scene}
use Rattle.slot_core.specs.Runs.Matches.{HaveSameItems, IsSameScene}
use Rattle.slot_facts.proofs.Lists.SameItems.{same-sym}

-- a list has the same items as itself
pub same-refl : {X : Type 0} (xs : List X) → HaveSameItems xs xs
same-refl xs = λ f. refl

-- and lists with the items of one list have the same items
pub same-trans : {X : Type 0} (xs ys zs : List X) → HaveSameItems xs ys → HaveSameItems ys zs → HaveSameItems xs zs
same-trans xs ys zs first second = λ f. first f ∙ second f

-- a scene is the same as itself
pub same_scene-refl : (a : Scene) → IsSameScene a a
same_scene-refl a =
    record { time = refl; jobs = same-refl a.jobs; nexts = refl; soft = refl; points = refl }

-- where a scene is the same as another, so is the other as the first
pub same_scene-sym : (a b : Scene) → IsSameScene a b → IsSameScene b a
same_scene-sym a b same =
    record {
      time = sym same.time;
      jobs = same-sym a.jobs b.jobs same.jobs;
      nexts = sym same.nexts;
      soft = sym same.soft;
      points = sym same.points;
    }

-- scenes that are the same as one scene are the same
pub same_scene-trans : (a b c : Scene) → IsSameScene a b → IsSameScene b c → IsSameScene a c
same_scene-trans a b c first second =
    record {
      time = first.time ∙ second.time;
      jobs = same-trans a.jobs b.jobs c.jobs first.jobs second.jobs;
      nexts = first.nexts ∙ second.nexts;
      soft = first.soft ∙ second.soft;
      points = first.points ∙ second.points;
    }
