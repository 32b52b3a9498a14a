-- The tasks of a set in their order, and a list of their margins.
use Rattle.std.proofs.Common.{◌≡◌, ℕ, ◌+◌, ◌<◌, List, [], ◌∷◌, ◌++◌, length, map, take, get_or, Some, refl, sym, subst, ap, ◌∙◌, inl, inr, arith}
use Rattle.std.specs.Prelude.{All, Contains, slice_get, flat_map}
use Rattle.std.specs.List.{enumerate_from}
use Rattle.std.proofs.lemmas.List.{get_or-map, length-map, map-append, take_more}
use Rattle.std.proofs.lemmas.List.Elements.{All-push, All-weaker, All-contains_itself}
use Rattle.slot_core.specs.declared.faults.Part.{Part}
use Rattle.slot_core.specs.declared.faults.Part.TheVariants.{Task as TaskPart, Sporadic as SporadicPart}
use Rattle.slot_core.specs.declared.tasks.Task.{Task}
use Rattle.slot_core.specs.declared.tasks.Sporadic.{Sporadic}
use Rattle.slot_core.specs.declared.tasks.TaskSet.{TaskSet}
use Rattle.slot_core.specs.Offline.OfflineJobs.{tasks_of}
use Rattle.slot_core.specs.Claims.Growth.{IsMargin}
use Rattle.slot_facts.proofs.Lists.Members.{Has, Has-from_Contains, Has-append_cases, Has-map_cases, Has-flat_map_cases, Has-enumerate_from_at}
use Rattle.margin_find.specs.declared.margin.Margin.{Margin}
use Rattle.margin_find.specs.declared.margin.TaskMargin.{TaskMargin}
use Rattle.margin_find.specs.Parts.{IsTaskOf}
use Rattle.margin_find.specs.Margins.{AreMargins, graph_parts, parts_of}
use Rattle.std.proofs.lemmas.Option.{slice_get_within}

-- the tasks in order are tasks of the set
task-part : (set : TaskSet) (p : Part) → Has (flat_map graph_parts (enumerate_from 0 set.graphs)) p → IsTaskOf set p
task-part set p h =
    let ((g, graph), listed, there) = Has-flat_map_cases graph_parts (enumerate_from 0 set.graphs) p h in
    let (k, same, at) = Has-enumerate_from_at 0 set.graphs g graph listed in
    let ((t, task), placed, is) = Has-map_cases (λ (t : ℕ × Task). TaskPart g t.0) (enumerate_from 0 graph.tasks) p there in
    let (m, same_task, at_task) = Has-enumerate_from_at 0 graph.tasks t task placed in
    let place : k ≡ g = omega arith in
    let here : slice_get set.graphs g ≡ Some graph = subst (λ n. slice_get set.graphs n ≡ Some graph) place at in
    let tasks : tasks_of set g ≡ graph.tasks = rw here refl in
    let within : t < length (tasks_of set g) = omega (arith, slice_get_within graph.tasks m task at_task, ap length tasks) in
    subst (IsTaskOf set) is within

sporadic-part : (set : TaskSet) (p : Part) → Has (map (λ (s : ℕ × Sporadic). SporadicPart s.0) (enumerate_from 0 set.sporadics)) p → IsTaskOf set p
sporadic-part set p h =
    let ((i, s), listed, is) = Has-map_cases (λ (s : ℕ × Sporadic). SporadicPart s.0) (enumerate_from 0 set.sporadics) p h in
    let (k, same, at) = Has-enumerate_from_at 0 set.sporadics i s listed in
    let within : i < length set.sporadics = omega (arith, slice_get_within set.sporadics k s at) in
    subst (IsTaskOf set) is within

part-of : (set : TaskSet) (p : Part) → Has (parts_of set) p → IsTaskOf set p
part-of set p h =
    elim (Has-append_cases (flat_map graph_parts (enumerate_from 0 set.graphs)) (map (λ (s : ℕ × Sporadic). SporadicPart s.0) (enumerate_from 0 set.sporadics)) p h) [
      | inl a ↦ task-part set p a
      | inr b ↦ sporadic-part set p b
    ]

pub parts-of : (set : TaskSet) → All (IsTaskOf set) (parts_of set)
parts-of set =
    All-weaker (Contains (parts_of set)) (IsTaskOf set) (λ p h. part-of set p (Has-from_Contains (parts_of set) p h)) (parts_of set) (All-contains_itself (parts_of set))

-- one margin more
pub AreMargins-more : (set : TaskSet) (parts : List Part) (i : ℕ) (d : Part) (found longer : List TaskMargin) (margin : Margin) → i < length parts → AreMargins set (take i parts) found → longer ≡ found ++ record { at = get_or parts i d; margin = margin } ∷ [] → IsMargin set (get_or parts i d) margin.growth margin.window → AreMargins set (take (i + 1) parts) longer
AreMargins-more set parts i d found longer margin low h pushed here =
    let last : TaskMargin = record { at = get_or parts i d; margin = margin } in
    let places = map-append (λ (m : TaskMargin). m.at) found (last ∷ []) ∙ ap (λ ps. ps ++ get_or parts i d ∷ []) h.places in
    let margins = All-push (λ (m : TaskMargin). IsMargin set m.at m.margin.growth m.margin.window) found last h.margins here in
    rw pushed (record { places = places ∙ sym (take_more parts i d low); margins = margins })

-- margins are of tasks of the set
pub tasks-AreMargins : (set : TaskSet) (found : List TaskMargin) → AreMargins set (parts_of set) found → All (λ (m : TaskMargin). IsTaskOf set m.at) found
tasks-AreMargins set found h = λ k d low.
    let at = λ (m : TaskMargin). m.at in
    let same : get_or (parts_of set) k d.at ≡ (get_or found k d).at = ap (λ ps. get_or ps k d.at) (sym h.places) ∙ get_or-map at found k d d.at low in
    let within : k < length (parts_of set) = omega (arith, ap length h.places, length-map found at) in
    subst (IsTaskOf set) same (parts-of set k d.at within)
