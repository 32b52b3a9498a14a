-- Offers for which there is room, and others.
use Rattle.std.specs.Prelude.{◌≡◌, ℕ, ◌+◌, ◌-◌, ◌≤◌, Bool, true, List, [], nat_le, refl}
use Rattle.std.specs.List.{list_all, range_with_len}
use Rattle.std.proofs.Common.{arith}
use Rattle.std.proofs.lemmas.Bool.{leb-true}
use Rattle.slot_core.specs.declared.tasks.Sporadic.{Sporadic}
use Rattle.slot_core.specs.Runs.Scenes.{Scene, horizon, scene_of}
use Rattle.slot_core.specs.Runs.Demand.{need_by, HasRoom}
use Rattle.slot_core.specs.Runs.Traces.{started}
use Rattle.slot_facts.proofs.Lists.Members.{Has-range_with_len, passes_from_list_all}
use Rattle.sample_sets.specs.Sets.{pair_set, alarm_set}

-- up to time x there is room
abbrev fits_by : List Sporadic → Scene → ℕ → ℕ → Bool
fits_by sporadics scene slots x =
    nat_le (slots + need_by sporadics scene scene.time x) (x - scene.time)

-- the times from the offer's deadline to the horizon
abbrev times_after : ℕ → Scene → ℕ → List ℕ
times_after cycle scene within =
    let deadline = scene.time + within in
    range_with_len deadline (horizon cycle scene.time + 1 - deadline)

-- there is room where each of these times passes the test
HasRoom-from_test :
    (sporadics : List Sporadic) (cycle : ℕ) (scene : Scene) (slots within : ℕ)
    → list_all (fits_by sporadics scene slots) (times_after cycle scene within) ≡ true
    → HasRoom sporadics cycle scene slots within
HasRoom-from_test sporadics cycle scene slots within all x from to =
    let deadline = scene.time + within in
    let at = Has-range_with_len deadline (horizon cycle scene.time + 1 - deadline) x (omega arith) (omega arith) in
    let fits = passes_from_list_all (fits_by sporadics scene slots) (times_after cycle scene within) x all at in
    leb-true (slots + need_by sporadics scene scene.time x) (x - scene.time) fits

-- before the first slot the pair leaves five of the first seven slots, and no more
pub room_for_five : HasRoom [] 8 (scene_of pair_set 8 started) 5 7
room_for_five = HasRoom-from_test [] 8 (scene_of pair_set 8 started) 5 7 refl

pub no_room_for_six : HasRoom [] 8 (scene_of pair_set 8 started) 6 7 → ⊥
no_room_for_six room =
    let fits : 8 ≤ 7 = room 7 (omega arith) (omega arith) in
    omega arith

-- beside the alarm it leaves four
pub room_for_four : HasRoom alarm_set.sporadics 8 (scene_of alarm_set 8 started) 4 7
room_for_four =
    HasRoom-from_test alarm_set.sporadics 8 (scene_of alarm_set 8 started) 4 7 refl

pub no_room_for_five : HasRoom alarm_set.sporadics 8 (scene_of alarm_set 8 started) 5 7 → ⊥
no_room_for_five room =
    let fits : 8 ≤ 7 = room 7 (omega arith) (omega arith) in
    omega arith
