-- Bytes that stand in no text of a key.
use Rattle.std.proofs.Common.{◌≡◌, ℕ, true, false, List, ◌++◌, Some, refl, sym, ap, ◌∙◌}
use Rattle.std.specs.Prelude.{codes, decimal, length, nat_lt, slice_get}
use Rattle.std.specs.Char.{is_ascii_digit}
use Rattle.std.proofs.lemmas.Bool.{and_parts, ltb-true, leb-true}
use Rattle.slot_core.specs.declared.jobs.Key.{Key}
use Rattle.slot_core.specs.declared.jobs.Key.TheVariants.{Offline, Sporadic as SporadicKey, Firm as FirmKey, Soft as SoftKey}
use Rattle.slot_core.specs.declared.tasks.Task.{Task}
use Rattle.slot_core.specs.declared.tasks.TaskSet.{TaskSet}
use Rattle.slot_core.specs.declared.TheConstants.{NUMBER_LIMIT}
use Rattle.slot_core.specs.Runs.Arrivals.{key_in_set, key_in_range}
use Rattle.slot_core.specs.Sets.Names.{is_name_byte}
use Rattle.slot_core.specs.Offline.OfflineJobs.{tasks_of}
use Rattle.slot_core.specs.Sets.Ranges.{is_sound}
use Rattle.slot_core.specs.Output.Texts.{key_text, graph_name, task_name, sporadic_name}
use Rattle.slot_facts.proofs.Sets.Tasks.{tasks_at, slice_get-within}
use Rattle.key_texts.proofs.CutLemmas.{Lacks}
use Rattle.key_texts.proofs.KeyLemmas.{graph_name-at, task_name-at, sporadic_name-at, name_lacks, digits_lack, row_lacks, Lacks-append}
use Rattle.key_texts.proofs.NameLemmas.{graph_is_named, task_is_named, sporadic_is_named}

-- the byte stands in no name, no number and no word or separator of a key
pub record IsNoKeyByte (byte : ℕ) : Type 0 where
  pub names : is_name_byte byte ≡ false
  pub digits : is_ascii_digit byte ≡ false
  pub point : Lacks byte (codes ".")
  pub hash : Lacks byte (codes "#")
  pub at_sign : Lacks byte (codes "@")
  pub firm : Lacks byte (codes "firm:")
  pub soft : Lacks byte (codes "soft:")

-- a space is such a byte
pub space_is_no_key_byte : IsNoKeyByte 32
space_is_no_key_byte = record { names = refl; digits = refl; point = refl; hash = refl; at_sign = refl; firm = refl; soft = refl }

-- the name of a graph of a sound set lacks it
graph_name-lacks : (byte : ℕ) (set : TaskSet) (g : ℕ) → is_name_byte byte ≡ false → is_sound set ≡ true → nat_lt g (length set.graphs) ≡ true → Lacks byte (graph_name set g)
graph_name-lacks byte set g other sound within =
    let (graph, at) = slice_get-within set.graphs g (ltb-true g (length set.graphs) within) in
    rw (graph_name-at set g graph at) (name_lacks byte graph.name (graph_is_named set g graph sound at) other)

-- so does that of a task
task_name-lacks : (byte : ℕ) (set : TaskSet) (g t : ℕ) → is_name_byte byte ≡ false → is_sound set ≡ true → nat_lt g (length set.graphs) ≡ true → nat_lt t (length (tasks_of set g)) ≡ true → Lacks byte (task_name set g t)
task_name-lacks byte set g t other sound within inside =
    let (graph, at) = slice_get-within set.graphs g (ltb-true g (length set.graphs) within) in
    let (task, place) = slice_get-within (tasks_of set g) t (ltb-true t (length (tasks_of set g)) inside) in
    let there : slice_get graph.tasks t ≡ Some task = ap (λ (ts : List Task). slice_get ts t) (sym (tasks_at set g graph at)) ∙ place in
    rw (task_name-at set g t task place) (name_lacks byte task.name (task_is_named set g t graph task sound at there) other)

-- and that of a sporadic task
sporadic_name-lacks : (byte : ℕ) (set : TaskSet) (i : ℕ) → is_name_byte byte ≡ false → is_sound set ≡ true → nat_lt i (length set.sporadics) ≡ true → Lacks byte (sporadic_name set i)
sporadic_name-lacks byte set i other sound within =
    let (s, at) = slice_get-within set.sporadics i (ltb-true i (length set.sporadics) within) in
    rw (sporadic_name-at set i s at) (name_lacks byte s.name (sporadic_is_named set i s sound at) other)

-- the text of a key that lies in a sound set lacks each such byte
pub key_text-lacks : (byte : ℕ) (set : TaskSet) (key : Key) → IsNoKeyByte byte → is_sound set ≡ true → key_in_set set key ≡ true → key_in_range key ≡ true → Lacks byte (key_text set key)
key_text-lacks byte set (Offline g t instance) strange sound in_set in_range =
    let (within, inside) = and_parts (nat_lt g (length set.graphs)) (nat_lt t (length (tasks_of set g))) in_set in
    let graph = Lacks-append byte (graph_name set g) (codes ".") (graph_name-lacks byte set g strange.names sound within) strange.point in
    let names = Lacks-append byte (graph_name set g ++ codes ".") (task_name set g t) graph (task_name-lacks byte set g t strange.names sound within inside) in
    let marked = Lacks-append byte (graph_name set g ++ codes "." ++ task_name set g t) (codes "#") names strange.hash in
    Lacks-append byte (graph_name set g ++ codes "." ++ task_name set g t ++ codes "#") (decimal instance) marked (digits_lack byte instance (leb-true instance NUMBER_LIMIT in_range) strange.digits)
key_text-lacks byte set (SporadicKey i row) strange sound in_set in_range =
    let name = Lacks-append byte (sporadic_name set i) (codes "@") (sporadic_name-lacks byte set i strange.names sound in_set) strange.at_sign in
    Lacks-append byte (sporadic_name set i ++ codes "@") (decimal row) name (row_lacks byte row in_range strange.digits)
key_text-lacks byte set (FirmKey row) strange sound in_set in_range =
    Lacks-append byte (codes "firm:") (decimal row) strange.firm (row_lacks byte row in_range strange.digits)
key_text-lacks byte set (SoftKey row) strange sound in_set in_range =
    Lacks-append byte (codes "soft:") (decimal row) strange.soft (row_lacks byte row in_range strange.digits)
