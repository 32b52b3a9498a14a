-- Why rows are refused, with what is known of their file.
use Rattle.std.proofs.Common.{◌≡◌, ℕ, List, Ok}
use Rattle.clock_units.specs.declared.sets.PhysicalSet.{PhysicalSet}
use Rattle.unit_toml.specs.Reading.{reading_of_units}
use Rattle.timed_arrivals.specs.declared.form.Form.{Form}
use Rattle.units_run.specs.declared.refusal.UnitsRefusal.{UnitsRefusal}
use Rattle.units_run.specs.declared.refusal.UnitsRefusal.TheVariants.{Unreadable, TooLarge, UnreadableRows, TooLargeRows, BadRows, BadUnits, NoSlots, BadTasks, ReadsOtherwise, WriteFault, Memory}
use Rattle.units_run.specs.Runs.{AreRows, FilesSeen, IsRowRefusal, IsTimedRefusal}

pub rows-refused : (form : Form) (name bytes : List ℕ) (files : FilesSeen) (physical : PhysicalSet) (rows : List ℕ) → reading_of_units bytes ≡ Ok physical → AreRows form files.held name rows → (e : UnitsRefusal) → IsRowRefusal form physical rows e → IsTimedRefusal form name bytes files e
rows-refused form name bytes files physical rows units read (BadRows told fault) h = (physical, units, (rows, read, h))
rows-refused form name bytes files physical rows units read Memory h = tt
rows-refused form name bytes files physical rows units read Unreadable h = absurd h
rows-refused form name bytes files physical rows units read TooLarge h = absurd h
rows-refused form name bytes files physical rows units read UnreadableRows h = absurd h
rows-refused form name bytes files physical rows units read (TooLargeRows told) h = absurd h
rows-refused form name bytes files physical rows units read (BadUnits fault) h = absurd h
rows-refused form name bytes files physical rows units read (NoSlots fault) h = absurd h
rows-refused form name bytes files physical rows units read (BadTasks fault) h = absurd h
rows-refused form name bytes files physical rows units read ReadsOtherwise h = absurd h
rows-refused form name bytes files physical rows units read WriteFault h = absurd h
