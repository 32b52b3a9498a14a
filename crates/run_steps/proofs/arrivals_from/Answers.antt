use Rattle.std.proofs.Common.{◌≡◌, Vec, Global, Ok, refl}
use Rattle.slot_core.specs.declared.events.Arrival.{Arrival}
use Rattle.load_gen.specs.LoadArrivals.{load_arrivals}
use Rattle.command_line.specs.declared.file.File.TheVariants.{Arrivals as ArrivalsFile}
use Rattle.command_line.specs.Refusals.{same_file}
use Rattle.command_line.specs.declared.TheConstants.{LOAD_SLOTS}
use Rattle.command_line.specs.declared.commands.Arrivals.TheVariants.{Recorded, Generated}
use Rattle.command_line.specs.Commands.{is_recorded_in}
use Rattle.run_steps.specs.Readings.{arrivals_from, recorded_arrivals}
use Rattle.command_line.proofs.CommandLemmas.{file-recorded}
use Rattle.run_steps.proofs.StepLemmas.{reading-as, reading-over}
use Rattle.run_steps.proofs.arrivals_from.Goals as goal

pub returns-in-Recorded-clause-reading : goal.returns-in-Recorded-clause-reading
returns-in-Recorded-clause-reading g c =
    let words = c.args.words.now in
    let set = c.args.tasks.now in
    let slots = c.in-Recorded.slots in
    let is : c.args.arrivals ≡ Recorded slots = c.in-Recorded.is in
    let read = rw c.from.ensures at c.recorded.ensures.reading in
    rw is (reading-as _ _ _ _ _ _ (same_file ArrivalsFile) (is_recorded_in (Recorded slots)) (λ held. recorded_arrivals held words slots set) (λ held. arrivals_from held words (Recorded slots) set) _ (λ (arrivals : Vec Arrival Global). arrivals.items) (file-recorded slots) (λ files. refl) read)

pub returns-in-Generated-clause-reading : goal.returns-in-Generated-clause-reading
returns-in-Generated-clause-reading g c =
    let words = c.args.words.now in
    let set = c.args.tasks.now in
    let n = c.in-Generated.n in
    let is : c.args.arrivals ≡ Generated n = c.in-Generated.is in
    rw is (reading-over _ _ _ _ _ _ (is_recorded_in (Generated n)) (λ held. arrivals_from held words (Generated n) set) (Ok (load_arrivals n LOAD_SLOTS)) _ (λ (arrivals : Vec Arrival Global). arrivals.items) (λ files told. refl) refl refl tt c.generated_arrivals.ensures.due)

pub returns-in-Generated-clause-fitting : goal.returns-in-Generated-clause-fitting
returns-in-Generated-clause-fitting g c =
    let n = c.in-Generated.n in
    let is : c.args.arrivals ≡ Generated n = c.in-Generated.is in
    rw (is, c.requires.load n is) c.generated_arrivals.ensures.fitting
