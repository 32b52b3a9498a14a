-- What the lines so far do.
use Rattle.std.proofs.Common.{◌≡◌, take}
use Rattle.std.specs.List.{filter_map}
use Rattle.view_jobs.specs.Deeds.{deed_of}
use Rattle.view_jobs.proofs.deeds.deeds_of.Given as goal

abbrev pub invariant-loop-line : goal.invariant-loop-line
invariant-loop-line l = l.deeds.items ≡ filter_map (deed_of l.tasks) (take l.line-index l.lines)
