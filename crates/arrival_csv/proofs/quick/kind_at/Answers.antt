use Rattle.std.proofs.Common.{◌+◌, rules, refl}
use Rattle.arrival_csv.specs.declared.kinds.Kind.TheVariants.{Sporadic, Withdraw}
use Rattle.arrival_csv.proofs.QuickLemmas.{IsKindAt-from_bytes}
use Rattle.arrival_csv.proofs.quick.kind_at.Goals as goal

pub returns-in-115-2 : goal.returns-in-115-2
returns-in-115-2 c =
    IsKindAt-from_bytes c.args.text.now c.args.start Sporadic (c.args.start + 9) c.requires refl c.in-115-2.len_at_least (search rules)

pub returns-in-119 : goal.returns-in-119
returns-in-119 c =
    IsKindAt-from_bytes c.args.text.now c.args.start Withdraw (c.args.start + 9) c.requires refl c.in-119.len_at_least (search rules)
