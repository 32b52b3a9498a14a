-- The items are read back as the bytes.
use Rattle.std.proofs.Common.{◌<◌, arith}
use Rattle.std.proofs.lemmas.List.{get_or_default}
use Rattle.std.proofs.lemmas.List.Elements.{recursion_from_All}
use Rattle.plan_answers.proofs.Arrays.{array-read}
use Rattle.plan_answers.proofs.array.push_array.Goals as goal

pub returns-clause-read : goal.returns-clause-read
returns-clause-read c =
    let bytes = c.args.bytes.now in
    array-read bytes (recursion_from_All (λ byte. byte < 256) bytes (λ i d low. omega (arith, c.type_inv.bytes i, get_or_default bytes i d 0 low)))
