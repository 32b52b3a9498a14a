use Rattle.std.proofs.Common.{◌∷◌, [], sym, refl}
use Rattle.arrival_csv.proofs.quick.quick_sporadic.Goals as goal

pub returns : goal.returns
returns c =
    let written = rw c.items.ensures at (sym c.in_ok-index.ensures.found) in
    (c.in_ok-name.name.now ∷ [], c.in_ok-name.ensures, λ row. rw written refl)
