use Rattle.std.proofs.Common.{◌∷◌, [], sym, refl}
use Rattle.arrival_csv.proofs.quick.quick_done.Goals as goal

pub returns : goal.returns
returns c =
    let written = sym c.in_ok-key_of.ensures.reading in
    (c.in_ok-key.key.now ∷ [], c.in_ok-key.ensures, λ row. rw written refl)
