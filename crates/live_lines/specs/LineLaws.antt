-- The law of the lines of a reader: what it gave composes.
use Rattle.std.specs.Prelude.{ℕ, List, [], ◌∷◌, ◌++◌, Option}
use Rattle.std.proofs.Common.{subst}
use Rattle.live_lines.specs.Lines.{Heard, Gives}

-- where some were given and then others, all were
pub gives-more :
    (a b c : Option (List ℕ)) (hs ks : List Heard)
    → Gives a b hs → Gives b c ks → Gives a c (hs ++ ks)
gives-more a b c [] ks first later = subst (λ from. Gives from c ks) first later
gives-more a b c (h ∷ hs) ks first later =
    (first.0, first.1, gives-more first.0 b c hs ks first.2 later)
