-- The laws of a tally as a taker: counts of entries and then of others are the counts of all.
use Rattle.std.specs.Prelude.{◌≡◌, ℕ, ◌+◌, Bool, cond, List, ◌++◌, count_by}
use Rattle.std.proofs.Common.{ap, sym, ◌∙◌, arith}
use Rattle.std.proofs.lemmas.List.Sums.{sum_by-append}
use Rattle.slot_core.specs.declared.events.Entry.{Entry}
use Rattle.slot_core.specs.Output.Charts.{Kind, is_of_kind, number_of}
use Rattle.load_gen.specs.Tallies.{count_of, grown}
use Rattle.load_gen.specs.declared.tally.Tally.{Tally}

-- the number of entries in two lists
count_by-append :
    {X : Type 0} (p : X → Bool) (xs ys : List X)
    → count_by p (xs ++ ys) ≡ count_by p xs + count_by p ys
count_by-append p xs ys = sum_by-append (λ x. cond (p x) 1 0) xs ys

-- no more, and more in two steps
grown-none : (n : ℕ) → n ≡ grown n 0
grown-none n = omega arith

grown-more : (n j k : ℕ) → grown (grown n j) k ≡ grown n (j + k)
grown-more n j k = omega arith

pub counts-none : (a : Tally) (kind : Kind) → count_of a kind ≡ grown (count_of a kind) 0
counts-none a kind = grown-none (count_of a kind)

pub counts-more :
    (a b c : Tally) (es fs : List Entry)
    → ((kind : Kind) → count_of b kind ≡ grown (count_of a kind) (number_of es kind))
    → ((kind : Kind) → count_of c kind ≡ grown (count_of b kind) (number_of fs kind))
    → (kind : Kind) → count_of c kind ≡ grown (count_of a kind) (number_of (es ++ fs) kind)
counts-more a b c es fs first then_ kind =
    let all = count_by-append (λ (e : Entry). is_of_kind kind e.what) es fs in
    then_ kind
    ∙ ap (λ n. grown n (number_of fs kind)) (first kind)
    ∙ grown-more (count_of a kind) (number_of es kind) (number_of fs kind)
    ∙ ap (grown (count_of a kind)) (sym all)
