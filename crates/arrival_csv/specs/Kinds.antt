-- The kinds of rows of an arrivals file.
use Rattle.std.specs.Prelude.{ℕ, List, [], ◌∷◌, codes, find, Option}
use Rattle.std.specs.Str.{bytes_eq}
use Rattle.arrival_csv.specs.declared.kinds.Kind.{Kind}
use Rattle.arrival_csv.specs.declared.kinds.Kind.TheVariants.{Soft, Firm, Sporadic, Done, Withdraw}

-- the word that names the kind
abbrev pub kind_word : Kind → List ℕ
kind_word Soft = codes "soft"
kind_word Firm = codes "firm"
kind_word Sporadic = codes "sporadic"
kind_word Done = codes "done"
kind_word Withdraw = codes "withdraw"

-- the kind that the word names
abbrev pub kind_of : List ℕ → Option Kind
kind_of word =
    find
    (λ kind. bytes_eq (kind_word kind) word)
    (Soft ∷ Firm ∷ Sporadic ∷ Done ∷ Withdraw ∷ [])
