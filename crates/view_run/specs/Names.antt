-- The names of the files of a view.
use Rattle.std.specs.Prelude.{ℕ, List, [], ◌∷◌, codes}
use Rattle.command_line.specs.Refusals.{word_at}
use Rattle.view_run.specs.declared.views.Source.TheVariants.{Tasks, Table}
use Rattle.view_run.specs.declared.views.View.{View}
use Rattle.view_run.specs.declared.views.View.TheVariants.{Lines, Planned, Stairs}

-- the name of the file of the plan, or nothing where the view has none
abbrev pub plan_name : List (List ℕ) → View → List ℕ
plan_name words (Planned view Tasks) = word_at words 1
plan_name words (Planned view Table) = word_at words 2
plan_name words (Lines view slots) = []
plan_name words Stairs = []

-- words that name the file of the plan in the second place, and standard input in the fourth
abbrev pub names_of : List (List ℕ) → View → List (List ℕ)
names_of words view =
    codes "slotview" ∷ plan_name words view ∷ [] ∷ codes "standard input" ∷ []
