-- The pieces make the header.
use Rattle.std.proofs.Common.{◌≡◌, ◌++◌, ℕ, List, length, sym, ap, subst, ◌∙◌}
use Rattle.slot_core.specs.declared.tasks.TaskSet.{TaskSet}
use Rattle.table_codec.specs.Grammar.{spelling}
use Rattle.plan_answers.specs.Headers.{array_bytes, array_text, end_text, head_text, middle_text, plan_lines, set_lines}
use Rattle.plan_answers.proofs.header.header_text.Goals as goal

pub returns-clause-text : goal.returns-clause-text
returns-clause-text c =
    let plan = c.args.plan.now in
    let table : c.deref.result.now ≡ spelling plan = c.deref.ensures.value ∙ c.in_ok-table.ensures in
    let head : c.push.new.line.items ≡ head_text = c.in_ok-push.ensures ∙ ap (λ (l : List ℕ). l ++ head_text) c.new-text.ensures.items in
    let whole : c.push_plan.new.text.items ≡ head_text ++ plan_lines plan = c.in_ok-push_plan.ensures ∙ ap (λ (l : List ℕ). l ++ plan_lines plan) head in
    let set : c.push_set.new.text.items ≡ head_text ++ plan_lines plan ++ set_lines plan.tasks = c.in_ok-push_set.ensures ∙ ap (λ (tasks : TaskSet). c.push_plan.new.text.items ++ set_lines tasks) c.tasks.ensures.tasks ∙ ap (λ (l : List ℕ). l ++ set_lines plan.tasks) whole in
    let middle : c.push-2.new.line.items ≡ head_text ++ plan_lines plan ++ set_lines plan.tasks ++ middle_text = c.in_ok-push-2.ensures ∙ ap (λ (l : List ℕ). l ++ middle_text) set in
    let items : c.push_array.new.text.items ≡ head_text ++ plan_lines plan ++ set_lines plan.tasks ++ middle_text ++ array_text (spelling plan) = c.in_ok-push_array.ensures.text ∙ ap (λ (bytes : List ℕ). c.push-2.new.line.items ++ array_text bytes) table ∙ ap (λ (l : List ℕ). l ++ array_text (spelling plan)) middle in
    c.in_ok-push-3.ensures ∙ ap (λ (l : List ℕ). l ++ end_text) items

pub returns-clause-array : goal.returns-clause-array
returns-clause-array c =
    let table : c.deref.result.now ≡ spelling c.args.plan.now = c.deref.ensures.value ∙ c.in_ok-table.ensures in
    subst (λ (bytes : List ℕ). array_bytes (array_text bytes) ≡ bytes) table c.in_ok-push_array.ensures.read
