-- What is due to the words is the answer to their question.
use Rattle.std.proofs.Common.{sym, ◌∙◌}
use Rattle.slot_io.specs.Files.{Held}
use Rattle.plan_run.specs.Answers.{answer_due, answer_from}
use Rattle.plan_run.proofs.Refused.{cause-as, due-of_question}
use Rattle.plan_run.proofs.answer_words.Goals as goal

pub returns-in-Some-clause-refused : goal.returns-in-Some-clause-refused
returns-in-Some-clause-refused g c = λ undone faulty.
    let words = c.args.words.now in
    let asked = sym c.question_of.ensures ∙ c.in-Some.is in
    let (e, status, cause, told) = c.answer.ensures.refused undone in
    (e, status, cause-as words (λ (held : Held). answer_from held words c.in-Some.question) (λ (held : Held). answer_due held words) _ _ _ _ e (λ files. due-of_question files words c.in-Some.question asked) cause, told)
