use Rattle.std.proofs.Common.{◌≡◌, ◌≤◌, ◌∙◌, refl, sym, subst}
use Rattle.std.specs.Str.Parse.{digits_value}
use Rattle.command_line.proofs.NumberLemmas.{parse_number, some_number}
use Rattle.command_line.proofs.commands.value_of.Goals as goal

pub unwrap-requires : goal.unwrap-requires
unwrap-requires c =
    let read = parse_number c.args.word.now c.parse.result c.requires c.parse.ensures.value.0 in
    rw read refl

pub returns-clause-some : goal.returns-clause-some
returns-clause-some c =
    let read = parse_number c.args.word.now c.parse.result c.requires c.parse.ensures.value.0 in
    let same : digits_value 10 c.args.word.now ≡ c.unwrap.result = cc (sym read ∙ c.unwrap.ensures) in
    subst (λ n. 1 ≤ n) same (some_number c.args.word.now c.requires)
