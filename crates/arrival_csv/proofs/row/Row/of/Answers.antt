use Rattle.std.proofs.Common.{drop}
use Rattle.csv.specs.Records.{fields_of}
use Rattle.arrival_csv.proofs.FieldLemmas.{drop-found, drop-none}
use Rattle.arrival_csv.proofs.row.Row.of.Goals as goal

pub returns-in_default : goal.returns-in_default
returns-in_default c = drop-none (fields_of c.args.row.now) 0 c.get.result c.get.ensures.value c.in_default.is

pub returns-in_default-get : goal.returns-in_default-get
returns-in_default-get c =
    let fields = fields_of c.args.row.now in
    let first = drop-found fields 0 c.get.result c.in-Some.first c.get.ensures.value c.in-Some.is in
    let none = drop-none fields 1 c.get-2.result c.get-2.ensures.value c.in_default-get.is in
    rw none at first

pub returns-in_default-get-2 : goal.returns-in_default-get-2
returns-in_default-get-2 c =
    let fields = fields_of c.args.row.now in
    let first = drop-found fields 0 c.get.result c.in-Some.first c.get.ensures.value c.in-Some.is in
    let second = drop-found fields 1 c.get-2.result c.in-Some-get.second c.get-2.ensures.value c.in-Some-get.is in
    let none = drop-none fields 2 c.get-3.result c.get-3.ensures.value c.in_default-get-2.is in
    rw (second, none) at first

pub returns-in_default-get-3 : goal.returns-in_default-get-3
returns-in_default-get-3 c =
    let fields = fields_of c.args.row.now in
    let first = drop-found fields 0 c.get.result c.in-Some.first c.get.ensures.value c.in-Some.is in
    let second = drop-found fields 1 c.get-2.result c.in-Some-get.second c.get-2.ensures.value c.in-Some-get.is in
    let third = drop-found fields 2 c.get-3.result c.in-Some-get-2.third c.get-3.ensures.value c.in-Some-get-2.is in
    let none = drop-none fields 3 c.get-4.result c.get-4.ensures.value c.in_default-get-3.is in
    rw (second, third, none) at first

pub returns-in-None : goal.returns-in-None
returns-in-None c =
    let fields = fields_of c.args.row.now in
    let first = drop-found fields 0 c.get.result c.in-Some.first c.get.ensures.value c.in-Some.is in
    let second = drop-found fields 1 c.get-2.result c.in-Some-get.second c.get-2.ensures.value c.in-Some-get.is in
    let third = drop-found fields 2 c.get-3.result c.in-Some-get-2.third c.get-3.ensures.value c.in-Some-get-2.is in
    let fourth = drop-found fields 3 c.get-4.result c.in-Some-get-3.fourth c.get-4.ensures.value c.in-Some-get-3.is in
    let none = drop-none fields 4 c.get-5.result c.get-5.ensures.value c.in-None.is in
    rw (second, third, fourth, none) at first

pub returns-in-Some-get-4 : goal.returns-in-Some-get-4
returns-in-Some-get-4 c =
    let fields = fields_of c.args.row.now in
    let first = drop-found fields 0 c.get.result c.in-Some.first c.get.ensures.value c.in-Some.is in
    let second = drop-found fields 1 c.get-2.result c.in-Some-get.second c.get-2.ensures.value c.in-Some-get.is in
    let third = drop-found fields 2 c.get-3.result c.in-Some-get-2.third c.get-3.ensures.value c.in-Some-get-2.is in
    let fourth = drop-found fields 3 c.get-4.result c.in-Some-get-3.fourth c.get-4.ensures.value c.in-Some-get-3.is in
    let fifth = drop-found fields 4 c.get-5.result c.in-Some-get-4.field-0 c.get-5.ensures.value c.in-Some-get-4.is in
    (c.in-Some-get-2.third.now, c.in-Some-get-3.fourth.now, c.in-Some-get-4.field-0.now, drop 5 fields, rw (second, third, fourth, fifth) at first)
