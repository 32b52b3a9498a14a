-- The laws of a taker that writes lines: what it has written composes.
use Rattle.std.specs.Prelude.{◌≡◌, ℕ, List, [], ◌∷◌, ◌++◌, take, Option, ⊤}
use Rattle.std.proofs.Common.{ap, sym, subst, append_assoc, ◌∙◌}
use Rattle.std.proofs.KnownBytes.{Appends-trans}
use Rattle.std.proofs.lemmas.Grind.{flat_map-append}
use Rattle.std.specs.Io.KnownBytes.{Appends}
use Rattle.slot_core.specs.declared.events.Entry.{Entry}
use Rattle.slot_core.specs.declared.tasks.TaskSet.{TaskSet}
use Rattle.slot_core.specs.Output.Texts.{entry_line, trace_text}
use Rattle.trace_text.specs.Takers.{AppendsBroken}

-- no entries
abbrev AreNone : List Entry → Type 0
AreNone [] = ⊤
AreNone (e ∷ es) = ⊥

-- a list with a last entry is not empty
last-there : (front : List Entry) (last : Entry) → [] ≡ front ++ last ∷ [] → ⊥
last-there [] last is = subst AreNone is tt
last-there (e ∷ front) last is = subst AreNone is tt

-- where entries broke off, there is a last one
pub broken-some :
    (before after : Option (List ℕ)) (set : TaskSet) → AppendsBroken before after set [] → ⊥
broken-some before after set broken = last-there broken.front broken.last broken.all

-- the lines of entries and then of others are those of all
pub text-more :
    (a b c : Option (List ℕ)) (set : TaskSet) (es fs : List Entry)
    → Appends a b (trace_text set es) → Appends b c (trace_text set fs)
    → Appends a c (trace_text set (es ++ fs))
text-more a b c set es fs first then_ =
    subst
    (Appends a c)
    (sym (flat_map-append (entry_line set) es fs))
    (Appends-trans a b c (trace_text set es) (trace_text set fs) first then_)

-- where the later ones break off, the whole does
pub broken-later :
    (a b c : Option (List ℕ)) (set : TaskSet) (es fs : List Entry)
    → Appends a b (trace_text set es) → AppendsBroken b c set fs
    → AppendsBroken a c set (es ++ fs)
broken-later a b c set es fs first broken =
    let line = take broken.part (entry_line set broken.last) in
    record {
      front = es ++ broken.front;
      last = broken.last;
      all =
          ap (λ (xs : List Entry). es ++ xs) broken.all
          ∙ sym (append_assoc es broken.front (broken.last ∷ []));
      part = broken.part;
      written =
          subst
          (Appends a c)
          (sym (append_assoc (trace_text set es) (trace_text set broken.front) line)
          ∙ ap (λ xs. xs ++ line) (sym (flat_map-append (entry_line set) es broken.front)))
          (Appends-trans
          a
          b
          c
          (trace_text set es)
          (trace_text set broken.front ++ line)
          first
          broken.written);
    }
