-- The jobs that a history pushed, and which job ran over the frame of another.
use Rattle.std.proofs.Common.{◌≡◌, suc, ◌≤◌, true, ◌||◌, List, [], ◌∷◌, ◌++◌, refl, sym, ap, ◌∙◌, subst, ◌⊎◌, inl, inr, arith}
use Rattle.std.specs.Prelude.{nat_lt}
use Rattle.std.proofs.lemmas.Bool.{cases_Bool, cond-true, cond-false, false_from_ne_true, ltb-false, or_parts}
use Rattle.slot_core.specs.declared.jobs.Key.{Key}
use Rattle.slot_core.specs.declared.events.What.{What}
use Rattle.slot_core.specs.declared.events.What.TheVariants.{Run}
use Rattle.slot_core.specs.Offline.Keys.{same_key, is_soft}
use Rattle.slot_core.specs.Runs.Histories.{History, Follows, executed}
use Rattle.slot_facts.proofs.Choice.Earliest.{same_from_key}
use Rattle.slot_facts.proofs.Lists.ApartKeys.{same_key-itself}
use Rattle.slot_facts.proofs.Lists.Members.{Has, Has-append_right}
use Rattle.slot_facts.proofs.Legal.Owned.{is_further}
use Rattle.service_laws.specs.Nesting.{pushed}
use Rattle.service_laws.proofs.Earlier.{follows-longer}

-- a run pushes its job where it has not run
pushed-run : (key : Key) (h : History) → (pushed (Run key ∷ h) ≡ pushed h) ⊎ ((pushed (Run key ∷ h) ≡ key ∷ pushed h) × (executed key h ≡ 0))
pushed-run key h =
    let held = is_soft key || nat_lt 0 (executed key h) in
    elim (cases_Bool held) [
      | inl old ↦ inl (cond-true held (pushed h) (key ∷ pushed h) old)
      | inr new ↦
          let none = ltb-false 0 (executed key h) (or_parts (is_soft key) (nat_lt 0 (executed key h)) new).1 in
          inr (cond-false held (pushed h) (key ∷ pushed h) new, omega (arith, none))
    ]

-- a job that was pushed has run
pushed-ran : (key : Key) (h : History) → Has (pushed h) key → 1 ≤ executed key h
pushed-ran key [] at = absurd at
pushed-ran key (Run k ∷ h) at =
    let more = (is_further (Run k) h).ran key in
    elim (pushed-run k h) [
      | inl old ↦ omega (arith, more, pushed-ran key h (subst (λ ks. Has ks key) old at))
      | inr new ↦ elim (subst (λ ks. Has ks key) new.0 at) [
        | inl own ↦ omega (arith, cond-true (same_key key k) (suc (executed key h)) (executed key h) (same_key-itself key k (sym own)))
        | inr other ↦ omega (arith, more, pushed-ran key h other)
      ]
    ]
pushed-ran key (what ∷ h) at = pushed-ran key h at

-- where the job of this key runs, those that were pushed after it are those before
not_pushed : (key : Key) (h : History) (above below : List Key) (other : Key) → key ∷ pushed h ≡ above ++ key ∷ below → executed key h ≡ 0 → Has above other → ⊥
not_pushed key h [] below other split none at = at
not_pushed key h (k ∷ above) below other split none at =
    let rest : pushed h ≡ above ++ key ∷ below = cc in
    let own = subst (λ ks. Has ks key) (sym rest) (Has-append_right above (key ∷ below) key (inl refl)) in
    absurd (omega (arith, none, pushed-ran key h own))

pub above-before : (key : Key) (h : History) (above below : List Key) (other : Key) → pushed (Run key ∷ h) ≡ above ++ key ∷ below → Has above other → pushed h ≡ above ++ key ∷ below
above-before key h above below other split at =
    elim (pushed-run key h) [
      | inl same ↦ sym same ∙ split
      | inr new ↦ absurd (not_pushed key h above below other (sym new.0 ∙ split) new.1 at)
    ]

-- the job of the first key ran where the other one had started
pub record RanOver (h : History) (key under : Key) : Type 0 where
  pub before : History
  pub runs : Follows h (Run key) before
  pub started : 1 ≤ executed under before

over-longer : (what : What) (h : History) (key under : Key) → RanOver h key under → RanOver (what ∷ h) key under
over-longer what h key under r =
    record { before = r.before; runs = follows-longer what h (Run key) r.before r.runs; started = r.started }

-- and that was its first run
abbrev pub BeganOver : History → Key → Key → Type 0
BeganOver h key under = (r : RanOver h key under) × (executed key r.before ≡ 0)

began-longer : (what : What) (h : History) (key under : Key) → BeganOver h key under → BeganOver (what ∷ h) key under
unfolding over-longer
began-longer what h key under (r, first) = (over-longer what h key under r, first)

-- a job that was pushed after another began over it
pushed-over : (k : Key) (h : History) (above below : List Key) (key under : Key) → k ∷ pushed h ≡ above ++ under ∷ below → executed k h ≡ 0 → Has above key → ((rest : List Key) → pushed h ≡ rest ++ under ∷ below → Has rest key → BeganOver h key under) → BeganOver (Run k ∷ h) key under
pushed-over k h [] below key under split none at earlier = absurd at
pushed-over k h (x ∷ above) below key under split none (inl own) earlier =
    let first : k ≡ x = cc in
    let rest : pushed h ≡ above ++ under ∷ below = cc in
    let own_key : k ≡ key = first ∙ own in
    let listed = subst (λ ks. Has ks under) (sym rest) (Has-append_right above (under ∷ below) under (inl refl)) in
    (record { before = h; runs = ([], ap (λ y. Run y ∷ h) own_key); started = pushed-ran under h listed }, ap (λ y. executed y h) (sym own_key) ∙ none)
pushed-over k h (x ∷ above) below key under split none (inr at) earlier =
    let rest : pushed h ≡ above ++ under ∷ below = cc in
    began-longer (Run k) h key under (earlier above rest at)

pub began-over : (h : History) (above below : List Key) (key under : Key) → pushed h ≡ above ++ under ∷ below → Has above key → BeganOver h key under
began-over [] [] below key under split at = absurd at
began-over [] (x ∷ above) below key under split at = absurd (cc split)
began-over (Run k ∷ h) above below key under split at =
    elim (pushed-run k h) [
      | inl same ↦ began-longer (Run k) h key under (began-over h above below key under (sym same ∙ split) at)
      | inr new ↦ pushed-over k h above below key under (sym new.0 ∙ split) new.1 at (λ rest tail listed. began-over h rest below key under tail listed)
    ]
began-over (what ∷ h) above below key under split at =
    began-longer what h key under (began-over h above below key under split at)

-- of two jobs that have started, one ran over the other
either-longer : (what : What) (h : History) (a b : Key) → RanOver h a b ⊎ RanOver h b a → RanOver (what ∷ h) a b ⊎ RanOver (what ∷ h) b a
either-longer what h a b (inl r) = inl (over-longer what h a b r)
either-longer what h a b (inr r) = inr (over-longer what h b a r)

ran-last : (k : Key) (h : History) (key under : Key) → same_key key k ≡ true → (key ≡ under → ⊥) → 1 ≤ executed under (Run k ∷ h) → RanOver (Run k ∷ h) key under
ran-last k h key under same apart started =
    let own = same_from_key key k same in
    let other = false_from_ne_true (same_key under k) (λ too. apart (own ∙ sym (same_from_key under k too))) in
    record {
      before = h;
      runs = ([], ap (λ y. Run y ∷ h) (sym own));
      started = omega (arith, started, cond-false (same_key under k) (suc (executed under h)) (executed under h) other);
    }

pub either-over : (a b : Key) (h : History) → (a ≡ b → ⊥) → 1 ≤ executed a h → 1 ≤ executed b h → RanOver h a b ⊎ RanOver h b a
either-over a b [] apart started_a started_b = absurd (omega (arith, started_a))
either-over a b (Run k ∷ h) apart started_a started_b =
    elim (cases_Bool (same_key a k)) [
      | inl same ↦ inl (ran-last k h a b same apart started_b)
      | inr other_a ↦ elim (cases_Bool (same_key b k)) [
        | inl same ↦ inr (ran-last k h b a same (λ e. apart (sym e)) started_a)
        | inr other_b ↦
            let kept_a = cond-false (same_key a k) (suc (executed a h)) (executed a h) other_a in
            let kept_b = cond-false (same_key b k) (suc (executed b h)) (executed b h) other_b in
            either-longer (Run k) h a b (either-over a b h apart (omega (arith, kept_a, started_a)) (omega (arith, kept_b, started_b)))
      ]
    ]
either-over a b (what ∷ h) apart started_a started_b =
    either-longer what h a b (either-over a b h apart started_a started_b)
