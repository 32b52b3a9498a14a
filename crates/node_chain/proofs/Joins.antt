-- A place is put among the places of a chain.
use Rattle.std.proofs.Common.{◌≡◌, ℕ, ◌+◌, ◌≤◌, ◌<◌, List, [], ◌∷◌, ◌++◌, length, slice_set, sym, ap, subst, inl, inr, ◌∙◌, arith}
use Rattle.std.proofs.lemmas.List.{length-set}
use Rattle.slot_core.specs.declared.jobs.Span.{Span}
use Rattle.node_chain.specs.declared.block.Node.{Node}
use Rattle.node_chain.specs.Nodes.{node_at}
use Rattle.node_chain.specs.Links.{next_of, prev_of, span_of, with_next, with_prev, joined, run, times, AreLinked, Stands}
use Rattle.node_chain.proofs.Counts.{same_or_not, times-head, times-here, times-append, times-cases, times-not, not_in}
use Rattle.node_chain.proofs.Writes.{put-here, put-there, next-here, next-there, next-prev, next-span, prev-here, prev-there, prev-next, prev-span}
use Rattle.node_chain.proofs.Rings.{last-in, run-kept}

-- x comes between b and q with a span, and nothing else changes
pub record Joins (old new : List Node) (x q b : ℕ) (s : Span) : Type 0 where
  pub to_next : next_of new x ≡ q
  pub to_prev : prev_of new x ≡ b
  pub from_prev : next_of new b ≡ x
  pub from_next : prev_of new q ≡ x
  pub nexts : (r : ℕ) → (r ≡ x → ⊥) → (r ≡ b → ⊥) → next_of new r ≡ next_of old r
  pub prevs : (r : ℕ) → (r ≡ x → ⊥) → (r ≡ q → ⊥) → prev_of new r ≡ prev_of old r
  pub span : span_of new x ≡ s
  pub spans : (r : ℕ) → (r ≡ x → ⊥) → span_of new r ≡ span_of old r
  pub size : length new ≡ length old

-- the nodes after a join
pub joined-Joins : (nodes : List Node) (x q b : ℕ) (s : Span) → b ≡ prev_of nodes q → x < length nodes → q < length nodes → b < length nodes
    → (x ≡ q → ⊥) → (x ≡ b → ⊥) → Joins nodes (joined x q s nodes) x q b s
joined-Joins nodes x q b s is_b x_in q_in b_in x_q x_b =
    let n : Node = record { next = q; prev = b; span = s } in
    let put = slice_set nodes x n in let mid = with_next b x put in let new = with_prev q x mid in
    let long : length put ≡ length nodes = length-set nodes x n in
    let longer : length mid ≡ length nodes = length-set put b (record (node_at put b) { next = x }) ∙ long in
    let b_at : b < length put = subst (λ k. b < k) (sym long) b_in in
    let q_at : q < length mid = subst (λ k. q < k) (sym longer) q_in in
    let all : Joins nodes new x q b s = record {
      to_next = prev-next mid q q_at x x ∙ next-there put b b_at x x x_b ∙ ap (λ (k : Node). k.next) (put-here nodes x x_in n);
      to_prev = prev-there mid q q_at x x x_q ∙ next-prev put b b_at x x ∙ ap (λ (k : Node). k.prev) (put-here nodes x x_in n);
      from_prev = prev-next mid q q_at x b ∙ next-here put b b_at x;
      from_next = prev-here mid q q_at x;
      nexts = λ r r_x r_b. prev-next mid q q_at x r ∙ next-there put b b_at x r r_b ∙ ap (λ (k : Node). k.next) (put-there nodes x x_in n r r_x);
      prevs = λ r r_x r_q. prev-there mid q q_at x r r_q ∙ next-prev put b b_at x r ∙ ap (λ (k : Node). k.prev) (put-there nodes x x_in n r r_x);
      span = prev-span mid q q_at x x ∙ next-span put b b_at x x ∙ ap (λ (k : Node). k.span) (put-here nodes x x_in n);
      spans = λ r r_x. prev-span mid q q_at x r ∙ next-span put b b_at x r ∙ ap (λ (k : Node). k.span) (put-there nodes x x_in n r r_x);
      size = length-set mid q (record (node_at mid q) { prev = x }) ∙ longer;
    } in
    subst (λ k. Joins nodes (with_prev q x (with_next k x (slice_set nodes x (record { next = q; prev = k; span = s })))) x q b s) is_b all

module _ (old new : List Node) (x q b : ℕ) (s : Span) (j : Joins old new x q b s) (is_b : b ≡ prev_of old q) where
  -- x is linked behind the places up to q
  pub Joins-front : (p : ℕ) (front : List ℕ) → AreLinked old p front q → ((r : ℕ) → times r (p ∷ front) ≤ 1) → times x (p ∷ front) ≡ 0 → times q front ≡ 0
      → AreLinked new p (front ++ x ∷ []) q
  Joins-front p [] l once no_x no_q =
      let here : b ≡ p = is_b ∙ l.1 in
      (ap (next_of new) (sym here) ∙ j.from_prev, j.to_prev ∙ here, (j.to_next, j.from_next))
  Joins-front p (c ∷ cs) l once no_x no_q =
      let b_there : 1 ≤ times b (c ∷ cs) = subst (λ k. 1 ≤ times k (c ∷ cs)) (sym is_b) (last-in old c cs q l.2) in
      let p_b : p ≡ b → ⊥ = λ same.
      let again : 1 ≤ times p (c ∷ cs) = subst (λ k. 1 ≤ times k (c ∷ cs)) (sym same) b_there in
      let head = times-head p (c ∷ cs) in omega (arith, once p, head, again) in
      let p_x : p ≡ x → ⊥ = not_in x p (p ∷ c ∷ cs) no_x (times-here p (c ∷ cs)) in
      let no_x' : times x (c ∷ cs) ≡ 0 = omega (arith, no_x) in
      let c_x : c ≡ x → ⊥ = not_in x c (c ∷ cs) no_x' (times-here c cs) in
      let c_q : c ≡ q → ⊥ = not_in q c (c ∷ cs) no_q (times-here c cs) in
      let no_q' : times q cs ≡ 0 = omega (arith, no_q) in
      (j.nexts p p_x p_b ∙ l.0, j.prevs c c_x c_q ∙ l.1, Joins-front c cs l.2 (λ r. omega (arith, once r)) no_x' no_q')

-- x is the first unused place of a chain, and stands nowhere else; nor does any other place twice
pub record Room (nodes : List Node) (x : ℕ) (front : List ℕ) (tail : List ℕ) (fs : List ℕ) : Type 0 where
  pub once : (r : ℕ) → times r front + times r tail + times r (x ∷ fs) ≤ 1
  pub no_end : times 0 front + times 0 tail + times 0 (x ∷ fs) ≡ 0
  pub inside : (r : ℕ) → length nodes ≤ r → times r front + times r tail + times r (x ∷ fs) ≡ 0

module _ (nodes : List Node) (x : ℕ) (front tail fs : List ℕ) where
  pub Room-of : Stands nodes x (front ++ tail) (x ∷ fs) → Room nodes x front tail fs
  Room-of st =
      let sum : (r : ℕ) → times r ((front ++ tail) ++ x ∷ fs) ≡ times r front + times r tail + times r (x ∷ fs) = λ r.
      omega (arith, times-append r (front ++ tail) (x ∷ fs), times-append r front tail) in
      record {
        once = λ r. omega (arith, st.once r, sum r);
        no_end = omega (arith, st.no_end, sum 0);
        inside = λ r le. omega (arith, st.inside r le, sum r);
      }

  module _ (m : Room nodes x front tail fs) where
    -- an unused place is not the end
    pub unused_no_end : x ≡ 0 → ⊥
    unused_no_end same =
        let there : 1 ≤ times 0 (x ∷ fs) = subst (λ k. 1 ≤ times k (x ∷ fs)) same (times-here x fs) in
        omega (arith, m.no_end, there)

    -- an unused place is in no list
    pub unused_once : (times x front ≡ 0) × (times x tail ≡ 0) × (times x fs ≡ 0)
    unused_once =
        let head = times-head x fs in let one = m.once x in
        (omega (arith, head, one), omega (arith, head, one), omega (arith, head, one))

    -- a place of the front or the end is none of those after it
    pub front_apart : (b r : ℕ) → 1 ≤ times b (0 ∷ front) → 1 ≤ times r tail + times r fs → r ≡ b → ⊥
    front_apart b r b_in r_in same = elim (times-cases b 0 front b_in) [
      | inl at_end ↦
          let here : 1 ≤ times 0 tail + times 0 fs = subst (λ k. 1 ≤ times k tail + times k fs) (same ∙ at_end) r_in in
          omega (arith, m.no_end, here)
      | inr among ↦
          let here : 1 ≤ times b tail + times b fs = subst (λ k. 1 ≤ times k tail + times k fs) same r_in in
          omega (arith, m.once b, here, among)
    ]

    -- the end and the front have each place once
    pub front_once : (r : ℕ) → times r (0 ∷ front) ≤ 1
    front_once r = elim (same_or_not r 0) [
      | inl same ↦
          let none : times 0 front ≡ 0 = omega (arith, m.no_end) in let head = times-head 0 front in
          subst (λ k. times k (0 ∷ front) ≤ 1) (sym same) (omega (arith, none, head))
      | inr off ↦ let less = times-not r 0 front off in omega (arith, m.once r, less)
    ]

    -- an unused place is neither the end nor in the front
    pub front_no_unused : times x (0 ∷ front) ≡ 0
    front_no_unused = times-not x 0 front unused_no_end ∙ unused_once.0

-- the unused places after x stay, and so do the counts of all places
module _ (old : List Node) (x q b : ℕ) (s : Span) (front tail fs : List ℕ) (new : List Node) (j : Joins old new x q b s)
    (st : Stands old x (front ++ tail) (x ∷ fs)) (b_in : 1 ≤ times b (0 ∷ front)) where
  abbrev room : Room old x front tail fs
  room = Room-of old x front tail fs st

  behind : run new (next_of old x) (length fs) ≡ fs
  behind =
      let was : run old (next_of old x) (length fs) ≡ fs = tail_same x (run old (next_of old x) (length fs)) fs st.behind in
      let kept = run-kept old new (next_of old x) (length fs) (λ r i.
      let r_in : 1 ≤ times r fs = subst (λ l. 1 ≤ times r l) was i in
      j.nexts r (not_in x r fs (unused_once old x front tail fs room).2 r_in) (front_apart old x front tail fs room b r b_in (omega (arith, r_in)))) in
      kept ∙ was
    where
      tail_same : (y : ℕ) (ys zs : List ℕ) → y ∷ ys ≡ y ∷ zs → ys ≡ zs
      tail_same y ys zs e = cc

  -- the chain with x before the tail, once its links are there
  pub Joins-Stands : AreLinked new 0 (front ++ x ∷ tail) 0 → Stands new (next_of old x) (front ++ x ∷ tail) fs
  Joins-Stands l =
      let sum : (r : ℕ) → times r ((front ++ x ∷ tail) ++ fs) ≡ times r front + times r tail + times r (x ∷ fs) = λ r.
      omega (arith, times-append r (front ++ x ∷ tail) fs, times-append r front (x ∷ tail)) in
      record {
        linked = l;
        behind = behind;
        once = λ r. omega (arith, room.once r, sum r);
        no_end = omega (arith, room.no_end, sum 0);
        inside = λ r le. let le' : length old ≤ r = subst (λ k. k ≤ r) j.size le in omega (arith, room.inside r le', sum r);
      }
