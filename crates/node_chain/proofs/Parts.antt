-- The first place of a chain is taken out.
use Rattle.std.proofs.Common.{◌≡◌, ℕ, ◌+◌, ◌≤◌, ◌<◌, List, [], ◌∷◌, ◌++◌, length, sym, ap, subst, inl, inr, ◌∙◌, arith}
use Rattle.std.proofs.lemmas.List.{length-set}
use Rattle.node_chain.specs.declared.block.Node.{Node}
use Rattle.node_chain.specs.Nodes.{node_at}
use Rattle.node_chain.specs.Links.{next_of, prev_of, span_of, with_next, with_prev, parted, run, times, AreLinked, Stands}
use Rattle.node_chain.specs.Chains.{pairs_of}
use Rattle.node_chain.proofs.Counts.{times-head, times-here, times-append, not_in, times-after}
use Rattle.node_chain.proofs.Writes.{next-here, next-there, next-prev, next-span, prev-here, prev-there, prev-next, prev-span}
use Rattle.node_chain.proofs.Rings.{linked-kept, run-kept, Stands-inside}
use Rattle.node_chain.proofs.Pairs.{pairs-kept}

-- g comes first in the place of f, which comes before u, and nothing else changes
pub record Parts (old new : List Node) (f g u : ℕ) : Type 0 where
  pub first : next_of new 0 ≡ g
  pub to_unused : next_of new f ≡ u
  pub from_first : prev_of new g ≡ 0
  pub nexts : (r : ℕ) → (r ≡ 0 → ⊥) → (r ≡ f → ⊥) → next_of new r ≡ next_of old r
  pub prevs : (r : ℕ) → (r ≡ g → ⊥) → prev_of new r ≡ prev_of old r
  pub spans : (r : ℕ) → span_of new r ≡ span_of old r
  pub size : length new ≡ length old

-- the nodes after a part
parted-Parts : (nodes : List Node) (f g u : ℕ) → (f ≡ 0 → ⊥) → 0 < length nodes → f < length nodes → g < length nodes
    → Parts nodes (with_next f u (with_prev g 0 (with_next 0 g nodes))) f g u
parted-Parts nodes f g u f_end zero_in f_in g_in =
    let one = with_next 0 g nodes in let two = with_prev g 0 one in
    let long : length one ≡ length nodes = length-set nodes 0 (record (node_at nodes 0) { next = g }) in
    let longer : length two ≡ length nodes = length-set one g (record (node_at one g) { prev = 0 }) ∙ long in
    let g_at : g < length one = subst (λ k. g < k) (sym long) g_in in
    let f_at : f < length two = subst (λ k. f < k) (sym longer) f_in in
    record {
      first = next-there two f f_at u 0 (λ e. f_end (sym e)) ∙ prev-next one g g_at 0 0 ∙ next-here nodes 0 zero_in g;
      to_unused = next-here two f f_at u;
      from_first = next-prev two f f_at u g ∙ prev-here one g g_at 0;
      nexts = λ r r_end r_f. next-there two f f_at u r r_f ∙ prev-next one g g_at 0 r ∙ next-there nodes 0 zero_in g r r_end;
      prevs = λ r r_g. next-prev two f f_at u r ∙ prev-there one g g_at 0 r r_g ∙ next-prev nodes 0 zero_in g r;
      spans = λ r. next-span two f f_at u r ∙ prev-span one g g_at 0 r ∙ next-span nodes 0 zero_in g r;
      size = length-set two f (record (node_at two f) { next = u }) ∙ longer;
    }

module _ (nodes : List Node) (f u : ℕ) (xs fs : List ℕ) (some : 2 ≤ length nodes) (st : Stands nodes u (f ∷ xs) fs) where
  sum : (r : ℕ) → times r (xs ++ f ∷ fs) ≡ times r ((f ∷ xs) ++ fs)
  sum r = omega (arith, times-append r xs (f ∷ fs), times-append r (f ∷ xs) fs)

  apart : (r : ℕ) → times r ((f ∷ xs) ++ fs) ≡ times r (f ∷ xs) + times r fs
  apart r = times-append r (f ∷ xs) fs

  abbrev g : ℕ
  g = next_of nodes f

  abbrev new : List Node
  new = parted u nodes

  f_end : f ≡ 0 → ⊥
  f_end = not_in 0 f ((f ∷ xs) ++ fs) st.no_end (times-here f (xs ++ fs))

  -- the first place lies in the block
  pub f_within : f < length nodes
  f_within = Stands-inside nodes u (f ∷ xs) fs st f (times-here f (xs ++ fs))

  second : (ys : List ℕ) → AreLinked nodes f ys 0 → ((r : ℕ) → 1 ≤ times r ys → r < length nodes) → g < length nodes
  second [] l within = let zero_in : 0 < length nodes = omega (arith, some) in subst (λ k. k < length nodes) (sym l.0) zero_in
  second (h ∷ hs) l within = subst (λ k. k < length nodes) (sym l.0) (within h (times-here h hs))

  -- so does the place after it
  pub g_within : g < length nodes
  g_within = second xs st.linked.2 (λ r i. Stands-inside nodes u (f ∷ xs) fs st r (omega (arith, apart r, i)))

  -- the part changes what it says and nothing else
  pub front-Parts : Parts nodes new f g u
  front-Parts =
      let zero_in : 0 < length nodes = omega (arith, some) in
      let all = parted-Parts nodes f g u f_end zero_in f_within g_within in
      subst (λ k. Parts nodes (with_next k u (with_prev (next_of nodes k) 0 (with_next 0 (next_of nodes k) nodes))) f g u) (sym st.linked.0) all

  once_f : (times f xs ≡ 0) × (times f fs ≡ 0)
  once_f =
      let head = times-head f xs in let one = st.once f in
      (omega (arith, head, one, apart f), omega (arith, head, one, apart f))

  -- the places after the first are linked to the ends
  relinked : (ys : List ℕ) → AreLinked nodes f ys 0 → times 0 ys ≡ 0 → times f ys ≡ 0 → ((r : ℕ) → times r ys ≤ 1) → AreLinked new 0 ys 0
  relinked [] l no_end no_f once =
      (front-Parts.first ∙ l.0, ap (prev_of new) (sym l.0) ∙ front-Parts.from_first)
  relinked (h ∷ hs) l no_end no_f once =
      let head = times-head h hs in
      let again : times h hs ≡ 0 = omega (arith, once h, head) in
      let h_end : 0 ≡ h → ⊥ = λ e. not_in 0 h (h ∷ hs) no_end (times-here h hs) (sym e) in (
        front-Parts.first ∙ l.0,
        ap (prev_of new) (sym l.0) ∙ front-Parts.from_first,
        linked-kept nodes new h hs 0
            (λ r i. front-Parts.nexts r (not_in 0 r (h ∷ hs) no_end i) (not_in f r (h ∷ hs) no_f i))
            (λ r i. front-Parts.prevs r (λ e. elim (times-after r 0 hs i) [
              | inl among ↦ not_in h r hs again among (e ∙ l.0)
              | inr at_end ↦ h_end (sym at_end ∙ e ∙ l.0)
            ]))
            l.2,
      )

  behind : run new f (length (f ∷ fs)) ≡ f ∷ fs
  behind =
      let n = length fs in
      let kept = run-kept nodes new u n (λ r i.
      let r_in : 1 ≤ times r fs = subst (λ l. 1 ≤ times r l) st.behind i in
      let no_end : times 0 fs ≡ 0 = omega (arith, st.no_end, apart 0) in
      front-Parts.nexts r (not_in 0 r fs no_end r_in) (not_in f r fs once_f.1 r_in)) in
      ap (λ k. f ∷ run new k n) front-Parts.to_unused ∙ ap (λ l. f ∷ l) (kept ∙ st.behind)

  -- the chain without its first place, which is the first unused one
  pub front-Stands : Stands new f xs (f ∷ fs)
  front-Stands = record {
    linked = relinked xs st.linked.2 (omega (arith, st.no_end, apart 0)) once_f.0 (λ r. omega (arith, st.once r, apart r));
    behind = behind;
    once = λ r. omega (arith, st.once r, sum r);
    no_end = omega (arith, st.no_end, sum 0);
    inside = λ r le. let le' : length nodes ≤ r = subst (λ k. k ≤ r) front-Parts.size le in omega (arith, st.inside r le', sum r);
  }

  -- the other pairs stay
  pub front-pairs : pairs_of new xs ≡ pairs_of nodes xs
  front-pairs = pairs-kept nodes new xs (λ r i. front-Parts.spans r)
