-- The places of a block: one is taken out and put back, all are made of room and become room.
use mathlib.Core.Path.{◌≡◌, refl, sym, ap, subst, ◌∙◌}
use Prim.Native.Nat.{ℕ, zero, suc, ◌+◌, ◌*◌, ◌<◌, ◌≤◌}
use native.Mathlib.Omega.{arith}
use native.Mathlib.Nat.{zero-mul, suc-mul}
use mathlib.Core.List.{List, [], ◌∷◌, ◌++◌}
use lib.ListN.{length, take, drop, set, get_or, replicate, take-append-drop, length-take}
use lib.Seq.{drop-cons, set_split}
use seplogic.Ra.Ura.{Ura}
use mir.Syntax.{ty_array}
use mir.Val.{Val}
use base.Logic.{ent, sep, via, snd∗, id⊢}
use base.Fml.{Fml, Lft, ftrue, fsep, fat, froom}
use types.Logic.{Logic, sem}
use types.Kit.{‵, some, given, ◌⊛◌, ◌$◌, ◌∵◌, !, qed, by, move, keep, drop as skip, use1, use2, pick, learn, split, frame, fsplit, fjoin, rewrite, done}
use denote.Steps.{nothing}
use base.Fraction.{full_share}
use Rattle.std.specs.Prelude.{Option, Some, None}
use Rattle.std.specs.Mem.{type_size}
use Rattle.std.proofs.mem.Param.{El, R, el_x, elτ}
use Rattle.std.proofs.RcSteps.{Good}
use Rattle.node_chain.specs.Ownership.{place, places, place_lent, side_by_side_lent}
use Rattle.node_chain.proofs.Layouts.{value_out}

-- what a place may hold
abbrev pub Held : El → Type 0
Held E = Option (el_x E)

-- how many bytes a place takes
abbrev pub width : El → ℕ
width E = type_size (R E)

-- a place that holds a value is one of the block
pub within : {X : Type 0} (ps : List (Option X)) (i : ℕ) (x : X) → get_or ps i None ≡ Some x → i < length ps
within [] i x e = cc
within (p ∷ ps) zero x e = omega arith
within (p ∷ ps) (suc i) x e = omega (arith, within ps i x e)

module _ (E : El) {M : Type 1} {𝓤 : Ura M} (𝓛 : Logic 𝓤) (b : ℕ) where
  open 𝓛 use {H}

  abbrev w : ℕ
  w = width E

  abbrev Row : ℕ → List (Held E) → Fml
  Row = places (R E) b

  -- a row falls into its front and what comes after it, and is put together of them
  apart : (xs ys : List (Held E)) (o at : ℕ) → at ≡ length xs * w + o
      → ent 𝓤 (sem 𝓛 (Row o (xs ++ ys))) (sep 𝓤 (sem 𝓛 (Row o xs)) (sem 𝓛 (Row at ys)))
  apart [] ys o at e = qed 𝓛 (‵ (Row o ys) ∷ []) ∵
      rewrite ! 0 (λ (k : ℕ). ‵ (Row k ys)) {x = at} (omega (arith, zero-mul w)) refl $ nothing ! $ done !
  apart (x ∷ xs) ys o at e =
      let here : at ≡ suc (length xs) * w + o = e in
      qed 𝓛 (‵ (Row o (x ∷ xs ++ ys)) ∷ []) ∵ fsplit ! $ move ! (1 ∷ []) $
      use1 𝓛 (‵ (Row (o + w) xs) ⊛ ‵ (Row at ys)) (apart xs ys (o + w) at (omega (arith, suc-mul (length xs) w))) $
      split ! $ move ! (2 ∷ 0 ∷ []) $ fjoin ! $ done !

  together : (xs ys : List (Held E)) (o at : ℕ) → at ≡ length xs * w + o
      → ent 𝓤 (sep 𝓤 (sem 𝓛 (Row o xs)) (sem 𝓛 (Row at ys))) (sem 𝓛 (Row o (xs ++ ys)))
  together [] ys o at e = qed 𝓛 (‵ ftrue ∷ ‵ (Row at ys) ∷ []) ∵
      skip ! $ rewrite ! 0 (λ (k : ℕ). ‵ (Row k ys)) {x = o} (omega (arith, zero-mul w)) refl $ done !
  together (x ∷ xs) ys o at e =
      let here : at ≡ suc (length xs) * w + o = e in
      qed 𝓛 (‵ (Row o (x ∷ xs)) ∷ ‵ (Row at ys) ∷ []) ∵ fsplit ! $ move ! (1 ∷ 2 ∷ []) $
      use2 𝓛 (‵ (Row (o + w) (xs ++ ys))) (together xs ys (o + w) at (omega (arith, suc-mul (length xs) w))) $
      move ! (1 ∷ 0 ∷ []) $ fjoin ! $ done !

  module _ (o : ℕ) (ps : List (Held E)) (i : ℕ) where
    -- all places but the i-th
    abbrev pub Others : Fml
    Others = fsep (Row o (take i ps)) (Row (i * w + o + w) (drop (suc i) ps))

    front : i ≤ length ps → i * w + o ≡ length (take i ps) * w + o
    front le =
        let long : i ≡ length (take i ps) = omega (arith, length-take i ps) in
        ap (λ k. k * w + o) long

    pub place_out : i < length ps
        → ent 𝓤 (sem 𝓛 (Row o ps)) (sep 𝓤 (sem 𝓛 (place (R E) b (i * w + o) (get_or ps i None))) (sem 𝓛 Others))
    place_out lt =
        let p = get_or ps i None in
        qed 𝓛 (‵ (Row o ps) ∷ []) ∵
        rewrite ! 0 (λ (l : List (Held E)). ‵ (Row o l)) (sym (take-append-drop i ps) ∙ ap (λ l. take i ps ++ l) (drop-cons ps i None lt)) refl $
        use1 𝓛 (‵ (Row o (take i ps)) ⊛ ‵ (Row (i * w + o) (p ∷ drop (suc i) ps)))
        (apart (take i ps) (p ∷ drop (suc i) ps) o (i * w + o) (front (omega arith))) $
        split ! $ move ! (1 ∷ []) $ fsplit ! $ move ! (2 ∷ 1 ∷ []) $ fjoin ! $ move ! (1 ∷ []) $ done !

    pub place_in : i < length ps → (p : Held E)
        → ent 𝓤 (sep 𝓤 (sem 𝓛 (place (R E) b (i * w + o) p)) (sem 𝓛 Others)) (sem 𝓛 (Row o (set ps i p)))
    place_in lt p =
        qed 𝓛 (‵ (place (R E) b (i * w + o) p) ∷ ‵ Others ∷ []) ∵
        move ! (1 ∷ []) $ fsplit ! $ move ! (2 ∷ 1 ∷ []) $ fjoin ! $ move ! (1 ∷ 0 ∷ []) $
        use2 𝓛 (‵ (Row o (take i ps ++ p ∷ drop (suc i) ps)))
        (together (take i ps) (p ∷ drop (suc i) ps) o (i * w + o) (front (omega arith))) $
        rewrite ! 0 (λ (l : List (Held E)). ‵ (Row o l)) (sym (set_split ps i p lt)) refl $ done !

  -- what a place holds is forgotten, and there is room for another value
  pub emptied : (o : ℕ) (p : Held E) → ent 𝓤 (sem 𝓛 (place (R E) b o p)) (sem 𝓛 (place (R E) b o None))
  emptied o None = id⊢ 𝓤 (sem 𝓛 (place (R E) b o None))
  emptied o (Some x) =
      qed 𝓛 (‵ (place (R E) b o (Some x)) ∷ []) ∵
      use1 𝓛 (some (λ (v : Val). given (Good (elτ E) v) (‵ (fat full_share (elτ E) b o v) ⊛ ‵ (E.row.own_val x (v ∷ [])))))
      (value_out 0 E.row E.laws 𝓛 x b o) $
      pick ! (λ v. learn ! (λ good. split ! $
      use1 𝓛 (‵ (froom (elτ E) b o)) (𝓛.laws.at_room (elτ E) b o v) $
      keep ! (0 ∷ []) $ by ! (𝓛.laws.room-raw (elτ E) b o)))

  -- room for n values is a row of n empty places
  pub of_room : (n o : ℕ) → ent 𝓤 (H.room (ty_array (elτ E) n) b o) (sem 𝓛 (Row o (replicate n None)))
  of_room zero o = qed 𝓛 (‵ (froom (ty_array (elτ E) 0) b o) ∷ []) ∵ keep ! [] $ done !
  of_room (suc n) o =
      qed 𝓛 (‵ (froom (ty_array (elτ E) (suc n)) b o) ∷ []) ∵
      use1 𝓛 (‵ (froom (elτ E) b o) ⊛ ‵ (froom (ty_array (elτ E) n) b (o + w))) (𝓛.laws.room_uncons (elτ E) n b o) $ split ! $
      use1 𝓛 (‵ (place (R E) b o None)) (𝓛.laws.room-raw (elτ E) b o) $ frame ! $ by ! (of_room n (o + w))

  -- a row of places, whatever they hold, is room for as many values
  pub to_room : (ps : List (Held E)) (o : ℕ) → ent 𝓤 (sem 𝓛 (Row o ps)) (H.room (ty_array (elτ E) (length ps)) b o)
  to_room [] o = 𝓛.laws.room_nil (elτ E) b o
  to_room (p ∷ ps) o =
      let n = length ps in
      qed 𝓛 (‵ (place (R E) b o p) ∷ ‵ (Row (o + w) ps) ∷ []) ∵
      use1 𝓛 (‵ (place (R E) b o None)) (emptied o p) $
      use1 𝓛 (‵ (froom (elτ E) b o)) (𝓛.laws.raw-room (elτ E) b o) $ move ! (1 ∷ []) $
      use1 𝓛 (‵ (froom (ty_array (elτ E) n) b (o + w))) (to_room ps (o + w)) $ move ! (1 ∷ []) $
      by ! (𝓛.laws.room_cons (elτ E) n b o)

  module _ (κ : Lft) where
    abbrev Shown : ℕ → List (Held E) → Fml
    Shown o ps = side_by_side_lent (R E) b o ps κ

    from_place : (ps : List (Held E)) (i o at : ℕ) → i ≤ length ps → at ≡ i * w + o → ent 𝓤 (sem 𝓛 (Shown o ps)) (sem 𝓛 (Shown at (drop i ps)))
    from_place ps zero o at le e =
        let same : o ≡ at = omega (arith, zero-mul w) in
        subst (λ k. ent 𝓤 (sem 𝓛 (Shown o ps)) (sem 𝓛 (Shown k ps))) same (id⊢ 𝓤 _)
    from_place [] (suc i) o at le e = absurd (omega arith)
    from_place (p ∷ ps) (suc i) o at le e =
        via 𝓤 (sem 𝓛 (Shown (o + w) ps)) (snd∗ 𝓤 (sem 𝓛 (place_lent (R E) b o p κ)) (sem 𝓛 (Shown (o + w) ps)))
        (from_place ps i (o + w) at (omega arith) (omega (arith, suc-mul i w)))

    -- of what a reference shows, one place
    pub place_shown : (o : ℕ) (ps : List (Held E)) (i : ℕ) → i < length ps
        → ent 𝓤 (sem 𝓛 (Shown o ps)) (sem 𝓛 (place_lent (R E) b (i * w + o) (get_or ps i None) κ))
    place_shown o ps i lt =
        qed 𝓛 (‵ (Shown o ps) ∷ []) ∵
        use1 𝓛 (‵ (Shown (i * w + o) (drop i ps))) (from_place ps i o (i * w + o) (omega arith) refl) $
        rewrite ! 0 (λ (l : List (Held E)). ‵ (Shown (i * w + o) l)) (drop-cons ps i None lt) refl $
        fsplit ! $ keep ! (0 ∷ []) $ done !
