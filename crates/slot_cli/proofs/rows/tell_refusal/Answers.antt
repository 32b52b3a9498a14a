-- An offer that was just refused may be explained, and its refusal changed nothing.
use Rattle.std.proofs.Common.{◌≡◌, ℕ, List, [], ◌∷◌, Option, Some, sym, ap, subst, ◌∙◌}
use Rattle.std.specs.Option.{option_map_or}
use Rattle.command_line.specs.Writings.{IsWriting}
use Rattle.slot_cli.specs.declared.rows.RefusedOffer.{RefusedOffer}
use Rattle.slot_cli.specs.Explained.{offer_text}
use Rattle.slot_cli.proofs.Explanations.{IsRefusedBy-told}
use Rattle.slot_cli.proofs.rows.tell_refusal.Goals as goal

pub tell_offer-requires-clause-later : goal.tell_offer-requires-clause-later
tell_offer-requires-clause-later g c =
    (IsRefusedBy-told c.args.exec.now c.requires.0 c.args.what c.in-Some.offer (sym c.refused_offer.ensures ∙ c.in-Some.is) c.requires.1).later

pub tell_offer-requires-clause-due : goal.tell_offer-requires-clause-due
tell_offer-requires-clause-due g c =
    (IsRefusedBy-told c.args.exec.now c.requires.0 c.args.what c.in-Some.offer (sym c.refused_offer.ensures ∙ c.in-Some.is) c.requires.1).due

pub tell_offer-requires-clause-near : goal.tell_offer-requires-clause-near
tell_offer-requires-clause-near g c =
    (IsRefusedBy-told c.args.exec.now c.requires.0 c.args.what c.in-Some.offer (sym c.refused_offer.ensures ∙ c.in-Some.is) c.requires.1).near

pub tell_offer-requires-clause-some : goal.tell_offer-requires-clause-some
tell_offer-requires-clause-some g c =
    (IsRefusedBy-told c.args.exec.now c.requires.0 c.args.what c.in-Some.offer (sym c.refused_offer.ensures ∙ c.in-Some.is) c.requires.1).some

pub tell_offer-requires-clause-few : goal.tell_offer-requires-clause-few
tell_offer-requires-clause-few g c =
    (IsRefusedBy-told c.args.exec.now c.requires.0 c.args.what c.in-Some.offer (sym c.refused_offer.ensures ∙ c.in-Some.is) c.requires.1).few

pub returns-in-Some : goal.returns-in-Some
returns-in-Some g c =
    let plan = c.args.exec.now.plan in
    let what = c.args.what in
    let offer = c.in-Some.offer in
    let is = sym c.refused_offer.ensures ∙ c.in-Some.is in
    λ h stands.
    let same = (IsRefusedBy-told c.args.exec.now h what offer is stands).text in
    let told = sym (ap (λ (o : Option RefusedOffer). option_map_or (offer_text plan h) o []) is) in
    let Writes : List ℕ → Type 0 = λ text. IsWriting g.K.Sink.written g.K.Sink.faults text c.tell_offer.result c.args.out.now c.tell_offer.new.out in
    subst Writes (same ∙ told) (c.tell_offer.ensures (what ∷ h) stands)
