use Rattle.std.proofs.Common.{◌≡◌, ℕ, ℤ, List, [], ◌++◌, Result, Ok, Err, OnOk, FitsSigned, ap, subst, ◌∙◌, append_assoc}
use Rattle.std.specs.Int.{w64}
use Rattle.std.proofs.Math.Facts.{sfits_widen}
use Rattle.std.proofs.lemmas.Int.{to_z-of_z}
use Rattle.std.proofs.lemmas.List.{append-nil}
use Rattle.table_codec.specs.declared.layout.SpareWidth.{SpareWidth}
use Rattle.table_codec.specs.declared.layout.SpareWidth.TheVariants.{Four, Eight}
use Rattle.table_codec.specs.Grammar.{spare_form, spare_width}
use Rattle.table_codec.proofs.writer.put_span.Goals as goal

-- four parts written one after the other
four_written : {X E : Type 0} (r : Result X E) (old one two three new a b d e : List ℕ) → one ≡ old ++ a → two ≡ one ++ b → three ≡ two ++ d → OnOk r (new ≡ three ++ e) → OnOk r (new ≡ old ++ (a ++ (b ++ (d ++ (e ++ [])))))
four_written (Ok x) old one two three new a b d e h1 h2 h3 last =
    last ∙ ap (λ t. t ++ e) (h3 ∙ ap (λ t. t ++ d) (h2 ∙ ap (λ t. t ++ b) h1)) ∙ regroup
  where
    regroup : (((old ++ a) ++ b) ++ d) ++ e ≡ old ++ (a ++ (b ++ (d ++ (e ++ []))))
    regroup = simp (append_assoc, append-nil)
four_written (Err fault) old one two three new a b d e h1 h2 h3 last = tt

-- a capacity has room in eight bytes
fits_eight : (w : SpareWidth) (z : ℤ) → FitsSigned (spare_width w) z → FitsSigned w64 z
fits_eight Four z fits = sfits_widen tt fits
fits_eight Eight z fits = fits

pub returns : goal.returns
returns c =
    let spare = c.args.span.spare in
    let same = to_z-of_z w64 spare (fits_eight c.args.layout.spare spare c.requires.spare) in
    let last = subst (λ z. OnOk c.put_spare.result (c.put_spare.new.out.items ≡ c.put_slots-3.new.out.items ++ (spare_form c.args.layout).written z)) same c.put_spare.ensures in
    four_written c.put_spare.result c.args.out.now.items c.put_slots.new.out.items c.put_slots-2.new.out.items c.put_slots-3.new.out.items c.put_spare.new.out.items _ _ _ _ c.in_ok-put_slots.ensures c.in_ok-put_slots-2.ensures c.in_ok-put_slots-3.ensures last
