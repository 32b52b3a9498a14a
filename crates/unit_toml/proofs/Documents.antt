-- What is read of bytes that are a document, and of bytes that are none.
use Rattle.std.proofs.Common.{◌≡◌, ℕ, List, Some, None, Ok, Err, inl, inr}
use Rattle.std.proofs.lemmas.Bool.{cases_Bool}
use Rattle.std.proofs.lemmas.Str.{IsUtf8-from_is_utf8, is_utf8-from_IsUtf8}
use Rattle.std.specs.Str.{IsUtf8, is_utf8}
use Rattle.toml.specs.Data.{Members}
use Rattle.toml.specs.Parse.{parse_document}
use Rattle.unit_toml.specs.declared.faults.UnitsFault.TheVariants.{NotToml}
use Rattle.unit_toml.specs.Reading.{document_of}

pub document_of-Ok : (bytes : List ℕ) (document : Members) → IsUtf8 bytes → parse_document bytes ≡ Some document → document_of bytes ≡ Ok document
document_of-Ok bytes document text parsed = rw (is_utf8-from_IsUtf8 bytes text, parsed)

pub document_of-Err : (bytes : List ℕ) → (IsUtf8 bytes → parse_document bytes ≡ None) → document_of bytes ≡ Err NotToml
document_of-Err bytes refused =
    elim (cases_Bool (is_utf8 bytes)) [
      | inl text ↦ rw (text, refused (IsUtf8-from_is_utf8 bytes text))
      | inr other ↦ rw other
    ]
