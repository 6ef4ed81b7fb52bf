-- Which bytes spell a JSON value.
use Rattle.std.proofs.Common.{◌≡◌, ◌∙◌, ℕ, List, Bool, true, false, Option, Some, None, IsUtf8}
use Rattle.std.proofs.Common.{refl, if◌then◌else◌}
use Rattle.std.specs.Str.{is_utf8}
use Rattle.std.proofs.lemmas.Str.{is_utf8-from_IsUtf8, IsUtf8-from_is_utf8}
use Rattle.serde_json.specs.Data.{Data}
use Rattle.serde_json.specs.Read.{read}
use Rattle.wit_input.specs.Document.{json_of}

yes : (b : Bool) (o : Option Data) → b ≡ true → (if b then o else None) ≡ o
yes true o e = refl
yes false o e = cc

no : (b : Bool) (o : Option Data) → (b ≡ true → o ≡ None) → (if b then o else None) ≡ None
no true o h = h refl
no false o h = refl

pub spelled : (bytes : List ℕ) (d : Data) → IsUtf8 bytes × (read bytes ≡ Some d)
    → json_of bytes ≡ Some d
unfolding json_of
spelled bytes d h = yes (is_utf8 bytes) (read bytes) (is_utf8-from_IsUtf8 bytes h.0) ∙ h.1

pub unspelled : (bytes : List ℕ) → (IsUtf8 bytes → read bytes ≡ None) → json_of bytes ≡ None
unfolding json_of
unspelled bytes h = no (is_utf8 bytes) (read bytes) (λ e. h (IsUtf8-from_is_utf8 bytes e))
