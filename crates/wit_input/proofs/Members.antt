-- The members of an object, by the bytes of their names.
use Rattle.std.proofs.Common.{◌≡◌, ◌∙◌, ℕ, List, [], ◌∷◌, None, IsUtf8, refl, sym, subst}
use Rattle.std.proofs.lemmas.Str.{IsUtf8-string_bytes}
use Rattle.serde_json.specs.Find.{get_member}
use Rattle.serde_json.specs.View.{members_view}
use Rattle.serde_json.proofs.Views.{Entry, member_later}

-- a name that is no text isn't among them
pub no_text : (name : List ℕ) (es : List Entry) → ¬ IsUtf8 name
    → get_member name (members_view es) ≡ None
no_text name [] bad = refl
no_text name (e ∷ es) bad =
    member_later name e es (λ same. bad (subst IsUtf8 (sym same) (IsUtf8-string_bytes e.0)))
    ∙ no_text name es bad
