-- Forms that are left out of the language, as they stand in the tokens.
use Rattle.std.specs.Prelude.{ℕ, ◌+◌, if◌then◌else◌, ◌∷◌, [], List, Option, Some, None, codes}
use Rattle.std.specs.Str.{bytes_eq}
use Rattle.cir_token.specs.declared.token.TokenKind.TheVariants as token
use Rattle.cir_token.specs.declared.token.Reserved.TheVariants as word
use Rattle.cir_token.specs.declared.token.Symbol.TheVariants as symbol
use Rattle.cir_ast.specs.declared.refusal.Form.{Form}
use Rattle.cir_ast.specs.declared.refusal.Form.TheVariants.{Bus, CustomTemplate, Tag}
use Rattle.cir_expression.specs.Front.{Tokens, tail, begins, begins_word}

-- this name, which makes a custom template
abbrev pub custom_at : List ℕ → Tokens → Option Form
custom_at word (token.Name name ∷ ts) = if bytes_eq name word then Some CustomTemplate else None
custom_at word _ = None

-- what stands behind `input` or `output`, where one of them comes
abbrev pub behind_direction : Tokens → Tokens
behind_direction ts = if begins_word word.Input ts then tail ts
    else (if begins_word word.Output ts then tail ts else ts)

-- behind `signal`, its tags
abbrev pub tag_at : Tokens → Option Form
tag_at ts = if begins symbol.OpenBrace (behind_direction ts) then Some Tag else None

-- the form that begins at the front: the word `bus`, `template custom`, `pragma custom_templates`,
-- or a signal's tags
abbrev pub left_out_at : Tokens → Option Form
left_out_at (token.Reserved word.Bus ∷ ts) = Some Bus
left_out_at (token.Reserved word.Template ∷ ts) = custom_at (codes "custom") ts
left_out_at (token.Reserved word.Pragma ∷ ts) = custom_at (codes "custom_templates") ts
left_out_at (token.Reserved word.Signal ∷ ts) = tag_at ts
left_out_at _ = None

-- this form at this token, or what is found later
abbrev pub or_later : ℕ → Option Form → Option (ℕ × Form) → Option (ℕ × Form)
or_later n None later = later
or_later n (Some form) later = Some (n, form)

-- the first such form, with the number of its first token; the tokens begin with number n
abbrev pub first_left_out : ℕ → Tokens → Option (ℕ × Form)
first_left_out n [] = None
first_left_out n (t ∷ ts) = or_later n (left_out_at (t ∷ ts)) (first_left_out (n + 1) ts)
