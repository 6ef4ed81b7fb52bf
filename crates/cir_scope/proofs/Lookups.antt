-- What holds of each meaning that a name has.
use Rattle.std.proofs.Common.{ℕ, List, [], ◌∷◌, Option, Some, None}
use Rattle.std.specs.Prelude.{is_some}
use Rattle.std.specs.Option.{option_or}
use Rattle.std.specs.Map.{update}
use Rattle.std.specs.Str.{bytes_eq}
use Rattle.std.proofs.lemmas.Bool.{cond_both}
use Rattle.cir_ast.specs.declared.program.Meant.{Meant}
use Rattle.cir_ast.specs.declared.program.Meant.TheVariants as meant
use Rattle.cir_resolve.specs.Scope.{Lookup}
use Rattle.cir_resolve.specs.Definitions.{Definition, IsTemplate, IsFunction, IsMain, Numbers}
use Rattle.cir_resolve.specs.Definitions.{with_new, with_definition, behind_definition, defined_by}

module _ (P : Option Meant → Type 0) where
  abbrev pub OfEach : Lookup → Type 0
  OfEach names = (name : List ℕ) → P (names name)

  pub of_first : (o p : Option Meant) → P o → P p → P (option_or o p)
  of_first None p h k = k
  of_first (Some m) p h k = h

  pub of_more : (names : Lookup) (new : List ℕ) (m : Meant) → P (Some m) → OfEach names
      → OfEach (update bytes_eq names new (Some m))
  of_more names new m h each name =
      cond_both (bytes_eq new name) (Some m) (names name) P (λ e. h) (λ e. each name)

  of_new : (names : Lookup) (new : List ℕ) (m : Meant) → P (Some m) → OfEach names
      → OfEach (with_new names new m)
  of_new names new m h each =
      cond_both (is_some (names new)) names (update bytes_eq names new (Some m)) OfEach
      (λ e. each) (λ e. of_more names new m h each)

  -- a definition's name means a template or a function
  pub of_definitions : ((n : ℕ) → P (Some (meant.Template n)))
      → ((n : ℕ) → P (Some (meant.Function n))) → (names : Lookup) (n : Numbers)
      (ds : List Definition) → OfEach names → OfEach (defined_by names n ds)
  of_definitions t f names n [] h = h
  of_definitions t f names n (IsTemplate d ∷ ds) h =
      of_definitions t f (with_definition names n (IsTemplate d))
      (behind_definition n (IsTemplate d)) ds
      (of_new names d.name (meant.Template n.templates) (t n.templates) h)
  of_definitions t f names n (IsFunction d ∷ ds) h =
      of_definitions t f (with_definition names n (IsFunction d))
      (behind_definition n (IsFunction d)) ds
      (of_new names d.name (meant.Function n.functions) (f n.functions) h)
  of_definitions t f names n (IsMain d ∷ ds) h = of_definitions t f names n ds h
