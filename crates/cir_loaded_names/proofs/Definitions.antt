-- The templates of files, once their names are resolved, have the names that they had.
use Rattle.std.proofs.Common.{◌≡◌, ℕ, ◌+◌, Bool, true, false, cond, List, [], ◌∷◌}
use Rattle.std.proofs.Common.{◌++◌, Result, Ok}
use Rattle.std.proofs.Common.{Err, subst}
use Rattle.std.specs.Prelude.{map, IfOk, ⊤}
use Rattle.std.specs.List.{AllByRecursion}
use Rattle.cir_ast.specs.declared.program.Meant.{Meant}
use Rattle.cir_ast.specs.declared.program.Spot.{Spot}
use Rattle.cir_ast.specs.Tree as tree
use Rattle.cir_ast.specs.Tree.{File, Statements}
use Rattle.cir_ast.specs.Plain.{plain_statements, plain_file}
use Rattle.cir_ast.specs.Program.{Template, Function}
use Rattle.cir_resolve.specs.declared.stop.Found.{Found}
use Rattle.cir_resolve.specs.Steps.{Step, made, in_turn}
use Rattle.cir_resolve.specs.Scope.{Lookup, nothing, Naming, opening}
use Rattle.cir_resolve.specs.Naming.{named_statements}
use Rattle.cir_resolve.specs.Definitions.{Definition, IsTemplate, IsFunction, IsMain}
use Rattle.cir_resolve.specs.Definitions.{definitions_of, Numbers, first_numbers, defined_by}
use Rattle.cir_resolve.specs.Definitions.{behind_definition, named_parameter, named_body}
use Rattle.cir_resolve.specs.Definitions.{template_of, named_template, named_function, is_template}
use Rattle.cir_resolve.specs.Definitions.{is_function, named_in, named_definition, counted_behind}
use Rattle.cir_resolve.specs.Definitions.{named_next, given_by, named_all, resolved}
use Rattle.cir_checks.specs.Heads.{templates_among}
use Rattle.cir_checks.specs.Checks.{program_with}
use Rattle.cir_names.specs.Programs.{definitions_from}
use Rattle.cir_names.proofs.Unnamed.{statements_same}
use Rattle.cir_meaning.proofs.Rows.{all_append}
use Rattle.cir_scope.proofs.Given.{OnGiven, given_behind, given_made, given_any}
use Rattle.cir_tree_names.specs.Named.{AreNamedStatements, IsNamedItem}
use Rattle.cir_row_names.specs.Rows.{IsNamedTemplate, IsNamedProgram}
use Rattle.cir_loaded_names.proofs.Naming.{AllFit, statements}

module _ (p : List ℕ → Bool) where
  -- as they are written
  abbrev IsWritten : Definition → Type 0
  IsWritten (IsTemplate t) = AreNamedStatements p (plain_statements t.body)
  IsWritten _ = ⊤

  abbrev AreNamedItems : tree.File Spot (Unit {0}) → Type 0
  AreNamedItems items = AllByRecursion (IsNamedItem p) items

  of_file : (n : ℕ) (file : File Spot Meant) → AreNamedItems (plain_file file)
      → AllByRecursion IsWritten (definitions_of n file)
  of_file n [] h = tt
  of_file n (tree.Pragma spot major minor patch ∷ is) h = of_file n is h.1
  of_file n (tree.Include spot name ∷ is) h = of_file n is h.1
  of_file n (tree.Template spot parallel name parameters ss ∷ is) h =
      (h.0.2, of_file n is h.1)
  of_file n (tree.Function spot name parameters ss ∷ is) h = (tt, of_file n is h.1)
  of_file n (tree.Main spot names template m arguments ∷ is) h = (tt, of_file n is h.1)

  of_files : (n : ℕ) (files : List (File Spot Meant))
      → AllByRecursion AreNamedItems (map plain_file files)
      → AllByRecursion IsWritten (definitions_from n files)
  of_files n [] h = tt
  of_files n (file ∷ files) h =
      all_append IsWritten (definitions_of n file) (definitions_from (n + 1) files)
      (of_file n file h.0) (of_files (n + 1) files h.1)

  -- once their names are resolved
  abbrev IsNamedDefinition : Definition → Type 0
  IsNamedDefinition (IsTemplate t) = IsNamedTemplate p t
  IsNamedDefinition _ = ⊤

  named_in_place : {A : Type 0} (P : Definition → Type 0) (file : ℕ) (kind : A → Definition)
      (b : Bool) (r : Result A Spot) (spot : Spot) → IfOk r (λ d. P (kind d))
      → IfOk (named_in file kind (cond b r (Err spot))) P
  named_in_place P file kind true (Ok d) spot h = h
  named_in_place P file kind true (Err other) spot h = tt
  named_in_place P file kind false r spot h = tt

  body_named : (names : Lookup) (spot : Spot) (parameters : List (List ℕ))
      (xs : Statements Spot Meant) → AreNamedStatements p (plain_statements xs)
      → OnGiven (AllFit p) (named_body names spot parameters xs)
  body_named names spot parameters xs h =
      given_behind (λ bs st. ⊤) (AllFit p)
      (in_turn (named_parameter spot) (opening names) parameters) (λ bs st. named_statements st xs)
      (given_any (in_turn (named_parameter spot) (opening names) parameters))
      (λ bs st u. subst (OnGiven (AllFit p)) (statements_same st xs)
      (statements p st (plain_statements xs) h))

  template_named : (d : Template) (s : Naming (Statements Spot Meant)) → OnGiven (AllFit p) s
      → IfOk (template_of d s) (λ e. IsNamedDefinition (IsTemplate e))
  template_named d (Ok given) h = h
  template_named d (Err spot) h = tt

  nothing_asked : {A : Type 0} (r : Result A Spot) → IfOk r (λ d. ⊤)
  nothing_asked (Ok d) = tt
  nothing_asked (Err spot) = tt

  definition_named : (names : Lookup) (n : Numbers) (d : Definition) → IsWritten d
      → IfOk (named_definition names n d) IsNamedDefinition
  definition_named names n (IsTemplate d) h =
      named_in_place IsNamedDefinition d.file IsTemplate (is_template n.templates (names d.name))
      (named_template names d) d.spot
      (template_named d (named_body names d.spot d.parameters d.body)
      (body_named names d.spot d.parameters d.body h))
  definition_named names n (IsFunction d) h =
      named_in_place IsNamedDefinition d.file IsFunction (is_function n.functions (names d.name))
      (named_function names d) d.spot (nothing_asked (named_function names d))
  definition_named names n (IsMain m) h = tt

  counted_named : (n : Numbers) (r : Result Definition Found) → IfOk r IsNamedDefinition
      → OnGiven (λ d after. IsNamedDefinition d) (counted_behind n r)
  counted_named n (Ok d) h = h
  counted_named n (Err found) h = tt

  turn_named : (names : Lookup) (n : Numbers) (ds : List Definition)
      → AllByRecursion IsWritten ds
      → OnGiven (λ es after. AllByRecursion IsNamedDefinition es)
      (in_turn (named_next names) n ds)
  turn_named names n [] h = tt
  turn_named names n (d ∷ ds) h =
      given_behind (λ e after. IsNamedDefinition e)
      (λ es after. AllByRecursion IsNamedDefinition es) (named_next names n d)
      (λ e y. made (λ es. e ∷ es) (in_turn (named_next names) y ds))
      (counted_named (behind_definition n d) (named_definition names n d)
      (definition_named names n d h.0))
      (λ e y f. given_made (λ es after. AllByRecursion IsNamedDefinition es)
      (λ es after. AllByRecursion IsNamedDefinition es) (λ es. e ∷ es)
      (in_turn (named_next names) y ds) (turn_named names y ds h.1) (λ es x g. (f, g)))

  given_named : {X E : Type 0} (s : Step X E (List Definition))
      → OnGiven (λ ds x. AllByRecursion IsNamedDefinition ds) s
      → IfOk (given_by s) (AllByRecursion IsNamedDefinition)
  given_named (Ok given) h = h
  given_named (Err stop) h = tt

  templates_named : (ds : List Definition) → AllByRecursion IsNamedDefinition ds
      → AllByRecursion (IsNamedTemplate p) (templates_among ds)
  templates_named [] h = tt
  templates_named (IsTemplate d ∷ ds) h = (h.0, templates_named ds h.1)
  templates_named (IsFunction d ∷ ds) h = templates_named ds h.1
  templates_named (IsMain m ∷ ds) h = templates_named ds h.1

  pub program_named : (names : List (List ℕ)) (files : List (File Spot Meant))
      (ds : List Definition) → AllByRecursion AreNamedItems (map plain_file files)
      → resolved (definitions_from 0 files) ≡ Ok ds → IsNamedProgram p (program_with names ds)
  program_named names files ds named is =
      let written : List Definition = definitions_from 0 files in
      templates_named ds (subst (λ r. IfOk r (AllByRecursion IsNamedDefinition)) is
      (given_named (named_all written)
      (turn_named (defined_by nothing first_numbers written) first_numbers written
      (of_files 0 files named))))
