-- The definitions of files, once their names are resolved.
use Rattle.std.proofs.Common.{◌≡◌, ℕ, ◌+◌, Bool, true, false, cond, List, [], ◌∷◌, length, Result}
use Rattle.std.proofs.Common.{Ok, Err, refl, sym, subst, arith}
use Rattle.std.specs.Prelude.{map, IfOk, ⊤}
use Rattle.std.specs.List.{AllByRecursion}
use Rattle.std.proofs.lemmas.List.{length-map}
use Rattle.cir_ast.specs.declared.program.Meant.{Meant}
use Rattle.cir_ast.specs.declared.program.Spot.{Spot}
use Rattle.cir_ast.specs.Tree as tree
use Rattle.cir_ast.specs.Tree.{File, Statements}
use Rattle.cir_ast.specs.Plain.{plain_statements, plain_file}
use Rattle.cir_ast.specs.Shape.{AreShapedStatements, IsShaped}
use Rattle.cir_ast.specs.Program.{Template, Function}
use Rattle.cir_resolve.specs.declared.stop.Found.{Found}
use Rattle.cir_resolve.specs.Steps.{Step, made, in_turn}
use Rattle.cir_resolve.specs.Scope.{Lookup, nothing, Naming}
use Rattle.cir_resolve.specs.Definitions.{Definition, IsTemplate, IsFunction, IsMain}
use Rattle.cir_resolve.specs.Definitions.{definitions_of, Numbers, first_numbers, defined_by}
use Rattle.cir_resolve.specs.Definitions.{behind_definition, named_body, template_of, function_of}
use Rattle.cir_resolve.specs.Definitions.{named_template, named_function, is_template, is_function}
use Rattle.cir_resolve.specs.Definitions.{named_in, named_definition, counted_behind, named_next}
use Rattle.cir_resolve.specs.Definitions.{given_by, named_all, resolved}
use Rattle.cir_checks.specs.Heads.{Table, table_of, templates_among, functions_among}
use Rattle.cir_checks.specs.Checks.{program_with}
use Rattle.cir_checks.specs.Checked.{Each, IsUsed}
use Rattle.cir_checks.specs.Checked as checked
use Rattle.cir_names.specs.Programs.{definitions_from}
use Rattle.cir_meaning.proofs.Rows.{all_append}
use Rattle.cir_meaning.specs.SignalFree.{AreFreeStatements}
use Rattle.cir_meaning.specs.Scoped.{IsTemplateScoped, IsResolved}
use Rattle.cir_scope.proofs.Given.{OnGiven, given_behind, given_made}
use Rattle.cir_scope.proofs.Bodies.{AreDefined, are_defined, TemplateFits, given_template}
use Rattle.cir_scope.proofs.Bodies.{FunctionFits, given_function}
use Rattle.cir_scope.specs.Counted.{IsCounted, AreCounted}
use Rattle.cir_scope.specs.Runnable.{IsRunnable, AreRunnable}

-- ---- as they are written
abbrev IsShapedDefinition : Definition → Type 0
IsShapedDefinition (IsFunction f) = AreShapedStatements (plain_statements f.body)
IsShapedDefinition _ = ⊤

shaped_file : (n : ℕ) (file : File Spot Meant) → IsShaped (plain_file file)
    → AllByRecursion IsShapedDefinition (definitions_of n file)
shaped_file n [] h = tt
shaped_file n (tree.Pragma spot major minor patch ∷ is) h = shaped_file n is h.1
shaped_file n (tree.Include spot name ∷ is) h = shaped_file n is h.1
shaped_file n (tree.Template spot parallel name parameters ss ∷ is) h =
    (tt, shaped_file n is h.1)
shaped_file n (tree.Function spot name parameters ss ∷ is) h = (h.0, shaped_file n is h.1)
shaped_file n (tree.Main spot names template m arguments ∷ is) h = (tt, shaped_file n is h.1)

shaped_files : (n : ℕ) (files : List (File Spot Meant))
    → AllByRecursion IsShaped (map plain_file files)
    → AllByRecursion IsShapedDefinition (definitions_from n files)
shaped_files n [] h = tt
shaped_files n (file ∷ files) h =
    all_append IsShapedDefinition (definitions_of n file) (definitions_from (n + 1) files)
    (shaped_file n file h.0) (shaped_files (n + 1) files h.1)

-- ---- once their names are resolved, where they are used as they may be
abbrev IsRight : Table → ℕ → Definition → Type 0
IsRight t functions (IsTemplate d) =
    checked.IsTemplate t d → IsTemplateScoped functions d × IsCounted functions d
IsRight t functions (IsFunction d) =
    checked.IsFunction t d → AreFreeStatements functions d.body × IsRunnable functions d
IsRight t functions (IsMain m) = ⊤

right_in : {A : Type 0} (P : Definition → Type 0) (file : ℕ) (kind : A → Definition) (b : Bool)
    (r : Result A Spot) (spot : Spot) → IfOk r (λ d. P (kind d))
    → IfOk (named_in file kind (cond b r (Err spot))) P
right_in P file kind true (Ok d) spot h = h
right_in P file kind true (Err other) spot h = tt
right_in P file kind false r spot h = tt

right_template : (t : Table) (functions : ℕ) (d : Template) (s : Naming (Statements Spot Meant))
    → OnGiven (TemplateFits t functions (length d.parameters)) s
    → IfOk (template_of d s) (λ e. IsRight t functions (IsTemplate e))
right_template t functions d (Ok given) h = λ k. (h.0 k, omega (arith, h.1))
right_template t functions d (Err spot) h = tt

right_function : (t : Table) (functions : ℕ) (d : Function) (s : Naming (Statements Spot Meant))
    → OnGiven (FunctionFits t functions (length d.parameters)) s
    → IfOk (function_of d s) (λ e. IsRight t functions (IsFunction e))
right_function t functions d (Ok given) h =
    λ k. (h.0 k.1, record { scoped = h.1.0 k.1; counted = h.1.1 })
right_function t functions d (Err spot) h = tt

right_definition : (t : Table) (functions : ℕ) → functions ≡ length t.functions
    → (names : Lookup) → AreDefined names → (n : Numbers) (d : Definition)
    → IsShapedDefinition d → IfOk (named_definition names n d) (IsRight t functions)
right_definition t functions all names are n (IsTemplate d) h =
    right_in (IsRight t functions) d.file IsTemplate (is_template n.templates (names d.name))
    (named_template names d) d.spot
    (right_template t functions d (named_body names d.spot d.parameters d.body)
    (given_template t functions names d.spot d.parameters d.body all are))
right_definition t functions all names are n (IsFunction d) h =
    right_in (IsRight t functions) d.file IsFunction (is_function n.functions (names d.name))
    (named_function names d) d.spot
    (right_function t functions d (named_body names d.spot d.parameters d.body)
    (given_function t functions names d.spot d.parameters d.body all are h))
right_definition t functions all names are n (IsMain m) h = tt

right_counted : (P : Definition → Type 0) (n : Numbers) (r : Result Definition Found) → IfOk r P
    → OnGiven (λ d after. P d) (counted_behind n r)
right_counted P n (Ok d) h = h
right_counted P n (Err found) h = tt

right_turn : (t : Table) (functions : ℕ) → functions ≡ length t.functions
    → (names : Lookup) → AreDefined names → (n : Numbers) (ds : List Definition)
    → AllByRecursion IsShapedDefinition ds
    → OnGiven (λ es after. AllByRecursion (IsRight t functions) es)
    (in_turn (named_next names) n ds)
right_turn t functions all names are n [] h = tt
right_turn t functions all names are n (d ∷ ds) h =
    given_behind (λ e after. IsRight t functions e)
    (λ es after. AllByRecursion (IsRight t functions) es) (named_next names n d)
    (λ e y. made (λ es. e ∷ es) (in_turn (named_next names) y ds))
    (right_counted (IsRight t functions) (behind_definition n d) (named_definition names n d)
    (right_definition t functions all names are n d h.0))
    (λ e y f. given_made (λ es after. AllByRecursion (IsRight t functions) es)
    (λ es after. AllByRecursion (IsRight t functions) es) (λ es. e ∷ es)
    (in_turn (named_next names) y ds) (right_turn t functions all names are y ds h.1)
    (λ es x g. (f, g)))

given_is : {X E A : Type 0} (P : A → Type 0) (s : Step X E A) → OnGiven (λ a x. P a) s
    → IfOk (given_by s) P
given_is P (Ok given) h = h
given_is P (Err stop) h = tt

-- ---- by kinds
right_templates : (t : Table) (functions : ℕ) (ds : List Definition)
    → AllByRecursion (IsRight t functions) ds → Each (checked.IsTemplate t) (templates_among ds)
    → AllByRecursion (IsTemplateScoped functions) (templates_among ds)
    × AllByRecursion (IsCounted functions) (templates_among ds)
right_templates t functions [] h u = (tt, tt)
right_templates t functions (IsTemplate d ∷ ds) h u =
    let first = h.0 u.0 in
    let rest = right_templates t functions ds h.1 u.1 in
    ((first.0, rest.0), (first.1, rest.1))
right_templates t functions (IsFunction d ∷ ds) h u = right_templates t functions ds h.1 u
right_templates t functions (IsMain m ∷ ds) h u = right_templates t functions ds h.1 u

right_functions : (t : Table) (functions : ℕ) (ds : List Definition)
    → AllByRecursion (IsRight t functions) ds → Each (checked.IsFunction t) (functions_among ds)
    → AllByRecursion (λ (f : Function). AreFreeStatements functions f.body) (functions_among ds)
    × AllByRecursion (IsRunnable functions) (functions_among ds)
right_functions t functions [] h u = (tt, tt)
right_functions t functions (IsTemplate d ∷ ds) h u = right_functions t functions ds h.1 u
right_functions t functions (IsFunction d ∷ ds) h u =
    let first = h.0 u.0 in
    let rest = right_functions t functions ds h.1 u.1 in
    ((first.0, rest.0), (first.1, rest.1))
right_functions t functions (IsMain m ∷ ds) h u = right_functions t functions ds h.1 u

-- the program of these files' definitions
pub resolved_program : (names : List (List ℕ)) (files : List (File Spot Meant))
    (ds : List Definition) → AllByRecursion IsShaped (map plain_file files)
    → resolved (definitions_from 0 files) ≡ Ok ds → IsUsed (program_with names ds)
    → IsResolved (program_with names ds) × AreRunnable (program_with names ds)
    × AreCounted (program_with names ds)
resolved_program names files ds shaped named used =
    let t : Table = table_of (templates_among ds) (functions_among ds) in
    let functions : ℕ = length (functions_among ds) in
    let written = definitions_from 0 files in
    let all : functions ≡ length t.functions =
    sym (length-map (functions_among ds) (λ f. length f.parameters)) in
    let now : AllByRecursion (IsRight t functions) ds =
    subst (λ r. IfOk r (AllByRecursion (IsRight t functions))) named
    (given_is (AllByRecursion (IsRight t functions)) (named_all written)
    (right_turn t functions all (defined_by nothing first_numbers written)
    (are_defined nothing first_numbers written (λ name. refl)) first_numbers written
    (shaped_files 0 files shaped))) in
    let of_functions = right_functions t functions ds now used.functions in
    let of_templates = right_templates t functions ds now used.templates in (
      record { functions = of_functions.0; templates = of_templates.0 },
      record { free = of_functions.0; runnable = of_functions.1 },
      of_templates.1,
    )
