-- Sources of the same trees have the same resolved definitions, whatever their names carried
-- before.
use Rattle.std.proofs.Common.{◌≡◌, ◌∙◌, ℕ, ◌+◌, List, [], ◌∷◌, ◌++◌, Result, Ok, Err, refl, ap, sym}
use Rattle.std.specs.Prelude.{map, if◌then◌else◌}
use Rattle.std.specs.List.{flat_map}
use Rattle.std.proofs.lemmas.List.{map-append}
use Rattle.cir_ast.specs.declared.program.Meant.{Meant}
use Rattle.cir_ast.specs.declared.program.Meant.TheVariants.{Other}
use Rattle.cir_ast.specs.declared.program.Spot.{Spot}
use Rattle.cir_ast.specs.Tree as tree
use Rattle.cir_ast.specs.Tree.{Exprs, Item, File, Statements}
use Rattle.cir_ast.specs.Plain.{PlainItem, PlainFile, plain_item, plain_file}
use Rattle.cir_resolve.specs.Steps.{behind, in_turn}
use Rattle.cir_resolve.specs.Scope.{Lookup, nothing, State, opening, called_at, Naming}
use Rattle.cir_resolve.specs.Naming.{named_exprs, named_statements}
use Rattle.cir_resolve.specs.declared.stop.Found.{Found}
use Rattle.cir_resolve.specs.Definitions as definitions
use Rattle.cir_resolve.specs.Definitions.{Definition, IsTemplate, IsFunction, IsMain, Numbers}
use Rattle.cir_names.specs.Programs.{definitions_from}
use Rattle.cir_names.proofs.Unnamed.{exprs, statements_same, both_any, both_same, both_turn}

-- What resolving asks of a definition: what is defined and how many come before it, with it, and
-- what it is resolved to.
abbrev Asked : Type 0
Asked = Lookup → Numbers → Lookup × Numbers × Result Definition Found

abbrev asked : Definition → Asked
asked d defined n = (
  definitions.with_definition defined n d,
  definitions.behind_definition n d,
  definitions.named_definition defined n d,
)

-- how a body and a main component's arguments are named
abbrev Body : Type 0
Body = State → Naming (Statements Spot Meant)

abbrev Arguments : Type 0
Arguments = State → Exprs Meant

abbrev named_by : Body → Lookup → Spot → List (List ℕ) → Naming (Statements Spot Meant)
named_by body defined spot parameters =
    behind (in_turn (definitions.named_parameter spot) (opening defined) parameters) (λ names. body)

abbrev resolved_as : Body → Arguments → Lookup → Numbers → Definition → Result Definition Found
resolved_as body arguments defined n (IsTemplate t) =
    definitions.named_in t.file IsTemplate
    (if definitions.is_template n.templates (defined t.name)
    then definitions.template_of t (named_by body defined t.spot t.parameters) else Err t.spot)
resolved_as body arguments defined n (IsFunction f) =
    definitions.named_in f.file IsFunction
    (if definitions.is_function n.functions (defined f.name)
    then definitions.function_of f (named_by body defined f.spot f.parameters) else Err f.spot)
resolved_as body arguments defined n (IsMain m) =
    Ok (IsMain record m {
      meant = called_at (opening defined) m.template;
      arguments = arguments (opening defined);
    })

abbrev asked_as : Body → Arguments → Definition → Asked
asked_as body arguments d defined n = (
  definitions.with_definition defined n d,
  definitions.behind_definition n d,
  resolved_as body arguments defined n d,
)

-- of the definition in an item, which needs no body then
abbrev asked_in : {N : Type 0} → (Statements Spot N → Body) → (Exprs N → Arguments) → ℕ
    → Item Spot N → List Asked
asked_in body arguments n (tree.Template spot parallel name parameters ss) =
    map (asked_as (body ss) (λ st. tree.none))
    (definitions.definitions_in n (tree.Template spot parallel name parameters tree.empty))
asked_in body arguments n (tree.Function spot name parameters ss) =
    map (asked_as (body ss) (λ st. tree.none))
    (definitions.definitions_in n (tree.Function spot name parameters tree.empty))
asked_in body arguments n (tree.Main spot names template m es) =
    map (asked_as (λ st. Err spot) (arguments es))
    (definitions.definitions_in n (tree.Main spot names template Other tree.none))
asked_in body arguments n _ = []

abbrev plain_asked : ℕ → PlainItem Spot → List Asked
plain_asked = asked_in (λ ss st. named_statements st ss) (λ es st. named_exprs st es)

item_asked : (n : ℕ) (i : Item Spot Meant)
    → plain_asked n (plain_item i) ≡ map asked (definitions.definitions_in n i)
item_asked n (tree.Pragma spot major minor patch) = refl
item_asked n i =
    λ k. asked_in (λ ss st. statements_same st ss k) (λ es st. (exprs st es k).0) n i

file_asked : (n : ℕ) (file : File Spot Meant)
    → flat_map (plain_asked n) (plain_file file) ≡ map asked (definitions.definitions_of n file)
file_asked n [] = refl
file_asked n (i ∷ is) =
    (λ k. item_asked n i k ++ file_asked n is k)
    ∙ sym (map-append asked (definitions.definitions_in n i) (definitions.definitions_of n is))

abbrev asked_from : ℕ → List (PlainFile Spot) → List Asked
asked_from n [] = []
asked_from n (file ∷ files) = flat_map (plain_asked n) file ++ asked_from (n + 1) files

files_asked : (n : ℕ) (files : List (File Spot Meant))
    → asked_from n (map plain_file files) ≡ map asked (definitions_from n files)
files_asked n [] = refl
files_asked n (file ∷ files) =
    (λ k. file_asked n file k ++ files_asked (n + 1) files k)
    ∙ sym (map-append asked (definitions.definitions_of n file) (definitions_from (n + 1) files))

-- the names are resolved by that
abbrev defined_from : Lookup → Numbers → List Asked → Lookup
defined_from defined n [] = defined
defined_from defined n (d ∷ ds) = defined_from (d defined n).0 (d defined n).1 ds

defined_same : (defined : Lookup) (n : Numbers) (ds : List Definition)
    → definitions.defined_by defined n ds ≡ defined_from defined n (map asked ds)
defined_same defined n [] = refl
defined_same defined n (d ∷ ds) =
    defined_same (definitions.with_definition defined n d) (definitions.behind_definition n d) ds

abbrev resolved_by : List Asked → Result (List Definition) Found
resolved_by ds =
    let defined = defined_from nothing definitions.first_numbers ds in
    definitions.given_by
    (in_turn (λ n d. definitions.counted_behind (d defined n).1 (d defined n).2)
    definitions.first_numbers ds)

resolved_is : (ds : List Definition) → definitions.resolved ds ≡ resolved_by (map asked ds)
resolved_is ds = rw (defined_same nothing definitions.first_numbers ds)
    (ap definitions.given_by (sym (both_same (both_turn asked (λ d. 0) (λ d. 0) _ _
    (λ n d. both_any _) definitions.first_numbers ds))))

-- trees that are alike but for what their names carry have the same resolved definitions
pub same_named : (trees others : List (File Spot Meant))
    → map plain_file trees ≡ map plain_file others
    → definitions.resolved (definitions_from 0 trees)
    ≡ definitions.resolved (definitions_from 0 others)
same_named trees others same =
    resolved_is (definitions_from 0 trees)
    ∙ ap resolved_by (sym (files_asked 0 trees) ∙ ap (asked_from 0) same ∙ files_asked 0 others)
    ∙ sym (resolved_is (definitions_from 0 others))
