-- No definition of a loaded program is higher than a tree may be.
use Rattle.std.proofs.Common.{◌≡◌, ℕ, ◌+◌, ◌≤◌, Bool, true, false, List, [], ◌∷◌, ◌++◌, Ok, Err}
use Rattle.std.proofs.Common.{ap, arith}
use Rattle.std.specs.Prelude.{if◌then◌else◌, map, All}
use Rattle.std.proofs.lemmas.List.{map-id}
use Rattle.std.proofs.lemmas.List.Elements.{All-head, All-tail}
use Rattle.cir_ast.specs.declared.program.Meant.{Meant}
use Rattle.cir_ast.specs.declared.program.Spot.{Spot}
use Rattle.cir_ast.specs.Tree as tree
use Rattle.cir_ast.specs.Tree.{Item, File, Statements}
use Rattle.cir_ast.specs.Plain.{plain_exprs, plain_statements, plain_item, plain_file}
use Rattle.cir_ast.specs.Height.{exprs_height, statements_height, block_height, item_height}
use Rattle.cir_ast.specs.Height.{height, highest}
use Rattle.cir_ast.specs.Program.{Template, Function}
use Rattle.cir_resolve.specs.Steps.{Step}
use Rattle.cir_resolve.specs.Scope.{Lookup, nothing, opening, Naming}
use Rattle.cir_resolve.specs.declared.stop.Found.{Found}
use Rattle.cir_resolve.specs.Definitions as definitions
use Rattle.cir_resolve.specs.Definitions.{Definition, IsTemplate, IsFunction, IsMain, Numbers}
use Rattle.cir_checks.specs.Checked.{IsLow}
use Rattle.cir_checks.specs.Checks.{program_with}
use Rattle.cir_sources.specs.declared.source.Source.{Source}
use Rattle.cir_sources.specs.Includes.{seen}
use Rattle.cir_sources.specs.Loading.{IsDecoded}
use Rattle.cir_names.specs.Programs.{tree_of, definitions_from}
use Rattle.cir_names.proofs.Unnamed.{Both, both, neither, both_behind, both_any, both_turn}
use Rattle.cir_names.proofs.Unnamed.{exprs, statements}

-- how high a definition is, and its tree before the names are resolved
abbrev tall : Definition → ℕ
tall (IsTemplate t) = block_height t.body + 1
tall (IsFunction f) = block_height f.body + 1
tall (IsMain m) = exprs_height m.arguments + 1

abbrev tall_yet : Definition → ℕ
tall_yet (IsTemplate t) = block_height (plain_statements t.body) + 1
tall_yet (IsFunction f) = block_height (plain_statements f.body) + 1
tall_yet (IsMain m) = exprs_height (plain_exprs m.arguments) + 1

-- the definitions are no higher than the files
low_both : (ds es : List Definition) → highest tall_yet ds ≤ 256 → highest tall_yet es ≤ 256
    → highest tall_yet (ds ++ es) ≤ 256
low_both [] es p q = q
low_both (d ∷ ds) es p q = omega (arith, low_both ds es (omega arith) q)

low_item : (n : ℕ) (i : Item Spot Meant)
    → highest tall_yet (definitions.definitions_in n i) ≤ item_height (plain_item i)
low_item n (tree.Pragma spot major minor patch) = omega arith
low_item n _ = omega arith

low_file : (n : ℕ) (file : File Spot Meant) → height (plain_file file) ≤ 256
    → highest tall_yet (definitions.definitions_of n file) ≤ 256
low_file n [] h = omega arith
low_file n (i ∷ is) h = low_both _ _ (omega (arith, low_item n i)) (low_file n is (omega arith))

low_files : (n : ℕ) (sources : List Source) → All IsDecoded (map seen sources)
    → highest tall_yet (definitions_from n (map tree_of sources)) ≤ 256
low_files n [] read = omega arith
low_files n (s ∷ ss) read =
    low_both _ _
    (low_file n (tree_of s) (All-head IsDecoded (seen s) (map seen ss) read).1.file.is_tree.low)
    (low_files (n + 1) ss (All-tail IsDecoded (seen s) (map seen ss) read))

-- the step gives a definition of this height, or stops
abbrev Gives : ℕ → Step Numbers Found Definition → Type 0
Gives n step = Both n tall step step

is_given : {m : ℕ} {d : Definition} {n : Numbers} → m ≡ tall d → Gives m (Ok (d, n))
is_given {d = d} e = both (λ i. (d, e i))

-- resolving the names keeps the heights
body_high : (defined : Lookup) (spot : Spot) (parameters : List (List ℕ))
    (ss : Statements Spot Meant)
    → Both (statements_height (plain_statements ss)) statements_height
    (definitions.named_body defined spot parameters (plain_statements ss))
    (definitions.named_body defined spot parameters ss)
body_high defined spot parameters ss =
    both_behind (both_any _) (λ names more st any. statements st ss)

template_high : (t : Template) (b : Bool) (n : Numbers) (k : ℕ)
    (q r : Naming (Statements Spot Meant)) → Both k statements_height q r
    → Gives (k + 1 + 1) (definitions.counted_behind n (definitions.named_in t.file IsTemplate
    (if b then definitions.template_of t r else Err t.spot)))
template_high t true n k q r (both e) = is_given (λ i. (e i).1 + 1 + 1)
template_high t true n k q r neither = neither
template_high t false n k q r h = neither

function_high : (f : Function) (b : Bool) (n : Numbers) (k : ℕ)
    (q r : Naming (Statements Spot Meant)) → Both k statements_height q r
    → Gives (k + 1 + 1) (definitions.counted_behind n (definitions.named_in f.file IsFunction
    (if b then definitions.function_of f r else Err f.spot)))
function_high f true n k q r (both e) = is_given (λ i. (e i).1 + 1 + 1)
function_high f true n k q r neither = neither
function_high f false n k q r h = neither

definition_high : (defined : Lookup) (n : Numbers) (d : Definition)
    → Gives (tall_yet d) (definitions.named_next defined n d)
definition_high defined n (IsTemplate t) =
    template_high t _ _ _ _ _ (body_high defined t.spot t.parameters t.body)
definition_high defined n (IsFunction f) =
    function_high f _ _ _ _ _ (body_high defined f.spot f.parameters f.body)
definition_high defined n (IsMain m) =
    is_given (λ i. (exprs (opening defined) m.arguments i).1 + 1)

given_high : (n m : Step Numbers Found (List Definition)) (k : ℕ) (ds : List Definition)
    → Both k (highest tall) n m → definitions.given_by m ≡ Ok ds → highest tall ds ≡ k
given_high n m k ds (both {b = es} p) e =
    let same : k ≡ highest tall es = λ i. (p i).1 in cc
given_high n m k ds neither e = cc

-- by kinds
all_low : (names : List (List ℕ)) (ds : List Definition) → highest tall ds ≤ 256
    → IsLow (program_with names ds)
all_low names [] h = record { templates = tt; functions = tt; mains = tt }
all_low names (IsTemplate t ∷ ds) h =
    let low = all_low names ds (omega arith) in search arith
all_low names (_ ∷ ds) h = let low = all_low names ds (omega arith) in search arith

-- the program of resolved definitions of low files
pub low_program : (names : List (List ℕ)) (sources : List Source) (ds : List Definition)
    → All IsDecoded (map seen sources)
    → definitions.resolved (definitions_from 0 (map tree_of sources)) ≡ Ok ds
    → IsLow (program_with names ds)
low_program names sources ds read named =
    let before : List Definition = definitions_from 0 (map tree_of sources) in
    let step = definitions.named_next (definitions.defined_by nothing definitions.first_numbers
    before) in
    all_low names ds (omega (
      arith,
      low_files 0 sources read,
      ap (highest tall_yet) (map-id before),
      given_high _ (definitions.named_all before) _ ds
          (both_turn (λ d. d) tall_yet tall step step (definition_high _)
          definitions.first_numbers before) named,
    ))
