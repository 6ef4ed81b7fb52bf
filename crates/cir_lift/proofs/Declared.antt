-- What a template declares, by the list of its statements.
use Rattle.std.proofs.Common.{◌≡◌, ◌∙◌, ℕ, ◌+◌, ◌<◌, List, [], ◌++◌, length, drop, get_or, ap, sym}
use Rattle.std.proofs.Common.{append_assoc}
use Rattle.std.specs.Prelude.{map, Some, None, slice_get, option_map}
use Rattle.std.proofs.lemmas.Option.{slice_get-map}
use Rattle.cir_ast.specs.declared.marked.Block.{out-Block}
use Rattle.cir_ast.specs.declared.marked.Statement.{Statement as CodeStatement}
use Rattle.cir_ast.specs.declared.operators.Direction.{Direction}
use Rattle.cir_ast.specs.declared.program.Spot.{Spot}
use Rattle.cir_ast.specs.declared.program.Meant.{Meant}
use Rattle.cir_ast.specs.declared.program.Meant.TheVariants as meant
use Rattle.cir_ast.specs.declared.program.Template.{Template as CodeTemplate}
use Rattle.cir_ast.specs.declared.program.Program.{Program as CodeProgram}
use Rattle.cir_ast.specs.Program.{bare_program, bare_template}
use Rattle.cir_ast.specs.Tree.{Statements, bare_statement, as_statements}
use Rattle.cir_ast.proofs.Rows.{block_is}
use Rattle.cir_meaning.specs.Anonymous.{declared_here, declared_in}
use Rattle.cir_lift.specs.Made.{body_of, body_at}
use Rattle.cir_lift.proofs.Copied.{item_first}

abbrev pub body_list : List (CodeStatement Spot Meant) → Statements Spot Meant
body_list ss = as_statements (map bare_statement ss)

pub body_is : (p : CodeProgram) (t : ℕ) (x : CodeTemplate) → slice_get p.templates t ≡ Some x
    → body_list (out-Block Spot Meant x.body).statements
    ≡ body_at (bare_program p) (meant.Template t)
body_is p t x is =
    sym (block_is Spot Meant x.body)
    ∙ sym (ap body_of (slice_get-map bare_template p.templates t
    ∙ ap (option_map bare_template) is))

pub body_none : (p : CodeProgram) (t : ℕ) → slice_get p.templates t ≡ None
    → body_list [] ≡ body_at (bare_program p) (meant.Template t)
body_none p t is =
    sym (ap body_of (slice_get-map bare_template p.templates t ∙ ap (option_map bare_template) is))

-- the names of one more statement
pub declared_more : (d : Direction) (names pushed here : List (List ℕ))
    (all : List (CodeStatement Spot Meant)) (i : ℕ) (a : CodeStatement Spot Meant)
    (whole : List (List ℕ)) → i < length all → a ≡ get_or all i a → pushed ≡ names ++ here
    → here ≡ declared_here d (bare_statement a)
    → names ++ declared_in d (body_list (drop i all)) ≡ whole
    → pushed ++ declared_in d (body_list (drop (i + 1) all)) ≡ whole
declared_more d names pushed here all i a whole h is push declared before =
    let rest : List (List ℕ) = declared_in d (body_list (drop (i + 1) all)) in
    ap (λ l. l ++ rest) push
    ∙ append_assoc names here rest
    ∙ ap (λ l. names ++ (l ++ rest)) declared
    ∙ sym (ap (λ l. names ++ declared_in d (body_list l)) (item_first all i a h is))
    ∙ before
