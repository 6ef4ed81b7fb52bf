-- Templates whose signals are declared in the order of their numbers, and not in a loop, and in
-- which nothing returns: of other ones nothing is told here.
use Rattle.std.specs.Prelude.{ℕ, ◌<◌, List, [], ◌∷◌, Some, slice_get, ◌≡◌, ◌≢◌, ⊤}
use Rattle.cir_ast.specs.declared.program.Spot.{Spot}
use Rattle.cir_ast.specs.declared.program.Meant.{Meant}
use Rattle.cir_ast.specs.declared.program.Meant.TheVariants as meant
use Rattle.cir_ast.specs.Program.{Program, Template}
use Rattle.cir_ast.specs.Tree.{Signal, Simple, Signals, Statement, Block, If, IfElse, While, For}
use Rattle.cir_ast.specs.Tree.{Return, Assert, Log, Ended, Statements, empty, then_more}

-- the numbers of the signals that a statement declares, in front of others
abbrev pub told : Meant → List ℕ → List ℕ
told (meant.Variable n) ns = n ∷ ns
told (meant.Signal direction n) ns = n ∷ ns
told (meant.Component n) ns = n ∷ ns
told _ ns = ns

abbrev pub told_all : List (Signal Meant) → List ℕ → List ℕ
told_all [] ns = ns
told_all (d ∷ ds) ns = told d.meant (told_all ds ns)

abbrev pub simple_told : Simple Meant → List ℕ → List ℕ
simple_told (Signals direction ds) ns = told_all ds ns
simple_told _ ns = ns

abbrev mutual
  pub declares : Statement Spot Meant → List ℕ → List ℕ
  declares (Block spot ss) ns = all_declare ss ns
  declares (If spot c a) ns = declares a ns
  declares (IfElse spot c a b) ns = declares a (declares b ns)
  declares (While spot c a) ns = declares a ns
  declares (For spot first_spot f c step_spot a body) ns = declares body ns
  declares (Return spot e) ns = ns
  declares (Assert spot e) ns = ns
  declares (Log spot arguments) ns = ns
  declares (Ended spot x) ns = simple_told x ns

  pub all_declare : Statements Spot Meant → List ℕ → List ℕ
  all_declare empty ns = ns
  all_declare (then_more a rest) ns = declares a (all_declare rest ns)

-- no statement of a template returns, and none declares signals in a loop
abbrev pub DeclaresNone : Statement Spot Meant → Type 0
DeclaresNone a = (ns : List ℕ) → declares a ns ≡ ns

abbrev mutual
  pub IsPlain : Statement Spot Meant → Type 0
  IsPlain (Block spot ss) = ArePlain ss
  IsPlain (If spot c a) = IsPlain a
  IsPlain (IfElse spot c a b) = IsPlain a × IsPlain b
  IsPlain (While spot c a) = IsPlain a × DeclaresNone a
  IsPlain (For spot first_spot f c step_spot a body) = IsPlain body × DeclaresNone body
  IsPlain (Return spot e) = ⊥
  IsPlain (Assert spot e) = ⊤
  IsPlain (Log spot arguments) = ⊤
  IsPlain (Ended spot x) = ⊤

  pub ArePlain : Statements Spot Meant → Type 0
  ArePlain empty = ⊤
  ArePlain (then_more a rest) = IsPlain a × ArePlain rest

-- numbers of which none comes twice
abbrev pub Apart : ℕ → List ℕ → Type 0
Apart n [] = ⊤
Apart n (m ∷ ms) = (n ≢ m) × Apart n ms

abbrev pub AreApart : List ℕ → Type 0
AreApart [] = ⊤
AreApart (n ∷ ns) = Apart n ns × AreApart ns

-- numbers of which each is above those before it
abbrev pub Below : ℕ → List ℕ → Type 0
Below n [] = ⊤
Below n (m ∷ ms) = (n < m) × Below n ms

abbrev pub AreRising : List ℕ → Type 0
AreRising [] = ⊤
AreRising (n ∷ ns) = Below n ns × AreRising ns

-- a template whose signals are declared in the order of their numbers, and not in a loop, and in
-- which nothing returns
abbrev pub IsTemplate : Template → Type 0
IsTemplate t = ArePlain t.body × AreRising (all_declare t.body [])

abbrev pub AreTemplates : Program → Type 0
AreTemplates p = (n : ℕ) (t : Template) → slice_get p.templates n ≡ Some t → IsTemplate t
