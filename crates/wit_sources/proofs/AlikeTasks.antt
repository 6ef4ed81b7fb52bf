-- The same of tasks.
use Rattle.std.proofs.Common.{◌≡◌, ℕ, List, [], ◌∷◌, ◌++◌, map, refl, ap, ap₂}
use Rattle.std.specs.Prelude.{◌==◌, ◌&&◌, not, filter, flat_map}
use Rattle.std.specs.List.{list_any, AllByRecursion}
use Rattle.cir_ast.specs.declared.program.Meant.{Meant}
use Rattle.cir_ast.specs.declared.program.Meant.TheVariants as meant
use Rattle.cir_ast.specs.declared.program.Spot.{Spot}
use Rattle.cir_ast.specs.Tree.{Expr, Assign, Set, Compound, Left, Increment, Decrement, Vars}
use Rattle.cir_ast.specs.Tree.{Signals, Declared, Created, Assigned, Constrain, Right, TargetLeft}
use Rattle.cir_ast.specs.Tree.{TargetRight, Alone, Statement, Block, If, IfElse, While, For, Return}
use Rattle.cir_ast.specs.Tree.{Assert, Log, Ended}
use Rattle.cir_meaning.specs.Costs.{Made}
use Rattle.cir_meaning.specs.Texts as X
use Rattle.cir_meaning.specs.Writing.{plain}
use Rattle.wit_lower.specs.Homes as L
use Rattle.wit_lower.specs.Sources as R
use Rattle.wit_lower.specs.Tasks as T
use Rattle.cir_emit.specs.Reads as E
use Rattle.wit_sourced.specs.Loaded.{Calls}
use Rattle.wit_emit.specs.Asked.{asked}
use Rattle.wit_statements.specs.Asked.{asked_by}
use Rattle.wit_sources.proofs.Alike as A

module _ (shapes : List R.Shape) (components : ℕ → List ℕ) (changed : List ℕ)
    (keys others : List Made) (one two : Calls) (xs ys : List R.Source) where
  abbrev g : L.Ground
  g = A.g shapes components changed keys others one two xs ys

  abbrev h : L.Ground
  h = A.h shapes components changed keys others one two xs ys

  abbrev homes : L.Homes
  homes = A.homes shapes components changed keys others one two xs ys

  abbrev Agree : List (Expr Meant) → Type 0
  Agree calls = AllByRecursion (λ c. one c ≡ two c) calls

  abbrev Alike : List E.Reading → Type 0
  Alike reads =
      AllByRecursion (λ r. R.input_of r.name xs r.element ≡ R.input_of r.name ys r.element) reads

  front : (a b : List (Expr Meant)) → Agree (a ++ b) → Agree a
  front = A.front shapes components changed keys others one two xs ys

  back : (a b : List (Expr Meant)) → Agree (a ++ b) → Agree b
  back = A.back shapes components changed keys others one two xs ys

  parts : (a b : List E.Reading) → Alike (a ++ b) → Alike a × Alike b
  parts = A.parts shapes components changed keys others one two xs ys

  reads_same : (e : Expr Meant) → Agree (asked e) → Alike (E.expr_reads g homes e)
      → E.expr_reads g homes e ≡ E.expr_reads h homes e
  reads_same = A.reads_same shapes components changed keys others one two xs ys

  pub flat_same : {B : Type 0} (F : B → Expr Meant) (bs : List B)
      → Agree (flat_map (λ b. asked (F b)) bs)
      → Alike (flat_map (λ b. E.expr_reads g homes (F b)) bs)
      → flat_map (λ b. E.expr_reads g homes (F b)) bs
      ≡ flat_map (λ b. E.expr_reads h homes (F b)) bs
  flat_same F [] c all = refl
  flat_same F (b ∷ bs) c all =
      let rest = flat_map (λ b. asked (F b)) bs in
      let both = parts (E.expr_reads g homes (F b))
      (flat_map (λ b. E.expr_reads g homes (F b)) bs) all in
      ap₂ (λ a z. a ++ z) (reads_same (F b) (front (asked (F b)) rest c) both.0)
      (flat_same F bs (back (asked (F b)) rest c) both.1)

  numbers_same : (es : List (Expr Meant))
      → Agree (flat_map (λ x. asked x.expr) (X.numbers_wanted es))
      → Alike (flat_map (λ x. E.expr_reads g homes x.expr) (X.numbers_wanted es))
      → map g.known es ≡ map h.known es
  numbers_same [] c all = refl
  numbers_same (e ∷ es) c all =
      let rest = flat_map (λ x. asked x.expr) (X.numbers_wanted es) in
      let both = parts (E.expr_reads g homes e)
      (flat_map (λ x. E.expr_reads g homes x.expr) (X.numbers_wanted es)) all in
      ap₂ (λ k ks. k ∷ ks) (A.known_same shapes components changed keys others one two xs ys e
      (front (asked e) rest c) both.0) (numbers_same es (back (asked e) rest c) both.1)

  pub written_same : (p : Assign Meant) → Agree (flat_map (λ x. asked x.expr) (X.plain_wanted p))
      → Alike (flat_map (λ x. E.expr_reads g homes x.expr) (X.plain_wanted p)) → (t : T.Element)
      → E.is_written g homes p t ≡ E.is_written h homes p t
  written_same (Set name (meant.Variable n) accessors e) c all t =
      let es = X.indices_of accessors in
      let both = parts (E.expr_reads g homes e)
      (flat_map (λ x. E.expr_reads g homes x.expr) (X.numbers_wanted es)) all in
      ap (λ ks. (n == t.variable) && list_any (λ k. k == t.element)
      (E.sure_places (L.find (L.Variable n) homes) ks)) (numbers_same es
      (back (asked e) (flat_map (λ x. asked x.expr) (X.numbers_wanted es)) c) both.1)
  written_same (Set name meant.Other accessors e) c all t = refl
  written_same (Set name (meant.Signal direction n) accessors e) c all t = refl
  written_same (Set name (meant.Component n) accessors e) c all t = refl
  written_same (Set name (meant.Template n) accessors e) c all t = refl
  written_same (Set name (meant.Function n) accessors e) c all t = refl
  written_same (Compound name m accessors o e) c all t = refl
  written_same (Left name m accessors arrow e) c all t = refl
  written_same (Increment name m accessors) c all t = refl
  written_same (Decrement name m accessors) c all t = refl

  pub kept_same : (a : Statement Spot Meant) (targets : List T.Element)
      → Agree (flat_map (λ x. asked x.expr) (X.wanted_in a))
      → Alike (flat_map (λ x. E.expr_reads g homes x.expr) (X.wanted_in a))
      → E.kept g homes a targets ≡ E.kept h homes a targets
  kept_same (Ended spot (Assigned x)) targets c all = λ i.
      E.targets_kept (filter (λ t. not (written_same (plain x) c all t i)) targets)
  kept_same (Ended spot (Vars vs)) targets c all = refl
  kept_same (Ended spot (Signals direction ds)) targets c all = refl
  kept_same (Ended spot (Declared cs)) targets c all = refl
  kept_same (Ended spot (Created name m e)) targets c all = refl
  kept_same (Ended spot (Constrain e f)) targets c all = refl
  kept_same (Ended spot (Right e arrow name m accessors)) targets c all = refl
  kept_same (Ended spot (TargetLeft t arrow x)) targets c all = refl
  kept_same (Ended spot (TargetRight x arrow t)) targets c all = refl
  kept_same (Ended spot (Alone parallel name m arguments inputs)) targets c all = refl
  kept_same (Block spot ss) targets c all = refl
  kept_same (If spot t x) targets c all = refl
  kept_same (IfElse spot t x y) targets c all = refl
  kept_same (While spot t x) targets c all = refl
  kept_same (For spot first_spot f t step_spot step body) targets c all = refl
  kept_same (Return spot e) targets c all = refl
  kept_same (Assert spot e) targets c all = refl
  kept_same (Log spot arguments) targets c all = refl

  pub task_same : (task : T.Task) → Agree (asked_by task) → Alike (E.task_reads g homes task)
      → E.task_reads g homes task ≡ E.task_reads h homes task
  task_same (T.Gives e) c all = reads_same e c all
  task_same (T.Equal a b) c all =
      let both = parts (E.expr_reads g homes a) (E.expr_reads g homes b) all in
      ap₂ (λ x y. x ++ y) (reads_same a (front (asked a) (asked b) c) both.0)
      (reads_same b (back (asked a) (asked b) c) both.1)
  task_same (T.Logs es) c all = flat_same (λ e. e) es c all
  task_same (T.Executes a targets) c all =
      let both = parts (flat_map (λ x. E.expr_reads g homes x.expr) (X.wanted_in a))
      (E.kept g homes a targets) all in
      ap₂ (λ x y. x ++ y) (flat_same (λ x. x.expr) (X.wanted_in a) c both.0)
      (kept_same a targets c both.0)
