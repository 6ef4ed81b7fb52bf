-- What is read while sources are found is the same over those that are found later.
use Rattle.std.proofs.Common.{◌≡◌, ◌∙◌, ℕ, zero, suc, false, List, [], ◌∷◌, ◌++◌, Option}
use Rattle.std.proofs.Common.{Some, None, refl, ap, ap₂, sym, subst, append-nil}
use Rattle.std.specs.Prelude.{filter, flat_map, is_some, not}
use Rattle.std.specs.List.{AllByRecursion}
use Rattle.std.specs.Option.{option_copied}
use Rattle.cir_ast.specs.declared.operators.Binary.{Binary as BinaryOp}
use Rattle.cir_ast.specs.declared.program.Meant.{Meant}
use Rattle.cir_ast.specs.declared.program.Meant.TheVariants as meant
use Rattle.cir_ast.specs.declared.program.Spot.{Spot}
use Rattle.cir_ast.specs.Tree.{Expr, Number, Binary, Choice, Exprs, more, Accessors, index, member}
use Rattle.cir_ast.specs.Tree.{Assign, Assigned, Ended}
use Rattle.cir_meaning.specs.Texts as X
use Rattle.cir_meaning.specs.Writing.{plain}
use Rattle.cir_meaning.specs.Operators.{operator_of}
use Rattle.wit_lower.specs.Homes as L
use Rattle.wit_lower.specs.Pieces.{decided}
use Rattle.wit_lower.specs.Sources as R
use Rattle.wit_lower.specs.Tasks as T
use Rattle.cir_emit.specs.Reads as E
use Rattle.cir_emit.proofs.Lists.{all_of}
use Rattle.wit_sourced.specs.Loaded.{Calls, called_in, changed_of, components_in}
use Rattle.wit_emit.specs.Asked.{asked}
use Rattle.wit_sources.specs.Given.{Offer, IsGiven, IsTold, Seen, Adds, Reads}
use Rattle.wit_sources.specs.declared.setting.Setting.{Setting}
use Rattle.wit_sources.specs.Collected.{ground_with, homes_of}
use Rattle.wit_sources.specs.Fronts.{port_by}
use Rattle.wit_sources.proofs.Added.{adds_none, adds_both, given_behind, told_later}
use Rattle.wit_sources.proofs.Alike.{known_same, reads_same}
use Rattle.wit_sources.proofs.AlikeTasks.{flat_same, kept_same}

module _ (homes : L.Homes) (offer : Offer) where
  pub reads_none : (one : Seen) → Reads homes offer one one []
  reads_none one given = adds_none homes offer one

  pub reads_both : (one two three : Seen) (first second : List E.Reading)
      → Reads homes offer one two first → Reads homes offer two three second
      → Reads homes offer one three (first ++ second)
  reads_both one two three first second x y given =
      let a = x given in
      adds_both homes offer one two three first second a
      (y (given_behind homes offer one two first a given))

pub none_of : (o : Option ℕ) → is_some o ≡ false → o ≡ None
none_of None e = refl
none_of (Some n) e = cc

pub side_first : (n : ℕ) → (n ≡ 0 → ⊥) → (first second : List E.Reading)
    → E.sides (Some n) first second ≡ first
side_first zero other first second = absurd (other refl)
side_first (suc n) other first second = refl

module _ (s : Setting) (shapes : List R.Shape) (offer : Offer) where
  abbrev components : ℕ → List ℕ
  components = components_in s.components.now

  abbrev changed : List ℕ
  changed = changed_of (option_copied s.changed)

  abbrev called : Calls
  called = called_in s.calls.now

  abbrev pub ground : List R.Source → L.Ground
  ground list = ground_with s shapes list

  abbrev pub homes : L.Homes
  homes = homes_of shapes

  abbrev pub Then : (one two : Seen) → List E.Reading → Type 0
  Then one two reads = Reads homes offer one two reads

  abbrev pub Steady : (List R.Source → List E.Reading) → Type 0
  Steady F =
      (xs ys : List R.Source)
      → AllByRecursion (λ r. R.input_of r.name xs r.element ≡ R.input_of r.name ys r.element) (F xs)
      → F xs ≡ F ys

  itself : (calls : List (Expr Meant)) → AllByRecursion (λ c. called c ≡ called c) calls
  itself calls = all_of (λ c. called c ≡ called c) calls (λ c. refl)

  alike : (xs ys : List R.Source) (reads : List E.Reading)
      → AllByRecursion (IsTold homes offer xs) reads → AllByRecursion (IsTold homes offer ys) reads
      → AllByRecursion (λ r. R.input_of r.name xs r.element ≡ R.input_of r.name ys r.element) reads
  alike xs ys [] a b = tt
  alike xs ys (r ∷ reads) a b = (a.0 ∙ sym b.0, alike xs ys reads a.1 b.1)

  pub reads_then : (F : List R.Source → List E.Reading) → Steady F → (one two three : Seen)
      (second : List E.Reading) → Then one two (F two.list) → Then two three second
      → Then one three (F three.list ++ second)
  reads_then F steady one two three second x y given =
      let a = x given in
      let b = y (given_behind homes offer one two (F two.list) a given) in
      let later = told_later homes offer two three (F two.list) second a.told b in
      subst (λ first. Adds homes offer one three (first ++ second))
      (steady two.list three.list (alike two.list three.list (F two.list) a.told later))
      (adds_both homes offer one two three (F two.list) second a b)

  pub expr_steady : (e : Expr Meant) → Steady (λ xs. E.expr_reads (ground xs) homes e)
  expr_steady e xs ys all =
      reads_same shapes components changed [] [] called called xs ys e (itself (asked e)) all

  -- and so is the number that is known
  pub known_kept : (e : Expr Meant) (one two three : Seen) (second : List E.Reading)
      → Then one two (E.expr_reads (ground two.list) homes e) → Then two three second
      → AllByRecursion (IsGiven homes offer) one.list
      → (ground two.list).known e ≡ (ground three.list).known e
  known_kept e one two three second x y given =
      let first = E.expr_reads (ground two.list) homes e in
      let a = x given in
      let b = y (given_behind homes offer one two first a given) in
      known_same shapes components changed [] [] called called two.list three.list e
      (itself (asked e)) (alike two.list three.list first a.told
      (told_later homes offer two three first second a.told b))

  pub expr_then : (e : Expr Meant) (one two three : Seen) (second : List E.Reading)
      → Then one two (E.expr_reads (ground two.list) homes e) → Then two three second
      → Then one three (E.expr_reads (ground three.list) homes e ++ second)
  expr_then e one two three second x y =
      reads_then (λ xs. E.expr_reads (ground xs) homes e) (expr_steady e) one two three second x y

  pub binary_read : (o : BinaryOp) (a b : Expr Meant) (one two three : Seen)
      → decided (operator_of o) ((ground two.list).known a) ≡ None
      → Then one two (E.expr_reads (ground two.list) homes a)
      → Then two three (E.expr_reads (ground three.list) homes b)
      → Then one three (E.expr_reads (ground three.list) homes (Binary o a b))
  binary_read o a b one two three none x y given =
      let left = E.expr_reads (ground three.list) homes a in
      let right = E.expr_reads (ground three.list) homes b in
      let same = known_kept a one two three right x y given in
      let undecided : decided (operator_of o) ((ground three.list).known a) ≡ None =
      ap (decided (operator_of o)) (sym same) ∙ none in
      subst (λ d. Adds homes offer one three (left ++ E.unless_skipped d right)) (sym undecided)
      (expr_then a one two three right x y given)

  -- a number is read nowhere
  pub step_read : (o : BinaryOp) (a : Expr Meant) (n : ℕ) (one two : Seen)
      → Then one two (E.expr_reads (ground two.list) homes a)
      → Then one two (E.expr_reads (ground two.list) homes (Binary o a (Number n)))
  step_read o a n one two x =
      at (decided (operator_of o) ((ground two.list).known a))
      (E.expr_reads (ground two.list) homes a) x
    where
      at : (d : Option ℕ) (left : List E.Reading) → Then one two left
          → Then one two (left ++ E.unless_skipped d [])
      at None left x = subst (Then one two) (sym (append-nil left)) x
      at (Some m) left x = subst (Then one two) (sym (append-nil left)) x

  pub choice_read : (t a b : Expr Meant) (one two three : Seen)
      → Then one two (E.expr_reads (ground two.list) homes t)
      → Then two three (E.sides ((ground two.list).known t)
      (E.expr_reads (ground three.list) homes a) (E.expr_reads (ground three.list) homes b))
      → Then one three (E.expr_reads (ground three.list) homes (Choice t a b))
  choice_read t a b one two three x y given =
      let first = E.expr_reads (ground three.list) homes a in
      let second = E.expr_reads (ground three.list) homes b in
      let sides = E.sides ((ground two.list).known t) first second in
      subst (λ k. Adds homes offer one three (E.expr_reads (ground three.list) homes t
      ++ E.sides k first second)) (known_kept t one two three sides x y given)
      (expr_then t one two three sides x y given)

  pub all_read : (e : Expr Meant) (es : Exprs Meant) (one two three : Seen)
      → Then one two (E.expr_reads (ground two.list) homes e)
      → Then two three (E.exprs_reads (ground three.list) homes es)
      → Then one three (E.exprs_reads (ground three.list) homes (more e es))
  all_read e es one two three x y =
      expr_then e one two three (E.exprs_reads (ground three.list) homes es) x y

  -- ---- places
  pub port_is : (list : List R.Source) (f : E.Front) (indices : List (Option ℕ)) (name : List ℕ)
      → E.port_of (ground list) f indices name ≡ port_by components f indices name
  port_is list (E.Written meant.Other) indices name = refl
  port_is list (E.Written (meant.Variable n)) indices name = refl
  port_is list (E.Written (meant.Signal direction n)) indices name = refl
  port_is list (E.Written (meant.Component n)) indices name = refl
  port_is list (E.Written (meant.Template n)) indices name = refl
  port_is list (E.Written (meant.Function n)) indices name = refl
  port_is list (E.Reached x) indices name = refl

  pub index_read : (f : E.Front) (indices : List (Option ℕ)) (e : Expr Meant)
      (rest : Accessors Meant) (one two three : Seen)
      → Then one two (E.expr_reads (ground two.list) homes e)
      → Then two three (E.place_reads (ground three.list) homes f
      (indices ++ (ground two.list).known e ∷ []) rest)
      → Then one three (E.place_reads (ground three.list) homes f indices (index e rest))
  index_read f indices e rest one two three x y given =
      let behind = λ (n : Option ℕ).
      E.place_reads (ground three.list) homes f (indices ++ n ∷ []) rest in
      let known = (ground two.list).known e in
      subst (λ n. Adds homes offer one three (E.expr_reads (ground three.list) homes e ++ behind n))
      (known_kept e one two three (behind known) x y given)
      (expr_then e one two three (behind known) x y given)

  pub member_read : (f : E.Front) (indices : List (Option ℕ)) (name : List ℕ)
      (rest : Accessors Meant) (one two : Seen)
      → Then one two (E.place_reads (ground two.list) homes
      (E.Reached (port_by components f indices name)) [] rest)
      → Then one two (E.place_reads (ground two.list) homes f indices (member name rest))
  member_read f indices name rest one two x =
      subst (λ p. Then one two (E.place_reads (ground two.list) homes (E.Reached p) [] rest))
      (sym (port_is two.list f indices name)) x

  -- ---- statements
  abbrev pub texts_read : List R.Source → List X.Wanted → List E.Reading
  texts_read list ws = flat_map (λ w. E.expr_reads (ground list) homes w.expr) ws

  texts_steady : (ws : List X.Wanted) → Steady (λ list. texts_read list ws)
  texts_steady ws xs ys all =
      flat_same shapes components changed [] [] called called xs ys (λ w. w.expr) ws
      (itself (flat_map (λ w. asked w.expr) ws)) all

  pub texts_then : (ws : List X.Wanted) (one two three : Seen) (second : List E.Reading)
      → Then one two (texts_read two.list ws) → Then two three second
      → Then one three (texts_read three.list ws ++ second)
  texts_then ws one two three second x y =
      reads_then (λ list. texts_read list ws) (texts_steady ws) one two three second x y

  abbrev pub unwritten : List R.Source → Assign Meant → List T.Element → List E.Reading
  unwritten list p targets =
      E.targets_kept (filter (λ t. not (E.is_written (ground list) homes p t)) targets)

  -- an assignment keeps what it doesn't write
  pub assign_read : (a : Assign Meant) (spot : Spot) (targets : List T.Element)
      (one two three : Seen) → Then one two (texts_read two.list (X.assign_wanted a))
      → Then two three (unwritten two.list (plain a) targets)
      → Then one three (E.task_reads (ground three.list) homes
      (T.Executes (Ended spot (Assigned a)) targets))
  assign_read a spot targets one two three x y given =
      let texts = X.assign_wanted a in
      let first = texts_read two.list texts in
      let second = unwritten two.list (plain a) targets in
      let b = x given in
      let c = y (given_behind homes offer one two first b given) in
      let same = alike two.list three.list first b.told
      (told_later homes offer two three first second b.told c) in
      let kept = kept_same shapes components changed [] [] called called two.list three.list
      (Ended spot (Assigned a)) targets (itself (flat_map (λ w. asked w.expr) texts)) same in
      subst (Adds homes offer one three)
      (ap₂ (λ u v. u ++ v) (texts_steady texts two.list three.list same) kept)
      (adds_both homes offer one two three first second b c)
