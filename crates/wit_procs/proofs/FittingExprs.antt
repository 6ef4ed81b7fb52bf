-- An expression that the rules give a shape has code of this shape: what it names has a home, and
-- its calls are in the table.
use Rattle.std.proofs.Common.{◌≡◌, ◌∙◌, ℕ, zero, suc, ◌+◌, ◌≤◌, List, [], ◌∷◌, ◌++◌, length, drop}
use Rattle.std.proofs.Common.{refl, ap, ap₂, sym, subst, arith, length-append}
use Rattle.std.specs.Prelude.{true, false, ◌||◌, map, Option, Some, None, unwrap_or}
use Rattle.std.specs.List.{list_all, AllByRecursion}
use Rattle.std.specs.Cmp.Lexicographic.{bytes_decides}
use Rattle.std.proofs.lemmas.Bool.{and_parts, or_parts}
use Rattle.cir_ast.specs.declared.program.Meant.{Meant}
use Rattle.cir_ast.specs.declared.program.Meant.TheVariants as meant
use Rattle.cir_ast.specs.Tree.{Expr, Number, Place, Call, Anonymous, Parentheses, Array, Unary}
use Rattle.cir_ast.specs.Tree.{Binary, Choice, Exprs, none, more, Accessors, done, index, member}
use Rattle.cir_meaning.specs.Arrays.{Want, Scalar, Whole, same_dims}
use Rattle.cir_meaning.specs.Costs.{Made}
use Rattle.cir_meaning.specs.Evaluate.{is_literal}
use Rattle.cir_meaning.specs.Functions as F
use Rattle.cir_meaning.specs.Operators.{operator_of}
use Rattle.cir_meaning.specs.Reached.{indices_count, is_misplaced, any_misplaced}
use Rattle.cir_meaning.specs.Reached.{argument_misplaced, index_misplaced}
use Rattle.cir_meaning.specs.Scoped.{Scope, AreCallsMeant, AreAllMeant, AreIndicesMeant}
use Rattle.cir_meaning.specs.SignalFree.{IsFreeExpr, AreFree, AreFreeIndices}
use Rattle.cir_meaning.specs.Texts.{Called, list_of, calls_of, all_calls, place_calls, call_of}
use Rattle.cir_meaning.specs.Texts.{literal_number}
use Rattle.wit_lower.specs.Homes.{Variable, Home, Homes, Ground, Named, find}
use Rattle.wit_lower.specs.Pieces.{decided}
use Rattle.wit_lower.specs.Procedures.{function_ground}
use Rattle.wit_lower.specs.Values.{shape_of, shapes_of, place_shape, part_shape, count_of}
use Rattle.wit_lower.specs.Fits.{HasKey, HaveShape, UnlessSkipped, Sides, Fits, AllFit, PlaceFits}
use Rattle.wit_lower.specs.Fits.{TestFits}
use Rattle.wit_procs.proofs.Given.{all_front, all_back, of_variable, of_function, given_by}
use Rattle.wit_procs.proofs.Given.{same_given, fitting_is, Left, left_is, EachShape, elements_given}
use Rattle.wit_procs.proofs.Given.{Literal, literal_given, number_shape}

-- a variable has a home of these dimensions
pub record HasDims (homes : Homes) (n : ℕ) (dims : List ℕ) : Type 0 where
  pub home : Home
  pub found : find (Variable n) homes ≡ Some home
  pub is : home.dims ≡ dims

unless_skipped : (o : Option ℕ) (A : Type 0) → A → UnlessSkipped o A
unless_skipped None A a = a
unless_skipped (Some n) A a = tt

sides : (o : Option ℕ) (A B : Type 0) → A → B → Sides o A B
sides None A B a b = (a, b)
sides (Some zero) A B a b = b
sides (Some (suc n)) A B a b = a

module _ (functions : ℕ) (keys : List Made) (dims : ℕ → List ℕ) where
  abbrev g : Ground
  g = function_ground keys

  -- the shapes of arguments, as the rules have them
  abbrev pub shapes_in : List (Expr Meant) → List (List ℕ)
  shapes_in es = map (λ e. unwrap_or (F.shape_in dims Whole e) []) es

  abbrev pub HasCall : Called → Type 0
  HasCall c = HasKey keys record { function = c.function; shapes = shapes_in c.arguments }

  abbrev pub HaveCalls : List Called → Type 0
  HaveCalls cs = AllByRecursion HasCall cs

  module _ (s : Scope) (homes : Homes)
      (seen : (n : ℕ) → s.seen n ≡ true → HasDims homes n (dims n)) where
    abbrev pub IsFit : Expr Meant → List ℕ → Type 0
    IsFit e d = Fits g homes e × (shape_of g homes e ≡ d)

    -- where a number is wanted
    pub number_fit : (e : Expr Meant) (d : List ℕ) → F.shape_in dims Scalar e ≡ Some d → IsFit e d
        → TestFits g homes e
    number_fit e d h fit = (fit.0, fit.1 ∙ number_shape dims e d h)

    place_shape_is : (n : ℕ) (before : List (Option ℕ)) (accessors : Accessors Meant)
        → HasDims homes n (dims n) → AreFreeIndices functions accessors
        → place_shape g homes (Named (meant.Variable n)) before accessors
        ≡ drop (length before + indices_count accessors) (dims n)
    place_shape_is n before done h f =
        let same : length before ≡ length before + 0 = omega arith in
        ap (λ o. part_shape o (length before)) h.found ∙ ap (drop (length before)) h.is
        ∙ ap (λ k. drop k (dims n)) same
    place_shape_is n before (index e rest) h f =
        let new : List (Option ℕ) = before ++ literal_number e ∷ [] in
        let size : length new ≡ length before + 1 =
        length-append before (literal_number e ∷ []) in
        let same : length new + indices_count rest
        ≡ length before + (1 + indices_count rest) = omega (arith, size) in
        place_shape_is n new rest h f.1 ∙ ap (λ k. drop k (dims n)) same
    place_shape_is n before (member name rest) h f = absurd f

    mutual
      pub fits_expr : (want : Want) (e : Expr Meant) (d : List ℕ) → AreCallsMeant s e
          → IsFreeExpr functions e → F.shape_in dims want e ≡ Some d
          → is_misplaced want e ≡ false → HaveCalls (calls_of e) → IsFit e d
      fits_expr want (Number n) d m f h p calls = (tt, same_given [] d h)
      fits_expr want (Place name x accessors) d m f h p calls =
          of_variable
          (λ x. AreCallsMeant s (Place name x accessors)
          → F.shape_in dims want (Place name x accessors) ≡ Some d
          → IsFit (Place name x accessors) d)
          (λ n m h.
          let one = given_by (F.index_shapes dims accessors)
          (λ u. F.with_shape (F.place_shape dims (meant.Variable n) (indices_count accessors))
          (F.if_fits want)) d h in
          let two = given_by (F.place_shape dims (meant.Variable n) (indices_count accessors))
          (F.if_fits want) d one.rest in
          let left : Left (dims n) (indices_count accessors) two.shape =
          left_is dims n (indices_count accessors) two.shape two.is in
          let home : HasDims homes n (dims n) = seen n m.0 in
          let rank : 0 + indices_count accessors ≤ length (dims n) = omega (arith, left.rank) in
          let same : 0 + indices_count accessors ≡ indices_count accessors = omega arith in (
            fits_accessors n [] accessors one.shape home m.1 f.1 one.is p calls rank,
            place_shape_is n [] accessors home f.1 ∙ ap (λ k. drop k (dims n)) same
                ∙ sym left.is ∙ fitting_is want two.shape d two.rest,
          ))
          x f.0 m h
      fits_expr want (Call parallel name x arguments) d m f h p calls =
          of_function functions
          (λ x. HaveCalls (all_calls arguments ++ call_of x arguments)
          → IsFit (Call parallel name x arguments) d)
          (λ n calls.
          let one = given_by (F.shapes_fit dims arguments) (λ u. Some []) d h in
          let all = fits_arguments arguments one.shape m.1 f.1 one.is p
          (all_front HasCall (all_calls arguments)
          (call_of (meant.Function n) arguments) calls) in
          let call : HasCall record { function = n; arguments = list_of arguments } =
          (all_back HasCall (all_calls arguments)
          (call_of (meant.Function n) arguments) calls).0 in (
            (
              all.0,
              subst (λ shapes. HasKey keys record { function = n; shapes = shapes })
                  (sym all.1) call,
            ),
            same_given [] d one.rest,
          ))
          x f.0 calls
      fits_expr want (Anonymous parallel name x arguments inputs) d m f h p calls = absurd f
      fits_expr want (Parentheses e) d m f h p calls =
          fits_expr want e d m f h p calls
      fits_expr want (Array none) d m f h p calls = absurd f
      fits_expr Scalar (Array (more e es)) d m f h p calls = cc
      fits_expr Whole (Array (more e es)) d m f h p calls =
          let one = elements_given dims (more e es)
          (λ shapes. F.with_shape (F.literal_shape shapes) (F.if_fits Whole)) d h in
          let literal : Literal one.shapes d = literal_given Whole one.shapes d one.rest in
          let each : EachShape dims (more e es) (literal.first ∷ literal.others) =
          subst (EachShape dims (more e es)) literal.are one.each in
          let placed = or_parts (is_misplaced Whole e) (any_misplaced es) p in
          let first : IsFit e literal.first = fits_expr Whole e literal.first m.0 f.0 each.0
          placed.0 (all_front HasCall (calls_of e) (all_calls es) calls) in
          let others = fits_elements es literal.others literal.first m.1 f.1 each.1 literal.same
          placed.1 (all_back HasCall (calls_of e) (all_calls es) calls) in
          let shape : suc (count_of es) ∷ shape_of g homes e
          ≡ suc (length literal.others) ∷ literal.first =
          ap₂ (λ k ds. suc k ∷ ds) others.2 first.1 in (
            (
              first.0,
              others.0,
              subst (λ ds. HaveShape g homes ds es) (sym first.1) others.1,
            ),
            shape ∙ sym literal.is,
          )
      fits_expr want (Unary op a) d m f h p calls =
          let fit = fits_expr Scalar a d m f h p calls in
          (number_fit a d h fit, sym (number_shape dims a d h))
      fits_expr want (Binary op a b) d m f h p calls =
          let one = given_by (F.shape_in dims Scalar a) (λ u. F.shape_in dims Scalar b) d h in
          let placed = or_parts (is_misplaced Scalar a) (is_misplaced Scalar b) p in
          let left = fits_expr Scalar a one.shape m.0 f.0 one.is placed.0
          (all_front HasCall (calls_of a) (calls_of b) calls) in
          let right = fits_expr Scalar b d m.1 f.1 one.rest placed.1
          (all_back HasCall (calls_of a) (calls_of b) calls) in (
            (
              number_fit a one.shape one.is left,
              unless_skipped (decided (operator_of op) (literal_number a)) (TestFits g homes b)
                  (number_fit b d one.rest right),
            ),
            sym (number_shape dims b d one.rest),
          )
      fits_expr want (Choice c a b) d m f h p calls =
          let one = given_by (F.shape_in dims Scalar c)
          (λ u. F.with_shape (F.shape_in dims Scalar a) (λ v. F.shape_in dims Scalar b)) d h in
          let two = given_by (F.shape_in dims Scalar a) (λ v. F.shape_in dims Scalar b) d
          one.rest in
          let placed = or_parts (is_misplaced Scalar c)
          (is_misplaced Scalar a || is_misplaced Scalar b) p in
          let sides_placed = or_parts (is_misplaced Scalar a) (is_misplaced Scalar b) placed.1 in
          let sides_calls = all_back HasCall (calls_of c) (calls_of a ++ calls_of b) calls in
          let condition = fits_expr Scalar c one.shape m.0 f.0 one.is placed.0
          (all_front HasCall (calls_of c) (calls_of a ++ calls_of b) calls) in
          let left = fits_expr Scalar a two.shape m.1 f.1 two.is sides_placed.0
          (all_front HasCall (calls_of a) (calls_of b) sides_calls) in
          let right = fits_expr Scalar b d m.2 f.2 two.rest sides_placed.1
          (all_back HasCall (calls_of a) (calls_of b) sides_calls) in (
            (
              number_fit c one.shape one.is condition,
              sides (literal_number c) (TestFits g homes a) (TestFits g homes b)
                  (number_fit a two.shape two.is left) (number_fit b d two.rest right),
            ),
            sym (number_shape dims b d two.rest),
          )

      fits_arguments : (es : Exprs Meant) (u : List ℕ) → AreAllMeant s es
          → AreFree functions es → F.shapes_fit dims es ≡ Some u
          → argument_misplaced es ≡ false → HaveCalls (all_calls es)
          → AllFit g homes es × (shapes_of g homes es ≡ shapes_in (list_of es))
      fits_arguments none u m f h p calls = (tt, refl)
      fits_arguments (more e es) u m f h p calls =
          let one = given_by (F.shape_in dims Whole e) (λ v. F.shapes_fit dims es) u h in
          let placed = or_parts (is_literal e) (is_misplaced Whole e || argument_misplaced es) p in
          let rest_placed = or_parts (is_misplaced Whole e) (argument_misplaced es) placed.1 in
          let first = fits_expr Whole e one.shape m.0 f.0 one.is rest_placed.0
          (all_front HasCall (calls_of e) (all_calls es) calls) in
          let others = fits_arguments es u m.1 f.1 one.rest rest_placed.1
          (all_back HasCall (calls_of e) (all_calls es) calls) in (
            (first.0, others.0),
            ap₂ (λ ds rest. ds ∷ rest)
                (first.1 ∙ sym (ap (λ o. unwrap_or o []) one.is)) others.1,
          )

      fits_elements : (es : Exprs Meant) (shapes : List (List ℕ)) (first : List ℕ)
          → AreAllMeant s es → AreFree functions es → EachShape dims es shapes
          → list_all (same_dims first) shapes ≡ true → any_misplaced es ≡ false
          → HaveCalls (all_calls es)
          → AllFit g homes es × HaveShape g homes first es × (count_of es ≡ length shapes)
      fits_elements none [] first m f each same p calls = (tt, tt, refl)
      fits_elements none (d ∷ ds) first m f each same p calls = absurd each
      fits_elements (more e es) [] first m f each same p calls = absurd each
      fits_elements (more e es) (d ∷ ds) first m f each same p calls =
          let both = and_parts (same_dims first d) (list_all (same_dims first) ds) same in
          let is : first ≡ d = (bytes_decides first d).0 both.0 in
          let placed = or_parts (is_misplaced Whole e) (any_misplaced es) p in
          let one = fits_expr Whole e d m.0 f.0 each.0 placed.0
          (all_front HasCall (calls_of e) (all_calls es) calls) in
          let others = fits_elements es ds first m.1 f.1 each.1 both.1 placed.1
          (all_back HasCall (calls_of e) (all_calls es) calls) in
          ((one.0, others.0), (one.1 ∙ sym is, others.1), ap suc others.2)

      fits_accessors : (n : ℕ) (before : List (Option ℕ)) (accessors : Accessors Meant)
          (u : List ℕ) → HasDims homes n (dims n) → AreIndicesMeant s accessors
          → AreFreeIndices functions accessors → F.index_shapes dims accessors ≡ Some u
          → index_misplaced accessors ≡ false → HaveCalls (place_calls accessors)
          → length before + indices_count accessors ≤ length (dims n)
          → PlaceFits g homes (Named (meant.Variable n)) before accessors
      fits_accessors n before done u home m f h p calls rank =
          let size : length home.home.dims ≡ length (dims n) = ap length home.is in
          record { at = home.home; found = home.found; rank = omega (arith, rank, size) }
      fits_accessors n before (index e rest) u home m f h p calls rank =
          let one = given_by (F.shape_in dims Scalar e) (λ v. F.index_shapes dims rest) u h in
          let placed = or_parts (is_misplaced Scalar e) (index_misplaced rest) p in
          let fit = fits_expr Scalar e one.shape m.0 f.0 one.is placed.0
          (all_front HasCall (calls_of e) (place_calls rest) calls) in
          let new : List (Option ℕ) = before ++ literal_number e ∷ [] in
          let size : length new ≡ length before + 1 =
          length-append before (literal_number e ∷ []) in
          let number = number_fit e one.shape one.is fit in (
            number.0,
            number.1,
            fits_accessors n new rest u home m.1 f.1 one.rest placed.1
                (all_back HasCall (calls_of e) (place_calls rest) calls)
                (omega (arith, rank, size)),
          )
      fits_accessors n before (member name rest) u home m f h p calls rank = absurd f
