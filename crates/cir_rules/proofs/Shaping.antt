-- What the definitions say of shapes.
use Rattle.std.proofs.Common.{◌≡◌, ◌∙◌, ℕ, zero, suc, ◌<◌, List, [], get_or, subst, rules, ◌∷◌}
use Rattle.std.proofs.Common.{◌++◌, length, drop, refl, ap, sym, arith}
use Rattle.std.specs.Prelude.{Bool, true, false, ◌&&◌, if◌then◌else◌, map, nat_lt, is_some, Option}
use Rattle.std.specs.Prelude.{Some, None, Result, IfOk}
use Rattle.std.specs.List.{list_all}
use Rattle.std.proofs.lemmas.Bool.Decides.{nat_tests}
use Rattle.std.specs.declared.vec.Vec.{Vec}
use Rattle.std.specs.declared.alloc.Global.{Global}
use Rattle.cir_ast.specs.declared.marked.Expr.{Expr as CodeExpr}
use Rattle.cir_ast.specs.declared.marked.Expr.TheVariants as expr
use Rattle.cir_ast.specs.declared.marked.Place.{Place as CodePlace}
use Rattle.cir_ast.specs.declared.program.Meant.{Meant}
use Rattle.cir_ast.specs.declared.program.Meant.TheVariants as meant
use Rattle.cir_ast.specs.Tree.{Expr, Exprs, none, more, Place, Call, Array, bare, bare_exprs}
use Rattle.cir_ast.specs.Tree.{as_accessors}
use Rattle.cir_ast.proofs.Rows.{exprs_are, accessors_are}
use Rattle.cir_meaning.specs.Arrays.{Want, Whole, same_dims}
use Rattle.cir_meaning.specs.Functions as F
use Rattle.cir_meaning.specs.Reached.{indices_count}
use Rattle.cir_rules.specs.Ranked.{list_in}
use Rattle.cir_rules.specs.Shaped.{following, all_shapes, lists_in, literal_of, dropped}

abbrev pub in_front : List (List ℕ) → Option (List (List ℕ)) → Option (List (List ℕ))
in_front shapes None = None
in_front shapes (Some rest) = Some (shapes ++ rest)

pub gives : {R A E : Type 0} (r : Result R E) (view : R → A) (x y : A)
    → IfOk r (λ o. view o ≡ x) → x ≡ y → IfOk r (λ o. view o ≡ y)
gives r view x y h e = let P : _ → Type 0 = λ z. IfOk r (λ o. view o ≡ z) in subst P e h

pub map_bare : {A : Type 0} (f : Expr Meant → A) (es : List (CodeExpr Meant))
    → map f (map bare es) ≡ map (λ e. f (bare e)) es
map_bare f [] = refl
map_bare f (e ∷ es) = ap (λ rest. f (bare e) ∷ rest) (map_bare f es)

pub with_none : (o : Option (List ℕ)) (go : List ℕ → Option (List ℕ)) → is_some o ≡ false
    → F.with_shape o go ≡ None
with_none None go h = refl
with_none (Some shape) go h = cc

pub list_none : (o : Option (Vec ℕ Global)) (go : List ℕ → Option (List ℕ)) → is_some o ≡ false
    → F.with_shape (list_in o) go ≡ None
list_none None go h = refl
list_none (Some shape) go h = cc

pub with_some : (o x : Option (List ℕ)) → is_some o ≡ true → F.with_shape o (λ u. x) ≡ x
with_some None x h = cc
with_some (Some shape) x h = refl

-- ---- lists of expressions
abbrev pub going : Option (List (List ℕ)) → (List (List ℕ) → Option (List ℕ)) → Option (List ℕ)
going None go = None
going (Some shapes) go = go shapes

going_following : (shape : List ℕ) (o : Option (List (List ℕ)))
    (go : List (List ℕ) → Option (List ℕ))
    → going o (λ shapes. go (shape ∷ shapes)) ≡ going (following shape o) go
going_following shape None go = refl
going_following shape (Some shapes) go = refl

element_at : (dims : ℕ → List ℕ) (es : Exprs Meant) (go : List (List ℕ) → Option (List ℕ))
    (o : Option (List ℕ)) → ((then_go : List (List ℕ) → Option (List ℕ))
    → F.element_shapes dims es then_go ≡ going (all_shapes dims es) then_go)
    → F.with_shape o (λ shape. F.element_shapes dims es (λ shapes. go (shape ∷ shapes)))
    ≡ going (F.with_shape o (λ shape. following shape (all_shapes dims es))) go
element_at dims es go None h = refl
element_at dims es go (Some shape) h =
    h (λ shapes. go (shape ∷ shapes)) ∙ going_following shape (all_shapes dims es) go

element_shapes_are : (dims : ℕ → List ℕ) (es : Exprs Meant)
    (go : List (List ℕ) → Option (List ℕ))
    → F.element_shapes dims es go ≡ going (all_shapes dims es) go
element_shapes_are dims none go = refl
element_shapes_are dims (more e es) go =
    element_at dims es go (F.shape_in dims Whole e) (element_shapes_are dims es)

literal_is : (want : Want) (o : Option (List (List ℕ)))
    → going o (λ shapes. F.with_shape (F.literal_shape shapes) (F.if_fits want))
    ≡ literal_of want o
literal_is want None = refl
literal_is want (Some shapes) = refl

pub shape_array : (dims : ℕ → List ℕ) (want : Want) (es : List (CodeExpr Meant))
    → F.shape_in dims want (bare (expr.Array es))
    ≡ literal_of want (all_shapes dims (bare_exprs es))
shape_array dims want es =
    ap (λ a. F.shape_in dims want (Array a)) (exprs_are Meant es)
    ∙ element_shapes_are dims (bare_exprs es)
    (λ shapes. F.with_shape (F.literal_shape shapes) (F.if_fits want))
    ∙ literal_is want (all_shapes dims (bare_exprs es))

fits_following : (shape : List ℕ) (o : Option (List (List ℕ)))
    → going o (λ u. Some []) ≡ going (following shape o) (λ u. Some [])
fits_following shape None = refl
fits_following shape (Some shapes) = refl

fit_at : (dims : ℕ → List ℕ) (es : Exprs Meant) (o : Option (List ℕ))
    → F.shapes_fit dims es ≡ going (all_shapes dims es) (λ u. Some [])
    → F.with_shape o (λ u. F.shapes_fit dims es)
    ≡ going (F.with_shape o (λ shape. following shape (all_shapes dims es))) (λ u. Some [])
fit_at dims es None h = refl
fit_at dims es (Some shape) h = h ∙ fits_following shape (all_shapes dims es)

shapes_fit_are : (dims : ℕ → List ℕ) (es : Exprs Meant)
    → F.shapes_fit dims es ≡ going (all_shapes dims es) (λ u. Some [])
shapes_fit_are dims none = refl
shapes_fit_are dims (more e es) =
    fit_at dims es (F.shape_in dims Whole e) (shapes_fit_are dims es)

fits_again : (o : Option (List (List ℕ)))
    → F.with_shape (going o (λ u. Some [])) (λ u. Some []) ≡ going o (λ u. Some [])
fits_again None = refl
fits_again (Some shapes) = refl

pub shape_call : (dims : ℕ → List ℕ) (want : Want) (parallel : Bool) (name : List ℕ) (m : Meant)
    (es : List (CodeExpr Meant))
    → F.shape_in dims want (bare (expr.Call parallel name m es))
    ≡ going (all_shapes dims (bare_exprs es)) (λ u. Some [])
shape_call dims want parallel name m es =
    ap (λ a. F.shape_in dims want (Call parallel name m a)) (exprs_are Meant es)
    ∙ ap (λ o. F.with_shape o (λ u. Some [])) (shapes_fit_are dims (bare_exprs es))
    ∙ fits_again (all_shapes dims (bare_exprs es))

pub shape_place : (dims : ℕ → List ℕ) (want : Want) (p : CodePlace Meant)
    → F.shape_in dims want (bare (expr.Place p))
    ≡ F.with_shape (F.index_shapes dims (as_accessors p.accessors)) (λ u. F.with_shape
    (F.place_shape dims p.meant (indices_count (as_accessors p.accessors))) (F.if_fits want))
shape_place dims want p =
    ap (λ a. F.shape_in dims want (Place p.name p.meant a)) (accessors_are Meant p.accessors)

-- a number, if all fits
pub number_lists : (o : Option (Vec (Vec ℕ Global) Global))
    → (if is_some o then Some [] else None) ≡ going (lists_in o) (λ u. Some [])
number_lists None = refl
number_lists (Some shapes) = refl

pub number_list : (o : Option (Vec ℕ Global))
    → F.with_shape {A = List ℕ} (list_in o) (λ u. Some []) ≡ (if is_some o then Some [] else None)
number_list None = refl
number_list (Some shape) = refl

same_dims-refl : (ds : List ℕ) → same_dims ds ds ≡ true
same_dims-refl ds = search rules

literal_other : (want : Want) (d : List ℕ) (ds : List (List ℕ)) → list_all (same_dims d) ds ≡ false
    → literal_of want (Some (d ∷ ds)) ≡ None
literal_other want d ds h =
    ap (λ b. F.with_shape (if b then Some (length (d ∷ ds) ∷ d) else None) (F.if_fits want)) h

-- a literal whose first element's shape isn't that of all
pub literal_differs : (want : Want) (shapes : List (Vec ℕ Global)) (first : Vec ℕ Global)
    → 0 < length shapes → first ≡ get_or shapes 0 first
    → list_all (same_dims first.items) (map (λ d. d.items) shapes) ≡ false
    → literal_of want (Some (map (λ d. d.items) shapes)) ≡ None
literal_differs want [] first lt is h = absurd (omega arith)
literal_differs want (v ∷ vs) first lt is h =
    literal_other want v.items (map (λ d. d.items) vs)
    (ap (λ b. b && list_all (same_dims v.items) (map (λ d. d.items) vs))
    (sym (same_dims-refl v.items))
    ∙ ap (λ f. same_dims f.items v.items && list_all (same_dims f.items) (map (λ d. d.items) vs))
    (sym is) ∙ h)

-- ---- what is left of a variable
pub place_shape_is : (dims : ℕ → List ℕ) (n count : ℕ)
    → F.place_shape dims (meant.Variable n) count ≡ dropped count (dims n)
place_shape_is dims n count = at count (dims n)
  where
    at : (count : ℕ) (ds : List ℕ)
        → F.place_shape (λ m. ds) (meant.Variable n) count ≡ dropped count ds
    at zero ds =
        let more : nat_lt (length ds) 0 ≡ false = grind (arith, nat_tests) in
        ap (λ b. if b then None else Some ds) (sym more)
    at (suc count) [] =
        let more : nat_lt 0 (suc count) ≡ true = grind (arith, nat_tests) in
        ap (λ b. if b then None else Some (drop (suc count) [])) (sym more)
    at (suc count) (d ∷ ds) =
        let same : nat_lt (length ds) count ≡ nat_lt (suc (length ds)) (suc count) =
        grind (arith, nat_tests) in
        at count ds ∙ ap (λ b. if b then None else Some (drop count ds)) same
