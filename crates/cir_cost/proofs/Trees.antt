-- What the definitions say of the program's own trees.
use Rattle.std.proofs.Common.{◌≡◌, ◌∙◌, ℕ, ◌+◌, ◌<◌, ◌≤◌, List, [], ◌∷◌, ◌++◌, get_or, drop, length}
use Rattle.std.proofs.Common.{ap, sym, subst, append_assoc}
use Rattle.std.specs.declared.vec.Vec.{Vec}
use Rattle.std.specs.declared.alloc.Global.{Global}
use Rattle.std.proofs.lemmas.List.{drop_all, map-append}
use Rattle.std.specs.Prelude.{Bool, true, false, if◌then◌else◌, Option, map}
use Rattle.cir_ast.specs.declared.marked.Accessor.{Accessor as CodeAccessor}
use Rattle.cir_ast.specs.declared.marked.Accessor.TheVariants as accessor
use Rattle.cir_ast.specs.declared.marked.Expr.{Expr as CodeExpr}
use Rattle.cir_ast.specs.declared.marked.Expr.TheVariants as expr
use Rattle.cir_ast.specs.declared.marked.LogArgument.{LogArgument as CodeArgument}
use Rattle.cir_ast.specs.declared.marked.LogArgument.TheVariants as argument
use Rattle.cir_ast.specs.declared.marked.Place.{Place as CodePlace}
use Rattle.cir_ast.specs.declared.program.Meant.{Meant}
use Rattle.cir_ast.specs.declared.operators.Binary.{Binary as BinaryOp}
use Rattle.cir_ast.specs.Tree.{Expr, Array, Binary, Call, Choice, Exprs, bare, bare_argument}
use Rattle.cir_ast.specs.Tree.{bare_exprs, as_accessors, place_accessors}
use Rattle.cir_ast.proofs.Rows.{exprs_are, accessors_are}
use Rattle.cir_arrays.proofs.Lists.{at_read}
use Rattle.cir_meaning.specs.Tried.{Where, Tried}
use Rattle.cir_meaning.specs.Frame.{Context, State}
use Rattle.cir_meaning.specs.Reading.{Origin, Root, inner_origin, origin_of}
use Rattle.cir_meaning.specs.Values as V
use Rattle.cir_meaning.specs.Operators as O
use Rattle.cir_meaning.specs.Costs as M
use Rattle.cir_meaning.specs.Steps as S
use Rattle.cir_evaluate.specs.declared.operands.Look.{Look}
use Rattle.cir_evaluate.specs.Parts.{look_shading}
use Rattle.cir_cost.specs.declared.cost.Cost.{Cost}
use Rattle.cir_cost.specs.Adds.{Adds, called_alone, read_alone}
use Rattle.cir_cost.proofs.Adding.{adds_both, adds_none}

pub cost_array : (k : Context) (w : Where) (dark : Bool) (es : List (CodeExpr Meant)) (s : State)
    → M.cost_of k w dark (bare (expr.Array es)) s ≡ M.above (M.all_cost k w dark (bare_exprs es) s)
cost_array k w dark es s = ap (λ a. M.cost_of k w dark (Array a) s) (exprs_are Meant es)

pub cost_call : (k : Context) (w : Where) (dark parallel : Bool) (name : List ℕ) (m : Meant)
    (es : List (CodeExpr Meant)) (s : State)
    → M.cost_of k w dark (bare (expr.Call parallel name m es)) s
    ≡ (if M.is_settled (M.seen k w dark (bare (expr.Call parallel name m es)) s) then M.node 1
    else M.above (M.both (M.all_cost k w dark (bare_exprs es) s) (called_alone
    (M.call_made k w dark m (M.shapes_in k w dark (bare_exprs es) s)))))
cost_call k w dark parallel name m es s =
    let settled : Bool = M.is_settled (M.seen k w dark (bare (expr.Call parallel name m es)) s) in
    let as_it_runs : Exprs Meant → M.Cost = λ a. M.above (M.both (M.all_cost k w dark a s)
    (called_alone (M.call_made k w dark m (M.shapes_in k w dark a s)))) in
    ap (λ a. if settled then M.node 1 else as_it_runs a) (exprs_are Meant es)

-- an element more
pub all_step : (k : Context) (w : Where) (dark : Bool) (es : List (CodeExpr Meant)) (i : ℕ)
    (e : CodeExpr Meant) (a b c : Cost) (s t : State) → i < length es → e ≡ get_or es i e → t ≡ s
    → Adds a b (M.cost_of k w dark (bare e) t)
    → Adds b c (M.all_cost k w dark (bare_exprs (drop (i + 1) es)) s)
    → Adds a c (M.all_cost k w dark (bare_exprs (drop i es)) s)
all_step k w dark es i e a b c s t lt is same h rest =
    rw (at_read (λ list. M.all_cost k w dark (bare_exprs list) s) es i e lt is)
    (adds_both a b c (M.cost_of k w dark (bare e) s)
    (M.all_cost k w dark (bare_exprs (drop (i + 1) es)) s) (rw same at h) rest)

pub nodes_array : (es : List (CodeExpr Meant))
    → M.nodes_of (bare (expr.Array es)) ≡ 1 + M.all_nodes (bare_exprs es)
nodes_array es = ap (λ a. M.nodes_of (Array a)) (exprs_are Meant es)

pub nodes_call : (parallel : Bool) (name : List ℕ) (m : Meant) (es : List (CodeExpr Meant))
    → M.nodes_of (bare (expr.Call parallel name m es)) ≡ 1 + M.all_nodes (bare_exprs es)
nodes_call parallel name m es = ap (λ a. M.nodes_of (Call parallel name m a)) (exprs_are Meant es)

pub nodes_place : (p : CodePlace Meant)
    → M.place_nodes (place_accessors p) ≡ M.place_nodes (as_accessors p.accessors)
nodes_place p = ap M.place_nodes (accessors_are Meant p.accessors)

-- ---- how operands are looked at
operand_told : (k : Context) (w : Where) (dark : Bool) (e : Expr Meant) (s t : State)
    (look : Look) (o : Option Bool) (a b : Cost) → t ≡ s → look_shading look dark ≡ o
    → Adds a b (M.operand (look_shading look dark) (λ d. M.cost_of k w d e t) (M.nodes_of e))
    → Adds a b (M.operand o (λ d. M.cost_of k w d e s) (M.nodes_of e))
operand_told k w dark e s t look o a b same told h =
    let at_look : Option Bool → Type 0 =
    λ x. Adds a b (M.operand x (λ d. M.cost_of k w d e s) (M.nodes_of e)) in
    let at_state : State → Type 0 = λ x. Adds a b
    (M.operand (look_shading look dark) (λ d. M.cost_of k w d e x) (M.nodes_of e)) in
    subst at_look told (subst at_state same h)

pub binary_cost : (k : Context) (w : Where) (dark : Bool) (op : BinaryOp) (x y : Expr Meant)
    (s t u : State) (look : Look) (c0 c1 c2 c3 : Cost) → t ≡ s → u ≡ s
    → look_shading look dark
    ≡ O.shading (O.left_tells (O.operator_of op) (M.value_of (M.seen k w dark x t))) dark
    → Adds c0 c1 (M.node 1) → Adds c1 c2 (M.cost_of k w dark x s)
    → Adds c2 c3
    (M.operand (look_shading look dark) (λ d. M.cost_of k w d y u) (M.nodes_of y))
    → Adds c0 c3 (M.cost_of k w dark (Binary op x y) s)
binary_cost k w dark op x y s t u look c0 c1 c2 c3 first second told n a b =
    let shade : State → Option Bool = λ v. O.shading
    (O.left_tells (O.operator_of op) (M.value_of (M.seen k w dark x v))) dark in
    adds_both c0 c1 c3 (M.node 1) _ n (adds_both c1 c2 c3 (M.cost_of k w dark x s) _ a
    (operand_told k w dark y s u look (shade s) c2 c3 second (told ∙ ap shade first) b))

pub choice_cost : (k : Context) (w : Where) (dark : Bool) (x y z : Expr Meant) (s t u v : State)
    (look other : Look) (c0 c1 c2 c3 c4 : Cost) → t ≡ s → u ≡ s → v ≡ s
    → look_shading look dark
    ≡ O.first_shading (V.side_of (M.value_of (M.seen k w dark x t))) dark
    → look_shading other dark
    ≡ O.second_shading (V.side_of (M.value_of (M.seen k w dark x t))) dark
    → Adds c0 c1 (M.node 1) → Adds c1 c2 (M.cost_of k w dark x s)
    → Adds c2 c3
    (M.operand (look_shading look dark) (λ d. M.cost_of k w d y u) (M.nodes_of y))
    → Adds c3 c4
    (M.operand (look_shading other dark) (λ d. M.cost_of k w d z v) (M.nodes_of z))
    → Adds c0 c4 (M.cost_of k w dark (Choice x y z) s)
choice_cost k w dark x y z s t u v look other c0 c1 c2 c3 c4 first second third told tells n a b c =
    let side : State → V.Side = λ i. V.side_of (M.value_of (M.seen k w dark x i)) in
    adds_both c0 c1 c4 (M.node 1) _ n (adds_both c1 c2 c4 (M.cost_of k w dark x s) _ a
    (adds_both c2 c3 c4
    (M.operand (O.first_shading (side s) dark) (λ d. M.cost_of k w d y s) (M.nodes_of y)) _
    (operand_told k w dark y s u look (O.first_shading (side s) dark) c2 c3 second
    (told ∙ ap (λ i. O.first_shading (side i) dark) first) b)
    (operand_told k w dark z s v other (O.second_shading (side s) dark) c3 c4 third
    (tells ∙ ap (λ i. O.second_shading (side i) dark) first) c)))

-- ---- calls
call_is : (k : Context) (w : Where) (dark : Bool) (e : CodeExpr Meant) (parallel : Bool)
    (name : List ℕ) (m : Meant) (es : List (CodeExpr Meant)) (s : State)
    → e ≡ expr.Call parallel name m es
    → M.cost_of k w dark (bare e) s ≡ (if M.is_settled (M.seen k w dark (bare e) s) then M.node 1
    else M.above (M.both (M.all_cost k w dark (bare_exprs es) s) (called_alone
    (M.call_made k w dark m (M.shapes_in k w dark (bare_exprs es) s)))))
call_is k w dark e parallel name m es s is =
    let holds : CodeExpr Meant → Type 0 = λ x. M.cost_of k w dark (bare x) s
    ≡ (if M.is_settled (M.seen k w dark (bare x) s) then M.node 1
    else M.above (M.both (M.all_cost k w dark (bare_exprs es) s) (called_alone
    (M.call_made k w dark m (M.shapes_in k w dark (bare_exprs es) s))))) in
    subst holds (sym is) (cost_call k w dark parallel name m es s)

pub call_settled : (k : Context) (w : Where) (dark : Bool) (e : CodeExpr Meant) (parallel : Bool)
    (name : List ℕ) (m : Meant) (es : List (CodeExpr Meant)) (s : State) (settled : Bool)
    → e ≡ expr.Call parallel name m es → settled ≡ M.is_settled (M.seen k w dark (bare e) s)
    → settled ≡ true → M.cost_of k w dark (bare e) s ≡ M.node 1
call_settled k w dark e parallel name m es s settled is seen holds =
    let runs : M.Cost = M.above (M.both (M.all_cost k w dark (bare_exprs es) s) (called_alone
    (M.call_made k w dark m (M.shapes_in k w dark (bare_exprs es) s)))) in
    call_is k w dark e parallel name m es s is
    ∙ ap (λ b. if b then M.node 1 else runs) (sym seen ∙ holds)

pub call_cost : (k : Context) (w : Where) (dark : Bool) (e : CodeExpr Meant) (parallel : Bool)
    (name : List ℕ) (m : Meant) (es fs gs : List (CodeExpr Meant)) (s t u : State)
    (settled : Bool) (c0 c1 c2 c3 : Cost) → e ≡ expr.Call parallel name m es
    → settled ≡ M.is_settled (M.seen k w dark (bare e) s) → settled ≡ false → fs ≡ es → gs ≡ es
    → t ≡ s → u ≡ s → Adds c0 c1 (M.node 1)
    → Adds c1 c2 (M.all_cost k w dark (bare_exprs fs) t)
    → Adds c2 c3
    (called_alone (M.call_made k w dark m (M.shapes_in k w dark (bare_exprs gs) u)))
    → Adds c0 c3 (M.cost_of k w dark (bare e) s)
call_cost k w dark e parallel name m es fs gs s t u settled c0 c1 c2 c3 is seen fails f g first
    second n a b =
    let all : List (CodeExpr Meant) → State → Type 0 = λ x v. Adds c1 c2
    (M.all_cost k w dark (bare_exprs x) v) in
    let made : List (CodeExpr Meant) → State → Type 0 = λ x v. Adds c2 c3
    (called_alone (M.call_made k w dark m (M.shapes_in k w dark (bare_exprs x) v))) in
    let one : all es s = subst (all es) first (subst (λ x. all x t) f a) in
    let two : made es s = subst (made es) second (subst (λ x. made x u) g b) in
    let runs : M.Cost = M.above (M.both (M.all_cost k w dark (bare_exprs es) s) (called_alone
    (M.call_made k w dark m (M.shapes_in k w dark (bare_exprs es) s)))) in
    let cost : M.cost_of k w dark (bare e) s ≡ runs =
    call_is k w dark e parallel name m es s is
    ∙ ap (λ x. if x then M.node 1 else runs) (sym seen ∙ fails) in
    subst (Adds c0 c3) (sym cost)
    (adds_both c0 c1 c3 (M.node 1) _ n (adds_both c1 c2 c3 _ _ one two))

-- ---- what stands behind a name
pub place_is : (k : Context) (w : Where) (dark : Bool) (p : CodePlace Meant) (root : Root)
    (s : State) → M.place_cost k w dark p.meant root [] (place_accessors p) s
    ≡ M.place_cost k w dark p.meant root [] (as_accessors p.accessors) s
place_is k w dark p root s =
    ap (λ a. M.place_cost k w dark p.meant root [] a s) (accessors_are Meant p.accessors)

index_is : (k : Context) (w : Where) (dark : Bool) (m : Meant) (root : Root)
    (indices : List (Option ℕ)) (list : List (CodeAccessor Meant)) (i : ℕ)
    (item : CodeAccessor Meant) (e : CodeExpr Meant) (s : State) → i < length list
    → item ≡ get_or list i item → item ≡ accessor.Index e
    → M.place_cost k w dark m root indices (as_accessors (drop i list)) s
    ≡ M.both (M.cost_of k w dark (bare e) s) (M.place_cost k w dark m root
    (indices ++ V.known_number (M.value_of (M.seen k w dark (bare e) s)) ∷ [])
    (as_accessors (drop (i + 1) list)) s)
index_is k w dark m root indices list i item e s lt get is =
    at_read (λ l. M.place_cost k w dark m root indices (as_accessors l) s) list i item lt get
    ∙ ap (λ x. M.place_cost k w dark m root indices (as_accessors (x ∷ drop (i + 1) list)) s) is

pub index_step : (k : Context) (w : Where) (dark : Bool) (m : Meant) (root : Root)
    (indices grown : List (Option ℕ)) (list : List (CodeAccessor Meant)) (i : ℕ)
    (item : CodeAccessor Meant) (e : CodeExpr Meant) (n : Option ℕ) (s t u : State)
    (a b c : Cost) → i < length list → item ≡ get_or list i item → item ≡ accessor.Index e
    → t ≡ s → u ≡ s → n ≡ V.known_number (M.value_of (M.seen k w dark (bare e) u))
    → grown ≡ indices ++ n ∷ [] → Adds a b (M.cost_of k w dark (bare e) t)
    → Adds b c (M.place_cost k w dark m root grown (as_accessors (drop (i + 1) list)) s)
    → Adds a c (M.place_cost k w dark m root indices (as_accessors (drop i list)) s)
index_step k w dark m root indices grown list i item e n s t u a b c lt get is first second told
    more h rest =
    let number : State → Option ℕ =
    λ v. V.known_number (M.value_of (M.seen k w dark (bare e) v)) in
    let left : List (Option ℕ) → M.Cost =
    λ x. M.place_cost k w dark m root x (as_accessors (drop (i + 1) list)) s in
    let grows : grown ≡ indices ++ number s ∷ [] =
    more ∙ ap (λ x. indices ++ x ∷ []) (told ∙ ap number second) in
    subst (Adds a c) (sym (index_is k w dark m root indices list i item e s lt get is))
    (adds_both a b c (M.cost_of k w dark (bare e) s) (left (indices ++ number s ∷ []))
    (subst (λ v. Adds a b (M.cost_of k w dark (bare e) v)) first h)
    (subst (λ x. Adds b c (left x)) grows rest))

pub member_step : (k : Context) (w : Where) (dark : Bool) (m : Meant) (root found : Root)
    (indices none : List (Option ℕ)) (list : List (CodeAccessor Meant)) (i : ℕ)
    (item : CodeAccessor Meant) (name : List ℕ) (s : State) (a c : Cost) → i < length list
    → item ≡ get_or list i item → item ≡ accessor.Member name → none ≡ []
    → found ≡ M.root_of (inner_origin w dark root indices name s.frame)
    → Adds a c (M.place_cost k w dark m found none (as_accessors (drop (i + 1) list)) s)
    → Adds a c (M.place_cost k w dark m root indices (as_accessors (drop i list)) s)
member_step k w dark m root found indices none list i item name s a c lt get is empty told rest =
    let left : Root → List (Option ℕ) → M.Cost =
    λ r x. M.place_cost k w dark m r x (as_accessors (drop (i + 1) list)) s in
    let whole : M.place_cost k w dark m root indices (as_accessors (drop i list)) s
    ≡ left (M.root_of (inner_origin w dark root indices name s.frame)) [] =
    at_read (λ l. M.place_cost k w dark m root indices (as_accessors l) s) list i item lt get
    ∙ ap (λ x. M.place_cost k w dark m root indices (as_accessors (x ∷ drop (i + 1) list)) s) is
    in
    subst (Adds a c) (ap (λ x. left found x) empty ∙ ap (λ r. left r []) told ∙ sym whole) rest

pub place_end : (k : Context) (w : Where) (dark : Bool) (m : Meant) (root : Root)
    (indices : List (Option ℕ)) (list : List (CodeAccessor Meant)) (i : ℕ) (s : State)
    (o : Tried Origin) (a b : Cost) → length list ≤ i → origin_of w root s.frame ≡ o
    → Adds a b (read_alone (M.origin_reads w m indices o))
    → Adds a b (M.place_cost k w dark m root indices (as_accessors (drop i list)) s)
place_end k w dark m root indices list i s o a b past is h =
    let left : List (CodeAccessor Meant) → Type 0 =
    λ l. Adds a b (M.place_cost k w dark m root indices (as_accessors l) s) in
    subst left (sym (drop_all i list past))
    (subst (λ x. Adds a b (read_alone (M.origin_reads w m indices x))) (sym is) h)

pub all_end : (k : Context) (w : Where) (dark : Bool) (es : List (CodeExpr Meant)) (i : ℕ)
    (s : State) (a : Cost) → length es ≤ i
    → Adds a a (M.all_cost k w dark (bare_exprs (drop i es)) s)
all_end k w dark es i s a past =
    let left : List (CodeExpr Meant) → Type 0 =
    λ l. Adds a a (M.all_cost k w dark (bare_exprs l) s) in
    subst left (sym (drop_all i es past)) (adds_none a)

-- the shapes of arguments
pub shapes_step : (k : Context) (w : Where) (dark : Bool) (es : List (CodeExpr Meant)) (i : ℕ)
    (e : CodeExpr Meant) (old new : List (Vec ℕ Global)) (shape : Vec ℕ Global) (s t : State)
    (all : List (List ℕ)) → i < length es → e ≡ get_or es i e → t ≡ s
    → new ≡ old ++ shape ∷ [] → shape.items ≡ M.shape_of (M.seen k w dark (bare e) t)
    → map (λ d. d.items) old ++ M.shapes_in k w dark (bare_exprs (drop i es)) s ≡ all
    → map (λ d. d.items) new ++ M.shapes_in k w dark (bare_exprs (drop (i + 1) es)) s ≡ all
shapes_step k w dark es i e old new shape s t all lt get same grown is h =
    let items : Vec ℕ Global → List ℕ = λ d. d.items in
    let rest : List (List ℕ) = M.shapes_in k w dark (bare_exprs (drop (i + 1) es)) s in
    ap (λ x. map items x ++ rest) grown
    ∙ ap (λ x. x ++ rest) (map-append items old (shape ∷ []))
    ∙ append_assoc (map items old) (shape.items ∷ []) rest
    ∙ ap (λ x. map items old ++ x ∷ rest)
    (is ∙ ap (λ v. M.shape_of (M.seen k w dark (bare e) v)) same)
    ∙ ap (λ x. map items old ++ x)
    (sym (at_read (λ l. M.shapes_in k w dark (bare_exprs l) s) es i e lt get))
    ∙ h

-- ---- indices of a place that is written
pub written_step : (k : Context) (w : Where) (dark : Bool) (list : List (CodeAccessor Meant))
    (i : ℕ) (item : CodeAccessor Meant) (e : CodeExpr Meant) (s t : State) (a b c : Cost)
    → i < length list → item ≡ get_or list i item → item ≡ accessor.Index e → t ≡ s
    → Adds a b (M.cost_of k w dark (bare e) t)
    → Adds b c (M.indices_cost k w dark (as_accessors (drop (i + 1) list)) s)
    → Adds a c (M.indices_cost k w dark (as_accessors (drop i list)) s)
written_step k w dark list i item e s t a b c lt get is same h rest =
    let whole : M.indices_cost k w dark (as_accessors (drop i list)) s
    ≡ M.both (M.cost_of k w dark (bare e) s)
    (M.indices_cost k w dark (as_accessors (drop (i + 1) list)) s) =
    at_read (λ l. M.indices_cost k w dark (as_accessors l) s) list i item lt get
    ∙ ap (λ x. M.indices_cost k w dark (as_accessors (x ∷ drop (i + 1) list)) s) is in
    subst (Adds a c) (sym whole) (adds_both a b c (M.cost_of k w dark (bare e) s) _
    (subst (λ v. Adds a b (M.cost_of k w dark (bare e) v)) same h) rest)

pub written_other : (k : Context) (w : Where) (dark : Bool) (list : List (CodeAccessor Meant))
    (i : ℕ) (item : CodeAccessor Meant) (name : List ℕ) (s : State) → i < length list
    → item ≡ get_or list i item → item ≡ accessor.Member name
    → M.indices_cost k w dark (as_accessors (drop (i + 1) list)) s
    ≡ M.indices_cost k w dark (as_accessors (drop i list)) s
written_other k w dark list i item name s lt get is =
    sym (at_read (λ l. M.indices_cost k w dark (as_accessors l) s) list i item lt get
    ∙ ap (λ x. M.indices_cost k w dark (as_accessors (x ∷ drop (i + 1) list)) s) is)

pub written_end : (k : Context) (w : Where) (dark : Bool) (list : List (CodeAccessor Meant))
    (i : ℕ) (s : State) (a : Cost) → length list ≤ i
    → Adds a a (M.indices_cost k w dark (as_accessors (drop i list)) s)
written_end k w dark list i s a past =
    let left : List (CodeAccessor Meant) → Type 0 =
    λ l. Adds a a (M.indices_cost k w dark (as_accessors l) s) in
    subst left (sym (drop_all i list past)) (adds_none a)

-- ---- arguments of a log
pub argument_step : (k : Context) (w : Where) (list : List (CodeArgument Meant)) (i : ℕ)
    (item : CodeArgument Meant) (s : State) (a b c : Cost) (one : M.Cost) → i < length list
    → item ≡ get_or list i item → S.argument_cost k w (bare_argument item) s ≡ one
    → Adds a b one → Adds b c (S.arguments_cost k w (map bare_argument (drop (i + 1) list)) s)
    → Adds a c (S.arguments_cost k w (map bare_argument (drop i list)) s)
argument_step k w list i item s a b c one lt get is h rest =
    let left : M.Cost = S.arguments_cost k w (map bare_argument (drop (i + 1) list)) s in
    let whole : S.arguments_cost k w (map bare_argument (drop i list)) s ≡ M.both one left =
    at_read (λ l. S.arguments_cost k w (map bare_argument l) s) list i item lt get
    ∙ ap (λ x. M.both x left) is in
    subst (Adds a c) (sym whole) (adds_both a b c one left h rest)

pub value_step : (k : Context) (w : Where) (dark : Bool) (list : List (CodeArgument Meant))
    (i : ℕ) (item : CodeArgument Meant) (e : CodeExpr Meant) (s t : State) (a b c : Cost)
    → i < length list → item ≡ get_or list i item → item ≡ argument.Value e → dark ≡ false
    → t ≡ s → Adds a b (M.cost_of k w dark (bare e) t)
    → Adds b c (S.arguments_cost k w (map bare_argument (drop (i + 1) list)) s)
    → Adds a c (S.arguments_cost k w (map bare_argument (drop i list)) s)
value_step k w dark list i item e s t a b c lt get is lit same h rest =
    argument_step k w list i item s a b c (M.cost_of k w false (bare e) s) lt get
    (ap (λ x. S.argument_cost k w (bare_argument x) s) is)
    (subst (λ d. Adds a b (M.cost_of k w d (bare e) s)) lit
    (subst (λ v. Adds a b (M.cost_of k w dark (bare e) v)) same h)) rest

pub arguments_end : (k : Context) (w : Where) (list : List (CodeArgument Meant)) (i : ℕ)
    (s : State) (a : Cost) → length list ≤ i
    → Adds a a (S.arguments_cost k w (map bare_argument (drop i list)) s)
arguments_end k w list i s a past =
    let left : List (CodeArgument Meant) → Type 0 =
    λ l. Adds a a (S.arguments_cost k w (map bare_argument l) s) in
    subst left (sym (drop_all i list past)) (adds_none a)
