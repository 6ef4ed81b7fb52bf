-- Procedures do what their functions mean, however deep the calls are.
use Rattle.std.proofs.Common.{◌≡◌, ℕ, zero, suc, ◌+◌, ◌-◌, ◌%◌, ◌<◌, ◌≤◌, max, Bool, true, false}
use Rattle.std.proofs.Common.{cond, List, [], ◌∷◌, ◌++◌, length, drop, replicate, map, Option, Some}
use Rattle.std.proofs.Common.{None, Ok, Err, refl, sym, ap, ap₂, subst, ◌∙◌, arith, length-append}
use Rattle.std.proofs.Common.{length-set, get_or-drop, get_or-take}
use Rattle.std.specs.Prelude.{slice_get, slice_index, slice_set, slice_range, unwrap_or, sum_by}
use Rattle.std.proofs.lemmas.Bool.{lt-ltb, le-ltb}
use Rattle.std.proofs.lemmas.List.{get_or_append_left, length-replicate, length-take-le}
use Rattle.std.proofs.lemmas.List.{length-drop}
use Rattle.std.proofs.lemmas.List.Sums.{sum_by-cons}
use Rattle.std.proofs.lemmas.Option.{slice_get_past}
use Rattle.gold_field.specs.declared.gold.TheConstants.{P}
use Rattle.wit_code.specs.declared.code.Op.{Op}
use Rattle.wit_code.specs.declared.code.Op.TheVariants as op
use Rattle.wit_code.specs.declared.code.Proc.{Proc}
use Rattle.wit_code.specs.declared.code.Stop.TheVariants.{FuelSpent, TooDeep}
use Rattle.wit_code.specs.declared.frames.Running.TheVariants.{Called}
use Rattle.wit_code.specs.Frames.{Open}
use Rattle.wit_code.specs.Table.{State, Goes, unless, act, call as opens, frame_of, proc_at}
use Rattle.wit_code.specs.Table.{no_code}
use Rattle.cir_ast.specs.declared.program.Meant.{Meant}
use Rattle.cir_ast.specs.Program.{Program, Function}
use Rattle.cir_ast.specs.Tree.{Expr, Number, Place as PlaceOf, Call, Anonymous, Parentheses, Array}
use Rattle.cir_ast.specs.Tree.{Unary, Binary, Choice}
use Rattle.cir_meaning.specs.Places.{is_inside}
use Rattle.cir_meaning.specs.Arrays.{single}
use Rattle.cir_meaning.specs.Costs.{Made}
use Rattle.cir_meaning.specs.Reached.{body_of}
use Rattle.cir_meaning.specs.Texts.{literal_number}
use Rattle.cir_meaning.specs.RunValues.{Ran, Numbers, Environment, Store, stored, gives, number_in}
use Rattle.cir_meaning.specs.RunValues.{the_number, too_deep}
use Rattle.cir_meaning.specs.RunStatements.{StepFlow, StepGoing, StepReturned, spend}
use Rattle.cir_meaning.specs.RunStatements.{step_statements, in_function, returned_number}
use Rattle.cir_meaning.specs.RunStatements.{run_function, run_call}
use Rattle.wit_lower.specs.Homes.{Name, Variable, same_name, Home, Homes, Scope, Ground, find}
use Rattle.wit_lower.specs.Homes.{with_variable, slots_of, row}
use Rattle.wit_lower.specs.Pieces.{Code, named, most_named}
use Rattle.wit_lower.specs.Statements.{statements_code}
use Rattle.wit_lower.specs.Procedures.{arguments_scope, no_scope, function_ground, params_of}
use Rattle.wit_lower.specs.Procedures.{params_at, AreSmall, IsLowered, HasProcedure, IsTable}
use Rattle.wit_lower.specs.Fits.{AreLaid}
use Rattle.wit_lower.proofs.Does.{Setting, Does, does_next, does_same, gives as there, goes, stops}
use Rattle.wit_lower.proofs.Does.{HasAt, has_itself}
use Rattle.wit_lower.proofs.Frames.{set_same, below_set, row_from}
use Rattle.wit_lower.proofs.Spots.{Spot, here, body_at, IsWide, step_at, at_state}
use Rattle.wit_lower.proofs.Shows.{Held, Shows}
use Rattle.wit_lower.proofs.Names.{same_name_is}
use Rattle.wit_lower.proofs.Parts.{Valued}
use Rattle.wit_lower.proofs.Operators.{valued_number}
use Rattle.wit_lower.proofs.Exprs.{CallsRun, args_of}
use Rattle.wit_lower.proofs.Stmts.{Flowed, statements_do}

-- each instruction names no more slots than the most
pub named_most : (params : ℕ → ℕ) (code : Code) (p : ℕ) (o : Op) → slice_get code p ≡ Some o
    → named params o ≤ most_named params code
named_most params [] p o e = cc
named_most params (x ∷ xs) zero o e =
    let same : x ≡ o = cc in
    subst (λ y. named params y ≤ max (named params x) (most_named params xs)) same (omega arith)
named_most params (x ∷ xs) (suc p) o e = omega (arith, named_most params xs p o e)

-- the parameters of a frame are the caller's slots
frame_long : (callee : Proc) (f : List ℕ) (first : ℕ) → first + callee.params ≤ length f
    → callee.params ≤ callee.slots → length (frame_of callee f first) ≡ callee.slots
frame_long callee f first le fit =
    let part : List ℕ = slice_range f first (first + callee.params) in
    let a : length part ≡ callee.params = range_long f first callee.params le in
    let others : List ℕ = replicate (callee.slots - callee.params) 0 in
    let b : length others ≡ callee.slots - callee.params =
    length-replicate (callee.slots - callee.params) 0 in
    length-append part others ∙ omega (arith, a, b, fit)
  where
    range_long : (f : List ℕ) (first n : ℕ) → first + n ≤ length f
        → length (slice_range f first (first + n)) ≡ n
    range_long f first n le =
        let e : first + n - first ≡ n = omega arith in
        length-take-le (first + n - first) (drop first f)
        (omega (arith, le, length-drop first f)) ∙ e

frame_at : (callee : Proc) (f : List ℕ) (first j : ℕ) → first + callee.params ≤ length f
    → j < callee.params → slice_index (frame_of callee f first) j ≡ slice_index f (first + j)
frame_at callee f first j le l =
    let n : ℕ = callee.params in
    let e : first + n - first ≡ n = omega arith in
    let part : List ℕ = slice_range f first (first + n) in
    let long : length part ≡ first + n - first =
    length-take-le (first + n - first) (drop first f)
    (omega (arith, le, length-drop first f)) in
    get_or_append_left part (replicate (callee.slots - n) 0) 0 j (omega (arith, long, e, l)) ∙
    get_or-take (first + n - first) (drop first f) j 0 (omega (arith, e, l)) ∙
    get_or-drop first f j 0

-- arguments in the callee's frame
args_moved : (shapes : List (List ℕ)) (callee : Proc) (f : List ℕ) (first a : ℕ)
    → first + callee.params ≤ length f → a + sum_by slots_of shapes ≤ callee.params
    → args_of shapes f (first + a) ≡ args_of shapes (frame_of callee f first) a
args_moved [] callee f first a le fit = refl
args_moved (dims ∷ rest) callee f first a le fit =
    let n : ℕ = slots_of dims in
    let total : sum_by slots_of (dims ∷ rest) ≡ n + sum_by slots_of rest =
    sum_by-cons slots_of dims rest in
    let on : first + a + n ≡ first + (a + n) = omega arith in
    ap₂ (λ xs ys. record { dims = dims; items = xs } ∷ ys)
    (sym (row_from f (frame_of callee f first) a (first + a) n (λ k l.
    let there : first + (a + k) ≡ first + a + k = omega arith in
    frame_at callee f first (a + k) le (omega (arith, fit, l, total)) ∙ ap (slice_index f) there)))
    (ap (args_of rest f) on ∙ args_moved rest callee f first (a + n) le (omega (arith, fit, total)))

-- the homes of arguments
arguments_laid : (shapes : List (List ℕ)) (n : ℕ) (s : Scope) → AreLaid s.homes s.top
    → AreSmall shapes
    → AreLaid (arguments_scope n shapes s).homes (arguments_scope n shapes s).top
arguments_laid [] n s l small = l
arguments_laid (dims ∷ rest) n s l (a, b) =
    arguments_laid rest (n + 1) (with_variable n dims s) (omega arith, a, l) b

stored_at : (before : Store) (d : Numbers) (rest : Store)
    → stored (before ++ d ∷ rest) (length before) ≡ d
stored_at [] d rest = refl
stored_at (x ∷ xs) d rest = stored_at xs d rest

abbrev HeldAll : Environment → Store → Homes → List ℕ → Type 0
HeldAll env store homes f =
    (x : Name) (h : Home) → find x homes ≡ Some h
    → Held (λ n. []) env store x h.dims (row f h.base (slots_of h.dims))

arguments_held : (env : Environment) (shapes : List (List ℕ)) (n : ℕ) (s : Scope)
    (before rest : Store) (store : Store) (f : List ℕ) → length before ≡ n
    → store ≡ before ++ (args_of shapes f s.top ++ rest) → HeldAll env store s.homes f
    → HeldAll env store (arguments_scope n shapes s).homes f
arguments_held env [] n s before rest store f len e held = held
arguments_held env (dims ∷ more) n s before rest store f len e held =
    let d : Numbers = record { dims = dims; items = row f s.top (slots_of dims) } in
    let others : Store = args_of more f (s.top + slots_of dims) ++ rest in
    let is : stored store n ≡ d =
    ap₂ stored e (sym len) ∙ stored_at before d others in
    arguments_held env more (n + 1) (with_variable n dims s) (before ++ d ∷ []) rest store f
    (length-append before (d ∷ []) ∙ omega (arith, len))
    (e ∙ moved before d others)
    (λ x h ex. at d is x h (same_name x (Variable n)) refl ex)
  where
    moved : (xs : Store) (d : Numbers) (ys : Store) → xs ++ d ∷ ys ≡ (xs ++ d ∷ []) ++ ys
    moved [] d ys = refl
    moved (x ∷ xs) d ys = ap (λ zs. x ∷ zs) (moved xs d ys)

    at : (d : Numbers) → stored store n ≡ record {
      dims = dims;
      items = row f s.top (slots_of dims);
    } → (x : Name) (h : Home) (b : Bool) → same_name x (Variable n) ≡ b
        → cond (same_name x (Variable n)) (Some record { base = s.top; dims = dims })
        (find x s.homes) ≡ Some h
        → Held (λ n. []) env store x h.dims (row f h.base (slots_of h.dims))
    at d is x h true eb ex =
        let there : Some record { base = s.top; dims = dims } ≡ Some h =
        ap (λ b. cond b (Some record { base = s.top; dims = dims }) (find x s.homes))
        (sym eb) ∙ ex in
        let same : record { base = s.top; dims = dims } ≡ h = cc in
        subst (λ z. Held (λ n. []) env store x z.dims (row f z.base (slots_of z.dims))) same
        (subst (λ z. Held (λ n. []) env store z dims (row f s.top (slots_of dims)))
        (sym (same_name_is x (Variable n) eb)) is)
    at d is x h false eb ex =
        held x h (ap (λ b. cond b (Some record { base = s.top; dims = dims }) (find x s.homes))
        (sym eb) ∙ ex)

-- a number as it is written is its value
literal_known : (env : Environment) (store : Store) (e : Expr Meant) (n u : ℕ) (x : Numbers × ℕ)
    → literal_number e ≡ Some n → number_in env store e u ≡ Ok x → the_number x.0 ≡ n
literal_known env store (Number m) n u x e h =
    let a : (single (m % P), u) ≡ x = cc in
    let b : m % P ≡ n = cc in
    ap (λ y. the_number y.0) (sym a) ∙ b
literal_known env store (Parentheses e) n u x es h = literal_known env store e n u x es h
literal_known env store (PlaceOf name m accessors) n u x e h = cc
literal_known env store (Call parallel name m arguments) n u x e h = cc
literal_known env store (Anonymous parallel name m arguments inputs) n u x e h = cc
literal_known env store (Array elements) n u x e h = cc
literal_known env store (Unary o a) n u x e h = cc
literal_known env store (Binary o a b) n u x e h = cc
literal_known env store (Choice c a b) n u x e h = cc

all_inside : (indices : List (Option ℕ)) → is_inside [] indices ≡ true
all_inside [] = refl
all_inside (i ∷ is) = refl

pub keys_front : (keys later : List Made) (n : ℕ) (key : Made) → slice_get keys n ≡ Some key
    → slice_get (keys ++ later) n ≡ Some key
keys_front [] later n key e = cc
keys_front (k ∷ ks) later zero key e = e
keys_front (k ∷ ks) later (suc n) key e = keys_front ks later n key e

pub body_is : (program : Program) (f : ℕ) (function : Function)
    → slice_get program.functions f ≡ Some function → body_of program f ≡ function.body
body_is program f function e = rw e refl

pub params_is : (keys : List Made) (n : ℕ) (key : Made) → slice_get keys n ≡ Some key
    → params_at keys n ≡ params_of key
params_is keys n key e = rw e refl

-- a call that is open
abbrev waiting : Spot → (p first : ℕ) → List ℕ → Open
waiting sp p first f = record {
  resume = record { running = sp.running; place = p + 1; answer = first };
  slots = f;
}

abbrev callee_spot : Spot → (n p first : ℕ) → List ℕ → Spot
callee_spot sp n p first f = record {
  running = Called n;
  others = waiting sp p first f ∷ sp.others;
  written = sp.written;
}

-- the end of a call
module _ (k : Setting) (sp : Spot) (n p first : ℕ) (f : List ℕ) (u w q : ℕ) (fixed : Store → Type 0)
    (g : Ground) (env : Environment) (homes : Homes) (frame : List ℕ) where
  returns : (x : StepFlow × ℕ) (t : State) → first < length f → w ≤ u
      → slice_get (body_at k (callee_spot sp n p first f)) q ≡ None
      → Flowed fixed g env (callee_spot sp n p first f) homes q frame w x t
      → Does k t (gives (returned_number x.0) x.1) (Valued sp first (p + 1) [] f u)
  returns (StepGoing store, v) t room le past y =
      let Q : (Numbers × ℕ → State → Type 0) = Valued sp first (p + 1) [] f u in
      at_state k Q (here (callee_spot sp n p first f) q y.slots v) t (gives (single 0) v) y.is
      (goes k Q (here (callee_spot sp n p first f) q y.slots v)
      (here sp (p + 1) (slice_set f first 0) v) (gives (single 0) v)
      (ap (λ o. act k.procs k.reads o (here (callee_spot sp n p first f) q y.slots v)) past)
      (there k Q (here sp (p + 1) (slice_set f first 0) v) (single 0, v)
      (valued_number sp first (p + 1) f u 0 v (slice_set f first 0)
      (below_set first first 0 f (omega arith)) (set_same f first 0 room)
      (omega (arith, y.less, le)))))
  returns (StepReturned d, v) t room le past y =
      let Q : (Numbers × ℕ → State → Type 0) = Valued sp first (p + 1) [] f u in
      at_state k Q (here sp (p + 1) (slice_set f first (the_number d)) v) t
      (gives (single (the_number d)) v) y.is
      (there k Q (here sp (p + 1) (slice_set f first (the_number d)) v) (single (the_number d), v)
      (valued_number sp first (p + 1) f u (the_number d) v (slice_set f first (the_number d))
      (below_set first first (the_number d) f (omega arith)) (set_same f first (the_number d) room)
      (omega (arith, y.less, le))))

module _ (k : Setting) (program : Program) (all : List Made) (table : IsTable program all k.procs)
  where
    abbrev Calls : (room : ℕ) → (sp : Spot) → (width : ℕ) → (keys : List Made) → Type 0
    Calls room sp width keys = CallsRun k sp width keys (run_call program room)

    -- what a call costs, and where it goes
    paid : {A : Type 0} (Q : A × ℕ → State → Type 0) (sp : Spot) (n p first : ℕ) (f : List ℕ)
        (u : ℕ) (code : Proc) (go : ℕ → Ran A) → slice_get k.procs n ≡ Some code
        → slice_get (body_at k sp) p ≡ Some (op.Call n first first) → length sp.others < 256
        → ((w : ℕ) → w < u
        → Does k (here (callee_spot sp n p first f) 0 (frame_of code f first) w) (go w) Q)
        → Does k (here sp p f u) (spend u go) Q
    paid Q sp n p first f zero code go there_is e few on =
        stops k Q (here sp p f 0) FuelSpent 5 (step_at k sp p f 0 (op.Call n first first) e) refl
    paid Q sp n p first f (suc w) code go there_is e few on =
        let one : suc w - 1 ≡ w = omega arith in
        let proc : proc_at k.procs n ≡ code = ap (λ o. unwrap_or o no_code) there_is in
        let target : State = here (callee_spot sp n p first f) 0 (frame_of code f first) w in
        goes k Q (here sp p f (suc w)) target (go w)
        (step_at k sp p f (suc w) (op.Call n first first) e ∙
        ap (λ b. unless FuelSpent b
        (opens (proc_at k.procs n) n first first (here sp p f (suc w)) (suc w - 1)))
        (lt-ltb 0 (suc w) (omega arith)) ∙
        ap₂ (λ c v. opens c n first first (here sp p f (suc w)) v) proc one ∙
        ap (λ b. unless TooDeep b (Goes target)) (lt-ltb (length sp.others) 256 few))
        (on w (omega arith))

    too_many : (Q : Numbers × ℕ → State → Type 0) (sp : Spot) (n p first : ℕ) (f : List ℕ) (u : ℕ)
        → slice_get (body_at k sp) p ≡ Some (op.Call n first first) → length sp.others ≡ 256
        → Does k (here sp p f u) (spend u (λ w. Err too_deep)) Q
    too_many Q sp n p first f zero e full =
        stops k Q (here sp p f 0) FuelSpent 5 (step_at k sp p f 0 (op.Call n first first) e) refl
    too_many Q sp n p first f (suc w) e full =
        stops k Q (here sp p f (suc w)) TooDeep 6
        (step_at k sp p f (suc w) (op.Call n first first) e ∙
        ap (λ b. unless FuelSpent b
        (opens (proc_at k.procs n) n first first (here sp p f (suc w)) (suc w - 1)))
        (lt-ltb 0 (suc w) (omega arith)) ∙
        ap (λ b. unless TooDeep b
        (Goes (here (callee_spot sp n p first f) 0 (frame_of (proc_at k.procs n) f first)
        (suc w - 1)))) (le-ltb (length sp.others) 256 (omega (arith, full)))) refl

    -- the body of a procedure, from its first instruction on
    body_does : (room : ℕ) (sp : Spot) (n p first : ℕ) (f : List ℕ) (u w : ℕ) (key : Made)
        (code : Proc) (l : IsLowered program all key code) → slice_get k.procs n ≡ Some code
        → first + code.params ≤ length f → first < length f → w < u
        → Calls room (callee_spot sp n p first f) code.slots l.then_keys
        → Does k (here (callee_spot sp n p first f) 0 (frame_of code f first) w)
        (run_function (run_call program room) (slice_get program.functions key.function)
        (args_of key.shapes f first) w) (Valued sp first (p + 1) [] f u)
    body_does room sp n p first f u w key code l there_is long some less calls =
        does_same k (Valued sp first (p + 1) [] f u) start
        (run_function (run_call program room) (Some l.function) (args_of key.shapes f first) w)
        (run_function (run_call program room) (slice_get program.functions key.function)
        (args_of key.shapes f first) w)
        (ap (λ o. run_function (run_call program room) o (args_of key.shapes f first) w)
        (sym l.there))
        (does_next k (Flowed fixed ground env callee scope.homes end frame w)
        (Valued sp first (p + 1) [] f u) start (step_statements env l.function.body store w)
        (λ x. gives (returned_number x.0) x.1)
        (statements_do k callee (params_at l.then_keys) code.slots wide ground env calls fixed free
        (λ st fx. literal_known env st) (λ st m d fr fx. omega (arith, fx, length-set st m d))
        (λ st m fr fx. omega (arith, fr, fx)) (Unit {0}) (λ e. tt) l.function.body scope laid 0
        l.fits
        at store frame w fix shows size)
        (λ x t em y. returns k sp n p first f u w end fixed ground env scope.homes frame x t some
        (omega (arith, less)) past y))
      where
        callee : Spot
        callee = callee_spot sp n p first f

        frame : List ℕ
        frame = frame_of code f first

        start : State
        start = here callee 0 frame w

        ground : Ground
        ground = function_ground l.then_keys

        env : Environment
        env = in_function (run_call program room)

        scope : Scope
        scope = arguments_scope 0 key.shapes no_scope

        args : Store
        args = args_of key.shapes f first

        nothing : Numbers
        nothing = single 0

        rest : Store
        rest = replicate (l.function.variables - length args) nothing

        store : Store
        store = args ++ rest

        fixed : Store → Type 0
        fixed st = l.function.variables ≤ length st

        free : ℕ → Type 0
        free m = m < l.function.variables

        body : Code
        body = statements_code ground scope 0 l.function.body

        end : ℕ
        end = 0 + length body

        proc : proc_at k.procs n ≡ code
        proc = ap (λ o. unwrap_or o no_code) there_is

        is_body : body_at k callee ≡ body
        is_body = ap (λ c. c.body) proc ∙ l.body ∙
            ap (λ ss. statements_code ground scope 0 ss)
            (body_is program key.function l.function l.there)

        wide : IsWide (params_at l.then_keys) code.slots (body_at k callee)
        wide q o e =
            let inside : named (params_at l.then_keys) o
            ≤ most_named (params_at l.then_keys) code.body =
            named_most (params_at l.then_keys) code.body q o
            (ap (λ c. slice_get c.body q) (sym proc) ∙ e) in
            omega (arith, inside, l.slots)

        at : HasAt (body_at k callee) 0 body
        at = subst (λ b. HasAt b 0 body) (sym is_body) (has_itself [] body)

        past : slice_get (body_at k callee) end ≡ None
        past = ap (λ b. slice_get b end) is_body ∙ slice_get_past body end (omega arith)

        fit : code.params ≤ code.slots
        fit = omega (arith, l.slots)

        size : length frame ≡ code.slots
        size = frame_long code f first long fit

        laid : AreLaid scope.homes scope.top
        laid = arguments_laid key.shapes 0 no_scope tt l.small

        fix : fixed store
        fix = omega (
          arith,
          length-append args rest,
          length-replicate (l.function.variables - length args) nothing,
        )

        moved : args ≡ args_of key.shapes frame 0
        moved =
            let z : first ≡ first + 0 = omega arith in
            ap (args_of key.shapes f) z ∙
            args_moved key.shapes code f first 0 long (omega (arith, l.params))

        shows : Shows ground env scope.homes store frame
        shows = record {
          each = arguments_held env key.shapes 0 no_scope [] rest store frame refl
              (ap (λ xs. xs ++ rest) moved) (λ x h e. cc);
          outside = λ m indices name e. absurd (never (all_inside (map Some indices)) e);
          known = literal_known env store;
          called = λ e. refl;
        }
          where
            never : {b : Bool} → b ≡ true → b ≡ false → ⊥
            never et ef = cc

    pub calls_run : (room : ℕ) (sp : Spot) (width : ℕ) (keys later : List Made)
        → all ≡ keys ++ later → room + length sp.others ≡ 256
        → IsWide (params_at keys) width (body_at k sp) → Calls room sp width keys
    calls_run zero sp width keys later front depth wide = record {
      runs = λ n key e first p f u len at.
          too_many (Valued sp first (p + 1) [] f u) sp n p first f u at (omega (arith, depth));
    }
    calls_run (suc room) sp width keys later front depth wide = record {
      runs = λ n key e first p f u len at.
          let has : HasProcedure program all k.procs n key =
          table.each n key (ap (λ ks. slice_get ks n) front ∙ keys_front keys later n key e) in
          let named_here : max (first + 1) (first + params_at keys n) ≤ width =
          wide p (op.Call n first first) at in
          let same : params_at keys n ≡ has.code.params =
          params_is keys n key e ∙ sym has.lowered.params in
          let callee : Spot = callee_spot sp n p first f in
          paid (Valued sp first (p + 1) [] f u) sp n p first f u has.code
          (λ w. run_function (run_call program room) (slice_get program.functions key.function)
          (args_of key.shapes f first) w) has.there at (omega (arith, depth))
          (λ w less. body_does room sp n p first f u w key has.code has.lowered has.there
          (omega (arith, named_here, same, len)) (omega (arith, named_here, len)) less
          (calls_run room callee has.code.slots has.lowered.then_keys has.lowered.later
          has.lowered.front (omega (arith, depth))
          (callee_wide n p first sp f key has.code has.there has.lowered)));
    }
      where
        callee_wide : (n p first : ℕ) (sp : Spot) (f : List ℕ) (key : Made) (code : Proc)
            → slice_get k.procs n ≡ Some code → (l : IsLowered program all key code)
            → IsWide (params_at l.then_keys) code.slots (body_at k (callee_spot sp n p first f))
        callee_wide n p first sp f key code there_is l q o e =
            let proc : proc_at k.procs n ≡ code = ap (λ o. unwrap_or o no_code) there_is in
            let inside : named (params_at l.then_keys) o
            ≤ most_named (params_at l.then_keys) code.body =
            named_most (params_at l.then_keys) code.body q o
            (ap (λ c. slice_get c.body q) (sym proc) ∙ e) in
            omega (arith, inside, l.slots)
