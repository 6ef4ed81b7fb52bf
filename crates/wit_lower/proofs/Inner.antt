-- Code of expressions and statements has no Write, and its jumps stay within it.
use Rattle.std.proofs.Common.{◌≡◌, ℕ, zero, suc, ◌+◌, ◌%◌, ◌≤◌, Bool, true, false, cond, List, []}
use Rattle.std.proofs.Common.{◌∷◌, ◌++◌, length, drop, Option, Some, None, arith, length-append}
use Rattle.std.specs.Prelude.{◌==◌}
use Rattle.gold_field.specs.declared.gold.TheConstants.{P}
use Rattle.gold_field.specs.declared.operators.Op2.TheVariants as op2
use Rattle.wit_code.specs.declared.code.Op.{Op}
use Rattle.wit_code.specs.declared.code.Op.TheVariants as op
use Rattle.cir_ast.specs.declared.program.Meant.{Meant}
use Rattle.cir_ast.specs.declared.program.Meant.TheVariants as meant
use Rattle.cir_ast.specs.declared.program.Spot.{Spot}
use Rattle.cir_ast.specs.Tree.{Expr, Number, Place, Call, Anonymous, Parentheses, Array, Unary}
use Rattle.cir_ast.specs.Tree.{Binary, Choice, Exprs, none, more, Accessors, done, index, member}
use Rattle.cir_ast.specs.Tree.{Variable as Declared, Assign, Set, Compound, Left, Increment}
use Rattle.cir_ast.specs.Tree.{Decrement, First, FirstVars, FirstAssign, Simple, Vars, Signals}
use Rattle.cir_ast.specs.Tree.{Declared as DeclaredComponents, Created, Assigned, Constrain, Right}
use Rattle.cir_ast.specs.Tree.{TargetLeft, TargetRight, Alone, Statement, Block, If, IfElse, While}
use Rattle.cir_ast.specs.Tree.{For, Return, Assert, Log, Ended, Statements, empty, then_more}
use Rattle.cir_meaning.specs.Places.{elements}
use Rattle.cir_meaning.specs.Operators.{Operator, Strict, And, Or, operator_of}
use Rattle.cir_meaning.specs.Reached.{indices_count}
use Rattle.cir_meaning.specs.RunValues.{Numbers}
use Rattle.cir_meaning.specs.Writing.{plain}
use Rattle.wit_lower.specs.Homes.{Home, Homes, Ground, Scope, Front, Named, home_of, port_of}
use Rattle.wit_lower.specs.Homes.{component_dims, slots_of}
use Rattle.wit_lower.specs.Pieces.{Code, unless_zero, either, turned, truth_code, binary_code}
use Rattle.wit_lower.specs.Pieces.{decided, lazy_code, choice_code, moves, loads, stores, zeros}
use Rattle.wit_lower.specs.Pieces.{constants, bounds, offset_code, read_code, write_code}
use Rattle.wit_lower.specs.Values.{size_of, shapes_of, expr_code, exprs_code, place_code}
use Rattle.wit_lower.specs.Values.{indices_code, call_code, unless_called}
use Rattle.wit_lower.specs.Statements.{set_code, plain_code, assign_code, dims_code, known_dims}
use Rattle.wit_lower.specs.Statements.{variable_scope, value_code, variable_code, variables_code}
use Rattle.wit_lower.specs.Statements.{first_scope, first_code, simple_code, scope_behind}
use Rattle.wit_lower.specs.Statements.{test_code, statement_code, statements_code}

abbrev pub IsInner : (low high : ℕ) → Op → Type 0
IsInner low high (op.Jump to) = (low ≤ to) × (to ≤ high)
IsInner low high (op.JumpZero s to) = (low ≤ to) × (to ≤ high)
IsInner low high (op.Write s) = ⊥
IsInner low high _ = Unit {0}

abbrev pub Inner : (low high : ℕ) → Code → Type 0
Inner low high [] = Unit {0}
Inner low high (o ∷ os) = IsInner low high o × Inner low high os

op_wider : (a b c d : ℕ) (o : Op) → c ≤ a → b ≤ d → IsInner a b o → IsInner c d o
op_wider a b c d (op.Const s v) l h x = tt
op_wider a b c d (op.Move s t) l h x = tt
op_wider a b c d (op.Read s i) l h x = tt
op_wider a b c d (op.Un o s t) l h x = tt
op_wider a b c d (op.Bin o s t u) l h x = tt
op_wider a b c d (op.Bound s n) l h x = tt
op_wider a b c d (op.Load s base t) l h x = tt
op_wider a b c d (op.Store base s t) l h x = tt
op_wider a b c d (op.Jump to) l h (x, y) = (omega (arith, l, x), omega (arith, h, y))
op_wider a b c d (op.JumpZero s to) l h (x, y) = (omega (arith, l, x), omega (arith, h, y))
op_wider a b c d op.Turn l h x = tt
op_wider a b c d (op.Call f first s) l h x = tt
op_wider a b c d (op.Return s) l h x = tt
op_wider a b c d (op.Check s t) l h x = tt
op_wider a b c d (op.Assert s) l h x = tt
op_wider a b c d (op.Write s) l h x = absurd x

wider : (a b c d : ℕ) (code : Code) → c ≤ a → b ≤ d → Inner a b code → Inner c d code
wider a b c d [] l h x = tt
wider a b c d (o ∷ os) l h (x, y) = (op_wider a b c d o l h x, wider a b c d os l h y)

both : (low high : ℕ) (xs ys : Code) → Inner low high xs → Inner low high ys
    → Inner low high (xs ++ ys)
both low high [] ys a b = b
both low high (x ∷ xs) ys (o, a) b = (o, both low high xs ys a b)

-- within its own places
abbrev pub IsWhole : (place : ℕ) → Code → Type 0
IsWhole p code = Inner p (p + length code) code

pub whole_append : (p : ℕ) (xs ys : Code) → IsWhole p xs → IsWhole (p + length xs) ys
    → IsWhole p (xs ++ ys)
whole_append p xs ys a b =
    let size : length (xs ++ ys) ≡ length xs + length ys = length-append xs ys in
    both p (p + length (xs ++ ys)) xs ys
    (wider p (p + length xs) p (p + length (xs ++ ys)) xs (omega arith) (omega (arith, size)) a)
    (wider (p + length xs) (p + length xs + length ys) p (p + length (xs ++ ys)) ys (omega arith)
    (omega (arith, size)) b)

moves_inner : (to from n low high : ℕ) → Inner low high (moves to from n)
moves_inner to from zero low high = tt
moves_inner to from (suc n) low high = (tt, moves_inner to from n low high)

loads_inner : (to base n low high : ℕ) → Inner low high (loads to base n)
loads_inner to base zero low high = tt
loads_inner to base (suc n) low high = (tt, loads_inner to base n low high)

stores_inner : (base s from n low high : ℕ) → Inner low high (stores base s from n)
stores_inner base s from zero low high = tt
stores_inner base s from (suc n) low high =
    (tt, stores_inner (base + 1) s (from + 1) n low high)

zeros_inner : (to n low high : ℕ) → Inner low high (zeros to n)
zeros_inner to zero low high = tt
zeros_inner to (suc n) low high = (tt, zeros_inner (to + 1) n low high)

constants_inner : (to : ℕ) (ns : List ℕ) (low high : ℕ) → Inner low high (constants to ns)
constants_inner to [] low high = tt
constants_inner to (n ∷ ns) low high = (tt, constants_inner (to + 1) ns low high)

bounds_inner : (s : ℕ) (dims : List ℕ) (n low high : ℕ) → Inner low high (bounds s dims n)
bounds_inner s [] n low high = tt
bounds_inner s (d ∷ ds) zero low high = tt
bounds_inner s (d ∷ ds) (suc n) low high = (tt, bounds_inner (s + 1) ds n low high)

offset_inner : (s : ℕ) (dims : List ℕ) (n low high : ℕ) → Inner low high (offset_code s dims n)
offset_inner s [] n low high = tt
offset_inner s (d ∷ ds) zero low high = (tt, rest (elements ds == 1))
  where
    rest : (b : Bool) → Inner low high (cond b [] (op.Const (s + 1) (elements ds % P) ∷
        op.Bin op2.Mul s s (s + 1) ∷ []))
    rest true = tt
    rest false = (tt, (tt, tt))
offset_inner s (d ∷ ds) (suc n) low high = (
  tt,
  both low high (offset_code (s + 1) ds n) _ (offset_inner (s + 1) ds n low high)
      (tt, (tt, (tt, tt))),
)

read_inner : (home : Option Home) (top n low high : ℕ) → Inner low high (read_code home top n)
read_inner None top n low high = tt
read_inner (Some h) top zero low high = moves_inner top h.base (slots_of h.dims) low high
read_inner (Some h) top (suc n) low high =
    both low high (offset_code top h.dims n) _ (offset_inner top h.dims n low high)
    (loads_inner top h.base (slots_of (drop (suc n) h.dims)) low high)

write_inner : (home : Option Home) (s n from size low high : ℕ)
    → Inner low high (write_code home s n from size)
write_inner None s n from size low high = tt
write_inner (Some h) s zero from size low high = moves_inner h.base from size low high
write_inner (Some h) s (suc n) from size low high =
    both low high (offset_code s h.dims n) _ (offset_inner s h.dims n low high)
    (stores_inner h.base s from size low high)

-- pieces with jumps
unless_whole : (s p : ℕ) (piece : ℕ → Code) → IsWhole (p + 1) (piece (p + 1))
    → IsWhole p (unless_zero s p piece)
unless_whole s p piece a =
    let code : Code = piece (p + 1) in (
      (omega arith, omega arith),
      wider (p + 1) (p + 1 + length code) p (p + suc (length code)) code (omega arith)
          (omega arith) a,
    )

either_whole : (s p : ℕ) (first second : ℕ → Code) → IsWhole (p + 1) (first (p + 1))
    → IsWhole (p + 2 + length (first (p + 1))) (second (p + 2 + length (first (p + 1))))
    → IsWhole p (either s p first second)
either_whole s p first second a b =
    let one : Code = first (p + 1) in
    let q : ℕ = p + 2 + length one in
    let two : Code = second q in
    let end : ℕ = q + length two in
    let rest : Code = op.Jump end ∷ two in
    let high : ℕ = p + suc (length (one ++ rest)) in
    let size : length (one ++ rest) ≡ length one + suc (length two) = length-append one rest in (
      (omega arith, omega (arith, size)),
      both p high one rest
          (wider (p + 1) (p + 1 + length one) p high one (omega arith) (omega (arith, size)) a) (
            (omega arith, omega (arith, size)),
            wider q end p high two (omega arith) (omega (arith, size)) b,
          ),
    )

turned_whole : (s p : ℕ) (turn test : Code) → IsWhole (p + 2) turn
    → IsWhole (p + 2 + length turn) test → IsWhole p (turned s p turn test)
turned_whole s p turn test a b =
    let q : ℕ = p + 2 + length turn in
    let last : Code =
    op.JumpZero s (p + 4 + length turn + length test) ∷ op.Jump (p + 1) ∷ [] in
    let rest : Code = turn ++ (test ++ last) in
    let high : ℕ = p + suc (suc (length rest)) in
    let size : length rest ≡ length turn + (length test + 2) =
    omega (arith, length-append turn (test ++ last), length-append test last) in (
      (omega arith, omega (arith, size)),
      (
        tt,
        both p high turn (test ++ last)
            (wider (p + 2) q p high turn (omega arith) (omega (arith, size)) a)
            (both p high test last
            (wider q (q + length test) p high test (omega arith) (omega (arith, size)) b)
            ((omega arith, omega (arith, size)), ((omega arith, omega (arith, size)), tt))),
      ),
    )

binary_whole : (o : Operator) (top p : ℕ) (left : Code) (right : ℕ → ℕ → Code)
    → IsWhole p left → ((slot q : ℕ) → IsWhole q (right slot q))
    → IsWhole p (binary_code o top p left right)
binary_whole (Strict o) top p left right a b =
    let q : ℕ = p + length left in
    let two : Code = right (top + 1) q in
    whole_append p left (two ++ op.Bin o top top (top + 1) ∷ []) a
    (whole_append q two (op.Bin o top top (top + 1) ∷ []) (b (top + 1) q) (tt, tt))
binary_whole And top p left right a b =
    let q : ℕ = p + length left in
    let piece : (ℕ → Code) = λ r. right top r ++ truth_code top in
    whole_append p left (unless_zero top q piece) a
    (unless_whole top q piece
    (whole_append (q + 1) (right top (q + 1)) (truth_code top) (b top (q + 1)) (tt, (tt, tt))))
binary_whole Or top p left right a b =
    let q : ℕ = p + length left in
    let one : (ℕ → Code) = λ r. op.Const top 1 ∷ [] in
    let piece : (ℕ → Code) = λ r. right top r ++ truth_code top in
    let r : ℕ = q + 2 + length (one (q + 1)) in
    whole_append p left (either top q one piece) a
    (either_whole top q one piece (tt, tt)
    (whole_append r (right top r) (truth_code top) (b top r) (tt, (tt, tt))))

lazy_whole : (d : Option ℕ) (o : Operator) (top p : ℕ) (left : Code) (right : ℕ → ℕ → Code)
    → IsWhole p left → ((slot q : ℕ) → IsWhole q (right slot q))
    → IsWhole p (lazy_code d top left (binary_code o top p left right))
lazy_whole None o top p left right a b = binary_whole o top p left right a b
lazy_whole (Some n) o top p left right a b = whole_append p left (op.Const top n ∷ []) a (tt, tt)

choice_whole : (told : Option ℕ) (s p : ℕ) (first second : ℕ → Code)
    → ((q : ℕ) → IsWhole q (first q)) → ((q : ℕ) → IsWhole q (second q))
    → IsWhole p (choice_code told s p first second)
choice_whole None s p first second a b =
    either_whole s p first second (a (p + 1)) (b (p + 2 + length (first (p + 1))))
choice_whole (Some zero) s p first second a b = b p
choice_whole (Some (suc m)) s p first second a b = a p

called_whole : (o : Option Numbers) (top p : ℕ) (call : Code) → IsWhole p call
    → IsWhole p (unless_called o top call)
called_whole None top p call h = h
called_whole (Some d) top p call h = constants_inner top d.items p _

module _ (g : Ground) where
  call_whole : (top p : ℕ) (m : Meant) (shapes : List (List ℕ))
      → IsWhole p (call_code g.keys top m shapes)
  call_whole top p (meant.Function f) shapes = (tt, tt)
  call_whole top p meant.Other shapes = tt
  call_whole top p (meant.Variable n) shapes = tt
  call_whole top p (meant.Signal direction n) shapes = tt
  call_whole top p (meant.Component n) shapes = tt
  call_whole top p (meant.Template n) shapes = tt

  mutual
    pub expr_whole : (homes : Homes) (e : Expr Meant) (top p : ℕ)
        → IsWhole p (expr_code g homes top p e)
    expr_whole homes (Number n) top p = (tt, tt)
    expr_whole homes (Place name m accessors) top p =
        place_whole homes accessors (Named m) [] top p
    expr_whole homes (Call parallel name m arguments) top p =
        let one : Code = exprs_code g homes top p arguments in
        let two : Code = call_code g.keys top m (shapes_of g homes arguments) in
        called_whole (g.called (Call parallel name m arguments)) top p (one ++ two)
        (whole_append p one two (exprs_whole homes arguments top p)
        (call_whole top (p + length one) m (shapes_of g homes arguments)))
    expr_whole homes (Anonymous parallel name m arguments inputs) top p = tt
    expr_whole homes (Parentheses e) top p = expr_whole homes e top p
    expr_whole homes (Array elements) top p = exprs_whole homes elements top p
    expr_whole homes (Unary o a) top p =
        whole_append p (expr_code g homes top p a) _ (expr_whole homes a top p) (tt, tt)
    expr_whole homes (Binary o a b) top p =
        lazy_whole (decided (operator_of o) (g.known a)) (operator_of o) top p
        (expr_code g homes top p a) (λ slot q. expr_code g homes slot q b)
        (expr_whole homes a top p) (λ slot q. expr_whole homes b slot q)
    expr_whole homes (Choice c a b) top p =
        let one : Code = expr_code g homes top p c in
        let q : ℕ = p + length one in
        let first : (ℕ → Code) = λ r. expr_code g homes top r a in
        let second : (ℕ → Code) = λ r. expr_code g homes top r b in
        whole_append p one (choice_code (g.known c) top q first second)
        (expr_whole homes c top p)
        (choice_whole (g.known c) top q first second (λ r. expr_whole homes a top r)
        (λ r. expr_whole homes b top r))

    exprs_whole : (homes : Homes) (es : Exprs Meant) (top p : ℕ)
        → IsWhole p (exprs_code g homes top p es)
    exprs_whole homes none top p = tt
    exprs_whole homes (more e es) top p =
        let one : Code = expr_code g homes top p e in
        let q : ℕ = p + length one in
        whole_append p one (exprs_code g homes (top + size_of g homes e) q es)
        (expr_whole homes e top p) (exprs_whole homes es (top + size_of g homes e) q)

    place_whole : (homes : Homes) (rest : Accessors Meant) (front : Front)
        (known : List (Option ℕ)) (top p : ℕ)
        → IsWhole p (place_code g homes top p front known rest)
    place_whole homes done front known top p =
        read_inner (home_of homes front) top (length known) p _
    place_whole homes (index e rest) front known top p =
        let one : Code = expr_code g homes (top + length known) p e in
        let q : ℕ = p + length one in
        whole_append p one (place_code g homes top q front (known ++ g.known e ∷ []) rest)
        (expr_whole homes e (top + length known) p)
        (place_whole homes rest front (known ++ g.known e ∷ []) top q)
    place_whole homes (member name rest) front known top p =
        let one : Code = bounds top (component_dims g front) (length known) in
        let q : ℕ = p + length one in
        let behind : Front = port_of g homes front known name in
        whole_append p one (place_code g homes top q behind [] rest)
        (bounds_inner top (component_dims g front) (length known) p (p + length one))
        (place_whole homes rest behind [] top q)

  indices_whole : (homes : Homes) (rest : Accessors Meant) (slot p : ℕ)
      → IsWhole p (indices_code g homes slot p rest)
  indices_whole homes done slot p = tt
  indices_whole homes (member name rest) slot p = tt
  indices_whole homes (index e rest) slot p =
      let one : Code = expr_code g homes slot p e in
      whole_append p one (indices_code g homes (slot + 1) (p + length one) rest)
      (expr_whole homes e slot p) (indices_whole homes rest (slot + 1) (p + length one))

  set_whole : (s : Scope) (m : Meant) (accessors : Accessors Meant) (e : Expr Meant) (p : ℕ)
      → IsWhole p (set_code g s p m accessors e)
  set_whole s m accessors e p =
      let size : ℕ = size_of g s.homes e in
      let one : Code = expr_code g s.homes s.top p e in
      let q : ℕ = p + length one in
      let two : Code = indices_code g s.homes (s.top + size) q accessors in
      let three : Code =
      write_code (home_of s.homes (Named m)) (s.top + size) (indices_count accessors) s.top size in
      whole_append p one (two ++ three) (expr_whole s.homes e s.top p)
      (whole_append q two three (indices_whole s.homes accessors (s.top + size) q)
      (write_inner (home_of s.homes (Named m)) (s.top + size) (indices_count accessors) s.top size
      (q + length two) _))

  plain_whole : (s : Scope) (a : Assign Meant) (p : ℕ) → IsWhole p (plain_code g s p a)
  plain_whole s (Set name m accessors e) p = set_whole s m accessors e p
  plain_whole s (Compound name m accessors o e) p = tt
  plain_whole s (Left name m accessors arrow e) p = tt
  plain_whole s (Increment name m accessors) p = tt
  plain_whole s (Decrement name m accessors) p = tt

  dims_whole : (s : Scope) (es : Exprs Meant) (p : ℕ) → IsWhole p (dims_code g s p es)
  dims_whole s none p = tt
  dims_whole s (more e es) p =
      let one : Code = expr_code g s.homes s.top p e in
      whole_append p one (dims_code g s (p + length one) es) (expr_whole s.homes e s.top p)
      (dims_whole s es (p + length one))

  value_whole : (s : Scope) (m : Meant) (value : Option (Expr Meant)) (p : ℕ)
      → IsWhole p (value_code g s p m value)
  value_whole s m None p = tt
  value_whole s m (Some e) p = set_whole s m done e p

  variable_whole : (s : Scope) (v : Declared Meant) (p : ℕ) → IsWhole p (variable_code g s p v)
  variable_whole s v p =
      let dims : Code = dims_code g s p v.dimensions in
      let zero_all : Code = zeros s.top (slots_of (known_dims g v)) in
      let one : Code = dims ++ zero_all in
      let q : ℕ = p + length one in
      whole_append p one (value_code g (variable_scope g s v) q v.meant v.value)
      (whole_append p dims zero_all (dims_whole s v.dimensions p)
      (zeros_inner s.top (slots_of (known_dims g v)) (p + length dims) _))
      (value_whole (variable_scope g s v) v.meant v.value q)

  variables_whole : (s : Scope) (vs : List (Declared Meant)) (p : ℕ)
      → IsWhole p (variables_code g s p vs)
  variables_whole s [] p = tt
  variables_whole s (v ∷ vs) p =
      let one : Code = variable_code g s p v in
      whole_append p one (variables_code g (variable_scope g s v) (p + length one) vs)
      (variable_whole s v p) (variables_whole (variable_scope g s v) vs (p + length one))

  first_whole : (s : Scope) (x : First Meant) (p : ℕ) → IsWhole p (first_code g s p x)
  first_whole s (FirstVars vs) p = variables_whole s vs p
  first_whole s (FirstAssign a) p = plain_whole s (plain a) p

  simple_whole : (s : Scope) (x : Simple Meant) (p : ℕ) → IsWhole p (simple_code g s p x)
  simple_whole s (Vars vs) p = variables_whole s vs p
  simple_whole s (Assigned a) p = plain_whole s (plain a) p
  simple_whole s (Signals direction ds) p = tt
  simple_whole s (DeclaredComponents cs) p = tt
  simple_whole s (Created name m e) p = tt
  simple_whole s (Constrain a b) p = tt
  simple_whole s (Right e arrow name m accessors) p = tt
  simple_whole s (TargetLeft t arrow x) p = tt
  simple_whole s (TargetRight x arrow t) p = tt
  simple_whole s (Alone parallel name m arguments inputs) p = tt

  mutual
    pub statement_whole : (a : Statement Spot Meant) (s : Scope) (p : ℕ)
        → IsWhole p (statement_code g s p a)
    statement_whole (Block spot ss) s p = statements_whole ss s p
    statement_whole (If spot c a) s p =
        let one : Code = test_code g s p c in
        let q : ℕ = p + length one in
        let piece : (ℕ → Code) = λ r. statement_code g s r a in
        whole_append p one (unless_zero s.top q piece) (expr_whole s.homes c s.top p)
        (unless_whole s.top q piece (statement_whole a s (q + 1)))
    statement_whole (IfElse spot c a b) s p =
        let one : Code = test_code g s p c in
        let q : ℕ = p + length one in
        let first : (ℕ → Code) = λ r. statement_code g s r a in
        let second : (ℕ → Code) = λ r. statement_code g s r b in
        whole_append p one (either s.top q first second) (expr_whole s.homes c s.top p)
        (either_whole s.top q first second (statement_whole a s (q + 1))
        (statement_whole b s (q + 2 + length (first (q + 1)))))
    statement_whole (While spot c a) s p =
        let turn : Code = statement_code g s (p + 2) a in
        turned_whole s.top p turn (test_code g s (p + 2 + length turn) c)
        (statement_whole a s (p + 2)) (expr_whole s.homes c s.top (p + 2 + length turn))
    statement_whole (For spot first_spot x c step_spot a b) s p =
        let inner : Scope = first_scope g s x in
        let one : Code = first_code g s p x in
        let q : ℕ = p + length one in
        let two : Code = statement_code g inner (q + 2) b in
        let r : ℕ = q + 2 + length two in
        let last : Scope = scope_behind g inner b in
        let turn : Code = two ++ assign_code g last r a in
        let test : Code = test_code g inner (q + 2 + length turn) c in
        whole_append p one (turned inner.top q turn test) (first_whole s x p)
        (turned_whole inner.top q turn test
        (whole_append (q + 2) two (assign_code g last r a) (statement_whole b inner (q + 2))
        (plain_whole last (plain a) r))
        (expr_whole inner.homes c inner.top (q + 2 + length turn)))
    statement_whole (Return spot e) s p =
        whole_append p (expr_code g s.homes s.top p e) (op.Return s.top ∷ [])
        (expr_whole s.homes e s.top p) (tt, tt)
    statement_whole (Assert spot e) s p =
        whole_append p (test_code g s p e) (op.Assert s.top ∷ []) (expr_whole s.homes e s.top p)
        (tt, tt)
    statement_whole (Log spot arguments) s p = tt
    statement_whole (Ended spot x) s p = simple_whole s x p

    statements_whole : (ss : Statements Spot Meant) (s : Scope) (p : ℕ)
        → IsWhole p (statements_code g s p ss)
    statements_whole empty s p = tt
    statements_whole (then_more a rest) s p =
        let one : Code = statement_code g s p a in
        whole_append p one (statements_code g (scope_behind g s a) (p + length one) rest)
        (statement_whole a s p) (statements_whole rest (scope_behind g s a) (p + length one))
