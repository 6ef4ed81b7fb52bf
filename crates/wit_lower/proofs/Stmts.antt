-- The code of a statement does what the statement means: it goes on with new numbers of variables,
-- leaves its function, or stops.
use Rattle.std.proofs.Common.{◌≡◌, ℕ, zero, suc, ◌+◌, ◌-◌, ◌<◌, ◌≤◌, Bool, true, false, cond, not}
use Rattle.std.proofs.Common.{List, [], ◌∷◌, ◌++◌, length, Some, Ok, Err, refl, sym, ap, ap₂, subst}
use Rattle.std.proofs.Common.{◌∙◌, arith, length-append}
use Rattle.std.specs.Prelude.{slice_get, slice_index, slice_set, ◌==◌}
use Rattle.std.proofs.lemmas.Bool.{lt-ltb}
use Rattle.wit_code.specs.declared.code.Op.TheVariants as op
use Rattle.wit_code.specs.declared.code.Stop.TheVariants.{FuelSpent, AssertFails}
use Rattle.wit_code.specs.Frames.{Open}
use Rattle.wit_code.specs.Table.{State, Goes, unless, answer}
use Rattle.cir_ast.specs.declared.program.Spot.{Spot as Place}
use Rattle.cir_ast.specs.declared.program.Meant.{Meant}
use Rattle.cir_ast.specs.Tree.{Expr, First, FirstVars, FirstAssign, Simple, Vars, Signals}
use Rattle.cir_ast.specs.Tree.{Declared as DeclaredComponents, Created, Assigned, Constrain, Right}
use Rattle.cir_ast.specs.Tree.{TargetLeft, TargetRight, Alone, Statement, Block, If, IfElse, While}
use Rattle.cir_ast.specs.Tree.{For, Return, Assert, Log, Ended, Statements, empty, then_more}
use Rattle.cir_meaning.specs.Tried.{next}
use Rattle.cir_meaning.specs.Writing.{plain}
use Rattle.cir_meaning.specs.RunValues.{Ran, Numbers, Environment, Store, gives, number_in}
use Rattle.cir_meaning.specs.RunValues.{the_number, assert_fails}
use Rattle.cir_meaning.specs.RunStatements.{StepFlow, StepGoing, StepReturned, step_goes}
use Rattle.cir_meaning.specs.RunStatements.{step_going, spend, step_assign, step_first, step_simple}
use Rattle.cir_meaning.specs.RunStatements.{step_turns, step_statement, step_statements}
use Rattle.wit_lower.specs.Homes.{Homes, Scope, Ground}
use Rattle.wit_lower.specs.Pieces.{Code, unless_zero, either, turned}
use Rattle.wit_lower.specs.Values.{shape_of, expr_code}
use Rattle.wit_lower.specs.Statements.{assign_code, first_scope, first_code, simple_code}
use Rattle.wit_lower.specs.Statements.{simple_scope, scope_behind, test_code, statement_code}
use Rattle.wit_lower.specs.Statements.{statements_code}
use Rattle.wit_lower.specs.Fits.{AreLaid, TestFits, FirstFits, SimpleFits, StatementFits}
use Rattle.wit_lower.specs.Fits.{StatementsFit}
use Rattle.wit_lower.proofs.Does.{Setting, takes, Does, does_next, does_on, does_weaker}
use Rattle.wit_lower.proofs.Does.{gives as there, goes, stops, HasAt, has_front, has_back}
use Rattle.wit_lower.proofs.Spots.{Spot, here, body_at, IsWide, step_at, op_goes, at_state}
use Rattle.wit_lower.proofs.Pieces.{turn_at}
use Rattle.wit_lower.proofs.Shows.{Shows, KnownAt, shows_below}
use Rattle.wit_lower.proofs.Parts.{Valued}
use Rattle.wit_lower.proofs.Operators.{number_does, skip_does, does_test}
use Rattle.wit_lower.proofs.Exprs.{CallsRun, expr_does}
use Rattle.wit_lower.proofs.Sets.{Kept, plain_does}
use Rattle.wit_lower.proofs.Declaring.{kept_later, variables_do, variables_laid, variables_outer}

-- the caller goes on with a number
abbrev pub resumed : Spot → Open → List Open → (answer units : ℕ) → State
resumed sp o os n units = record {
  running = o.resume.running;
  place = o.resume.place;
  frames = record { slots = slice_set o.slots o.resume.answer n; open_calls = os };
  units = units;
  written = sp.written;
}

pub record Resumed (sp : Spot) (o : Open) (os : List Open) (n v u : ℕ) (t : State) : Type 0 where
  pub is : t ≡ resumed sp o os n v
  pub less : v ≤ u

-- a return leaves the body; in a step's own code there is none
abbrev pub LeftTo : Spot → List Open → (n v u : ℕ) → State → Type 0
LeftTo sp [] n v u t = ⊥
LeftTo sp (o ∷ os) n v u t = Resumed sp o os n v u t

abbrev pub IsOpen : List Open → Type 0
IsOpen [] = ⊥
IsOpen (o ∷ os) = Unit {0}

left_later : (sp : Spot) (os : List Open) (n v u u' : ℕ) (t : State) → LeftTo sp os n v u' t
    → u' ≤ u → LeftTo sp os n v u t
left_later sp [] n v u u' t h le = absurd h
left_later sp (o ∷ os) n v u u' t h le =
    record { is = h.is; less = omega (arith, h.less, le) }

abbrev pub Flowed : (fixed : Store → Type 0) → Ground → Environment → Spot → Homes → (q : ℕ)
    → (f : List ℕ) → (u : ℕ) → StepFlow × ℕ → State → Type 0
Flowed fixed g env sp homes q f u (StepGoing store, v) t =
    Kept fixed g env sp homes q f u (store, v) t
Flowed fixed g env sp homes q f u (StepReturned d, v) t =
    LeftTo sp sp.others (the_number d) v u t

module _ (g : Ground) (env : Environment) (free : ℕ → Type 0) (Ends : Type 0) where
  simple_outer : (x : Simple Meant) (s : Scope) (store : Store) (f : List ℕ)
      → SimpleFits free g s x → Shows g env (simple_scope g s x).homes store f
      → Shows g env s.homes store f
  simple_outer (Vars vs) s store f fits shows =
      variables_outer g env free vs s store f fits shows
  simple_outer (Signals d ds) s store f fits shows = shows
  simple_outer (DeclaredComponents cs) s store f fits shows = shows
  simple_outer (Created name m e) s store f fits shows = shows
  simple_outer (Assigned a) s store f fits shows = shows
  simple_outer (Constrain a b) s store f fits shows = shows
  simple_outer (Right e arrow name m accessors) s store f fits shows = shows
  simple_outer (TargetLeft t arrow x) s store f fits shows = shows
  simple_outer (TargetRight x arrow t) s store f fits shows = shows
  simple_outer (Alone parallel name m arguments inputs) s store f fits shows = shows

  pub outer : (a : Statement Place Meant) (s : Scope) (store : Store) (f : List ℕ)
      → StatementFits free Ends g s a → Shows g env (scope_behind g s a).homes store f
      → Shows g env s.homes store f
  outer (Ended spot x) s store f fits shows = simple_outer x s store f fits shows
  outer (Block spot ss) s store f fits shows = shows
  outer (If spot c a) s store f fits shows = shows
  outer (IfElse spot c a b) s store f fits shows = shows
  outer (While spot c a) s store f fits shows = shows
  outer (For spot first_spot x c step_spot a b) s store f fits shows = shows
  outer (Return spot e) s store f fits shows = shows
  outer (Assert spot e) s store f fits shows = shows
  outer (Log spot arguments) s store f fits shows = shows

  simple_laid : (x : Simple Meant) (s : Scope) → AreLaid s.homes s.top → SimpleFits free g s x
      → AreLaid (simple_scope g s x).homes (simple_scope g s x).top
  simple_laid (Vars vs) s l fits = variables_laid g free vs s l fits
  simple_laid (Signals d ds) s l fits = l
  simple_laid (DeclaredComponents cs) s l fits = l
  simple_laid (Created name m e) s l fits = l
  simple_laid (Assigned a) s l fits = l
  simple_laid (Constrain a b) s l fits = l
  simple_laid (Right e arrow name m accessors) s l fits = l
  simple_laid (TargetLeft t arrow x) s l fits = l
  simple_laid (TargetRight x arrow t) s l fits = l
  simple_laid (Alone parallel name m arguments inputs) s l fits = l

  behind_laid : (a : Statement Place Meant) (s : Scope) → AreLaid s.homes s.top
      → StatementFits free Ends g s a
      → AreLaid (scope_behind g s a).homes (scope_behind g s a).top
  behind_laid (Ended spot x) s l fits = simple_laid x s l fits
  behind_laid (Block spot ss) s l fits = l
  behind_laid (If spot c a) s l fits = l
  behind_laid (IfElse spot c a b) s l fits = l
  behind_laid (While spot c a) s l fits = l
  behind_laid (For spot first_spot x c step_spot a b) s l fits = l
  behind_laid (Return spot e) s l fits = l
  behind_laid (Assert spot e) s l fits = l
  behind_laid (Log spot arguments) s l fits = l

  first_laid : (x : First Meant) (s : Scope) → AreLaid s.homes s.top → FirstFits free g s x
      → AreLaid (first_scope g s x).homes (first_scope g s x).top
  first_laid (FirstVars vs) s l fits = variables_laid g free vs s l fits
  first_laid (FirstAssign a) s l fits = l

  first_outer : (x : First Meant) (s : Scope) (store : Store) (f : List ℕ)
      → FirstFits free g s x → Shows g env (first_scope g s x).homes store f
      → Shows g env s.homes store f
  first_outer (FirstVars vs) s store f fits shows =
      variables_outer g env free vs s store f fits shows
  first_outer (FirstAssign a) s store f fits shows = shows

-- a result is one of a later place, of outer homes, and of more units
flowed_later : (fixed : Store → Type 0) (g : Ground) (env : Environment) (sp : Spot)
    (inner homes : Homes) (q q' : ℕ) (f f' : List ℕ) (u u' : ℕ) (x : StepFlow × ℕ) (t : State)
    → Flowed fixed g env sp inner q f' u' x t
    → ((store : Store) (slots : List ℕ) → Shows g env inner store slots
    → Shows g env homes store slots)
    → length f' ≡ length f → u' ≤ u → q ≡ q' → Flowed fixed g env sp homes q' f u x t
flowed_later fixed g env sp inner homes q q' f f' u u' (StepGoing store, v) t y up size le e =
    record {
      slots = y.slots;
      is = y.is ∙ ap (λ i. here sp i y.slots v) e;
      shows = up store y.slots y.shows;
      stays = y.stays;
      size = y.size ∙ size;
      less = omega (arith, y.less, le);
    }
flowed_later fixed g env sp inner homes q q' f f' u u' (StepReturned d, v) t y up size le e =
    left_later sp sp.others (the_number d) v u u' t y le

module _ (k : Setting) (sp : Spot) (params : ℕ → ℕ) (width : ℕ)
    (wide : IsWide params width (body_at k sp)) (g : Ground) (env : Environment)
    (calls : CallsRun k sp width g.keys env.call) (fixed : Store → Type 0) (free : ℕ → Type 0)
    (known : (store : Store) → fixed store → KnownAt g env store)
    (stays : (store : Store) (n : ℕ) (d : Numbers) → free n → fixed store
    → fixed (slice_set store n d))
    (room : (store : Store) (n : ℕ) → free n → fixed store → n < length store)
    (Ends : Type 0) (ends : Ends → IsOpen sp.others) where
  -- what a piece of code does from each frame that shows the variables
  abbrev DoesFlow : Scope → Code → (p : ℕ) → (homes : Homes) → (Store → ℕ → Ran StepFlow) → Type 0
  DoesFlow s code p homes meaning =
      (store : Store) (f : List ℕ) (u : ℕ) → fixed store → Shows g env s.homes store f
      → length f ≡ width
      → Does k (here sp p f u) (meaning store u)
      (Flowed fixed g env sp homes (p + length code) f u)

  first_does : (s : Scope) (laid : AreLaid s.homes s.top) (x : First Meant) (store : Store)
      (p : ℕ) (f : List ℕ) (u : ℕ) → FirstFits free g s x → fixed store
      → Shows g env s.homes store f → length f ≡ width
      → HasAt (body_at k sp) p (first_code g s p x)
      → Does k (here sp p f u) (step_first env x store u)
      (Kept fixed g env sp (first_scope g s x).homes (p + length (first_code g s p x)) f u)
  first_does s laid (FirstVars vs) store p f u fits fix shows len at =
      variables_do k sp params width wide g env calls fixed free known stays room vs s laid store p
      f u fits fix shows len at
  first_does s laid (FirstAssign a) store p f u fits fix shows len at =
      plain_does k sp params width wide g g.known env calls fixed free known stays room s laid
      (plain a) store p f u fits fix shows len at

  -- new numbers, as a flow
  goes_does : (homes : Homes) (m : Ran Store) (q q' : ℕ) (f f' : List ℕ) (u u' : ℕ) (s : State)
      → Does k s m (Kept fixed g env sp homes q f' u') → length f' ≡ length f → u' ≤ u → q ≡ q'
      → Does k s (step_goes m) (Flowed fixed g env sp homes q' f u)
  goes_does homes m q q' f f' u u' s d size le e =
      does_next k (Kept fixed g env sp homes q f' u') (Flowed fixed g env sp homes q' f u) s m
      (λ x. gives (StepGoing x.0) x.1) d
      (λ x t em y. there k (Flowed fixed g env sp homes q' f u) t (StepGoing x.0, x.1)
      (kept_later fixed g env sp homes q q' f f' u u' x t y size le e))

  -- what follows a flow
  flow_does : (inner homes : Homes) (m : Ran StepFlow) (go : Store → ℕ → Ran StepFlow)
      (q q' : ℕ) (f f' : List ℕ) (u u' : ℕ) (s : State)
      → Does k s m (Flowed fixed g env sp inner q f' u') → u' ≤ u
      → ((store : Store) (slots : List ℕ) (v : ℕ) → fixed store → Shows g env inner store slots
      → length slots ≡ length f' → v ≤ u'
      → Does k (here sp q slots v) (go store v) (Flowed fixed g env sp homes q' f u))
      → Does k s (next m (λ x. step_going x.0 x.1 go)) (Flowed fixed g env sp homes q' f u)
  flow_does inner homes m go q q' f f' u u' s d le on =
      does_next k (Flowed fixed g env sp inner q f' u') (Flowed fixed g env sp homes q' f u) s m
      (λ x. step_going x.0 x.1 go) d (λ x t em y. at x t y)
    where
      at : (x : StepFlow × ℕ) (t : State) → Flowed fixed g env sp inner q f' u' x t
          → Does k t (step_going x.0 x.1 go) (Flowed fixed g env sp homes q' f u)
      at (StepGoing store, v) t y =
          at_state k (Flowed fixed g env sp homes q' f u) (here sp q y.slots v) t (go store v) y.is
          (on store y.slots v y.stays y.shows y.size y.less)
      at (StepReturned w, v) t y =
          there k (Flowed fixed g env sp homes q' f u) t (StepReturned w, v)
          (left_later sp sp.others (the_number w) v u u' t y le)

  left_does : (os : List Open) (q v u n end : ℕ) (slots f : List ℕ) (d : Numbers) (homes : Homes)
      → sp.others ≡ os → IsOpen os → the_number d ≡ n → v ≤ u
      → takes k (here sp q slots v) ≡ answer n (here sp q slots v) sp.others
      → Does k (here sp q slots v) (gives (StepReturned d) v)
      (Flowed fixed g env sp homes end f u)
  left_does [] q v u n end slots f d homes e is_open en le t = absurd is_open
  left_does (o ∷ os) q v u n end slots f d homes e is_open en le t =
      goes k (Flowed fixed g env sp homes end f u) (here sp q slots v) (resumed sp o os n v)
      (gives (StepReturned d) v) (t ∙ ap (answer n (here sp q slots v)) e)
      (there k (Flowed fixed g env sp homes end f u) (resumed sp o os n v) (StepReturned d, v)
      (subst (λ z. LeftTo sp z (the_number d) v u (resumed sp o os n v)) (sym e)
      record { is = ap (λ z. resumed sp o os z v) (sym en); less = le }))

  -- turns: a unit is paid at the Turn, before each turn
  turns_do : (s : Scope) (laid : AreLaid s.homes s.top) (c : Expr Meant)
      (body : Store → ℕ → Ran StepFlow) (p : ℕ) (b t : Code)
      → HasAt (body_at k sp) p (turned s.top p b t) → shape_of g s.homes c ≡ []
      → ((store : Store) (f : List ℕ) (u : ℕ) → fixed store → Shows g env s.homes store f
      → length f ≡ width
      → Does k (here sp (p + 2 + length b) f u) (number_in env store c u)
      (Valued sp s.top (p + 2 + length b + length t) (shape_of g s.homes c) f u))
      → DoesFlow s b (p + 2) s.homes body
      → (most : ℕ) (store : Store) (f : List ℕ) (u : ℕ) → u < most → fixed store
      → Shows g env s.homes store f → length f ≡ width
      → Does k (here sp (p + 2 + length b) f u) (step_turns most env c body store u)
      (Flowed fixed g env sp s.homes (p + length (turned s.top p b t)) f u)
  turns_do s laid c body p b t at shape test turn zero store f u less fix shows len =
      absurd (omega (arith, less))
  turns_do s laid c body p b t at shape test turn (suc most) store f u less fix shows len =
      let T : ℕ = p + 2 + length b in
      let last : Code = op.JumpZero s.top (p + 4 + length b + length t) ∷ op.Jump (p + 1) ∷ [] in
      let end : ℕ = p + length (turned s.top p b t) in
      let Q : (StepFlow × ℕ → State → Type 0) = Flowed fixed g env sp s.homes end f u in
      let h2 : HasAt (body_at k sp) (p + 1 + 1) (b ++ (t ++ last)) = at.1.1 in
      let h3 : HasAt (body_at k sp) (p + 1 + 1 + length b) (t ++ last) =
      has_back (body_at k sp) (p + 1 + 1) b (t ++ last) h2 in
      let h4 : HasAt (body_at k sp) (p + 1 + 1 + length b + length t) last =
      has_back (body_at k sp) (p + 1 + 1 + length b) t last h3 in
      let on : p + 1 + 1 + length b + length t ≡ T + length t = omega arith in
      let h5 : HasAt (body_at k sp) (T + length t) last =
      subst (λ i. HasAt (body_at k sp) i last) on h4 in
      let long : p + 4 + length b + length t ≡ end =
      omega (arith, length-append b (t ++ last), length-append t last) in
      number_does k sp Q (here sp T f u) (number_in env store c u)
      (λ m u1. cond (m == 0) (gives (StepGoing store) u1)
      (spend u1 (λ u2. next (body store u2) (λ x. step_going x.0 x.1 (step_turns most env c
      body)))))
      s.top (T + length t) (shape_of g s.homes c) f u shape (test store f u fix shows len)
      (λ f1 v b1 le told.
      let shows1 : Shows g env s.homes store f1 =
      shows_below g env s.homes store s.top f f1 laid b1 shows in
      does_test k sp Q (λ z. cond z (gives (StepGoing store) v)
      (spend v (λ u2. next (body store u2) (λ x. step_going x.0 x.1 (step_turns most env c body)))))
      (slice_index f1 s.top == 0) (here sp (T + length t) f1 v)
      (here sp (p + 4 + length b + length t) f1 v) (here sp (T + length t + 1) f1 v)
      (step_at k sp (T + length t) f1 v (op.JumpZero s.top (p + 4 + length b + length t)) h5.0)
      (λ z. there k Q (here sp (p + 4 + length b + length t) f1 v) (StepGoing store, v) record {
        slots = f1;
        is = ap (λ i. here sp i f1 v) long;
        shows = shows1;
        stays = fix;
        size = b1.size;
        less = le;
      })
      (λ z. op_goes k sp Q (T + length t + 1) f1 v (op.Jump (p + 1)) (here sp (p + 1) f1 v)
      (spend v (λ u2. next (body store u2) (λ x. step_going x.0 x.1 (step_turns most env c body))))
      h5.1.0 refl
      (paid f1 v at.1.0 b1.size le
      (λ w lw. flow_does s.homes s.homes (body store w) (step_turns most env c body)
      (p + 2 + length b) end f f1 u w (here sp (p + 2) f1 w)
      (turn store f1 w fix shows1 (b1.size ∙ len)) (omega (arith, lw, le))
      (λ store2 f2 w2 fix2 shows2 size2 lw2.
      does_weaker k (Flowed fixed g env sp s.homes end f2 w2) Q (here sp T f2 w2)
      (step_turns most env c body store2 w2)
      (turns_do s laid c body p b t at shape test turn most store2 f2 w2
      (omega (arith, lw2, lw, le, less)) fix2 shows2 (size2 ∙ b1.size ∙ len))
      (λ x r y. flowed_later fixed g env sp s.homes s.homes end end f f2 u w2 x r y
      (λ st sl sh. sh) (size2 ∙ b1.size) (omega (arith, lw2, lw, le)) refl))))))
    where
      paid : (f1 : List ℕ) (v : ℕ) → slice_get (body_at k sp) (p + 1) ≡ Some op.Turn
          → length f1 ≡ length f → v ≤ u
          → ((w : ℕ) → w < v → Does k (here sp (p + 2) f1 w)
          (next (body store w) (λ x. step_going x.0 x.1 (step_turns most env c body)))
          (Flowed fixed g env sp s.homes (p + length (turned s.top p b t)) f u))
          → Does k (here sp (p + 1) f1 v)
          (spend v (λ u2. next (body store u2)
          (λ x. step_going x.0 x.1 (step_turns most env c body))))
          (Flowed fixed g env sp s.homes (p + length (turned s.top p b t)) f u)
      paid f1 zero e size le go =
          stops k (Flowed fixed g env sp s.homes (p + length (turned s.top p b t)) f u)
          (here sp (p + 1) f1 0) FuelSpent 5 (step_at k sp (p + 1) f1 0 op.Turn e) refl
      paid f1 (suc w) e size le go =
          let two : p + 1 + 1 ≡ p + 2 = omega arith in
          let one : suc w - 1 ≡ w = omega arith in
          op_goes k sp (Flowed fixed g env sp s.homes (p + length (turned s.top p b t)) f u) (p + 1)
          f1 (suc w) op.Turn (here sp (p + 2) f1 w)
          (next (body store w) (λ x. step_going x.0 x.1 (step_turns most env c body))) e
          (ap (λ z. unless FuelSpent z (Goes (here sp (p + 1 + 1) f1 (suc w - 1))))
          (lt-ltb 0 (suc w) (omega arith)) ∙
          ap₂ (λ i j. Goes (here sp i f1 j)) two one) (go w (omega arith))

  jump_flow : (homes : Homes) (q end : ℕ) (f : List ℕ) (u : ℕ) (x : StepFlow × ℕ) (t : State)
      → slice_get (body_at k sp) q ≡ Some (op.Jump end) → Flowed fixed g env sp homes q f u x t
      → Does k t (Ok x) (Flowed fixed g env sp homes end f u)
  jump_flow homes q end f u (StepGoing store, v) t e y =
      at_state k (Flowed fixed g env sp homes end f u) (here sp q y.slots v) t
      (gives (StepGoing store) v) y.is
      (op_goes k sp (Flowed fixed g env sp homes end f u) q y.slots v (op.Jump end)
      (here sp end y.slots v) (gives (StepGoing store) v) e refl
      (there k (Flowed fixed g env sp homes end f u) (here sp end y.slots v) (StepGoing store, v)
      record {
        slots = y.slots;
        is = refl;
        shows = y.shows;
        stays = y.stays;
        size = y.size;
        less = y.less;
      }))
  jump_flow homes q end f u (StepReturned d, v) t e y =
      there k (Flowed fixed g env sp homes end f u) t (StepReturned d, v) y

  assert_does : (Q : StepFlow × ℕ → State → Type 0) (z : Bool) (s t : State) (m : Ran StepFlow)
      → takes k s ≡ unless AssertFails (not z) (Goes t) → (z ≡ false → Does k t m Q)
      → Does k s (cond z (Err assert_fails) m) Q
  assert_does Q true s t m e d = stops k Q s AssertFails 2 e refl
  assert_does Q false s t m e d = goes k Q s t m e (d refl)

  simple_does : (s : Scope) (laid : AreLaid s.homes s.top) (x : Simple Meant) (store : Store)
      (p : ℕ) (f : List ℕ) (u : ℕ) → SimpleFits free g s x → fixed store
      → Shows g env s.homes store f → length f ≡ width
      → HasAt (body_at k sp) p (simple_code g s p x)
      → Does k (here sp p f u) (step_simple env x store u)
      (Kept fixed g env sp (simple_scope g s x).homes (p + length (simple_code g s p x)) f u)
  simple_does s laid (Vars vs) store p f u fits fix shows len at =
      variables_do k sp params width wide g env calls fixed free known stays room vs s laid store p
      f u fits fix shows len at
  simple_does s laid (Assigned a) store p f u fits fix shows len at =
      plain_does k sp params width wide g g.known env calls fixed free known stays room s laid
      (plain a) store p f u fits fix shows len at
  simple_does s laid (Signals d ds) store p f u fits fix shows len at = absurd fits
  simple_does s laid (DeclaredComponents cs) store p f u fits fix shows len at = absurd fits
  simple_does s laid (Created name m e) store p f u fits fix shows len at = absurd fits
  simple_does s laid (Constrain a b) store p f u fits fix shows len at = absurd fits
  simple_does s laid (Right e arrow name m accessors) store p f u fits fix shows len at =
      absurd fits
  simple_does s laid (TargetLeft t arrow x) store p f u fits fix shows len at = absurd fits
  simple_does s laid (TargetRight x arrow t) store p f u fits fix shows len at = absurd fits
  simple_does s laid (Alone parallel name m arguments inputs) store p f u fits fix shows len at =
      absurd fits

  -- a loop, from its first jump on
  loop_does : (s : Scope) (laid : AreLaid s.homes s.top) (c : Expr Meant)
      (body : Store → ℕ → Ran StepFlow) (p : ℕ) (b : Code)
      → HasAt (body_at k sp) p (turned s.top p b (test_code g s (p + 2 + length b) c))
      → TestFits g s.homes c → DoesFlow s b (p + 2) s.homes body
      → (store : Store) (f : List ℕ) (u : ℕ) → fixed store → Shows g env s.homes store f
      → length f ≡ width
      → Does k (here sp p f u) (step_turns (suc u) env c body store u)
      (Flowed fixed g env sp s.homes
      (p + length (turned s.top p b (test_code g s (p + 2 + length b) c))) f u)
  loop_does s laid c body p b at (fc, sc) turn store f u fix shows len =
      let T : ℕ = p + 2 + length b in
      let t : Code = test_code g s T c in
      let last : Code = op.JumpZero s.top (p + 4 + length b + length t) ∷ op.Jump (p + 1) ∷ [] in
      let two : p + 1 + 1 + length b ≡ T = omega arith in
      let h3 : HasAt (body_at k sp) T (t ++ last) =
      subst (λ i. HasAt (body_at k sp) i (t ++ last)) two
      (has_back (body_at k sp) (p + 1 + 1) b (t ++ last) at.1.1) in
      op_goes k sp (Flowed fixed g env sp s.homes (p + length (turned s.top p b t)) f u) p f u
      (op.Jump T) (here sp T f u) (step_turns (suc u) env c body store u) at.0 refl
      (turns_do s laid c body p b t at sc
      (λ store1 f1 u1 fix1 shows1 len1.
      expr_does k sp params width wide g env s.homes s.top laid store1 calls c s.top T f1 u1
      (omega arith) len1 shows1 fc (has_front (body_at k sp) T t last h3))
      turn (suc u) store f u (omega arith) fix shows len)

  mutual
    pub statement_does : (a : Statement Place Meant) (s : Scope) (laid : AreLaid s.homes s.top)
        (p : ℕ) → StatementFits free Ends g s a
        → HasAt (body_at k sp) p (statement_code g s p a)
        → DoesFlow s (statement_code g s p a) p (scope_behind g s a).homes (step_statement env a)
    statement_does (Block spot ss) s laid p fits at store f u fix shows len =
        statements_do ss s laid p fits at store f u fix shows len
    statement_does (If spot c a) s laid p ((fc, sc), fa) at store f u fix shows len =
        let one : Code = test_code g s p c in
        let q1 : ℕ = p + length one in
        let piece : (ℕ → Code) = λ q. statement_code g s q a in
        let q2 : ℕ = q1 + 1 + length (piece (q1 + 1)) in
        let end : ℕ = p + length (one ++ unless_zero s.top q1 piece) in
        let long : q2 ≡ end = omega (arith, length-append one (unless_zero s.top q1 piece)) in
        let Q : (StepFlow × ℕ → State → Type 0) = Flowed fixed g env sp s.homes end f u in
        number_does k sp Q (here sp p f u) (number_in env store c u)
        (λ m u1. cond (m == 0) (gives (StepGoing store) u1) (step_statement env a store u1))
        s.top q1 (shape_of g s.homes c) f u sc
        (expr_does k sp params width wide g env s.homes s.top laid store calls c s.top p f u
        (omega arith) len shows fc
        (has_front (body_at k sp) p one (unless_zero s.top q1 piece) at))
        (λ f1 v b le told.
        let shows1 : Shows g env s.homes store f1 =
        shows_below g env s.homes store s.top f f1 laid b shows in
        skip_does k sp Q
        (λ z. cond z (gives (StepGoing store) v) (step_statement env a store v)) s.top q1 piece f1 v
        (has_back (body_at k sp) p one (unless_zero s.top q1 piece) at)
        (λ z. there k Q (here sp q2 f1 v) (StepGoing store, v) record {
          slots = f1;
          is = ap (λ i. here sp i f1 v) long;
          shows = shows1;
          stays = fix;
          size = b.size;
          less = le;
        })
        (λ h. does_weaker k
        (Flowed fixed g env sp (scope_behind g s a).homes q2 f1 v) Q
        (here sp (q1 + 1) f1 v) (step_statement env a store v)
        (statement_does a s laid (q1 + 1) fa h store f1 v fix shows1 (b.size ∙ len))
        (λ x t y. flowed_later fixed g env sp (scope_behind g s a).homes s.homes q2 end f f1 u v x t
        y (λ st sl sh. outer g env free Ends a s st sl fa sh) b.size le long)))
    statement_does (IfElse spot c a b) s laid p ((fc, sc), fa, fb) at store f u fix shows len =
        let one : Code = test_code g s p c in
        let q1 : ℕ = p + length one in
        let first : (ℕ → Code) = λ q. statement_code g s q a in
        let second : (ℕ → Code) = λ q. statement_code g s q b in
        let two : Code = first (q1 + 1) in
        let q2 : ℕ = q1 + 1 + length two in
        let q3 : ℕ = q1 + 2 + length two in
        let three : Code = second q3 in
        let end1 : ℕ = q3 + length three in
        let end : ℕ = p + length (one ++ either s.top q1 first second) in
        let long : end1 ≡ end = omega (
          arith,
          length-append one (either s.top q1 first second),
          length-append two (op.Jump end1 ∷ three),
        ) in
        let Q1 : (StepFlow × ℕ → State → Type 0) = Flowed fixed g env sp s.homes end1 f u in
        let P : (StepFlow × ℕ → State → Type 0) = Flowed fixed g env sp s.homes q2 f u in
        let h1 : HasAt (body_at k sp) q1 (either s.top q1 first second) =
        has_back (body_at k sp) p one (either s.top q1 first second) at in
        let h2 : HasAt (body_at k sp) q2 (op.Jump end1 ∷ three) =
        has_back (body_at k sp) (q1 + 1) two (op.Jump end1 ∷ three) h1.1 in
        let place3 : q2 + 1 ≡ q3 = omega arith in
        let h3 : HasAt (body_at k sp) q3 three =
        subst (λ i. HasAt (body_at k sp) i three) place3 h2.1 in
        subst (λ z. Does k (here sp p f u) (step_statement env (IfElse spot c a b) store u)
        (Flowed fixed g env sp s.homes z f u)) long
        (number_does k sp Q1 (here sp p f u) (number_in env store c u)
        (λ m u1. cond (m == 0) (step_statement env b store u1) (step_statement env a store u1))
        s.top q1 (shape_of g s.homes c) f u sc
        (expr_does k sp params width wide g env s.homes s.top laid store calls c s.top p f u
        (omega arith) len shows fc
        (has_front (body_at k sp) p one (either s.top q1 first second) at))
        (λ f1 v b1 le told.
        let shows1 : Shows g env s.homes store f1 =
        shows_below g env s.homes store s.top f f1 laid b1 shows in
        does_test k sp Q1
        (λ z. cond z (step_statement env b store v) (step_statement env a store v))
        (slice_index f1 s.top == 0) (here sp q1 f1 v) (here sp q3 f1 v) (here sp (q1 + 1) f1 v)
        (step_at k sp q1 f1 v (op.JumpZero s.top q3) h1.0)
        (λ z. does_weaker k (Flowed fixed g env sp (scope_behind g s b).homes end1 f1 v) Q1
        (here sp q3 f1 v) (step_statement env b store v)
        (statement_does b s laid q3 fb h3 store f1 v fix shows1 (b1.size ∙ len))
        (λ x t y. flowed_later fixed g env sp (scope_behind g s b).homes s.homes end1 end1 f f1 u v
        x t y (λ st sl sh. outer g env free Ends b s st sl fb sh) b1.size le refl))
        (λ z. does_on k P Q1 (here sp (q1 + 1) f1 v) (step_statement env a store v)
        (does_weaker k (Flowed fixed g env sp (scope_behind g s a).homes q2 f1 v) P
        (here sp (q1 + 1) f1 v) (step_statement env a store v)
        (statement_does a s laid (q1 + 1) fa
        (has_front (body_at k sp) (q1 + 1) two (op.Jump end1 ∷ three) h1.1) store f1 v fix shows1
        (b1.size ∙ len))
        (λ x t y. flowed_later fixed g env sp (scope_behind g s a).homes s.homes q2 q2 f f1 u v
        x t y (λ st sl sh. outer g env free Ends a s st sl fa sh) b1.size le refl))
        (λ x t e y. jump_flow s.homes q2 end1 f u x t h2.0 y))))
    statement_does (While spot c a) s laid p (fc, fa) at store f u fix shows len =
        let b : Code = statement_code g s (p + 2) a in
        loop_does s laid c (step_statement env a) p b at fc
        (λ store1 f1 u1 fix1 shows1 len1.
        does_weaker k (Flowed fixed g env sp (scope_behind g s a).homes (p + 2 + length b) f1 u1)
        (Flowed fixed g env sp s.homes (p + 2 + length b) f1 u1) (here sp (p + 2) f1 u1)
        (step_statement env a store1 u1)
        (statement_does a s laid (p + 2) fa
        (turn_at (body_at k sp) s.top p b (test_code g s (p + 2 + length b) c) at) store1 f1 u1 fix1
        shows1 len1)
        (λ x t y. flowed_later fixed g env sp (scope_behind g s a).homes s.homes (p + 2 + length b)
        (p + 2 + length b) f1 f1 u1 u1 x t y (λ st sl sh. outer g env free Ends a s st sl fa sh)
        refl (omega arith) refl))
        store f u fix shows len
    statement_does (For spot first_spot x c step_spot a body) s laid p (fx, fc, fb, fa) at store f u
        fix shows len =
        let inner : Scope = first_scope g s x in
        let laid1 : AreLaid inner.homes inner.top = first_laid g env free Ends x s laid fx in
        let one : Code = first_code g s p x in
        let q1 : ℕ = p + length one in
        let two : Code = statement_code g inner (q1 + 2) body in
        let q2 : ℕ = q1 + 2 + length two in
        let last : Scope = scope_behind g inner body in
        let three : Code = assign_code g last q2 a in
        let b : Code = two ++ three in
        let t : Code = test_code g inner (q1 + 2 + length b) c in
        let loop : Code = turned inner.top q1 b t in
        let end : ℕ = p + length (one ++ loop) in
        let long : q1 + length loop ≡ end = omega (arith, length-append one loop) in
        let Q : (StepFlow × ℕ → State → Type 0) = Flowed fixed g env sp s.homes end f u in
        let turn : (Store → ℕ → Ran StepFlow) = λ store2 u2.
        next (step_statement env body store2 u2)
        (λ y. step_going y.0 y.1 (λ store3 u4. step_goes (step_assign env a store3 u4))) in
        let h1 : HasAt (body_at k sp) q1 loop = has_back (body_at k sp) p one loop at in
        let hb : HasAt (body_at k sp) (q1 + 2) b = turn_at (body_at k sp) inner.top q1 b t h1 in
        does_next k (Kept fixed g env sp inner.homes q1 f u) Q (here sp p f u)
        (step_first env x store u) (λ y. step_turns (suc y.1) env c turn y.0 y.1)
        (first_does s laid x store p f u fx fix shows len (has_front (body_at k sp) p one loop at))
        (λ y r e kept. at_state k Q (here sp q1 kept.slots y.1) r
        (step_turns (suc y.1) env c turn y.0 y.1) kept.is
        (does_weaker k (Flowed fixed g env sp inner.homes (q1 + length loop) kept.slots y.1) Q
        (here sp q1 kept.slots y.1) (step_turns (suc y.1) env c turn y.0 y.1)
        (loop_does inner laid1 c turn q1 b h1 fc
        (λ store1 f1 u1 fix1 shows1 len1.
        flow_does last.homes inner.homes (step_statement env body store1 u1)
        (λ store3 u4. step_goes (step_assign env a store3 u4)) q2 (q1 + 2 + length b) f1 f1 u1 u1
        (here sp (q1 + 2) f1 u1)
        (statement_does body inner laid1 (q1 + 2) fb (has_front (body_at k sp) (q1 + 2) two three
        hb)
        store1 f1 u1 fix1 shows1 len1) (omega arith)
        (λ store3 f3 u3 fix3 shows3 size3 le3.
        does_weaker k (Flowed fixed g env sp last.homes (q1 + 2 + length b) f3 u3)
        (Flowed fixed g env sp inner.homes (q1 + 2 + length b) f1 u1) (here sp q2 f3 u3)
        (step_goes (step_assign env a store3 u3))
        (goes_does last.homes (step_assign env a store3 u3) (q2 + length three)
        (q1 + 2 + length b) f3 f3 u3 u3 (here sp q2 f3 u3)
        (plain_does k sp params width wide g g.known env calls fixed free known stays room last
        (behind_laid g env free Ends body inner laid1 fb) (plain a) store3 q2 f3 u3 fa fix3 shows3
        (size3 ∙ len1) (has_back (body_at k sp) (q1 + 2) two three hb)) refl (omega arith)
        (omega (arith, length-append two three)))
        (λ z w fl. flowed_later fixed g env sp last.homes inner.homes (q1 + 2 + length b)
        (q1 + 2 + length b) f1 f3 u1 u3 z w fl
        (λ st sl sh. outer g env free Ends body inner st sl fb sh) size3 le3 refl)))
        y.0 kept.slots y.1 kept.stays kept.shows (kept.size ∙ len))
        (λ z w fl. flowed_later fixed g env sp inner.homes s.homes (q1 + length loop) end f
        kept.slots u y.1 z w fl (λ st sl sh. first_outer g env free Ends x s st sl fx sh) kept.size
        kept.less long)))
    statement_does (Return spot e) s laid p (en, ft) at store f u fix shows len =
        let one : Code = expr_code g s.homes s.top p e in
        let q : ℕ = p + length one in
        let end : ℕ = p + length (one ++ op.Return s.top ∷ []) in
        let Q : (StepFlow × ℕ → State → Type 0) = Flowed fixed g env sp s.homes end f u in
        let h : HasAt (body_at k sp) q (op.Return s.top ∷ []) =
        has_back (body_at k sp) p one (op.Return s.top ∷ []) at in
        does_next k (Valued sp s.top q [] f u) Q (here sp p f u) (number_in env store e u)
        (λ x. gives (StepReturned x.0) x.1)
        (subst (λ d. Does k (here sp p f u) (number_in env store e u) (Valued sp s.top q d f u))
        ft.1
        (expr_does k sp params width wide g env s.homes s.top laid store calls e s.top p f u
        (omega arith) len shows ft.0 (has_front (body_at k sp) p one (op.Return s.top ∷ []) at)))
        (λ x t em y. at_state k Q (here sp q y.slots x.1) t (gives (StepReturned x.0) x.1) y.is
        (left_does sp.others q x.1 u (slice_index y.slots s.top) end y.slots f x.0 s.homes refl
        (ends en) (ap the_number y.value) y.less
        (step_at k sp q y.slots x.1 (op.Return s.top) h.0)))
    statement_does (Assert spot e) s laid p (fe, se) at store f u fix shows len =
        let one : Code = test_code g s p e in
        let q : ℕ = p + length one in
        let end : ℕ = p + length (one ++ op.Assert s.top ∷ []) in
        let long : q + 1 ≡ end = omega (arith, length-append one (op.Assert s.top ∷ [])) in
        let Q : (StepFlow × ℕ → State → Type 0) = Flowed fixed g env sp s.homes end f u in
        let h : HasAt (body_at k sp) q (op.Assert s.top ∷ []) =
        has_back (body_at k sp) p one (op.Assert s.top ∷ []) at in
        number_does k sp Q (here sp p f u) (number_in env store e u)
        (λ m u1. cond (m == 0) (Err assert_fails) (gives (StepGoing store) u1)) s.top q
        (shape_of g s.homes e) f u se
        (expr_does k sp params width wide g env s.homes s.top laid store calls e s.top p f u
        (omega arith) len shows fe (has_front (body_at k sp) p one (op.Assert s.top ∷ []) at))
        (λ f1 v b le told. assert_does Q (slice_index f1 s.top == 0) (here sp q f1 v)
        (here sp (q + 1) f1 v) (gives (StepGoing store) v)
        (step_at k sp q f1 v (op.Assert s.top) h.0)
        (λ z. there k Q (here sp (q + 1) f1 v) (StepGoing store, v) record {
          slots = f1;
          is = ap (λ i. here sp i f1 v) long;
          shows = shows_below g env s.homes store s.top f f1 laid b shows;
          stays = fix;
          size = b.size;
          less = le;
        }))
    statement_does (Log spot arguments) s laid p fits at store f u fix shows len = absurd fits
    statement_does (Ended spot x) s laid p fits at store f u fix shows len =
        goes_does (simple_scope g s x).homes (step_simple env x store u)
        (p + length (simple_code g s p x)) (p + length (simple_code g s p x)) f f u u
        (here sp p f u) (simple_does s laid x store p f u fits fix shows len at) refl (omega arith)
        refl

    pub statements_do : (ss : Statements Place Meant) (s : Scope) (laid : AreLaid s.homes s.top)
        (p : ℕ) → StatementsFit free Ends g s ss
        → HasAt (body_at k sp) p (statements_code g s p ss)
        → DoesFlow s (statements_code g s p ss) p s.homes (step_statements env ss)
    statements_do empty s laid p fits at store f u fix shows len =
        let z : p ≡ p + 0 = omega arith in
        there k (Flowed fixed g env sp s.homes (p + 0) f u) (here sp p f u) (StepGoing store, u)
        record {
          slots = f;
          is = ap (λ i. here sp i f u) z;
          shows = shows;
          stays = fix;
          size = refl;
          less = omega arith;
        }
    statements_do (then_more a rest) s laid p (fa, fr) at store f u fix shows len =
        let s1 : Scope = scope_behind g s a in
        let one : Code = statement_code g s p a in
        let q : ℕ = p + length one in
        let two : Code = statements_code g s1 q rest in
        let end : ℕ = p + length (one ++ two) in
        flow_does s1.homes s.homes (step_statement env a store u) (step_statements env rest) q end f
        f u u (here sp p f u)
        (statement_does a s laid p fa (has_front (body_at k sp) p one two at) store f u fix shows
        len) (omega arith)
        (λ store1 f1 u1 fix1 shows1 size1 le1.
        does_weaker k (Flowed fixed g env sp s1.homes (q + length two) f1 u1)
        (Flowed fixed g env sp s.homes end f u) (here sp q f1 u1)
        (step_statements env rest store1 u1)
        (statements_do rest s1 (behind_laid g env free Ends a s laid fa) q fr
        (has_back (body_at k sp) p one two at) store1 f1 u1 fix1 shows1 (size1 ∙ len))
        (λ x t y. flowed_later fixed g env sp s1.homes s.homes (q + length two) end f f1 u u1 x t y
        (λ st sl sh. outer g env free Ends a s st sl fa sh) size1 le1
        (omega (arith, length-append one two))))
