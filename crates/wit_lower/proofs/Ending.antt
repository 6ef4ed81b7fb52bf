-- A run-time statement does its task, from a frame that shows what it reads on: it writes what the
-- task gives, or stops as the task does.
use Rattle.std.proofs.Common.{◌≡◌, ℕ, zero, suc, ◌+◌, ◌<◌, ◌≤◌, cond, List, [], ◌∷◌, ◌++◌, length}
use Rattle.std.proofs.Common.{map, None, Result, Ok, Err, refl, sym, ap, subst, ◌∙◌, arith}
use Rattle.std.proofs.Common.{length-append, length-set, append_assoc, append-nil}
use Rattle.std.specs.Prelude.{slice_get, slice_index, slice_set, ◌==◌}
use Rattle.wit_code.specs.declared.code.Op.{Op}
use Rattle.wit_code.specs.declared.code.Op.TheVariants as op
use Rattle.wit_code.specs.declared.code.Stop.TheVariants.{ConstraintFails}
use Rattle.wit_code.specs.Table.{State, Outcome, Wrote, Goes, Over, unless, act}
use Rattle.cir_ast.specs.declared.program.Spot.{Spot as Place}
use Rattle.cir_ast.specs.declared.program.Meant.{Meant}
use Rattle.cir_ast.specs.Tree.{Expr, Assign, Assigned, Statement, Ended as EndedBy}
use Rattle.cir_meaning.specs.Tried.{next}
use Rattle.cir_meaning.specs.RunValues.{Ran, Numbers, Environment, Store, gives, number, number_in}
use Rattle.cir_meaning.specs.RunValues.{constraint_fails}
use Rattle.cir_meaning.specs.RunStatements.{StepFlow, StepGoing, StepReturned, step_assign}
use Rattle.cir_meaning.specs.RunStatements.{step_statement}
use Rattle.cir_meaning.specs.RunSimple.{sides}
use Rattle.cir_meaning.specs.RunBodies.{store_in}
use Rattle.wit_lower.specs.Homes.{Variable, Home, Scope, Ground, slots_of, row}
use Rattle.wit_lower.specs.Pieces.{Code}
use Rattle.wit_lower.specs.Values.{shape_of, size_of, expr_code}
use Rattle.cir_meaning.specs.Writing.{plain}
use Rattle.wit_lower.specs.Statements.{assign_code, statement_code, scope_behind}
use Rattle.wit_lower.specs.Fits.{AreLaid, Fits, TestFits, AssignFits, StatementFits}
use Rattle.wit_lower.specs.Steps.{TargetsFit, AllTests, TaskFits}
use Rattle.wit_lower.specs.Tasks.{Element, Task, Gives, Equal, Logs, Executes, numbers_wanted}
use Rattle.wit_lower.specs.Tasks.{element_in, done_by, writes, logs_code, target_code, targets_code}
use Rattle.wit_lower.specs.Tasks.{task_code, IsOutcome}
use Rattle.wit_lower.proofs.Does.{Setting, takes, Ends, Does, does_next, does_need, gives as there}
use Rattle.wit_lower.proofs.Does.{ends_over, HasAt, has_front, has_back}
use Rattle.wit_lower.proofs.Frames.{row_index}
use Rattle.wit_lower.proofs.Spots.{Spot, here, body_at, IsWide, step_at, op_goes, at_state}
use Rattle.wit_lower.proofs.Spots.{at_place}
use Rattle.wit_lower.proofs.Shows.{Shows, KnownAt, shows_below}
use Rattle.wit_lower.proofs.Parts.{Valued}
use Rattle.wit_lower.proofs.Operators.{number_does}
use Rattle.wit_lower.proofs.Exprs.{CallsRun, expr_does}
use Rattle.wit_lower.proofs.Scopes.{behind}
use Rattle.wit_lower.proofs.Sets.{Kept, plain_does}
use Rattle.wit_lower.proofs.Stmts.{Flowed, outer, statement_does}

-- the spot of a step's own code, where so much was written
abbrev pub own_spot : Spot → List ℕ → Spot
own_spot sp ws = record { running = sp.running; others = []; written = ws }

-- the code has ended, and this was written
abbrev pub Ended : Setting → (before : List ℕ) → List ℕ × ℕ → State → Type 0
Ended k before x t = takes k t ≡ Over (Wrote (before ++ x.0))

pub ends_as : (k : Setting) (s : State) (m : Ran (List ℕ)) (o : Outcome)
    → Does k s m (Ended k []) → IsOutcome m o → Ends k s o
ends_as k s (Ok x) o d is =
    d.by o (λ t e. ends_over k t o (e ∙ ap Over (sym is)))
ends_as k s (Err stop) o d is = d.by o is

module _ (k : Setting) (sp : Spot) where
  writes_go : {A : Type 0} (Q : A → State → Type 0) (m : Result A ℕ) (from n p : ℕ) (f : List ℕ)
      (u : ℕ) (ws : List ℕ) → HasAt (body_at k sp) p (writes from n)
      → Does k (here (own_spot sp (ws ++ row f from n)) (p + length (writes from n)) f u) m Q
      → Does k (here (own_spot sp ws) p f u) m Q
  writes_go Q m from zero p f u ws at d =
      at_place k (own_spot sp ws) Q (p + 0) p f u m (omega arith)
      (subst (λ xs. Does k (here (own_spot sp xs) (p + 0) f u) m Q) (append-nil ws) d)
  writes_go Q m from (suc n) p f u ws (e, at) d =
      let v : ℕ = slice_index f from in
      let more : ws ++ v ∷ row f (from + 1) n ≡ (ws ++ v ∷ []) ++ row f (from + 1) n =
      sym (append_assoc ws (v ∷ []) (row f (from + 1) n)) in
      op_goes k (own_spot sp ws) Q p f u (op.Write from)
      (here (own_spot sp (ws ++ v ∷ [])) (p + 1) f u) m e refl
      (writes_go Q m (from + 1) n (p + 1) f u (ws ++ v ∷ []) at
      (subst (λ xs. Does k
      (here (own_spot sp xs) (p + 1 + length (writes (from + 1) n)) f u) m Q) more
      (at_place k (own_spot sp (ws ++ v ∷ row f (from + 1) n)) Q
      (p + suc (length (writes (from + 1) n))) (p + 1 + length (writes (from + 1) n)) f u m
      (omega arith) d)))

  -- at the end of the code
  over : (p : ℕ) (f : List ℕ) (u : ℕ) (ws : List ℕ) → slice_get (body_at k sp) p ≡ None
      → takes k (here (own_spot sp ws) p f u) ≡ Over (Wrote ws)
  over p f u ws past = ap (λ o. act k.procs k.reads o (here (own_spot sp ws) p f u)) past

module _ (k : Setting) (sp : Spot) (params : ℕ → ℕ) (width : ℕ)
    (wide : IsWide params width (body_at k sp)) (g : Ground) (env : Environment)
    (calls : (ws : List ℕ) → CallsRun k (own_spot sp ws) width g.keys env.call)
    (fixed : Store → Type 0) (free : ℕ → Type 0)
    (known : (store : Store) → fixed store → KnownAt g env store)
    (stays : (store : Store) (n : ℕ) (d : Numbers) → free n → fixed store
    → fixed (slice_set store n d))
    (room : (store : Store) (n : ℕ) → free n → fixed store → n < length store)
    (s : Scope) (laid : AreLaid s.homes s.top) (store : Store) (fix : fixed store) where
  gives_does : (e : Expr Meant) (p : ℕ) (f : List ℕ) (u : ℕ) → Fits g s.homes e
      → Shows g env s.homes store f → length f ≡ width
      → HasAt (body_at k sp) p (task_code g s p (Gives e))
      → slice_get (body_at k sp) (p + length (task_code g s p (Gives e))) ≡ None
      → Does k (here (own_spot sp []) p f u) (done_by env store (Gives e) u) (Ended k [])
  gives_does e p f u fits shows len at past =
      let one : Code = expr_code g s.homes s.top p e in
      let size : ℕ = size_of g s.homes e in
      let two : Code = writes s.top size in
      let q : ℕ = p + length one in
      let long : p + length (one ++ two) ≡ q + length two =
      omega (arith, length-append one two) in
      does_next k (Valued (own_spot sp []) s.top q (shape_of g s.homes e) f u) (Ended k [])
      (here (own_spot sp []) p f u) (number_in env store e u) (λ x. gives x.0.items x.1)
      (expr_does k (own_spot sp []) params width wide g env s.homes s.top laid store (calls []) e
      s.top p f u (omega arith) len shows fits (has_front (body_at k sp) p one two at))
      (λ x t em y. at_state k (Ended k []) (here (own_spot sp []) q y.slots x.1) t
      (gives x.0.items x.1) y.is
      (writes_go k sp (Ended k []) (gives x.0.items x.1) s.top size q y.slots x.1 []
      (has_back (body_at k sp) p one two at)
      (there k (Ended k [])
      (here (own_spot sp (row y.slots s.top size)) (q + length two) y.slots x.1)
      (x.0.items, x.1)
      (over k sp (q + length two) y.slots x.1 (row y.slots s.top size)
      (ap (slice_get (body_at k sp)) (sym long) ∙ past) ∙
      ap (λ d. Over (Wrote d.items)) (sym y.value)))))

  logs_do : (es : List (Expr Meant)) (ws : List ℕ) (p : ℕ) (f : List ℕ) (u : ℕ)
      → AllTests g s.homes es → Shows g env s.homes store f → length f ≡ width
      → HasAt (body_at k sp) p (logs_code g s p es)
      → slice_get (body_at k sp) (p + length (logs_code g s p es)) ≡ None
      → Does k (here (own_spot sp ws) p f u) (numbers_wanted env store es u) (Ended k ws)
  logs_do [] ws p f u fits shows len at past =
      let z : p ≡ p + 0 = omega arith in
      there k (Ended k ws) (here (own_spot sp ws) p f u) ([], u)
      (over k sp p f u ws (ap (slice_get (body_at k sp)) z ∙ past) ∙
      ap (λ xs. Over (Wrote xs)) (sym (append-nil ws)))
  logs_do (e ∷ es) ws p f u ((fe, se), fr) shows len at past =
      let one : Code = expr_code g s.homes s.top p e in
      let two : Code = one ++ op.Write s.top ∷ [] in
      let q : ℕ = p + length one in
      let q2 : ℕ = p + length two in
      let three : Code = logs_code g s q2 es in
      let next_at : q + 1 ≡ q2 = omega (arith, length-append one (op.Write s.top ∷ [])) in
      let long : q2 + length three ≡ p + length (two ++ three) =
      omega (arith, length-append two three) in
      let at2 : HasAt (body_at k sp) p two = has_front (body_at k sp) p two three at in
      number_does k (own_spot sp ws) (Ended k ws) (here (own_spot sp ws) p f u)
      (number_in env store e u)
      (λ n u1. next (numbers_wanted env store es u1) (λ x. gives (n ∷ x.0) x.1)) s.top q
      (shape_of g s.homes e) f u se
      (expr_does k (own_spot sp ws) params width wide g env s.homes s.top laid store (calls ws) e
      s.top p f u (omega arith) len shows fe
      (has_front (body_at k sp) p one (op.Write s.top ∷ []) at2))
      (λ f1 v b le told.
      let n : ℕ = slice_index f1 s.top in
      let ws1 : List ℕ = ws ++ n ∷ [] in
      let m : Ran (List ℕ) =
      next (numbers_wanted env store es v) (λ x. gives (n ∷ x.0) x.1) in
      op_goes k (own_spot sp ws) (Ended k ws) q f1 v (op.Write s.top)
      (here (own_spot sp ws1) (q + 1) f1 v) m
      (has_back (body_at k sp) p one (op.Write s.top ∷ []) at2).0 refl
      (at_place k (own_spot sp ws1) (Ended k ws) q2 (q + 1) f1 v m (sym next_at)
      (does_next k (Ended k ws1) (Ended k ws) (here (own_spot sp ws1) q2 f1 v)
      (numbers_wanted env store es v) (λ x. gives (n ∷ x.0) x.1)
      (logs_do es ws1 q2 f1 v fr (shows_below g env s.homes store s.top f f1 laid b shows)
      (b.size ∙ len) (has_back (body_at k sp) p two three at)
      (ap (slice_get (body_at k sp)) long ∙ past))
      (λ x t em y. there k (Ended k ws) t (n ∷ x.0, x.1)
      (y ∙ ap (λ xs. Over (Wrote xs)) (append_assoc ws (n ∷ []) x.0))))))

  -- the targets, as they are behind the statement
  targets_do : (store1 : Store) (targets : List Element) (ws : List ℕ) (p : ℕ) (f : List ℕ) (u : ℕ)
      → TargetsFit s.homes targets → Shows g env s.homes store1 f
      → HasAt (body_at k sp) p (targets_code s.homes targets)
      → slice_get (body_at k sp) (p + length (targets_code s.homes targets)) ≡ None
      → Does k (here (own_spot sp ws) p f u) (gives (map (element_in store1) targets) u) (Ended k
      ws)
  targets_do store1 [] ws p f u fits shows at past =
      let z : p ≡ p + 0 = omega arith in
      there k (Ended k ws) (here (own_spot sp ws) p f u) ([], u)
      (over k sp p f u ws (ap (slice_get (body_at k sp)) z ∙ past) ∙
      ap (λ xs. Over (Wrote xs)) (sym (append-nil ws)))
  targets_do store1 (t ∷ ts) ws p f u (ft, fr) shows at past =
      let h : Home = ft.home in
      let w : Op = op.Write (h.base + t.element) in
      let rest : Code = targets_code s.homes ts in
      let code_is : targets_code s.homes (t ∷ ts) ≡ w ∷ rest =
      ap (λ o. target_code o t ++ rest) ft.found in
      let at1 : HasAt (body_at k sp) p (w ∷ rest) = subst (HasAt (body_at k sp) p) code_is at in
      let v : ℕ = slice_index f (h.base + t.element) in
      let value : element_in store1 t ≡ v =
      ap (λ d. slice_index d.items t.element)
      (shows.each (Variable t.variable) h ft.found) ∙
      row_index f h.base (slots_of h.dims) t.element ft.within in
      let long : p + 1 + length rest ≡ p + length (w ∷ rest) = omega arith in
      let m : Ran (List ℕ) = gives (map (element_in store1) (t ∷ ts)) u in
      op_goes k (own_spot sp ws) (Ended k ws) p f u w
      (here (own_spot sp (ws ++ v ∷ [])) (p + 1) f u) m at1.0 refl
      (does_next k (Ended k (ws ++ v ∷ [])) (Ended k ws)
      (here (own_spot sp (ws ++ v ∷ [])) (p + 1) f u) (gives (map (element_in store1) ts) u)
      (λ x. gives (element_in store1 t ∷ x.0) x.1)
      (targets_do store1 ts (ws ++ v ∷ []) (p + 1) f u fr shows at1.1
      (ap (slice_get (body_at k sp))
      (long ∙ ap (λ c. p + length c) (sym code_is)) ∙ past))
      (λ x r em y. there k (Ended k ws) r (element_in store1 t ∷ x.0, x.1)
      (y ∙ ap (λ xs. Over (Wrote xs)) (append_assoc ws (v ∷ []) x.0 ∙
      ap (λ z. ws ++ z ∷ x.0) (sym value)))))

  equal_does : (a b : Expr Meant) (p : ℕ) (f : List ℕ) (u : ℕ) → TestFits g s.homes a
      → TestFits g s.homes b → Shows g env s.homes store f → length f ≡ width
      → HasAt (body_at k sp) p (task_code g s p (Equal a b))
      → slice_get (body_at k sp) (p + length (task_code g s p (Equal a b))) ≡ None
      → Does k (here (own_spot sp []) p f u) (done_by env store (Equal a b) u) (Ended k [])
  equal_does a b p f u (fa, sa) (fb, sb) shows len at past =
      let me : Spot = own_spot sp [] in
      let one : Code = expr_code g s.homes s.top p a in
      let q : ℕ = p + length one in
      let two : Code = expr_code g s.homes (s.top + 1) q b in
      let q2 : ℕ = q + length two in
      let check : Op = op.Check s.top (s.top + 1) in
      let at2 : HasAt (body_at k sp) q (two ++ check ∷ []) =
      has_back (body_at k sp) p one (two ++ check ∷ []) at in
      let at3 : HasAt (body_at k sp) q2 (check ∷ []) =
      has_back (body_at k sp) q two (check ∷ []) at2 in
      let long : q2 + 1 ≡ p + length (one ++ (two ++ check ∷ [])) =
      omega (arith, length-append one (two ++ check ∷ []), length-append two (check ∷ [])) in
      let R : (Unit {0} × ℕ → State → Type 0) = λ x t. takes k t ≡ Over (Wrote []) in
      does_next k R (Ended k []) (here me p f u) (sides env store a b u) (λ x. gives [] x.1)
      (number_does k me R (here me p f u) (number_in env store a u)
      (λ m u1. number (number_in env store b u1)
      (λ n u2. cond (m == n) (Ok (tt, u2)) (Err constraint_fails))) s.top q
      (shape_of g s.homes a) f u sa
      (expr_does k me params width wide g env s.homes s.top laid store (calls []) a s.top p f u
      (omega arith) len shows fa (has_front (body_at k sp) p one (two ++ check ∷ []) at))
      (λ f1 v b1 le told.
      let m : ℕ = slice_index f1 s.top in
      number_does k me R (here me q f1 v) (number_in env store b v)
      (λ n u2. cond (m == n) (Ok (tt, u2)) (Err constraint_fails)) (s.top + 1) q2
      (shape_of g s.homes b) f1 v sb
      (expr_does k me params width wide g env s.homes s.top laid store (calls []) b (s.top + 1) q f1
      v (omega arith) (b1.size ∙ len)
      (shows_below g env s.homes store s.top f f1 laid b1 shows) fb
      (has_front (body_at k sp) q two (check ∷ []) at2))
      (λ f2 w b2 le2 told2.
      let n : ℕ = slice_index f2 (s.top + 1) in
      does_need k R (m == n) ConstraintFails constraint_fails (here me q2 f2 w)
      (here me (q2 + 1) f2 w) (Ok (tt, w))
      (step_at k me q2 f2 w check at3.0 ∙
      ap (λ z. unless ConstraintFails (z == n) (Goes (here me (q2 + 1) f2 w)))
      (b2.under s.top (omega arith))) refl
      (λ same. there k R (here me (q2 + 1) f2 w) (tt, w)
      (over k sp (q2 + 1) f2 w [] (ap (slice_get (body_at k sp)) long ∙ past))))))
      (λ x t em y. there k (Ended k []) t ([], x.1) y)

  executes_does : (a : Statement Place Meant) (targets : List Element) (p : ℕ) (f : List ℕ) (u : ℕ)
      → StatementFits free ⊥ g s a → TargetsFit s.homes targets → Shows g env s.homes store f
      → length f ≡ width → HasAt (body_at k sp) p (task_code g s p (Executes a targets))
      → slice_get (body_at k sp) (p + length (task_code g s p (Executes a targets))) ≡ None
      → Does k (here (own_spot sp []) p f u) (done_by env store (Executes a targets) u)
      (Ended k [])
  executes_does a targets p f u fa ft shows len at past =
      does_next k (Flowed fixed g env me (scope_behind g s a).homes q f u) (Ended k [])
      (here me p f u) (step_statement env a store u)
      (λ x. gives (map (element_in (store_in x.0 store)) targets) x.1)
      (statement_does k me params width wide g env (calls []) fixed free known stays room ⊥
      (λ e. absurd e) a s laid p fa (has_front (body_at k sp) p one two at) store f u fix shows len)
      (λ x t em y. finish x t y)
    where
      me : Spot
      me = own_spot sp []

      one : Code
      one = statement_code g s p a

      q : ℕ
      q = p + length one

      two : Code
      two = targets_code s.homes targets

      finish : (x : StepFlow × ℕ) (t : State)
          → Flowed fixed g env me (scope_behind g s a).homes q f u x t
          → Does k t (gives (map (element_in (store_in x.0 store)) targets) x.1) (Ended k [])
      finish (StepReturned d, v) t y = absurd y
      finish (StepGoing store1, v) t y =
          let long : q + length two ≡ p + length (one ++ two) =
          omega (arith, length-append one two) in
          at_state k (Ended k []) (here me q y.slots v) t
          (gives (map (element_in store1) targets) v) y.is
          (targets_do store1 targets [] q y.slots v ft
          (outer g env free ⊥ a s store1 y.slots fa y.shows)
          (has_back (body_at k sp) p one two at) (ap (slice_get (body_at k sp)) long ∙ past))

  -- each task, from a frame that shows what is read
  pub task_does : (task : Task) (p : ℕ) (f : List ℕ) (u : ℕ) → TaskFits free g s task
      → Shows g env s.homes store f → length f ≡ width
      → HasAt (body_at k sp) p (task_code g s p task)
      → slice_get (body_at k sp) (p + length (task_code g s p task)) ≡ None
      → Does k (here (own_spot sp []) p f u) (done_by env store task u) (Ended k [])
  task_does (Gives e) p f u fits shows len at past = gives_does e p f u fits shows len at past
  task_does (Equal a b) p f u (fa, fb) shows len at past =
      equal_does a b p f u fa fb shows len at past
  task_does (Logs es) p f u fits shows len at past = logs_do es [] p f u fits shows len at past
  task_does (Executes a targets) p f u (fa, ft) shows len at past =
      executes_does a targets p f u fa ft shows len at past

-- an assignment that is the whole step: what is known before it needn't hold behind it
module _ (k : Setting) (sp : Spot) (params : ℕ → ℕ) (width : ℕ)
    (wide : IsWide params width (body_at k sp)) (g : Ground) (env : Environment)
    (calls : (ws : List ℕ) → CallsRun k (own_spot sp ws) width g.keys env.call)
    (variables : ℕ) (s : Scope) (laid : AreLaid s.homes s.top) (store : Store)
    (long : variables ≤ length store) where
  abbrev later : Ground
  later = behind g (λ e. None)

  abbrev Long : Store → Type 0
  Long st = variables ≤ length st

  abbrev Behind : (q : ℕ) → (f : List ℕ) → (u : ℕ) → StepFlow × ℕ → State → Type 0
  Behind q f u (StepGoing st, v) t =
      Kept Long later env (own_spot sp []) s.homes q f u (st, v) t
  Behind q f u (StepReturned d, v) t = ⊥

  pub assigns_does : (spot : Place) (a : Assign Meant) (targets : List Element) (p : ℕ)
      (f : List ℕ) (u : ℕ) → AssignFits (λ n. n < variables) g s.homes a
      → TargetsFit s.homes targets → Shows g env s.homes store f → length f ≡ width
      → HasAt (body_at k sp) p (task_code g s p (Executes (EndedBy spot (Assigned a)) targets))
      → slice_get (body_at k sp)
      (p + length (task_code g s p (Executes (EndedBy spot (Assigned a)) targets))) ≡ None
      → Does k (here (own_spot sp []) p f u)
      (done_by env store (Executes (EndedBy spot (Assigned a)) targets) u) (Ended k [])
  assigns_does spot a targets p f u fa ft shows len at past =
      does_next k R (Ended k []) (here me p f u)
      (step_statement env (EndedBy spot (Assigned a)) store u)
      (λ x. gives (map (element_in (store_in x.0 store)) targets) x.1)
      (does_next k (Kept Long later env me s.homes q f u) R (here me p f u)
      (step_assign env a store u) (λ x. gives (StepGoing x.0) x.1)
      (plain_does k me params width wide g (λ e. None) env (calls []) Long (λ n. n < variables)
      unknown stays room s laid (plain a) store p f u fa long shows len
      (has_front (body_at k sp) p one two at))
      (λ x t em y. there k R t (StepGoing x.0, x.1) y))
      (λ x t em y. finish x t y)
    where
      me : Spot
      me = own_spot sp []

      one : Code
      one = assign_code g s p a

      q : ℕ
      q = p + length one

      two : Code
      two = targets_code s.homes targets

      R : StepFlow × ℕ → State → Type 0
      R = Behind q f u

      unknown : (st : Store) → Long st → KnownAt later env st
      unknown st h e n w x told ran = cc

      stays : (st : Store) (n : ℕ) (d : Numbers) → n < variables → Long st
          → Long (slice_set st n d)
      stays st n d l h = omega (arith, h, length-set st n d)

      room : (st : Store) (n : ℕ) → n < variables → Long st → n < length st
      room st n l h = omega (arith, l, h)

      finish : (x : StepFlow × ℕ) (t : State) → R x t
          → Does k t (gives (map (element_in (store_in x.0 store)) targets) x.1) (Ended k [])
      finish (StepReturned d, v) t y = absurd y
      finish (StepGoing st, v) t y =
          let end : q + length two ≡ p + length (one ++ two) =
          omega (arith, length-append one two) in
          at_state k (Ended k []) (here me q y.slots v) t
          (gives (map (element_in st) targets) v) y.is
          (targets_do k sp params width wide later env calls Long (λ n. n < variables) unknown
          stays room s laid store long st targets [] q y.slots v ft y.shows
          (has_back (body_at k sp) p one two at) (ap (slice_get (body_at k sp)) end ∙ past))
