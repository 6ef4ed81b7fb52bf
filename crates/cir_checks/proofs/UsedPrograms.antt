-- Where the checks find no fault, names are used as they may be.
use Rattle.std.proofs.Common.{◌≡◌, ◌≢◌, ◌∙◌, ℕ, ◌⊎◌, inl, inr, Bool, true, false, List, [], ◌∷◌}
use Rattle.std.proofs.Common.{Option, Some, None, length, refl, ap, sym, subst}
use Rattle.std.specs.Prelude.{◌==◌, ◌||◌, ◌&&◌, not, IsTrue, IsFalse, slice_get, ⊤, option_map}
use Rattle.std.specs.Prelude.{unwrap_or}
use Rattle.std.proofs.lemmas.Bool.{eqb-true}
use Rattle.cir_ast.specs.declared.operators.Direction.{Direction}
use Rattle.cir_ast.specs.declared.operators.Direction.TheVariants as direction
use Rattle.cir_ast.specs.declared.program.Spot.{Spot}
use Rattle.cir_ast.specs.declared.program.Meant.{Meant}
use Rattle.cir_ast.specs.declared.program.Meant.TheVariants as meant
use Rattle.cir_ast.specs.declared.refusal.Kind.{Kind}
use Rattle.cir_ast.specs.declared.refusal.Kind.TheVariants as kind
use Rattle.cir_ast.specs.Tree as tree
use Rattle.cir_ast.specs.Tree.{Expr, Accessors, Inputs, Slot, Target, Source, Simple, Statements}
use Rattle.cir_ast.specs.Program.{Function, Main}
use Rattle.cir_resolve.specs.Definitions as defined
use Rattle.cir_checks.specs.declared.calls.Access.TheVariants as access
use Rattle.cir_checks.specs.declared.positions.Room.{Room}
use Rattle.cir_checks.specs.declared.positions.Room.TheVariants as room
use Rattle.cir_checks.specs.declared.positions.Position.{Position}
use Rattle.cir_checks.specs.declared.positions.Position.TheVariants as position
use Rattle.cir_checks.specs.Faults.{◌⨾◌, first_in, unless, Names, no_names, and_name}
use Rattle.cir_checks.specs.Heads.{Head, Table, Callee, TemplateOf, FunctionOf, Unknown, callee}
use Rattle.cir_checks.specs.Heads.{templates_among, functions_among}
use Rattle.cir_checks.specs.Uses as fault
use Rattle.cir_checks.specs.Uses.{inward, on_the_right, members, count, inputs_count}
use Rattle.cir_checks.specs.Statements as faults
use Rattle.cir_checks.specs.Statements.{inside, in_loop, value_room, other_room, first_slot}
use Rattle.cir_checks.specs.Statements.{other_slots, slots_of, last_returns}
use Rattle.cir_checks.specs.Checks.{mains_fault, use_fault, table_among, first_fault, mains_among}
use Rattle.cir_checks.specs.Checks.{program_with}
use Rattle.cir_checks.specs.Checked.{Each, IsRead, IsCall, IsTemplateOf, IsCreated, IsAnonymous}
use Rattle.cir_checks.specs.Checked.{IsValue, AreValues, AreIndices, AreInputs, AreNamed}
use Rattle.cir_checks.specs.Checked.{IsNameless, IsWhole, Creates, IsWritten, IsDriven, IsGiven}
use Rattle.cir_checks.specs.Checked.{IsAssign, IsOptional, IsSignalValue, InTemplate, MayDeclare}
use Rattle.cir_checks.specs.Checked.{MayDeclareSignal, IsArgument, IsSlot, IsTarget, IsSlotValue}
use Rattle.cir_checks.specs.Checked.{AreSlotValues, IsSource, IsSimple, Fills, Matches, IsHead}
use Rattle.cir_checks.specs.Checked.{IsStatement, AreStatements, IsTemplate, IsFunction, IsMain}
use Rattle.cir_checks.specs.Checked.{IsUsed}

-- ---- what holds where there is no fault
abbrev Shows : {A : Type 0} → Option A → Type 0 → Type 0
Shows fault P = fault ≡ None → P

some_none : {A : Type 0} (x : A) → Some x ≡ None → ⊥
some_none x h = cc

never : {A P : Type 0} {x : A} → Shows (Some x) P
never {x = x} h = absurd (some_none x h)

neither : {A : Type 0} (a b : Option A) → a ⨾ b ≡ None → (a ≡ None) × (b ≡ None)
neither None b h = (refl, h)
neither (Some x) b h = never h

-- of several parts, each has none
both : {A P Q : Type 0} {a b : Option A} → Shows a P → Shows b Q → Shows (a ⨾ b) (P × Q)
both {a = a} {b = b} p q h = let w = neither a b h in (p w.0, q w.1)

three : {A P Q R : Type 0} {a b c : Option A} → Shows a P → Shows b Q → Shows c R
    → Shows (a ⨾ b ⨾ c) (P × Q × R)
three p q r h = let w = both p (both q r) h in (w.0, w.1.0, w.1.1)

four : {A P Q R S : Type 0} {a b c d : Option A} → Shows a P → Shows b Q → Shows c R → Shows d S
    → Shows (a ⨾ b ⨾ c ⨾ d) (P × Q × R × S)
four p q r s h = let w = both p (three q r s) h in (w.0, w.1.0, w.1.1, w.1.2)

each : {A F : Type 0} {fault : A → Option F} {P : A → Type 0} → ((x : A) → Shows (fault x) (P x))
    → (xs : List A) → Shows (first_in fault xs) (Each P xs)
each shows [] h = tt
each shows (x ∷ xs) h = both (shows x) (each shows xs) h

-- at its place, or in its file
placed : {A B P : Type 0} (f : A → B) {o : Option A} → Shows o P → Shows (option_map f o) P
placed f {o = None} p h = p refl
placed f {o = Some x} p h = never h

holds : (b : Bool) (k : Kind) → Shows (unless b k) (IsTrue b)
holds true k h = refl
holds false k h = cc

fails : (b : Bool) (k : Kind) → Shows (unless (not b) k) (IsFalse b)
fails true k h = cc
fails false k h = refl

same : (a b : ℕ) (k : Kind) → Shows (unless (a == b) k) (a ≡ b)
same a b k h = eqb-true a b (holds (a == b) k h)

-- ---- names
is_read : (m : Meant) (dots : ℕ) → Shows (fault.name_fault m access.Read dots) (IsRead m dots)
is_read (meant.Variable n) dots h = same dots 0 kind.WrongKind h
is_read (meant.Signal d n) dots h = same dots 0 kind.WrongKind h
is_read (meant.Component n) dots h = same dots 1 kind.WrongKind h
is_read _ dots h = cc

is_written : (m : _) (dots : _) → Shows (fault.name_fault m access.Write dots) (IsWritten m dots)
is_written (meant.Variable n) dots h = same dots 0 kind.WrongKind h
is_written _ dots h = cc

is_driven : (m : Meant) (dots : ℕ) → Shows (fault.name_fault m access.Drive dots) (IsDriven m dots)
is_driven (meant.Signal direction.Inner n) dots h = same dots 0 kind.WrongKind h
is_driven (meant.Signal direction.Output n) dots h = same dots 0 kind.WrongKind h
is_driven (meant.Component n) dots h = same dots 1 kind.WrongKind h
is_driven _ dots h = cc

-- ---- calls
called : (c : Callee) (n : ℕ)
    → Shows (fault.call_fault c true n) ((d : Head) × (c ≡ TemplateOf d) × (n ≡ d.parameters))
called (TemplateOf d) n h = (d, refl, same n d.parameters kind.Arity (neither _ _ h).0)
called (FunctionOf p) n h = never (neither _ _ h).1
called _ n h = never h

valued : (c : Callee) (n : ℕ) → Shows (fault.call_fault c false n) (c ≡ FunctionOf n)
valued (FunctionOf p) n h = ap FunctionOf (sym (same n p kind.Arity (neither _ _ h).0))
valued (TemplateOf d) n h = never (neither _ _ h).1
valued _ n h = cc

either : (whole : Bool) (outputs : ℕ)
    → Shows (unless (whole || (outputs == 1)) kind.WrongKind) (IsTrue whole ⊎ (outputs ≡ 1))
either true outputs h = inl refl
either false outputs h = inr (same outputs 1 kind.WrongKind h)

allowed : (r : Room) → Shows (fault.room_fault r) (r ≡ room.Allowed)
allowed room.Allowed h = refl
allowed _ h = cc

elsewhere : (p : Position) → other_room p ≢ room.Allowed
elsewhere position.InFunction e = cc
elsewhere _ e = cc

-- ---- positions
in_template : (p : _) (k : _) → Shows (unless (not (faults.in_function p)) k) (InTemplate p)
in_template position.InFunction k h = cc
in_template _ k h = tt

in_function : (p : _) (k : _) → Shows (unless (faults.in_function p) k) (p ≡ position.InFunction)
in_function position.InFunction k h = refl
in_function _ k h = cc

may_declare : (p : Position) → Shows (faults.declaration_fault p) (MayDeclare p)
may_declare position.InFunction h = cc
may_declare position.Looped h = cc
may_declare _ h = tt

may_declare_signal : (p : _) (d : _) → Shows (faults.signal_place_fault p d) (MayDeclareSignal p d)
may_declare_signal position.Outermost direction.Inner h = tt
may_declare_signal position.Outermost d h = refl
may_declare_signal position.Inner direction.Inner h = tt
may_declare_signal p d h = cc

-- what holds of a form of several parts
ruleset parts =
    (both, three, each, is_written, is_driven, in_template, may_declare, may_declare_signal)

module _ (t : Table) where
  -- what a called name is
  abbrev IsCallee : Meant → Callee → Type 0
  IsCallee m (TemplateOf d) = IsTemplateOf t m d
  IsCallee m (FunctionOf n) = IsCall t m n
  IsCallee m _ = ⊤

  found : {A : Type 0} (P : Callee → Type 0) (made : A → Callee) (o : Option A) → P Unknown
      → ((x : A) → o ≡ Some x → P (made x)) → P (unwrap_or (option_map made o) Unknown)
  found P made None u f = u
  found P made (Some x) u f = f x refl

  is_callee : (m : Meant) → IsCallee m (callee t m)
  is_callee (meant.Template k) =
      found (IsCallee (meant.Template k)) TemplateOf (slice_get t.templates k) tt
      (λ d is. record { number = k; means = refl; is = is })
  is_callee (meant.Function k) =
      found (IsCallee (meant.Function k)) FunctionOf (slice_get t.functions k) tt (λ n is. is)
  is_callee _ = tt

  callee_is : (m : Meant) (d : Head) → IsTemplateOf t m d → callee t m ≡ TemplateOf d
  callee_is m d is =
      ap (callee t) is.means ∙ ap (λ o. unwrap_or (option_map TemplateOf o) Unknown) is.is

  is_called : (m : Meant) (n : ℕ) → Shows (fault.call_fault (callee t m) false n) (IsCall t m n)
  is_called m n h = subst (IsCallee m) (valued (callee t m) n h) (is_callee m)

  is_created : (m : Meant) (n : ℕ) → Shows (fault.call_fault (callee t m) true n) (IsCreated t m n)
  is_created m n h =
      let c = called (callee t m) n h in
      record { head = c.0; template = subst (IsCallee m) c.1 (is_callee m); fits = c.2 }

  -- ---- expressions
  is_nameless : (r : _) (whole : _) (m : _) (arguments : _) (inputs : _)
      → Shows (fault.values_fault t (inward r) arguments) (AreValues t (inward r) arguments)
      → ((d : Head)
      → Shows (fault.inputs_fault t (TemplateOf d) r inputs) (AreInputs t d r inputs))
      → Shows (fault.nameless_fault t r whole m arguments inputs)
      (IsNameless t r whole m arguments inputs)
  is_nameless r whole m arguments inputs given named h =
      let w = neither (fault.call_fault (callee t m) true (count arguments)) _ h in
      let c = is_created m (count arguments) w.0 in
      let d = c.head in
      let v =
      both (three (same (inputs_count inputs) d.inputs kind.Arity) (either whole d.outputs)
      (allowed r)) (both given (named d))
      (subst (λ k. fault.anonymous_fault k r whole (inputs_count inputs)
      ⨾ fault.values_fault t (inward r) arguments ⨾ fault.inputs_fault t k r inputs ≡ None)
      (callee_is m d c.template) w.1) in
      let a : IsAnonymous t m whole (count arguments) (inputs_count inputs) d =
      record { template = c.template; fits = c.fits; given = v.0.0; outputs = v.0.1 } in
      (v.0.2, v.1.0, (d, a, v.1.1))

  mutual
    is_value : (r : Room) (e : Expr Meant) → Shows (fault.value_fault t r e) (IsValue t r e)
    is_value r (tree.Number n) = λ h. tt
    is_value r (tree.Place name m accessors) =
        both (is_read m (members accessors)) (are_indices r accessors)
    is_value r (tree.Call parallel name m arguments) =
        both (is_called m (count arguments)) (are_values (inward r) arguments)
    is_value r (tree.Anonymous parallel name m arguments inputs) =
        is_nameless r false m arguments inputs (are_values (inward r) arguments)
        (λ d. are_inputs d r inputs)
    is_value r (tree.Parentheses e) = is_value r e
    is_value r (tree.Array elements) = are_values r elements
    is_value r (tree.Unary op a) = is_value r a
    is_value r (tree.Binary op a b) = both (is_value r a) (is_value (on_the_right op r) b)
    is_value r (tree.Choice c a b) =
        three (is_value r c) (is_value (inward r) a) (is_value (inward r) b)

    are_values : (r : _) (es : _) → Shows (fault.values_fault t r es) (AreValues t r es)
    are_values r tree.none = λ h. tt
    are_values r (tree.more e es) = both (is_value r e) (are_values r es)

    are_indices : (r : _) (a : _) → Shows (fault.accessors_fault t r a) (AreIndices t r a)
    are_indices r tree.done = λ h. tt
    are_indices r (tree.index e rest) = both (is_value (inward r) e) (are_indices r rest)
    are_indices r (tree.member name rest) = are_indices r rest

    are_inputs : (d : Head) (r : Room) (inputs : Inputs Meant)
        → Shows (fault.inputs_fault t (TemplateOf d) r inputs) (AreInputs t d r inputs)
    are_inputs d r (tree.Listed es) = are_values r es
    are_inputs d r (tree.Named is) = are_named d.is_input no_names r is

    are_named : (inputs earlier : Names) (r : Room) (is : tree.NamedInputs Meant)
        → Shows (fault.named_fault t inputs earlier r is) (AreNamed t inputs earlier r is)
    are_named inputs earlier r tree.unnamed = λ h. tt
    are_named inputs earlier r (tree.named name arrow e rest) =
        four (holds (inputs name) kind.UnknownName) (fails (earlier name) kind.Arity)
        (is_value r e) (are_named inputs (and_name earlier name) r rest)

  is_whole : (r : Room) (e : Expr Meant) → Shows (fault.whole_fault t r e) (IsWhole t r e)
  is_whole r (tree.Anonymous parallel name m arguments inputs) =
      is_nameless r true m arguments inputs (are_values (inward r) arguments)
      (λ d. are_inputs d r inputs)
  is_whole r (tree.Parentheses e) = is_whole r e
  is_whole r e = is_value r e

  creates : (r : _) (e : _) → r ≢ room.Allowed → Shows (fault.component_fault t r e) (Creates t r e)
  creates r (tree.Call parallel name m arguments) apart =
      both (is_created m (count arguments)) (are_values (inward r) arguments)
  creates r (tree.Anonymous parallel name m arguments inputs) apart =
      λ h. apart (is_nameless r false m arguments inputs (are_values (inward r) arguments)
      (λ d. are_inputs d r inputs) h).0
  creates r (tree.Parentheses e) apart = creates r e apart
  creates r _ apart = never

  -- ---- places and assignments
  nothing_behind : (call : Bool) (dots : ℕ)
      → Shows (unless (call && (dots == 0)) kind.WrongKind) (dots ≡ 0)
  nothing_behind true dots h = same dots 0 kind.WrongKind h
  nothing_behind false dots h = never h

  is_given : (p : Position) (m : Meant) (a : Accessors Meant) (e : Expr Meant)
      → Shows (faults.given_fault t (other_room p) m a e) (IsGiven t p m a e)
  is_given p (meant.Component n) a e =
      three (nothing_behind (fault.is_call e) (members a)) (are_indices (other_room p) a)
      (creates (other_room p) e (elsewhere p))
  is_given p m a e =
      both (both (is_written m (members a)) (are_indices (other_room p) a))
      (is_value (other_room p) e)

  is_assign : (p : _) (a : _) → Shows (faults.assign_fault t p a) (IsAssign t p a)
  is_assign p (tree.Set name m accessors e) = is_given p m accessors e
  is_assign p _ = search (parts, are_indices, is_value)

  -- ---- declarations
  is_optional : (r : _) (v : _) → Shows (faults.optional_fault t r v) (IsOptional t r v)
  is_optional r None = λ h. tt
  is_optional r (Some e) = is_value r e

  is_signal_value : (p : Position) (d : Direction) (v : tree.SignalValue Meant)
      → Shows (faults.signal_value_fault t p d v) (IsSignalValue t p d v)
  is_signal_value p d tree.Nothing = λ h. tt
  is_signal_value p direction.Input (tree.Given arrow e) = never
  is_signal_value p _ (tree.Given arrow e) = is_value (value_room p) e

  is_argument : (p : _) (a : _) → Shows (faults.argument_fault t p a) (IsArgument t p a)
  is_argument p (tree.Words w) = λ h. tt
  is_argument p (tree.LogValue e) = is_value (other_room p) e

  -- ---- tuples
  is_slot : (p : _) (slot : _) → Shows (faults.slot_fault t p slot) (IsSlot t p slot)
  is_slot p (tree.SlotPlace name m accessors) =
      both (is_driven m (members accessors)) (are_indices (other_room p) accessors)
  is_slot p tree.SlotDiscard = λ h. tt

  is_target : (p : Position) (target : Target Meant)
      → Shows (first_in (faults.slot_fault t p) (slots_of target)) (IsTarget t p target)
  is_target p tree.Discard = λ h. tt
  is_target p (tree.Slots slots) = each (is_slot p) slots

  is_slot_value : (p : Position) (slot : Option (Slot Meant)) (e : Expr Meant)
      → Shows (faults.slot_value_fault t p slot e) (IsSlotValue t p slot e)
  is_slot_value p (Some tree.SlotDiscard) e = is_whole (value_room p) e
  is_slot_value p _ e = is_value (value_room p) e

  are_slot_values : (p : Position) (slots : List (Slot Meant)) (es : List (Expr Meant))
      → Shows (faults.slot_values_fault t p slots es) (AreSlotValues t p slots es)
  are_slot_values p slots [] = λ h. tt
  are_slot_values p slots (e ∷ es) =
      both (is_slot_value p (first_slot slots) e) (are_slot_values p (other_slots slots) es)

  is_source : (p : Position) (target : Target Meant) (source : Source Meant)
      → Shows (faults.source_fault t p target source) (IsSource t p target source)
  is_source p target (tree.One e) = is_whole (value_room p) e
  is_source p target (tree.Values es) = are_slot_values p (slots_of target) es

  is_filled : (p : Position) (slots : ℕ) (e : Expr Meant)
      → Shows (faults.one_fault t slots e) (IsWhole t (value_room p) e → Fills t slots e)
  is_filled p slots (tree.Anonymous parallel name m arguments inputs) h w =
      let d = w.2.0 in
      let is = w.2.1.template in (
        d,
        is,
        same d.outputs slots kind.Arity
            (subst (λ c. faults.outputs_fault c slots ≡ None) (callee_is m d is) h),
      )
  is_filled p slots (tree.Parentheses e) h w = is_filled p slots e h w
  is_filled p slots _ h w = same slots 1 kind.Arity h

  matches : (p : Position) (target : Target Meant) (source : Source Meant)
      → Shows (faults.tuple_fault t target source)
      (IsSource t p target source → Matches t target source)
  matches p tree.Discard (tree.One e) h w = tt
  matches p tree.Discard (tree.Values es) h w = never h
  matches p (tree.Slots slots) (tree.One e) h w = is_filled p (length slots) e h w
  matches p (tree.Slots slots) (tree.Values es) h w = same (length es) (length slots) kind.Arity h

  -- ---- statements
  is_simple : (p : Position) (s : Simple Meant) → Shows (faults.simple_fault t p s) (IsSimple t p s)
  is_simple p (tree.TargetLeft target arrow source) = λ h.
      let w = four (in_template p kind.WrongKind) (matches p target source) (is_target p target)
      (is_source p target source) h in
      (w.0, w.1 w.3, w.2, w.3)
  is_simple p (tree.TargetRight source arrow target) = λ h.
      let w = four (in_template p kind.WrongKind) (matches p target source)
      (is_source p target source) (is_target p target) h in
      (w.0, w.1 w.2, w.3, w.2)
  is_simple p (tree.Alone parallel name m arguments inputs) =
      both (in_template p kind.WrongKind)
      (is_nameless (value_room p) true m arguments inputs
      (are_values (inward (value_room p)) arguments) (λ d. are_inputs d (value_room p) inputs))
  is_simple p (tree.Assigned a) = is_assign p a
  is_simple p (tree.Created name m e) =
      both (may_declare p) (creates (other_room p) e (elsewhere p))
  is_simple p _ =
      search (parts, is_optional, is_signal_value, are_indices, are_values, is_value)

  is_head : (p : Position) (f : tree.First Meant) → Shows (faults.head_fault t p f) (IsHead t p f)
  is_head p (tree.FirstAssign a) = is_assign p a
  is_head p _ = search (parts, are_values, is_optional)

  mutual
    is_statement : (p : _) (s : _) → Shows (faults.statement_fault t p s) (IsStatement t p s)
    is_statement p (tree.Block spot ss) = are_statements (inside p) ss
    is_statement p (tree.If spot c s) =
        both (placed _ (is_value (other_room p) c)) (is_statement (inside p) s)
    is_statement p (tree.IfElse spot c s u) =
        three (placed _ (is_value (other_room p) c)) (is_statement (inside p) s)
        (is_statement (inside p) u)
    is_statement p (tree.While spot c s) =
        both (placed _ (is_value (other_room p) c)) (is_statement (in_loop p) s)
    is_statement p (tree.For spot first_spot f c step_spot a s) =
        four (placed _ (is_head p f)) (placed _ (is_value (other_room p) c))
        (placed _ (is_assign p a)) (is_statement (in_loop p) s)
    is_statement p _ =
        search (parts, placed, in_function, is_argument, is_value, is_simple)

    are_statements : (p : Position) (ss : Statements Spot Meant)
        → Shows (faults.statements_fault t p ss) (AreStatements t p ss)
    are_statements p tree.empty = λ h. tt
    are_statements p (tree.then_more s ss) = both (is_statement p s) (are_statements p ss)

  -- ---- definitions
  is_function : (d : Function) → Shows (faults.function_fault t d) (IsFunction t d)
  is_function d =
      both (placed _ (holds (last_returns false d.body) _))
      (are_statements position.InFunction d.body)

  is_main : (m : Main) → Shows (faults.main_fault t m) (IsMain t m)
  is_main m h =
      let w =
      placed _ (three {a = faults.publics_fault (callee t m.meant) m.public_names} (λ k. k)
      (is_created m.meant (count m.arguments)) (are_values room.Barred m.arguments)) h in
      record {
        created = w.1;
        publics =
            each (λ name. holds (w.1.head.is_input name) kind.UnknownName) m.public_names
            (subst (λ k. faults.publics_fault k m.public_names ≡ None)
            (callee_is m.meant w.1.head w.1.template) w.0);
        given = w.2;
      }

  are_used : (ds : List defined.Definition)
      → Shows (first_in (use_fault t) ds)
      (Each (IsTemplate t) (templates_among ds) × Each (IsFunction t) (functions_among ds)
      × Each (IsMain t) (mains_among ds))
  are_used [] h = (tt, tt, tt)
  are_used (defined.IsTemplate d ∷ ds) h =
      let w = both (placed _ (are_statements position.Outermost d.body)) (are_used ds) h in
      ((w.0, w.1.0), w.1.1, w.1.2)
  are_used (defined.IsFunction d ∷ ds) h =
      let w = both (placed _ (is_function d)) (are_used ds) h in (w.1.0, (w.0, w.1.1), w.1.2)
  are_used (defined.IsMain m ∷ ds) h =
      let w = both (placed _ (is_main m)) (are_used ds) h in (w.1.0, w.1.1, (w.0, w.1.2))

one_main : (ms : List Main) → Shows (mains_fault ms) ((m : Main) × (ms ≡ m ∷ []))
one_main [] h = never h
one_main (m ∷ []) h = (m, refl)
one_main (m ∷ _ ∷ _) h = never h

-- where there is no fault, the program is used as it may be
pub is_used : (files : List (List ℕ)) (ds : List defined.Definition) → first_fault ds ≡ None
    → IsUsed (program_with files ds)
is_used files ds h =
    let w = both (one_main (mains_among ds)) (are_used (table_among ds) ds) h in
    record {
      main = w.0.0;
      one = w.0.1;
      is = (subst (Each (IsMain (table_among ds))) w.0.1 w.1.2).0;
      templates = w.1.0;
      functions = w.1.1;
    }
