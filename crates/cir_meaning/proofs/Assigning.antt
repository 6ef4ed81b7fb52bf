-- An assignment to a variable that is a step gives it the numbers of its new value.
use Rattle.std.proofs.Common.{◌≡◌, ℕ, zero, suc, Bool, true, false, List, [], ◌∷◌, ◌++◌, map}
use Rattle.std.proofs.Common.{length, Option, Some, is_some, slice_get, slice_set, Ok, refl, sym}
use Rattle.std.proofs.Common.{ap, subst, ◌∙◌}
use Rattle.std.specs.Prelude.{unwrap_or}
use Rattle.cir_ast.specs.declared.program.Meant.{Meant}
use Rattle.cir_ast.specs.declared.program.Meant.TheVariants as meant
use Rattle.cir_ast.specs.declared.refusal.Kind.TheVariants.{ShapeDiffers}
use Rattle.cir_ast.specs.Tree.{Expr, Accessors, done, index, member}
use Rattle.cir_lc.specs.Number.{Assignment}
use Rattle.cir_meaning.specs.Tried.{Where, Tried, next, needed}
use Rattle.cir_meaning.specs.Places.{all_known, places_of}
use Rattle.cir_meaning.specs.Arrays.{Datum, Scalar, Whole, reach, single, same_dims, put_items}
use Rattle.cir_meaning.specs.Values.{Value, Known, Opaque, known_number}
use Rattle.cir_meaning.specs.Frame.{State, Context, variable_at}
use Rattle.cir_meaning.specs.Scoped.{Scope, AreIndicesMeant, IsSetMeant}
use Rattle.cir_meaning.specs.Evaluate.{value_in, indices_in}
use Rattle.cir_meaning.specs.Writing.{VariableAssignment, variable_assignment, written_datum}
use Rattle.cir_meaning.specs.RunValues.{Numbers, Ran, Environment, Store, stored, number_in}
use Rattle.cir_meaning.specs.RunValues.{index_numbers, bounded, gives}
use Rattle.cir_meaning.specs.RunStatements.{step_set}
use Rattle.cir_meaning.proofs.FineValues.{FineContext, FineAnswer, value_fine}
use Rattle.cir_meaning.proofs.Likes.{Like}
use Rattle.cir_meaning.proofs.Meaning.{Means}
use Rattle.cir_meaning.proofs.Pairs.{Pair, pair_ok, pair_next, pair_needed, pair_good}
use Rattle.cir_meaning.proofs.Reaching.{IndicesSame, indices_more, all_same}
use Rattle.cir_meaning.proofs.Same.{Rows, Same, index_same, rows_count, reach_pair}
use Rattle.cir_meaning.proofs.Sound.{Fitting, Answers, Ready, Whole', number_pair}
use Rattle.cir_meaning.proofs.Numbered.{value_pair}

module _ (E : Assignment → Type 0) where
  rows_set : (vs : List Value) (ns : List ℕ) (k : ℕ) (v : Value) (n : ℕ) → Rows E vs ns
      → Means E v n → Rows E (slice_set vs k v) (slice_set ns k n)
  rows_set [] [] k v n h m = tt
  rows_set [] (a ∷ as') k v n h m = absurd h
  rows_set (w ∷ ws) [] k v n h m = absurd h
  rows_set (w ∷ ws) (a ∷ as') zero v n h m = (m, h.1)
  rows_set (w ∷ ws) (a ∷ as') (suc k) v n h m = (h.0, rows_set ws as' k v n h.1 m)

  rows_put : (places : List ℕ) (vs old : List Value) (ns olds : List ℕ) → Rows E vs ns
      → Rows E old olds → Rows E (put_items places vs old) (put_items places ns olds)
  rows_put [] vs old ns olds h g = g
  rows_put (p ∷ ps) [] old [] olds h g = g
  rows_put (p ∷ ps) [] old (n ∷ ns) olds h g = absurd h
  rows_put (p ∷ ps) (v ∷ vs) old [] olds h g = absurd h
  rows_put (p ∷ ps) (v ∷ vs) old (n ∷ ns) olds h g =
      rows_put ps vs (slice_set old p v) ns (slice_set olds p n) h.1 (rows_set old olds p v n g h.0)

  -- whatever the numbers are, an opaque value has them
  pub rows_forgotten : (old : List Value) (olds : List ℕ) → length olds ≡ length old
      → Rows E (map (λ v. Opaque) old) olds
  rows_forgotten [] [] e = tt
  rows_forgotten [] (n ∷ ns) e = cc
  rows_forgotten (v ∷ vs) [] e = cc
  rows_forgotten (v ∷ vs) (n ∷ ns) e = (tt, rows_forgotten vs ns (cc))

  pub put_count : (places : List ℕ) (ns olds : List ℕ) → length (put_items places ns olds)
      ≡ length olds
  put_count [] ns olds = refl
  put_count (p ∷ ps) [] olds = refl
  put_count (p ∷ ps) (n ∷ ns) olds = put_count ps ns (slice_set olds p n) ∙ set_count olds p n
    where
      set_count : (xs : List ℕ) (k n : ℕ) → length (slice_set xs k n) ≡ length xs
      set_count [] k n = refl
      set_count (x ∷ xs) zero n = refl
      set_count (x ∷ xs) (suc k) n = ap (λ (a : ℕ). suc a) (set_count xs k n)

  -- the new numbers of the variable
  new_rows : (sure : Bool) (dims left places : List ℕ) (ps : List ℕ) (old : Datum) (d : Datum)
      (olds m : Numbers)
      → (sure ≡ true → places ≡ ps) → Same E old olds → Same E d m
      → Same E (written_datum old record { left = left; is_sure = sure; places = places } d)
      record { dims = olds.dims; items = put_items ps m.items olds.items }
  new_rows true dims left places ps old d olds m e h g = (
    h.0,
    subst (λ a. Rows E (put_items a d.items old.items) (put_items ps m.items olds.items))
        (sym (e refl)) (rows_put ps d.items old.items m.items olds.items g.1 h.1),
  )
  new_rows false dims left places ps old d olds m e h g = (
    h.0,
    rows_forgotten old.items (put_items ps m.items olds.items)
        (put_count ps m.items olds.items ∙ rows_count E old.items olds.items h.1),
  )

module _ (E : Assignment → Type 0) (k : Context) (fine : FineContext k) (w : Where)
    (scope : Scope) (f : State) (env : Environment) (store : Store)
    (fit : Fitting E k w scope f env store) where
  -- indices, with what comes behind them
  pub indices_pair : {A B : Type 0} (R : A → B × ℕ → Type 0) (shaded : Bool)
      (os : List (Option ℕ)) (ns : List ℕ) (accessors : Accessors Meant) (s : State) (u : ℕ)
      (go : List (Option ℕ) → Accessors Meant → State → Tried A) (on : List ℕ → ℕ → Ran B)
      → AreIndicesMeant scope accessors → IndicesSame os ns → Ready E k fine f s
      → ((os : List (Option ℕ)) (ns : List ℕ) (rest : Accessors Meant) (s : State) (u : ℕ) →
      IndicesSame os ns → Ready E k fine f s → Pair R (go os rest s) (on ns u))
      → Pair R (indices_in k w shaded os accessors s go) (index_numbers env store ns accessors u on)
  indices_pair R shaded os ns done s u go on t h l g = g os ns done s u h l
  indices_pair R shaded os ns (member name rest) s u go on t h l g =
      g os ns (member name rest) s u h l
  indices_pair R shaded os ns (index e rest) s u go on t h l g =
      number_pair E k fine f R (value_in k w shaded Scalar e s) (number_in env store e u) _ _
      (pair_good FineAnswer (Answers E f) (value_in k w shaded Scalar e s) (number_in env store e u)
      (value_fine k fine w shaded Scalar e s l.1)
      (value_pair E k fine w scope f env store fit shaded Scalar e s u t.0 l))
      (λ x s1 n u1 i m l1. indices_pair R shaded (os ++ known_number x ∷ []) (ns ++ n ∷ []) rest
      s1 u1 go on t.1
      (indices_more os ns (known_number x) n h (index_same E x n m)) l1 g)

  -- what a step writes into a variable: the new value's numbers
  pub record Writes (n : ℕ) (a : VariableAssignment) (after : Store) : Type 0 where
    pub numbers : Numbers
    pub stores : after ≡ slice_set store n numbers
    pub same : Same E (written_datum (variable_at f.frame n) a.reach a.value) numbers
    pub ready : Ready E k fine f a.state

  pub assignment_pair : (n : ℕ) (accessors : Accessors Meant) (e : Expr Meant)
      (s : State) (u : ℕ)
      → IsSetMeant scope (meant.Variable n) accessors e → Ready E k fine f s
      → Pair (λ a y. Writes n a y.0) (variable_assignment k w n accessors e s)
      (step_set env (meant.Variable n) accessors e store u)
  assignment_pair n accessors e s u is l =
      pair_next (Whole' E k fine f) (λ a y. Writes n a y.0) (value_in k w false Whole e s)
      (number_in env store e u) _ _
      (pair_good FineAnswer (Answers E f) (value_in k w false Whole e s) (number_in env store e u)
      (value_fine k fine w false Whole e s l.1)
      (value_pair E k fine w scope f env store fit false Whole e s u is.2 l))
      (λ x y p. indices_pair (λ a z. Writes n a z.0) false [] [] accessors x.1 y.1 _ _ is.1 tt
      (p.1.1, p.0.1) (λ os ns rest s2 u2 h l2.
      at x y os ns s2 u2 p.1.0 h l2))
    where
      old_numbers : (s2 : State) → Like f s2 → Same E (variable_at s2.frame n) (stored store n)
      old_numbers s2 like =
          subst (λ vs. Same E (unwrap_or (slice_get vs n) (single (Known 0))) (stored store n))
          (sym like.0) (fit.variables n is.0)

      old_is : (s2 : State) → Like f s2 → variable_at s2.frame n ≡ variable_at f.frame n
      old_is s2 like = ap (λ vs. unwrap_or (slice_get vs n) (single (Known 0))) like.0

      at : (x : Datum × State) (y : Numbers × ℕ) (os : List (Option ℕ)) (ns : List ℕ) (s2 : State)
          (u2 : ℕ)
          → Same E x.0 y.0 → IndicesSame os ns → Ready E k fine f s2
          → Pair (λ a z. Writes n a z.0) (next (reach w false Whole (variable_at s2.frame n).dims
          os) (λ r.
          needed (same_dims r.left x.0.dims) w ShapeDiffers
          (Ok record { value = x.0; reach = r; state = s2 })))
          (bounded (stored store n).dims ns (λ left places.
          gives (slice_set store n record {
            dims = (stored store n).dims;
            items = put_items places
                y.0.items (stored store n).items;
          }) u2))
      at x y os ns s2 u2 same h l2 =
          subst (λ dims. Pair (λ a z. Writes n a z.0) (next
          (reach w false Whole (variable_at s2.frame n).dims os) (λ r.
          needed (same_dims r.left x.0.dims) w ShapeDiffers
          (Ok record { value = x.0; reach = r; state = s2 })))
          (bounded dims ns (λ left places.
          gives (slice_set store n record {
            dims = (stored store n).dims;
            items = put_items places
                y.0.items (stored store n).items;
          }) u2))) (sym (old_numbers s2 l2.0).0)
          (reach_pair E (λ a z. Writes n a z.0) w false Whole (variable_at s2.frame n).dims os ns
          (λ r. needed (same_dims r.left x.0.dims) w ShapeDiffers
          (Ok record { value = x.0; reach = r; state = s2 }))
          (λ left places. gives (slice_set store n record {
            dims = (stored store n).dims;
            items = put_items places y.0.items (stored store n).items;
          }) u2) h (λ left r g.
          pair_needed (λ a z. Writes n a z.0) (same_dims r.left x.0.dims) w ShapeDiffers _ _
          (λ shapes.
          pair_ok (λ a z. Writes n a z.0) _ _ record {
            numbers =
                record {
                  dims = (stored store n).dims;
                  items = put_items
                      (places_of (variable_at s2.frame n).dims (map Some ns)) y.0.items
                      (stored store n).items;
                };
            stores = refl;
            same =
                subst (λ q. Same E (written_datum (variable_at f.frame n) q x.0)
                record {
                  dims = (stored store n).dims;
                  items = put_items
                      (places_of (variable_at s2.frame n).dims (map Some ns)) y.0.items
                      (stored store n).items;
                }) (sym g.is)
                (new_rows E (is_some (all_known os)) [] left
                (places_of (variable_at s2.frame n).dims os)
                (places_of (variable_at s2.frame n).dims (map Some ns)) (variable_at f.frame n) x.0
                (stored store n) y.0
                (λ sure. ap (λ is. places_of (variable_at s2.frame n).dims is)
                (all_same os ns h sure)) (fit.variables n is.0) same);
            ready = l2;
          })))
