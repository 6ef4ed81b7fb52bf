-- What an assignment that is a step writes: a part of its variable, where it is known which part.
use Rattle.std.proofs.Common.{◌≡◌, ℕ, true, false, List, [], map, Option, Some, slice_set}
use Rattle.std.proofs.Common.{slice_get, Ok, refl, sym, ap, subst, ◌∙◌}
use Rattle.std.specs.Prelude.{unwrap_or}
use Rattle.cir_ast.specs.declared.program.Meant.TheVariants as meant
use Rattle.cir_ast.specs.declared.program.Meant.{Meant}
use Rattle.cir_ast.specs.declared.refusal.Kind.TheVariants.{ShapeDiffers}
use Rattle.cir_ast.specs.Tree.{Expr, Accessors}
use Rattle.cir_meaning.specs.Tried.{Where, next, needed}
use Rattle.cir_meaning.specs.Places.{places_of}
use Rattle.cir_meaning.specs.Arrays.{Datum, Reach, Whole, reach, single, same_dims, put_items}
use Rattle.cir_meaning.specs.Values.{Known}
use Rattle.cir_meaning.specs.Frame.{Part, State, Context, variable_at}
use Rattle.cir_meaning.specs.Scoped.{IsSetMeant}
use Rattle.cir_meaning.specs.Evaluate.{value_in}
use Rattle.cir_meaning.specs.Writing.{VariableAssignment, variable_assignment}
use Rattle.cir_meaning.specs.RunValues.{Ran, Numbers, Environment, Store, stored, number_in}
use Rattle.cir_meaning.specs.RunValues.{bounded, gives}
use Rattle.cir_meaning.specs.RunStatements.{step_set}
use Rattle.cir_meaning.specs.Run.{RunPart, Run, store_of, environment}
use Rattle.cir_meaning.proofs.FineValues.{Fine, FineAnswer, value_fine}
use Rattle.cir_meaning.proofs.Likes.{Like, like_itself}
use Rattle.cir_meaning.proofs.Pairs.{Pair, pair_ok, pair_next, pair_needed, pair_good}
use Rattle.cir_meaning.proofs.Reaching.{IndicesSame, all_same}
use Rattle.cir_meaning.proofs.Same.{reach_pair}
use Rattle.cir_meaning.proofs.Sound.{Answers, Whole'}
use Rattle.cir_meaning.proofs.Numbered.{value_pair}
use Rattle.cir_meaning.proofs.Assigning.{Writes, indices_pair, assignment_pair}
use Rattle.cir_steps.proofs.UnlessSteps.{set_unless}
use Rattle.cir_steps.proofs.Related.{Nowhere, Knows}
use Rattle.cir_steps.proofs.Knowing.{whole_run, whole_richer, IsSound, pair_is, unless_ok, All, fit}

module _ (functions : ℕ) (k : Context) (call : ℕ → List Numbers → ℕ → Ran Numbers)
    (sound : IsSound functions k call) (r : Run)
    (there : (j : ℕ) (p : Part) → slice_get r.known.frame.parts j ≡ Some p
    → (q : RunPart) × (slice_get r.parts j ≡ Some q))
    (told : Knows r.known.frame.variables r.numbers) (fine : Fine r.known) (w : Where) where
  abbrev store : Store
  store = store_of r.known r.numbers

  abbrev env : Environment
  env = environment k w call r.known (whole_run r)

  pub record Puts (n : ℕ) (a : VariableAssignment) (after : Store) : Type 0 where
    pub places : List ℕ
    pub new : List ℕ
    pub is : after ≡ slice_set store n record {
      dims = (stored store n).dims;
      items = put_items places new (stored store n).items;
    }
    pub sure : a.reach.is_sure ≡ true → a.reach.places ≡ places

  puts_at : (n : ℕ) (x : Datum × State) (y : Numbers × ℕ) (os : List (Option ℕ)) (ns : List ℕ)
      (s2 : State) (u2 : ℕ) → IndicesSame os ns → Like r.known s2
      → Pair (λ a z. Puts n a z.0) (next (reach w false Whole (variable_at s2.frame n).dims os)
      (λ q. needed (same_dims q.left x.0.dims) w ShapeDiffers
      (Ok record { value = x.0; reach = q; state = s2 })))
      (bounded (stored store n).dims ns (λ left places. gives (slice_set store n record {
        dims = (stored store n).dims;
        items = put_items places y.0.items (stored store n).items;
      }) u2))
  puts_at n x y os ns s2 u2 h l =
      subst (λ dims. Pair (λ a z. Puts n a z.0) (next
      (reach w false Whole (variable_at s2.frame n).dims os) (λ q.
      needed (same_dims q.left x.0.dims) w ShapeDiffers
      (Ok record { value = x.0; reach = q; state = s2 })))
      (bounded dims ns (λ left places. gives (slice_set store n record {
        dims = (stored store n).dims;
        items = put_items places y.0.items (stored store n).items;
      }) u2))) (sym dims_are)
      (reach_pair Nowhere (λ a z. Puts n a z.0) w false Whole (variable_at s2.frame n).dims os ns
      (λ q. needed (same_dims q.left x.0.dims) w ShapeDiffers
      (Ok record { value = x.0; reach = q; state = s2 }))
      (λ left places. gives (slice_set store n record {
        dims = (stored store n).dims;
        items = put_items places y.0.items (stored store n).items;
      }) u2) h (λ left q g.
      pair_needed (λ a z. Puts n a z.0) (same_dims q.left x.0.dims) w ShapeDiffers _ _ (λ shapes.
      pair_ok (λ a z. Puts n a z.0) _ _ record {
        places = places_of (variable_at s2.frame n).dims (map (λ i. Some i) ns);
        new = y.0.items;
        is = refl;
        sure = λ is. ap (λ (a : Reach). a.places) g.is
            ∙ ap (places_of (variable_at s2.frame n).dims)
            (all_same os ns h (sym (ap (λ (a : Reach). a.is_sure) g.is) ∙ is));
      })))
    where
      dims_are : (stored store n).dims ≡ (variable_at s2.frame n).dims
      dims_are =
          (told n).0
          ∙ ap (λ (vs : List Datum). (unwrap_or (slice_get vs n) (single (Known 0))).dims)
          (sym l.0)

  puts_pair : (n : ℕ) (accessors : Accessors Meant) (e : Expr Meant) (u : ℕ)
      → IsSetMeant (All functions k call sound r there told fine) (meant.Variable n) accessors e
      → Pair (λ a z. Puts n a z.0) (variable_assignment k w n accessors e r.known)
      (step_set env (meant.Variable n) accessors e store u)
  puts_pair n accessors e u is =
      pair_next (Whole' Nowhere k sound.fine r.known) (λ a z. Puts n a z.0)
      (value_in k w false Whole e r.known) (number_in env store e u) _ _
      (pair_good FineAnswer (Answers Nowhere r.known) (value_in k w false Whole e r.known)
      (number_in env store e u) (value_fine k sound.fine w false Whole e r.known fine)
      (value_pair Nowhere k sound.fine w (All functions k call sound r there told fine) r.known env
      store (fit functions k call sound r there told fine w) false Whole e r.known u is.2
      (like_itself r.known, fine)))
      (λ x y p. indices_pair Nowhere k sound.fine w
      (All functions k call sound r there told fine) r.known env store
      (fit functions k call sound r there told fine w) (λ a z. Puts n a z.0) false [] [] accessors
      x.1 y.1 _ _ is.1 tt (p.1.1, p.0.1)
      (λ os ns rest s2 u2 h l2. puts_at n x y os ns s2 u2 h l2.0))

  module _ (n : ℕ) (accessors : Accessors Meant) (e : Expr Meant) (u v : ℕ)
      (is : IsSetMeant (All functions k call sound r there told fine) (meant.Variable n) accessors
      e) (a : VariableAssignment) (made : variable_assignment k w n accessors e r.known ≡ Ok a)
      (after : Store)
      (ran : step_set (environment k w call r.known r) (meant.Variable n) accessors e store u
      ≡ Ok (after, v)) where
    ran_whole : step_set env (meant.Variable n) accessors e store u ≡ Ok (after, v)
    ran_whole =
        unless_ok (step_set (environment k w call r.known r) (meant.Variable n) accessors e store u)
        _ (after, v)
        (set_unless _ _ (whole_richer k w call r.known r) (meant.Variable n) accessors e store u)
        ran

    pub puts : Puts n a after
    puts =
        pair_is (λ a (z : Store × ℕ). Puts n a z.0) (variable_assignment k w n accessors e r.known)
        (step_set env (meant.Variable n) accessors e store u) a (after, v)
        (puts_pair n accessors e u is) made ran_whole

    pub writes : Writes Nowhere k sound.fine w (All functions k call sound r there told fine)
        r.known env store (fit functions k call sound r there told fine w) n a after
    writes =
        pair_is (λ a (z : Store × ℕ). Writes Nowhere k sound.fine w
        (All functions k call sound r there told fine) r.known env store
        (fit functions k call sound r there told fine w) n a z.0)
        (variable_assignment k w n accessors e r.known)
        (step_set env (meant.Variable n) accessors e store u) a (after, v)
        (assignment_pair Nowhere k sound.fine w (All functions k call sound r there told fine)
        r.known env store (fit functions k call sound r there told fine w) n accessors e r.known u
        is (like_itself r.known, fine)) made ran_whole
