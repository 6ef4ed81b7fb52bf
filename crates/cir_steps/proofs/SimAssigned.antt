-- An assignment to a variable in a run beside its step.
use Rattle.std.proofs.Common.{◌≡◌, ℕ, zero, suc, ◌+◌, ◌≤◌, Bool, true, false, not, cond, List, []}
use Rattle.std.proofs.Common.{◌∷◌, map, length, Option, Some, None, Ok, refl, sym, ap, subst, ◌∙◌}
use Rattle.std.proofs.Common.{slice_get, slice_set, slice_index, arith}
use Rattle.std.specs.Prelude.{unwrap_or, slice_index_or}
use Rattle.cir_ast.specs.declared.program.Meant.{Meant}
use Rattle.cir_ast.specs.declared.program.Meant.TheVariants as meant
use Rattle.cir_ast.specs.Tree.{Expr, Accessors}
use Rattle.cir_meaning.specs.Tried.{Where}
use Rattle.cir_meaning.specs.Places.{numbers_from}
use Rattle.cir_meaning.specs.Limits.{Counts}
use Rattle.cir_meaning.specs.Arrays.{Datum, single, forgotten, item_at, is_known, put_items}
use Rattle.cir_meaning.specs.Values.{Value, Known, Linear, Quadratic, Opaque}
use Rattle.cir_meaning.specs.Frame.{Part, State, Context, variable_at}
use Rattle.cir_meaning.specs.Scoped.{IsSetMeant}
use Rattle.cir_meaning.specs.Writing.{written_datum, VariableAssignment, variable_assignment}
use Rattle.cir_meaning.specs.Writing.{write_variable}
use Rattle.cir_meaning.specs.RunValues.{Numbers, Store, stored}
use Rattle.cir_meaning.specs.RunStatements.{step_set}
use Rattle.cir_meaning.specs.Run.{RunPart, Run, store_of, environment, put_numbers}
use Rattle.cir_meaning.proofs.Good.{good_is}
use Rattle.cir_meaning.proofs.Likes.{Like, like_itself}
use Rattle.cir_meaning.proofs.FineValues.{Fine}
use Rattle.cir_meaning.proofs.Meaning.{Means}
use Rattle.cir_meaning.proofs.Same.{Same, rows_at}
use Rattle.cir_meaning.proofs.Settling.{settle_of, same_settled, Variable, put_variables}
use Rattle.cir_meaning.proofs.ScopedQuiet.{everything}
use Rattle.cir_meaning.proofs.VariableRuns.{assignment_like, settled_there, stored_set, with_added}
use Rattle.cir_meaning.proofs.Writing.{get_set}
use Rattle.cir_steps.specs.Step.{Source, Constant, Cell, source_of, listed}
use Rattle.cir_steps.specs.RunSteps.{Cells, Calling}
use Rattle.cir_steps.specs.Emission.{Emission, with_state}
use Rattle.cir_steps.specs.Making.{written_places, new_places, settled_sources}
use Rattle.cir_steps.proofs.Templates.{Apart}
use Rattle.cir_steps.proofs.Related.{Nowhere, Knows, Gives, AllGive, items_at, Stored}
use Rattle.cir_steps.proofs.SimSteps.{Placed}
use Rattle.cir_steps.proofs.Knowing.{IsSound}
use Rattle.cir_steps.proofs.Assigned.{Puts, puts, writes}
use Rattle.cir_steps.proofs.Putting.{or_get, put_aside, put_gives, apart_filter, apart_range}
use Rattle.cir_steps.proofs.Putting.{set_none, source_at, sources_none, stored_items, settled_at}
use Rattle.cir_steps.proofs.Putting.{settled_none, get_past, map_none}

module _ (functions : ℕ) (k : Context) (call : Calling) (sound : IsSound functions k call)
    (w : Where) (n : ℕ) (accessors : Accessors Meant) (e : Expr Meant)
    (te : IsSetMeant (everything functions) (meant.Variable n) accessors e) (r : Run)
    (x : Emission) (a : VariableAssignment)
    (made : variable_assignment k w n accessors e r.known ≡ Ok a) (s : State) (c : Counts)
    (s_is : s ≡ with_added (write_variable n a) c) where
  pub like : Like r.known a.state
  like =
      good_is (λ y. Like r.known y.state) (variable_assignment k w n accessors e r.known) a made
      (assignment_like k sound.keeps r.known w n accessors e r.known (like_itself r.known))

  abbrev pub datum : Datum
  datum = written_datum (variable_at r.known.frame n) a.reach a.value

  pub parts_are : s.frame.parts ≡ r.known.frame.parts
  parts_are = ap (λ (t : State). t.frame.parts) s_is ∙ like.3

  pub signals_are : s.frame.signals ≡ r.known.frame.signals
  signals_are = ap (λ (t : State). t.frame.signals) s_is ∙ like.1

  pub variables_are : s.frame.variables ≡ slice_set r.known.frame.variables n datum
  variables_are =
      ap (λ (t : State). t.frame.variables) s_is
      ∙ ap (λ vs. slice_set vs n (written_datum (unwrap_or (slice_get vs n) (single (Known 0)))
      a.reach a.value)) like.0

  module _ (there : (j : ℕ) (p : Part) → slice_get r.known.frame.parts j ≡ Some p
      → (q : RunPart) × (slice_get r.parts j ≡ Some q))
      (told : Knows r.known.frame.variables r.numbers) (fine : Fine r.known) (u v : ℕ)
      (after : Store)
      (ran : step_set (environment k w call r.known r) (meant.Variable n) accessors e
      (store_of r.known r.numbers) u ≡ Ok (after, v)) where
    abbrev new : Numbers
    new = stored after n

    abbrev put : Puts functions k call sound r there told fine w n a after
    put = puts functions k call sound r there told fine w n accessors e u v te a made after ran

    abbrev now : Datum
    now = variable_at s.frame n

    in_place : (old : Datum) → slice_get r.known.frame.variables n ≡ Some old → now ≡ datum
    in_place old at =
        ap (λ (vs : List Datum). unwrap_or (slice_get vs n) (single (Known 0))) variables_are
        ∙ ap (λ (o : Option Datum). unwrap_or o (single (Known 0)))
        (get_set r.known.frame.variables n old datum at)

    put_is : (old : Datum) → slice_get r.known.frame.variables n ≡ Some old
        → new.items ≡ put_items put.places put.new (stored (store_of r.known r.numbers) n).items
    put_is old at =
        let has : (m : Numbers) × (slice_get (store_of r.known r.numbers) n ≡ Some m) =
        settled_there r.known.frame.variables r.numbers n old at in
        ap (λ (m : Numbers). m.items) (ap (λ (st : Store). stored st n) put.is
        ∙ stored_set (store_of r.known r.numbers) n has.0 _ has.1)

    pub same : Same Nowhere now new
    same = at (slice_get r.known.frame.variables n) refl
      where
        wr_numbers : Numbers
        wr_numbers =
            (writes functions k call sound r there told fine w n accessors e u v te a made after
            ran).numbers

        wr_stores : after ≡ slice_set (store_of r.known r.numbers) n wr_numbers
        wr_stores =
            (writes functions k call sound r there told fine w n accessors e u v te a made after
            ran).stores

        wr_same : Same Nowhere datum wr_numbers
        wr_same =
            (writes functions k call sound r there told fine w n accessors e u v te a made after
            ran).same

        at : (o : Option Datum) → slice_get r.known.frame.variables n ≡ o → Same Nowhere now new
        at (Some old) is =
            let has : (m : Numbers) × (slice_get (store_of r.known r.numbers) n ≡ Some m) =
            settled_there r.known.frame.variables r.numbers n old is in
            subst (λ d. Same Nowhere d new) (sym (in_place old is))
            (subst (λ m. Same Nowhere datum m) (sym (ap (λ (st : Store). stored st n) wr_stores
            ∙ stored_set (store_of r.known r.numbers) n has.0 wr_numbers has.1)) wr_same)
        at None is =
            let no_datum : now ≡ single (Known 0) =
            ap (λ (vs : List Datum). unwrap_or (slice_get vs n) (single (Known 0))) variables_are
            ∙ ap (λ (o : Option Datum). unwrap_or o (single (Known 0)))
            (set_none r.known.frame.variables n datum is) in
            let no_number : new ≡ single 0 =
            ap (λ (st : Store). stored st n) wr_stores
            ∙ ap (λ (o : Option Numbers). unwrap_or o (single 0))
            (set_none (store_of r.known r.numbers) n wr_numbers
            (settled_none r.known.frame.variables r.numbers n is)) in
            subst (λ d. Same Nowhere d new) (sym no_datum)
            (subst (λ m. Same Nowhere (single (Known 0)) m) (sym no_number) (refl, (refl, tt)))

    pub told_after : Knows s.frame.variables (put_numbers n new r.numbers)
    told_after m =
        subst (λ vs. Variable Nowhere vs (put_numbers n new r.numbers) m) (sym variables_are)
        (put_variables Nowhere r.known.frame.variables r.numbers n datum new (λ old at.
        subst (λ d. Same Nowhere d (settle_of d (Some new))) (in_place old at)
        (same_settled Nowhere now new same)) told m)

    -- an element that isn't written
    module _ (cells : Cells) (before : Stored cells r.numbers x.sources) where
      abbrev old_source : ℕ → Source
      old_source i = slice_index_or (listed x.sources n) i (Constant 0)

      abbrev old : Datum
      old = variable_at r.known.frame n

      unwritten : (i : ℕ) → is_known (item_at now.items i) ≡ false
          → Apart i (written_places n a)
          → Gives cells (source_of (item_at old.items i) (old_source i)) (slice_index new.items i)
      unwritten i unknown apart = at (slice_get r.known.frame.variables n) refl
        where
          is_now : (d : Datum) → slice_get r.known.frame.variables n ≡ Some d
              → is_known (item_at datum.items i) ≡ false
          is_now d is =
              subst (λ (y : Datum). is_known (item_at y.items i) ≡ false) (in_place d is) unknown

          old_is : (d : Datum) → slice_get r.known.frame.variables n ≡ Some d → old ≡ d
          old_is d is = ap (λ (o : Option Datum). unwrap_or o (single (Known 0))) is

          sure_case : (d : Datum) → slice_get r.known.frame.variables n ≡ Some d
              → a.reach.is_sure ≡ true → Apart i a.reach.places
              → Gives cells (source_of (item_at old.items i) (old_source i))
              (slice_index new.items i)
          sure_case d is sure aside =
              let kept : item_at datum.items i ≡ item_at old.items i =
              ap (λ b. item_at (cond b record {
                dims = old.dims;
                items = put_items a.reach.places a.value.items old.items;
              } (forgotten old)).items i) sure
              ∙ ap (λ o. unwrap_or o (Known 0))
              (put_aside a.reach.places a.value.items old.items i aside) in
              let was : is_known (item_at old.items i) ≡ false =
              ap is_known (sym kept) ∙ is_now d is in
              let number : slice_index new.items i ≡ slice_index (items_at r.numbers n) i =
              ap (λ ns. slice_index ns i) (put_is d is)
              ∙ or_get (put_items put.places put.new (stored (store_of r.known r.numbers) n).items)
              i 0
              ∙ ap (λ o. unwrap_or o 0) (put_aside put.places put.new
              (stored (store_of r.known r.numbers) n).items i
              (subst (Apart i) (put.sure sure) aside))
              ∙ sym (or_get (stored (store_of r.known r.numbers) n).items i 0)
              ∙ ap (λ ns. slice_index ns i) (stored_items r.known.frame.variables r.numbers n d is)
              ∙ settled_at d.items (items_at r.numbers n) i
              (subst (λ (y : Datum). is_known (item_at y.items i) ≡ false) (old_is d is) was) in
              subst (Gives cells (source_of (item_at old.items i) (old_source i))) (sym number)
              (as_unknown (item_at old.items i) (old_source i) was (before n i))
            where
              as_unknown : (y : Value) (z : Source) → is_known y ≡ false
                  → Gives cells z (slice_index (items_at r.numbers n) i)
                  → Gives cells (source_of y z) (slice_index (items_at r.numbers n) i)
              as_unknown (Known j) z f g = cc
              as_unknown (Linear l) z f g = g
              as_unknown (Quadratic l m o) z f g = g
              as_unknown Opaque z f g = g

          unsure_case : (d : Datum) → slice_get r.known.frame.variables n ≡ Some d
              → a.reach.is_sure ≡ false
              → Apart i (numbers_from 0 (length (variable_at a.state.frame n).items)) → ⊥
          unsure_case d is sure aside =
              let past : 0 + length (variable_at a.state.frame n).items ≤ i =
              apart_range 0 (length (variable_at a.state.frame n).items) i (omega arith) aside in
              let old_a : variable_at a.state.frame n ≡ old =
              ap (λ (vs : List Datum). unwrap_or (slice_get vs n) (single (Known 0))) like.0 in
              let count : length (variable_at a.state.frame n).items ≡ length old.items =
              ap (λ (y : Datum). length y.items) old_a in
              let none : slice_get datum.items i ≡ None =
              ap (λ b. slice_get (cond b record {
                dims = old.dims;
                items = put_items a.reach.places a.value.items old.items;
              } (forgotten old)).items i) sure
              ∙ map_none (λ v. Opaque) old.items i (get_past old.items i (omega arith)) in
              let known : is_known (item_at datum.items i) ≡ true =
              ap (λ o. is_known (unwrap_or o (Known 0))) none in
              let no : true ≡ false = sym known ∙ is_now d is in cc

          at : (o : Option Datum) → slice_get r.known.frame.variables n ≡ o
              → Gives cells (source_of (item_at old.items i) (old_source i))
              (slice_index new.items i)
          at None is =
              let no_datum : now ≡ single (Known 0) =
              ap (λ (vs : List Datum). unwrap_or (slice_get vs n) (single (Known 0)))
              variables_are
              ∙ ap (λ (o : Option Datum). unwrap_or o (single (Known 0)))
              (set_none r.known.frame.variables n datum is) in
              let no : is_known (item_at (Known 0 ∷ []) i) ≡ false =
              subst (λ (y : Datum). is_known (item_at y.items i) ≡ false) no_datum unknown in
              absurd (only_known i no)
            where
              only_known : (i : ℕ) → is_known (item_at (Known 0 ∷ []) i) ≡ false → ⊥
              only_known zero h = cc
              only_known (suc i) h = cc
          at (Some d) is = by (a.reach.is_sure) refl
            where
              by : (b : Bool) → a.reach.is_sure ≡ b
                  → Gives cells (source_of (item_at old.items i) (old_source i))
                  (slice_index new.items i)
              by true sure =
                  sure_case d is sure (subst (λ b. Apart i (cond b a.reach.places
                  (numbers_from 0 (length (variable_at a.state.frame n).items)))) sure apart)
              by false sure =
                  absurd (unsure_case d is sure (subst (λ b. Apart i (cond b a.reach.places
                  (numbers_from 0 (length (variable_at a.state.frame n).items)))) sure apart))

      pub new_gives : Placed (numbers_from x.next (length (new_places n a)))
          (map (slice_index new.items) (new_places n a)) cells
          → AllGive cells (put_items (new_places n a) (map (λ c. Cell c)
          (numbers_from x.next (length (new_places n a))))
          (settled_sources s (with_state r.known x) n)) new.items
      new_gives placed =
          put_gives cells (slice_index new.items) (new_places n a) x.next
          (settled_sources s (with_state r.known x) n) placed others none
        where
          written_is : (i : ℕ) → is_known (item_at now.items i) ≡ false
              → not (is_known (item_at (variable_at (write_variable n a).frame n).items i)) ≡ true
          written_is i u =
              ap not (ap (λ (t : State). is_known (item_at (variable_at t.frame n).items i))
              (sym s_is) ∙ u)

          others : (i : ℕ) → Apart i (new_places n a)
              → Gives cells (slice_index_or (settled_sources s (with_state r.known x) n) i
              (Constant 0)) (slice_index new.items i)
          others i apart =
              subst (λ y. Gives cells y (slice_index new.items i))
              (sym (source_at now.items _ i
              ∙ ap (source_of (item_at now.items i)) (source_at old.items (listed x.sources n) i)))
              (at (item_at now.items i) refl)
            where
              go : (y : Value) → item_at now.items i ≡ y → is_known y ≡ false
                  → (Gives cells (source_of (item_at old.items i) (old_source i))
                  (slice_index new.items i) → Gives cells (source_of y
                  (source_of (item_at old.items i) (old_source i))) (slice_index new.items i))
                  → Gives cells (source_of (item_at now.items i)
                  (source_of (item_at old.items i) (old_source i))) (slice_index new.items i)
              go y is u up =
                  let unknown : is_known (item_at now.items i) ≡ false = ap is_known is ∙ u in
                  subst (λ z. Gives cells (source_of z
                  (source_of (item_at old.items i) (old_source i))) (slice_index new.items i))
                  (sym is) (up (unwritten i unknown (apart_filter
                  (λ i. not (is_known (item_at (variable_at (write_variable n a).frame n).items i)))
                  i (written_places n a) (written_is i unknown) apart)))

              at : (y : Value) → item_at now.items i ≡ y
                  → Gives cells (source_of (item_at now.items i)
                  (source_of (item_at old.items i) (old_source i))) (slice_index new.items i)
              at (Known j) is =
                  subst (λ y. Gives cells (source_of y
                  (source_of (item_at old.items i) (old_source i))) (slice_index new.items i))
                  (sym is) (subst (λ y. Means Nowhere y (slice_index new.items i)) is
                  (rows_at Nowhere now.items new.items i same.1))
              at (Linear l) is = go (Linear l) is refl (λ g. g)
              at (Quadratic l m o) is = go (Quadratic l m o) is refl (λ g. g)
              at Opaque is = go Opaque is refl (λ g. g)

          none : (i : ℕ) → slice_get (settled_sources s (with_state r.known x) n) i ≡ None
              → 0 ≡ slice_index new.items i
          none i e =
              let past : slice_get now.items i ≡ None = sources_none now.items _ i e in
              subst (λ y. Means Nowhere y (slice_index new.items i))
              (ap (λ o. unwrap_or o (Known 0)) past)
              (rows_at Nowhere now.items new.items i same.1)
