-- Costs of which one has again what the other has.
use Rattle.std.proofs.Common.{◌≡◌, ◌∙◌, ◌+◌, ◌||◌, Bool, true, false, cond, List, [], ◌∷◌, ◌++◌}
use Rattle.std.proofs.Common.{map, length, ap, sym, refl, subst, ◌⊎◌, inl, inr, append_assoc}
use Rattle.std.specs.Prelude.{filter, ◌==◌, is_none, not}
use Rattle.std.specs.List.{list_any}
use Rattle.cir_ast.specs.Program.{Program}
use Rattle.cir_meaning.specs.Texts.{list_of, all_wanted, all_variables, literal_number}
use Rattle.cir_meaning.specs.Costs.{Cell, Cost, Made, both}
use Rattle.cir_meaning.specs.Steps.{distinct}
use Rattle.cir_meaning.specs.Reached.{new_ones, reached, rounds, all_reached, same_call}
use Rattle.cir_meaning.specs.Reached.{ranked_calls, returns_array, has_run_array, functions_reached}
use Rattle.cir_meaning.specs.Reached.{has_run_dimension, has_misplaced, is_misplaced, body_of}
use Rattle.cir_meaning.specs.Functions.{same_made, shaped_calls, made_reached, call_dims, body_fits}
use Rattle.cir_meaning.specs.Functions.{has_misfit, elements_of, first_too_large, function_fault}
use Rattle.cir_meaning.specs.Functions.{function_elements}
use Rattle.cir_assign.proofs.Repeats.{Alike, fault_by, reads_again, or_true, eq_self, call_self}
use Rattle.cir_assign.proofs.Repeats.{made_self}
use Rattle.cir_assign.proofs.Repeats as R
use Rattle.cir_execute.specs.Again.{Again, In, Repeats}

pub again_self : {A : Type 0} (known xs : List A) → Again known xs xs
again_self known [] = refl
again_self known (x ∷ xs) = inr (xs, refl, again_self (x ∷ known) xs)

more_known : {A : Type 0} (y : A) (known others : List A) → ((z : A) → In z known → In z others)
    → (z : A) → In z (y ∷ known) → In z (y ∷ others)
more_known y known others sub z (inl e) = inl e
more_known y known others sub z (inr i) = inr (sub z i)

again_more : {A : Type 0} (known others xs ys : List A)
    → ((z : A) → In z known → In z others) → Again known xs ys → Again others xs ys
again_more known others xs [] sub h = h
again_more known others xs (y ∷ ys) sub (inl h) =
    inl (sub y h.0, again_more known others xs ys sub h.1)
again_more known others xs (y ∷ ys) sub (inr h) =
    inr (h.0, h.1, again_more (y ∷ known) (y ∷ others) h.0 ys (more_known y known others sub) h.2)

pub again_both : {A : Type 0} (known xs ys zs ws : List A) → Again known xs ys
    → Again [] zs ws → Again known (xs ++ zs) (ys ++ ws)
again_both {A} known xs [] zs ws h k =
    let P : List A → Type 0 = λ list. Again known (list ++ zs) ws in
    subst P (sym h) (again_more [] known zs ws (λ z i. absurd i) k)
again_both known xs (y ∷ ys) zs ws (inl h) k =
    inl (h.0, again_both known xs ys zs ws h.1 k)
again_both known xs (y ∷ ys) zs ws (inr h) k =
    inr (h.0 ++ zs, ap (λ list. list ++ zs) h.1, again_both (y ∷ known) h.0 ys zs ws h.2 k)

-- what is in the first may come again behind it
abbrev AllIn : {A : Type 0} → List A → List A → Type 0
AllIn {A} ys xs = (z : A) → In z ys → In z xs

again_known : {A : Type 0} (known ys : List A) → AllIn ys known → Again known [] ys
again_known known [] h = refl
again_known known (y ∷ ys) h = inl (h y (inl refl), again_known known ys (λ z i. h z (inr i)))

again_tail : {A : Type 0} (known xs ys : List A)
    → ((z : A) → In z ys → In z xs ⊎ In z known) → Again known xs (xs ++ ys)
again_tail known [] ys h =
    again_known known ys (λ z i. elim (h z i) [ inl n ↦ absurd n | inr j ↦ j ])
again_tail known (x ∷ xs) ys h =
    inr (
      xs,
      refl,
      again_tail (x ∷ known) xs ys (λ z i. elim (h z i) [
        | inl j ↦ elim j [ inl e ↦ inr (inl e) | inr l ↦ inl l ]
        | inr l ↦ inr (inr l)
      ]),
    )

pub again_behind : {A : Type 0} (xs ys : List A) → ((z : A) → In z ys → In z xs)
    → Again [] xs (xs ++ ys)
again_behind xs ys h = again_tail [] xs ys (λ z i. inl (h z i))

-- ---- the cells that are read
pub front : {A : Type 0} (y : A) (xs zs : List A) → In y xs → In y (xs ++ zs)
front y [] zs h = absurd h
front y (x ∷ xs) zs (inl h) = inl h
front y (x ∷ xs) zs (inr h) = inr (front y xs zs h)

back : {A : Type 0} (y : A) (xs : List A) → In y (xs ++ y ∷ [])
back y [] = inl refl
back y (x ∷ xs) = inr (back y xs)

other_in : {A : Type 0} (y : A) (xs : List A) → In y xs → R.In y xs
other_in y [] h = absurd h
other_in y (x ∷ xs) (inl h) = inl h
other_in y (x ∷ xs) (inr h) = inr (other_in y xs h)

behind_known : {A : Type 0} (y : A) (known pre : List A) → AllIn known pre
    → AllIn (y ∷ known) (pre ++ y ∷ [])
behind_known {A} y known pre sub z (inl e) =
    let P : A → Type 0 = λ a. In a (pre ++ y ∷ []) in subst P (sym e) (back y pre)
behind_known y known pre sub z (inr i) = front z pre (y ∷ []) (sub z i)

pub again_distinct : (pre known xs ys : List Cell) → AllIn known pre → Again known xs ys
    → distinct (pre ++ ys) ≡ distinct (pre ++ xs)
again_distinct pre known xs [] sub h = ap (λ l. distinct (pre ++ l)) (sym h)
again_distinct pre known xs (y ∷ ys) sub (inl h) =
    sym (ap distinct (append_assoc pre (y ∷ []) ys))
    ∙ reads_again pre (y ∷ []) ys (other_in y pre (sub y h.0), tt)
    ∙ again_distinct pre known xs ys sub h.1
again_distinct pre known xs (y ∷ ys) sub (inr h) =
    sym (ap distinct (append_assoc pre (y ∷ []) ys))
    ∙ again_distinct (pre ++ y ∷ []) (y ∷ known) h.0 ys (behind_known y known pre sub) h.2
    ∙ ap distinct (append_assoc pre (y ∷ []) h.0)
    ∙ ap (λ l. distinct (pre ++ l)) (sym h.1)

in_filter : {A : Type 0} (p : A → Bool) (y : A) (xs : List A) → p y ≡ true → In y xs
    → In y (filter p xs)
in_filter p y [] t h = absurd h
in_filter p y (x ∷ xs) t h = at (p x) refl h (λ j. in_filter p y xs t j)
  where
    at : (b : Bool) → p x ≡ b → In y (x ∷ xs) → (In y xs → In y (filter p xs))
        → In y (cond b (x ∷ filter p xs) (filter p xs))
    at true q (inl e) go = inl e
    at true q (inr j) go = inr (go j)
    at false q (inl e) go = absurd (cc (ap p e))
    at false q (inr j) go = go j

pub again_filter : {A : Type 0} (p : A → Bool) (known xs ys : List A) → Again known xs ys
    → Again (filter p known) (filter p xs) (filter p ys)
again_filter p known xs [] h = ap (filter p) h
again_filter p known xs (y ∷ ys) (inl h) = at (p y) refl (again_filter p known xs ys h.1)
  where
    at : (b : Bool) → p y ≡ b → Again (filter p known) (filter p xs) (filter p ys)
        → Again (filter p known) (filter p xs) (cond b (y ∷ filter p ys) (filter p ys))
    at true q r = inl (in_filter p y known q h.0, r)
    at false q r = r
again_filter {A} p known xs (y ∷ ys) (inr h) =
    let P : List A → Type 0 = λ l. Again (filter p known) (filter p l) (filter p (y ∷ ys)) in
    subst P (sym h.1) (at (p y) (again_filter p (y ∷ known) h.0 ys h.2))
  where
    at : (b : Bool)
        → Again (cond b (y ∷ filter p known) (filter p known)) (filter p h.0) (filter p ys)
        → Again (filter p known) (cond b (y ∷ filter p h.0) (filter p h.0))
        (cond b (y ∷ filter p ys) (filter p ys))
    at true r = inr (filter p h.0, refl, r)
    at false r = r

-- ---- the functions that are called
in_map : {A B : Type 0} (f : A → B) (y : A) (xs : List A) → In y xs → In (f y) (map f xs)
in_map f y [] h = absurd h
in_map f y (x ∷ xs) (inl h) = inl (ap f h)
in_map f y (x ∷ xs) (inr h) = inr (in_map f y xs h)

again_map : {A B : Type 0} (f : A → B) (known xs ys : List A) → Again known xs ys
    → Again (map f known) (map f xs) (map f ys)
again_map f known xs [] h = ap (map f) h
again_map f known xs (y ∷ ys) (inl h) =
    inl (in_map f y known h.0, again_map f known xs ys h.1)
again_map f known xs (y ∷ ys) (inr h) =
    inr (map f h.0, ap (map f) h.1, again_map f (y ∷ known) h.0 ys h.2)

module _ {A : Type 0} (same : A → A → Bool) (itself : (a : A) → same a a ≡ true) where
  abbrev Known : List A → List A → Type 0
  Known known seen = (z : A) → In z known → list_any (same z) seen ≡ true

  known_seen : (y : A) (known seen : List A) → list_any (same y) seen ≡ true
      → Known known seen → Known (y ∷ known) seen
  known_seen y known seen q held z (inl e) = ap (λ a. list_any (same a) seen) e ∙ q
  known_seen y known seen q held z (inr i) = held z i

  known_fresh : (y : A) (known seen : List A) → Known known seen → Known (y ∷ known) (y ∷ seen)
  known_fresh y known seen held z (inl e) =
      ap (λ a. same a y || list_any (same a) seen) e
      ∙ ap (λ b. b || list_any (same y) seen) (itself y)
  known_fresh y known seen held z (inr i) =
      ap (λ b. same z y || b) (held z i) ∙ or_true (same z y)

  again_new : (known seen xs ys : List A) → Known known seen → Again known xs ys
      → new_ones same seen ys ≡ new_ones same seen xs
  again_new known seen xs [] held h = ap (new_ones same seen) (sym h)
  again_new known seen xs (y ∷ ys) held (inl h) =
      ap (λ b. cond b (new_ones same seen ys) (y ∷ new_ones same (y ∷ seen) ys)) (held y h.0)
      ∙ again_new known seen xs ys held h.1
  again_new known seen xs (y ∷ ys) held (inr h) =
      at (list_any (same y) seen) refl (λ k. again_new (y ∷ known) seen h.0 ys k h.2)
      (again_new (y ∷ known) (y ∷ seen) h.0 ys (known_fresh y known seen held) h.2)
      ∙ ap (new_ones same seen) (sym h.1)
    where
      at : (b : Bool) → list_any (same y) seen ≡ b
          → (Known (y ∷ known) seen → new_ones same seen ys ≡ new_ones same seen h.0)
          → new_ones same (y ∷ seen) ys ≡ new_ones same (y ∷ seen) h.0
          → cond b (new_ones same seen ys) (y ∷ new_ones same (y ∷ seen) ys)
          ≡ cond b (new_ones same seen h.0) (y ∷ new_ones same (y ∷ seen) h.0)
      at true q old fresh = old (known_seen y known seen q held)
      at false q old fresh = ap (λ l. y ∷ l) fresh

  again_reached : (calls : A → List A) (xs ys : List A) → Again [] xs ys
      → all_reached same calls ys ≡ all_reached same calls xs
  again_reached calls xs ys h =
      ap (λ l. reached rounds same calls l l) (again_new [] [] xs ys (λ z i. absurd i) h)

module _ (p : Program) (xs ys : List Made) (h : Again [] xs ys) where
  made_again : made_reached p ys ≡ made_reached p xs
  made_again = again_reached same_made made_self (shaped_calls p) xs ys h

  functions_again : functions_reached p ys ≡ functions_reached p xs
  functions_again =
      again_reached ◌==◌ eq_self _ (map (λ m. m.function) xs) (map (λ m. m.function) ys)
      (again_map (λ m. m.function) [] xs ys h)

  array_again : has_run_array p ys ≡ has_run_array p xs
  array_again =
      ap (list_any (returns_array p)) (again_reached same_call call_self (ranked_calls p) _ _
      (again_map (λ m. record { function = m.function; ranks = map length m.shapes }) [] xs ys h))

  dimension_again : has_run_dimension p ys ≡ has_run_dimension p xs
  dimension_again =
      ap (list_any (λ f. list_any (λ v. list_any (λ e. is_none (literal_number e))
      (list_of v.dimensions)) (all_variables (body_of p f)))) functions_again

  misplaced_again : has_misplaced p ys ≡ has_misplaced p xs
  misplaced_again =
      ap (list_any (λ f. list_any (λ x. is_misplaced x.want x.expr) (all_wanted (body_of p f))))
      functions_again

  misfit_again : has_misfit p ys ≡ has_misfit p xs
  misfit_again =
      ap (list_any (λ m. not (body_fits (call_dims p m) (body_of p m.function)))) made_again

  pub calls_fault : function_fault p ys ≡ function_fault p xs
  calls_fault =
      ap (λ b. fault_by b (has_run_dimension p ys) (has_misplaced p ys) (has_misfit p ys))
      array_again
      ∙ ap (λ b. fault_by (has_run_array p xs) b (has_misplaced p ys) (has_misfit p ys))
      dimension_again
      ∙ ap (λ b. fault_by (has_run_array p xs) (has_run_dimension p xs) b (has_misfit p ys))
      misplaced_again
      ∙ ap (λ b. fault_by (has_run_array p xs) (has_run_dimension p xs) (has_misplaced p xs) b)
      misfit_again

  pub calls_elements : function_elements p ys ≡ function_elements p xs
  calls_elements = ap (λ l. first_too_large (map (elements_of p) l)) made_again

-- ---- costs
pub repeats_self : (c : Cost) → Repeats c c
repeats_self c =
    record { nodes = refl; reads = again_self [] c.reads; calls = again_self [] c.calls }

pub repeats_both : (a b c d : Cost) → Repeats a b → Repeats c d → Repeats (both a c) (both b d)
repeats_both a b c d h k = record {
  nodes = ap (λ n. n + c.nodes) h.nodes ∙ ap (λ n. b.nodes + n) k.nodes;
  reads = again_both [] a.reads b.reads c.reads d.reads h.reads k.reads;
  calls = again_both [] a.calls b.calls c.calls d.calls h.calls k.calls;
}

-- a step that reads more before it, and of this what passes a test
pub enclosed_alike : (p : Program) (first : List Cell) (test : Cell → Bool) (c d : Cost)
    → Repeats c d → Alike p (record c { reads = first ++ filter test c.reads })
    (record d { reads = first ++ filter test d.reads })
enclosed_alike p first test c d h = record {
  nodes = h.nodes;
  reads = sym (again_distinct first [] (filter test c.reads) (filter test d.reads)
      (λ z i. absurd i) (again_filter test [] c.reads d.reads h.reads));
  fault = sym (calls_fault p c.calls d.calls h.calls);
  elements = sym (calls_elements p c.calls d.calls h.calls);
}
