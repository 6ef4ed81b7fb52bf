-- What is read or called once more changes no cost.
use Rattle.std.proofs.Common.{◌≡◌, ℕ, ◌+◌, ◌==◌, ◌||◌, ◌&&◌, Bool, true}
use Rattle.std.proofs.Common.{false, cond, List, [], ◌∷◌, ◌++◌, Option, Some, None, Ok}
use Rattle.std.proofs.Common.{map, length, arith, refl, ap, sym, ◌∙◌, ◌⊎◌, inl, inr}
use Rattle.std.proofs.Common.{append_assoc}
use Rattle.std.specs.Prelude.{if◌then◌else◌, bytes_eq, is_none, not}
use Rattle.std.specs.List.{list_any}
use Rattle.std.proofs.lemmas.List.{map-append}
use Rattle.std.proofs.lemmas.Slice.Eq.{bytes_eq-Decides}
use Rattle.cir_ast.specs.declared.refusal.Kind.{Kind}
use Rattle.cir_ast.specs.Program.{Program}
use Rattle.cir_ast.specs.declared.refusal.Kind.TheVariants.{NotInProfile, ShapeDiffers}
use Rattle.cir_ast.specs.declared.refusal.Form.TheVariants.{RunArray, RunDimension, LiteralPlace}
use Rattle.cir_meaning.specs.Tried.{Where, Tried}
use Rattle.cir_meaning.specs.Limits.{count_sum, standing}
use Rattle.cir_meaning.specs.Texts.{list_of, all_wanted, all_variables, literal_number}
use Rattle.cir_meaning.specs.Frame.{State, Context, adding}
use Rattle.cir_meaning.specs.Costs.{Cell, Element, Wire, Cost, Made}
use Rattle.cir_meaning.specs.Reached.{RankedCall, same_call, new_ones, reached, rounds, all_reached}
use Rattle.cir_meaning.specs.Reached.{body_of, ranked_calls, returns_array, has_run_array}
use Rattle.cir_meaning.specs.Reached.{functions_reached, has_run_dimension, is_misplaced}
use Rattle.cir_meaning.specs.Reached.{has_misplaced}
use Rattle.cir_meaning.specs.Functions.{same_made, same_shapes, shaped_calls, made_reached}
use Rattle.cir_meaning.specs.Functions.{call_dims, body_fits, has_misfit, elements_of}
use Rattle.cir_meaning.specs.Functions.{first_too_large, function_fault, function_elements}
use Rattle.cir_meaning.specs.Steps.{same_cell, distinct, stepped, unless_faulty}

abbrev pub In : {A : Type 0} → A → List A → Type 0
In y [] = ⊥
In y (x ∷ xs) = (y ≡ x) ⊎ In y xs

-- each of the first list is in the second
abbrev pub Among : {A : Type 0} → List A → List A → Type 0
Among [] xs = Unit {0}
Among (y ∷ ys) xs = In y xs × Among ys xs

in_front : {A : Type 0} (y : A) (xs zs : List A) → In y xs → In y (xs ++ zs)
in_front y [] zs h = absurd h
in_front y (x ∷ xs) zs (inl h) = inl h
in_front y (x ∷ xs) zs (inr h) = inr (in_front y xs zs h)

in_back : {A : Type 0} (y : A) (xs zs : List A) → In y zs → In y (xs ++ zs)
in_back y [] zs h = h
in_back y (x ∷ xs) zs h = inr (in_back y xs zs h)

pub among_front : {A : Type 0} (ys xs zs : List A) → Among ys xs → Among ys (xs ++ zs)
among_front [] xs zs h = tt
among_front (y ∷ ys) xs zs h = (in_front y xs zs h.0, among_front ys xs zs h.1)

pub among_back : {A : Type 0} (ys xs zs : List A) → Among ys zs → Among ys (xs ++ zs)
among_back [] xs zs h = tt
among_back (y ∷ ys) xs zs h = (in_back y xs zs h.0, among_back ys xs zs h.1)

pub among_both : {A : Type 0} (ys zs xs : List A) → Among ys xs → Among zs xs
    → Among (ys ++ zs) xs
among_both [] zs xs g h = h
among_both (y ∷ ys) zs xs g h = (g.0, among_both ys zs xs g.1 h)

among_more : {A : Type 0} (y : A) (ys xs : List A) → Among ys xs → Among ys (y ∷ xs)
among_more y [] xs h = tt
among_more y (z ∷ ys) xs h = (inr h.0, among_more y ys xs h.1)

pub among_self : {A : Type 0} (ys : List A) → Among ys ys
among_self [] = tt
among_self (y ∷ ys) = (inl refl, among_more y ys ys (among_self ys))

in_map : {A B : Type 0} (f : A → B) (y : A) (xs : List A) → In y xs → In (f y) (map f xs)
in_map f y [] h = absurd h
in_map f y (x ∷ xs) (inl h) = inl (ap f h)
in_map f y (x ∷ xs) (inr h) = inr (in_map f y xs h)

among_map : {A B : Type 0} (f : A → B) (ys xs : List A) → Among ys xs
    → Among (map f ys) (map f xs)
among_map f [] xs h = tt
among_map f (y ∷ ys) xs h = (in_map f y xs h.0, among_map f ys xs h.1)

pub or_true : (b : Bool) → (b || true) ≡ true
or_true true = refl
or_true false = refl

or_assoc : (a b c : Bool) → ((a || b) || c) ≡ (a || (b || c))
or_assoc true b c = refl
or_assoc false b c = refl

-- cells
pub eq_self : (n : ℕ) → (n == n) ≡ true
eq_self n = grind arith

cell_self : (c : Cell) → same_cell c c ≡ true
cell_self (Element n k) = rw (eq_self n, eq_self k) refl
cell_self (Wire k) = eq_self k

eq_true : (m n : ℕ) → (m == n) ≡ true → m ≡ n
eq_true m n h = grind arith

and_first : (a b : Bool) → (a && b) ≡ true → a ≡ true
and_first true b h = refl
and_first false b h = absurd (cc)

and_second : (a b : Bool) → (a && b) ≡ true → b ≡ true
and_second true b h = h
and_second false b h = absurd (cc)

cell_is : (c d : Cell) → same_cell c d ≡ true → c ≡ d
cell_is (Element n k) (Element m j) h =
    ap (λ (x : ℕ). Element x k) (eq_true n m (and_first _ _ h))
    ∙ ap (λ (x : ℕ). Element m x) (eq_true k j (and_second _ _ h))
cell_is (Element n k) (Wire j) h = absurd (cc)
cell_is (Wire k) (Element m j) h = absurd (cc)
cell_is (Wire k) (Wire j) h = ap (λ (x : ℕ). Wire x) (eq_true k j h)

any_append : {A : Type 0} (p : A → Bool) (xs zs : List A)
    → list_any p (xs ++ zs) ≡ (list_any p xs || list_any p zs)
any_append p [] zs = refl
any_append p (x ∷ xs) zs =
    ap (λ (b : Bool). p x || b) (any_append p xs zs)
    ∙ sym (or_assoc (p x) (list_any p xs) (list_any p zs))

any_in : {A : Type 0} (p : A → Bool) (y : A) (xs : List A) → p y ≡ true → In y xs
    → list_any p xs ≡ true
any_in p y [] t h = absurd h
any_in p y (x ∷ xs) t (inl h) =
    ap (λ (b : Bool). b || list_any p xs) (ap p (sym h) ∙ t)
any_in p y (x ∷ xs) t (inr h) =
    ap (λ (b : Bool). p x || b) (any_in p y xs t h) ∙ or_true (p x)

any_middle : {A : Type 0} (p : A → Bool) (y : A) (xs zs : List A) → p y ≡ false
    → list_any p (xs ++ y ∷ zs) ≡ list_any p (xs ++ zs)
any_middle p y [] zs t = ap (λ (b : Bool). b || list_any p zs) t
any_middle p y (x ∷ xs) zs t = ap (λ (b : Bool). p x || b) (any_middle p y xs zs t)

conds : (a b : Bool) (n : ℕ) → cond a (cond b n (1 + n)) (1 + cond b n (1 + n))
    ≡ cond b (cond a n (1 + n)) (1 + cond a n (1 + n))
conds true true n = refl
conds true false n = refl
conds false true n = refl
conds false false n = refl

-- a cell may come first
moved : (y : Cell) (xs zs : List Cell) → distinct (xs ++ y ∷ zs) ≡ distinct (y ∷ (xs ++ zs))
moved y [] zs = refl
moved y (x ∷ xs) zs = at (same_cell x y) refl (same_cell y x) refl (moved y xs zs)
  where
    at : (b : Bool) → same_cell x y ≡ b → (c : Bool) → same_cell y x ≡ c
        → distinct (xs ++ y ∷ zs) ≡ distinct (y ∷ (xs ++ zs))
        → distinct (x ∷ (xs ++ y ∷ zs)) ≡ distinct (y ∷ (x ∷ (xs ++ zs)))
    at true p c q rest =
        let one : x ≡ y = cell_is x y p in
        let there : list_any (same_cell x) (xs ++ y ∷ zs) ≡ true =
        any_in (same_cell x) y (xs ++ y ∷ zs) p (in_back y xs (y ∷ zs) (inl refl)) in
        let back : same_cell y x ≡ true = ap (λ (z : Cell). same_cell y z) one ∙ cell_self y in
        ap (λ (b : Bool). cond b (distinct (xs ++ y ∷ zs)) (1 + distinct (xs ++ y ∷ zs))) there
        ∙ rest ∙ ap (λ (z : Cell). distinct (z ∷ (xs ++ zs))) (sym one)
        ∙ sym (ap (λ (b : Bool). cond (b || list_any (same_cell y) (xs ++ zs))
        (distinct (x ∷ (xs ++ zs))) (1 + distinct (x ∷ (xs ++ zs)))) back)
    at false p true q rest =
        let one : y ≡ x = cell_is y x q in
        absurd (cc (ap (λ (z : Cell). same_cell z y) (sym one), cell_self y))
    at false p false q rest =
        let any_x : list_any (same_cell x) (xs ++ y ∷ zs) ≡ list_any (same_cell x) (xs ++ zs) =
        any_middle (same_cell x) y xs zs p in
        ap (λ (b : Bool). cond b (distinct (xs ++ y ∷ zs)) (1 + distinct (xs ++ y ∷ zs))) any_x
        ∙ ap (λ (n : ℕ). cond (list_any (same_cell x) (xs ++ zs)) n (1 + n)) rest
        ∙ conds (list_any (same_cell x) (xs ++ zs)) (list_any (same_cell y) (xs ++ zs))
        (distinct (xs ++ zs))
        ∙ sym (ap (λ (b : Bool). cond (b || list_any (same_cell y) (xs ++ zs))
        (distinct (x ∷ (xs ++ zs))) (1 + distinct (x ∷ (xs ++ zs)))) q)

read_again : (y : Cell) (xs zs : List Cell) → In y xs
    → distinct (xs ++ y ∷ zs) ≡ distinct (xs ++ zs)
read_again y xs zs h =
    moved y xs zs
    ∙ ap (λ (b : Bool). cond b (distinct (xs ++ zs)) (1 + distinct (xs ++ zs)))
    (any_in (same_cell y) y (xs ++ zs) (cell_self y) (in_front y xs zs h))

pub reads_again : (xs ys zs : List Cell) → Among ys xs
    → distinct ((xs ++ ys) ++ zs) ≡ distinct (xs ++ zs)
reads_again xs ys zs h = ap distinct (append_assoc xs ys zs) ∙ again ys h
  where
    again : (ys : List Cell) → Among ys xs → distinct (xs ++ (ys ++ zs)) ≡ distinct (xs ++ zs)
    again [] h = refl
    again (y ∷ ys) h = read_again y xs (ys ++ zs) h.0 ∙ again ys h.1

-- calls
module _ {A : Type 0} (same : A → A → Bool) (itself : (a : A) → same a a ≡ true) where
  abbrev Held : List A → List A → A → Type 0
  Held known xs y = In y xs ⊎ (list_any (same y) known ≡ true)

  abbrev AllHeld : List A → List A → List A → Type 0
  AllHeld known xs [] = Unit {0}
  AllHeld known xs (y ∷ ys) = Held known xs y × AllHeld known xs ys

  all_held : (xs ys : List A) → Among ys xs → AllHeld [] xs ys
  all_held xs [] h = tt
  all_held xs (y ∷ ys) h = (inl h.0, all_held xs ys h.1)

  none_new : (known ys : List A) → AllHeld known [] ys → new_ones same known ys ≡ []
  none_new known [] h = refl
  none_new known (y ∷ ys) h =
      let there : list_any (same y) known ≡ true =
      elim h.0 [ inl n ↦ absurd n | inr t ↦ t ] in
      ap (λ (b : Bool). cond b (new_ones same known ys) (y ∷ new_ones same (y ∷ known) ys))
      there
      ∙ none_new known ys h.1

  held_old : (known : List A) (x : A) (xs ys : List A) → list_any (same x) known ≡ true
      → AllHeld known (x ∷ xs) ys → AllHeld known xs ys
  held_old known x xs [] t h = tt
  held_old known x xs (y ∷ ys) t h = (
    elim h.0 [
      | inl i ↦ elim i [
        | inl e ↦ inr (ap (λ (z : A). list_any (same z) known) e ∙ t)
        | inr j ↦ inl j
      ]
      | inr k ↦ inr k
    ],
    held_old known x xs ys t h.1,
  )

  held_new : (known : List A) (x : A) (xs ys : List A) → AllHeld known (x ∷ xs) ys
      → AllHeld (x ∷ known) xs ys
  held_new known x xs [] h = tt
  held_new known x xs (y ∷ ys) h = (
    elim h.0 [
      | inl i ↦ elim i [
        | inl e ↦ inr (ap (λ (z : A). same y z || list_any (same y) known) (sym e)
            ∙ ap (λ (b : Bool). b || list_any (same y) known) (itself y))
        | inr j ↦ inl j
      ]
      | inr k ↦ inr (ap (λ (b : Bool). same y x || b) k ∙ or_true (same y x))
    ],
    held_new known x xs ys h.1,
  )

  new_again : (known xs ys : List A) → AllHeld known xs ys
      → new_ones same known (xs ++ ys) ≡ new_ones same known xs
  new_again known [] ys h = none_new known ys h
  new_again known (x ∷ xs) ys h = at (list_any (same x) known) refl
      (λ t. new_again known xs ys (held_old known x xs ys t h))
      (new_again (x ∷ known) xs ys (held_new known x xs ys h))
    where
      at : (b : Bool) → list_any (same x) known ≡ b
          → ((t : list_any (same x) known ≡ true)
          → new_ones same known (xs ++ ys) ≡ new_ones same known xs)
          → new_ones same (x ∷ known) (xs ++ ys) ≡ new_ones same (x ∷ known) xs
          → new_ones same known (x ∷ (xs ++ ys)) ≡ new_ones same known (x ∷ xs)
      at true t old new =
          ap (λ (b : Bool). cond b (new_ones same known (xs ++ ys))
          (x ∷ new_ones same (x ∷ known) (xs ++ ys))) t
          ∙ old t
          ∙ sym (ap (λ (b : Bool). cond b (new_ones same known xs)
          (x ∷ new_ones same (x ∷ known) xs)) t)
      at false t old new =
          ap (λ (b : Bool). cond b (new_ones same known (xs ++ ys))
          (x ∷ new_ones same (x ∷ known) (xs ++ ys))) t
          ∙ ap (λ (zs : List A). x ∷ zs) new
          ∙ sym (ap (λ (b : Bool). cond b (new_ones same known xs)
          (x ∷ new_ones same (x ∷ known) xs)) t)

  pub first_again : (xs ys : List A) → Among ys xs
      → new_ones same [] (xs ++ ys) ≡ new_ones same [] xs
  first_again xs ys h = new_again [] xs ys (all_held xs ys h)

bytes_self : (xs : List ℕ) → bytes_eq xs xs ≡ true
bytes_self xs = grind (arith, bytes_eq-Decides)

pub call_self : (c : RankedCall) → same_call c c ≡ true
call_self c = rw (eq_self c.function, bytes_self c.ranks) refl

shapes_self : (ds : List (List ℕ)) → same_shapes ds ds ≡ true
shapes_self [] = refl
shapes_self (d ∷ ds) =
    ap (λ (b : Bool). b && same_shapes ds ds) (bytes_self d) ∙ shapes_self ds

pub made_self : (m : Made) → same_made m m ≡ true
made_self m = rw (eq_self m.function, shapes_self m.shapes) refl

reached_again : {A : Type 0} (same : A → A → Bool) → ((a : A) → same a a ≡ true)
    → (calls : A → List A) (f : Made → A) (xs ys : List Made) → Among ys xs
    → all_reached same calls (map f (xs ++ ys)) ≡ all_reached same calls (map f xs)
reached_again {A} same itself calls f xs ys h =
    ap (λ (l : List A). all_reached same calls l) (map-append f xs ys)
    ∙ ap (λ (l : List A). reached rounds same calls l l)
    (first_again same itself (map f xs) (map f ys) (among_map f ys xs h))

abbrev pub fault_by : (a b c d : Bool) → Option Kind
fault_by a b c d =
    if a then Some (NotInProfile RunArray)
    else (if b then Some (NotInProfile RunDimension)
    else (if c then Some (NotInProfile LiteralPlace)
    else (if d then Some ShapeDiffers else None)))

made_same : (xs : List Made) → map (λ m. m) xs ≡ xs
made_same [] = refl
made_same (x ∷ xs) = ap (λ (l : List Made). x ∷ l) (made_same xs)

made_again : (p : Program) (xs ys : List Made) → Among ys xs
    → made_reached p (xs ++ ys) ≡ made_reached p xs
made_again p xs ys h =
    ap (λ (l : List Made). reached rounds same_made (shaped_calls p) l l)
    (first_again same_made made_self xs ys h)

functions_again : (p : Program) (xs ys : List Made) → Among ys xs
    → functions_reached p (xs ++ ys) ≡ functions_reached p xs
functions_again p xs ys h = reached_again ◌==◌ eq_self _ (λ m. m.function) xs ys h

pub fault_again : (p : Program) (xs ys : List Made) → Among ys xs
    → function_fault p (xs ++ ys) ≡ function_fault p xs
fault_again p xs ys h =
    let array : has_run_array p (xs ++ ys) ≡ has_run_array p xs =
    ap (list_any (returns_array p)) (reached_again same_call call_self (ranked_calls p)
    (λ m. record { function = m.function; ranks = map length m.shapes }) xs ys h) in
    let dimension : has_run_dimension p (xs ++ ys) ≡ has_run_dimension p xs =
    ap (list_any (λ f. list_any (λ v. list_any (λ e. is_none (literal_number e))
    (list_of v.dimensions)) (all_variables (body_of p f)))) (functions_again p xs ys h) in
    let misplaced : has_misplaced p (xs ++ ys) ≡ has_misplaced p xs =
    ap (list_any (λ f. list_any (λ x. is_misplaced x.want x.expr) (all_wanted (body_of p f))))
    (functions_again p xs ys h) in
    let misfit : has_misfit p (xs ++ ys) ≡ has_misfit p xs =
    ap (list_any (λ m. not (body_fits (call_dims p m) (body_of p m.function))))
    (made_again p xs ys h) in
    ap (λ (b : Bool). fault_by b (has_run_dimension p (xs ++ ys)) (has_misplaced p (xs ++ ys))
    (has_misfit p (xs ++ ys))) array
    ∙ ap (λ (b : Bool). fault_by (has_run_array p xs) b (has_misplaced p (xs ++ ys))
    (has_misfit p (xs ++ ys))) dimension
    ∙ ap (λ (b : Bool). fault_by (has_run_array p xs) (has_run_dimension p xs) b
    (has_misfit p (xs ++ ys))) misplaced
    ∙ ap (λ (b : Bool). fault_by (has_run_array p xs) (has_run_dimension p xs)
    (has_misplaced p xs) b) misfit

pub elements_again : (p : Program) (xs ys : List Made) → Among ys xs
    → function_elements p (xs ++ ys) ≡ function_elements p xs
elements_again p xs ys h =
    ap (λ (l : List Made). first_too_large (map (elements_of p) l)) (made_again p xs ys h)

-- costs of which no step tells the difference
pub record Alike (p : Program) (c d : Cost) : Type 0 where
  pub nodes : c.nodes ≡ d.nodes
  pub reads : distinct c.reads ≡ distinct d.reads
  pub fault : function_fault p c.calls ≡ function_fault p d.calls
  pub elements : function_elements p c.calls ≡ function_elements p d.calls

abbrev step_by : Where → (cells : ℕ) → State → Option Kind → (nodes reads too_many : ℕ)
    → Tried State
step_by w cells s fault nodes reads too_many =
    unless_faulty w fault (Ok (adding (λ c. record c {
      cells = count_sum c.cells cells;
      steps = count_sum c.steps 1;
      nodes = count_sum c.nodes nodes;
      reads = count_sum c.reads reads;
      elements = if c.elements == 0 then standing too_many else c.elements;
    }) s))

pub stepped_alike : (k : Context) (w : Where) (c d : Cost) (cells : ℕ) (s : State)
    → Alike k.program c d → stepped k w c cells s ≡ stepped k w d cells s
stepped_alike k w c d cells s h =
    ap (λ (o : Option Kind). step_by w cells s o c.nodes (distinct c.reads)
    (function_elements k.program c.calls)) h.fault
    ∙ ap (λ (n : ℕ). step_by w cells s (function_fault k.program d.calls) n (distinct c.reads)
    (function_elements k.program c.calls)) h.nodes
    ∙ ap (λ (n : ℕ). step_by w cells s (function_fault k.program d.calls) d.nodes n
    (function_elements k.program c.calls)) h.reads
    ∙ ap (λ (n : ℕ). step_by w cells s (function_fault k.program d.calls) d.nodes
    (distinct d.reads) n) h.elements
