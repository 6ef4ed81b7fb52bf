-- The circuit of a world that is made.
use Rattle.std.specs.Prelude.{All, sum_by, flat_map, ◌^◌}
use Rattle.std.proofs.Common.{◌≡◌, ℕ, zero, suc, ◌+◌, ◌*◌, ◌<◌, ◌≤◌, Bool, true, false, cond, List}
use Rattle.std.proofs.Common.{[], ◌∷◌, ◌++◌, map, length, refl, sym, ap, subst, ◌∙◌, arith}
use Rattle.std.proofs.Common.{length-append}
use Rattle.std.specs.List.{AllByRecursion}
use Rattle.std.proofs.lemmas.List.{length-map}
use Rattle.std.proofs.lemmas.List.Sums.{sum_by-cons, sum_by-append}
use Rattle.std.proofs.lemmas.List.Elements.{All-head, All-tail, All-nil, All-cons}
use Rattle.gold_field.specs.declared.form.Constraint.{Constraint}
use Rattle.gold_field.specs.declared.form.Term.{Term}
use Rattle.gold_field.specs.declared.gold.TheConstants.{P}
use Rattle.gold_field.specs.Form.{ConstraintBelow, SignalsBelow}
use Rattle.cir_lc.specs.Terms.{IsWithin}
use Rattle.cir_meaning.specs.Places.{elements, numbers_from}
use Rattle.cir_meaning.specs.Limits.{standing}
use Rattle.cir_meaning.specs.Frame.{Group, Outputs, PublicInputs, PrivateInputs, Others, Sizes, Row}
use Rattle.cir_meaning.specs.Frame.{World, size_in}
use Rattle.cir_meaning.specs.Source.{Equation, IsSource}
use Rattle.cir_meaning.specs.Dependence.{declared_in, IsDeclared, IsOver, IsAllDeclared, IsFew}
use Rattle.cir_meaning.specs.Compile.{group_size, is_of, rows_of, in_order, names_of_row}
use Rattle.cir_meaning.specs.Compile.{renumbered_equation}
use Rattle.cir_meaning.proofs.TermCount.{source_length, terms_are_of}
use Rattle.cir_meaning.proofs.Depending.{is_over_more}
use Rattle.cir_meaning.proofs.DependingWriting.{all_more}
use Rattle.cir_inst.specs.Renumbered.{IsRoomy, IsNumbered, renumbered_term, renumbered_constraint}
use Rattle.cir_inst.specs.Compiled.{IsFormed}
use Rattle.cir_inst.proofs.Renumbering.{D, count, source_of, all_numbered, source_within}

abbrev total : List Row → ℕ
total rows = sum_by (λ r. elements r.dims) rows

-- as many names as elements
numbers_count : (first n : ℕ) → length (numbers_from first n) ≡ n
numbers_count first zero = refl
numbers_count first (suc n) = ap (λ (k : ℕ). suc k) (numbers_count (first + 1) n)

row_count : (r : Row) → length (names_of_row r) ≡ elements r.dims
row_count r = length-map (numbers_from 0 (elements r.dims)) _ ∙ numbers_count 0 (elements r.dims)

names_count : (rows : List Row) → length (flat_map names_of_row rows) ≡ total rows
names_count [] = refl
names_count (r ∷ rows) =
    length-append (names_of_row r) (flat_map names_of_row rows)
    ∙ omega (
      arith,
      row_count r,
      names_count rows,
      sum_by-cons (λ (q : Row). elements q.dims) r rows,
    )

total_append : (xs ys : List Row) → total (xs ++ ys) ≡ total xs + total ys
total_append xs ys = sum_by-append (λ (q : Row). elements q.dims) xs ys

abbrev all_groups : List Row → ℕ
all_groups rows = declared_in rows Outputs + (declared_in rows PublicInputs
    + (declared_in rows PrivateInputs + declared_in rows Others))

order_count : (rows : List Row) → total (in_order rows) ≡ all_groups rows
order_count rows =
    total_append (rows_of Outputs rows) _
    ∙ omega (
      arith,
      total_append (rows_of PublicInputs rows) (rows_of PrivateInputs rows ++ rows_of Others rows),
      total_append (rows_of PrivateInputs rows) (rows_of Others rows),
    )

-- each row is of one group
one_more : (g : Group) (r : Row) (rows : List Row) (b : Bool) → is_of g r ≡ b
    → declared_in (r ∷ rows) g ≡ cond b (elements r.dims) 0 + declared_in rows g
one_more g r rows true e =
    ap (λ (b : Bool). total (cond b (r ∷ rows_of g rows) (rows_of g rows))) e
    ∙ sum_by-cons (λ (q : Row). elements q.dims) r (rows_of g rows)
one_more g r rows false e =
    ap (λ (b : Bool). total (cond b (r ∷ rows_of g rows) (rows_of g rows))) e
    ∙ omega arith

groups_are : (rows : List Row) → all_groups rows ≡ total rows
groups_are [] = refl
groups_are (r ∷ rows) =
    at r.group refl ∙ omega (arith, groups_are rows)
    ∙ sym (sum_by-cons (λ (q : Row). elements q.dims) r rows)
  where
    at : (g : Group) → r.group ≡ g
        → all_groups (r ∷ rows) ≡ elements r.dims + all_groups rows
    at Outputs e =
        let of : (h : Group) → is_of h r ≡ is_of h (record r { group = Outputs }) =
        (λ h. ap (λ (k : Group). is_of h (record r { group = k })) e) in
        omega (
          arith,
          one_more Outputs r rows true (of Outputs),
          one_more PublicInputs r rows false (of PublicInputs),
          one_more PrivateInputs r rows false (of PrivateInputs),
          one_more Others r rows false (of Others),
        )
    at PublicInputs e =
        let of : (h : Group) → is_of h r ≡ is_of h (record r { group = PublicInputs }) =
        (λ h. ap (λ (k : Group). is_of h (record r { group = k })) e) in
        omega (
          arith,
          one_more Outputs r rows false (of Outputs),
          one_more PublicInputs r rows true (of PublicInputs),
          one_more PrivateInputs r rows false (of PrivateInputs),
          one_more Others r rows false (of Others),
        )
    at PrivateInputs e =
        let of : (h : Group) → is_of h r ≡ is_of h (record r { group = PrivateInputs }) =
        (λ h. ap (λ (k : Group). is_of h (record r { group = k })) e) in
        omega (
          arith,
          one_more Outputs r rows false (of Outputs),
          one_more PublicInputs r rows false (of PublicInputs),
          one_more PrivateInputs r rows true (of PrivateInputs),
          one_more Others r rows false (of Others),
        )
    at Others e =
        let of : (h : Group) → is_of h r ≡ is_of h (record r { group = Others }) =
        (λ h. ap (λ (k : Group). is_of h (record r { group = k })) e) in
        omega (
          arith,
          one_more Outputs r rows false (of Outputs),
          one_more PublicInputs r rows false (of PublicInputs),
          one_more PrivateInputs r rows false (of PrivateInputs),
          one_more Others r rows true (of Others),
        )

exact : (size all : ℕ) → size ≡ standing all → all ≤ 1048575 → size ≡ all
exact size all e l = omega arith

one_group : 0 < group_size
unfolding group_size
one_group = omega arith

abbrev terms_in : Constraint → ℕ
terms_in k = length k.a + (length k.b + length k.c)

same_terms : (s : Sizes) (ks : List Constraint)
    → sum_by terms_in (map (renumbered_constraint s) ks) ≡ sum_by terms_in ks
same_terms s [] = refl
same_terms s (k ∷ ks) =
    sum_by-cons terms_in (renumbered_constraint s k) (map (renumbered_constraint s) ks)
    ∙ omega (
      arith,
      length-map k.a (renumbered_term s),
      length-map k.b (renumbered_term s),
      length-map k.c (renumbered_term s),
      same_terms s ks,
      sum_by-cons terms_in k ks,
    )

signals_below : (n : ℕ) (ts : List Term) → IsWithin n ts → SignalsBelow n ts
signals_below n [] w = All-nil (λ (t : Term). t.signal < n)
signals_below n (t ∷ ts) w =
    All-cons (λ (t : Term). t.signal < n) t ts
    (All-head (λ (t : Term). (t.signal < n) × (t.coef < P)) t ts w).0
    (signals_below n ts (All-tail (λ (t : Term). (t.signal < n) × (t.coef < P)) t ts w))

coefs_below : (n : ℕ) (ts : List Term) → IsWithin n ts → All (λ t. t.coef < P) ts
coefs_below n [] w = All-nil (λ (t : Term). t.coef < P)
coefs_below n (t ∷ ts) w =
    All-cons (λ (t : Term). t.coef < P) t ts
    (All-head (λ (t : Term). (t.signal < n) × (t.coef < P)) t ts w).1
    (coefs_below n ts (All-tail (λ (t : Term). (t.signal < n) × (t.coef < P)) t ts w))

source_below : (n : ℕ) (es : List Equation) (ks : List Constraint) → IsSource n es ks
    → All (ConstraintBelow n) ks
source_below n [] [] h = All-nil (ConstraintBelow n)
source_below n [] (k ∷ ks) h = absurd h
source_below n (e ∷ es) [] h = absurd h
source_below n (e ∷ es) (k ∷ ks) h =
    All-cons (ConstraintBelow n) k ks record {
      a = signals_below n k.a h.0.within_constraint.0;
      b = signals_below n k.b h.0.within_constraint.1;
      c = signals_below n k.c h.0.within_constraint.2;
    } (source_below n es ks h.1)

source_formed : (n : ℕ) (es : List Equation) (ks : List Constraint) → IsSource n es ks
    → All IsFormed ks
source_formed n [] [] h = All-nil IsFormed
source_formed n [] (k ∷ ks) h = absurd h
source_formed n (e ∷ es) [] h = absurd h
source_formed n (e ∷ es) (k ∷ ks) h =
    All-cons IsFormed k ks record {
      a = record { rises = h.0.rises_left; coefs = coefs_below n k.a h.0.within_constraint.0 };
      b = record { rises = h.0.rises_right; coefs = coefs_below n k.b h.0.within_constraint.1 };
      c = record { rises = h.0.rises_product; coefs = coefs_below n k.c h.0.within_constraint.2 };
    } (source_formed n es ks h.1)

-- a world that is made
module _ (w : World) (d : IsAllDeclared group_size w) (few : IsFew group_size w) where
  group_few : (g : Group) → declared_in w.rows g ≤ 1048575
  group_few Outputs = omega (arith, groups_are w.rows, few.signals)
  group_few PublicInputs = omega (arith, groups_are w.rows, few.signals)
  group_few PrivateInputs = omega (arith, groups_are w.rows, few.signals)
  group_few Others = omega (arith, groups_are w.rows, few.signals)

  sizes_are : (g : Group) → size_in g w.sizes ≡ declared_in w.rows g
  sizes_are g = exact (size_in g w.sizes) (declared_in w.rows g) (d.sizes g) (group_few g)

  pub is_roomy : IsRoomy w.sizes
  is_roomy = record {
    outputs = omega (arith, sizes_are Outputs, group_few Outputs);
    public_inputs = omega (arith, sizes_are PublicInputs, group_few PublicInputs);
    private_inputs = omega (arith, sizes_are PrivateInputs, group_few PrivateInputs);
    others = omega (arith, sizes_are Others, group_few Others);
  }

  pub names_are : 1 + length (flat_map names_of_row (in_order w.rows)) ≡ count w.sizes is_roomy
  names_are =
      omega (
        arith,
        names_count (in_order w.rows),
        order_count w.rows,
        sizes_are Outputs,
        sizes_are PublicInputs,
        sizes_are PrivateInputs,
        sizes_are Others,
      )

  pub names_few : length (flat_map names_of_row (in_order w.rows)) ≤ 1048575
  names_few =
      omega (
        arith,
        names_count (in_order w.rows),
        order_count w.rows,
        groups_are w.rows,
        few.signals,
      )

  -- declared by the rows, declared by the sizes
  same_declared : (n : ℕ) → IsDeclared group_size (declared_in w.rows) n
      → IsDeclared group_size (λ g. size_in g w.sizes) n
  same_declared zero h = tt
  same_declared (suc n) h = record {
    group = h.group;
    place = h.place;
    inside = omega (arith, h.inside, sizes_are h.group);
    number = h.number;
  }

  over : (es : List Equation)
      → AllByRecursion (IsOver (IsDeclared group_size (declared_in w.rows))) es
      → AllByRecursion (IsOver (D w.sizes is_roomy)) es
  over es h =
      all_more (IsOver (IsDeclared group_size (declared_in w.rows)))
      (IsOver (D w.sizes is_roomy)) es
      (is_over_more (IsDeclared group_size (declared_in w.rows)) (D w.sizes is_roomy)
      same_declared) h

  module _ (ks : List Constraint) (listed : IsSource (2 ^ 32) w.equations ks) where
    pub are_numbered : All (IsNumbered w.sizes) ks
    are_numbered =
        all_numbered w.sizes is_roomy (2 ^ 32) w.equations ks listed (over w.equations d.equations)

    -- the source list by the final numbers
    renumbered_source : IsSource (count w.sizes is_roomy)
        (map (renumbered_equation group_size w.sizes) w.equations)
        (map (renumbered_constraint w.sizes) ks)
    renumbered_source =
        source_of w.sizes is_roomy (2 ^ 32) w.equations ks listed (over w.equations d.equations)

    pub final_source : IsSource (1 + length (flat_map names_of_row (in_order w.rows)))
        (map (renumbered_equation group_size w.sizes) w.equations)
        (map (renumbered_constraint w.sizes) ks)
    final_source =
        subst (λ (n : ℕ). IsSource n (map (renumbered_equation group_size w.sizes) w.equations)
        (map (renumbered_constraint w.sizes) ks)) (sym names_are) renumbered_source

    pub constraints_few : length (map (renumbered_constraint w.sizes) ks) ≤ 1048576
    constraints_few =
        omega (
          arith,
          length-map ks (renumbered_constraint w.sizes),
          source_length (2 ^ 32) w.equations ks listed,
          few.constraints,
        )

    pub terms_few : sum_by (λ k. length k.a + (length k.b + length k.c))
        (map (renumbered_constraint w.sizes) ks) ≤ 8388608
    terms_few =
        omega (
          arith,
          same_terms w.sizes ks,
          terms_are_of (4 * group_size) w.equations ks (omega (arith, one_group))
              (source_within w.sizes is_roomy (2 ^ 32) w.equations ks listed
              (over w.equations d.equations)),
          few.terms,
        )

    pub constraints_below : All (ConstraintBelow (1 + length (flat_map names_of_row
        (in_order w.rows)))) (map (renumbered_constraint w.sizes) ks)
    constraints_below =
        source_below _ (map (renumbered_equation group_size w.sizes) w.equations)
        (map (renumbered_constraint w.sizes) ks) final_source

    pub constraints_formed : All IsFormed (map (renumbered_constraint w.sizes) ks)
    constraints_formed =
        source_formed _ (map (renumbered_equation group_size w.sizes) w.equations)
        (map (renumbered_constraint w.sizes) ks) final_source
