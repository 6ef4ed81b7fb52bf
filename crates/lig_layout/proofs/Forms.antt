-- Left sides, term by term and equation by equation.
use Rattle.std.proofs.Common.{◌≡◌, ℕ, suc, ◌+◌, ◌-◌, ◌*◌, ◌<◌, ◌==◌, cond, List, [], ◌∷◌, ◌++◌}
use Rattle.std.proofs.Common.{length, take, drop, slice_index_or, refl, sym, ap, ◌∙◌, arith}
use Rattle.std.proofs.lemmas.List.{at_drop_more, drop_more, take-append-drop}
use Rattle.std.proofs.lemmas.List.Sums.{sum_by-append}
use Rattle.gold_field.specs.declared.gold.TheConstants.{P}
use Rattle.gold_field.specs.declared.form.Term.{Term}
use Rattle.gold_field.specs.declared.form.Constraint.{Constraint}
use Rattle.iden_files.specs.File.{File}
use Rattle.lig_layout.specs.declared.params.Params.{Params}
use Rattle.lig_layout.specs.declared.side.Side.{Side}
use Rattle.lig_layout.specs.declared.side.Side.TheVariants.{A, B, C}
use Rattle.lig_layout.specs.Sides.{form_of, forms}
use Rattle.lig_layout.specs.Layout.{x_start, y_start, z_start}
use Rattle.lig_layout.specs.System.{coefficient, combined_at, differences, wire_forms, known_wires}
use Rattle.lig_layout.specs.System.{left_sides}

pub coefficient-append : (place : ℕ) (a b : List Term)
    → coefficient place (a ++ b) ≡ coefficient place a + coefficient place b
coefficient-append place a b = sum_by-append (λ (t : Term). cond (t.signal == place) t.coef 0) a b

-- the first term of what is left of a form
pub term_split : (factor place i : ℕ) (form : List Term) (t : Term) → i < length form
    → t ≡ slice_index_or form i t
    → factor * coefficient place (drop i form) ≡ factor * coefficient place (t ∷ [])
    + factor * coefficient place (drop (i + 1) form)
term_split factor place i form t within is =
    let first : coefficient place (drop i form) ≡ coefficient place (t ∷ drop (i + 1) form) =
    at_drop_more (coefficient place) form i t within
    ∙ ap (λ x. coefficient place (x ∷ drop (i + 1) form)) (sym is) in
    ap (λ x. factor * x) (first ∙ coefficient-append place (t ∷ []) (drop (i + 1) form))
    ∙ omega arith

-- the first constraint of those that are left
pub side_split : (place start k n : ℕ) (side : Side) (r : List ℕ) (ks : List Constraint)
    (x : Constraint) (form : List Term) (minus : ℕ)
    → k < length r → k < length ks → n ≡ slice_index_or r k n → x ≡ slice_index_or ks k x
    → form ≡ form_of side x → minus ≡ P - 1
    → combined_at place (drop k r) (differences (start + k) (forms side (drop k ks)))
    ≡ n * coefficient place form
    + (n * coefficient place (record { signal = start + k; coef = minus } ∷ [])
    + combined_at place (drop (k + 1) r)
    (differences (start + (k + 1)) (forms side (drop (k + 1) ks))))
side_split place start k n side r ks x form minus in_r in_ks is_n is_x is_form is_minus =
    let unknown : Term = record { signal = start + k; coef = P - 1 } in
    let rest =
    combined_at place (drop (k + 1) r)
    (differences (start + (k + 1)) (forms side (drop (k + 1) ks))) in
    let numbers : drop k r ≡ n ∷ drop (k + 1) r =
    drop_more r k n in_r ∙ ap (λ y. y ∷ drop (k + 1) r) (sym is_n) in
    let constraints : drop k ks ≡ x ∷ drop (k + 1) ks =
    drop_more ks k x in_ks ∙ ap (λ y. y ∷ drop (k + 1) ks) (sym is_x) in
    let next : start + k + 1 ≡ start + (k + 1) = omega arith in
    let whole : combined_at place (drop k r) (differences (start + k) (forms side (drop k ks)))
    ≡ n * coefficient place (form_of side x ++ unknown ∷ []) + rest =
    ap (λ y. combined_at place y (differences (start + k) (forms side (drop k ks)))) numbers
    ∙ ap (λ y. combined_at place (n ∷ drop (k + 1) r) (differences (start + k) (forms side y)))
    constraints
    ∙ ap (λ y. n * coefficient place (form_of side x ++ unknown ∷ [])
    + combined_at place (drop (k + 1) r) (differences y (forms side (drop (k + 1) ks)))) next in
    whole ∙ ap (λ y. n * y + rest) (coefficient-append place (form_of side x) (unknown ∷ []))
    ∙ ap (λ y. n * (coefficient place y + coefficient place (unknown ∷ [])) + rest) (sym is_form)
    ∙ ap (λ y. n
    * (coefficient place form
    + coefficient place (record { signal = start + k; coef = y } ∷ [])) + rest) (sym is_minus)
    ∙ omega arith

-- the first wire of those that are left
pub wires_split : (place wire n : ℕ) (r : List ℕ) → wire < length r → n ≡ slice_index_or r wire n
    → combined_at place (drop wire r) (wire_forms wire (length r - wire))
    ≡ n * coefficient place (record { signal = wire; coef = 1 } ∷ [])
    + combined_at place (drop (wire + 1) r) (wire_forms (wire + 1) (length r - (wire + 1)))
wires_split place wire n r within is =
    let numbers : drop wire r ≡ n ∷ drop (wire + 1) r =
    drop_more r wire n within ∙ ap (λ y. y ∷ drop (wire + 1) r) (sym is) in
    let count : length r - wire ≡ suc (length r - (wire + 1)) = omega arith in
    ap (λ y. combined_at place y (wire_forms wire (length r - wire))) numbers
    ∙ ap (λ y. combined_at place (n ∷ drop (wire + 1) r) (wire_forms wire y)) count

combined_at-append : (place : ℕ) (r s : List ℕ) (a b : List (List Term)) → length r ≡ length a
    → combined_at place (r ++ s) (a ++ b) ≡ combined_at place r a + combined_at place s b
combined_at-append place [] s [] b e = omega arith
combined_at-append place [] s (form ∷ a) b e = absurd (omega arith)
combined_at-append place (n ∷ r) s [] b e = absurd (omega arith)
combined_at-append place (n ∷ r) s (form ∷ a) b e =
    let same : length r ≡ length a = omega arith in
    ap (λ x. n * coefficient place form + x) (combined_at-append place r s a b same) ∙ omega arith

pub length-differences : (start : ℕ) (side : Side) (ks : List Constraint)
    → length (differences start (forms side ks)) ≡ length ks
length-differences start side [] = refl
length-differences start side (k ∷ ks) = ap suc (length-differences (start + 1) side ks)

-- all equations, part by part
pub system_split : (place : ℕ) (p : Params) (f : File) (x y z w : List ℕ)
    → length x ≡ length f.constraints → length y ≡ length f.constraints
    → length z ≡ length f.constraints → length w ≡ known_wires f
    → combined_at place x (differences (x_start p) (forms A f.constraints))
    + combined_at place y (differences (y_start p) (forms B f.constraints))
    + combined_at place z (differences (z_start p) (forms C f.constraints))
    + combined_at place w (wire_forms 0 (length w))
    ≡ combined_at place (x ++ (y ++ (z ++ w))) (left_sides p f)
system_split place p f x y z w ex ey ez ew =
    let a = differences (x_start p) (forms A f.constraints) in
    let b = differences (y_start p) (forms B f.constraints) in
    let c = differences (z_start p) (forms C f.constraints) in
    let d = wire_forms 0 (known_wires f) in
    let in_x =
    combined_at-append place x (y ++ (z ++ w)) a (b ++ (c ++ d))
    (ex ∙ sym (length-differences (x_start p) A f.constraints)) in
    let in_y =
    combined_at-append place y (z ++ w) b (c ++ d)
    (ey ∙ sym (length-differences (y_start p) B f.constraints)) in
    let in_z =
    combined_at-append place z w c d
    (ez ∙ sym (length-differences (z_start p) C f.constraints)) in
    let in_w : combined_at place w (wire_forms 0 (length w)) ≡ combined_at place w d =
    ap (λ n. combined_at place w (wire_forms 0 n)) ew in
    omega (arith, in_x, in_y, in_z, in_w)

-- the same for parts as the code has them
pub system_made : (place : ℕ) (p : Params) (f : File) (ks : List Constraint) (r x y z w : List ℕ)
    (s t : ℕ)
    → ks ≡ f.constraints → s ≡ y_start p → t ≡ z_start p
    → length x ≡ length ks → length y ≡ length ks → length z ≡ length ks → length w ≡ known_wires f
    → x ++ (y ++ (z ++ w)) ≡ r
    → combined_at place x (differences (x_start p) (forms A ks))
    + combined_at place y (differences s (forms B ks))
    + combined_at place z (differences t (forms C ks))
    + combined_at place w (wire_forms 0 (length w))
    ≡ combined_at place r (left_sides p f)
system_made place p f ks r x y z w s t e es et ex ey ez ew whole =
    rw (e, es, et)
    (system_split place p f x y z w (ex ∙ ap length e) (ey ∙ ap length e) (ez ∙ ap length e) ew
    ∙ ap (λ n. combined_at place n (left_sides p f)) whole)

-- a list split in four
pub four_parts : (n : ℕ) (r a b c d e g : List ℕ) → a ≡ take n r → b ≡ drop n r → c ≡ take n b
    → d ≡ drop n b → e ≡ take n d → g ≡ drop n d → a ++ (c ++ (e ++ g)) ≡ r
four_parts n r a b c d e g ea eb ec ed ee eg =
    let last : e ++ g ≡ d = rw (ee, eg) (take-append-drop n d) in
    let middle : c ++ d ≡ b = rw (ec, ed) (take-append-drop n b) in
    let first : a ++ b ≡ r = rw (ea, eb) (take-append-drop n r) in
    rw (last, middle) first
