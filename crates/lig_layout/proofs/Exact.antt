-- What solves the system, with right products, is made of values that satisfy the file.
use Rattle.std.proofs.Common.{◌≡◌, ℕ, zero, suc, ◌+◌, ◌-◌, ◌*◌, ◌%◌, ◌<◌, List, [], ◌∷◌, ◌++◌}
use Rattle.std.proofs.Common.{All, length, map, replicate, take, drop, slice_index, refl, sym, ap}
use Rattle.std.proofs.Common.{◌∙◌, arith, ⊎_elim}
use Rattle.std.proofs.Math.Seq.{take-append_seam, drop-append_seam}
use Rattle.std.proofs.lemmas.Bool.{cases_lt}
use Rattle.std.proofs.lemmas.List.{length-map, length-replicate, get_or_past}
use Rattle.std.proofs.lemmas.List.Elements.{All-nil, All-cons, All-head, All-tail}
use Rattle.std.proofs.lemmas.List.Sums.{sum_by-append}
use Rattle.gold_field.specs.declared.gold.TheConstants.{P}
use Rattle.gold_field.specs.declared.form.Term.{Term}
use Rattle.gold_field.specs.declared.form.Constraint.{Constraint}
use Rattle.gold_field.specs.Form.{ConstraintBelow, Holds, value_at}
use Rattle.iden_files.specs.File.{File, IsFile}
use Rattle.lig_layout.specs.declared.matrix.Vectors.{Vectors}
use Rattle.lig_layout.specs.declared.side.Side.{Side}
use Rattle.lig_layout.specs.declared.side.Side.TheVariants.{A, B, C}
use Rattle.lig_layout.specs.Sides.{form_of, forms}
use Rattle.lig_layout.specs.Sizes.{params_of}
use Rattle.lig_layout.specs.Layout.{message, vectors_of, x_start, y_start, z_start}
use Rattle.lig_layout.specs.System.{differences, wire_forms, known_wires, left_sides, right_sides}
use Rattle.lig_layout.specs.Laws.{publics_of}
use Rattle.lig_layout.specs.Solutions.{AreVectors, SolvesSystem, AreProducts}
use Rattle.lig_layout.specs.Solutions.{SystemIsFile}
use Rattle.lig_layout.proofs.Wired.{side_below, vectors_made}
use Rattle.lig_layout.proofs.Products.{exact}
use Rattle.lig_layout.proofs.Forms.{length-differences}
use Rattle.lig_layout.proofs.Solving.{exact-same, wires_known, known_taken, zeros, three_maps}
use Rattle.lig_layout.proofs.Solving.{regroup, wires_at, x_at, y_at, z_at, solves}

pub numbers_at : (w : List ℕ) → All (λ value. value < P) w → (i : ℕ) → slice_index w i < P
numbers_at w low i = ⊎_elim (λ inside. low i 0 inside) (λ past. let none = get_or_past w i 0 past
    in omega arith) (cases_lt i (length w))

front_same : (a b x y : List ℕ) → length a ≡ length b → a ++ x ≡ b ++ y → a ≡ b
front_same a b x y count e =
    sym (take-append_seam a x) ∙ ap (λ (xs : List ℕ). take (length a) xs) e
    ∙ ap (λ (n : ℕ). take n (b ++ y)) count ∙ take-append_seam b y

back_same : (a b x y : List ℕ) → length a ≡ length b → a ++ x ≡ b ++ y → x ≡ y
back_same a b x y count e =
    sym (drop-append_seam a x) ∙ ap (λ (xs : List ℕ). drop (length a) xs) e
    ∙ ap (λ (n : ℕ). drop n (b ++ y)) count ∙ drop-append_seam b y

put_in : (s r : ℕ) → r < P → (s + (0 + (P - 1) * r)) % P ≡ 0 → r ≡ s % P
put_in s r low e = omega arith

-- values that meet the equations of a side are that side's
side_made : (n st : ℕ) (m w xs : List ℕ) (side : Side) (ks : List Constraint)
    → ((i : ℕ) → i < n → slice_index m i ≡ slice_index w i) → All (ConstraintBelow n) ks
    → length xs ≡ length ks → All (λ value. value < P) xs
    → ((k : ℕ) → k < length ks → slice_index m (st + k) ≡ slice_index xs k)
    → map (value_at (slice_index m)) (differences st (forms side ks)) ≡ replicate (length ks) 0
    → xs ≡ map (λ k. value_at (slice_index w) (form_of side k)) ks
side_made n st m w [] side [] same below count low there met = refl
side_made n st m w [] side (k ∷ ks) same below count low there met = absurd (omega arith)
side_made n st m w (x ∷ xs) side [] same below count low there met = absurd (omega arith)
side_made n st m w (x ∷ xs) side (k ∷ ks) same below count low there met =
    let Low : ℕ → Type 0 = λ value. value < P in
    let form = form_of side k in
    let unknown : Term = record { signal = st; coef = P - 1 } in
    let sum = sum_by-append (λ (u : Term). u.coef * slice_index m u.signal) form (unknown ∷ []) in
    let agree = exact-same n m w form same (side_below n side k (below 0 k (omega arith))) in
    let place : st ≡ st + 0 = omega arith in
    let own : slice_index m st ≡ x = ap (slice_index m) place ∙ there 0 (omega arith) in
    let small : x < P = All-head Low x xs low in
    let first : value_at (slice_index m) (form ++ unknown ∷ []) ≡ 0 =
    ap (λ (ys : List ℕ). slice_index ys 0) met in
    let zero_sum : (exact m form + (0 + (P - 1) * x)) % P ≡ 0 =
    ap (λ (y : ℕ). (exact m form + (0 + (P - 1) * y)) % P) (sym own)
    ∙ sym (ap (λ (y : ℕ). y % P) sum) ∙ first in
    let here : x ≡ value_at (slice_index w) form =
    put_in (exact m form) x small zero_sum ∙ ap (λ (y : ℕ). y % P) agree in
    let others =
    side_made n (st + 1) m w xs side ks same (λ i d within. below (suc i) d (omega arith))
    (omega arith) (All-tail Low x xs low)
    (λ i within. let next : st + 1 + i ≡ st + suc i = omega arith in ap (slice_index m) next
    ∙ there (suc i) (omega arith))
    (ap (λ (ys : List ℕ). drop 1 ys) met) in
    ap (λ (y : ℕ). y ∷ xs) here
    ∙ ap (λ (ys : List ℕ). value_at (slice_index w) form ∷ ys) others

-- the value of a side at a constraint, and 0 behind the last one
abbrev side_value : List ℕ → List Constraint → ℕ → Side → ℕ
side_value w ks i side = slice_index (map (λ k. value_at (slice_index w) (form_of side k)) ks) i

pub multiply : (w : List ℕ) (ks : List Constraint) (i : ℕ) → All (Holds (slice_index w)) ks
    → (side_value w ks i A * side_value w ks i B) % P ≡ side_value w ks i C
multiply w [] i h = refl
multiply w (k ∷ ks) zero h = All-head (Holds (slice_index w)) k ks h
multiply w (k ∷ ks) (suc i) h = multiply w ks i (All-tail (Holds (slice_index w)) k ks h)

all_hold : (w : List ℕ) (ks : List Constraint)
    → ((i : ℕ) → (side_value w ks i A * side_value w ks i B) % P ≡ side_value w ks i C)
    → All (Holds (slice_index w)) ks
all_hold w [] are = All-nil (Holds (slice_index w))
all_hold w (k ∷ ks) are =
    All-cons (Holds (slice_index w)) k ks (are 0) (all_hold w ks (λ i. are (suc i)))

-- the four parts of the system hold where all of it does
record Parts (q : ℕ) (a b c d known : List ℕ) : Type 0 where
  pub x : a ≡ replicate q 0
  pub y : b ≡ replicate q 0
  pub z : c ≡ replicate q 0
  pub wires : d ≡ known

parts : (q : ℕ) (a b c d known : List ℕ) → length a ≡ q → length b ≡ q → length c ≡ q
    → a ++ (b ++ (c ++ d)) ≡ replicate (3 * q) 0 ++ known → Parts q a b c d known
parts q a b c d known a_count b_count c_count e =
    let none = replicate {A = ℕ} q 0 in
    let size = length-replicate {A = ℕ} q 0 in
    let whole : a ++ (b ++ (c ++ d)) ≡ none ++ (none ++ (none ++ known)) =
    e ∙ ap (λ (xs : List ℕ). xs ++ known) (sym (zeros q)) ∙ sym (regroup none known) in
    let behind_a = back_same a none (b ++ (c ++ d)) (none ++ (none ++ known))
    (a_count ∙ sym size) whole in
    let behind_b = back_same b none (c ++ d) (none ++ known) (b_count ∙ sym size) behind_a in
    record {
      x = front_same a none (b ++ (c ++ d)) (none ++ (none ++ known)) (a_count ∙ sym size) whole;
      y = front_same b none (c ++ d) (none ++ known) (b_count ∙ sym size) behind_a;
      z = front_same c none d known (c_count ∙ sym size) behind_b;
      wires = back_same c none d known (c_count ∙ sym size) behind_b;
    }

module _ (f : File) (publics : List ℕ) (v : Vectors) (file : IsFile f) (are : AreVectors f v) where
  abbrev m : List ℕ
  m = message (params_of f) v

  abbrev values_of : List (List Term) → List ℕ
  values_of forms = map (value_at (slice_index m)) forms

  abbrev part : ℕ → Side → List ℕ
  part start side = values_of (differences start (forms side f.constraints))

  part_count : (start : ℕ) (side : Side) → length (part start side) ≡ length f.constraints
  part_count start side =
      length-map (differences start (forms side f.constraints)) (value_at (slice_index m))
      ∙ length-differences start side f.constraints

  split : SolvesSystem f publics v
      → Parts (length f.constraints) (part (x_start (params_of f)) A)
      (part (y_start (params_of f)) B) (part (z_start (params_of f)) C) (values_of (wire_forms 0 (known_wires f))) (1 ∷ publics)
  split solved =
      let p = params_of f in
      parts (length f.constraints) (part (x_start p) A) (part (y_start p) B) (part (z_start p) C)
      (values_of (wire_forms 0 (known_wires f))) (1 ∷ publics) (part_count (x_start p) A)
      (part_count (y_start p) B) (part_count (z_start p) C)
      (sym (three_maps (value_at (slice_index m)) (differences (x_start p) (forms A f.constraints))
      (differences (y_start p) (forms B f.constraints))
      (differences (z_start p) (forms C f.constraints)) (wire_forms 0 (known_wires f)))
      ∙ solved)

  same : (i : ℕ) → i < f.wires → slice_index m i ≡ slice_index v.w i
  same = wires_at f v are.w.count are.x.count are.y.count are.z.count

  made : SolvesSystem f publics v → v ≡ vectors_of f v.w
  made solved =
      let p = params_of f in
      let ks = f.constraints in
      let met = split solved in
      vectors_made f ks v.w v.w v.x v.y v.z refl refl
      (side_made f.wires (x_start p) m v.w v.x A ks same file.wired are.x.count are.x.each
      (x_at f v are.w.count are.x.count are.y.count are.z.count) met.x)
      (side_made f.wires (y_start p) m v.w v.y B ks same file.wired are.y.count are.y.each
      (y_at f v are.w.count are.x.count are.y.count are.z.count) met.y)
      (side_made f.wires (z_start p) m v.w v.z C ks same file.wired are.z.count are.z.each
      (z_at f v are.w.count are.x.count are.y.count are.z.count) met.z)

  -- wire 0 and the public wires
  known : SolvesSystem f publics v → slice_index v.w 0 ∷ publics_of f v.w ≡ 1 ∷ publics
  known solved =
      let count = are.w.count in
      let numbered = file.numbered in
      sym (known_taken f v.w (omega arith))
      ∙ sym (wires_known f.wires 0 (known_wires f) m v.w same (numbers_at v.w are.w.each)
      (omega arith) (omega arith))
      ∙ (split solved).wires

  holds : v ≡ vectors_of f v.w → AreProducts v → All (Holds (slice_index v.w)) f.constraints
  holds is products =
      all_hold v.w f.constraints (λ i.
      sym (ap (λ (u : Vectors). (slice_index u.x i * slice_index u.y i) % P) is) ∙ products i
      ∙ ap (λ (u : Vectors). slice_index u.z i) is)

pub system_is_file : SystemIsFile
system_is_file f publics v file limits are = (
  λ solution.
      let is = made f publics v file are solution.0 in
      let first = known f publics v file are solution.0 in (
        record {
          count = are.w.count;
          numbers = are.w.each;
          one = ap (λ (xs : List ℕ). slice_index xs 0) first;
          holds = holds f publics v file are is solution.1;
        },
        sym (ap (λ (xs : List ℕ). drop 1 xs) first),
        is,
      ),
  λ witness.
      let satisfied = witness.0 in
      let is = witness.2 in (
        ap (λ (u : Vectors).
            map (value_at (slice_index (message (params_of f) u))) (left_sides (params_of f) f)) is
            ∙ solves f v.w file limits satisfied.count (numbers_at v.w satisfied.numbers)
            satisfied.one
            ∙ ap (λ (ps : List ℕ). right_sides f ps) (sym witness.1),
        λ place.
            ap (λ (u : Vectors). (slice_index u.x place * slice_index u.y place) % P) is
            ∙ multiply v.w f.constraints place satisfied.holds
            ∙ sym (ap (λ (u : Vectors). slice_index u.z place) is),
      ),
)
