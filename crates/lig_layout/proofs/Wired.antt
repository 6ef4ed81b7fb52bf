-- The signals of a file's constraints.
use Rattle.std.proofs.Math.Nat.{mod-lt}
use Rattle.std.proofs.lemmas.Bool.{cases_lt}
use Rattle.std.proofs.lemmas.Nat.{div-add-mod', pow_pos}
use Rattle.std.specs.Int.{div_ceil}
use Rattle.lig_layout.specs.declared.params.Params.{Params}
use Rattle.lig_layout.specs.Sizes.{params_of}
use Rattle.lig_layout.specs.Width.{width_exponent}
use Rattle.std.proofs.Common.{◌≡◌, ℕ, ◌+◌, ◌*◌, ◌%◌, ◌^◌, min, ⊎_elim, ◌≤◌, ◌<◌, List, All, length}
use Rattle.std.proofs.Common.{map, slice_index, slice_index_or, refl, sym, subst, arith}
use Rattle.gold_field.specs.Form.{ConstraintBelow, SignalsBelow, value_at}
use Rattle.gold_field.specs.declared.form.Constraint.{Constraint}
use Rattle.gold_field.specs.declared.form.Term.{Term}
use Rattle.iden_files.specs.File.{File, IsFile}
use Rattle.lig_layout.specs.declared.matrix.Vectors.{Vectors}
use Rattle.lig_layout.specs.declared.side.Side.{Side}
use Rattle.lig_layout.specs.declared.side.Side.TheVariants.{A, B, C}
use Rattle.lig_layout.specs.Sides.{form_of}
use Rattle.lig_layout.specs.Layout.{vectors_of}

pub wired_over : (f : File) (n : ℕ) (ks : List Constraint) → IsFile f → n ≡ f.wires
    → ks ≡ f.constraints → All (ConstraintBelow n) ks
wired_over f n ks file e k = rw (e, k) file.wired

-- one of the constraints
pub wired_at : (n : ℕ) (ks : List Constraint) (i : ℕ) (x : Constraint) → All (ConstraintBelow n) ks
    → i < length ks → x ≡ slice_index_or ks i x → ConstraintBelow n x
wired_at n ks i x wired within is = let Below : Constraint → Type 0 = λ k. ConstraintBelow n k
    in subst Below (sym is) (wired i x within)

-- one of its sides
pub side_below : (n : ℕ) (side : Side) (k : Constraint) → ConstraintBelow n k
    → SignalsBelow n (form_of side k)
side_below n A k below = below.a
side_below n B k below = below.b
side_below n C k below = below.c

widened : (n m : ℕ) (form : List Term) → n ≤ m → SignalsBelow n form → SignalsBelow m form
widened n m form h below = λ k d within. omega (arith, below k d within)

-- below n, and so below more
pub wired_below : (n m : ℕ) (ks : List Constraint) → n ≤ m → All (ConstraintBelow n) ks
    → All (ConstraintBelow m) ks
wired_below n m ks h wired = λ k d within.
    let below = wired k d within in
    record {
      a = widened n m (slice_index_or ks k d).a h below.a;
      b = widened n m (slice_index_or ks k d).b h below.b;
      c = widened n m (slice_index_or ks k d).c h below.c;
    }

pub vectors_made : (f : File) (ks : List Constraint) (w u x y z : List ℕ) → ks ≡ f.constraints
    → u ≡ w
    → x ≡ map (λ k. value_at (slice_index w) (form_of A k)) ks
    → y ≡ map (λ k. value_at (slice_index w) (form_of B k)) ks
    → z ≡ map (λ k. value_at (slice_index w) (form_of C k)) ks
    → ◌≡◌ {A = Vectors} (record { w = u; x = x; y = y; z = z }) (vectors_of f w)
vectors_made f ks w u x y z e eu ex ey ez = rw (eu, ex, ey, ez, e) refl

-- a side's terms lie in a row that is as long as another
pub form_below : (n m : ℕ) (side : Side) (k : Constraint) (form : List Term) → n ≡ m
    → form ≡ form_of side k → ConstraintBelow n k → SignalsBelow m form
form_below n m side k form e is below = rw (is, ← e) (side_below n side k below)

pub ceil_room : (x y : ℕ) → 0 < y → x ≤ div_ceil x y * y
ceil_room x y pos =
    let whole = div-add-mod' x y in
    let low : x % y < y = mod-lt x pos in
    ⊎_elim (λ none. let e : x % y ≡ 0 = omega arith in omega (arith, whole, e))
    (λ some. let e : min 1 (x % y) ≡ 1 = omega arith in rw e (omega (arith, whole, low)))
    (cases_lt (x % y) 1)

-- the wires fit into the rows
pub wires_fit : (f : File) (p : Params) → p ≡ params_of f → f.wires ≤ p.rows * p.l
wires_fit f p e =
    let n = length f.constraints in
    let k = width_exponent (f.wires + 3 * n) in
    let room = ceil_room f.wires (2 ^ k) (pow_pos k) in
    rw e (omega (arith, room))
