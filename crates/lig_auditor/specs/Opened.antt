-- The opened columns of a proof as the tests see them.
use Rattle.std.specs.Prelude.{◌≡◌, ℕ, ◌+◌, ◌*◌, ◌%◌, ◌<◌, List, [], length, All, slice_index}
use Rattle.std.specs.Prelude.{slice_index_or}
use Rattle.gold_field.specs.declared.gold.TheConstants.{P}
use Rattle.gold_ntt.specs.Polynomial.{sum_to, eval_at}
use Rattle.lig_layout.specs.declared.params.Params.{Params}
use Rattle.lig_layout.specs.Sizes.{IsParams}
use Rattle.lig_proof.specs.Encoding.{Interpolates}
use Rattle.lig_proof.specs.Points.{code_point}
use Rattle.lig_proof.specs.Sent.{polynomials_of}
use Rattle.lig_proof.specs.Audit.{Audit, proximity_value, system_value, product_value}
use Rattle.lig_auditor.specs.declared.opening.Opening.{Opening}

-- as many challenges, coefficients and values as the sizes say
pub record IsOpening (o : Opening) : Type 0 where
  pub params : IsParams o.params.now
  pub alpha : length o.challenges.now.alpha ≡ 2 * o.params.now.rows
  pub rho : length o.challenges.now.rho ≡ 2 * o.params.now.constraint_rows
  pub polys : length o.polys.now ≡ 18 * o.params.now.l
  pub indices : length o.indices.now ≡ length o.columns.now
  pub columns : All (λ column. length column ≡ o.params.now.rows + 6) o.columns.now

-- what is tested, with these right sides and this system
abbrev pub audit_in : Opening → List ℕ → (ℕ → ℕ → List ℕ) → Audit
audit_in o right_sides system = record {
  params = o.params.now;
  challenges = o.challenges.now;
  right_sides = right_sides;
  system = system;
  sent = polynomials_of o.params.now o.polys.now;
  opened = o.indices.now;
  columns = o.columns.now;
}

-- no rows: for the tests that don't look at the system
abbrev pub no_system : ℕ → ℕ → List ℕ
no_system t k = []

-- the points of columns with these indices
pub record ArePoints (p : Params) (indices points : List ℕ) : Type 0 where
  pub count : length points ≡ length indices
  pub each : (q : ℕ) → q < length indices
      → slice_index points q ≡ code_point p (slice_index indices q)

-- the polynomial has these values at these points
abbrev pub HasValuesAt : List ℕ → List ℕ → List ℕ → Type 0
HasValuesAt polynomial points values = (q : ℕ) → q < length points
    → eval_at polynomial (slice_index points q) ≡ slice_index values q

-- the polynomial has, at the point of each column, the value that f gives
abbrev pub Agrees : Opening → List ℕ → (ℕ → ℕ) → Type 0
Agrees o polynomial f = (q : ℕ) → q < length o.columns.now
    → eval_at polynomial (code_point o.params.now (slice_index o.indices.now q)) ≡ f q

-- an opened column, and the point at which it was encoded
abbrev pub column_of : Opening → ℕ → List ℕ
column_of o q = slice_index_or o.columns.now q []

abbrev pub point_of : Opening → ℕ → ℕ
point_of o q = code_point o.params.now (slice_index o.indices.now q)

-- what was sent for a repetition has the values of the columns
abbrev pub ProximityAgrees : Opening → ℕ → Type 0
ProximityAgrees o t = Agrees o ((polynomials_of o.params.now o.polys.now).proximity t)
    (λ q. proximity_value o.params.now o.challenges.now t (column_of o q))

abbrev pub ProductsAgree : Opening → ℕ → Type 0
ProductsAgree o t = Agrees o ((polynomials_of o.params.now o.polys.now).product t)
    (λ q. product_value o.params.now o.challenges.now t (column_of o q))

abbrev pub RowsAgree : Opening → (ℕ → List ℕ) → ℕ → Type 0
RowsAgree o rows t = Agrees o ((polynomials_of o.params.now o.polys.now).linear t)
    (λ q. system_value o.params.now rows t (point_of o q) (column_of o q))

-- times these, place by place, the values of a row sum to the value at x of its polynomial
abbrev pub Weighs : Params → List ℕ → ℕ → Type 0
Weighs p weights x = (row polynomial : List ℕ) → Interpolates p row polynomial
    → sum_to p.l (λ i. slice_index row i * slice_index weights i) % P ≡ eval_at polynomial x

-- coefficient k of the remainder by X ^ l - 1 of a polynomial of 4 * l coefficients
abbrev pub folded : ℕ → List ℕ → ℕ → ℕ
folded l polynomial k =
    (slice_index polynomial k + slice_index polynomial (l + k)
    + (slice_index polynomial (2 * l + k) + slice_index polynomial (3 * l + k))) % P
