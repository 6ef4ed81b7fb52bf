-- Where the elements of a step's arrays have their numbers from.
use Rattle.std.proofs.Common.{◌≡◌, ◌∙◌, ◌≢◌, ◌⊎◌, inl, inr, ℕ, zero, suc, ◌+◌, ◌==◌, Bool}
use Rattle.std.proofs.Common.{true, false, cond, List, [], ◌∷◌, map, length, Option, Some, None}
use Rattle.std.proofs.Common.{arith, refl, sym, ap, slice_get, slice_set, nat_lt}
use Rattle.std.specs.Prelude.{IfSome, option_map, unwrap_or}
use Rattle.std.proofs.lemmas.Bool.{eq-eqb, ltb-true, ne_eqb}
use Rattle.std.proofs.lemmas.List.{length-map}
use Rattle.std.proofs.lemmas.Option.{slice_get-map}
use Rattle.cir_arrays.specs.declared.arrays.Datum.{Datum as CodeDatum}
use Rattle.cir_arrays.specs.declared.arrays.Datum.TheVariants as datum
use Rattle.cir_arrays.specs.Shown.{datum_of}
use Rattle.cir_values.specs.Meant.{meant}
use Rattle.cir_meaning.specs.Arrays.{Datum, is_known}
use Rattle.cir_meaning.specs.Places.{numbers_from}
use Rattle.cir_meaning.specs.Run.{Wires}
use Rattle.cir_meaning.specs.Values.{Value, Known, Linear, Quadratic, Opaque}
use Rattle.cir_meaning.proofs.PartWrites.{get_other, same_or_not}
use Rattle.cir_meaning.proofs.Writing.{get_set}
use Rattle.cir_steps.specs.Step as S
use Rattle.cir_steps.specs.Step.{listed, source_of, sources_of, variable_sources}
use Rattle.wit_lower.specs.Homes.{slots_of}
use Rattle.wit_lower.specs.Sources.{Input}
use Rattle.wit_lower.proofs.Shown.{get_map}
use Rattle.cir_emit.specs.Lowered.{cell_input, source_input}
use Rattle.cir_make.specs.declared.cells.Run.{Run}
use Rattle.cir_make.specs.declared.cells.Source.{Source}
use Rattle.cir_make.specs.declared.cells.Source.TheVariants as source
use Rattle.cir_make.specs.declared.make.Before.{Before}
use Rattle.cir_make.specs.Arrays.{sourced_by, stored_at, value_behind}
use Rattle.cir_make.specs.Cells.{cell_in, source_by}
use Rattle.cir_make.specs.Shows.{source_in}
use Rattle.cir_make.specs.Steps.{put_before}

-- ---- the code's sources
pub source_got : (xs : List Source) (k : ℕ) → source_in (map source_by xs) k
    ≡ source_by (unwrap_or (slice_get xs k) (source.Constant 0))
source_got [] k = refl
source_got (x ∷ xs) zero = refl
source_got (x ∷ xs) (suc k) = source_got xs k

-- ---- variables
pub sources_got : (vs : List Value) (xs : List S.Source) (k : ℕ) → slice_get (sources_of vs xs) k
    ≡ option_map (λ v. source_of v (source_in xs k)) (slice_get vs k)
sources_got [] xs k = refl
sources_got (v ∷ vs) [] zero = refl
sources_got (v ∷ vs) [] (suc k) = sources_got vs [] k
sources_got (v ∷ vs) (x ∷ xs) zero = refl
sources_got (v ∷ vs) (x ∷ xs) (suc k) = sources_got vs xs k

sources_long : (vs : List Value) (xs : List S.Source) → length (sources_of vs xs) ≡ length vs
sources_long [] xs = refl
sources_long (v ∷ vs) [] = ap (λ n. suc n) (sources_long vs [])
sources_long (v ∷ vs) (x ∷ xs) = ap (λ n. suc n) (sources_long vs xs)

-- an element that isn't known has the same source in both
pub stored_each : (vs : List Value) (xs : List S.Source) (x : S.Source) (k : ℕ) (i : Input)
    → ((u : Value) → slice_get vs k ≡ Some u → is_known u ≡ false → source_in xs k ≡ x)
    → stored_at (slice_get vs k) x ≡ Some i
    → slice_get (map source_input (sources_of vs xs)) k ≡ Some (Some i)
stored_each vs xs x k i same h = at (slice_get vs k) refl h
  where
    from : (u : Value) → (is_known u ≡ false → source_in xs k ≡ x)
        → source_input (source_of u x) ≡ source_input (source_of u (source_in xs k))
    from (Known n) s = refl
    from (Linear f) s = ap source_input (sym (s refl))
    from (Quadratic a b c) s = ap source_input (sym (s refl))
    from Opaque s = ap source_input (sym (s refl))

    at : (o : Option Value) → slice_get vs k ≡ o → stored_at o x ≡ Some i
        → slice_get (map source_input (sources_of vs xs)) k ≡ Some (Some i)
    at None e t = cc
    at (Some u) e t =
        slice_get-map source_input (sources_of vs xs) k
        ∙ ap (option_map source_input) (sources_got vs xs k
        ∙ ap (option_map (λ v. source_of v (source_in xs k))) e)
        ∙ ap (λ (o : Option Input). Some o) (sym (from u (same u e)) ∙ t)

-- a number has one item, and an array as many as it has room for
pub items_long : (d : CodeDatum) → length (datum_of d).items ≡ slots_of (datum_of d).dims
items_long (datum.Number v) = refl
items_long (datum.Array a) = length-map a.items.items meant ∙ a.sized

pub stored_long : (d : CodeDatum) (xs : List S.Source)
    → length (sourced_by (datum_of d) xs).items ≡ slots_of (datum_of d).dims
stored_long d xs =
    length-map (sources_of (datum_of d).items xs) source_input
    ∙ sources_long (datum_of d).items xs ∙ items_long d

pub values_behind : (bs : List Before) (ds : List Datum) (n : ℕ) (d : Datum)
    → slice_get ds n ≡ Some d → slice_get (put_before bs ds) n ≡ Some (value_behind bs n d)
values_behind [] ds n d e = e
values_behind (b ∷ bs) ds n d e =
    values_behind bs (slice_set ds b.variable (datum_of b.value)) n
    (cond (b.variable == n) (datum_of b.value) d) (at (same_or_not b.variable n))
  where
    at : (b.variable ≡ n) ⊎ (b.variable ≢ n)
        → slice_get (slice_set ds b.variable (datum_of b.value)) n
        ≡ Some (cond (b.variable == n) (datum_of b.value) d)
    at (inl is) =
        ap (λ m. slice_get (slice_set ds m (datum_of b.value)) n) is
        ∙ get_set ds n d (datum_of b.value) e
        ∙ ap (λ t. Some (cond t (datum_of b.value) d)) (sym (eq-eqb b.variable n is))
    at (inr ne) =
        get_other ds b.variable n (datum_of b.value) ne ∙ e
        ∙ ap (λ t. Some (cond t (datum_of b.value) d)) (sym (ne_eqb b.variable n ne))

pub variables_got : (ds : List Datum) (xs : List (List S.Source)) (n : ℕ) (d : Datum)
    → slice_get ds n ≡ Some d → slice_get (variable_sources ds xs) n
    ≡ Some record { dims = d.dims; items = sources_of d.items (listed xs n) }
variables_got [] xs n d e = cc
variables_got (y ∷ ds) [] zero d e =
    let same : y ≡ d = cc in
    ap (λ (z : Datum). Some record { dims = z.dims; items = sources_of z.items [] }) same
variables_got (y ∷ ds) [] (suc n) d e = variables_got ds [] n d e
variables_got (y ∷ ds) (x ∷ xs) zero d e =
    let same : y ≡ d = cc in
    ap (λ (z : Datum). Some record { dims = z.dims; items = sources_of z.items x }) same
variables_got (y ∷ ds) (x ∷ xs) (suc n) d e = variables_got ds xs n d e

-- ---- signals
pub wired_long : (wires : Wires) (n count : ℕ)
    → length (map cell_input (map (wires n) (numbers_from 0 count))) ≡ count
wired_long wires n count =
    length-map (map (wires n) (numbers_from 0 count)) cell_input
    ∙ length-map (numbers_from 0 count) (wires n) ∙ long 0 count
  where
    long : (first count : ℕ) → length (numbers_from first count) ≡ count
    long first zero = refl
    long first (suc count) = ap (λ k. suc k) (long (first + 1) count)

pub wired_each : (wires : Wires) (n : ℕ) (rows : List Run) (count k : ℕ) (i : Input)
    → ((k : ℕ) → wires n k ≡ cell_in rows k)
    → cond (nat_lt k count) (cell_input (cell_in rows k)) None ≡ Some i
    → slice_get (map cell_input (map (wires n) (numbers_from 0 count))) k ≡ Some (Some i)
wired_each wires n rows count k i same h = at (nat_lt k count) refl h
  where
    at : (b : Bool) → nat_lt k count ≡ b
        → cond b (cell_input (cell_in rows k)) None ≡ Some i
        → slice_get (map cell_input (map (wires n) (numbers_from 0 count))) k ≡ Some (Some i)
    at false e t = cc
    at true e t =
        let first : 0 + k ≡ k = omega arith in
        slice_get-map cell_input (map (wires n) (numbers_from 0 count)) k
        ∙ ap (option_map cell_input) (get_map (wires n) 0 count k (ltb-true k count e)
        ∙ ap (λ j. Some (wires n j)) first)
        ∙ ap (λ o. Some (cell_input o)) (same k) ∙ ap (λ (o : Option Input). Some o) t

-- ---- what is told of an option
pub both_some : {A : Type 0} (r : Option A) (P Q R : A → Type 0) → IfSome r P → IfSome r Q
    → ((a : A) → P a → Q a → R a) → IfSome r R
both_some None P Q R p q f = tt
both_some (Some a) P Q R p q f = f a p q
