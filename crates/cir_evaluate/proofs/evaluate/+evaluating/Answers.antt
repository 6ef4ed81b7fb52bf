use Rattle.std.proofs.Common.{◌≡◌, ◌∙◌, ℕ, ◌+◌, List, [], ◌∷◌, ◌++◌, drop, ap, sym, refl}
use Rattle.std.specs.Prelude.{map, Option}
use Rattle.std.proofs.lemmas.List.{map-append}
use Rattle.cir_ast.specs.Tree.{Parentheses, Unary, Binary, Choice, bare, bare_exprs, as_accessors}
use Rattle.cir_values.specs.Meant.{meant, meant_side}
use Rattle.cir_meaning.specs.Arrays.{Datum, Scalar, Whole, single}
use Rattle.cir_meaning.specs.Values.{unary_result}
use Rattle.cir_meaning.specs.Reading.{Named}
use Rattle.cir_meaning.specs.Evaluate.{value_in, all_in, read_in}
use Rattle.cir_arrays.specs.Counted.{counts_of}
use Rattle.cir_frame.specs.Read.{root_of, origin_from}
use Rattle.cir_arrays.specs.Shown.{datum_of}
use Rattle.cir_frame.specs.Shown.{frame_of, state_of}
use Rattle.cir_arrays.specs.Stopped.{where_of}
use Rattle.cir_arrays.proofs.Exits.{exit_gives}
use Rattle.cir_evaluate.specs.Within.{context_at, where_at}
use Rattle.cir_evaluate.specs.Parts.{looked_in}
use Rattle.cir_evaluate.proofs.Steps.{leaves, given, with_state, answers, scalar_answered}
use Rattle.cir_evaluate.proofs.Steps.{located_exits, inner_is, one_of, one_number, refusal}
use Rattle.cir_evaluate.proofs.Parts.{call_goes, call_stops, array_goes, array_stops, want_free}
use Rattle.cir_evaluate.proofs.Parts.{path_is, unary_is, right_is, applied_is, first_is, second_is}
use Rattle.cir_evaluate.proofs.Parts.{chosen_is}
use Rattle.cir_evaluate.proofs.Turns.{behind, at_first, turn, stops, all_more, all_stops, all_ends}
use Rattle.cir_evaluate.proofs.Turns.{index_turn, index_stops, member_turn, member_stops, read_ends}
use Rattle.cir_evaluate.proofs.Turns.{read_stops}
use Rattle.cir_evaluate.proofs.evaluate.+evaluating.Goals as goal

-- ---- the number that an expression is
pub number-returns-in-Number-clause-value : goal.number-returns-in-Number-clause-value
number-returns-in-Number-clause-value g t c =
    λ m qs. rw (c.in-Number.is, c.from_wide.ensures) refl

pub number-returns-in_err-located-in-Place-clause-value :
    goal.number-returns-in_err-located-in-Place-clause-value
number-returns-in_err-located-in-Place-clause-value g t c =
    λ m qs. exit_gives _ _ _ _ c.from_residual.ensures.1
    (rw c.in-Place.is (c.in_err-located-in-Place.ensures.value m qs Scalar))

pub number-returns-in_ok-located-in-Place-clause-value :
    goal.number-returns-in_ok-located-in-Place-clause-value
number-returns-in_ok-located-in-Place-clause-value g t c =
    let h = c.args.here.now in
    λ m qs.
    given _ _ _ _
    (ap (λ e. value_in (context_at h m) (where_at h) h.shaded Scalar (bare e)
    (state_of c.args.frame.now c.args.world.now qs)) c.in-Place.is
    ∙ c.in_ok-located-in-Place.ensures.value m qs Scalar)
    (with_state (λ v. single (meant v)) _ _ _ c.number_at.ensures)

pub number-returns-in_err-all-in-Call-clause-value :
    goal.number-returns-in_err-all-in-Call-clause-value
number-returns-in_err-all-in-Call-clause-value g t c =
    let h = c.args.here.now in
    λ m qs. exit_gives _ _ _ _ c.from_residual-in_err-all-in-Call.ensures.1
    (call_stops (context_at h m) (where_at h) h.shaded Scalar c.in-Call.field-0 c.in-Call.field-1
    c.in-Call.meant c.args.e.now c.in-Call.arguments c.as_slice.result.now
    (state_of c.args.frame.now c.args.world.now qs) _ c.in-Call.is c.as_slice.ensures
    (c.in_err-all-in-Call.ensures.value m qs))

pub number-returns-in_err-d-in-Call-clause-value :
    goal.number-returns-in_err-d-in-Call-clause-value
number-returns-in_err-d-in-Call-clause-value g t c =
    let h = c.args.here.now in
    λ m qs. exit_gives _ _ _ _ c.from_residual-in_err-d-in-Call.ensures.1
    (refusal _ _ _
    (call_goes (context_at h m) (where_at h) h.shaded Scalar c.in-Call.field-0 c.in-Call.field-1
    c.in-Call.meant c.args.e.now c.in-Call.arguments c.as_slice.result.now
    c.as_slice-in-Call.result.now (state_of c.args.frame.now c.args.world.now qs)
    (state_of c.args.frame.now c.data.new.world qs) (map datum_of c.in_ok-all-in-Call.all.items) _
    c.in-Call.is c.as_slice.ensures c.as_slice-in-Call.ensures
    (c.in_ok-all-in-Call.ensures.value m qs) refl)
    (c.in_err-d-in-Call.ensures.value m c.args.frame.now qs))

pub number-returns-in_ok-d-in-Call-clause-value : goal.number-returns-in_ok-d-in-Call-clause-value
number-returns-in_ok-d-in-Call-clause-value g t c =
    let h = c.args.here.now in
    let d = c.in_ok-d-in-Call.d in
    let one : single (meant c.into_item.result) ≡ datum_of d =
    ap single c.into_item.ensures ∙ one_number d c.in_ok-d-in-Call.ensures.fits in
    λ m qs.
    call_goes (context_at h m) (where_at h) h.shaded Scalar c.in-Call.field-0 c.in-Call.field-1
    c.in-Call.meant c.args.e.now c.in-Call.arguments c.as_slice.result.now
    c.as_slice-in-Call.result.now (state_of c.args.frame.now c.args.world.now qs)
    (state_of c.args.frame.now c.data.new.world qs) (map datum_of c.in_ok-all-in-Call.all.items) _
    c.in-Call.is c.as_slice.ensures c.as_slice-in-Call.ensures
    (c.in_ok-all-in-Call.ensures.value m qs)
    (rw one (c.in_ok-d-in-Call.ensures.value m c.args.frame.now qs))

pub number-returns-in-Anonymous-clause-value : goal.number-returns-in-Anonymous-clause-value
number-returns-in-Anonymous-clause-value g t c = λ m qs. rw c.in-Anonymous.is c.refused.ensures

pub number-returns-in-Parentheses-clause-value : goal.number-returns-in-Parentheses-clause-value
number-returns-in-Parentheses-clause-value g t c =
    let h = c.args.here.now in
    λ m qs.
    given _ _ _ _
    (ap (λ t. value_in (context_at h m) (where_at h) h.shaded Scalar t
    (state_of c.args.frame.now c.args.world.now qs))
    (ap bare c.in-Parentheses.is ∙ ap (λ a. Parentheses (bare a)) (sym c.deref.ensures)))
    (c.number.ensures.value m qs)

pub number-returns-in-Array-clause-value : goal.number-returns-in-Array-clause-value
number-returns-in-Array-clause-value g t c = λ m qs. rw c.in-Array.is c.literal_place.ensures

pub number-returns-in_err-x-in-Unary-clause-value :
    goal.number-returns-in_err-x-in-Unary-clause-value
number-returns-in_err-x-in-Unary-clause-value g t c =
    let h = c.args.here.now in
    λ m qs.
    given _ _ _ _
    (ap (λ t. value_in (context_at h m) (where_at h) h.shaded Scalar t
    (state_of c.args.frame.now c.args.world.now qs))
    (ap bare c.in-Unary.is ∙ ap (λ a. Unary c.in-Unary.op (bare a)) (sym c.deref-in-Unary.ensures)))
    (leaves _ _ _ _ _ c.from_residual-in_err-x-in-Unary.ensures.1
    (c.in_err-x-in-Unary.ensures.value m qs))

pub number-returns-in_ok-v-in-Unary-clause-value :
    goal.number-returns-in_ok-v-in-Unary-clause-value
number-returns-in_ok-v-in-Unary-clause-value g t c =
    let h = c.args.here.now in
    let x = meant c.in_ok-x-in-Unary.x in
    λ m qs.
    ap (λ t. value_in (context_at h m) (where_at h) h.shaded Scalar t
    (state_of c.args.frame.now c.args.world.now qs))
    (ap bare c.in-Unary.is ∙ ap (λ a. Unary c.in-Unary.op (bare a)) (sym c.deref-in-Unary.ensures))
    ∙ unary_is (context_at h m) (where_at h) h.shaded c.in-Unary.op
    (bare c.deref-in-Unary.result.now) (state_of c.args.frame.now c.args.world.now qs)
    (state_of c.args.frame.now c.number-in-Unary.new.world qs) x (meant c.in_ok-v-in-Unary.v)
    (c.in_ok-x-in-Unary.ensures.value m qs)
    (c.in_ok-v-in-Unary.ensures.value ∙ ap (λ o. unary_result o x) c.op_of.ensures)

pub number-returns-in_err-x-in-Binary-clause-value :
    goal.number-returns-in_err-x-in-Binary-clause-value
number-returns-in_err-x-in-Binary-clause-value g t c =
    let h = c.args.here.now in
    λ m qs.
    given _ _ _ _
    (ap (λ t. value_in (context_at h m) (where_at h) h.shaded Scalar t
    (state_of c.args.frame.now c.args.world.now qs))
    (ap bare c.in-Binary.is
    ∙ ap (λ a. Binary c.in-Binary.op (bare a) (bare c.in-Binary.b.value))
    (sym c.deref-in-Binary.ensures)))
    (leaves _ _ _ _ _ c.from_residual-in_err-x-in-Binary.ensures.1
    (c.in_err-x-in-Binary.ensures.value m qs))

pub number-returns-in_err-y-in-Binary-clause-value :
    goal.number-returns-in_err-y-in-Binary-clause-value
number-returns-in_err-y-in-Binary-clause-value g t c =
    let h = c.args.here.now in
    let a = c.deref-in-Binary.result.now in
    let b = c.deref-in-Binary-2.result.now in
    λ m qs.
    given _ _ _ _
    (ap (λ t. value_in (context_at h m) (where_at h) h.shaded Scalar t
    (state_of c.args.frame.now c.args.world.now qs))
    (ap bare c.in-Binary.is
    ∙ ap (λ a. Binary c.in-Binary.op (bare a) (bare c.in-Binary.b.value))
    (sym c.deref-in-Binary.ensures)
    ∙ ap (λ b. Binary c.in-Binary.op (bare a) (bare b)) (sym c.deref-in-Binary-2.ensures))
    ∙ right_is (context_at h m) (where_at h) h.shaded c.in-Binary.op (bare a) (bare b)
    (state_of c.args.frame.now c.args.world.now qs)
    (state_of c.args.frame.now c.number-in-Binary.new.world qs) (meant c.in_ok-x-in-Binary.x)
    c.right_look.result (c.in_ok-x-in-Binary.ensures.value m qs) (c.right_look.ensures h.shaded))
    (leaves _ _ _ _ _ c.from_residual-in_err-y-in-Binary.ensures.1
    (c.in_err-y-in-Binary.ensures.value m qs))

pub number-returns-in_ok-y-in-Binary-clause-value :
    goal.number-returns-in_ok-y-in-Binary-clause-value
number-returns-in_ok-y-in-Binary-clause-value g t c =
    let h = c.args.here.now in
    let a = c.deref-in-Binary.result.now in
    let b = c.deref-in-Binary-2.result.now in
    λ m qs.
    given _ _ _ _
    (ap (λ t. value_in (context_at h m) (where_at h) h.shaded Scalar t
    (state_of c.args.frame.now c.args.world.now qs))
    (ap bare c.in-Binary.is
    ∙ ap (λ a. Binary c.in-Binary.op (bare a) (bare c.in-Binary.b.value))
    (sym c.deref-in-Binary.ensures)
    ∙ ap (λ b. Binary c.in-Binary.op (bare a) (bare b)) (sym c.deref-in-Binary-2.ensures))
    ∙ applied_is (context_at h m) (where_at h) h.shaded c.in-Binary.op (bare a) (bare b)
    (state_of c.args.frame.now c.args.world.now qs)
    (state_of c.args.frame.now c.number-in-Binary.new.world qs)
    (state_of c.args.frame.now c.looked_at.new.world qs) (meant c.in_ok-x-in-Binary.x)
    (meant c.in_ok-y-in-Binary.y) c.right_look.result (c.in_ok-x-in-Binary.ensures.value m qs)
    (c.right_look.ensures h.shaded) (c.in_ok-y-in-Binary.ensures.value m qs))
    (answers meant _ _ _ c.applied.ensures)

pub number-returns-in_err-x-in-Choice-clause-value :
    goal.number-returns-in_err-x-in-Choice-clause-value
number-returns-in_err-x-in-Choice-clause-value g t c =
    let h = c.args.here.now in
    λ m qs.
    given _ _ _ _
    (ap (λ t. value_in (context_at h m) (where_at h) h.shaded Scalar t
    (state_of c.args.frame.now c.args.world.now qs))
    (ap bare c.in-Choice.is
    ∙ ap (λ x. Choice (bare x) (bare c.in-Choice.a.value) (bare c.in-Choice.b.value))
    (sym c.deref-in-Choice.ensures)))
    (leaves _ _ _ _ _ c.from_residual-in_err-x-in-Choice.ensures.1
    (c.in_err-x-in-Choice.ensures.value m qs))

pub number-returns-in_err-y-in-Choice-clause-value :
    goal.number-returns-in_err-y-in-Choice-clause-value
number-returns-in_err-y-in-Choice-clause-value g t c =
    let h = c.args.here.now in
    let x = c.deref-in-Choice.result.now in
    let a = c.deref-in-Choice-2.result.now in
    λ m qs.
    given _ _ _ _
    (ap (λ t. value_in (context_at h m) (where_at h) h.shaded Scalar t
    (state_of c.args.frame.now c.args.world.now qs))
    (ap bare c.in-Choice.is
    ∙ ap (λ x. Choice (bare x) (bare c.in-Choice.a.value) (bare c.in-Choice.b.value))
    (sym c.deref-in-Choice.ensures)
    ∙ ap (λ a. Choice (bare x) (bare a) (bare c.in-Choice.b.value))
    (sym c.deref-in-Choice-2.ensures))
    ∙ first_is (context_at h m) (where_at h) h.shaded (bare x) (bare a)
    (bare c.in-Choice.b.value) (state_of c.args.frame.now c.args.world.now qs)
    (state_of c.args.frame.now c.number-in-Choice.new.world qs) (meant c.in_ok-x-in-Choice.x)
    (meant_side c.side_told-side.result) c.side_looks-first.result.0
    (c.in_ok-x-in-Choice.ensures.value m qs) c.side_told-side.ensures
    (c.side_looks-first.ensures.first h.shaded))
    (leaves _ _ _ _ _ c.from_residual-in_err-y-in-Choice.ensures.1
    (c.in_err-y-in-Choice.ensures.value m qs))

pub number-returns-in_err-z-in-Choice-clause-value :
    goal.number-returns-in_err-z-in-Choice-clause-value
number-returns-in_err-z-in-Choice-clause-value g t c =
    let h = c.args.here.now in
    let x = c.deref-in-Choice.result.now in
    let a = c.deref-in-Choice-2.result.now in
    let b = c.deref-in-Choice-3.result.now in
    λ m qs.
    given _ _ _ _
    (ap (λ t. value_in (context_at h m) (where_at h) h.shaded Scalar t
    (state_of c.args.frame.now c.args.world.now qs))
    (ap bare c.in-Choice.is
    ∙ ap (λ x. Choice (bare x) (bare c.in-Choice.a.value) (bare c.in-Choice.b.value))
    (sym c.deref-in-Choice.ensures)
    ∙ ap (λ a. Choice (bare x) (bare a) (bare c.in-Choice.b.value))
    (sym c.deref-in-Choice-2.ensures)
    ∙ ap (λ b. Choice (bare x) (bare a) (bare b)) (sym c.deref-in-Choice-3.ensures))
    ∙ second_is (context_at h m) (where_at h) h.shaded (bare x) (bare a) (bare b)
    (state_of c.args.frame.now c.args.world.now qs)
    (state_of c.args.frame.now c.number-in-Choice.new.world qs)
    (state_of c.args.frame.now c.looked_at-in-Choice.new.world qs) (meant c.in_ok-x-in-Choice.x)
    (meant c.in_ok-y-in-Choice.y) (meant_side c.side_told-side.result)
    c.side_looks-first.result.0 c.side_looks-first.result.1
    (c.in_ok-x-in-Choice.ensures.value m qs) c.side_told-side.ensures
    (c.side_looks-first.ensures.first h.shaded) (c.side_looks-first.ensures.second h.shaded)
    (c.in_ok-y-in-Choice.ensures.value m qs))
    (leaves _ _ _ _ _ c.from_residual-in_err-z-in-Choice.ensures.1
    (c.in_err-z-in-Choice.ensures.value m qs))

pub number-returns-in_ok-z-in-Choice-clause-value :
    goal.number-returns-in_ok-z-in-Choice-clause-value
number-returns-in_ok-z-in-Choice-clause-value g t c =
    let h = c.args.here.now in
    let x = c.deref-in-Choice.result.now in
    let a = c.deref-in-Choice-2.result.now in
    let b = c.deref-in-Choice-3.result.now in
    λ m qs.
    ap (λ t. value_in (context_at h m) (where_at h) h.shaded Scalar t
    (state_of c.args.frame.now c.args.world.now qs))
    (ap bare c.in-Choice.is
    ∙ ap (λ x. Choice (bare x) (bare c.in-Choice.a.value) (bare c.in-Choice.b.value))
    (sym c.deref-in-Choice.ensures)
    ∙ ap (λ a. Choice (bare x) (bare a) (bare c.in-Choice.b.value))
    (sym c.deref-in-Choice-2.ensures)
    ∙ ap (λ b. Choice (bare x) (bare a) (bare b)) (sym c.deref-in-Choice-3.ensures))
    ∙ chosen_is (context_at h m) (where_at h) h.shaded (bare x) (bare a) (bare b)
    (state_of c.args.frame.now c.args.world.now qs)
    (state_of c.args.frame.now c.number-in-Choice.new.world qs)
    (state_of c.args.frame.now c.looked_at-in-Choice.new.world qs)
    (state_of c.args.frame.now c.looked_at-in-Choice-2.new.world qs)
    (meant c.in_ok-x-in-Choice.x) (meant c.in_ok-y-in-Choice.y) (meant c.in_ok-z-in-Choice.z)
    (meant c.chosen.result) (meant_side c.side_told-side.result) c.side_looks-first.result.0
    c.side_looks-first.result.1 (c.in_ok-x-in-Choice.ensures.value m qs) c.side_told-side.ensures
    (c.side_looks-first.ensures.first h.shaded) (c.side_looks-first.ensures.second h.shaded)
    (c.in_ok-y-in-Choice.ensures.value m qs) (c.in_ok-z-in-Choice.ensures.value m qs)
    c.chosen.ensures

-- ---- the number or the array
pub datum-returns-in_err-located-in-Place-clause-value :
    goal.datum-returns-in_err-located-in-Place-clause-value
datum-returns-in_err-located-in-Place-clause-value g t c =
    λ m qs. exit_gives _ _ _ _ c.from_residual.ensures.1
    (rw c.in-Place.is (c.in_err-located-in-Place.ensures.value m qs Whole))

pub datum-returns-in_ok-located-in-Place-clause-value :
    goal.datum-returns-in_ok-located-in-Place-clause-value
datum-returns-in_ok-located-in-Place-clause-value g t c =
    let h = c.args.here.now in
    λ m qs.
    given _ _ _ _
    (ap (λ e. value_in (context_at h m) (where_at h) h.shaded Whole (bare e)
    (state_of c.args.frame.now c.args.world.now qs)) c.in-Place.is
    ∙ c.in_ok-located-in-Place.ensures.value m qs Whole)
    (with_state datum_of _ _ _ c.datum_at.ensures)

pub datum-returns-in_err-all-in-Call-clause-value :
    goal.datum-returns-in_err-all-in-Call-clause-value
datum-returns-in_err-all-in-Call-clause-value g t c =
    let h = c.args.here.now in
    λ m qs. exit_gives _ _ _ _ c.from_residual-in_err-all-in-Call.ensures.1
    (call_stops (context_at h m) (where_at h) h.shaded Whole c.in-Call.field-0 c.in-Call.field-1
    c.in-Call.meant c.args.e.now c.in-Call.arguments c.as_slice.result.now
    (state_of c.args.frame.now c.args.world.now qs) _ c.in-Call.is c.as_slice.ensures
    (c.in_err-all-in-Call.ensures.value m qs))

pub datum-returns-in_ok-all-in-Call-clause-value :
    goal.datum-returns-in_ok-all-in-Call-clause-value
datum-returns-in_ok-all-in-Call-clause-value g t c =
    let h = c.args.here.now in
    λ m qs.
    given _ _ _ _
    (call_goes (context_at h m) (where_at h) h.shaded Whole c.in-Call.field-0 c.in-Call.field-1
    c.in-Call.meant c.args.e.now c.in-Call.arguments c.as_slice.result.now
    c.as_slice-in-Call.result.now (state_of c.args.frame.now c.args.world.now qs)
    (state_of c.args.frame.now c.data.new.world qs) (map datum_of c.in_ok-all-in-Call.all.items) _
    c.in-Call.is c.as_slice.ensures c.as_slice-in-Call.ensures
    (c.in_ok-all-in-Call.ensures.value m qs) refl)
    (c.called.ensures.value m c.args.frame.now qs)

pub datum-returns-in-Parentheses-clause-value : goal.datum-returns-in-Parentheses-clause-value
datum-returns-in-Parentheses-clause-value g t c =
    let h = c.args.here.now in
    λ m qs.
    given _ _ _ _
    (ap (λ t. value_in (context_at h m) (where_at h) h.shaded Whole t
    (state_of c.args.frame.now c.args.world.now qs))
    (ap bare c.in-Parentheses.is ∙ ap (λ a. Parentheses (bare a)) (sym c.deref.ensures)))
    (c.datum.ensures.value m qs)

pub datum-returns-in_err-items-in-Array-clause-value :
    goal.datum-returns-in_err-items-in-Array-clause-value
datum-returns-in_err-items-in-Array-clause-value g t c =
    let h = c.args.here.now in
    λ m qs. exit_gives _ _ _ _ c.from_residual-in_err-items-in-Array.ensures.1
    (array_stops (context_at h m) (where_at h) h.shaded c.args.e.now c.in-Array.elements
    c.as_slice-in-Array.result.now (state_of c.args.frame.now c.args.world.now qs) _
    c.in-Array.is c.as_slice-in-Array.ensures (c.in_err-items-in-Array.ensures.value m qs))

pub datum-returns-in_ok-items-in-Array-clause-value :
    goal.datum-returns-in_ok-items-in-Array-clause-value
datum-returns-in_ok-items-in-Array-clause-value g t c =
    let h = c.args.here.now in
    λ m qs.
    given _ _ _ _
    (array_goes (context_at h m) (where_at h) h.shaded c.args.e.now c.in-Array.elements
    c.as_slice-in-Array.result.now (state_of c.args.frame.now c.args.world.now qs)
    (state_of c.args.frame.now c.data-in-Array.new.world qs)
    (map datum_of c.in_ok-items-in-Array.items.items) c.in-Array.is c.as_slice-in-Array.ensures
    (c.in_ok-items-in-Array.ensures.value m qs))
    (c.gathered.ensures.value c.args.frame.now qs)

pub datum-returns-in_err-v-in-Number-clause-value :
    goal.datum-returns-in_err-v-in-Number-clause-value
datum-returns-in_err-v-in-Number-clause-value g t c =
    let h = c.args.here.now in
    λ m qs.
    let s = state_of c.args.frame.now c.args.world.now qs in
    let k = context_at h m in
    let w = where_at h in
    let same : value_in k w h.shaded Whole (bare c.args.e.now) s
    ≡ value_in k w h.shaded Scalar (bare c.args.e.now) s =
    one_of c.in-Number.is (λ x. want_free k w h.shaded _ _ s x.1 refl)
    (λ x. want_free k w h.shaded _ _ s x.1 refl) (λ x. want_free k w h.shaded _ _ s x.2 refl)
    (λ x. want_free k w h.shaded _ _ s x.3 refl) (λ x. want_free k w h.shaded _ _ s x.3 refl) in
    exit_gives _ _ _ _ c.from_residual-in_err-v-in-Number.ensures.1
    (refusal _ _ _ same (c.in_err-v-in-Number.ensures.value m qs))

pub datum-returns-in_ok-v-in-Number-clause-value :
    goal.datum-returns-in_ok-v-in-Number-clause-value
datum-returns-in_ok-v-in-Number-clause-value g t c =
    let h = c.args.here.now in
    λ m qs.
    let s = state_of c.args.frame.now c.args.world.now qs in
    let k = context_at h m in
    let w = where_at h in
    let same : value_in k w h.shaded Whole (bare c.args.e.now) s
    ≡ value_in k w h.shaded Scalar (bare c.args.e.now) s =
    one_of c.in-Number.is (λ x. want_free k w h.shaded _ _ s x.1 refl)
    (λ x. want_free k w h.shaded _ _ s x.1 refl) (λ x. want_free k w h.shaded _ _ s x.2 refl)
    (λ x. want_free k w h.shaded _ _ s x.3 refl) (λ x. want_free k w h.shaded _ _ s x.3 refl) in
    same ∙ c.in_ok-v-in-Number.ensures.value m qs

-- ---- arguments and elements
pub data-loop-e-init : goal.data-loop-e-init
data-loop-e-init g t c =
    let h = c.args.here.now in record {
      value = λ m qs.
          let s = state_of c.args.frame.now c.args.world.now qs in
          let all = all_in (context_at h m) (where_at h) h.shaded (bare_exprs c.args.es.now) s in
          at_first all
          ∙ ap (λ (list : List _). behind (map datum_of list) all) (sym c.in_ok-all.ensures.items);
      keeps = λ m. refl;
    }

pub data-returns-in_err-d-clause-value : goal.data-returns-in_err-d-clause-value
data-returns-in_err-d-clause-value g t c =
    let h = c.args.here.now in
    let front = map datum_of c.loop-e.all.items in
    λ m qs.
    let s = state_of c.args.frame.now c.loop-e.world qs in
    let k = context_at h m in
    let w = where_at h in
    exit_gives _ _ _ _ c.from_residual-in_err-d.ensures.1
    (stops (λ es. behind front (all_in k w h.shaded (bare_exprs es) s)) c.args.es.now
    c.loop-e.e-index c.e-item.result _ _ c.loop-e-test.true c.e-item.is
    (c.loop-e.invariant.value m qs)
    (all_stops k w h.shaded front (bare c.e-item.result)
    (bare_exprs (drop (c.loop-e.e-index + 1) c.args.es.now)) s _
    (c.in_err-d.ensures.value m qs)))

pub data-loop-e-preserved : goal.data-loop-e-preserved
data-loop-e-preserved g t c =
    let h = c.args.here.now in
    let front = map datum_of c.loop-e.all.items in
    let d = datum_of c.in_ok-d.d in
    let more : map datum_of c.push.new.self.items ≡ _ =
    ap (map datum_of) c.in_ok-push.ensures.items
    ∙ map-append datum_of c.loop-e.all.items (c.in_ok-d.d ∷ []) in record {
      value = λ m qs.
          let s = state_of c.args.frame.now c.loop-e.world qs in
          let s1 = state_of c.args.frame.now c.datum.new.world qs in
          let k = context_at h m in
          let w = where_at h in
          let rest = bare_exprs (drop (c.loop-e.e-index + 1) c.args.es.now) in
          turn (λ es. behind front (all_in k w h.shaded (bare_exprs es) s)) c.args.es.now
          c.loop-e.e-index c.e-item.result _ _ c.loop-e-test.true c.e-item.is
          (c.loop-e.invariant.value m qs)
          (all_more k w h.shaded front (bare c.e-item.result) rest d s s1
          (c.in_ok-d.ensures.value m qs)
          ∙ ap (λ (list : List Datum). behind list (all_in k w h.shaded rest s1)) (sym more));
      keeps = λ m. c.in_ok-d.ensures.keeps m ∙ c.loop-e.invariant.keeps m;
    }

pub data-returns-clause-value : goal.data-returns-clause-value
data-returns-clause-value g t c =
    let h = c.args.here.now in
    λ m qs. all_ends (context_at h m) (where_at h) h.shaded (map datum_of c.loop-e.all.items)
    c.args.es.now c.loop-e.e-index (state_of c.args.frame.now c.loop-e.world qs) _
    c.loop-e-test.false (c.loop-e.invariant.value m qs)

-- ---- an operand, by how it is looked at
pub looked_at-returns-in-Skipped-clause-value : goal.looked_at-returns-in-Skipped-clause-value
looked_at-returns-in-Skipped-clause-value g t c = λ m qs. rw c.in-Skipped.is refl

pub looked_at-returns-in-Plain-clause-value : goal.looked_at-returns-in-Plain-clause-value
looked_at-returns-in-Plain-clause-value g t c =
    let h = c.args.here.now in
    λ m qs.
    given _ _ _ _
    (ap (λ look. looked_in (context_at h m) (where_at h) h.shaded look (bare c.args.e.now)
    (state_of c.args.frame.now c.args.world.now qs)) c.in-Plain.is)
    (scalar_answered meant _ _ _ (c.number.ensures.value m qs))

pub looked_at-returns-in-Dark-clause-value : goal.looked_at-returns-in-Dark-clause-value
looked_at-returns-in-Dark-clause-value g t c =
    let h = c.args.here.now in
    let dark = rw c.dark.ensures at c.number-in-Dark.ensures.value in
    λ m qs.
    given _ _ _ _
    (ap (λ look. looked_in (context_at h m) (where_at h) h.shaded look (bare c.args.e.now)
    (state_of c.args.frame.now c.args.world.now qs)) c.in-Dark.is)
    (scalar_answered meant _ _ _ (dark m qs))

pub looked_at-returns-in-Dark-clause-keeps : goal.looked_at-returns-in-Dark-clause-keeps
looked_at-returns-in-Dark-clause-keeps g t c =
    rw c.dark.ensures at c.number-in-Dark.ensures.keeps

-- ---- what a place means
pub locate-loop-accessor-init : goal.locate-loop-accessor-init
locate-loop-accessor-init g t c =
    let h = c.args.here.now in record {
      value = λ m qs want.
          ap (λ (list : List _). read_in (context_at h m) (where_at h) h.shaded want
          (Named c.args.place.now.meant) list
          (as_accessors c.as_slice-accessor-items.result.now)
          (state_of c.args.frame.now c.args.world.now qs)) (sym c.new-indices.ensures.items);
      keeps = λ m. refl;
    }

pub locate-returns-in_err-x-in-Index-clause-value :
    goal.locate-returns-in_err-x-in-Index-clause-value
locate-returns-in_err-x-in-Index-clause-value g t c =
    let h = c.args.here.now in
    let p = c.args.place.now in
    λ m qs. located_exits _ _ _ _ _ _ c.from_residual.ensures.1 (λ want.
    let k = context_at h m in
    let w = where_at h in
    let s = state_of c.args.frame.now c.args.world.now qs in
    let list = c.as_slice-accessor-items.result.now in
    index_stops k w h.shaded want (root_of c.loop-accessor.root) c.loop-accessor.indices.items
    list c.loop-accessor.accessor-index c.accessor-item.result c.in-Index.e
    (state_of c.args.frame.now c.loop-accessor.world qs) _ _ c.loop-accessor-test.true
    c.accessor-item.is c.in-Index.is (c.in_err-x-in-Index.ensures.value m qs)
    (path_is k w h.shaded want p s
    ∙ ap (λ list. read_in k w h.shaded want (Named p.meant) [] (as_accessors list) s)
    (sym c.as_slice-accessor-items.ensures)
    ∙ c.loop-accessor.invariant.value m qs want))

pub locate-returns-in_err-source-in-Member-clause-value :
    goal.locate-returns-in_err-source-in-Member-clause-value
locate-returns-in_err-source-in-Member-clause-value g t c =
    let h = c.args.here.now in
    let p = c.args.place.now in
    let r = c.reading-r.result in
    let f = frame_of c.args.frame.now (counts_of c.loop-accessor.world.added) in
    λ m qs. located_exits _ _ _ _ _ _ c.from_residual-in_err-source-in-Member.ensures.1 (λ want.
    let k = context_at h m in
    let w = where_at h in
    let s = state_of c.args.frame.now c.args.world.now qs in
    let list = c.as_slice-accessor-items.result.now in
    member_stops k w h.shaded want (root_of c.loop-accessor.root) c.loop-accessor.indices.items
    list c.loop-accessor.accessor-index c.accessor-item.result c.in-Member.name
    (state_of c.args.frame.now c.loop-accessor.world qs) _ _ c.loop-accessor-test.true
    c.accessor-item.is c.in-Member.is
    (refusal _ _ _
    (inner_is r w h.shaded c.loop-accessor.indices.items (root_of c.loop-accessor.root)
    c.in-Member.name c.as_slice-in-Member.result.now f
    (ap (λ r. where_of r.site.now) c.reading-r.ensures ∙ c.site-site.ensures)
    (ap (λ r. r.shaded) c.reading-r.ensures)
    (ap (λ r. r.indices.now) c.reading-r.ensures ∙ c.as_slice.ensures.value)
    c.as_slice-in-Member.ensures)
    (c.in_err-source-in-Member.ensures (counts_of c.loop-accessor.world.added)))
    (path_is k w h.shaded want p s
    ∙ ap (λ list. read_in k w h.shaded want (Named p.meant) [] (as_accessors list) s)
    (sym c.as_slice-accessor-items.ensures)
    ∙ c.loop-accessor.invariant.value m qs want))

pub locate-loop-accessor-preserved : goal.locate-loop-accessor-preserved
locate-loop-accessor-preserved g t c =
    let h = c.args.here.now in
    let list = c.as_slice-accessor-items.result.now in
    let i = c.loop-accessor.accessor-index in
    let before = c.loop-accessor.world in
    elim c.match-accessor.branch [
      | goal.locate-in-Index+in_ok-x-in-Index+in_ok-push-in-Index w ↦ record {
        value = λ m qs want.
            let s1 = state_of c.args.frame.now w.number.new.world qs in
            let root = root_of c.loop-accessor.root in
            let rest = as_accessors (drop (i + 1) list) in
            rw (w.root-is, w.indices-is, w.world-is)
            (index_turn (context_at h m) (where_at h) h.shaded want root
            c.loop-accessor.indices.items list i c.accessor-item.result w.in-Index.e
            (meant w.in_ok-x-in-Index.x) (state_of c.args.frame.now before qs) s1 _
            c.loop-accessor-test.true c.accessor-item.is w.in-Index.is
            (w.in_ok-x-in-Index.ensures.value m qs) (c.loop-accessor.invariant.value m qs want)
            ∙ ap (λ (o : Option ℕ). read_in (context_at h m) (where_at h) h.shaded want root
            (c.loop-accessor.indices.items ++ o ∷ []) rest s1) (sym w.number_told.ensures)
            ∙ ap (λ (list : List (Option ℕ)). read_in (context_at h m) (where_at h) h.shaded want
            root list rest s1) (sym w.in_ok-push-in-Index.ensures.items));
        keeps = λ m.
            rw w.world-is
            (w.in_ok-x-in-Index.ensures.keeps m ∙ c.loop-accessor.invariant.keeps m);
      }
      | goal.locate-in-Member+in_ok-source-in-Member w ↦ record {
        value = λ m qs want.
            let s = state_of c.args.frame.now before qs in
            let r = w.reading-r.result in
            let root = root_of c.loop-accessor.root in
            let found = origin_from w.in_ok-source-in-Member.source in
            rw (w.root-is, w.indices-is, w.world-is, w.new-indices-in-Member.ensures.items)
            (member_turn (context_at h m) (where_at h) h.shaded want root
            c.loop-accessor.indices.items list i c.accessor-item.result w.in-Member.name found s _
            c.loop-accessor-test.true c.accessor-item.is w.in-Member.is
            (inner_is r (where_at h) h.shaded c.loop-accessor.indices.items root w.in-Member.name
            w.as_slice-in-Member.result.now (frame_of c.args.frame.now (counts_of before.added))
            (ap (λ r. where_of r.site.now) w.reading-r.ensures ∙ c.site-site.ensures)
            (ap (λ r. r.shaded) w.reading-r.ensures)
            (ap (λ r. r.indices.now) w.reading-r.ensures ∙ w.as_slice.ensures.value)
            w.as_slice-in-Member.ensures
            ∙ w.in_ok-source-in-Member.ensures (counts_of before.added))
            (c.loop-accessor.invariant.value m qs want));
        keeps = λ m. rw w.world-is (c.loop-accessor.invariant.keeps m);
      }
    ]

pub locate-returns-in_err-source-clause-value : goal.locate-returns-in_err-source-clause-value
locate-returns-in_err-source-clause-value g t c =
    let h = c.args.here.now in
    let p = c.args.place.now in
    let found = c.in_err-source.ensures (counts_of c.loop-accessor.world.added) in
    λ m qs. located_exits _ _ _ _ _ _ c.from_residual-in_err-source.ensures.1 (λ want.
    let k = context_at h m in
    let w = where_at h in
    let s = state_of c.args.frame.now c.args.world.now qs in
    read_stops k w h.shaded want (root_of c.loop-accessor.root) c.loop-accessor.indices.items
    c.as_slice-accessor-items.result.now c.loop-accessor.accessor-index
    (state_of c.args.frame.now c.loop-accessor.world qs) _ _ c.loop-accessor-test.false
    (path_is k w h.shaded want p s
    ∙ ap (λ list. read_in k w h.shaded want (Named p.meant) [] (as_accessors list) s)
    (sym c.as_slice-accessor-items.ensures)
    ∙ c.loop-accessor.invariant.value m qs want)
    (rw c.site-site.ensures at found))

pub locate-returns-clause-value : goal.locate-returns-clause-value
locate-returns-clause-value g t c =
    let h = c.args.here.now in
    let p = c.args.place.now in
    let found = c.in_ok-source.ensures (counts_of c.loop-accessor.world.added) in
    λ m qs want.
    let k = context_at h m in
    let w = where_at h in
    let s = state_of c.args.frame.now c.args.world.now qs in
    read_ends k w h.shaded want (root_of c.loop-accessor.root) c.loop-accessor.indices.items
    c.as_slice-accessor-items.result.now c.loop-accessor.accessor-index
    (state_of c.args.frame.now c.loop-accessor.world qs) _ (origin_from c.in_ok-source.source)
    c.loop-accessor-test.false
    (path_is k w h.shaded want p s
    ∙ ap (λ list. read_in k w h.shaded want (Named p.meant) [] (as_accessors list) s)
    (sym c.as_slice-accessor-items.ensures)
    ∙ c.loop-accessor.invariant.value m qs want)
    (rw c.site-site.ensures at found)
