-- Lists that are evaluated in turn: what is found so far, and what is left.
use Rattle.std.proofs.Common.{◌≡◌, ◌∙◌, ℕ, ◌+◌, ◌<◌, ◌≤◌, Bool, true, false, List, [], ◌∷◌, ◌++◌}
use Rattle.std.proofs.Common.{length, drop, get_or, Ok, Err, ap, sym, refl, append_assoc}
use Rattle.std.specs.Prelude.{Option, Some, None}
use Rattle.std.proofs.lemmas.List.{append-nil, at_drop_all}
use Rattle.cir_ast.specs.declared.marked.Expr.{Expr as CodeExpr}
use Rattle.cir_ast.specs.declared.marked.Accessor.{Accessor as CodeAccessor}
use Rattle.cir_ast.specs.declared.marked.Accessor.TheVariants as accessor
use Rattle.cir_ast.specs.declared.program.Meant.{Meant}
use Rattle.cir_ast.specs.declared.refusal.Kind.TheVariants.{UnknownIndex}
use Rattle.cir_ast.specs.Tree.{Expr, Exprs, more, Accessors, bare, bare_exprs, as_accessors}
use Rattle.cir_arrays.specs.declared.stop.Fault.{Fault}
use Rattle.cir_arrays.specs.Stopped.{IsRefusal, Refuses}
use Rattle.cir_arrays.proofs.Exits.{exits}
use Rattle.cir_arrays.proofs.Lists.{at_read}
use Rattle.cir_meaning.specs.Tried.{Where, Tried, next, needed}
use Rattle.cir_meaning.specs.Values.{Value, known_number}
use Rattle.cir_meaning.specs.Arrays.{Datum, Want, Scalar, Whole, single, is_all_known}
use Rattle.cir_meaning.specs.Frame.{Context, State}
use Rattle.cir_meaning.specs.Reading.{Origin, Root, Found, inner_origin, origin_of, read_origin}
use Rattle.cir_meaning.specs.Evaluate.{value_in, all_in, read_in, scalar, known_at, dims_in}
use Rattle.cir_meaning.specs.Evaluate.{arguments_in, indices_in}
use Rattle.cir_evaluate.proofs.Steps.{goes, scalar_goes, refusal}

-- what is found already stands in front of what is found yet
abbrev pub behind : {A : Type 0} → List A → Tried (List A × State) → Tried (List A × State)
behind front m = next m (λ (xs, s). Ok (front ++ xs, s))

abbrev led : {A : Type 0} → A → Tried (List A × State) → Tried (List A × State)
led a m = next m (λ (xs, s). Ok (a ∷ xs, s))

pub at_first : {A : Type 0} (m : Tried (List A × State)) → m ≡ behind [] m
at_first (Ok (xs, s)) = refl
at_first (Err e) = refl

front_more : {A : Type 0} (front : List A) (a : A) (m : Tried (List A × State))
    → behind front (led a m) ≡ behind (front ++ a ∷ []) m
front_more {A} front a (Ok (xs, s)) =
    let with_list : List A → Tried (List A × State) = λ list. Ok (list, s) in
    ap with_list (sym (append_assoc front (a ∷ []) xs))
front_more front a (Err e) = refl

-- a turn of a loop over a list
pub turn : {X B : Type 0} (F : List X → Tried B) (xs : List X) (i : ℕ) (x : X) (m y : Tried B)
    → i < length xs → x ≡ get_or xs i x → m ≡ F (drop i xs) → F (x ∷ drop (i + 1) xs) ≡ y
    → m ≡ y
turn F xs i x m y h is so_far here = so_far ∙ at_read F xs i x h is ∙ here

-- and one that is refused
pub stops : {X B : Type 0} (F : List X → Tried B) (xs : List X) (i : ℕ) (x : X) (m : Tried B)
    (f : Fault) → i < length xs → x ≡ get_or xs i x → m ≡ F (drop i xs)
    → IsRefusal f (F (x ∷ drop (i + 1) xs)) → IsRefusal f m
stops F xs i x m f h is so_far here =
    refusal f m (F (x ∷ drop (i + 1) xs)) (so_far ∙ at_read F xs i x h is) here

module _ (k : Context) (w : Where) (shaded : Bool) where
  -- arguments and elements
  pub all_more : (front : List Datum) (e : Expr Meant) (es : Exprs Meant) (d : Datum)
      (s s1 : State) → value_in k w shaded Whole e s ≡ Ok (d, s1)
      → behind front (all_in k w shaded (more e es) s)
      ≡ behind (front ++ d ∷ []) (all_in k w shaded es s1)
  all_more front e es d s s1 h =
      let step : Datum × State → Tried (List Datum × State) =
      λ (d, s1). led d (all_in k w shaded es s1) in
      ap (λ m. behind front (next m step)) h ∙ front_more front d (all_in k w shaded es s1)

  pub all_stops : (front : List Datum) (e : Expr Meant) (es : Exprs Meant) (s : State)
      (f : Fault) → IsRefusal f (value_in k w shaded Whole e s)
      → IsRefusal f (behind front (all_in k w shaded (more e es) s))
  all_stops front e es s f h = exits f _ _ (exits f _ _ h)

  pub all_ends : (front : List Datum) (es : List (CodeExpr Meant)) (i : ℕ) (s : State)
      (m : Tried (List Datum × State)) → length es ≤ i
      → m ≡ behind front (all_in k w shaded (bare_exprs (drop i es)) s) → m ≡ Ok (front, s)
  all_ends front es i s m h so_far =
      let with_list : List Datum → Tried (List Datum × State) = λ list. Ok (list, s) in
      so_far ∙ at_drop_all (λ es. behind front (all_in k w shaded (bare_exprs es) s)) es i h
      ∙ ap with_list (append-nil front)

  -- dimensions
  pub dims_more : (front : List ℕ) (e : Expr Meant) (es : Exprs Meant) (x : Value) (n : ℕ)
      (s s1 : State) → value_in k w shaded Scalar e s ≡ Ok (single x, s1)
      → known_number x ≡ Some n
      → behind front (dims_in k w shaded (more e es) s)
      ≡ behind (front ++ n ∷ []) (dims_in k w shaded es s1)
  dims_more front e es x n s s1 h known =
      let step : ℕ → Tried (List ℕ × State) = λ n. led n (dims_in k w shaded es s1) in
      let turned : Value → State → Tried (List ℕ × State) =
      λ x s1. known_at w (known_number x) (λ n. led n (dims_in k w shaded es s1)) in
      ap (λ m. behind front (scalar m turned)) h
      ∙ ap (λ o. behind front (known_at w o step)) known
      ∙ front_more front n (dims_in k w shaded es s1)

  pub dims_stops : (front : List ℕ) (e : Expr Meant) (es : Exprs Meant) (s : State)
      (f : Fault) → IsRefusal f (value_in k w shaded Scalar e s)
      → IsRefusal f (behind front (dims_in k w shaded (more e es) s))
  dims_stops front e es s f h = exits f _ _ (exits f _ _ h)

  pub dims_unknown : (front : List ℕ) (e : Expr Meant) (es : Exprs Meant) (x : Value)
      (s s1 : State) (f : Fault) → value_in k w shaded Scalar e s ≡ Ok (single x, s1)
      → known_number x ≡ None → Refuses w UnknownIndex f
      → IsRefusal f (behind front (dims_in k w shaded (more e es) s))
  dims_unknown front e es x s s1 f h unknown is =
      let step : ℕ → Tried (List ℕ × State) = λ n. led n (dims_in k w shaded es s1) in
      let turned : Value → State → Tried (List ℕ × State) =
      λ x s1. known_at w (known_number x) (λ n. led n (dims_in k w shaded es s1)) in
      refusal f _ (behind front (known_at w None step))
      (ap (λ m. behind front (scalar m turned)) h
      ∙ ap (λ o. behind front (known_at w o step)) unknown) is

  pub dims_end : (front : List ℕ) (es : List (CodeExpr Meant)) (i : ℕ) (s : State)
      (m : Tried (List ℕ × State)) → length es ≤ i
      → m ≡ behind front (dims_in k w shaded (bare_exprs (drop i es)) s) → m ≡ Ok (front, s)
  dims_end front es i s m h so_far =
      let with_list : List ℕ → Tried (List ℕ × State) = λ list. Ok (list, s) in
      so_far ∙ at_drop_all (λ es. behind front (dims_in k w shaded (bare_exprs es) s)) es i h
      ∙ ap with_list (append-nil front)

  -- indices of a place that is read
  pub index_turn : (want : Want) (root : Root) (indices : List (Option ℕ))
      (list : List (CodeAccessor Meant)) (i : ℕ) (a : CodeAccessor Meant) (e : CodeExpr Meant)
      (x : Value) (s s1 : State) (m : Tried (Datum × State)) → i < length list
      → a ≡ get_or list i a → a ≡ accessor.Index e
      → value_in k w shaded Scalar (bare e) s ≡ Ok (single x, s1)
      → m ≡ read_in k w shaded want root indices (as_accessors (drop i list)) s
      → m ≡ read_in k w shaded want root (indices ++ known_number x ∷ [])
      (as_accessors (drop (i + 1) list)) s1
  index_turn want root indices list i a e x s s1 m h is which found so_far =
      turn (λ list. read_in k w shaded want root indices (as_accessors list) s) list i a m _ h is
      so_far
      (ap (λ a. read_in k w shaded want root indices (as_accessors (a ∷ drop (i + 1) list)) s) which
      ∙ scalar_goes (value_in k w shaded Scalar (bare e) s)
      (λ x s1. read_in k w shaded want root (indices ++ known_number x ∷ [])
      (as_accessors (drop (i + 1) list)) s1) x s1 _ found refl)

  pub index_stops : (want : Want) (root : Root) (indices : List (Option ℕ))
      (list : List (CodeAccessor Meant)) (i : ℕ) (a : CodeAccessor Meant) (e : CodeExpr Meant)
      (s : State) (m : Tried (Datum × State)) (f : Fault) → i < length list → a ≡ get_or list i a
      → a ≡ accessor.Index e → IsRefusal f (value_in k w shaded Scalar (bare e) s)
      → m ≡ read_in k w shaded want root indices (as_accessors (drop i list)) s → IsRefusal f m
  index_stops want root indices list i a e s m f h is which refused so_far =
      refusal f m
      (read_in k w shaded want root indices (as_accessors (accessor.Index e ∷ drop (i + 1) list)) s)
      (turn (λ list. read_in k w shaded want root indices (as_accessors list) s) list i a m _ h is
      so_far
      (ap (λ a. read_in k w shaded want root indices (as_accessors (a ∷ drop (i + 1) list)) s)
      which))
      (exits f _ _ refused)

  pub member_turn : (want : Want) (root : Root) (indices : List (Option ℕ))
      (list : List (CodeAccessor Meant)) (i : ℕ) (a : CodeAccessor Meant) (name : List ℕ)
      (o : Origin) (s : State) (m : Tried (Datum × State)) → i < length list
      → a ≡ get_or list i a → a ≡ accessor.Member name
      → inner_origin w shaded root indices name s.frame ≡ Ok o
      → m ≡ read_in k w shaded want root indices (as_accessors (drop i list)) s
      → m ≡ read_in k w shaded want (Found o) [] (as_accessors (drop (i + 1) list)) s
  member_turn want root indices list i a name o s m h is which found so_far =
      turn (λ list. read_in k w shaded want root indices (as_accessors list) s) list i a m _ h is
      so_far
      (ap (λ a. read_in k w shaded want root indices (as_accessors (a ∷ drop (i + 1) list)) s) which
      ∙ goes (inner_origin w shaded root indices name s.frame)
      (λ source. read_in k w shaded want (Found source) [] (as_accessors (drop (i + 1) list)) s)
      o _ found refl)

  pub member_stops : (want : Want) (root : Root) (indices : List (Option ℕ))
      (list : List (CodeAccessor Meant)) (i : ℕ) (a : CodeAccessor Meant) (name : List ℕ)
      (s : State) (m : Tried (Datum × State)) (f : Fault) → i < length list → a ≡ get_or list i a
      → a ≡ accessor.Member name
      → IsRefusal f (inner_origin w shaded root indices name s.frame)
      → m ≡ read_in k w shaded want root indices (as_accessors (drop i list)) s → IsRefusal f m
  member_stops want root indices list i a name s m f h is which refused so_far =
      refusal f m
      (read_in k w shaded want root indices
      (as_accessors (accessor.Member name ∷ drop (i + 1) list)) s)
      (turn (λ list. read_in k w shaded want root indices (as_accessors list) s) list i a m _ h is
      so_far
      (ap (λ a. read_in k w shaded want root indices (as_accessors (a ∷ drop (i + 1) list)) s)
      which))
      (exits f _ _ refused)

  -- no accessor is left
  pub read_ends : (want : Want) (root : Root) (indices : List (Option ℕ))
      (list : List (CodeAccessor Meant)) (i : ℕ) (s : State) (m : Tried (Datum × State))
      (o : Origin) → length list ≤ i
      → m ≡ read_in k w shaded want root indices (as_accessors (drop i list)) s
      → origin_of w root s.frame ≡ Ok o
      → m ≡ next (read_origin w shaded want indices o) (λ d. Ok (d, s))
  read_ends want root indices list i s m o h so_far found =
      so_far
      ∙ at_drop_all (λ list. read_in k w shaded want root indices (as_accessors list) s) list i h
      ∙ goes (origin_of w root s.frame)
      (λ source. next (read_origin w shaded want indices source) (λ d. Ok (d, s))) o _ found refl

  pub read_stops : (want : Want) (root : Root) (indices : List (Option ℕ))
      (list : List (CodeAccessor Meant)) (i : ℕ) (s : State) (m : Tried (Datum × State))
      (f : Fault) → length list ≤ i
      → m ≡ read_in k w shaded want root indices (as_accessors (drop i list)) s
      → IsRefusal f (origin_of w root s.frame) → IsRefusal f m
  read_stops want root indices list i s m f h so_far refused =
      refusal f m (read_in k w shaded want root indices (as_accessors []) s)
      (so_far
      ∙ at_drop_all (λ list. read_in k w shaded want root indices (as_accessors list) s) list i h)
      (exits f _ _ refused)

  -- indices of a place that is written
  module _ {A : Type 0} (go : List (Option ℕ) → Accessors Meant → State → Tried A) where
    pub indices_turn : (indices : List (Option ℕ)) (list : List (CodeAccessor Meant)) (i : ℕ)
        (a : CodeAccessor Meant) (e : CodeExpr Meant) (x : Value) (s s1 : State) (m : Tried A)
        → i < length list → a ≡ get_or list i a → a ≡ accessor.Index e
        → value_in k w shaded Scalar (bare e) s ≡ Ok (single x, s1)
        → m ≡ indices_in k w shaded indices (as_accessors (drop i list)) s go
        → m ≡ indices_in k w shaded (indices ++ known_number x ∷ [])
        (as_accessors (drop (i + 1) list)) s1 go
    indices_turn indices list i a e x s s1 m h is which found so_far =
        turn (λ list. indices_in k w shaded indices (as_accessors list) s go) list i a m _ h is
        so_far
        (ap (λ a. indices_in k w shaded indices (as_accessors (a ∷ drop (i + 1) list)) s go) which
        ∙ scalar_goes (value_in k w shaded Scalar (bare e) s)
        (λ x s1. indices_in k w shaded (indices ++ known_number x ∷ [])
        (as_accessors (drop (i + 1) list)) s1 go) x s1 _ found refl)

    pub indices_stop : (indices : List (Option ℕ)) (list : List (CodeAccessor Meant)) (i : ℕ)
        (a : CodeAccessor Meant) (e : CodeExpr Meant) (s : State) (m : Tried A) (f : Fault)
        → i < length list → a ≡ get_or list i a → a ≡ accessor.Index e
        → IsRefusal f (value_in k w shaded Scalar (bare e) s)
        → m ≡ indices_in k w shaded indices (as_accessors (drop i list)) s go → IsRefusal f m
    indices_stop indices list i a e s m f h is which refused so_far =
        refusal f m
        (indices_in k w shaded indices (as_accessors (accessor.Index e ∷ drop (i + 1) list)) s go)
        (turn (λ list. indices_in k w shaded indices (as_accessors list) s go) list i a m _ h is
        so_far
        (ap (λ a. indices_in k w shaded indices (as_accessors (a ∷ drop (i + 1) list)) s go)
        which))
        (exits f _ _ refused)

    pub indices_member : (indices : List (Option ℕ)) (list : List (CodeAccessor Meant)) (i : ℕ)
        (a : CodeAccessor Meant) (name : List ℕ) (s : State) (m : Tried A) → i < length list
        → a ≡ get_or list i a → a ≡ accessor.Member name
        → m ≡ indices_in k w shaded indices (as_accessors (drop i list)) s go
        → m ≡ go indices (as_accessors (drop i list)) s
    indices_member indices list i a name s m h is which so_far =
        turn (λ list. indices_in k w shaded indices (as_accessors list) s go) list i a m _ h is
        so_far
        (ap (λ a. indices_in k w shaded indices (as_accessors (a ∷ drop (i + 1) list)) s go) which
        ∙ ap (λ a. go indices (as_accessors (a ∷ drop (i + 1) list)) s) (sym which)
        ∙ sym (at_read (λ list. go indices (as_accessors list) s) list i a h is))

    pub indices_end : (indices : List (Option ℕ)) (list : List (CodeAccessor Meant)) (i : ℕ)
        (s : State) (m : Tried A) → length list ≤ i
        → m ≡ indices_in k w shaded indices (as_accessors (drop i list)) s go
        → m ≡ go indices (as_accessors (drop i list)) s
    indices_end indices list i s m h so_far =
        so_far
        ∙ at_drop_all (λ list. indices_in k w shaded indices (as_accessors list) s go) list i h
        ∙ sym (at_drop_all (λ list. go indices (as_accessors list) s) list i h)

-- arguments of a template
module _ (k : Context) (w : Where) where
  pub arguments_more : (front : List Datum) (e : Expr Meant) (es : Exprs Meant) (d : Datum)
      (s s1 : State) → value_in k w false Whole e s ≡ Ok (d, s1) → is_all_known d ≡ true
      → behind front (arguments_in k w (more e es) s)
      ≡ behind (front ++ d ∷ []) (arguments_in k w es s1)
  arguments_more front e es d s s1 h known =
      let step : Datum × State → Tried (List Datum × State) =
      λ (d, s1). needed (is_all_known d) w UnknownIndex (led d (arguments_in k w es s1)) in
      ap (λ m. behind front (next m step)) h
      ∙ ap (λ b. behind front (needed b w UnknownIndex (led d (arguments_in k w es s1)))) known
      ∙ front_more front d (arguments_in k w es s1)

  pub arguments_stop : (front : List Datum) (e : Expr Meant) (es : Exprs Meant) (s : State)
      (f : Fault) → IsRefusal f (value_in k w false Whole e s)
      → IsRefusal f (behind front (arguments_in k w (more e es) s))
  arguments_stop front e es s f h = exits f _ _ (exits f _ _ h)

  pub arguments_unknown : (front : List Datum) (e : Expr Meant) (es : Exprs Meant) (d : Datum)
      (s s1 : State) (f : Fault) → value_in k w false Whole e s ≡ Ok (d, s1)
      → is_all_known d ≡ false → Refuses w UnknownIndex f
      → IsRefusal f (behind front (arguments_in k w (more e es) s))
  arguments_unknown front e es d s s1 f h unknown is =
      let step : Datum × State → Tried (List Datum × State) =
      λ (d, s1). needed (is_all_known d) w UnknownIndex (led d (arguments_in k w es s1)) in
      refusal f _
      (behind front (needed false w UnknownIndex (led d (arguments_in k w es s1))))
      (ap (λ m. behind front (next m step)) h
      ∙ ap (λ b. behind front (needed b w UnknownIndex (led d (arguments_in k w es s1)))) unknown)
      is

  pub arguments_end : (front : List Datum) (es : List (CodeExpr Meant)) (i : ℕ) (s : State)
      (m : Tried (List Datum × State)) → length es ≤ i
      → m ≡ behind front (arguments_in k w (bare_exprs (drop i es)) s) → m ≡ Ok (front, s)
  arguments_end front es i s m h so_far =
      let with_list : List Datum → Tried (List Datum × State) = λ list. Ok (list, s) in
      so_far ∙ at_drop_all (λ es. behind front (arguments_in k w (bare_exprs es) s)) es i h
      ∙ ap with_list (append-nil front)
