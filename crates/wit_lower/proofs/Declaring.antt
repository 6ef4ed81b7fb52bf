-- Declarations do what they mean.
use Rattle.std.proofs.Common.{◌≡◌, ℕ, zero, suc, ◌+◌, ◌<◌, ◌≤◌, Bool, true, false, cond, List, []}
use Rattle.std.proofs.Common.{◌∷◌, ◌++◌, length, map, replicate, Option, Some, None, refl, sym, ap}
use Rattle.std.proofs.Common.{ap₂, subst, ◌∙◌, arith, length-append}
use Rattle.std.specs.Prelude.{slice_index, slice_set, unwrap_or}
use Rattle.wit_code.specs.Table.{State}
use Rattle.cir_ast.specs.declared.program.Meant.{Meant}
use Rattle.cir_ast.specs.declared.program.Meant.TheVariants as meant
use Rattle.cir_ast.specs.Tree.{Expr, Exprs, none, more, done, Variable as Declared}
use Rattle.cir_meaning.specs.Tried.{next}
use Rattle.cir_meaning.specs.Places.{elements}
use Rattle.cir_meaning.specs.Limits.{is_too_large}
use Rattle.cir_meaning.specs.Arrays.{filled}
use Rattle.cir_meaning.specs.Texts.{list_of}
use Rattle.cir_meaning.specs.RunValues.{Numbers, Environment, Store, gives, number_in, dims_numbers}
use Rattle.cir_meaning.specs.RunStatements.{step_value, step_variable, step_variables, declared}
use Rattle.wit_lower.specs.Homes.{Homes, Scope, Ground, slots_of, row, with_variable}
use Rattle.wit_lower.specs.Pieces.{Code, zeros}
use Rattle.wit_lower.specs.Values.{shape_of, expr_code}
use Rattle.wit_lower.specs.Statements.{dims_code, known_dims, declared_scope, variable_scope}
use Rattle.wit_lower.specs.Statements.{variables_scope, value_code, variable_code, variables_code}
use Rattle.wit_lower.specs.Fits.{AreLaid, DimsFit, ValueFits, DeclarationFits, DeclaredFits}
use Rattle.wit_lower.specs.Fits.{VariablesFit}
use Rattle.wit_lower.proofs.Does.{Setting, Does, does_next, does_weaker, gives as there, HasAt}
use Rattle.wit_lower.proofs.Does.{has_front, has_back}
use Rattle.wit_lower.proofs.Frames.{Below, below_itself, below_then}
use Rattle.wit_lower.proofs.Spots.{Spot, here, body_at, IsWide, at_state, at_place}
use Rattle.wit_lower.proofs.Pieces.{zeros_go, Zeroed}
use Rattle.wit_lower.proofs.Shows.{Shows, KnownAt, shows_below}
use Rattle.wit_lower.proofs.Operators.{number_does}
use Rattle.wit_lower.proofs.Exprs.{CallsRun, expr_does}
use Rattle.wit_lower.proofs.Scopes.{shows_new, shows_outer}
use Rattle.wit_lower.proofs.Sets.{Kept, set_does}

pub kept_later : (fixed : Store → Type 0) (g : Ground) (env : Environment) (sp : Spot)
    (homes : Homes) (q q' : ℕ) (f f' : List ℕ) (u u' : ℕ) (x : Store × ℕ) (t : State)
    → Kept fixed g env sp homes q f' u' x t → length f' ≡ length f → u' ≤ u → q ≡ q'
    → Kept fixed g env sp homes q' f u x t
kept_later fixed g env sp homes q q' f f' u u' x t y size le e = record {
  slots = y.slots;
  is = y.is ∙ ap (λ i. here sp i y.slots x.1) e;
  shows = y.shows;
  stays = y.stays;
  size = y.size ∙ size;
  less = omega (arith, y.less, le);
}

-- slots that are 0 are the elements of a new variable
row_zeros : (f f' : List ℕ) (a n : ℕ) → ((k : ℕ) → k < n → slice_index f' (a + k) ≡ 0)
    → replicate n 0 ≡ row f' a n
row_zeros f f' a zero h = refl
row_zeros f f' a (suc n) h =
    let e : a + 0 ≡ a = omega arith in
    ap₂ (λ x xs. x ∷ xs) (sym (sym (ap (slice_index f') e) ∙ h 0 (omega arith)))
    (row_zeros f f' (a + 1) n (λ k l.
    let ek : a + 1 + k ≡ a + suc k = omega arith in
    ap (slice_index f') ek ∙ h (suc k) (omega (arith, l))))

filled_row : (dims f f' : List ℕ) (a : ℕ) → Zeroed f f' a (slots_of dims)
    → filled dims 0 ≡ record { dims = dims; items = row f' a (slots_of dims) }
filled_row dims f f' a z = at (is_too_large dims) (λ k l. z.got k l)
  where
    at : (b : Bool)
        → ((k : ℕ) → k < cond b 0 (elements dims) → slice_index f' (a + k) ≡ 0)
        → ◌≡◌ {A = Numbers}
        record { dims = dims; items = cond b [] (replicate (elements dims) 0) }
        record { dims = dims; items = row f' a (cond b 0 (elements dims)) }
    at true h = refl
    at false h =
        ap (λ xs. record { dims = dims; items = xs }) (row_zeros f f' a (elements dims) h)

-- dimensions
pub record Dimmed (sp : Spot) (top q : ℕ) (dims f : List ℕ) (u : ℕ) (x : List ℕ × ℕ)
    (t : State) : Type 0 where
  pub slots : List ℕ
  pub is : t ≡ here sp q slots x.1
  pub same : Below top f slots
  pub value : x.0 ≡ dims
  pub less : x.1 ≤ u

module _ (g : Ground) (s : Scope) (v : Declared Meant) where
  declared_laid : (free : ℕ → Type 0) (m : Meant) → AreLaid s.homes s.top
      → DeclaredFits free g s v m
      → AreLaid (declared_scope g s v m).homes (declared_scope g s v m).top
  declared_laid free (meant.Variable n) l fits = (omega arith, fits.small, l)
  declared_laid free meant.Other l fits = absurd fits
  declared_laid free (meant.Signal d n) l fits = absurd fits
  declared_laid free (meant.Component n) l fits = absurd fits
  declared_laid free (meant.Template n) l fits = absurd fits
  declared_laid free (meant.Function n) l fits = absurd fits

  declared_outer : (free : ℕ → Type 0) (env : Environment) (m : Meant) (store : Store)
      (f : List ℕ) → DeclaredFits free g s v m
      → Shows g env (declared_scope g s v m).homes store f → Shows g env s.homes store f
  declared_outer free env (meant.Variable n) store f fits shows =
      shows_outer g env s.homes store n
      record { base = s.top; dims = known_dims g v } f fits.fresh shows
  declared_outer free env meant.Other store f fits shows = absurd fits
  declared_outer free env (meant.Signal d n) store f fits shows = absurd fits
  declared_outer free env (meant.Component n) store f fits shows = absurd fits
  declared_outer free env (meant.Template n) store f fits shows = absurd fits
  declared_outer free env (meant.Function n) store f fits shows = absurd fits

pub variables_laid : (g : Ground) (free : ℕ → Type 0) (vs : List (Declared Meant)) (s : Scope)
    → AreLaid s.homes s.top → VariablesFit free g s vs
    → AreLaid (variables_scope g s vs).homes (variables_scope g s vs).top
variables_laid g free [] s l fits = l
variables_laid g free (v ∷ vs) s l (fv, fr) =
    variables_laid g free vs (variable_scope g s v) (declared_laid g s v free v.meant l fv) fr

pub variables_outer : (g : Ground) (env : Environment) (free : ℕ → Type 0)
    (vs : List (Declared Meant)) (s : Scope) (store : Store) (f : List ℕ)
    → VariablesFit free g s vs → Shows g env (variables_scope g s vs).homes store f
    → Shows g env s.homes store f
variables_outer g env free [] s store f fits shows = shows
variables_outer g env free (v ∷ vs) s store f (fv, fr) shows =
    declared_outer g s v free env v.meant store f fv
    (variables_outer g env free vs (variable_scope g s v) store f fr shows)

module _ (k : Setting) (sp : Spot) (params : ℕ → ℕ) (width : ℕ)
    (wide : IsWide params width (body_at k sp)) (g : Ground) (env : Environment)
    (calls : CallsRun k sp width g.keys env.call) (fixed : Store → Type 0) (free : ℕ → Type 0)
    (known : (store : Store) → fixed store → KnownAt g env store)
    (stays : (store : Store) (n : ℕ) (d : Numbers) → free n → fixed store
    → fixed (slice_set store n d))
    (room : (store : Store) (n : ℕ) → free n → fixed store → n < length store) where
  dims_do : (s : Scope) (laid : AreLaid s.homes s.top) (store : Store) (es : Exprs Meant)
      (p : ℕ) (f : List ℕ) (u : ℕ) → Shows g env s.homes store f → length f ≡ width
      → DimsFit g s.homes es → HasAt (body_at k sp) p (dims_code g s p es)
      → Does k (here sp p f u) (dims_numbers env store es u)
      (Dimmed sp s.top (p + length (dims_code g s p es))
      (map (λ e. unwrap_or (g.known e) 0) (list_of es)) f u)
  dims_do s laid store none p f u shows len fits at =
      let z : p ≡ p + 0 = omega arith in
      there k _ (here sp p f u) ([], u) record {
        slots = f;
        is = ap (λ i. here sp i f u) z;
        same = below_itself s.top f;
        value = refl;
        less = omega arith;
      }
  dims_do s laid store (more e es) p f u shows len ((fe, se), fk, fr) at =
      let one : Code = expr_code g s.homes s.top p e in
      let q : ℕ = p + length one in
      let two : Code = dims_code g s q es in
      let end : ℕ = p + length (one ++ two) in
      let rest : List ℕ = map (λ e. unwrap_or (g.known e) 0) (list_of es) in
      let Q : (List ℕ × ℕ → State → Type 0) =
      Dimmed sp s.top end (unwrap_or (g.known e) 0 ∷ rest) f u in
      number_does k sp Q (here sp p f u) (number_in env store e u)
      (λ n u1. next (dims_numbers env store es u1) (λ x. gives (n ∷ x.0) x.1)) s.top q
      (shape_of g s.homes e) f u se
      (expr_does k sp params width wide g env s.homes s.top laid store calls e s.top p f u
      (omega arith) len shows fe (has_front (body_at k sp) p one two at))
      (λ f1 v b le told.
      let n : ℕ = slice_index f1 s.top in
      let is : n ≡ unwrap_or (g.known e) 0 =
      told fk.value (λ x ex. shows.known e fk.value u x fk.told ex) ∙
      ap (λ o. unwrap_or o 0) (sym fk.told) in
      does_next k (Dimmed sp s.top (q + length two) rest f1 v) Q (here sp q f1 v)
      (dims_numbers env store es v) (λ x. gives (n ∷ x.0) x.1)
      (dims_do s laid store es q f1 v
      (shows_below g env s.homes store s.top f f1 laid b shows) (b.size ∙ len) fr
      (has_back (body_at k sp) p one two at))
      (λ x t em y. let on : q + length two ≡ end = omega (arith, length-append one two) in
      there k Q t (n ∷ x.0, x.1) record {
        slots = y.slots;
        is = y.is ∙ ap (λ i. here sp i y.slots x.1) on;
        same = below_then s.top s.top f f1 y.slots (omega arith) b y.same;
        value = ap₂ (λ a as'. a ∷ as') is y.value;
        less = omega (arith, y.less, le);
      }))

  value_does : (s : Scope) (laid : AreLaid s.homes s.top) (store : Store) (m : Meant)
      (value : Option (Expr Meant)) (p : ℕ) (f : List ℕ) (u : ℕ) → ValueFits free g s.homes m value
      → fixed store → Shows g env s.homes store f → length f ≡ width
      → HasAt (body_at k sp) p (value_code g s p m value)
      → Does k (here sp p f u) (step_value env m value store u)
      (Kept fixed g env sp s.homes (p + length (value_code g s p m value)) f u)
  value_does s laid store m None p f u fits fix shows len at =
      let z : p ≡ p + 0 = omega arith in
      there k _ (here sp p f u) (store, u) record {
        slots = f;
        is = ap (λ i. here sp i f u) z;
        shows = shows;
        stays = fix;
        size = refl;
        less = omega arith;
      }
  value_does s laid store (meant.Variable n) (Some e) p f u fits fix shows len at =
      set_does k sp params width wide g g.known env calls fixed free known stays room s laid store n
      done e p f u fits fix shows len at
  value_does s laid store meant.Other (Some e) p f u fits fix shows len at = absurd fits
  value_does s laid store (meant.Signal d n) (Some e) p f u fits fix shows len at = absurd fits
  value_does s laid store (meant.Component n) (Some e) p f u fits fix shows len at = absurd fits
  value_does s laid store (meant.Template n) (Some e) p f u fits fix shows len at = absurd fits
  value_does s laid store (meant.Function n) (Some e) p f u fits fix shows len at = absurd fits

  -- the slots of a new variable are set to 0, and then it gets its value
  declared_does : (s : Scope) (laid : AreLaid s.homes s.top) (store : Store)
      (v : Declared Meant) (n p : ℕ) (f : List ℕ) (u end : ℕ)
      → DeclarationFits free g s v n → fixed store → Shows g env s.homes store f → length f ≡ width
      → HasAt (body_at k sp) p
      (dims_code g s p v.dimensions ++ zeros s.top (slots_of (known_dims g v)))
      → ((store1 : Store) (f1 : List ℕ) (u1 : ℕ) → fixed store1
      → Shows g env (with_variable n (known_dims g v) s).homes store1 f1 → length f1 ≡ length f
      → u1 ≤ u
      → Does k (here sp (p + length (dims_code g s p v.dimensions ++
      zeros s.top (slots_of (known_dims g v)))) f1 u1) (step_value env v.meant v.value store1 u1)
      (Kept fixed g env sp (with_variable n (known_dims g v) s).homes end f u))
      → Does k (here sp p f u)
      (next (dims_numbers env store v.dimensions u)
      (λ x. step_value env v.meant v.value (declared (meant.Variable n) x.0 store) x.1))
      (Kept fixed g env sp (with_variable n (known_dims g v) s).homes end f u)
  declared_does s laid store v n p f u end fits fix shows len at on =
      let dims : List ℕ = known_dims g v in
      let one : Code = dims_code g s p v.dimensions in
      let two : Code = zeros s.top (slots_of dims) in
      let Q : (Store × ℕ → State → Type 0) =
      Kept fixed g env sp (with_variable n dims s).homes end f u in
      does_next k (Dimmed sp s.top (p + length one) dims f u) Q (here sp p f u)
      (dims_numbers env store v.dimensions u)
      (λ x. step_value env v.meant v.value (declared (meant.Variable n) x.0 store) x.1)
      (dims_do s laid store v.dimensions p f u shows len fits.dims
      (has_front (body_at k sp) p one two at))
      (λ x t em y.
      at_state k Q (here sp (p + length one) y.slots x.1) t
      (step_value env v.meant v.value (declared (meant.Variable n) x.0 store) x.1) y.is
      (zeros_go k sp params width wide Q
      (step_value env v.meant v.value (declared (meant.Variable n) x.0 store) x.1) s.top
      (slots_of dims) (p + length one) y.slots x.1 (y.same.size ∙ len)
      (has_back (body_at k sp) p one two at)
      (λ f2 z.
      let d : Numbers = record { dims = dims; items = row f2 s.top (slots_of dims) } in
      let fix1 : fixed (slice_set store n d) = stays store n d fits.may fix in
      let there_now : filled x.0 0 ≡ d =
      ap (λ ds. filled ds 0) y.value ∙ filled_row dims y.slots f2 s.top z in
      let long : p + length (one ++ two) ≡ p + length one + length two =
      omega (arith, length-append one two) in
      at_place k sp Q (p + length (one ++ two)) (p + length one + length two) f2 x.1
      (step_value env v.meant v.value (declared (meant.Variable n) x.0 store) x.1) long
      (subst (λ e. Does k (here sp (p + length (one ++ two)) f2 x.1)
      (step_value env v.meant v.value (slice_set store n e) x.1) Q) (sym there_now)
      (on (slice_set store n d) f2 x.1 fix1
      (shows_new g env s store n dims y.slots f2 laid fits.small (room store n fits.may fix)
      fits.fresh z (shows_below g env s.homes store s.top f y.slots laid y.same shows)
      (known (slice_set store n d) fix1))
      (z.size ∙ y.same.size) y.less)))))

  variable_does : (s : Scope) (laid : AreLaid s.homes s.top) (store : Store)
      (v : Declared Meant) (m : Meant) (p : ℕ) (f : List ℕ) (u : ℕ) → v.meant ≡ m
      → DeclaredFits free g s v m → fixed store → Shows g env s.homes store f → length f ≡ width
      → HasAt (body_at k sp) p (variable_code g s p v)
      → Does k (here sp p f u) (step_variable env v store u)
      (Kept fixed g env sp (variable_scope g s v).homes (p + length (variable_code g s p v)) f u)
  variable_does s laid store v (meant.Variable n) p f u e fits fix shows len at =
      subst (λ m. Does k (here sp p f u) (next (dims_numbers env store v.dimensions u)
      (λ x. step_value env v.meant v.value (declared m x.0 store) x.1))
      (Kept fixed g env sp (declared_scope g s v m).homes end f u)) (sym e)
      (declared_does s laid store v n p f u end fits fix shows len
      (has_front (body_at k sp) p two three at)
      (λ store1 f1 u1 fix1 shows1 size le.
      does_weaker k (Kept fixed g env sp inner.homes (q + length three1) f1 u1)
      (Kept fixed g env sp inner.homes end f u) (here sp q f1 u1)
      (step_value env v.meant v.value store1 u1)
      (value_does inner laid1 store1 v.meant v.value q f1 u1 fits.value fix1 shows1 (size ∙ len)
      (subst (λ z. HasAt (body_at k sp) q (value_code g z q v.meant v.value)) scopes
      (has_back (body_at k sp) p two three at)))
      (λ x t y. kept_later fixed g env sp inner.homes (q + length three1) end f f1 u u1 x t y size
      le (ap (λ z. q + length (value_code g z q v.meant v.value)) (sym scopes) ∙
      omega (arith, length-append two three)))))
    where
      two : Code
      two = dims_code g s p v.dimensions ++ zeros s.top (slots_of (known_dims g v))

      q : ℕ
      q = p + length two

      inner : Scope
      inner = with_variable n (known_dims g v) s

      scopes : variable_scope g s v ≡ inner
      scopes = ap (declared_scope g s v) e

      three : Code
      three = value_code g (variable_scope g s v) q v.meant v.value

      three1 : Code
      three1 = value_code g inner q v.meant v.value

      end : ℕ
      end = p + length (two ++ three)

      laid1 : AreLaid inner.homes inner.top
      laid1 = (omega arith, fits.small, laid)
  variable_does s laid store v meant.Other p f u e fits fix shows len at = absurd fits
  variable_does s laid store v (meant.Signal d n) p f u e fits fix shows len at = absurd fits
  variable_does s laid store v (meant.Component n) p f u e fits fix shows len at = absurd fits
  variable_does s laid store v (meant.Template n) p f u e fits fix shows len at = absurd fits
  variable_does s laid store v (meant.Function n) p f u e fits fix shows len at = absurd fits

  pub variables_do : (vs : List (Declared Meant)) (s : Scope) (laid : AreLaid s.homes s.top)
      (store : Store) (p : ℕ) (f : List ℕ) (u : ℕ) → VariablesFit free g s vs → fixed store
      → Shows g env s.homes store f → length f ≡ width
      → HasAt (body_at k sp) p (variables_code g s p vs)
      → Does k (here sp p f u) (step_variables env vs store u)
      (Kept fixed g env sp (variables_scope g s vs).homes (p + length (variables_code g s p vs)) f
      u)
  variables_do [] s laid store p f u fits fix shows len at =
      let z : p ≡ p + 0 = omega arith in
      there k _ (here sp p f u) (store, u) record {
        slots = f;
        is = ap (λ i. here sp i f u) z;
        shows = shows;
        stays = fix;
        size = refl;
        less = omega arith;
      }
  variables_do (v ∷ vs) s laid store p f u (fv, fr) fix shows len at =
      let s1 : Scope = variable_scope g s v in
      let one : Code = variable_code g s p v in
      let q : ℕ = p + length one in
      let two : Code = variables_code g s1 q vs in
      let end : ℕ = p + length (one ++ two) in
      let Q : (Store × ℕ → State → Type 0) =
      Kept fixed g env sp (variables_scope g s1 vs).homes end f u in
      does_next k (Kept fixed g env sp s1.homes q f u) Q (here sp p f u)
      (step_variable env v store u) (λ x. step_variables env vs x.0 x.1)
      (variable_does s laid store v v.meant p f u refl fv fix shows len
      (has_front (body_at k sp) p one two at))
      (λ x t em y. at_state k Q (here sp q y.slots x.1) t (step_variables env vs x.0 x.1) y.is
      (does_weaker k (Kept fixed g env sp (variables_scope g s1 vs).homes (q + length two) y.slots
      x.1) Q (here sp q y.slots x.1) (step_variables env vs x.0 x.1)
      (variables_do vs s1 (declared_laid g s v free v.meant laid fv) x.0 q y.slots x.1 fr y.stays
      y.shows (y.size ∙ len) (has_back (body_at k sp) p one two at))
      (λ z r w. kept_later fixed g env sp (variables_scope g s1 vs).homes (q + length two) end f
      y.slots u x.1 z r w y.size y.less (omega (arith, length-append one two)))))
