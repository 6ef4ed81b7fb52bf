-- Linear numbers: those of lists of terms.
use Rattle.std.proofs.Common.{◌≡◌, ℕ, zero, suc, ◌+◌, ◌-◌, ◌*◌, ◌%◌, ◌<◌, ◌==◌, ◌||◌, ◌↔◌, Bool}
use Rattle.std.proofs.Common.{true, false, cond, if◌then◌else◌, List, [], ◌∷◌, ◌++◌, map, Option}
use Rattle.std.proofs.Common.{Some, None, inl, inr, arith, refl, ap, sym, subst, ◌∙◌, mod-eq_of_lt}
use Rattle.std.proofs.Common.{mod-lt, lit<}
use Rattle.std.proofs.Math.Nat.{mod-add-mod, add-mod-mod, mod-mod}
use Rattle.std.proofs.lemmas.Nat.{mul-mod_second}
use Rattle.std.proofs.lemmas.Bool.{eq-eqb, eqb-true}
use Rattle.std.proofs.lemmas.List.Elements.{All-nil, All-cons, All-head, All-tail, All-append}
use Rattle.std.proofs.lemmas.List.Elements.{All-map}
use Rattle.gold_field.specs.declared.form.Term.{Term}
use Rattle.gold_field.specs.declared.form.Constraint.{Constraint}
use Rattle.gold_field.specs.declared.gold.TheConstants.{P}
use Rattle.gold_field.specs.Rises.{RisesFrom}
use Rattle.gold_field.specs.Form.{Holds}
use Rattle.gold_field.specs.Operators.{inverse_of}
use Rattle.cir_lc.specs.declared.quad.Quad.{Quad}
use Rattle.cir_lc.specs.Number.{Assignment, Number, value_of, signal, added, scaled, negated}
use Rattle.cir_lc.specs.Terms.{IsWithin, term_of}
use Rattle.cir_lc.specs.Normal.{IsNormal, IsQuadWithin, IsConstraintWithin, constant_of, kept_of}
use Rattle.cir_lc.specs.Normal.{rest_of}
use Rattle.cir_lc.specs.Sparse.{form_of, normal_of, IsNormalForm}
use Rattle.cir_lc.specs.Substitution.{put, with_number, substituted, substitute}
use Rattle.cir_lc.specs.Merge.{total}
use Rattle.cir_lc.proofs.Totals.{total-nil, total-cons, total-append}
use Rattle.cir_lc.proofs.Values.{value-total, added_at, scaled_at}
use Rattle.cir_lc.proofs.Forms.{IsNaming, form_known, form_value, form_within, naming_within}
use Rattle.cir_lc.proofs.Forms.{naming_term, normal_known}
use Rattle.cir_lc.proofs.Changes.{multiple_value, subst_means}
use Rattle.cir_simplify.specs.Shape.{names, names_in}
use Rattle.cir_simplify.specs.Turn.{solution}
use Rattle.cir_simplify.specs.Index.{IsGood, empty}

abbrev Named : ℕ → Term → Type 0
Named n t = t.signal < n

abbrev pub IsLinear : ℕ → Number → Type 0
IsLinear n f = (ts : List Term) × IsNaming n ts × (value_of ts ≡ f)

pub linear_value : (n : ℕ) (f : Number) → IsLinear n f → value_of (form_of n f) ≡ f
linear_value n f (ts, w, e) =
    subst (λ (g : Number). value_of (form_of n g) ≡ g) e (form_value n ts w)

pub linear_within : (n : ℕ) (f : Number) → IsLinear n f → IsWithin n (form_of n f)
linear_within n f (ts, w, e) = subst (λ (g : Number). IsWithin n (form_of n g)) e (form_within n ts)

pub linear_of : (n : ℕ) (ts : List Term) → IsWithin n ts → IsLinear n (value_of ts)
linear_of n ts w = (ts, naming_within n ts w, refl)

pub value_append : (ts us : List Term) → value_of (ts ++ us) ≡ added (value_of ts) (value_of us)
value_append ts us = λ i s. at s i
  where
    at : (s : Assignment) → value_of (ts ++ us) s ≡ added (value_of ts) (value_of us) s
    at s = value-total s (ts ++ us) ∙ ap (λ (n : ℕ). n % P) (total-append s.at ts us)
        ∙ added_at ts us s

pub linear_added : (n : ℕ) (f g : Number) → IsLinear n f → IsLinear n g → IsLinear n (added f g)
linear_added n f g (ts, v, d) (us, w, e) = (
  ts ++ us,
  All-append (Named n) ts us v w,
  value_append ts us
      ∙ ap (λ (h : Number). added h (value_of us)) d ∙ ap (added f) e,
)

abbrev pub times_term : ℕ → Term → Term
times_term k t = record { signal = t.signal; coef = k * t.coef }

abbrev pub times_all : ℕ → List Term → List Term
times_all k ts = map (times_term k) ts

pub total_times : (k : ℕ) (s : ℕ → ℕ) (ts : List Term) → total s (times_all k ts) ≡ k * total s ts
total_times k s [] = omega (arith, total-nil s, ap (λ (n : ℕ). k * n) (total-nil s))
total_times k s (t ∷ ts) =
    omega (
      arith,
      total-cons s (times_term k t) (times_all k ts),
      total_times k s ts,
      ap (λ (n : ℕ). k * n) (total-cons s t ts),
    )

pub value_times : (k : ℕ) (ts : List Term) → value_of (times_all k ts) ≡ scaled k (value_of ts)
value_times k ts = λ i s. at s i
  where
    at : (s : Assignment) → value_of (times_all k ts) s ≡ scaled k (value_of ts) s
    at s = value-total s (times_all k ts) ∙ ap (λ (n : ℕ). n % P) (total_times k s.at ts)
        ∙ scaled_at k ts s

pub linear_scaled : (n k : ℕ) (f : Number) → IsLinear n f → IsLinear n (scaled k f)
linear_scaled n k f (ts, w, e) =
    (times_all k ts, All-map (Named n) (times_term k) ts w, value_times k ts ∙ ap (scaled k) e)

pub negated_is : (f : Number) → scaled (P - 1) f ≡ negated f
unfolding scaled negated
negated_is f = refl

pub linear_negated : (n : ℕ) (f : Number) → IsLinear n f → IsLinear n (negated f)
linear_negated n f l = subst (IsLinear n) (negated_is f) (linear_scaled n (P - 1) f l)

-- once a signal is the signal
pub scaled_once : (x : ℕ) → scaled 1 (signal x) ≡ signal x
unfolding scaled signal
scaled_once x = λ i s. at s i
  where
    at : (s : Assignment) → (1 * s.at x) % P ≡ s.at x
    at s = mod-eq_of_lt {n = 1 * s.at x} {m = P} (omega (arith, s.below x)) ∙ omega arith

pub linear_signal : (n x : ℕ) → x < n → IsLinear n (signal x)
linear_signal n x l =
    (term_of x 1, naming_term n x 1 l, multiple_value x 1 (term_of x 1) refl ∙ scaled_once x)

pub solution_known : (n : ℕ) (t : Term) (c f : List Term) (m : ℕ)
    → m ≡ (P - inverse_of t.coef) % P
    → value_of f ≡ added (scaled 1 (signal t.signal)) (scaled m (value_of c)) → RisesFrom 0 f
    → IsWithin n f → f ≡ solution n (record { term = t; form = c })
solution_known n t c f m em ef h w =
    form_known n f _ h w
    (ef ∙ ap (λ (g : Number). added g (scaled m (value_of c))) (scaled_once t.signal)
    ∙ ap (λ (k : ℕ). added (signal t.signal) (scaled k (value_of c))) em)

-- a number put in at one place
pub put_apart : (k v : ℕ) (s : ℕ → ℕ) (j : ℕ) → (j ≡ k → ⊥) → put k v s j ≡ s j
put_apart zero v s zero h = absurd (h refl)
put_apart zero v s (suc j) h = refl
put_apart (suc k) v s zero h = refl
put_apart (suc k) v s (suc j) h = put_apart k v (λ i. s (suc i)) j (λ e. h (ap suc e))

pub put_here : (k v : ℕ) (s : ℕ → ℕ) → put k v s k ≡ v
put_here zero v s = refl
put_here (suc k) v s = put_here k v (λ i. s (suc i))

put_mod : (k v : ℕ) (s : ℕ → ℕ) (j : ℕ) → put k v s j % P ≡ put k (v % P) s j % P
put_mod zero v s zero = sym (mod-mod v P)
put_mod zero v s (suc j) = refl
put_mod (suc k) v s zero = refl
put_mod (suc k) v s (suc j) = put_mod k v (λ i. s (suc i)) j

total_mod : (g h : ℕ → ℕ) (ts : List Term) → ((j : ℕ) → g j % P ≡ h j % P)
    → total g ts % P ≡ total h ts % P
total_mod g h [] e = ap (λ (n : ℕ). n % P) (total-nil g ∙ sym (total-nil h))
total_mod g h (t ∷ ts) e =
    ap (λ (n : ℕ). n % P) (total-cons g t ts)
    ∙ sym (mod-add-mod (t.coef * g t.signal) P (total g ts))
    ∙ sym (add-mod-mod ((t.coef * g t.signal) % P) (total g ts) P)
    ∙ ap (λ (n : ℕ). (n + total g ts % P) % P) (sym (mul-mod_second t.coef (g t.signal) P)
    ∙ ap (λ (n : ℕ). (t.coef * n) % P) (e t.signal) ∙ mul-mod_second t.coef (h t.signal) P)
    ∙ ap (λ (n : ℕ). ((t.coef * h t.signal) % P + n) % P) (total_mod g h ts e)
    ∙ add-mod-mod ((t.coef * h t.signal) % P) (total h ts) P
    ∙ mod-add-mod (t.coef * h t.signal) P (total h ts)
    ∙ ap (λ (n : ℕ). n % P) (sym (total-cons h t ts))

-- the terms of `by` in place of each term of the signal
abbrev pub instead : ℕ → List Term → Term → List Term
instead x by t = if t.signal == x then times_all t.coef by else t ∷ []

abbrev pub put_terms : ℕ → List Term → List Term → List Term
put_terms x by [] = []
put_terms x by (t ∷ ts) = instead x by t ++ put_terms x by ts

pub not_equal : (a b : ℕ) → a == b ≡ false → a ≡ b → ⊥
not_equal a b h e = let t : a == b ≡ true = eq-eqb a b e in cc

total_instead : (x : ℕ) (by : List Term) (s : ℕ → ℕ) (t : Term)
    → total s (instead x by t) ≡ t.coef * put x (total s by) s t.signal
total_instead x by s t = by_test (t.signal == x) refl
  where
    by_test : (b : Bool) → t.signal == x ≡ b → total s (cond b (times_all t.coef by) (t ∷ []))
        ≡ t.coef * put x (total s by) s t.signal
    by_test true e = total_times t.coef s by
        ∙ ap (λ (n : ℕ). t.coef * n)
        (sym (ap (put x (total s by) s) (eqb-true t.signal x e) ∙ put_here x (total s by) s))
    by_test false e =
        total-cons s t []
        ∙ omega (
          arith,
          total-nil s,
          ap (λ (n : ℕ). t.coef * n)
              (put_apart x (total s by) s t.signal (not_equal t.signal x e)),
        )

total_put : (x : ℕ) (by : List Term) (s : ℕ → ℕ) (ts : List Term)
    → total s (put_terms x by ts) ≡ total (put x (total s by) s) ts
total_put x by s [] = total-nil s ∙ sym (total-nil (put x (total s by) s))
total_put x by s (t ∷ ts) =
    total-append s (instead x by t) (put_terms x by ts)
    ∙ omega (
      arith,
      total_instead x by s t,
      total_put x by s ts,
      total-cons (put x (total s by) s) t ts,
    )

pub value_put : (x : ℕ) (by ts : List Term) → 0 < x
    → value_of (put_terms x by ts) ≡ substituted x (value_of by) (value_of ts)
unfolding substituted
value_put zero by ts h = absurd (omega arith)
value_put (suc x) by ts h = λ i s. at s i
  where
    at : (s : Assignment) → value_of (put_terms (suc x) by ts) s
        ≡ value_of ts (with_number (suc x) (value_of by s) s)
    at s =
        value-total s (put_terms (suc x) by ts)
        ∙ ap (λ (n : ℕ). n % P) (total_put (suc x) by s.at ts)
        ∙ total_mod (put (suc x) (total s.at by) s.at) (put (suc x) (value_of by s % P) s.at) ts
        (λ j. put_mod (suc x) (total s.at by) s.at j
        ∙ ap (λ (v : ℕ). put (suc x) v s.at j % P) (sym (mod-mod (total s.at by) P)
        ∙ ap (λ (n : ℕ). n % P) (sym (value-total s by))))
        ∙ sym (value-total (with_number (suc x) (value_of by s) s) ts)

naming_instead : (n x : ℕ) (by : List Term) (t : Term) → IsNaming n by → t.signal < n
    → IsNaming n (instead x by t)
naming_instead n x by t w l = by_test (t.signal == x)
  where
    by_test : (b : Bool) → IsNaming n (cond b (times_all t.coef by) (t ∷ []))
    by_test true = All-map (Named n) (times_term t.coef) by w
    by_test false = All-cons (Named n) t [] l (All-nil (Named n))

naming_put : (n x : ℕ) (by ts : List Term) → IsNaming n by → IsNaming n ts
    → IsNaming n (put_terms x by ts)
naming_put n x by [] w v = All-nil (Named n)
naming_put n x by (t ∷ ts) w v =
    All-append (Named n) (instead x by t) (put_terms x by ts)
    (naming_instead n x by t w (All-head (Named n) t ts v))
    (naming_put n x by ts w (All-tail (Named n) t ts v))

pub linear_put : (n x : ℕ) (by ts : List Term) → 0 < x → IsWithin n by → IsWithin n ts
    → IsLinear n (substituted x (value_of by) (value_of ts))
linear_put n x by ts h w v = (
  put_terms x by ts,
  naming_put n x by ts (naming_within n by w) (naming_within n ts v),
  value_put x by ts h,
)

-- the normal constraint, as a list, is normal
pub linear_rest : (n : ℕ) (q : Quad) (o p : Option ℕ) → IsQuadWithin n q
    → IsLinear n (rest_of o p q)
linear_rest n q (Some k) p w =
    linear_added n (value_of q.c) (scaled k (value_of q.b)) (linear_of n q.c w.2)
    (linear_scaled n k (value_of q.b) (linear_of n q.b w.1))
linear_rest n q None (Some k) w =
    linear_added n (value_of q.c) (scaled k (value_of q.a)) (linear_of n q.c w.2)
    (linear_scaled n k (value_of q.a) (linear_of n q.a w.0))
linear_rest n q None None w = linear_of n q.c w.2

pub normal_is : (n : ℕ) (q : Quad) → IsQuadWithin n q → IsNormal q (normal_of n q)
normal_is n q w = record {
  left = refl;
  right = refl;
  rest = linear_value n _
      (linear_negated n (rest_of (constant_of q.a) (constant_of q.b) q)
      (linear_rest n q (constant_of q.a) (constant_of q.b) w));
}

-- the constraint after a substitution holds where the one before it holds with the number put in
pub substitute_holds : (n x : ℕ) (by : List Term) (k : Constraint) (s : Assignment) → 0 < x
    → IsConstraintWithin n k → IsWithin n by → Holds s.at (substitute n x by k)
    ↔ Holds (with_number x (value_of by s) s).at k
substitute_holds n x by k s h w v =
    let la : IsLinear n (substituted x (value_of by) (value_of k.a)) =
    linear_put n x by k.a h v w.0 in
    let lb : IsLinear n (substituted x (value_of by) (value_of k.b)) =
    linear_put n x by k.b h v w.1 in
    let lc : IsLinear n (substituted x (value_of by) (value_of k.c)) =
    linear_put n x by k.c h v w.2 in
    let ld : IsLinear n (negated (substituted x (value_of by) (value_of k.c))) =
    linear_negated n _ lc in
    let q : Quad = record {
      a = form_of n (substituted x (value_of by) (value_of k.a));
      b = form_of n (substituted x (value_of by) (value_of k.b));
      c = form_of n (negated (substituted x (value_of by) (value_of k.c)));
    } in
    let within : IsQuadWithin n q =
    (linear_within n _ la, linear_within n _ lb, linear_within n _ ld) in
    subst_means x by q.a q.b (form_of n (substituted x (value_of by) (value_of k.c))) q.c k
    (substitute n x by k) (linear_value n _ la) (linear_value n _ lb) (linear_value n _ lc)
    (linear_value n _ ld ∙ ap negated (sym (linear_value n _ lc))) (normal_is n q within) s

-- where the signal isn't named nothing changes
pub or_false : (a b : Bool) → a || b ≡ false → (a ≡ false) × (b ≡ false)
or_false true b h = cc
or_false false b h = (refl, h)

pub total_unnamed : (x v : ℕ) (s : ℕ → ℕ) (ts : List Term) → names x ts ≡ false
    → total (put x v s) ts ≡ total s ts
total_unnamed x v s [] h = total-nil (put x v s) ∙ sym (total-nil s)
total_unnamed x v s (t ∷ ts) h =
    let g : (t.signal == x ≡ false) × (names x ts ≡ false) =
    or_false (t.signal == x) (names x ts) h in
    omega (
      arith,
      total-cons (put x v s) t ts,
      total-cons s t ts,
      total_unnamed x v s ts g.1,
      ap (λ (n : ℕ). t.coef * n) (put_apart x v s t.signal (not_equal t.signal x g.0)),
    )

pub number_unnamed : (x : ℕ) (by ts : List Term) → names x ts ≡ false
    → substituted x (value_of by) (value_of ts) ≡ value_of ts
unfolding substituted
number_unnamed zero by ts h = refl
number_unnamed (suc x) by ts h = λ i s. at s i
  where
    at : (s : Assignment) → value_of ts (with_number (suc x) (value_of by s) s) ≡ value_of ts s
    at s =
        value-total (with_number (suc x) (value_of by s) s) ts
        ∙ ap (λ (n : ℕ). n % P) (total_unnamed (suc x) (value_of by s % P) s.at ts h)
        ∙ sym (value-total s ts)

twice : (c : ℕ) → c < P → ((P - 1) * (((P - 1) * c) % P)) % P ≡ c
twice c h = omega arith

twice_more : (c b : ℕ) → c < P → ((P - 1) * ((((P - 1) * c) % P + (0 * b) % P) % P)) % P ≡ c
twice_more c b h = omega arith

value_small : (ts : List Term) (s : Assignment) → value_of ts s < P
unfolding value_of
value_small ts s = mod-lt _ (lit< tt)

negated_twice : (ts : List Term) → negated (negated (value_of ts)) ≡ value_of ts
unfolding negated
negated_twice ts = λ i s. twice (value_of ts s) (value_small ts s) i

pub negated_more : (ts us : List Term)
    → negated (added (negated (value_of ts)) (scaled 0 (value_of us))) ≡ value_of ts
unfolding negated added scaled
negated_more ts us = λ i s. twice_more (value_of ts s) (value_of us s) (value_small ts s) i

normal_back : (n : ℕ) (k : Constraint) (m : List Term) → IsGood n k
    → value_of m ≡ negated (value_of k.c) → IsNormalForm k
    → IsNormal (record { a = k.a; b = k.b; c = m }) k
normal_back n k m g e (inl (ea, eb)) =
    let none : constant_of k.a ≡ Some 0 = ap constant_of ea in
    record {
      left = ea ∙ sym (ap (λ (o : Option ℕ). kept_of o (constant_of k.b) k.a) none);
      right = eb ∙ sym (ap (λ (o : Option ℕ). kept_of o (constant_of k.b) k.b) none);
      rest =
          sym (ap (λ (o : Option ℕ). negated
          (rest_of o (constant_of k.b) (record { a = k.a; b = k.b; c = m }))) none
          ∙ ap (λ (f : Number). negated (added f (scaled 0 (value_of k.b)))) e
          ∙ negated_more k.c k.b);
    }
normal_back n k m g e (inr (ea, eb)) = record {
  left = sym (both (λ o p. kept_of o p k.a));
  right = sym (both (λ o p. kept_of o p k.b));
  rest =
      sym (ap (λ (o : Option ℕ). negated
      (rest_of o (constant_of k.b) (record { a = k.a; b = k.b; c = m }))) ea
      ∙ ap (λ (o : Option ℕ). negated (rest_of None o (record { a = k.a; b = k.b; c = m }))) eb
      ∙ ap negated e ∙ negated_twice k.c);
}
  where
    both : (f : Option ℕ → Option ℕ → List Term) → f (constant_of k.a) (constant_of k.b)
        ≡ f None None
    both f = ap (λ (o : Option ℕ). f o (constant_of k.b)) ea ∙ ap (λ (o : Option ℕ). f None o) eb

pub unnamed : (n x : ℕ) (by : List Term) (k : Constraint) → IsGood n k → names_in x k ≡ false
    → substitute n x by k ≡ k
unnamed n x by k g h =
    let t : (names x k.a || names x k.b ≡ false) × (names x k.c ≡ false) =
    or_false (names x k.a || names x k.b) (names x k.c) h in
    let u : (names x k.a ≡ false) × (names x k.b ≡ false) =
    or_false (names x k.a) (names x k.b) t.0 in
    let ea : form_of n (substituted x (value_of by) (value_of k.a)) ≡ k.a =
    ap (form_of n) (number_unnamed x by k.a u.0)
    ∙ sym (form_known n k.a _ g.rises.0 g.within.0 refl) in
    let eb : form_of n (substituted x (value_of by) (value_of k.b)) ≡ k.b =
    ap (form_of n) (number_unnamed x by k.b u.1)
    ∙ sym (form_known n k.b _ g.rises.1 g.within.1 refl) in
    let m : List Term = form_of n (negated (value_of k.c)) in
    let ec : form_of n (negated (substituted x (value_of by) (value_of k.c))) ≡ m =
    ap (λ (f : Number). form_of n (negated f)) (number_unnamed x by k.c t.1) in
    let value : value_of m ≡ negated (value_of k.c) =
    linear_value n _ (linear_negated n _ (linear_of n k.c g.within.2)) in
    let parts : substitute n x by k ≡ normal_of n (record { a = k.a; b = k.b; c = m }) =
    λ i. normal_of n (record { a = ea i; b = eb i; c = ec i }) in
    parts ∙ sym
    (normal_known n (record { a = k.a; b = k.b; c = m }) k (normal_back n k m g value g.normal)
    g.rises.2 g.within.2)

pub empty_good : (n : ℕ) → IsGood n empty
empty_good n = record {
  normal = inl (refl, refl);
  rises = (tt, tt, tt);
  within = (
    All-nil (λ (t : Term). (t.signal < n) × (t.coef < P)),
    All-nil (λ (t : Term). (t.signal < n) × (t.coef < P)),
    All-nil (λ (t : Term). (t.signal < n) × (t.coef < P)),
  );
}
