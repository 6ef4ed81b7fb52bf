-- A linear combination in place of a signal.
use Rattle.std.proofs.Common.{◌≡◌, ℕ, zero, suc, ◌+◌, ◌-◌, ◌*◌, ◌%◌, ◌<◌, ◌↔◌, ◌/◌, List, [], ◌∷◌}
use Rattle.std.proofs.Common.{◌++◌, length, get_or, take, sum_by, arith, refl, ap, sym, ◌∙◌, inl}
use Rattle.std.proofs.Common.{inr, ◌⊎◌, Option, Some, None, mod-lt, lit<}
use Rattle.std.proofs.Math.Nat.{mod-add-mod, add-mod-mod, add-mul-mod_self_right, add_comm}
use Rattle.std.proofs.lemmas.Bool.{cases_lt}
use Rattle.std.proofs.lemmas.List.Sums.{sum_by_more}
use Rattle.std.proofs.lemmas.Nat.{mul-mod_first, mul-mod_second, div-add-mod'}
use Rattle.std.proofs.lemmas.List.Elements.{All-nil, All-cons, All-head, All-tail}
use Rattle.gold_field.specs.declared.form.Term.{Term}
use Rattle.gold_field.specs.declared.form.Constraint.{Constraint}
use Rattle.gold_field.specs.declared.gold.TheConstants.{P}
use Rattle.gold_field.specs.Form.{Holds}
use Rattle.cir_lc.specs.declared.quad.Quad.{Quad}
use Rattle.cir_lc.specs.Number.{Assignment, Number, value_of, signal, added, scaled, multiplied}
use Rattle.cir_lc.specs.Number.{negated}
use Rattle.cir_lc.specs.Coefficient.{one_at}
use Rattle.cir_lc.specs.Normal.{IsNormal, value_of_quad, constant_of, kept_of}
use Rattle.cir_lc.specs.Sparse.{IsNormalForm}
use Rattle.cir_lc.specs.Substitution.{put, with_number, substituted}
use Rattle.cir_lc.specs.Merge.{total}
use Rattle.cir_lc.specs.Terms.{term_of}
use Rattle.cir_lc.proofs.Totals.{total-nil, total-cons}
use Rattle.cir_lc.proofs.Steps.{total-term}
use Rattle.cir_lc.proofs.Known.{one_here, none_apart}
use Rattle.cir_lc.proofs.Values.{value-total, small_value, scaled_at, scaled-one}
use Rattle.cir_lc.proofs.Normals.{normal_means, scaled_minus}
use Rattle.cir_lc.proofs.Forms.{IsNaming}

-- one number put in
pub put_change : (k v : ℕ) (s : ℕ → ℕ) (j : ℕ)
    → put k v s j + one_at k j * s k ≡ s j + one_at k j * v
put_change zero v s zero = omega arith
put_change zero v s (suc j) = omega arith
put_change (suc k) v s zero = omega arith
put_change (suc k) v s (suc j) = put_change k v (λ i. s (suc i)) j

total_change : (k v : ℕ) (s : ℕ → ℕ) (ts : List Term)
    → total (put k v s) ts + total (one_at k) ts * s k ≡ total s ts + total (one_at k) ts * v
total_change k v s [] =
    omega (
      arith,
      total-nil (put k v s),
      total-nil s,
      ap (λ (c : ℕ). c * s k) (total-nil (one_at k)),
      ap (λ (c : ℕ). c * v) (total-nil (one_at k)),
    )
total_change k v s (t ∷ ts) =
    let o : ℕ = one_at k t.signal in
    let one : t.coef * (put k v s t.signal + o * s k) ≡ t.coef * (s t.signal + o * v) =
    ap (λ (n : ℕ). t.coef * n) (put_change k v s t.signal) in
    let old : total (one_at k) (t ∷ ts) * s k ≡ (t.coef * o + total (one_at k) ts) * s k =
    ap (λ (n : ℕ). n * s k) (total-cons (one_at k) t ts) in
    let new : total (one_at k) (t ∷ ts) * v ≡ (t.coef * o + total (one_at k) ts) * v =
    ap (λ (n : ℕ). n * v) (total-cons (one_at k) t ts) in
    grind (
      arith,
      one,
      old,
      new,
      total-cons (put k v s) t ts,
      total-cons s t ts,
      total_change k v s ts,
    )

-- what a sum becomes where v stands in place of one number
exchange : (a b t x v k j q : ℕ) → t ≡ q * P + k → j + k ≡ P → a + t * x ≡ b + t * v
    → a % P ≡ (b + j * x + k * v) % P
exchange a b t x v k j q e f h =
    let tx : t * x ≡ (q * P + k) * x = ap (λ (n : ℕ). n * x) e in
    let tv : t * v ≡ (q * P + k) * v = ap (λ (n : ℕ). n * v) e in
    let px : (j + k) * x ≡ P * x = ap (λ (n : ℕ). n * x) f in
    let all : a + (q * x + x) * P ≡ b + j * x + k * v + (q * v) * P = omega arith in
    sym (add-mul-mod_self_right a (q * x + x) P) ∙ ap (λ (n : ℕ). n % P) all
    ∙ add-mul-mod_self_right (b + j * x + k * v) (q * v) P

-- the sum of the parts that `changed` adds
parts_sum : (b x v k j : ℕ) → ((b % P + ((j % P) * x) % P) % P + (k * v) % P) % P
    ≡ (b + j * x + k * v) % P
parts_sum b x v k j = simp (mod-add-mod, add-mod-mod, mul-mod_first) refl

pub substituted_at : (x k : ℕ) (f by : List Term) (s : Assignment) → 0 < x
    → k ≡ total (one_at x) f % P
    → added (added (value_of f) (scaled ((P - k) % P) (signal x))) (scaled k (value_of by)) s
    ≡ substituted x (value_of by) (value_of f) s
unfolding substituted added scaled signal
substituted_at zero k f by s h e = absurd (omega arith)
substituted_at (suc x) k f by s h e =
    let t : ℕ = total (one_at (suc x)) f in
    let v : ℕ = value_of by s % P in
    let small : v ≡ value_of by s = small_value by s in
    let below : k < P = omega (arith, mod-lt t {m = P} (lit< tt)) in
    let split : t ≡ (t / P) * P + k = omega (arith, div-add-mod' t P) in
    sym (value-total (with_number (suc x) (value_of by s) s) f
    ∙ exchange (total (put (suc x) v s.at) f) (total s.at f) t (s.at (suc x)) v k (P - k)
    (t / P) split (omega arith) (total_change (suc x) v s.at f)
    ∙ sym (parts_sum (total s.at f) (s.at (suc x)) v k (P - k))
    ∙ ap (λ (n : ℕ). ((n + (((P - k) % P) * s.at (suc x)) % P) % P + (k * v) % P) % P)
    (sym (value-total s f))
    ∙ ap (λ (n : ℕ). ((value_of f s + (((P - k) % P) * s.at (suc x)) % P) % P + (k * n) % P) % P)
    small)

-- what is added for each time that the form has the signal
swap_parts : (b x v k : ℕ) → k < P
    → (b + (k * ((v + ((P - 1) * x) % P) % P)) % P) % P
    ≡ ((b + (((P - k) % P) * x) % P) % P + (k * v) % P) % P
swap_parts b x v k l =
    let j : ℕ = P - k in
    let all : j + k ≡ P = omega arith in
    let px : (j + k) * x ≡ P * x = ap (λ (n : ℕ). n * x) all in
    let same : b + k * (v + (P - 1) * x) + x * P ≡ b + j * x + k * v + (k * x) * P = omega arith in
    ap (λ (n : ℕ). (b + n) % P) (ap (λ (n : ℕ). (k * n) % P) (add-mod-mod v ((P - 1) * x) P)
    ∙ mul-mod_second k (v + (P - 1) * x) P)
    ∙ add-mod-mod b (k * (v + (P - 1) * x)) P
    ∙ sym (add-mul-mod_self_right (b + k * (v + (P - 1) * x)) x P) ∙ ap (λ (n : ℕ). n % P) same
    ∙ add-mul-mod_self_right (b + j * x + k * v) (k * x) P ∙ sym (parts_sum b x v k j)
    ∙ ap (λ (n : ℕ). (n + (k * v) % P) % P) (mod-add-mod b P ((((P - k) % P) * x) % P))

pub swap_value : (x k : ℕ) (by out : List Term) → k ≡ (P - 1) % P
    → value_of out ≡ added (scaled k (signal x)) (scaled 1 (value_of by))
    → value_of out ≡ added (value_of by) (scaled (P - 1) (signal x))
unfolding added
swap_value x k by out e h =
    h ∙ ap (λ (n : ℕ). added (scaled n (signal x)) (scaled 1 (value_of by))) e
    ∙ ap (added (scaled (P - 1) (signal x))) (scaled-one by)
    ∙ (λ i s. ap (λ (n : ℕ). n % P) (add_comm (scaled (P - 1) (signal x) s) (value_of by s)) i)

pub changed_by : (x k : ℕ) (f by swap out : List Term) → 0 < x → k ≡ total (one_at x) f % P
    → value_of swap ≡ added (value_of by) (scaled (P - 1) (signal x))
    → value_of out ≡ added (value_of f) (scaled k (value_of swap))
    → value_of out ≡ substituted x (value_of by) (value_of f)
unfolding added scaled signal
changed_by x k f by swap out h e es eo =
    eo ∙ ap (λ (g : Number). added (value_of f) (scaled k g)) es ∙ (λ i s. at s i)
  where
    below : k < P
    below = omega (arith, mod-lt (total (one_at x) f) {m = P} (lit< tt))

    at : (s : Assignment)
        → added (value_of f) (scaled k (added (value_of by) (scaled (P - 1) (signal x)))) s
        ≡ substituted x (value_of by) (value_of f) s
    at s = swap_parts (value_of f s) (s.at x) (value_of by s) k below
        ∙ substituted_at x k f by s h e

-- a form that hasn't the signal stays as it is
pub none_changed : (k : ℕ) (f swap out : List Term) → k ≡ 0 → out ≡ f
    → value_of out ≡ added (value_of f) (scaled k (value_of swap))
unfolding added scaled
none_changed k f swap out e g = ap value_of g ∙ (λ i s. sym (at s) i)
  where
    none : (v : ℕ) → (k * v) % P ≡ 0
    none v =
        let z : 0 * v ≡ 0 = omega arith in
        ap (λ (n : ℕ). (n * v) % P) e ∙ ap (λ (n : ℕ). n % P) z

    at : (s : Assignment) → (value_of f s + (k * value_of swap s) % P) % P ≡ value_of f s
    at s =
        let z : value_of f s + 0 ≡ value_of f s = omega arith in
        ap (λ (n : ℕ). (value_of f s + n) % P) (none (value_of swap s)) ∙ ap (λ (n : ℕ). n % P) z
        ∙ small_value f s

-- the number of one term
pub multiple_value : (x k : ℕ) (ts : List Term) → ts ≡ [] ++ term_of x k
    → value_of ts ≡ scaled k (signal x)
unfolding scaled signal
multiple_value x k ts e = λ i s. at s i
  where
    at : (s : Assignment) → value_of ts s ≡ scaled k (signal x) s
    at s = value-total s ts ∙ ap (λ (us : List Term). total s.at us % P) e
        ∙ ap (λ (n : ℕ). n % P) (total-term s.at x k)

total_more : (s : ℕ → ℕ) (ts : List Term) (i : ℕ) (t : Term) → i < length ts → t ≡ get_or ts i t
    → total s (take (i + 1) ts) ≡ total s (take i ts) + t.coef * s t.signal
unfolding total
total_more s ts i t l g = sum_by_more (λ (t : Term). t.coef * s t.signal) ts i t l
    ∙ ap (λ (u : Term). sum_by (λ (t : Term). t.coef * s t.signal) (take i ts)
    + u.coef * s u.signal) (sym g)

apart : (k j : ℕ) → (j ≡ k → ⊥) → (k < j) ⊎ (j < k)
apart k j h = elim (cases_lt k j) [ inl l ↦ inl l | inr m ↦ inr (omega arith) ]

-- the signal's coefficient so far
pub coef_more : (x : ℕ) (ts : List Term) (i sum new : ℕ) (t : Term) → i < length ts
    → t ≡ get_or ts i t → sum ≡ total (one_at x) (take i ts) % P
    → ((t.signal ≡ x) × (new ≡ (sum + t.coef) % P)) ⊎ ((t.signal ≡ x → ⊥) × (new ≡ sum))
    → new ≡ total (one_at x) (take (i + 1) ts) % P
coef_more x ts i sum new t l g e w =
    let more : total (one_at x) (take (i + 1) ts)
    ≡ total (one_at x) (take i ts) + t.coef * one_at x t.signal =
    total_more (one_at x) ts i t l g in
    elim w [
      | inl (a, b) ↦
          b ∙ ap (λ (n : ℕ). (n + t.coef) % P) e
          ∙ mod-add-mod (total (one_at x) (take i ts)) P t.coef
          ∙ ap (λ (n : ℕ). n % P)
          (omega (arith, more, ap (λ (n : ℕ). t.coef * n) (one_here x t.signal (sym a))))
      | inr (a, b) ↦
          b ∙ e ∙ ap (λ (n : ℕ). n % P)
          (omega (
            arith,
            more,
            ap (λ (n : ℕ). t.coef * n) (none_apart x t.signal (apart x t.signal a)),
          ))
    ]

-- minus the numbers of a list
abbrev pub negative : List Term → List Term
negative [] = []
negative (t ∷ ts) = record { signal = t.signal; coef = (P - 1) * t.coef } ∷ negative ts

negative-total : (s : ℕ → ℕ) (ts : List Term) → total s (negative ts) ≡ (P - 1) * total s ts
negative-total s [] = omega (arith, total-nil s)
negative-total s (t ∷ ts) =
    omega (
      arith,
      total-cons s (record { signal = t.signal; coef = (P - 1) * t.coef }) (negative ts),
      total-cons s t ts,
      negative-total s ts,
    )

pub negative-value : (ts : List Term) → value_of (negative ts) ≡ negated (value_of ts)
negative-value ts = (λ i s. at s i) ∙ scaled_minus (P - 1) (value_of ts) refl
  where
    at : (s : Assignment) → value_of (negative ts) s ≡ scaled (P - 1) (value_of ts) s
    at s = value-total s (negative ts) ∙ ap (λ (n : ℕ). n % P) (negative-total s.at ts)
        ∙ scaled_at (P - 1) ts s

pub negative-naming : (n : ℕ) (ts : List Term) → IsNaming n ts → IsNaming n (negative ts)
negative-naming n [] h = All-nil (λ (t : Term). t.signal < n)
negative-naming n (t ∷ ts) h =
    All-cons (λ (t : Term). t.signal < n) (record { signal = t.signal; coef = (P - 1) * t.coef })
    (negative ts) (All-head (λ (t : Term). t.signal < n) t ts h)
    (negative-naming n ts (All-tail (λ (t : Term). t.signal < n) t ts h))

-- the constraint after a substitution holds where the one before it holds with the number put in
opposite : (m c : ℕ) → m < P → c < P → (m ≡ c) ↔ ((m + ((P - 1) * c) % P) % P ≡ 0)
opposite m c lm lc = (λ e. omega arith, λ e. omega arith)

quad_means : (m c a b v : ℕ) → m ≡ (a * b) % P → v ≡ ((P - 1) * c) % P → c < P
    → (m ≡ c) ↔ (((a * b) % P + v) % P ≡ 0)
quad_means m c a b v e f l =
    let o : (m ≡ c) ↔ ((m + ((P - 1) * c) % P) % P ≡ 0) =
    opposite m c (omega (arith, mod-lt (a * b) {m = P} (lit< tt))) l in (
      λ h. let z : (m + ((P - 1) * c) % P) % P ≡ 0 = o.0 h
          in rw (← e, f) z,
      λ h. o.1 (rw (e, ← f) h),
    )

pub subst_means : (x : ℕ) (by a b rest c : List Term) (k r : Constraint)
    → value_of a ≡ substituted x (value_of by) (value_of k.a)
    → value_of b ≡ substituted x (value_of by) (value_of k.b)
    → value_of rest ≡ substituted x (value_of by) (value_of k.c)
    → value_of c ≡ negated (value_of rest) → IsNormal (record { a = a; b = b; c = c }) r
    → (s : Assignment) → Holds s.at r ↔ Holds (with_number x (value_of by s) s).at k
unfolding value_of added multiplied negated substituted
subst_means x by a b rest c k r ea eb er ec h s =
    let put' : Assignment = with_number x (value_of by s) s in
    let m : Holds s.at r ↔ (value_of_quad (record { a = a; b = b; c = c }) s ≡ 0) =
    normal_means (record { a = a; b = b; c = c }) r h s in
    let ia : value_of a s ≡ value_of k.a put' = ap (λ (f : Number). f s) ea in
    let ib : value_of b s ≡ value_of k.b put' = ap (λ (f : Number). f s) eb in
    let ic : value_of c s ≡ ((P - 1) * value_of k.c put') % P =
    ap (λ (f : Number). f s) (ec ∙ ap negated er) in
    let product : (value_of k.a put' * value_of k.b put') % P ≡ (value_of a s * value_of b s) % P =
    ap (λ (n : ℕ). (n * value_of k.b put') % P) (sym ia)
    ∙ ap (λ (n : ℕ). (value_of a s * n) % P) (sym ib) in
    let q = quad_means _ (value_of k.c put') (value_of a s) (value_of b s) (value_of c s) product ic
    (mod-lt _ (lit< tt)) in
    (λ e. q.1 (m.0 e), λ e. m.1 (q.0 e))

-- what `normal` gives is normal
pub normal_form : (q : Quad) (k : Constraint) → IsNormal q k → IsNormalForm k
normal_form q k h = by_cases (constant_of q.a) (constant_of q.b) refl refl
  where
    by_cases : (o p : Option ℕ) → constant_of q.a ≡ o → constant_of q.b ≡ p → IsNormalForm k
    by_cases (Some j) p e f =
        inl (
          h.left ∙ ap (λ (o : Option ℕ). kept_of o (constant_of q.b) q.a) e,
          h.right
              ∙ ap (λ (o : Option ℕ). kept_of o (constant_of q.b) q.b) e,
        )
    by_cases None (Some j) e f =
        inl (
          h.left ∙ ap (λ (o : Option ℕ). kept_of o (constant_of q.b) q.a) e
              ∙ ap (λ (o : Option ℕ). kept_of None o q.a) f,
          h.right ∙ ap (λ (o : Option ℕ). kept_of o (constant_of q.b) q.b) e
              ∙ ap (λ (o : Option ℕ). kept_of None o q.b) f,
        )
    by_cases None None e f =
        let a : k.a ≡ q.a = h.left ∙ ap (λ (o : Option ℕ). kept_of o (constant_of q.b) q.a) e
        ∙ ap (λ (o : Option ℕ). kept_of None o q.a) f in
        let b : k.b ≡ q.b = h.right ∙ ap (λ (o : Option ℕ). kept_of o (constant_of q.b) q.b) e
        ∙ ap (λ (o : Option ℕ). kept_of None o q.b) f in
        inr (ap constant_of a ∙ e, ap constant_of b ∙ f)
