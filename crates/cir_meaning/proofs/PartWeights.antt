-- How often a number is a signal's of a body's components, while these change.
use Rattle.std.proofs.Common.{◌≡◌, ℕ, zero, suc, ◌+◌, ◌-◌, List, [], ◌∷◌, ◌++◌, length, Option}
use Rattle.std.proofs.Common.{Some, None, refl, sym, ap, subst, ◌∙◌, slice_get, slice_set, arith}
use Rattle.std.proofs.Common.{◌≤◌}
use Rattle.std.specs.List.{AllByRecursion}
use Rattle.cir_meaning.specs.Frame.{SignalEntry, Signals, Part, Sizes, Maker, entry_at}
use Rattle.cir_meaning.specs.Run.{Wires, Table, RunPart}
use Rattle.cir_meaning.specs.RunBodies.{port_tables}
use Rattle.cir_meaning.proofs.Rows.{all_set, all_append}
use Rattle.cir_meaning.proofs.KnownCalls.{all_get}
use Rattle.cir_meaning.proofs.GroupSizes.{Less, less_then, Fits, less_itself}
use Rattle.cir_meaning.proofs.Weights.{inside, cover, cover_entries, cover_tables, cover_join}
use Rattle.cir_meaning.proofs.Weights.{cover_alike, weight_of, under, Bounded, bounded_before}
use Rattle.cir_meaning.proofs.Weights.{under_less}
use Rattle.cir_meaning.proofs.Standing.{Start, SameEntry, SameShapes, made_of, world_of, made_ports}
use Rattle.cir_meaning.proofs.Standing.{part_weight, parts_weight, PartWeighs, Numbered}

-- the same signals cover the same numbers
pub same_cover : (m : ℕ) (old new : Signals) → SameShapes old new → SameShapes new old
    → cover_entries m old ≡ cover_entries m new
same_cover m old new shapes back =
    cover_alike m old new (λ n. at n (entry_at old n) refl (entry_at new n) refl)
  where
    at : (n : ℕ) (o : Option SignalEntry) → entry_at old n ≡ o → (k : Option SignalEntry)
        → entry_at new n ≡ k → weight_of m o ≡ weight_of m k
    at n None e None f = refl
    at n None e (Some d) f =
        let there : (x : SignalEntry) × (entry_at old n ≡ Some x) × SameEntry d x = back n d f in
        let bad : Some there.0 ≡ None = sym there.1 ∙ e in cc
    at n (Some d) e None f =
        let there : (x : SignalEntry) × (entry_at new n ≡ Some x) × SameEntry d x =
        shapes n d e in
        let bad : Some there.0 ≡ None = sym there.1 ∙ f in cc
    at n (Some d) e (Some x) f =
        let there : (y : SignalEntry) × (entry_at new n ≡ Some y) × SameEntry d y =
        shapes n d e in
        let both : Some there.0 ≡ Some x = sym there.1 ∙ f in
        let same : there.0 ≡ x = cc in
        ap (λ (k : ℕ). inside m k (length d.written)) there.2.1
        ∙ ap (λ (k : ℕ). inside m there.0.first k) there.2.2 ∙ ap (cover m) same

-- other numbers of a component's signals
module _ (make : Option Maker) (size : ℕ) (m : ℕ) where
  pub weight_put : (qs : List RunPart) (j : ℕ) (x y : RunPart) → slice_get qs j ≡ Some x
      → part_weight make size m y ≡ part_weight make size m x
      → parts_weight make size m (slice_set qs j y) ≡ parts_weight make size m qs
  weight_put [] j x y e same = refl
  weight_put (q ∷ qs) zero x y e same =
      let is : q ≡ x = cc in
      ap (λ (n : ℕ). n + parts_weight make size m qs)
      (same ∙ ap (part_weight make size m) (sym is))
  weight_put (q ∷ qs) (suc j) x y e same =
      ap (λ (n : ℕ). part_weight make size m q + n) (weight_put qs j x y e same)

  pub weight_last : (qs : List RunPart) (x : RunPart)
      → parts_weight make size m (qs ++ x ∷ [])
      ≡ parts_weight make size m qs + part_weight make size m x
  weight_last [] x = omega arith
  weight_last (q ∷ qs) x =
      let rest : parts_weight make size m (qs ++ x ∷ [])
      ≡ parts_weight make size m qs + part_weight make size m x = weight_last qs x in
      omega arith

  pub weight_ports : (q : RunPart) (wires : Wires) (within : List Table)
      → part_weight make size m (record q { ports = wires; inside = within })
      ≡ part_weight make size m q
  weight_ports q wires within =
      ap (λ t. under size (world_of q.before t).sizes m - under size q.before.sizes m)
      (made_ports make q wires within)

pub ports_weigh : (size : ℕ) (make : Option Maker) (signals : Signals) (tables : List Table)
    (q : RunPart) (wires : Wires) (within : List Table) → PartWeighs size make signals tables q
    → PartWeighs size make signals tables (record q { ports = wires; inside = within })
ports_weigh size make signals tables q wires within h =
    subst (λ t. Bounded (world_of q.before t).sizes → (m : ℕ)
    → cover_entries m signals + (cover_tables m tables + under size q.before.sizes m)
    ≡ under size (world_of q.before t).sizes m) (sym (made_ports make q wires within)) h

pub weigh_shapes : (size : ℕ) (make : Option Maker) (old new : Signals) (tables : List Table)
    (q : RunPart) → SameShapes old new → SameShapes new old
    → PartWeighs size make old tables q → PartWeighs size make new tables q
weigh_shapes size make old new tables q shapes back h few m =
    ap (λ (n : ℕ). n + (cover_tables m tables + under size q.before.sizes m))
    (sym (same_cover m old new shapes back)) ∙ h few m

-- a component with other numbers
pub put_numbered : (make : Option Maker) (start : Start) (sizes : Sizes) (signals : Signals)
    (qs : List RunPart) (j : ℕ) (x : RunPart) (wires : Wires) (within : List Table)
    → slice_get qs j ≡ Some x → Numbered make start sizes signals qs
    → Numbered make start sizes signals
    (slice_set qs j (record x { ports = wires; inside = within }))
put_numbered make start sizes signals qs j x wires within e h = (
  h.0,
  all_set (λ q. Less (world_of q.before (made_of make q)).sizes sizes) qs j
      (record x { ports = wires; inside = within }) h.1
      (subst (λ t. Less (world_of x.before t).sizes sizes)
      (sym (made_ports make x wires within))
      (all_get (λ q. Less (world_of q.before (made_of make q)).sizes sizes) qs j x h.1 e)),
  (λ few m. ap (λ (n : ℕ). cover_entries m signals
      + (n + under start.size start.world.sizes m))
      (weight_put make start.size m qs j x (record x { ports = wires; inside = within }) e
      (weight_ports make start.size m x wires within)) ∙ h.2 few m),
)

-- components that are done have all their numbers
pub parts_weigh : (make : Option Maker) (size : ℕ) (sizes : Sizes) (ps : List Part)
    (qs : List RunPart) (m : ℕ) → Bounded sizes → length qs ≡ length ps
    → AllByRecursion (λ q. Less (world_of q.before (made_of make q)).sizes sizes) qs
    → ((j : ℕ) (p : Part) → slice_get ps j ≡ Some p
    → (q : RunPart) × (slice_get qs j ≡ Some q) × PartWeighs size make p.signals q.inside q)
    → cover_tables m (port_tables ps qs) ≡ parts_weight make size m qs
parts_weigh make size sizes [] [] m few count less h = refl
parts_weigh make size sizes [] (q ∷ qs) m few count less h = cc
parts_weigh make size sizes (p ∷ ps) [] m few count less h = cc
parts_weigh make size sizes (p ∷ ps) (q ∷ qs) m few count less h =
    let first : (x : RunPart) × (Some q ≡ Some x) × PartWeighs size make p.signals x.inside x =
    h 0 p refl in
    let same : first.0 ≡ q = let both : Some q ≡ Some first.0 = first.1 in cc in
    let own : cover_entries m p.signals
    + (cover_tables m q.inside + under size q.before.sizes m)
    ≡ under size (world_of q.before (made_of make q)).sizes m =
    (subst (λ (x : RunPart). PartWeighs size make p.signals x.inside x) same first.2)
    (bounded_before (world_of q.before (made_of make q)).sizes sizes less.0 few) m in
    let counts : length qs ≡ length ps = omega arith in
    let rest : cover_tables m (port_tables ps qs) ≡ parts_weight make size m qs =
    parts_weigh make size sizes ps qs m few counts less.1 (λ j x e. h (suc j) x e) in
    let joined : cover_tables m (q.inside ++ port_tables ps qs)
    ≡ cover_tables m q.inside + cover_tables m (port_tables ps qs) =
    cover_join m q.inside (port_tables ps qs) in
    omega arith

-- a new component, that has the numbers that follow
pub more_earlier : (make : Option Maker) (before after : Sizes) (qs : List RunPart)
    → Less before after
    → AllByRecursion (λ q. Less (world_of q.before (made_of make q)).sizes before) qs
    → AllByRecursion (λ q. Less (world_of q.before (made_of make q)).sizes after) qs
more_earlier make before after [] more h = tt
more_earlier make before after (q ∷ qs) more h = (
  less_then (world_of q.before (made_of make q)).sizes before after h.0 more,
  more_earlier make before after qs more h.1,
)

sum_up : (c parts first now then all new : ℕ) → c + (parts + first) ≡ now → all ≡ parts + new
    → new ≡ then - now → now ≤ then → c + (all + first) ≡ then
sum_up c parts first now then all new h a n less = omega arith

pub last_numbered : (make : Option Maker) (start : Start) (before after : Sizes)
    (signals : Signals) (qs : List RunPart) (x : RunPart)
    → Numbered make start before signals qs → Fits after → Less before after
    → x.before.sizes ≡ before → (world_of x.before (made_of make x)).sizes ≡ after
    → Numbered make start after signals (qs ++ x ∷ [])
last_numbered make start before after signals qs x h fits more from to = (
  fits,
  all_append (λ q. Less (world_of q.before (made_of make q)).sizes after) qs (x ∷ [])
      (more_earlier make before after qs more h.1)
      (subst (λ s. Less s after) (sym to) (less_itself after), tt),
  (λ few m. sum_up (cover_entries m signals) (parts_weight make start.size m qs)
      (under start.size start.world.sizes m) (under start.size before m)
      (under start.size after m) (parts_weight make start.size m (qs ++ x ∷ []))
      (part_weight make start.size m x) (h.2 (bounded_before before after more few) m)
      (weight_last make start.size m qs x)
      (ap (λ s. under start.size s m - under start.size x.before.sizes m) to
      ∙ ap (λ s. under start.size after m - under start.size s m) from)
      (under_less start.size before after m more)),
)
