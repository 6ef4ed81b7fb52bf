-- Arrays of values, and the numbers that they have when a program runs.
use Rattle.std.proofs.Common.{◌≡◌, ℕ, zero, suc, Bool, true, false, ◌&&◌, ◌||◌, not, cond, List, []}
use Rattle.std.proofs.Common.{◌∷◌, ◌++◌, map, length, replicate, Option, Some, None, is_some}
use Rattle.std.proofs.Common.{slice_index, Result, Ok, Err, refl, sym, ap, subst, ◌∙◌}
use Rattle.std.specs.Prelude.{⊤, unwrap_or}
use Rattle.std.specs.List.{list_all}
use Rattle.cir_ast.specs.declared.refusal.Kind.{Kind}
use Rattle.cir_lc.specs.Number.{Assignment}
use Rattle.cir_meaning.specs.Tried.{Where, Tried, next, needed, found}
use Rattle.cir_ast.specs.declared.refusal.Kind.TheVariants.{OutOfBounds, ShapeDiffers}
use Rattle.cir_ast.specs.declared.refusal.Kind.TheVariants.{ReadBeforeWrite}
use Rattle.cir_meaning.specs.Places.{elements, left_of, is_inside, all_known, places_of}
use Rattle.cir_meaning.specs.Limits.{is_too_large}
use Rattle.cir_meaning.specs.Arrays.{Shaped, Datum, Want, fits, made, filled, item_at, Reach, reach}
use Rattle.cir_meaning.specs.Arrays.{read_part}
use Rattle.cir_meaning.specs.Values.{Value, Known, Linear, Quadratic, Opaque, known_number}
use Rattle.cir_meaning.specs.Frame.{SignalEntry, is_written, signal_item}
use Rattle.cir_meaning.specs.Reading.{Stored, Wired, is_readable, read_origin}
use Rattle.cir_meaning.specs.RunValues.{Numbers, index_out, bounded, all_there, option_at}
use Rattle.cir_meaning.specs.RunValues.{read_stored, read_wired, gives}
use Rattle.cir_meaning.proofs.Meaning.{Means}
use Rattle.cir_meaning.proofs.Pairs.{Pair, pair_ok, pair_bad, pair_stop, pair_needed}
use Rattle.cir_meaning.proofs.Reaching.{and_true, map_count, IndexSame, IndicesSame, left_same}
use Rattle.cir_meaning.proofs.Reaching.{inside_same, all_same, reached_pass, reached_count}

pub needed_next : {A B C : Type 0} (R : B → C → Type 0) (test : Bool) (w : Where) (kind : Kind)
    (m : Tried A) (go : A → Tried B)
    (r : Result C ℕ) → (test ≡ true → Pair R (next m go) r)
    → Pair R (next (needed test w kind m) go) r
needed_next R true w kind m go r h = h refl
needed_next R false w kind m go r h = pair_bad R _ r

module _ (E : Assignment → Type 0) where
  abbrev pub Rows : List Value → List ℕ → Type 0
  Rows [] [] = ⊤
  Rows [] (n ∷ ns) = ⊥
  Rows (v ∷ vs) [] = ⊥
  Rows (v ∷ vs) (n ∷ ns) = Means E v n × Rows vs ns

  abbrev pub Same : Datum → Numbers → Type 0
  Same d m = (m.dims ≡ d.dims) × Rows d.items m.items

  pub rows_at : (vs : List Value) (ns : List ℕ) (k : ℕ) → Rows vs ns
      → Means E (item_at vs k) (slice_index ns k)
  rows_at [] [] k h = refl
  rows_at [] (n ∷ ns) k h = absurd h
  rows_at (v ∷ vs) [] k h = absurd h
  rows_at (v ∷ vs) (n ∷ ns) zero h = h.0
  rows_at (v ∷ vs) (n ∷ ns) (suc k) h = rows_at vs ns k h.1

  pub rows_map : (f : ℕ → Value) (g : ℕ → ℕ) (places : List ℕ) → ((k : ℕ) → Means E (f k) (g k))
      → Rows (map f places) (map g places)
  rows_map f g [] h = tt
  rows_map f g (k ∷ ks) h = (h k, rows_map f g ks h)

  pub rows_join : (vs ws : List Value) (ns ms : List ℕ) → Rows vs ns → Rows ws ms
      → Rows (vs ++ ws) (ns ++ ms)
  rows_join [] ws [] ms h g = g
  rows_join [] ws (n ∷ ns) ms h g = absurd h
  rows_join (v ∷ vs) ws [] ms h g = absurd h
  rows_join (v ∷ vs) ws (n ∷ ns) ms h g = (h.0, rows_join vs ws ns ms h.1 g)

  pub rows_opaque : (count : ℕ) (ns : List ℕ) → length ns ≡ count → Rows (replicate count Opaque) ns
  rows_opaque zero [] e = tt
  rows_opaque zero (n ∷ ns) e = cc
  rows_opaque (suc count) [] e = cc
  rows_opaque (suc count) (n ∷ ns) e = (tt, rows_opaque count ns (cc))

  pub rows_count : (vs : List Value) (ns : List ℕ) → Rows vs ns → length ns ≡ length vs
  rows_count [] [] h = refl
  rows_count [] (n ∷ ns) h = absurd h
  rows_count (v ∷ vs) [] h = absurd h
  rows_count (v ∷ vs) (n ∷ ns) h = ap (λ (a : ℕ). suc a) (rows_count vs ns h.1)

  -- arrays that are too large are made on neither side
  pub rows_made : (dims : List ℕ) (vs : List Value) (ns : List ℕ) → Rows vs ns
      → Same (made dims vs) (made dims ns)
  rows_made dims vs ns h = (refl, at (is_too_large dims))
    where
      at : (b : Bool) → Rows (cond b [] vs) (cond b [] ns)
      at true = tt
      at false = h

  pub made_opaque : (dims : List ℕ) (ns : List ℕ) → length ns ≡ elements dims
      → Same (filled dims Opaque) (made dims ns)
  made_opaque dims ns e = (refl, at (is_too_large dims))
    where
      at : (b : Bool) → Rows (cond b [] (replicate (elements dims) Opaque)) (cond b [] ns)
      at true = tt
      at false = rows_opaque (elements dims) ns e

  pub index_same : (v : Value) (n : ℕ) → Means E v n → IndexSame (known_number v) n
  index_same (Known k) n h = h
  index_same (Linear f) n h = tt
  index_same (Quadratic a b c) n h = tt
  index_same Opaque n h = tt

  -- a part that is read, where the indices are inside
  part_same : (sure : Bool) (left places : List ℕ) (item : ℕ → Value) (ns : List ℕ)
      → (sure ≡ true → Rows (map item places) ns)
      → length ns ≡ elements left → Same (read_part record {
        left = left;
        is_sure = sure;
        places = places;
      } item) (made left ns)
  part_same true left places item ns h e = rows_made left (map item places) ns (h refl)
  part_same false left places item ns h e = made_opaque left ns e

  -- what indices reach
  pub record Reached (want : Want) (dims : List ℕ) (os : List (Option ℕ)) (ns : List ℕ)
      (left : List ℕ) (r : Reach) : Type 0 where
    pub is : r ≡ record {
      left = left;
      is_sure = is_some (all_known os);
      places = places_of dims
          os;
    }
    pub left_is : left_of dims (map Some ns) ≡ Some left
    pub inside : is_inside dims (map Some ns) ≡ true
    pub fit : fits want left ≡ true

  module _ {A B : Type 0} (R : A → B → Type 0) (w : Where) (shaded : Bool) (want : Want)
      (dims : List ℕ) (os : List (Option ℕ)) (ns : List ℕ)
      (go : Reach → Tried A) (on : List ℕ → List ℕ → Result B ℕ) (same : IndicesSame os ns)
      (h : (left : List ℕ) (r : Reach) → Reached want dims os ns left r → Pair R (go r)
      (on left (places_of dims (map Some ns)))) where
    inside_at : (left : List ℕ) (b : Bool) → is_inside dims os ≡ b → b ≡ true
        → left_of dims (map Some ns) ≡ Some left → is_inside dims (map Some ns) ≡ true
        → fits want left ≡ true
        → Pair R (go (cond b record {
          left = left;
          is_sure = is_some (all_known os);
          places = places_of dims os;
        } record { left = left; is_sure = false; places = [] }))
        (on left (places_of dims (map Some ns)))
    inside_at left true e t l i q = h left _ record { is = refl; left_is = l; inside = i; fit = q }
    inside_at left false e t l i q = cc

    left_at : (left : List ℕ) (o : Option (List ℕ)) → left_of dims (map Some ns) ≡ o → o ≡ Some left
        → is_inside dims (map Some ns) ≡ true
        → Pair R (next (needed (is_inside dims os || shaded) w OutOfBounds
        (needed (fits want left) w ShapeDiffers
        (Ok (cond (is_inside dims os) record {
          left = left;
          is_sure = is_some (all_known os);
          places = places_of dims os;
        } record { left = left; is_sure = false; places = [] }))))
        go)
        (on (unwrap_or o []) (places_of dims (map Some ns)))
    left_at left None e t i = cc
    left_at left (Some l) e t i =
        let same_left : l ≡ left = cc in
        subst (λ a. Pair R (next (needed (is_inside dims os || shaded) w OutOfBounds
        (needed (fits want left) w ShapeDiffers
        (Ok (cond (is_inside dims os) record {
          left = left;
          is_sure = is_some (all_known os);
          places = places_of dims os;
        } record { left = left; is_sure = false; places = [] }))))
        go)
        (on a (places_of dims (map Some ns)))) (sym same_left)
        (needed_next R (is_inside dims os || shaded) w OutOfBounds _ go _
        (λ in_bounds. needed_next R (fits want left) w ShapeDiffers _ go _
        (λ q. inside_at left (is_inside dims os) refl (inside_same dims os ns same i) (e ∙ t) i q)))

    found_at : (o : Option (List ℕ)) (b : Bool) → left_of dims os ≡ o
        → is_inside dims (map Some ns) ≡ b
        → Pair R (next (next (found w ShapeDiffers o) (λ left. needed (is_inside dims os || shaded)
        w OutOfBounds (needed (fits want left) w ShapeDiffers
        (Ok (cond (is_inside dims os) record {
          left = left;
          is_sure = is_some (all_known os);
          places = places_of dims os;
        } record { left = left; is_sure = false; places = [] })))))
        go)
        (cond b (on (unwrap_or (left_of dims (map Some ns)) []) (places_of dims (map Some ns)))
        (Err index_out))
    found_at None b e i = pair_bad R _ _
    found_at (Some left) false e i = pair_stop R _ index_out (λ no. cc)
    found_at (Some left) true e i =
        left_at left (left_of dims (map Some ns)) refl (sym (left_same dims os ns same) ∙ e) i

    pub reach_pair : Pair R (next (reach w shaded want dims os) go) (bounded dims ns on)
    reach_pair = found_at (left_of dims os) (is_inside dims (map Some ns)) refl refl

  -- a variable that is read
  pub stored_pair : (w : Where) (shaded : Bool) (want : Want) (os : List (Option ℕ)) (ns : List ℕ)
      (d : Datum) (m : Numbers) (u : ℕ)
      → Same d m → IndicesSame os ns → Pair (λ x y. Same x y.0)
      (read_origin w shaded want os (Stored d)) (read_stored m ns u)
  stored_pair w shaded want os ns d m u h same =
      subst (λ dims. Pair (λ x y. Same x y.0) (read_origin w shaded want os (Stored d))
      (bounded dims ns (λ left places. gives (made left (map (slice_index m.items) places)) u)))
      (sym h.0)
      (reach_pair (λ x y. Same x y.0) w shaded want d.dims os ns _
      (λ left places. gives (made left (map (slice_index m.items) places)) u) same (λ left r f.
      subst (λ q. Pair (λ x y. Same x y.0) (Ok (read_part q (item_at d.items)))
      (gives (made left (map (slice_index m.items) (places_of d.dims (map Some ns)))) u))
      (sym f.is)
      (pair_ok (λ x y. Same x y.0) _ _ (part_same (is_some (all_known os)) left
      (places_of d.dims os) (item_at d.items) (map (slice_index m.items)
      (places_of d.dims (map Some ns)))
      (λ sure. subst (λ is. Rows (map (item_at d.items) (places_of d.dims is))
      (map (slice_index m.items) (places_of d.dims (map Some ns))))
      (sym (all_same os ns same sure))
      (rows_map (item_at d.items) (slice_index m.items) (places_of d.dims (map Some ns))
      (λ k. rows_at d.items m.items k h.1)))
      (map_count (slice_index m.items) (places_of d.dims (map Some ns)) ∙ reached_count d.dims ns
      left f.left_is)))))

  -- a signal: what may be read has a number
  abbrev pub Wire : Bool → SignalEntry → Shaped (Option ℕ) → Type 0
  Wire may e d =
      (d.dims ≡ e.dims) × ((p : ℕ) → (may && is_written e p) ≡ true → (x : ℕ) ×
      (option_at d.items p ≡ Some x) × Means E (signal_item e p) x)

  there_more : (o : Option ℕ) (rest : List (Option ℕ)) (x : ℕ) (ns : List ℕ) → o ≡ Some x
      → all_there rest ≡ Ok ns → all_there (o ∷ rest) ≡ Ok (x ∷ ns)
  there_more None rest x ns e f = cc
  there_more (Some y) rest x ns e f =
      let same : y ≡ x = cc in ap (λ m. next m (λ ms. Ok (y ∷ ms))) f ∙ ap (λ a. Ok (a ∷ ns)) same

  all_found : (may : Bool) (e : SignalEntry) (d : Shaped (Option ℕ)) → Wire may e d
      → (places : List ℕ) → list_all (λ p. may && is_written e p) places ≡ true
      → (ns : List ℕ) × (all_there (map (option_at d.items) places) ≡ Ok ns) × Rows
      (map (signal_item e) places) ns
  all_found may e d h [] t = ([], refl, tt)
  all_found may e d h (p ∷ ps) t =
      let both : ((may && is_written e p) ≡ true) × (list_all (λ q. may && is_written e q) ps ≡
      true) = and_true (may && is_written e p) _ t in
      let one : (x : ℕ) × (option_at d.items p ≡ Some x) × Means E (signal_item e p) x = h.1 p
      both.0 in
      let others : (ns : List ℕ) × (all_there (map (option_at d.items) ps) ≡ Ok ns) × Rows
      (map (signal_item e) ps) ns = all_found may e d h ps both.1 in (
        one.0 ∷ others.0,
        there_more (option_at d.items p) (map (option_at d.items) ps) one.0
            others.0 one.1 others.1,
        (one.2, others.2),
      )

  -- where the indices are inside, what is readable may be read and is written
  all_readable : (may : Bool) (e : SignalEntry) (os : List (Option ℕ)) (places : List ℕ)
      → is_inside e.dims os ≡ true → is_readable may e os places ≡ true
      → list_all (λ p. may && is_written e p) places ≡ true
  all_readable true e os places i t = t
  all_readable false e os places i t =
      let no : (not true && list_all (is_written e) places) ≡ true = subst
      (λ b. (not b && list_all (is_written e) places) ≡ true) i t in
      cc

  wired_at : (may : Bool) (e : SignalEntry) (d : Shaped (Option ℕ)) (os : List (Option ℕ))
      (ns left : List ℕ) (u : ℕ)
      → Wire may e d → IndicesSame os ns
      → left_of e.dims (map Some ns) ≡ Some left → is_inside e.dims (map Some ns) ≡ true
      → list_all (λ p. may && is_written e p) (places_of e.dims os) ≡ true
      → Pair (λ x y. Same x y.0) (Ok (read_part record {
        left = left;
        is_sure = is_some
            (all_known os);
        places = places_of e.dims os;
      } (signal_item e)))
      (next (all_there (map (option_at d.items) (places_of e.dims (map Some ns))))
      (λ items. gives (made left items) u))
  wired_at may e d os ns left u h same l i t =
      let f : (ms : List ℕ) × (all_there (map (option_at d.items) (places_of e.dims (map Some ns)))
      ≡ Ok ms) × Rows (map (signal_item e) (places_of e.dims (map Some ns))) ms =
      all_found may e d h (places_of e.dims (map Some ns))
      (reached_pass (λ p. may && is_written e p) e.dims os ns same i t) in
      subst (λ q. Pair (λ x y. Same x y.0) (Ok
      (read_part record {
        left = left;
        is_sure = is_some (all_known os);
        places = places_of
            e.dims os;
      } (signal_item e))) (next q (λ items. gives (made left items) u))) (sym f.1)
      (pair_ok (λ x y. Same x y.0) _ _ (part_same (is_some (all_known os)) left
      (places_of e.dims os) (signal_item e) f.0
      (λ sure. subst (λ is. Rows (map (signal_item e) (places_of e.dims is)) f.0)
      (sym (all_same os ns same sure)) f.2)
      (rows_count (map (signal_item e) (places_of e.dims (map Some ns))) f.0 f.2 ∙ map_count
      (signal_item e) (places_of e.dims (map Some ns)) ∙ reached_count e.dims ns left l)))

  pub wired_pair : (w : Where) (shaded : Bool) (want : Want) (os : List (Option ℕ)) (ns : List ℕ)
      (may : Bool) (e : SignalEntry) (d : Shaped (Option ℕ)) (u : ℕ)
      → Wire may e d → IndicesSame os ns → Pair (λ x y. Same x y.0)
      (read_origin w shaded want os (Wired may e)) (read_wired d ns u)
  wired_pair w shaded want os ns may e d u h same =
      subst (λ dims. Pair (λ x y. Same x y.0) (read_origin w shaded want os (Wired may e))
      (bounded dims ns (λ left places. next (all_there (map (option_at d.items) places))
      (λ items. gives (made left items) u)))) (sym h.0)
      (reach_pair (λ x y. Same x y.0) w shaded want e.dims os ns _
      (λ left places. next (all_there (map (option_at d.items) places))
      (λ items. gives (made left items) u)) same (λ left r f.
      subst (λ q. Pair (λ x y. Same x y.0) (needed (is_readable may e os q.places)
      w ReadBeforeWrite (Ok (read_part q (signal_item e))))
      (next (all_there (map (option_at d.items) (places_of e.dims (map Some ns))))
      (λ items. gives (made left items) u))) (sym f.is)
      (pair_needed (λ x y. Same x y.0) (is_readable may e os (places_of e.dims os))
      w ReadBeforeWrite _ _ (λ t.
      wired_at may e d os ns left u h same f.left_is f.inside
      (all_readable may e os (places_of e.dims os) (inside_same e.dims os ns same f.inside) t)))))
