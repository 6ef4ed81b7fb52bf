-- What holds of a signal's entry, whatever is written of it, is left by all that doesn't declare it
-- again.
use Rattle.std.proofs.Common.{◌≡◌, ◌≢◌, ◌⊎◌, inl, inr, ℕ, zero, suc, [], ◌∷◌, Option, Some, None}
use Rattle.std.proofs.Common.{refl, sym, ap, subst, ◌∙◌, slice_get}
use Rattle.cir_meaning.specs.Frame.{SignalEntry, Signals as SignalTable, Part, Frame, State}
use Rattle.cir_meaning.specs.Frame.{Context, put_at, entry_at}
use Rattle.cir_meaning.specs.Writing.{signals_of, with_part_signals, with_signals, marked}
use Rattle.cir_meaning.proofs.Good.{good_weaker}
use Rattle.cir_meaning.proofs.Likes.{Like}
use Rattle.cir_meaning.proofs.Writing.{constrained_signals}
use Rattle.cir_meaning.proofs.SignalWrites.{put_here}
use Rattle.cir_meaning.proofs.PartWrites.{same_or_not}
use Rattle.cir_meaning.proofs.Keeping.{Closed}

-- another entry than the one that is put
pub put_else : (n m : ℕ) (a : SignalEntry) (xs : SignalTable) → n ≢ m
    → entry_at (put_at n a xs) m ≡ entry_at xs m
put_else zero zero a xs ne = absurd (ne refl)
put_else zero (suc m) a [] ne = refl
put_else zero (suc m) a (x ∷ xs) ne = refl
put_else (suc n) zero a [] ne = refl
put_else (suc n) zero a (x ∷ xs) ne = refl
put_else (suc n) (suc m) a [] ne =
    put_else n m a [] (λ s. ne (ap (λ (k : ℕ). suc k) s)) ∙ empty m
  where
    empty : (m : ℕ)
        → entry_at {A = SignalEntry} [] m ≡ entry_at {A = SignalEntry} [] (suc m)
    empty m = refl
put_else (suc n) (suc m) a (x ∷ xs) ne =
    put_else n m a xs (λ s. ne (ap (λ (k : ℕ). suc k) s))

-- signals of a part are no own ones
pub part_apart : (j : ℕ) (signals : SignalTable) (o : Option Part) (f : Frame)
    → (with_part_signals j signals o f).signals ≡ f.signals
part_apart j signals None f = refl
part_apart j signals (Some p) f = refl

module _ (n : ℕ) (Z : Option SignalEntry → Type 0)
    (stable : (e : SignalEntry) (place : ℕ) → Z (Some e) → Z (Some (marked e place))) where
  abbrev pub Entry : State → Type 0
  Entry s = Z (entry_at s.frame.signals n)

  entry_like : (f s : State) → Like f s → Entry f → Entry s
  entry_like f s l h = subst (λ xs. Z (entry_at xs n)) (sym l.1) h

  put_entry_of : (part : Option ℕ) (number place : ℕ) (e : SignalEntry) (s : State)
      → entry_at (signals_of part s.frame) number ≡ Some e → Entry s
      → Z (entry_at (with_signals part (put_at number (marked e place)
      (signals_of part s.frame)) s.frame).signals n)
  put_entry_of None number place e s there h = at (same_or_not number n)
    where
      at : (number ≡ n) ⊎ (number ≢ n)
          → Z (entry_at (put_at number (marked e place) s.frame.signals) n)
      at (inl same) =
          let here : entry_at (put_at number (marked e place) s.frame.signals) n ≡
          Some (marked e place) = ap (entry_at (put_at number (marked e place)
          s.frame.signals)) (sym same) ∙ put_here number (marked e place) s.frame.signals in
          let old : entry_at s.frame.signals n ≡ Some e = ap (entry_at s.frame.signals)
          (sym same) ∙ there in
          subst Z (sym here) (stable e place (subst Z old h))
      at (inr ne) =
          subst Z (sym (put_else number n (marked e place) s.frame.signals ne)) h
  put_entry_of (Some j) number place e s there h =
      subst (λ xs. Z (entry_at xs n)) (sym (part_apart j (put_at number (marked e place)
      (signals_of (Some j) s.frame)) (slice_get s.frame.parts j) s.frame)) h

  pub entry_closed : (k : Context) → Closed k n Entry
  entry_closed k = record {
    like = entry_like;
    added = λ s t i h. subst Entry (sym i.1) h;
    variable = λ i d s h. h;
    array = λ dims s h. h;
    component = λ i c s h. h;
    written = put_entry_of;
    equation = λ w arrow x y s h.
        good_weaker (λ t. t.frame.signals ≡ s.frame.signals) Entry _
        (constrained_signals k w None arrow x y s)
        (λ t same. subst (λ xs. Z (entry_at xs n)) (sym same) h);
    signal = λ spot direction i name dims s apart h.
        subst Z (sym (put_else i n _ s.frame.signals apart)) h;
    created = λ w c place s made h. subst Entry (sym made.state) h;
  }
