-- The inputs of a new component, opened one after another.
use Rattle.std.proofs.Common.{◌≡◌, ℕ, ◌+◌, ◌<◌, List, [], ◌∷◌, ◌++◌, length, get_or, take, drop}
use Rattle.std.proofs.Common.{set, Option, Some, None, ap, sym, ◌∙◌, refl, arith}
use Rattle.std.specs.Prelude.{option_map}
use Rattle.std.proofs.lemmas.Grind.{take-set_at}
use Rattle.std.proofs.lemmas.List.{drop_more, drop-set-lt, map-append, take_more}
use Rattle.cir_meaning.specs.Frame.{Signals}
use Rattle.cir_meaning.specs.Declaring as D
use Rattle.cir_frame.specs.declared.signal.SignalEntry.{SignalEntry}
use Rattle.cir_frame.specs.Missing.{missing_in}
use Rattle.cir_frame.specs.Shown.{signal_of, signals_of}

opened_append : (es others : Signals) → D.opened (es ++ others) ≡ D.opened es ++ D.opened others
opened_append [] others = refl
opened_append (None ∷ es) others = rw (opened_append es others) refl
opened_append (Some e ∷ es) others = rw (opened_append es others) refl

missing_append : (xs ys : List (Option SignalEntry))
    → missing_in (xs ++ ys) ≡ missing_in xs + missing_in ys
missing_append [] ys = omega arith
missing_append (None ∷ xs) ys = missing_append xs ys
missing_append (Some e ∷ xs) ys = let later = missing_append xs ys in omega arith

-- the entries behind one that is replaced
pub rest_next : (first now : List (Option SignalEntry)) (n : ℕ) (x y : Option SignalEntry)
    → n < length now → length now ≡ length first → drop n now ≡ drop n first
    → drop (n + 1) (set now n y) ≡ drop (n + 1) first
rest_next first now n x y h same rest =
    let one = drop_more now n x h in
    let other = drop_more first n x (omega arith) in
    let tail : drop (n + 1) now ≡ drop (n + 1) first = cc in
    drop-set-lt (n + 1) now n y (omega arith) ∙ tail

pub opened_next : (first now : List (Option SignalEntry)) (n : ℕ) (x y : Option SignalEntry)
    → n < length now → length now ≡ length first → drop n now ≡ drop n first
    → x ≡ get_or now n x → signals_of (y ∷ []) ≡ D.opened (signals_of (x ∷ []))
    → signals_of (take n now) ≡ D.opened (signals_of (take n first))
    → signals_of (take (n + 1) (set now n y)) ≡ D.opened (signals_of (take (n + 1) first))
opened_next first now n x y h same rest e one all =
    let k : n < length first = omega arith in
    let mine = drop_more now n x h in
    let other = drop_more first n x k in
    let here : get_or first n x ≡ x = cc in
    let left : signals_of (take (n + 1) (set now n y))
    ≡ D.opened (signals_of (take n first)) ++ D.opened (signals_of (x ∷ [])) =
    ap signals_of (take-set_at now n (n + 1) y refl h)
    ∙ (map-append (option_map signal_of) (take n now) (y ∷ [])
    ∙ (ap (λ s. s ++ signals_of (y ∷ [])) all
    ∙ ap (λ s. D.opened (signals_of (take n first)) ++ s) one)) in
    let right : D.opened (signals_of (take (n + 1) first))
    ≡ D.opened (signals_of (take n first)) ++ D.opened (signals_of (x ∷ [])) =
    ap (λ zs. D.opened (signals_of zs))
    (take_more first n x k ∙ ap (λ z. take n first ++ z ∷ []) here)
    ∙ (ap D.opened (map-append (option_map signal_of) (take n first) (x ∷ []))
    ∙ opened_append (signals_of (take n first)) (signals_of (x ∷ []))) in
    left ∙ sym right

pub missing_next : (now : List (Option SignalEntry)) (n : ℕ) (y : Option SignalEntry)
    → n < length now
    → missing_in (take (n + 1) (set now n y)) ≡ missing_in (take n now) + missing_in (y ∷ [])
missing_next now n y h =
    ap missing_in (take-set_at now n (n + 1) y refl h) ∙ missing_append (take n now) (y ∷ [])
