-- What cells that are counted tell of all elements they tell at each point of a scan that declares
-- no variable that has a home before it.
use Rattle.std.proofs.Common.{◌≡◌, ℕ, List, Some, None, sym, ap, ◌∙◌}
use Rattle.std.specs.Prelude.{slice_get, unwrap_or}
use Rattle.cir_meaning.specs.Tried.{Where}
use Rattle.cir_meaning.specs.Arrays.{single, item_at, is_known, filled}
use Rattle.cir_meaning.specs.Values.{Known, Opaque}
use Rattle.cir_meaning.specs.Costs.{Cell}
use Rattle.cir_meaning.specs.Frame.{State, entry_at}
use Rattle.cir_meaning.specs.Scan.{scan_declared}
use Rattle.cir_meaning.proofs.Likes.{Like}
use Rattle.wit_lower.specs.Homes.{Variable, Home, Homes, find}
use Rattle.cir_emit.specs.Reads.{Reading}
use Rattle.cir_emit.proofs.Counted.{IsVariableLed, AreLed}
use Rattle.cir_emit.proofs.Scanned.{set_there}

module _ (w : Where) (first : Homes) (C : Cell → Type 0) (Q : Reading → Type 0) where
  -- where a variable has the same value
  variable_led : (s t : State) (n : ℕ) (h : Home)
      → unwrap_or (slice_get t.frame.variables n) (single (Known 0))
      ≡ unwrap_or (slice_get s.frame.variables n) (single (Known 0))
      → IsVariableLed s C Q n h → IsVariableLed t C Q n h
  variable_led s t n h same told = (
    ap (λ d. d.dims) same ∙ told.0,
    λ p tells. told.1 p (λ unknown. tells (ap (λ d. is_known (item_at d.items p)) same ∙ unknown)),
  )

  pub led_like : (s t : State) → AreLed w s first C Q → Like s t → AreLed w t first C Q
  led_like s t x l = record {
    variable = λ n h e. variable_led s t n h
        (ap (λ vs. unwrap_or (slice_get vs n) (single (Known 0))) l.0) (x.variable n h e);
    signal = λ n h e found es. x.signal n h e found (ap (λ xs. entry_at xs n) (sym l.1) ∙ es);
    port = λ n c is name h j p y ec inside full ej ep ey found.
        x.port n c is name h j p y (ap (λ xs. entry_at xs n) (sym l.2) ∙ ec) inside full ej
        (ap (λ xs. slice_get xs j) (sym l.3) ∙ ep) ey found;
  }

  pub led_declared : (n : ℕ) (dims : List ℕ) (s : State) → find (Variable n) first ≡ None
      → AreLed w s first C Q → AreLed w (scan_declared n dims s) first C Q
  led_declared n dims s none x = record {
    variable = λ m h e. variable_led s (scan_declared n dims s) m h
        (set_there s.frame.variables n m (filled dims Opaque) (other m h e)) (x.variable m h e);
    signal = x.signal;
    port = x.port;
  }
    where
      other : (m : ℕ) (h : Home) → find (Variable m) first ≡ Some h → m ≡ n → ⊥
      other m h e same =
          let there : None ≡ Some h =
          sym none ∙ (ap (λ i. find (Variable i) first) (sym same) ∙ e) in cc
