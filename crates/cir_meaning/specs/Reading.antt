-- What a name is read as: a variable, an own signal, or a signal of a component.
use Rattle.std.specs.Prelude.{ℕ, suc, Bool, true, ◌&&◌, not, ◌||◌, if◌then◌else◌, List, [], ◌∷◌}
use Rattle.std.specs.Prelude.{Option, Some, None, Ok, is_some, slice_get, bytes_eq}
use Rattle.std.specs.List.{list_all}
use Rattle.cir_ast.specs.declared.program.Meant.{Meant}
use Rattle.cir_ast.specs.declared.program.Meant.TheVariants as meant
use Rattle.cir_ast.specs.declared.refusal.Kind.TheVariants.{UnknownName, WrongKind, UnknownIndex}
use Rattle.cir_ast.specs.declared.refusal.Kind.TheVariants.{ReadBeforeWrite}
use Rattle.cir_meaning.specs.Tried.{Where, Tried, next, refused, needed, found}
use Rattle.cir_meaning.specs.Places.{is_inside, all_known}
use Rattle.cir_meaning.specs.Arrays.{Datum, Want, Scalar, reach, read_part, item_at, single}
use Rattle.cir_meaning.specs.Values.{Opaque}
use Rattle.cir_meaning.specs.Frame.{SignalEntry, Signals, Part, ComponentEntry, Frame, is_input}
use Rattle.cir_meaning.specs.Frame.{is_inner, is_written, is_fed, signal_item, entry_at}
use Rattle.cir_meaning.specs.Frame.{variable_at}

-- a variable, a signal with whether it may be read at all, or what no known index means
pub data Origin : Type 0 where
  Stored : Datum → Origin
  Wired : (may_read : Bool) → SignalEntry → Origin
  Lost : Origin

-- an output of a component whose inputs aren't all written can't be read, and every element that
-- can be meant must be written; indices that are out of bounds mean none, and nothing is read
abbrev pub is_readable : (may_read : Bool) → SignalEntry → List (Option ℕ) → (places : List ℕ)
    → Bool
is_readable may_read e indices places =
    (may_read || not (is_inside e.dims indices)) && list_all (is_written e) places

abbrev pub read_origin : Where → Bool → Want → List (Option ℕ) → Origin → Tried Datum
read_origin w shaded want indices (Stored d) =
    next (reach w shaded want d.dims indices) (λ r. Ok (read_part r (item_at d.items)))
read_origin w shaded want indices (Wired may_read e) =
    next (reach w shaded want e.dims indices) (λ r.
    needed (is_readable may_read e indices r.places) w ReadBeforeWrite
    (Ok (read_part r (signal_item e))))
read_origin w shaded want indices Lost = Ok (single Opaque)

-- the first declared signal of this name that the test takes, and its number
abbrev pub find_signal : (SignalEntry → Bool) → List ℕ → ℕ → Signals → Option (ℕ × SignalEntry)
find_signal test name n [] = None
find_signal test name n (None ∷ rest) = find_signal test name (suc n) rest
find_signal test name n (Some e ∷ rest) =
    if bytes_eq e.name name && test e then Some (n, e) else find_signal test name (suc n) rest

-- a component's input or output of this name; an inner signal can't be named
abbrev pub told_signal : Where → (is_inner_name : Bool) → Option (ℕ × SignalEntry)
    → Tried (ℕ × SignalEntry)
told_signal w is_inner_name (Some x) = Ok x
told_signal w is_inner_name None = refused w (if is_inner_name then WrongKind else UnknownName)

abbrev pub named_signal : Where → List ℕ → Signals → Tried (ℕ × SignalEntry)
named_signal w name signals =
    told_signal w (is_some (find_signal (λ e. is_inner e.direction) name 0 signals))
    (find_signal (λ e. not (is_inner e.direction)) name 0 signals)

-- the place among the parts of the component that known indices mean, or none where one of them is
-- out of bounds in a shaded expression
abbrev pub part_in : Where → ComponentEntry → List ℕ → Tried (Option ℕ)
part_in w c [] = Ok None
part_in w c (k ∷ ks) = next (found w ReadBeforeWrite (entry_at c.parts k)) (λ j. Ok (Some j))

abbrev pub part_at : Where → Bool → ℕ → List (Option ℕ) → Frame → Tried (Option ℕ)
part_at w shaded n indices f =
    next (found w ReadBeforeWrite (entry_at f.components n)) (λ c.
    needed (is_some (all_known indices)) w UnknownIndex
    (next (reach w shaded Scalar c.dims indices) (λ r. part_in w c r.places)))

-- an output is read once all inputs are written
abbrev pub part_origin : Where → List ℕ → Part → Tried Origin
part_origin w name p =
    next (named_signal w name p.signals) (λ (n, e).
    Ok (Wired (is_input e.direction || is_fed p.signals) e))

abbrev pub located : Where → List ℕ → Option ℕ → List Part → Tried Origin
located w name None parts = Ok Lost
located w name (Some j) parts =
    next (found w ReadBeforeWrite (slice_get parts j)) (part_origin w name)

-- what stands in front of indices: a name, or the signal of a component that is found already
pub data Root : Type 0 where
  Named : Meant → Root
  Found : Origin → Root

abbrev pub origin_of : Where → Root → Frame → Tried Origin
origin_of w (Found source) f = Ok source
origin_of w (Named (meant.Variable n)) f = Ok (Stored (variable_at f n))
origin_of w (Named (meant.Signal direction n)) f =
    next (found w ReadBeforeWrite (entry_at f.signals n)) (λ e. Ok (Wired true e))
origin_of w (Named meant.Other) f = refused w WrongKind
origin_of w (Named (meant.Component n)) f = refused w WrongKind
origin_of w (Named (meant.Template n)) f = refused w WrongKind
origin_of w (Named (meant.Function n)) f = refused w WrongKind

-- the signal of this name of the component that the indices mean
abbrev pub inner_origin : Where → Bool → Root → List (Option ℕ) → List ℕ → Frame → Tried Origin
inner_origin w shaded (Named (meant.Component n)) indices name f =
    next (part_at w shaded n indices f) (λ j. located w name j f.parts)
inner_origin w shaded (Named (meant.Variable n)) indices name f = refused w WrongKind
inner_origin w shaded (Named (meant.Signal direction n)) indices name f = refused w WrongKind
inner_origin w shaded (Named meant.Other) indices name f = refused w WrongKind
inner_origin w shaded (Named (meant.Template n)) indices name f = refused w WrongKind
inner_origin w shaded (Named (meant.Function n)) indices name f = refused w WrongKind
inner_origin w shaded (Found source) indices name f = refused w WrongKind
