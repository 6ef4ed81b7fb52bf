use Rattle.std.proofs.Common.{◌≡◌, ℕ, List, ◌-◌, ◌++◌, length, length-drop, replicate, ap}
use Rattle.std.proofs.Common.{◌∙◌, ◌∷◌, ◌+◌, arith, append_assoc}
use Rattle.std.specs.Prelude.{slice_range}
use Rattle.wit_code.specs.Frames.{Frames}
use Rattle.wit_code.proofs.Stack.{shown_open}
use Rattle.wit_code.proofs.Clearing.{laid_more, laid_open}
use Rattle.wit_code.proofs.frames.Frames.open.Goals as goal

pub returns : goal.returns
returns c =
    let given = c.in_ok-extend_from_within.ensures.items in
    let zeros = c.in_ok-push_zeros.ensures.ok in
    let pushed = c.in_ok-push.ensures.items in
    let wide = c.width-width.ensures in
    rw (zeros, given, pushed)
    (shown_open c.self.inside.first c.self.inside.base c.self.inside.callers.items
    c.self.inside.numbers.items
    (record { resume = c.args.resume; width = c.width-width.result }) c.args.first c.args.params
    (replicate (c.args.slots - c.args.params) 0) c.self.invariant.base_is c.self.invariant.within
    (omega (
      arith,
      wide,
      ap (λ (f : Frames). length f.slots) c.self.view_is,
      length-drop c.self.inside.base c.self.inside.numbers.items,
    ))
    ∙ ap (λ (f : Frames). record {
      slots =
          slice_range f.slots c.args.first (c.args.first + c.args.params)
          ++ replicate (c.args.slots - c.args.params) 0;
      open_calls = record { resume = c.args.resume; slots = f.slots } ∷ f.open_calls;
    }) c.self.view_is)

pub invariant_of-self-2 : goal.invariant_of-self-2
invariant_of-self-2 c =
    let inside = c.self.inside in
    let numbers = inside.numbers.items in
    let params : List ℕ =
    slice_range numbers (inside.base + c.args.first)
    (inside.base + c.args.first + c.args.params) in
    let zeros : List ℕ = replicate (c.args.slots - c.args.params) 0 in
    let wide : c.width-width.result ≡ length numbers - inside.base =
    omega (
      arith,
      c.width-width.ensures,
      ap (λ (f : Frames). length f.slots) c.self.view_is,
      length-drop inside.base numbers,
    ) in
    rw (
      c.in_ok-push_zeros.ensures.ok,
      c.in_ok-extend_from_within.ensures.items,
      c.in_ok-push.ensures.items,
      append_assoc numbers params zeros,
    ) (laid_open inside.first inside.base inside.is_full inside.callers.items inside.places.items
    numbers (record { resume = c.args.resume; width = c.width-width.result }) (params ++ zeros)
    c.self.invariant wide)

pub invariant_of-self-in_err-push_zeros : goal.invariant_of-self-in_err-push_zeros
invariant_of-self-in_err-push_zeros c =
    let inside = c.self.inside in
    let start = inside.base + c.args.first in
    rw (c.in_err-push_zeros.ensures.err, c.in_ok-extend_from_within.ensures.items)
    (laid_more inside.first inside.base inside.is_full inside.callers.items inside.places.items
    inside.numbers.items (slice_range inside.numbers.items start (start + c.args.params))
    c.self.invariant)

pub invariant_of-self-in_err-push : goal.invariant_of-self-in_err-push
invariant_of-self-in_err-push c =
    let inside = c.self.inside in
    let numbers = inside.numbers.items in
    let start = inside.base + c.args.first in
    let params : List ℕ = slice_range numbers start (start + c.args.params) in
    let zeros : List ℕ = replicate (c.args.slots - c.args.params) 0 in
    rw (
      c.in_err-push.ensures.items,
      c.in_ok-push_zeros.ensures.ok,
      c.in_ok-extend_from_within.ensures.items,
      append_assoc numbers params zeros,
    ) (laid_more inside.first inside.base inside.is_full inside.callers.items inside.places.items
    numbers (params ++ zeros) c.self.invariant)
