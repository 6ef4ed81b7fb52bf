use Rattle.std.proofs.Common.{◌≡◌, ◌∙◌, map, arith}
use Rattle.std.proofs.lemmas.List.{length-map}
use Rattle.cir_meaning.specs.Costs.{Made}
use Rattle.cir_rules.specs.Shown.{made_of}
use Rattle.wit_lower.specs.Values.{number_of}
use Rattle.wit_procs.proofs.KeyLists.{added_place, added_key, number_within, numbered_key}
use Rattle.wit_procs.proofs.procs.Procs.lower_function.Goals.{then-place-len+in_ok-add}
use Rattle.wit_procs.proofs.procs.Procs.lower_function.Goals.{else-place-len}
use Rattle.wit_procs.proofs.procs.Procs.lower_function.Goals as goal

pub returns-clause-number : goal.returns-clause-number
returns-clause-number c =
    let old = c.args.self.now.keys.calls.items in
    let key : Made =
    record { function = c.args.function; shapes = map (λ d. d.items) c.args.shapes.items } in
    let size = length-map old made_of in
    let here : c.place_of-place.result ≡ number_of (map made_of old) key =
    c.place_of-place.ensures in
    elim c.if-place-len.branch [
      | then-place-len+in_ok-add w ↦
          rw w.self-is (c.in_ok-narrow.ensures.ok
          ∙ added_place (map made_of old) (map made_of w.add.new.self.keys.calls.items) key
          c.place_of-place.result here
          (omega (arith, size, c.len.ensures, w.if-place-len.true)) w.in_ok-add.ensures.grows)
      | else-place-len w ↦ rw w.self-is (c.in_ok-narrow.ensures.ok ∙ here)
    ]

pub returns-clause-there : goal.returns-clause-there
returns-clause-there c =
    let old = c.args.self.now.keys.calls.items in
    let key : Made =
    record { function = c.args.function; shapes = map (λ d. d.items) c.args.shapes.items } in
    let size = length-map old made_of in
    let here : c.place_of-place.result ≡ number_of (map made_of old) key =
    c.place_of-place.ensures in
    elim c.if-place-len.branch [
      | then-place-len+in_ok-add w ↦
          rw w.self-is (added_key (map made_of old)
          (map made_of w.add.new.self.keys.calls.items) key w.in_ok-add.ensures.grows)
      | else-place-len w ↦
          rw w.self-is (numbered_key (map made_of old) key
          (omega (arith, size, here, c.len.ensures, w.if-place-len.false)))
    ]

pub add-requires-clause-new : goal.add-requires-clause-new
add-requires-clause-new c =
    let old = c.args.self.now.keys.calls.items in
    let key : Made =
    record { function = c.args.function; shapes = map (λ d. d.items) c.args.shapes.items } in
    let size = length-map old made_of in
    let within = number_within (map made_of old) key in
    omega (arith, size, within, c.place_of-place.ensures, c.len.ensures, c.if-place-len.true)
