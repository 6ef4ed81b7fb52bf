use Rattle.std.proofs.Common.{◌≡◌, sym, ◌∙◌, refl}
use Rattle.std.specs.Prelude.{map}
use Rattle.std.proofs.lemmas.Option.{none-some, same_Some}
use Rattle.cir_frame.specs.Shown.{part_of}
use Rattle.cir_frame.proofs.Numbered.{none_led, led}
use Rattle.cir_create.proofs.creating.may_be.Goals as goal

pub returns-in_default : goal.returns-in_default
returns-in_default c =
    λ k. rw (none_led (map part_of c.args.frame.now.parts.items) 0 c.args.entry.now.parts.items
    (sym c.args.entry.now.led ∙ c.in_default.is)) refl

pub returns-in-Some-part-2 : goal.returns-in-Some-part-2
returns-in-Some-part-2 c =
    let found = led (map part_of c.args.frame.now.parts.items) c.in-Some.first
    c.args.entry.now.parts.items (sym c.args.entry.now.led ∙ c.in-Some.is) in
    let same : found.0 ≡ c.in-Some-part.j =
    same_Some _ _ (sym found.1 ∙ (sym c.part.ensures ∙ c.in-Some-part.is)) in
    λ k. rw (found.2, same, ← c.part-in-Some-part.ensures k, c.in-Some-part-2.is) refl

pub returns-in-None-part : goal.returns-in-None-part
returns-in-None-part c =
    let found = led (map part_of c.args.frame.now.parts.items) c.in-Some.first
    c.args.entry.now.parts.items (sym c.args.entry.now.led ∙ c.in-Some.is) in
    let same : found.0 ≡ c.in-Some-part.j =
    same_Some _ _ (sym found.1 ∙ (sym c.part.ensures ∙ c.in-Some-part.is)) in
    λ k. rw (found.2, same, ← c.part-in-Some-part.ensures k, c.in-None-part.is) refl

pub returns-in-None : goal.returns-in-None
returns-in-None c =
    let found = led (map part_of c.args.frame.now.parts.items) c.in-Some.first
    c.args.entry.now.parts.items (sym c.args.entry.now.led ∙ c.in-Some.is) in
    λ k. absurd (none-some found.0 (sym c.in-None.is ∙ (c.part.ensures ∙ found.1)))
