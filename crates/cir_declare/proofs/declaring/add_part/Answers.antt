use Rattle.std.proofs.Common.{◌≡◌, ◌<◌, length, refl, arith}
use Rattle.std.proofs.lemmas.List.{map_push, length-map}
use Rattle.cir_frame.specs.Shown.{component_of, part_of}
use Rattle.cir_frame.proofs.Numbered.{same_entry, no_entry, entry_past, put_seen}
use Rattle.cir_declare.proofs.declaring.add_part.Goals as goal

pub returns-else-n-len : goal.returns-else-n-len
returns-else-n-len c =
    λ k e there. absurd (cc (
      there,
      entry_past component_of c.args.frame.now.components.items c.args.n
          (omega (arith, c.len-2.ensures)),
    ))

pub returns-in_default-index_mut : goal.returns-in_default-index_mut
returns-in_default-index_mut c =
    let h : c.args.n < length c.args.frame.now.components.items = omega (arith, c.len-2.ensures) in
    λ k e there. absurd (no_entry component_of c.args.frame.now.components.items c.args.n
    c.index_mut.result.now e h c.index_mut.ensures.value c.in_default-index_mut.is there)

pub returns-in-Some : goal.returns-in-Some
returns-in-Some c =
    let h : c.args.n < length c.args.frame.now.components.items = omega (arith, c.len-2.ensures) in
    let number : c.in-Ok.j ≡ length c.args.frame.now.parts.items =
    omega (arith, c.in-Ok.ensures, c.len.ensures) in
    λ k e there.
    let same = same_entry component_of c.args.frame.now.components.items c.args.n
    c.index_mut.result.now c.in-Some.entry e h c.index_mut.ensures.value c.in-Some.is there in
    rw (
      c.in_ok-push.ensures.items,
      map_push part_of c.args.frame.now.parts.items c.args.part,
      put_seen component_of c.args.frame.now.components.items c.args.n c.set_part.new.self h,
      c.set_part.ensures,
      ← same,
      length-map c.args.frame.now.parts.items part_of,
      number,
    ) refl
