use Rattle.std.proofs.Common.{◌≡◌, ℕ, ◌<◌, List, length, set, Option, Some, None, ap, ◌∙◌, refl}
use Rattle.std.proofs.Common.{arith}
use Rattle.std.specs.Prelude.{map, option_map, slice_get}
use Rattle.std.proofs.lemmas.List.{length-map, map-set}
use Rattle.std.proofs.lemmas.Option.{slice_get-map, slice_get_past, slice_get_read}
use Rattle.cir_meaning.specs.Frame.{entry_at}
use Rattle.cir_frame.specs.declared.frame.Part.{Part}
use Rattle.cir_frame.specs.declared.signal.SignalEntry.{SignalEntry}
use Rattle.cir_frame.specs.Shown.{signal_of, signals_of, part_of, frame_of}
use Rattle.cir_arrays.specs.Stopped.{where_of}
use Rattle.cir_frame.specs.Targets.{target_by}
use Rattle.cir_frame.proofs.Marking.{own_gives, inside_gives}
use Rattle.cir_frame.proofs.Numbered.{entry_seen, entry_past, put_seen}
use Rattle.cir_frame.proofs.writing.write_element.Goals as goal
use Rattle.cir_frame.proofs.writing.write_element.Goals.{in-None+then-number-len+in_default}
use Rattle.cir_frame.proofs.writing.write_element.Goals.{in-None+else-number-len}
use Rattle.cir_frame.proofs.writing.write_element.Goals.{in-Some+else-j-len}

pub returns-in-Some-index_mut : goal.returns-in-Some-index_mut
returns-in-Some-index_mut c =
    let es : List (Option SignalEntry) = c.args.frame.now.signals.items in
    let n : ℕ = c.args.target.now.number in
    let h : n < length es = omega (arith, c.len.ensures) in
    let there : entry_at (signals_of es) n ≡ Some (signal_of c.in-Some-index_mut.entry) =
    entry_seen signal_of es n c.index_mut.result.now h c.index_mut.ensures.value
    ∙ ap (option_map signal_of) c.in-Some-index_mut.is in
    λ k world m. own_gives (where_of c.args.site.now) (target_by c.args.target.now m) c.args.place
    record { frame = frame_of c.args.frame.now k; world = world }
    (signal_of c.in-Some-index_mut.entry) (signal_of c.mark.new.entry)
    (signals_of (set es n (Some c.mark.new.entry))) c.mark.result c.in-None.is there
    (put_seen signal_of es n c.mark.new.entry h) c.mark.ensures.once

pub returns-then-j-len : goal.returns-then-j-len
returns-then-j-len c =
    let ps : List Part = c.args.frame.now.parts.items in
    let j : ℕ = c.in-Some.j in
    let p : Part = c.index_mut-then-j-len.result.now in
    let h : j < length ps = omega (arith, c.len-in-Some.ensures) in
    let there : slice_get (map part_of ps) j ≡ Some (part_of p) =
    slice_get-map part_of ps j ∙ ap (option_map part_of)
    (slice_get_read ps (length ps) j p refl h c.index_mut-then-j-len.ensures.value) in
    λ k world m. inside_gives (where_of c.args.site.now) (target_by c.args.target.now m)
    c.args.place record { frame = frame_of c.args.frame.now k; world = world } j (part_of p)
    (part_of c.mark_inside.new.part) (map part_of (set ps j c.mark_inside.new.part))
    c.mark_inside.result c.in-Some.is there (map-set part_of ps j c.mark_inside.new.part)
    c.mark_inside.ensures

pub returns : goal.returns
returns c =
    let es : List (Option SignalEntry) = c.args.frame.now.signals.items in
    let ps : List Part = c.args.frame.now.parts.items in
    let n : ℕ = c.args.target.now.number in
    λ k world m. elim c.match-target.branch [
      | in-None+then-number-len+in_default w ↦
          let h : n < length es = omega (arith, w.len.ensures, w.if-number-len.true) in
          let none : entry_at (signals_of es) n ≡ None =
          entry_seen signal_of es n w.index_mut.result.now h w.index_mut.ensures.value
          ∙ ap (option_map signal_of) w.in_default.is in
          rw (w.in-None.is, none) c.refused.ensures
      | in-None+else-number-len w ↦
          let none : entry_at (signals_of es) n ≡ None =
          entry_past signal_of es n (omega (arith, w.len.ensures, w.if-number-len.false)) in
          rw (w.in-None.is, none) c.refused.ensures
      | in-Some+else-j-len w ↦
          let none : slice_get (map part_of ps) w.in-Some.j ≡ None =
          slice_get_past (map part_of ps) w.in-Some.j (rw (length-map ps part_of)
          (omega (arith, w.len-in-Some.ensures, w.if-j-len.false))) in
          rw (w.in-Some.is, none) c.refused.ensures
    ]
