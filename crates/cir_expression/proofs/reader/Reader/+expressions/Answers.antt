use Rattle.std.proofs.Common.{◌≡◌, ◌+◌, ◌-◌, max, [], ◌∷◌, ◌++◌, refl, ◌∙◌, sym, ap, arith, length}
use Rattle.std.proofs.Common.{suc}
use Rattle.std.proofs.lemmas.List.{map-append, length-map}
use Rattle.cir_token.specs.declared.token.Token.{Token}
use Rattle.cir_token.specs.declared.token.TokenKind.{TokenKind}
use Rattle.cir_ast.specs.declared.marked.Accessor.TheVariants.{Index, Member}
use Rattle.cir_expression.specs.Front.{name_at}
use Rattle.cir_expression.specs.Reading.{climb}
use Rattle.cir_expression.specs.Answers.{kinds}
use Rattle.cir_expression.proofs.reader.Reader.+expressions.Goals as goal
use Rattle.cir_expression.proofs.Steps.{exits, stops_next, climb_is, no_room, ended, chained}
use Rattle.cir_expression.proofs.Steps.{turns_on}
use Rattle.cir_expression.proofs.Lists.{no_item, no_end, last_item, more_items, no_item_left}
use Rattle.cir_expression.proofs.Lists.{one_higher, path_begun, no_turn, no_index, no_close}
use Rattle.cir_expression.proofs.Lists.{one_index, no_member, one_member, no_more, given_is}
use Rattle.cir_expression.proofs.Lists.{named_given, listed_given, named_inputs, listed_inputs}
use Rattle.cir_expression.proofs.Lists.{one_value, height_seen, accessor_height, input_height}
use Rattle.cir_expression.proofs.Lists.{exprs_high, accessors_high, named_high}

pub climb-returns-then-room-eq0-clause-read : goal.climb-returns-then-room-eq0-clause-read
climb-returns-then-room-eq0-clause-read g t c =
    no_room c.args.room _ _ (omega arith)

pub climb-returns-in_err-left-clause-read : goal.climb-returns-in_err-left-clause-read
climb-returns-in_err-left-clause-read g t c =
    exits _ _ _ _ _ _ c.from_residual.ensures.1
    (rw (climb_is c.args.room c.args.level (kinds c.args.self.now.rest.now) (omega arith))
    (stops_next _ _ _ c.in_err-left.ensures.read))

pub climb-returns-then-ends-clause-read : goal.climb-returns-then-ends-clause-read
climb-returns-then-ends-clause-read g t c = (
  ended c.args.room _ _ (omega arith) _ _ c.in_ok-left.ensures.read.0
      (c.ends.ensures.operator c.if-ends.true) (c.ends.ensures.choice c.if-ends.true),
  c.in_ok-left.ensures.read.1,
)

pub climb-returns-in_err-whole-clause-read : goal.climb-returns-in_err-whole-clause-read
climb-returns-in_err-whole-clause-read g t c =
    exits _ _ _ _ _ _ c.from_residual-in_err-whole.ensures.1
    (rw (
      climb_is c.args.room c.args.level (kinds c.args.self.now.rest.now) (omega arith),
      c.in_ok-left.ensures.read.0,
    ) (stops_next _ _ _ c.in_err-whole.ensures.read))

pub climb-returns-clause-read : goal.climb-returns-clause-read
climb-returns-clause-read g t c =
    rw (chained c.args.room _ _ (omega arith) _ _ _ _ c.in_ok-left.ensures.read.0
    c.in_ok-whole.ensures.read.0) c.choice.ensures.read

pub chain-loop-preserved : goal.chain-loop-preserved
chain-loop-preserved g t c = record {
  read = turns_on (c.args.inner + 1 - c.loop.counter) (c.args.inner + 1 - (c.loop.counter + 1))
      _ _ (climb c.args.inner) _ (kinds c.loop.self.rest.now) _ _ _ _ _ (omega arith)
      c.loop.invariant.read (sym c.continues.ensures ∙ c.in-Some.is)
      (rw (← c.level_of.ensures.is, ← c.skip.ensures) c.in_ok-right.ensures.read.0)
      c.in_ok-left.ensures.made.0;
  measured = c.in_ok-left.ensures.made.1;
  low = c.in_ok-left.ensures.low;
}

pub list-returns-in_err-item-clause-read : goal.list-returns-in_err-item-clause-read
list-returns-in_err-item-clause-read g t c =
    exits _ _ _ _ _ _ c.from_residual.ensures.1
    (no_item c.loop.invariant.read (omega arith) _ c.in_err-item.ensures.read)

pub list-returns-in_err-behind-clause-read : goal.list-returns-in_err-behind-clause-read
list-returns-in_err-behind-clause-read g t c =
    exits _ _ _ _ _ _ c.from_residual-in_err-behind.ensures.1
    (no_end c.loop.invariant.read (omega arith) _ _ _ c.in_ok-item.ensures.read.0
    (sym c.begins.ensures ∙ c.if-begins.false) c.in_err-behind.ensures.1)

pub list-returns-else-begins-clause-read : goal.list-returns-else-begins-clause-read
list-returns-else-begins-clause-read g t c = (
  rw (c.in_ok-push.ensures.items, map-append, c.into_tree.ensures)
      (last_item c.loop.invariant.read (omega arith) _ _ _ c.in_ok-item.ensures.read.0
      (sym c.begins.ensures ∙ c.if-begins.false) c.in_ok-behind.ensures),
  one_higher height_seen _ _ _ _ _ c.in_ok-push.ensures.items c.loop.invariant.measured
      (rw (c.into_tree.ensures, ← c.in_ok-item.ensures.read.1) c.max-height.ensures)
      ∙ exprs_high c.push.new.self.items,
)

pub list-loop-preserved : goal.list-loop-preserved
list-loop-preserved g t c = record {
  read = rw (c.in_ok-push.ensures.items, map-append, c.into_tree.ensures, c.skip.ensures)
      (more_items c.loop.invariant.read (omega arith) _ _ _ (omega arith)
      c.in_ok-item.ensures.read.0 (sym c.begins.ensures ∙ c.if-begins.true));
  measured =
      one_higher height_seen _ _ _ _ _ c.in_ok-push.ensures.items c.loop.invariant.measured
      (rw (c.into_tree.ensures, ← c.in_ok-item.ensures.read.1) c.max-height.ensures);
  low = omega (arith, c.loop.invariant.low, c.in_ok-item.ensures.low, c.max-height.ensures);
}

pub accessors-loop-init : goal.accessors-loop-init
accessors-loop-init g t c = record {
  read = path_begun (climb c.args.room 1) (length c.args.self.now.rest.now + 1 - 0)
      (suc (length (kinds c.args.self.now.rest.now))) _ (kinds c.args.self.now.rest.now)
      (omega (arith, length-map {A = Token} {B = TokenKind})) c.new-accessors.ensures.items;
  measured = rw c.new-accessors.ensures.items refl;
  low = omega arith;
}

pub accessors-returns-in_err-found-clause-read : goal.accessors-returns-in_err-found-clause-read
accessors-returns-in_err-found-clause-read g t c =
    exits _ _ _ _ _ _ c.from_residual.ensures.1
    (no_index c.loop.invariant.read (omega arith) _ (sym c.begins.ensures ∙ c.if-begins.true)
    (rw (← c.skip.ensures) c.in_err-found.ensures.read))

pub accessors-returns-in_err-behind-clause-read : goal.accessors-returns-in_err-behind-clause-read
accessors-returns-in_err-behind-clause-read g t c =
    exits _ _ _ _ _ _ c.from_residual-in_err-behind.ensures.1
    (no_close c.loop.invariant.read (omega arith) _ _ _ (sym c.begins.ensures ∙ c.if-begins.true)
    (ap (climb c.args.room 1) (sym c.skip.ensures) ∙ c.in_ok-found.ensures.read.0)
    c.in_err-behind.ensures.1)

pub accessors-returns-in_err-name-clause-read : goal.accessors-returns-in_err-name-clause-read
accessors-returns-in_err-name-clause-read g t c =
    exits _ _ _ _ _ _ c.from_residual-in_err-name.ensures.1
    (no_member c.loop.invariant.read (omega arith) _ (sym c.begins.ensures ∙ c.if-begins.false)
    (sym c.begins-else-begins.ensures ∙ c.if-begins-2.true)
    (rw (← c.skip-then-begins-2.ensures) c.in_err-name.ensures))

pub accessors-loop-preserved : goal.accessors-loop-preserved
accessors-loop-preserved g t c = elim c.if-begins.branch [
  | goal.accessors-then-begins+in_ok-found+in_ok-behind+in_ok-push w ↦
      let items : c.if-begins.accessors.items
      ≡ c.loop.accessors.items ++ Index w.in_ok-found.found.tree ∷ [] =
      rw (w.accessors-is, ← w.into_tree.ensures) w.in_ok-push.ensures.items in
      let height : c.if-begins.height ≡ max w.in_ok-found.found.height c.loop.height =
      rw w.height-is w.max-height.ensures in
      record {
        read = rw w.self-is (one_index c.loop.invariant.read (omega arith) _ _ _
            w.in_ok-found.found.tree c.if-begins.accessors.items (omega arith)
            (sym c.begins.ensures ∙ w.if-begins.true)
            (ap (climb c.args.room 1) (sym w.skip.ensures) ∙ w.in_ok-found.ensures.read.0)
            w.in_ok-behind.ensures items);
        measured = one_higher accessor_height _ _ _ _ _ items c.loop.invariant.measured
            (rw (← w.in_ok-found.ensures.read.1) height);
        low = omega (arith, height, c.loop.invariant.low, w.in_ok-found.ensures.low);
      }
  | goal.accessors-else-begins+then-begins-2+in_ok-name+in_ok-push-2 w ↦
      let items : c.if-begins.accessors.items
      ≡ c.loop.accessors.items ++ Member w.in_ok-name.name ∷ [] =
      rw w.accessors-is w.in_ok-push-2.ensures.items in
      record {
        read = rw w.self-is (one_member c.loop.invariant.read (omega arith) _ _
            w.in_ok-name.name c.if-begins.accessors.items (omega arith)
            (sym c.begins.ensures ∙ w.if-begins.false)
            (sym w.begins-else-begins.ensures ∙ w.if-begins-2.true)
            (ap name_at (sym w.skip-then-begins-2.ensures) ∙ w.in_ok-name.ensures) items);
        measured = one_higher accessor_height _ _ _ _ _ items c.loop.invariant.measured
            (omega (arith, w.height-is));
        low = omega (arith, w.height-is, c.loop.invariant.low);
      }
]

pub accessors-returns-clause-read : goal.accessors-returns-clause-read
accessors-returns-clause-read g t c = no_turn _ _ _ _ _ c.loop.invariant.read (omega arith)

pub accessors-returns-else-begins-2-clause-read : goal.accessors-returns-else-begins-2-clause-read
accessors-returns-else-begins-2-clause-read g t c = (
  no_more c.loop.invariant.read (omega arith) (sym c.begins.ensures ∙ c.if-begins.false)
      (sym c.begins-else-begins.ensures ∙ c.if-begins-2.false),
  c.loop.invariant.measured ∙ accessors_high c.loop.accessors.items,
)

pub call-component-requires-clause-inputs : goal.call-component-requires-clause-inputs
call-component-requires-clause-inputs g t c =
    rw (named_inputs _ _ _ c.named-inputs.ensures c.tight.ensures) c.in_ok-given.ensures.read.1

pub call-component-requires-2-clause-inputs : goal.call-component-requires-2-clause-inputs
call-component-requires-2-clause-inputs g t c =
    rw (listed_inputs _ _ _ c.listed-inputs.ensures c.tight-2.ensures)
    c.in_ok-given-2.ensures.read.1

pub call-returns-then-begins_input-clause-read : goal.call-returns-then-begins_input-clause-read
call-returns-then-begins_input-clause-read g t c = (
  given_is (climb c.args.inner 1) _ _ _ _ _ (kinds c.args.self.now.rest.now) _ _ _
      c.in_ok-arguments.ensures.read.0 (sym c.begins.ensures ∙ c.if-not-begins.false) c.skip.ensures
      (named_given (climb c.args.inner 1) _ _ (kinds c.skip.new.self.rest.now) _
      (sym c.begins_input.ensures ∙ c.if-begins_input.true) c.in_ok-given.ensures.read.0
      (named_inputs _ _ _ c.named-inputs.ensures c.tight.ensures)) c.in_ok-component.ensures.tree,
  c.in_ok-component.ensures.measured,
)

pub call-returns-clause-read : goal.call-returns-clause-read
call-returns-clause-read g t c = (
  given_is (climb c.args.inner 1) _ _ _ _ _ (kinds c.args.self.now.rest.now) _ _ _
      c.in_ok-arguments.ensures.read.0 (sym c.begins.ensures ∙ c.if-not-begins.false) c.skip.ensures
      (listed_given (climb c.args.inner 1) _ _ (kinds c.skip.new.self.rest.now) _
      (sym c.begins_input.ensures ∙ c.if-begins_input.false) c.in_ok-given-2.ensures.read.0
      (listed_inputs _ _ _ c.listed-inputs.ensures c.tight-2.ensures))
      c.in_ok-component-2.ensures.tree,
  c.in_ok-component-2.ensures.measured,
)

pub named_inputs-returns-in_err-name-clause-read : goal.named_inputs-returns-in_err-name-clause-read
named_inputs-returns-in_err-name-clause-read g t c =
    exits _ _ _ _ _ _ c.from_residual.ensures.1
    (no_item c.loop.invariant.read (omega arith) _
    (stops_next _ _ _ c.in_err-name.ensures))

pub named_inputs-returns-in_err-item-clause-read : goal.named_inputs-returns-in_err-item-clause-read
named_inputs-returns-in_err-item-clause-read g t c =
    exits _ _ _ _ _ _ c.from_residual-in_err-item.ensures.1
    (no_item c.loop.invariant.read (omega arith) _
    (rw c.in_ok-name.ensures (stops_next _ _ _ c.in_err-item.ensures.read)))

pub named_inputs-returns-in_err-behind-clause-read :
    goal.named_inputs-returns-in_err-behind-clause-read
named_inputs-returns-in_err-behind-clause-read g t c =
    exits _ _ _ _ _ _ c.from_residual-in_err-behind.ensures.1
    (no_end c.loop.invariant.read (omega arith) _ _ _
    (one_value (climb c.args.room 1) (kinds c.loop.self.rest.now) _ _ _ _ c.in_ok-name.ensures
    c.in_ok-item.ensures.read.0)
    (sym c.begins.ensures ∙ c.if-begins.false) c.in_err-behind.ensures.1)

pub named_inputs-returns-else-begins-clause-read : goal.named_inputs-returns-else-begins-clause-read
named_inputs-returns-else-begins-clause-read g t c = (
  rw (c.in_ok-push.ensures.items, map-append, c.into_tree.ensures)
      (last_item c.loop.invariant.read (omega arith) _ _ _
      (one_value (climb c.args.room 1) (kinds c.loop.self.rest.now) _ _ _ _ c.in_ok-name.ensures
      c.in_ok-item.ensures.read.0)
      (sym c.begins.ensures ∙ c.if-begins.false) c.in_ok-behind.ensures),
  one_higher input_height _ _ _ _ _ c.in_ok-push.ensures.items c.loop.invariant.measured
      (rw (c.into_tree.ensures, ← c.in_ok-item.ensures.read.1) c.max-height.ensures)
      ∙ named_high c.push.new.self.items,
)

pub named_inputs-loop-preserved : goal.named_inputs-loop-preserved
named_inputs-loop-preserved g t c = record {
  read = rw (c.in_ok-push.ensures.items, map-append, c.into_tree.ensures, c.skip.ensures)
      (more_items c.loop.invariant.read (omega arith) _ _ _ (omega arith)
      (one_value (climb c.args.room 1) (kinds c.loop.self.rest.now) _ _ _ _ c.in_ok-name.ensures
      c.in_ok-item.ensures.read.0)
      (sym c.begins.ensures ∙ c.if-begins.true));
  measured =
      one_higher input_height c.loop.inputs.items _ _ c.loop.height _ c.in_ok-push.ensures.items
      c.loop.invariant.measured
      (rw (c.into_tree.ensures, ← c.in_ok-item.ensures.read.1) c.max-height.ensures);
  low = omega (arith, c.loop.invariant.low, c.in_ok-item.ensures.low, c.max-height.ensures);
}

pub named_inputs-returns-clause-read : goal.named_inputs-returns-clause-read
named_inputs-returns-clause-read g t c = no_item_left _ _ _ _ _ _ c.loop.invariant.read
    (omega arith)

pub list-returns-clause-read : goal.list-returns-clause-read
list-returns-clause-read g t c = no_item_left _ _ _ _ _ _ c.loop.invariant.read (omega arith)

pub named-returns-then-begins-clause-read : goal.named-returns-then-begins-clause-read
named-returns-then-begins-clause-read g t c =
    rw (sym c.begins.ensures ∙ c.if-begins.true, ← c.skip.ensures) c.call.ensures.read
