use Rattle.std.proofs.Common.{◌≡◌, ◌≤◌, ◌+◌, ◌-◌, ◌*◌, suc, [], length, map}
use Rattle.cir_token.specs.declared.token.Symbol.TheVariants.{CloseParenthesis}
use Rattle.cir_ast.specs.Height.{height_of, highest}
use Rattle.cir_expression.specs.Reading.{climb, chain, named_input, named_inputs_by, accessors_by}
use Rattle.cir_expression.specs.Combinators.{listed_to}
use Rattle.cir_expression.specs.Answers.{kinds, seen, seen_input}
use Rattle.cir_expression.proofs.Lists.{Onward, PathOnward, height_seen, accessor_height}
use Rattle.cir_expression.proofs.Lists.{input_height}
use Rattle.cir_expression.proofs.reader.Reader.+expressions.Given as goal

abbrev pub decreases-climb : goal.decreases-climb
decreases-climb g l = 8 * l.room

abbrev pub decreases-chain : goal.decreases-chain
decreases-chain g l = 8 * l.inner + 1

abbrev pub decreases-choice : goal.decreases-choice
decreases-choice g l = 8 * l.inner + 2

abbrev pub decreases-branches : goal.decreases-branches
decreases-branches g l = 8 * l.inner + 1

abbrev pub decreases-list : goal.decreases-list
decreases-list g l = 8 * l.room + 1

abbrev pub decreases-accessors : goal.decreases-accessors
decreases-accessors g l = 8 * l.room + 1

abbrev pub decreases-named_inputs : goal.decreases-named_inputs
decreases-named_inputs g l = 8 * l.room + 1

abbrev pub decreases-call : goal.decreases-call
decreases-call g l = 8 * l.inner + 3

abbrev pub decreases-enclosed_list : goal.decreases-enclosed_list
decreases-enclosed_list g l = 8 * l.room + 2

abbrev pub decreases-named : goal.decreases-named
decreases-named g l = 8 * l.inner + 4

abbrev pub decreases-grouped : goal.decreases-grouped
decreases-grouped g l = 8 * l.inner + 3

abbrev pub decreases-operand : goal.decreases-operand
decreases-operand g l = 8 * l.inner + 5

abbrev pub invariant-chain-loop : goal.invariant-chain-loop
invariant-chain-loop g l = record {
  read : chain (l.inner + 1) (climb l.inner) (l.inner + 1) l.level (seen l.fn.left.tree)
      (kinds l.fn.self.rest.now)
      ≡ chain (l.inner + 1 - l.counter) (climb l.inner) (l.inner + 1) l.level (seen l.left.tree)
      (kinds l.self.rest.now);
  measured : l.left.height ≡ height_of (seen l.left.tree);
  low : l.left.height ≤ l.inner + 1;
}

abbrev pub invariant-list-loop : goal.invariant-list-loop
invariant-list-loop g l = record {
  read : Onward l.close (climb l.room 1) (length l.fn.self.rest.now - l.counter)
      (map seen l.items.items) (kinds l.self.rest.now)
      (listed_to l.close (length (kinds l.fn.self.rest.now)) (climb l.room 1) []
      (kinds l.fn.self.rest.now));
  measured : l.height ≡ highest height_seen l.items.items;
  low : l.height ≤ l.room;
}

abbrev pub invariant-accessors-loop : goal.invariant-accessors-loop
invariant-accessors-loop g l = record {
  read : PathOnward (climb l.room 1) (length l.fn.self.rest.now + 1 - l.counter) l.accessors.items
      (kinds l.self.rest.now)
      (accessors_by (suc (length (kinds l.fn.self.rest.now))) (climb l.room 1) (λ a. a)
      (kinds l.fn.self.rest.now));
  measured : l.height ≡ highest accessor_height l.accessors.items;
  low : l.height ≤ l.room;
}

abbrev pub invariant-named_inputs-loop : goal.invariant-named_inputs-loop
invariant-named_inputs-loop g l = record {
  read : Onward CloseParenthesis (named_input (climb l.room 1))
      (length l.fn.self.rest.now - l.counter) (map seen_input l.inputs.items)
      (kinds l.self.rest.now) (named_inputs_by (climb l.room 1) (kinds l.fn.self.rest.now));
  measured : l.height ≡ highest input_height l.inputs.items;
  low : l.height ≤ l.room;
}
