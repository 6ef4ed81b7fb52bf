use Rattle.std.proofs.Common.{inl, sym, ◌∙◌, arith}
use Rattle.std.proofs.lemmas.Result.{IfOk-weaker}
use Rattle.std.proofs.lemmas.Bool.{false≢true}
use Rattle.wit_flow.specs.Draft.{CanClose}
use Rattle.wit_flow.proofs.Strands.{closes}
use Rattle.wit_flow.proofs.drafting.Draft.make_room.Goals as goal

pub returns : goal.returns
returns c =
    let a = c.args.self.now in let steps = c.args.steps.now in
    let can : CanClose steps a = record {
      some = let f = c.if-self-eq0.false in omega arith;
      ended = λ lt j. absurd (false≢true (sym c.if-joins.false ∙ c.joins.ensures.1 j));
    } in
    record {
      come = IfOk-weaker _ _ _ (λ _ is. closes steps a c.close.new.self c.requires.draft can is)
          c.close.ensures;
      room = IfOk-weaker _ _ _ (λ _ is. inl is.count) c.close.ensures;
    }
