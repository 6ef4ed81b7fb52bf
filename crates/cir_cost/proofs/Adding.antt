-- Costs one behind the other.
use Rattle.std.proofs.Common.{◌≡◌, ◌∙◌, ◌+◌, List, [], ◌∷◌, ◌++◌, ap, sym, arith, append_assoc}
use Rattle.std.proofs.Common.{append-nil}
use Rattle.std.specs.Prelude.{map}
use Rattle.std.specs.declared.vec.Vec.{Vec}
use Rattle.std.specs.declared.alloc.Global.{Global}
use Rattle.std.proofs.lemmas.List.{map-append}
use Rattle.cir_rules.specs.declared.made.Made.{Made}
use Rattle.cir_rules.specs.Shown.{made_of}
use Rattle.cir_meaning.specs.Limits.{standing}
use Rattle.cir_meaning.specs.Costs as M
use Rattle.cir_cost.specs.declared.cost.Cost.{Cost}
use Rattle.cir_cost.specs.declared.reads.Cell.{Cell}
use Rattle.cir_cost.specs.Adds.{Adds, IsCost, called_alone, cell_of, read_alone}

pub adds_both : (a b c : Cost) (x y : M.Cost) → Adds a b x → Adds b c y → Adds a c (M.both x y)
adds_both a b c x y h k = record {
  nodes =
      let first : standing b.nodes ≡ standing (a.nodes + x.nodes) = h.nodes in
      let second : standing c.nodes ≡ standing (b.nodes + y.nodes) = k.nodes in
      omega arith;
  reads =
      k.reads ∙ ap (λ list. list ++ y.reads) h.reads
      ∙ append_assoc (map cell_of a.reads.items) x.reads y.reads;
  calls =
      k.calls ∙ ap (λ list. list ++ y.calls) h.calls
      ∙ append_assoc (map made_of a.calls.items) x.calls y.calls;
}

pub adds_none : (a : Cost) → Adds a a (M.node 0)
adds_none a = record {
  nodes = omega arith;
  reads = sym (append-nil (map cell_of a.reads.items));
  calls = sym (append-nil (map made_of a.calls.items));
}

pub cost_both : (a b : Cost) (x y : M.Cost) → IsCost a x → Adds a b y → IsCost b (M.both x y)
cost_both a b x y h k = record {
  nodes =
      let first : standing a.nodes ≡ standing x.nodes = h.nodes in
      let second : standing b.nodes ≡ standing (a.nodes + y.nodes) = k.nodes in
      omega arith;
  reads = k.reads ∙ ap (λ list. list ++ y.reads) h.reads;
  calls = k.calls ∙ ap (λ list. list ++ y.calls) h.calls;
}

-- what is read, or a call, comes behind
pub adds_reads : (a : Cost) (reads : Vec Cell Global) (cells others : List M.Cell)
    → map cell_of reads.items ≡ map cell_of a.reads.items ++ cells → cells ≡ others
    → Adds a (record a { reads = reads }) (read_alone others)
adds_reads a reads cells others h e = record {
  nodes = omega arith;
  reads = h ∙ ap (λ list. map cell_of a.reads.items ++ list) e;
  calls = sym (append-nil (map made_of a.calls.items));
}

pub adds_call : (a : Cost) (calls : Vec Made Global) (made : Made) (c : M.Made)
    → calls.items ≡ a.calls.items ++ made ∷ [] → made_of made ≡ c
    → Adds a (record a { calls = calls }) (called_alone (c ∷ []))
adds_call a calls made c h e = record {
  nodes = omega arith;
  reads = sym (append-nil (map cell_of a.reads.items));
  calls =
      ap (map made_of) h ∙ map-append made_of a.calls.items (made ∷ [])
      ∙ ap (λ x. map made_of a.calls.items ++ x ∷ []) e;
}
