-- Making a board, and reading its last words
use Rattle.std.proofs.Common.{◌≡◌, ℕ, zero, suc, ◌+◌, ◌^◌, ◌<◌, List, [], ◌∷◌, ◌++◌, length, get_or}
use Rattle.std.proofs.Common.{take, sym, ◌∙◌, ap, subst, arith}
use mathlib.Core.Option.{some, some-injective, some-ne-none}
use lib.ListN.{get_elem?}
use Rattle.atomic_table.specs.Table as table
use Rattle.atomic_table.specs.Seated.{TableId}
use Rattle.flow_core.specs.Net.{Net, IsNet}
use Rattle.flow_core.specs.Flow.{Flow, IsFlow}
use Rattle.flow_core.specs.Events.{opening}
use Rattle.flow_board.specs.Shows.{Shows}
use Rattle.flow_board.specs.Views.{first}
use Rattle.flow_board.specs.Rule.{HasNumbers, Ruled}
use Rattle.flow_board.specs.Seats.{Stands}
use Rattle.flow_board.proofs.Ends.{begins}

pub elem_read : (xs : List ℕ) (i x : ℕ) → get_elem? xs i ≡ some x → get_or xs i 0 ≡ x
elem_read [] i x e = absurd (some-ne-none x (sym e))
elem_read (y ∷ xs) zero x e = some-injective y x e
elem_read (y ∷ xs) (suc i) x e = elem_read xs i x e

pub opens_board : (f : Flow) (n : Net) (ws : List ℕ) → f.net ≡ n → IsNet n → IsFlow f
    → n.strands < 4294967296 → HasNumbers f.start → Shows f (opening f) ws
    → Ruled f (table.opening ws [] (first f))
opens_board f n ws same ok flow small numbers shows = let N : Net
    → Type 0 = λ m. m.strands < 2 ^ 32 in
    begins f ws (subst N (sym same) small) (subst IsNet (sym same) ok) flow numbers shows

pub stands : (f : Flow) (n : Net) (cells strands : ℕ) (z : TableId) (ws : List ℕ) → f.net ≡ n
    → IsNet n → IsFlow f → cells ≡ n.cells → strands ≡ n.strands → cells < 4294967296
    → strands < 4294967296
    → Shows f (opening f) ws → z.words ≡ length ws → z.slots ≡ 0 → Stands f n cells strands z
stands f n cells strands z ws same ok flow c k c-small k-small shows words slots =
    let c-is : f.net.cells ≡ n.cells = ap (λ (m : Net). m.cells) same in
    let k-is : f.net.strands ≡ n.strands = ap (λ (m : Net). m.strands) same in record {
      same_net = same;
      net = subst IsNet (sym same) ok;
      flow = flow;
      narrow = omega arith;
      cells_narrow = omega arith;
      cells_are = omega arith;
      strands_are = omega arith;
      words_are = words ∙ shows.wide;
      slots_are = slots;
    }
