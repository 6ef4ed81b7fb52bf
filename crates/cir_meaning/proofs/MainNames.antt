-- A program that compiles has a name for each signal.
use Rattle.std.proofs.Common.{◌≡◌, ℕ, ◌+◌, ◌≤◌, ◌<◌, length, Ok, refl, sym, ap, subst, arith}
use Rattle.std.specs.Prelude.{codes}
use Rattle.cir_ast.specs.declared.program.Meant.{Meant}
use Rattle.cir_ast.specs.declared.program.Meant.TheVariants as meant
use Rattle.cir_ast.specs.Program.{Program, Main}
use Rattle.cir_meaning.specs.Scoped.{IsResolved}
use Rattle.cir_meaning.specs.Tried.{Tried, next}
use Rattle.cir_meaning.specs.Frame.{Signals, Outputs, PublicInputs, PrivateInputs, Others, World}
use Rattle.cir_meaning.specs.Frame.{at}
use Rattle.cir_meaning.specs.Evaluate.{arguments_in}
use Rattle.cir_meaning.specs.Bodies.{make_at, most_open}
use Rattle.cir_meaning.specs.Compile.{main_group, main_context, main_state, exec_main, the_main}
use Rattle.cir_meaning.specs.Compile.{Circuit, circuit_of, compiled_with}
use Rattle.cir_meaning.specs.RunBodies.{body_at}
use Rattle.cir_meaning.proofs.Good.{good_is}
use Rattle.cir_meaning.proofs.Likes.{Like, like_itself}
use Rattle.cir_meaning.proofs.FineBodies.{makes_fine}
use Rattle.cir_meaning.proofs.KnownCalls.{calls_keep}
use Rattle.cir_meaning.proofs.Creating.{arguments_like}
use Rattle.cir_meaning.proofs.ScanPoints.{next_to}
use Rattle.cir_meaning.proofs.DepthRuns.{makes_grow, bodies_run}
use Rattle.cir_meaning.proofs.CountingBodies.{all_few}
use Rattle.cir_meaning.proofs.RowCounts.{Counted, names_all, sizes_counted}
use Rattle.cir_meaning.proofs.MadeRows.{same_counted, template_counts, makes_count}
use Rattle.cir_meaning.proofs.MainRuns.{Executed, executed}

none_counted : Counted main_state.world
none_counted Outputs = omega arith
none_counted PublicInputs = omega arith
none_counted PrivateInputs = omega arith
none_counted Others = omega arith

main_counted : (p : Program) (resolved : IsResolved p) (size : ℕ) (m : Main) (t : ℕ)
    (signals : Signals) (after : World) → Executed p size m t signals after → Counted after
main_counted p resolved size m t signals after its =
    same_counted its.world after its.like.2 its.like.0
    (template_counts p resolved size 0 (make_at p size 255) (makes_fine p size 255)
    (makes_grow p resolved size 0 255) (makes_count p resolved size 0 255)
    (main_group m.public_names) (body_at p size 0 255) (bodies_run p resolved size 0 255)
    (at (main_context p size m) m.spot) t its.arguments (codes "main") its.state.world signals
    its.world its.made first)
  where
    like : Like main_state its.state
    like =
        good_is (λ x. Like main_state x.1)
        (arguments_in (main_context p size m) (at (main_context p size m) m.spot) m.arguments
        main_state)
        (its.arguments, its.state) its.evaluated
        (arguments_like (main_context p size m) (calls_keep p size most_open) main_state
        (at (main_context p size m) m.spot) m.arguments main_state (like_itself main_state))

    first : Counted its.state.world
    first =
        same_counted main_state.world its.state.world (ap (λ (v : World). v.rows) like.4)
        (ap (λ (v : World). v.sizes) like.4) none_counted

pub counted : (p : Program) (resolved : IsResolved p) (size : ℕ) (m : Main)
    (x : Signals × World) → exec_main p size m m.meant ≡ Ok x → Counted x.1
counted p resolved size m x e = by_meant m.meant refl
  where
    by_meant : (t : Meant) → m.meant ≡ t → Counted x.1
    by_meant (meant.Template t) same =
        let at_t : exec_main p size m (meant.Template t) ≡ Ok (x.0, x.1) =
        subst (λ y. exec_main p size m y ≡ Ok x) same e in
        main_counted p resolved size m t x.0 x.1 (executed p size m t x.0 x.1 at_t)
    by_meant meant.Other same =
        let no : exec_main p size m meant.Other ≡ Ok x =
        subst (λ y. exec_main p size m y ≡ Ok x) same e in cc
    by_meant (meant.Variable n) same =
        let no : exec_main p size m (meant.Variable n) ≡ Ok x =
        subst (λ y. exec_main p size m y ≡ Ok x) same e in cc
    by_meant (meant.Signal direction n) same =
        let no : exec_main p size m (meant.Signal direction n) ≡ Ok x =
        subst (λ y. exec_main p size m y ≡ Ok x) same e in cc
    by_meant (meant.Component n) same =
        let no : exec_main p size m (meant.Component n) ≡ Ok x =
        subst (λ y. exec_main p size m y ≡ Ok x) same e in cc
    by_meant (meant.Function n) same =
        let no : exec_main p size m (meant.Function n) ≡ Ok x =
        subst (λ y. exec_main p size m y ≡ Ok x) same e in cc

abbrev circuit : ℕ → Signals × World → Tried Circuit
circuit size x = Ok (circuit_of size x.1)

-- the limit of signals is one of names
pub few_names : (p : Program) (size : ℕ) (c : Circuit) → compiled_with size p ≡ Ok c
    → length c.names ≤ 1048575
few_names p size c e =
    let one : (m : Main) × (the_main p ≡ Ok m)
    × (next (exec_main p size m m.meant) (circuit size) ≡ Ok c) =
    next_to (the_main p) (λ m. next (exec_main p size m m.meant) (circuit size)) c e in
    let two : (x : Signals × World) × (exec_main p size one.0 one.0.meant ≡ Ok x)
    × (circuit size x ≡ Ok c) =
    next_to (exec_main p size one.0 one.0.meant) (circuit size) c one.2 in
    let is : circuit_of size two.0.1 ≡ c = cc in
    subst (λ (d : Circuit). length d.names ≤ 1048575) is
    (subst (λ (n : ℕ). n ≤ 1048575) (sym (names_all two.0.1.rows))
    (all_few p size one.0 one.0.meant two.0.0 two.0.1 two.1).signals)

-- few signals have few inputs among them
less_of : (n a b c d k : ℕ) → n ≡ a + (b + (c + d)) → n < k → b + c < k
less_of n a b c d k e h = omega arith

pub few_inputs : (p : Program) (resolved : IsResolved p) (size : ℕ) (c : Circuit)
    → compiled_with size p ≡ Ok c → size ≤ 1048576 → length c.names < size
    → c.public_inputs + c.private_inputs < size
few_inputs p resolved size c e top few =
    let one : (m : Main) × (the_main p ≡ Ok m)
    × (next (exec_main p size m m.meant) (circuit size) ≡ Ok c) =
    next_to (the_main p) (λ m. next (exec_main p size m m.meant) (circuit size)) c e in
    let two : (x : Signals × World) × (exec_main p size one.0 one.0.meant ≡ Ok x)
    × (circuit size x ≡ Ok c) =
    next_to (exec_main p size one.0 one.0.meant) (circuit size) c one.2 in
    let is : circuit_of size two.0.1 ≡ c = cc in
    subst (λ (d : Circuit). length d.names < size → d.public_inputs + d.private_inputs < size) is
    (λ less. less_of (length (circuit_of size two.0.1).names) two.0.1.sizes.outputs
    two.0.1.sizes.public_inputs two.0.1.sizes.private_inputs two.0.1.sizes.others size
    (sizes_counted two.0.1 size (counted p resolved size one.0 two.0 two.1) top less) less) few
